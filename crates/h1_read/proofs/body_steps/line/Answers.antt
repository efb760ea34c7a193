use Rattle.std.proofs.Common.{◌≡◌, ◌++◌, [], length, arith, subst, sym, refl}
use Rattle.h1_read.specs.Remaining as rest
use Rattle.h1_read.specs.Remaining.{GivesContent}
use Rattle.h1_read.proofs.BodyMoves.{line_awaits, line_goes_on}
use Rattle.h1_read.proofs.ChunkLines.{line_short}
use Rattle.h1_read.proofs.ChunkParts.{line_on}
use Rattle.h1_read.proofs.body_steps.line.Goals as goal

pub next_over-requires : goal.next_over-requires
next_over-requires c = omega (arith, c.len.ensures, line_short c.args.kept.now.items c.requires.begun)

pub returns-in_ok-extend_from_slice-in-On-clause-steps : goal.returns-in_ok-extend_from_slice-in-On-clause-steps
returns-in_ok-extend_from_slice-in-On-clause-steps c =
    let old = c.args.kept.now.items in
    let bytes = c.args.bytes.now in
    let kept : c.extend_from_slice.new.self.items ≡ old ++ bytes = c.in_ok-extend_from_slice-in-On.ensures.items in
    let on = line_on old bytes c.extend_from_slice.new.self.items c.args.place c.in-On.end c.requires.here c.in-On.ensures.0
    (omega (arith, c.len.ensures, c.in-On.ensures.1)) kept in
    (refl, subst (λ l. GivesContent (rest.Line old) bytes (length bytes) [] (rest.Line l)) (sym kept) (line_goes_on old bytes), line_awaits old bytes on.begun_still)

pub returns-in_ok-extend_from_slice-in-On-clause-begun : goal.returns-in_ok-extend_from_slice-in-On-clause-begun
returns-in_ok-extend_from_slice-in-On-clause-begun c =
    let on = line_on c.args.kept.now.items c.args.bytes.now c.extend_from_slice.new.self.items c.args.place c.in-On.end c.requires.here c.in-On.ensures.0
    (omega (arith, c.len.ensures, c.in-On.ensures.1)) c.in_ok-extend_from_slice-in-On.ensures.items in
    (on.begun, on.here)
