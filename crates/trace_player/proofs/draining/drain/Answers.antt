use Rattle.std.proofs.Common.{refl}
use Rattle.filter_model.specs.declared.calls.Taken.TheVariants as taken
use Rattle.trace_model.specs.Rounds.{gave}
use Rattle.trace_player.proofs.Given.{no_piece, piece_more}
use Rattle.trace_player.proofs.draining.drain.Goals as goal

pub returns-in-Nothing : goal.returns-in-Nothing
returns-in-Nothing c = λ k h a.
    let p = c.pieces.invariant k h a in
    let after = rw c.in-Nothing.is at c.in_ok-bytes.ensures.stands k (gave c.args.side p.0 h) p.2 in
    record { taking = record { pieces = p.0; last = taken.Nothing }; is_taking = record { short = p.1; ends = refl }; last = refl; some = p.4; got = p.3; after = after }

pub returns-in-Done : goal.returns-in-Done
returns-in-Done c = λ k h a.
    let p = c.pieces.invariant k h a in
    let after = rw c.in-Done.is at c.in_ok-bytes.ensures.stands k (gave c.args.side p.0 h) p.2 in
    record { taking = record { pieces = p.0; last = taken.Done }; is_taking = record { short = p.1; ends = refl }; last = refl; some = p.4; got = p.3; after = after }

pub returns-in-Abort : goal.returns-in-Abort
returns-in-Abort c = λ k h a.
    let p = c.pieces.invariant k h a in
    let after = rw c.in-Abort.is at c.in_ok-bytes.ensures.stands k (gave c.args.side p.0 h) p.2 in
    record { taking = record { pieces = p.0; last = taken.Abort }; is_taking = record { short = p.1; ends = refl }; last = refl; some = p.4; got = p.3; after = after }

pub returns-in-Gone : goal.returns-in-Gone
returns-in-Gone c = λ k h a.
    let p = c.pieces.invariant k h a in
    let after = rw c.in-Gone.is at c.in_ok-bytes.ensures.stands k (gave c.args.side p.0 h) p.2 in
    record { taking = record { pieces = p.0; last = taken.Gone }; is_taking = record { short = p.1; ends = refl }; last = refl; some = p.4; got = p.3; after = after }

pub pieces-preserved : goal.pieces-preserved
pieces-preserved c = λ k h a.
    let p = c.pieces.invariant k h a in
    let after = rw c.in-Piece.is at c.in_ok-bytes.ensures.stands k (gave c.args.side p.0 h) p.2 in
    let within = rw c.in-Piece.is at c.in_ok-bytes.ensures.within in
    let got = rw c.bytes-in-Piece.ensures.list at c.in_ok-extend_from_slice-in-Piece.ensures.items in
    piece_more k c.args.side h c.args.got.now.items c.pieces.got.items c.extend_from_slice.new.self.items c.pieces.some c.pieces.exchange c.take.new.self c.in-Piece.bytes p within after got

pub pieces-init : goal.pieces-init
pieces-init c = λ k h a. no_piece k c.args.side h c.args.got.now.items c.args.exchange.now a

pub take-requires-clause-stands : goal.take-requires-clause-stands
take-requires-clause-stands c =
    let (k, h, a, ready) = c.requires in
    let p = c.pieces.invariant k h a in
    (k, gave c.args.side p.0 h, p.2, tt)
