use Rattle.std.proofs.Common.{◌+◌, length, take, ap, ◌∙◌, arith, length-take}
use Rattle.h1_read.specs.Limits.{section_seen}
use Rattle.h1_read.proofs.LimitedHead.{section_seen_fits, seen_taken}
use Rattle.h1_read.proofs.head.head_seen.Goals as goal

pub slice_bounds-result-end : goal.slice_bounds-result-end
slice_bounds-result-end c =
    let same = ap length (c.section_seen.ensures ∙ ap section_seen c.behind.ensures) in
    let fits = section_seen_fits c.args.front.now c.args.at c.requires in
    omega (arith, same, fits, length-take (c.args.at + length c.section_seen.result.now) c.args.front.now)

pub returns : goal.returns
returns c =
    ap (λ s. take (c.args.at + length s) c.args.front.now) (c.section_seen.ensures ∙ ap section_seen c.behind.ensures)
    ∙ seen_taken c.args.front.now c.args.at c.requires
