-- A part is cut off by its length.
use Rattle.std.proofs.Common.{take, ℕ, ap, ◌∙◌}
use Rattle.std.proofs.lemmas.List.{take_min}
use Rattle.h2_sender.proofs.block.part_at.Goals as goal

pub returns-clause-part : goal.returns-clause-part
returns-clause-part c =
    c.split_at-2.ensures.front
    ∙ ap (λ (n : ℕ). take n c.split_at.result.1.now) c.min.ensures
    ∙ take_min 16384 c.split_at.result.1.now
    ∙ ap (take 16384) c.split_at.ensures.back
