use Rattle.std.proofs.Common.{rules, ◌∙◌}
use Rattle.std.proofs.lemmas.Fn.{filter_same}
use Rattle.header_mutation.specs.Names.{without}
use Rattle.header_mutation.proofs.change.remove.Goals as goal

pub returns : goal.returns
unfolding without
returns c =
    rw (← c.into_vec-fields.ensures)
    (c.from_vec.ensures ∙ filter_same _ _ _ (λ x b f' k. search rules) _ _ c.retain.ensures.filtered)
