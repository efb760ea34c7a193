use Rattle.std.proofs.Common.{rules, ℕ, Bool, not, ap, ◌∙◌}
use Rattle.std.specs.Prelude.{◌==◌, List, filter}
use Rattle.std.proofs.lemmas.Fn.{filter_same}
use Rattle.rule_book.proofs.given.Given.remove.Goals as goal

pub returns : goal.returns
returns c =
    let p : ℕ → Bool = λ (s : ℕ). not (s == c.args.stream) in
    filter_same _ p _ (λ x b f k. search rules) _ _ c.retain.ensures.filtered ∙ ap (λ (xs : List ℕ). filter p xs) c.self.view_is
