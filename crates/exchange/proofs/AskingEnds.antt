-- Once every ask was given.
use Rattle.std.proofs.Common.{refl, sym, ◌∙◌, subst}
use Rattle.std.specs.Prelude.{ℕ, ◌≡◌, List, Option, Some, None}
use Rattle.filter_model.specs.Config.{FilterConfig}
use Rattle.filter_model.specs.Right.{Call, ask_due}
use Rattle.exchange.specs.Asking.{asked_by}
use Rattle.exchange.specs.Stands.{IsAfter}
use Rattle.exchange.specs.declared.exchange.Exchange.{Exchange}

none_of : (o : Option (List ℕ)) → ((bytes : List ℕ) → o ≡ Some bytes → ⊥) → o ≡ None
none_of None n = refl
none_of (Some bytes) n = absurd (n bytes refl)

pub asked_none : (c : FilterConfig) (h : List Call) (o : Option (List ℕ)) (x : Exchange) → ((bytes : List ℕ) → o ≡ Some bytes → ⊥) → IsAfter c (asked_by o h) x → IsAfter c h x
asked_none c h o x n s = subst (λ p. IsAfter c (asked_by p h) x) (none_of o n) s

pub due_now : (c : FilterConfig) (h : List Call) (o : Option (List ℕ)) → ((bytes : List ℕ) → o ≡ Some bytes → ⊥) → o ≡ ask_due c h → ask_due c h ≡ None
due_now c h o n e = sym e ∙ none_of o n
