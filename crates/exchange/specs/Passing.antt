-- A cut that lets the rest of an exchange pass.
use Rattle.std.specs.Prelude.{ℕ, ◌≡◌, true, List, [], ◌∷◌, Bool}
use Rattle.http_model.specs.declared.types.Direction.{Direction}
use Rattle.filter_model.specs.Config.{FilterConfig}
use Rattle.filter_model.specs.Account.{ExchangeAccount, course, flow}
use Rattle.filter_model.specs.Half.{Release}
use Rattle.filter_model.specs.Step.{is_live}
use Rattle.filter_model.specs.Told.{known, told}
use Rattle.filter_model.specs.ToldMore.{SameRest}
use Rattle.exchange.specs.Stands.{AtRest}
use Rattle.exchange.specs.declared.exchange.Exchange.{Exchange}

-- the halves are told a release, and nothing else changes
pub record PassesTo (c : FilterConfig) (a b : ExchangeAccount) : Type 0 where
  pub live : is_live a.fate ≡ true
  pub told : (d : Direction) → known (course d b) ≡ told c.course d (Release ∷ []) (known (course d a))
  pub timer : (d : Direction) → ((flow d b).deadline ≡ (flow d a).deadline) × ((flow d b).extended ≡ (flow d a).extended)
  pub rest : SameRest a b
  pub made : b.made ≡ a.made
  pub fate : b.fate ≡ a.fate
  pub ending : b.ending ≡ a.ending

-- both halves stand for some past
abbrev pub Passable : Exchange → Type 0
Passable x = (c : FilterConfig) × (a : ExchangeAccount) × (n : ℕ) × (ends : List Bool) × AtRest c a n ends x
