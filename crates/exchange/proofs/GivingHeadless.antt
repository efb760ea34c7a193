-- Before its head is chosen no part of a message goes out.
use Rattle.std.proofs.Common.{sym, ◌∙◌, ap, inl, inr}
use Rattle.std.specs.Prelude.{ℕ, ◌≡◌, true, Option, Some, None}
use Rattle.http_model.specs.declared.types.Direction.{Direction}
use Rattle.http_model.specs.declared.types.Direction.TheVariants.{Response}
use Rattle.filter_model.specs.Account.{ExchangeAccount, course}
use Rattle.filter_model.specs.Config.{FilterConfig}
use Rattle.filter_model.specs.Course.{Course, Outgoing}
use Rattle.filter_model.specs.Half.{Past, becomes, parts, progress}
use Rattle.filter_model.specs.Half as half
use Rattle.filter_model.specs.HalfRight.{IsPast, framing_in}
use Rattle.filter_model.specs.Step.{is_live}
use Rattle.filter_model.proofs.Ended.{changed-head}
use Rattle.filter_model.proofs.HalfWritten.{IsGone, along}
use Rattle.exchange.specs.Stands.{FlowTies}
use Rattle.exchange.specs.declared.flow.Flow.{Flow}

no_parts : (p : Past) → IsPast p → (half.course p).head ≡ None → framing_in (parts p.steps) ≡ None
no_parts p y e = by (along p.config p.direction p.modes p.steps y).1
  where
    differs : (o : Outgoing) → None ≡ Some o → ⊥
    differs o k = cc

    by : IsGone p.direction (becomes p) (progress p).taken (parts p.steps) → framing_in (parts p.steps) ≡ None
    by (inl (u, w)) = u.framing
    by (inr g) = absurd (differs g.out (sym e ∙ changed-head p.config p.direction (half.course p) ∙ g.chosen))

pub no_head : (c : FilterConfig) (d : Direction) (g a : ExchangeAccount) (n : ℕ) (w : Option ℕ) (x : Flow) → (t : FlowTies c d g a n w x) → is_live a.fate ≡ true
    → (course d a).head ≡ None → framing_in t.story.flowed.parts ≡ None
no_head c d g a n w x t l e = ap framing_in t.stands.parts ∙ no_parts t.story.past t.stands.is_past (ap (λ (v : Course). v.head) (t.told l) ∙ e)

-- and its outlet knows of none
pub headless : (c : FilterConfig) (g a : ExchangeAccount) (n : ℕ) (w : Option ℕ) (x : Flow) → (t : FlowTies c Response g a n w x) → is_live a.fate ≡ true
    → (course Response a).head ≡ None → x.outlet.framing ≡ None
headless c g a n w x t l e = t.stands.outlet.framing ∙ no_head c Response g a n w x t l e
