-- What a side is given, by what ended the exchange.
use Rattle.std.proofs.Common.{refl, sym, ◌∙◌, ap, subst}
use Rattle.std.specs.Prelude.{◌≡◌, Bool, true, false, List, ◌∷◌}
use Rattle.http_model.specs.declared.types.Direction.TheVariants.{Request}
use Rattle.filter_model.specs.Account.{ExchangeAccount, Fate, Live, Left, Replied, Aborted, is_given, to}
use Rattle.filter_model.specs.Config.{FilterConfig}
use Rattle.filter_model.specs.Right.{Call, Took, MayTake, account, is_aborted, is_aborted_at, is_done, is_done_at}
use Rattle.filter_model.specs.declared.calls.Side.{Side}
use Rattle.filter_model.specs.declared.calls.Side.TheVariants.{Client, Upstream}
use Rattle.filter_model.specs.declared.calls.Taken.{Taken}
use Rattle.exchange.specs.Giving.{done_if}
use Rattle.exchange.specs.Stands.{IsAfter, IsFate, IsGivenBy, IsReplied}
use Rattle.exchange.specs.declared.exchange.Exchange.{Exchange}
use Rattle.exchange.specs.declared.fate.Fate.{Fate as FateNow}
use Rattle.exchange.specs.declared.fate.Fate.TheVariants as fate
use Rattle.exchange.specs.declared.fate.GivenWhole.{GivenWhole}

pub lives : (c : FilterConfig) (a : ExchangeAccount) (f : Fate) (x : FateNow) → IsFate c a f x → x ≡ fate.Live → f ≡ Live
lives c a f x t e = by f (subst (IsFate c a f) e t)
  where
    by : (f : Fate) → IsFate c a f fate.Live → f ≡ Live
    by Live t = refl
    by Left t = absurd t
    by (Replied r) t = absurd t
    by Aborted t = absurd t

left : (c : FilterConfig) (a : ExchangeAccount) (f : Fate) (x : FateNow) → IsFate c a f x → x ≡ fate.Left → f ≡ Left
left c a f x t e = by f (subst (IsFate c a f) e t)
  where
    by : (f : Fate) → IsFate c a f fate.Left → f ≡ Left
    by Live t = absurd t
    by Left t = refl
    by (Replied r) t = absurd t
    by Aborted t = absurd t

pub replied : (c : FilterConfig) (a : ExchangeAccount) (f : Fate) (x : FateNow) (g : GivenWhole) → IsFate c a f x → x ≡ fate.Replied g → IsReplied f × IsGivenBy c a g
replied c a f x g t e = by f (subst (IsFate c a f) e t)
  where
    by : (f : Fate) → IsFate c a f (fate.Replied g) → IsReplied f × IsGivenBy c a g
    by Live t = absurd t
    by Left t = absurd t
    by (Replied r) t = (tt, t)
    by Aborted t = absurd t

aborted : (c : FilterConfig) (a : ExchangeAccount) (f : Fate) (x : FateNow) (g : GivenWhole) → IsFate c a f x → x ≡ fate.Aborted g → (f ≡ Aborted) × IsGivenBy c a g
aborted c a f x g t e = by f (subst (IsFate c a f) e t)
  where
    by : (f : Fate) → IsFate c a f (fate.Aborted g) → (f ≡ Aborted) × IsGivenBy c a g
    by Live t = absurd t
    by Left t = absurd t
    by (Replied r) t = absurd t
    by Aborted t = (refl, t)

-- A side that gets no bytes any more

over_may : (c : FilterConfig) (a : ExchangeAccount) (s : Side) (b : Bool) → is_done c a s ≡ b → is_aborted a s ≡ true → MayTake c a s (done_if b)
over_may c a s true e k = e
over_may c a s false e k = (e, k)

pub left_may : (c : FilterConfig) (a : ExchangeAccount) (s : Side) (x : FateNow) → IsFate c a a.fate x → x ≡ fate.Left → is_done c a s ≡ true
left_may c a s x t e = ap (is_done_at c a s) (left c a a.fate x t e)

pub replied_may : (c : FilterConfig) (a : ExchangeAccount) (x : FateNow) (g : GivenWhole) → IsFate c a a.fate x → x ≡ fate.Replied g → MayTake c a Upstream (done_if g.request)
replied_may c a x g t e =
    let k = replied c a a.fate x g t e in
    over_may c a Upstream g.request (done a.fate k.0 ∙ sym k.1.request) (cut a.fate k.0)
  where
    done : (f : Fate) → IsReplied f → is_done_at c a Upstream f ≡ is_given c a Request
    done Live r = absurd r
    done Left r = absurd r
    done (Replied reply) r = refl
    done Aborted r = absurd r

    cut : (f : Fate) → IsReplied f → is_aborted_at Upstream f ≡ true
    cut Live r = absurd r
    cut Left r = absurd r
    cut (Replied reply) r = refl
    cut Aborted r = absurd r

aborted_to : (c : FilterConfig) (a : ExchangeAccount) (s : Side) (b : Bool) → a.fate ≡ Aborted → b ≡ is_given c a (to s) → MayTake c a s (done_if b)
aborted_to c a s b f e = over_may c a s b (ap (is_done_at c a s) f ∙ sym e) (ap (is_aborted_at s) f)

pub aborted_client : (c : FilterConfig) (a : ExchangeAccount) (x : FateNow) (g : GivenWhole) → IsFate c a a.fate x → x ≡ fate.Aborted g → MayTake c a Client (done_if g.response)
aborted_client c a x g t e = let k = aborted c a a.fate x g t e in aborted_to c a Client g.response k.0 k.1.response

pub aborted_upstream : (c : FilterConfig) (a : ExchangeAccount) (x : FateNow) (g : GivenWhole) → IsFate c a a.fate x → x ≡ fate.Aborted g → MayTake c a Upstream (done_if g.request)
aborted_upstream c a x g t e = let k = aborted c a a.fate x g t e in aborted_to c a Upstream g.request k.0 k.1.request

-- what the call gives

pub may_over : (c : FilterConfig) (a : ExchangeAccount) (side s : Side) (b : Bool) (t : Taken) → side ≡ s → t ≡ done_if b → MayTake c a s (done_if b) → MayTake c a side t
may_over c a side s b t e k m = subst (λ z. MayTake c a z t) (sym e) (subst (MayTake c a s) (sym k) m)

pub took_over : (c : FilterConfig) (h : List Call) (side s : Side) (b : Bool) (t : Taken) (x : Exchange) → side ≡ s → t ≡ done_if b → IsAfter c h x → MayTake c (account c h) s (done_if b)
    → IsAfter c (Took side t ∷ h) x
took_over c h side s b t x e k y m = subst (λ z. IsAfter c (Took z t ∷ h) x) (sym e) (subst (λ z. IsAfter c (Took s z ∷ h) x) (sym k) (by b m))
  where
    by : (b : Bool) → MayTake c (account c h) s (done_if b) → IsAfter c (Took s (done_if b) ∷ h) x
    by true m = record { right = (y.right, m); made = y.made; ties = y.ties }
    by false m = record { right = (y.right, m); made = y.made; ties = y.ties }
