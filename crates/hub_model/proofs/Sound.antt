-- In every history of a hub the view of each exchange is one that an exchange by itself may have.
use Rattle.std.proofs.Common.{sym, subst, inl, inr}
use Rattle.std.specs.Prelude.{ℕ, suc, zero, List, [], ◌∷◌, map}
use Rattle.h2_model.specs.History.{Open, called}
use Rattle.filter_model.specs.Config.{FilterConfig}
use Rattle.filter_model.specs.View.{Tick}
use Rattle.filter_model.specs.Step.{after}
use Rattle.filter_model.specs.Right.{GivenRight, Right}
use Rattle.filter_model.specs.declared.calls.Side.{Side}
use Rattle.filter_model.specs.declared.calls.Side.TheVariants.{Client, Upstream}
use Rattle.filter_model.proofs.RightAlong.{right_along}
use Rattle.hub_model.specs.HubCalls.{HubCall, HubConfig, place}
use Rattle.hub_model.specs.World.{World, Line, no_line, line, put, account_of, start}
use Rattle.hub_model.specs.Happens.{close, new_line, opened, world}
use Rattle.hub_model.specs.Allowed.{IsHubHistory}
use Rattle.hub_model.specs.HubRight.{RightGiven}
use Rattle.hub_model.proofs.Backed.{Backed, backed_nil, enter}
use Rattle.hub_model.proofs.Places.{set_at, append_or_same}
use Rattle.hub_model.proofs.Along.{Keeps, along}

abbrev pub Sound : HubConfig → World → Type 0
Sound c w = (k : ℕ) → Backed c.filter (line k w).view

put-sound : (c : HubConfig) (k : ℕ) (l : Line) (w : World) → Sound c w → Backed c.filter l.view → Sound c (put k l w)
put-sound c k l w s b j = elim (set_at w.lines k j l no_line) [
  | inl e ↦ subst (λ (x : Line). Backed c.filter x.view) (sym e.1) b
  | inr e ↦ subst (λ (x : Line). Backed c.filter x.view) (sym e) (s j)
]

ticks-backed : (c : FilterConfig) (ticks : List ℕ) → Backed c (map Tick ticks)
ticks-backed c [] = backed_nil c
ticks-backed c (t ∷ ticks) = enter c (map Tick ticks) (Tick t) (ticks-backed c ticks) tt

opened-sound : (c : HubConfig) (w : World) → Sound c w → Sound c (opened w)
opened-sound c w s k = elim (append_or_same w.lines k (new_line w) no_line) [
  | inl e ↦ subst (λ (x : Line). Backed c.filter x.view) (sym e) (ticks-backed c.filter w.ticks)
  | inr e ↦ subst (λ (x : Line). Backed c.filter x.view) (sym e) (s k)
]

close-sound : (c : HubConfig) (side : Side) (k : ℕ) (w : World) → Sound c w → Sound c (close side k w)
close-sound c Client k w s = put-sound c k _ w s (s k)
close-sound c Upstream k w s = put-sound c k _ w s (s k)

start-sound : (c : HubConfig) → Sound c start
unfolding start
start-sound c zero = backed_nil c.filter
start-sound c (suc k) = backed_nil c.filter

keeps-sound : (c : HubConfig) → Keeps c (Sound c)
keeps-sound c = record {
  begins = start-sound c;
  enters = λ k e w g s. put-sound c k _ w s (enter c.filter (line k w).view e (s k) g);
  streams = λ k w wanted can s. put-sound c k _ (record w { session = called Open w.session }) s (s k);
  finishes = λ k id e w d s. s;
  resets = λ k id e w d s. s;
  trims = λ id w there live o s. s;
  hears = λ e k w s. put-sound c k _ w s (s k);
  byte = λ b w s. s;
  hands = λ x w h o s. s;
  gives = λ n w h s. s;
  breaks = λ w s. s;
  counts = λ w s. s;
  ticks = λ now w s. s;
  opens = λ w s. opened-sound c w s;
  closes = λ side k w s. close-sound c side k w s;
}

pub sound : (c : HubConfig) (h : List HubCall) → IsHubHistory c h → Sound c (world c h)
sound c h i = along c (Sound c) (keeps-sound c) h i

-- so what an exchange by itself does right, each exchange of a hub does right

backed-right : (c : HubConfig) (l : Line) → Backed c.filter l.view → RightGiven c l
backed-right c l b =
    let r : Right c.filter b.calls = right_along c.filter b.calls b.history in
    let up : GivenRight c.filter (account_of c l) Upstream = subst (λ v. GivenRight c.filter (after c.filter v) Upstream) b.same r.upstream in
    let down : GivenRight c.filter (account_of c l) Client = subst (λ v. GivenRight c.filter (after c.filter v) Client) b.same r.client in
    record { upstream = up; client = down }

pub right_given : (c : HubConfig) (h : List HubCall) → IsHubHistory c h → (x : ℕ) → RightGiven c (line (place x) (world c h))
right_given c h i x = backed-right c (line (place x) (world c h)) (sound c h i (place x))
