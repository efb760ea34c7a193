-- A call that isn't near an exchange leaves its view as it was.
use Rattle.std.proofs.Common.{sym, ◌∙◌, ap, ◌≢◌, inl, inr}
use Rattle.std.specs.Prelude.{ℕ, ◌≡◌, ◌<◌, ◌==◌, true, false, length, take, Option, Some, None, refl}
use Rattle.std.proofs.lemmas.Bool.{eqb-false}
use Rattle.std.proofs.Math.ListN.{get_or-append}
use Rattle.filter_model.specs.View.{ViewEntry, Bytes, End, Lost, Starved, Given}
use Rattle.filter_model.specs.declared.calls.Side.{Side}
use Rattle.filter_model.specs.declared.calls.Side.TheVariants.{Client, Upstream}
use Rattle.filter_model.specs.declared.calls.Taken.TheVariants.{Piece, Nothing, Done, Abort, Gone}
use Rattle.hub_model.specs.HubCalls.{HubCall, HubConfig, Opened, NotOpened, Fed, Ended, PortLost, Ticked, Took, Gave, Failed, port_of, side_of}
use Rattle.hub_model.specs.World.{World, Line, no_line, line, put}
use Rattle.hub_model.specs.Meeting.{meet}
use Rattle.hub_model.specs.Sending.{gave}
use Rattle.hub_model.specs.Happens.{close, happens, happens_at}
use Rattle.hub_model.specs.HubRight.{is_noise, noise_at}
use Rattle.hub_model.proofs.Places.{meet-other, set_at}

away : (j k : ℕ) → (j == k) ≡ false → k ≢ j
away j k e q = eqb-false j k e (sym q)

put-view : (k j : ℕ) (l : Line) (w : World) → l.view ≡ (line j w).view → (line k (put j l w)).view ≡ (line k w).view
put-view k j l w e = elim (set_at w.lines j k l no_line) [
  | inl p ↦ ap (λ (m : Line). m.view) p.1 ∙ e ∙ ap (λ i. (line i w).view) (sym p.0)
  | inr p ↦ ap (λ (m : Line). m.view) p
]

-- an answer that is a port's last changes no view
close-view : (side : Side) (j k : ℕ) (w : World) → (line k (close side j w)).view ≡ (line k w).view
close-view Client j k w = put-view k j (record (line j w) { client = true }) w refl
close-view Upstream j k w = put-view k j (record (line j w) { upstream = true }) w refl

meet-view : (c : HubConfig) (j k : ℕ) (e : ViewEntry) (w : World) → (j == k) ≡ false → (line k (meet c j e w)).view ≡ (line k w).view
meet-view c j k e w n = ap (λ (m : Line). m.view) (meet-other c j k e w (away j k n))

silent_at : (c : HubConfig) (x : HubCall) (p : Option (Side × ℕ)) (w : World) (k : ℕ) → k < length w.lines → noise_at k x p ≡ false
    → (line k (happens_at c x p w)).view ≡ (line k w).view
unfolding gave
silent_at c (Opened n) p w k h e = ap (λ (m : Line). m.view) (get_or-append w.lines _ no_line k h)
silent_at c (NotOpened fault) p w k h e = refl
silent_at c (Ticked now) p w k h e = absurd cc
silent_at c (Gave xs (Piece bytes)) p w k h e = absurd cc
silent_at c (Gave xs Nothing) p w k h e = refl
silent_at c (Gave xs Done) p w k h e = refl
silent_at c (Gave xs Abort) p w k h e = refl
silent_at c (Gave xs Gone) p w k h e = refl
silent_at c (Fed port bytes n) (Some p) w k h e = meet-view c p.1 k (Bytes p.0 (take n bytes)) w e
silent_at c (Ended port) (Some p) w k h e = meet-view c p.1 k (End p.0) w e
silent_at c (PortLost port how) (Some p) w k h e = close-view p.0 p.1 k (meet c p.1 (Lost p.0 how) w) ∙ meet-view c p.1 k (Lost p.0 how) w e
silent_at c (Took port (Piece bytes)) (Some p) w k h e = meet-view c p.1 k (Given p.0 bytes) w e
silent_at c (Took port Nothing) (Some p) w k h e = refl
silent_at c (Took port Gone) (Some p) w k h e = refl
silent_at c (Took port Done) (Some p) w k h e = close-view p.0 p.1 k w
silent_at c (Took port Abort) (Some p) w k h e = close-view p.0 p.1 k w
silent_at c (Failed port) (Some p) w k h e = meet-view c p.1 k Starved w e
silent_at c (Fed port bytes n) None w k h e = absurd cc
silent_at c (Ended port) None w k h e = absurd cc
silent_at c (PortLost port how) None w k h e = absurd cc
silent_at c (Took port t) None w k h e = refl
silent_at c (Failed port) None w k h e = absurd cc

pub silent : (c : HubConfig) (x : HubCall) (w : World) (k : ℕ) → k < length w.lines → is_noise k x ≡ false → (line k (happens c x w)).view ≡ (line k w).view
unfolding happens
silent c x w k h e = silent_at c x (side_of (port_of x)) w k h e
