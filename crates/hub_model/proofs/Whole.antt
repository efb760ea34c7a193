-- Each exchange of a quiet hub is whole where all has arrived, since an exchange by itself is.
use Rattle.std.proofs.Common.{sym, subst, arith, inl, inr}
use Rattle.std.specs.Prelude.{ℕ, ◌≡◌, ◌<◌, ◌≤◌, ◌==◌, ◌&&◌, Bool, true, false, List, [], ◌∷◌, length, Option, Some, None, refl, if◌then◌else◌}
use Rattle.std.specs.List.{list_any}
use Rattle.std.proofs.lemmas.Bool.{and_parts, or_cases, eqb-true}
use Rattle.filter_model.specs.Step.{after}
use Rattle.filter_model.specs.Right.{MayTake}
use Rattle.filter_model.specs.declared.calls.Side.{Side}
use Rattle.filter_model.specs.declared.calls.Side.TheVariants.{Client, Upstream}
use Rattle.filter_model.specs.declared.calls.Taken.{Taken}
use Rattle.filter_model.specs.declared.calls.Taken.TheVariants.{Piece, Nothing, Done, Abort, Gone}
use Rattle.hub_model.specs.HubCalls.{HubCall, HubConfig, Opened, NotOpened, Fed, Ended, PortLost, Ticked, Took, Gave, Failed, place, port_of, side_of}
use Rattle.hub_model.specs.World.{World, line, account_of, is_live_at}
use Rattle.hub_model.specs.Happens.{happens, world}
use Rattle.hub_model.specs.Allowed.{IsHubHistory, MayAt, MayTakeAt, MayTakeIf}
use Rattle.hub_model.specs.HubRight.{WholeOf, is_noise, is_same_side, is_take, is_take_of_processor, noise_at, take_at, while_quiet}
use Rattle.hub_model.proofs.Sound.{sound}
use Rattle.hub_model.proofs.Places.{live_there}
use Rattle.hub_model.proofs.Long.{long}
use Rattle.hub_model.proofs.Quiet.{silent}
use Rattle.hub_model.proofs.WholeFrom.{Idle, whole_from}

-- a take of the side gave nothing, and what it said holds now
record Answered (c : HubConfig) (s : Side) (k : ℕ) (w : World) : Type 0 where
  there : k < length w.lines
  taken : Taken
  idle : Idle taken
  may : MayTake c.filter (account_of c (line k w)) s taken

false_not_true : {A : Type 0} → false ≡ true → A
false_not_true e = absurd cc

side_is : (s t : Side) → is_same_side s t ≡ true → t ≡ s
side_is Client Client e = refl
side_is Upstream Upstream e = refl
side_is Client Upstream e = false_not_true e
side_is Upstream Client e = false_not_true e

-- the call before a silent one
kept : (c : HubConfig) (s : Side) (k : ℕ) (x : HubCall) (w : World) → is_noise k x ≡ false → Answered c s k w → Answered c s k (happens c x w)
kept c s k x w n a =
    let e : (line k (happens c x w)).view ≡ (line k w).view = silent c x w k a.there n in
    let h : k < length w.lines = a.there in
    let g : length w.lines ≤ length (happens c x w).lines = long c x w in
    record {
      there = omega arith;
      taken = a.taken;
      idle = a.idle;
      may = subst (λ v. MayTake c.filter (after c.filter v) s a.taken) (sym e) a.may;
    }

by_live : (c : HubConfig) (s : Side) (k : ℕ) (t : Taken) (w : World) (b : Bool) → is_live_at k w ≡ b → Idle t → MayTakeIf c s k t w b → Answered c s k w
by_live c s k t w true o i m = record { there = live_there k w o; taken = t; idle = i; may = m }
by_live c s k t w false o i m = absurd (subst Idle m i)

here : (c : HubConfig) (s : Side) (k : ℕ) (t : Taken) (p : Side × ℕ) (w : World) → (is_same_side s p.0 && (p.1 == k)) ≡ true → Idle t → MayTakeAt c p.0 p.1 t w → Answered c s k w
here c s k t p w e i m =
    let both : (is_same_side s p.0 ≡ true) × ((p.1 == k) ≡ true) = and_parts (is_same_side s p.0) (p.1 == k) e in
    let own : Answered c p.0 p.1 w = by_live c p.0 p.1 t w (is_live_at p.1 w) refl i m in
    subst (λ (j : ℕ). Answered c s j w) (eqb-true p.1 k both.1) (subst (λ (z : Side). Answered c z p.1 w) (side_is s p.0 both.0) own)

first_take : (c : HubConfig) (s : Side) (k : ℕ) (x : HubCall) (p : Option (Side × ℕ)) (w : World) → take_at s k x p ≡ true → noise_at k x p ≡ false → MayAt c x p w
    → Answered c s k w
first_take c s k (Took q (Piece bytes)) (Some p) w e n m = absurd (both_ways (p.1 == k) n (and_parts (is_same_side s p.0) (p.1 == k) e).1)
  where
    both_ways : (b : Bool) → b ≡ false → b ≡ true → ⊥
    both_ways b f t = cc
first_take c s k (Took q Nothing) (Some p) w e n m = here c s k Nothing p w e tt m
first_take c s k (Took q Done) (Some p) w e n m = here c s k Done p w e tt m
first_take c s k (Took q Abort) (Some p) w e n m = here c s k Abort p w e tt m
first_take c s k (Took q Gone) p w e n m = false_not_true e
first_take c s k (Took q (Piece bytes)) None w e n m = false_not_true e
first_take c s k (Took q Nothing) None w e n m = false_not_true e
first_take c s k (Took q Done) None w e n m = false_not_true e
first_take c s k (Took q Abort) None w e n m = false_not_true e
first_take c s k (Opened y) p w e n m = false_not_true e
first_take c s k (NotOpened y) p w e n m = false_not_true e
first_take c s k (Fed q bytes y) p w e n m = false_not_true e
first_take c s k (Ended q) p w e n m = false_not_true e
first_take c s k (PortLost q how) p w e n m = false_not_true e
first_take c s k (Ticked now) p w e n m = false_not_true e
first_take c s k (Gave xs t) p w e n m = false_not_true e
first_take c s k (Failed q) p w e n m = false_not_true e

-- the newest call is the take, or it is further back
answered_by : (c : HubConfig) (s : Side) (k : ℕ) (x : HubCall) (h : List HubCall) → IsHubHistory c (x ∷ h) → (list_any (is_take s k) (while_quiet k h) ≡ true → Answered c s k (world c h))
    → (b : Bool) → is_noise k x ≡ b → list_any (is_take s k) (if b then [] else x ∷ while_quiet k h) ≡ true → Answered c s k (world c (x ∷ h))
unfolding world
answered_by c s k x h i back true n f = false_not_true f
answered_by c s k x h i back false n f =
    let w : World = world c h in
    kept c s k x w n (elim (or_cases (is_take s k x) (list_any (is_take s k) (while_quiet k h)) f) [
      | inl e ↦ first_take c s k x (side_of (port_of x)) w e n i.1
      | inr e ↦ back e
    ])

answered : (c : HubConfig) (s : Side) (k : ℕ) (h : List HubCall) → IsHubHistory c h → list_any (is_take s k) (while_quiet k h) ≡ true → Answered c s k (world c h)
answered c s k [] i e = false_not_true e
answered c s k (x ∷ h) i e = answered_by c s k x h i (answered c s k h i.0) (is_noise k x) refl e

three : (a b d : Bool) → (a && b && d) ≡ true → (a ≡ true) × (b ≡ true)
three true true d e = (refl, refl)
three true false d e = false_not_true e
three false b d e = false_not_true e

pub whole : (c : HubConfig) (h : List HubCall) → IsHubHistory c h → (x : ℕ) → WholeOf c x h
whole c h i x quiet arrived =
    let k : ℕ = place x in
    let last : List HubCall = while_quiet k h in
    let both : (list_any (is_take Client k) last ≡ true) × (list_any (is_take Upstream k) last ≡ true) =
    three (list_any (is_take Client k) last) (list_any (is_take Upstream k) last) (list_any is_take_of_processor last) quiet in
    let a : Answered c Client k (world c h) = answered c Client k h i both.0 in
    let b : Answered c Upstream k (world c h) = answered c Upstream k h i both.1 in
    whole_from c.filter (line k (world c h)).view (sound c h i k) a.taken b.taken a.idle b.idle a.may b.may arrived
