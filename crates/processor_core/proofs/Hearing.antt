-- All turns of one frame's DATA.
use Rattle.std.proofs.Common.{sym, ◌∙◌, ap}
use Rattle.std.specs.Prelude.{ℕ, ◌≡◌, Bool, List, [], ◌∷◌, drop, Option, Some, None}
use Rattle.processor_core.specs.Chosen.{AreSeated, Staged, Stands}
use Rattle.processor_core.specs.Calls.{ServedCall, Desk, Fate, Hears, Turns, going_on_with, heard, turn}

-- what comes of the bytes that are left comes of all
abbrev pub Onward : List ℕ → Bool → Desk → List ℕ → Desk → Type 0
Onward bytes ends d rest e = (fs : List Fate) (end : Desk) → heard fs rest ends e ≡ Some end → (all : List Fate) × (heard all bytes ends d ≡ Some end)

-- for any stages that are seated at first some are now, and reading goes on from there
abbrev pub ReadsOn : {X : Type 0} → Stands X → List (Option X) → ServedCall → List ℕ → Bool → List (Option X) → ServedCall → List ℕ → Type 0
ReadsOn stands seats c bytes ends seats' c' rest =
    (ss : List Staged) → AreSeated stands seats ss
    → (ss' : List Staged) × AreSeated stands seats' ss' × Onward bytes ends (record { stages = ss; call = c }) rest (record { stages = ss'; call = c' })

one_more : (f : Fate) (rest more : List ℕ) (ends : Bool) (e e' : Desk) (fs : List Fate) → (turn f rest ends e).left ≡ Some more → (turn f rest ends e).desk ≡ e'
    → heard (f ∷ fs) rest ends e ≡ heard fs more ends e'
unfolding heard
one_more f rest more ends e e' fs l d =
    ap (λ o. going_on_with o (turn f rest ends e).desk (λ bs x. heard fs bs ends x)) l ∙ ap (λ x. heard fs more ends x) d

the_last : (f : Fate) (rest : List ℕ) (ends : Bool) (e e' : Desk) → (turn f rest ends e).left ≡ None → (turn f rest ends e).desk ≡ e' → heard (f ∷ []) rest ends e ≡ Some e'
unfolding heard
the_last f rest ends e e' l d = ap (λ o. going_on_with o (turn f rest ends e).desk (λ bs x. heard [] bs ends x)) l ∙ ap Some d

module _ {X : Type 0} (stands : Stands X) where
  pub starts : (seats : List (Option X)) (c : ServedCall) (bytes : List ℕ) (ends : Bool) → ReadsOn stands seats c bytes ends seats c bytes
  starts seats c bytes ends ss s = (ss, s, λ fs end h. (fs, h))

  pub goes_on : (seats seats1 seats2 : List (Option X)) (c c1 c2 : ServedCall) (bytes rest more : List ℕ) (ends : Bool) (used : ℕ) → ReadsOn stands seats c bytes ends seats1 c1 rest
      → Turns stands seats1 c1 rest ends (Some used) seats2 c2 → more ≡ drop used rest → ReadsOn stands seats c bytes ends seats2 c2 more
  goes_on seats seats1 seats2 c c1 c2 bytes rest more ends used r t m ss s =
      let q = r ss s in
      let d : Desk = record { stages = q.0; call = c1 } in
      let v = t q.0 q.1 in
      let left : List Staged = (turn v.0 rest ends d).desk.stages in
      let e : Desk = record { stages = left; call = c2 } in
      (left, v.1, λ fs end h. q.2 (v.0 ∷ fs) end (one_more v.0 rest more ends d e fs (sym v.3 ∙ ap Some (sym m)) (ap (λ (k : ServedCall). record { stages = left; call = k }) (sym v.2)) ∙ h))

  pub comes_to_rest : (seats seats1 seats2 : List (Option X)) (c c1 c2 : ServedCall) (bytes rest : List ℕ) (ends : Bool) → ReadsOn stands seats c bytes ends seats1 c1 rest
      → Turns stands seats1 c1 rest ends None seats2 c2 → Hears stands seats c bytes ends seats2 c2
  comes_to_rest seats seats1 seats2 c c1 c2 bytes rest ends r t ss s =
      let q = r ss s in
      let d : Desk = record { stages = q.0; call = c1 } in
      let v = t q.0 q.1 in
      let left : List Staged = (turn v.0 rest ends d).desk.stages in
      let e : Desk = record { stages = left; call = c2 } in
      let z = q.2 (v.0 ∷ []) e (the_last v.0 rest ends d e (sym v.3) (ap (λ (k : ServedCall). record { stages = left; call = k }) (sym v.2))) in
      (z.0, left, v.1, z.1)
