-- What a seat shows between two calls.
use Rattle.std.proofs.Common.{◌≡◌, ℕ, List, [], ◌∷◌, Option, Some, refl, sym, ap, ◌∙◌, subst, ⊎_elim}
use Rattle.atomic_table.specs.Table.{Me}
use Rattle.turn_lock.specs.declared.entry.Entry.{Entry}
use Rattle.turn_lock.specs.declared.view.SeatNumber.{SeatNumber}
use Rattle.turn_lock.specs.declared.view.SeatNumber.TheVariants.{SplitFrom, Known, Joined}
use Rattle.turn_lock.specs.declared.view.Stage.{Stage}
use Rattle.turn_lock.specs.declared.view.Stage.TheVariants.{Idle, HasTurn}
use Rattle.turn_lock.specs.declared.view.SeatView.{SeatView}
use Rattle.turn_lock.specs.History.{IsLonger}
use Rattle.turn_lock.specs.Views.{IsKnown, IsIdle, IsNil, IsReady, number_in}

-- what was taken out of the slot is what the seat had there
pub slot_is : {K : Type 0} (l m n : List (ℕ × Option K)) (r : Option K) (k k' : K) → l ≡ (0, r) ∷ m → l ≡ (0, Some k) ∷ n → r ≡ Some k' → k' ≡ k
slot_is {K} l m n r k k' e h is = let a : ℕ × Option K = (0, r) in let b : ℕ × Option K = (0, Some k) in let p : a ≡ b = cc in
    let q : r ≡ Some k = ap (λ (x : ℕ × Option K). x.1) p in let same : Some k' ≡ Some k = sym is ∙ q in cc same

pub number_of_ready : (n : SeatNumber) → IsKnown n → n ≡ Known (number_in n)
number_of_ready (SplitFrom n) h = absurd h
number_of_ready (Known n) h = refl
number_of_ready Joined h = absurd h

pub idle_of_ready : {C R : Type 0} (st : Stage C R) → IsIdle st → st ≡ Idle
idle_of_ready Idle h = refl
idle_of_ready (HasTurn history) h = absurd h

pub nil_of_ready : {A : Type 0} (xs : List A) → IsNil xs → xs ≡ []
nil_of_ready [] h = refl
nil_of_ready (x ∷ xs) h = absurd h

pub ready : {C R S : Type 0} (m : Me S (SeatView C R)) (n : ℕ) → m.0.number ≡ Known n → m.0.stage ≡ Idle → m.1 ≡ [] → IsReady m
ready m n p i e = (subst IsKnown (sym p) tt, (subst IsIdle (sym i) tt, subst IsNil (sym e) tt))

pub keeps_ready : {C R S : Type 0} (m m' : Me S (SeatView C R)) → m'.0.number ≡ m.0.number → m'.0.stage ≡ m.0.stage → m'.1 ≡ m.1 → IsReady m → IsReady m'
keeps_ready m m' p i e h = (subst IsKnown (sym p) h.0, (subst IsIdle (sym i) h.1.0, subst IsNil (sym e) h.1.1))

pub keeps_stood : {T C R : Type 0} (stands : T → List (Entry C R) → Type 0) (f f' : List (Entry C R)) → f' ≡ f → ∥ ((v : T) × stands v f) ∥₁ → ∥ ((v : T) × stands v f') ∥₁
keeps_stood {T = T} {C = C} {R = R} stands f f' e h = subst (λ (l : List (Entry C R)). ∥ ((v : T) × stands v l) ∥₁) (sym e) h

pub stood_longer : {T C R : Type 0} (stands : T → List (Entry C R) → Type 0) (n m : ℕ) (a b c : List (Entry C R)) → IsLonger n m a b c → ∥ ((v : T) × stands v a) ∥₁ → ∥ ((v : T) × stands v b) ∥₁ → ∥ ((v : T) × stands v c) ∥₁
stood_longer {T = T} {C = C} {R = R} stands n m a b c l h k = let P : List (Entry C R) → Type 0 = λ x. ∥ ((v : T) × stands v x) ∥₁ in
    ⊎_elim (λ (e : c ≡ a). subst P (sym e) h) (λ (e : c ≡ b). subst P (sym e) k) l.either
