-- A frame's place, as the number of frames that stay before it.
use Rattle.std.proofs.Common.{arith, rules, ◌≡◌, ◌≤◌, ◌||◌, Bool, true, false, not, List, [], ◌∷◌, length, cond, tests, get_or, drop, add-one, ◌+◌, ◌<◌, zero, suc, ℕ, refl, ap, Result, Ok, Err}
use Rattle.std.specs.Result.{OnOk, OnErr}
use Rattle.std.specs.List.{list_any, insert}
use Rattle.std.proofs.lemmas.List.Folds.{list_any_at}
use Rattle.h2_model.specs.Queue.{Waiting, placed, goes_last, is_free, stays_behind}
use Rattle.h2_sender.specs.Places.{place_of}

-- whether a frame is passed on the way to the place
abbrev pub is_passed : Waiting → Waiting → List Waiting → Bool
is_passed x w queue = goes_last x || not (is_free w) || list_any (stays_behind x.frame) (w ∷ queue)

pub placed_is : (x : Waiting) (queue : List Waiting) → placed x queue ≡ insert queue (place_of x queue) x
placed_is x [] = refl
placed_is x (w ∷ queue) = by_test (is_passed x w queue) (placed_is x queue) where
  by_test : (passed : Bool) → placed x queue ≡ insert queue (place_of x queue) x → cond passed (w ∷ placed x queue) (x ∷ w ∷ queue) ≡ insert (w ∷ queue) (cond passed (suc (place_of x queue)) 0) x
  by_test true e = ap (λ (q : List Waiting). w ∷ q) e
  by_test false e = refl

pub place_within : (x : Waiting) (queue : List Waiting) → place_of x queue ≤ length queue
place_within x [] = omega arith
place_within x (w ∷ queue) = by_test (is_passed x w queue) (place_within x queue) where
  by_test : (passed : Bool) → place_of x queue ≤ length queue → cond passed (suc (place_of x queue)) 0 ≤ suc (length queue)
  by_test true h = omega arith
  by_test false h = omega arith

pub place_of_last : (x : Waiting) (queue : List Waiting) → goes_last x ≡ true → place_of x queue ≡ length queue
place_of_last x [] last = refl
place_of_last x (w ∷ queue) last =
    let e = place_of_last x queue last in
    let passed : is_passed x w queue ≡ true = rw last refl in
    rw passed (ap suc e)

-- behind a frame that x must stay behind
pub place_blocked : (x : Waiting) (queue : List Waiting) (i : ℕ) (d : Waiting) → i < length queue → stays_behind x.frame (get_or queue i d) ≡ true → place_of x queue ≡ i + 1 + place_of x (drop (i + 1) queue)
place_blocked x [] i d h blocks = absurd (omega arith)
place_blocked x (w ∷ queue) zero d h blocks =
    let passed : is_passed x w queue ≡ true = rw blocks (search (rules, tests)) in
    rw passed (omega arith)
place_blocked x (w ∷ queue) (suc i) d h blocks =
    let later : list_any (stays_behind x.frame) queue ≡ true = list_any_at (stays_behind x.frame) queue i d (omega arith) blocks in
    let passed : is_passed x w queue ≡ true = rw later (search (rules, tests)) in
    let rest = place_blocked x queue i d (omega arith) blocks in
    let behind : drop (suc i + 1) (w ∷ queue) ≡ drop (i + 1) queue = rw add-one (rw add-one refl) in
    rw passed (rw behind (omega arith))

-- what holds where a call succeeds, if it can't fail
pub ok_holds : {T E P Q : Type 0} (r : Result T E) → OnOk r P → OnErr r Q → (Q → ⊥) → P
ok_holds (Ok x) p q never = p
ok_holds (Err e) p q never = absurd (never q)
