-- Sums over the queue and over what is held, as frames enter and leave.
use Rattle.std.proofs.Common.{◌≡◌, ℕ, ◌+◌, ◌-◌, ◌≤◌, Bool, true, false, not, ◌||◌, ◌==◌, List, [], ◌∷◌, refl, sym, ◌∙◌, ap, if◌then◌else◌, filter, map, All, arith, sum_by, le_refl, length, nat_lt, drop}
use Rattle.std.specs.List.{list_any}
use Rattle.std.proofs.lemmas.List.Elements.{All-head, All-tail}
use Rattle.std.proofs.lemmas.List.Sums.{sum_by-cons}
use Rattle.std.proofs.lemmas.List.Filters.{sum_by-filter_both}
use Rattle.h2_frames.specs.declared.frame.Frame.{Frame}
use Rattle.h2_model.specs.Log.{stream_of}
use Rattle.h2_model.specs.Queue.{Waiting, fresh, entered, is_free_of, with_place, with_end_placed, is_reset_frame, behind}
use Rattle.h2_laws_log.proofs.Queues.{sum-placed, sum-all-placed}

-- A frame enters the queue, where its place is nothing to a count by the frame

sum-fixed : (m : Frame → ℕ) (xs : List Waiting) → sum_by (λ w. m w.frame) (map with_place xs) ≡ sum_by (λ w. m w.frame) xs
sum-fixed m [] = refl
sum-fixed m (x ∷ xs) =
    rw (sum_by-cons (λ w. m w.frame) (with_place x) (map with_place xs), sum_by-cons (λ w. m w.frame) x xs, sum-fixed m xs) refl

sum-end-placed : (m : Frame → ℕ) (id : ℕ) (queue : List Waiting)
    → sum_by (λ w. m w.frame) (with_end_placed id queue) ≡ sum_by (λ w. m w.frame) queue
sum-end-placed m id queue =
    sum-all-placed (λ w. m w.frame) (map with_place (filter (is_free_of id) queue)) (filter (λ w. not (is_free_of id w)) queue)
    ∙ ap (λ k. k + sum_by (λ w. m w.frame) (filter (λ w. not (is_free_of id w)) queue)) (sum-fixed m (filter (is_free_of id) queue))
    ∙ sum_by-filter_both (is_free_of id) (λ w. not (is_free_of id w)) (λ w. refl) (λ w. m w.frame) queue

pub sum-entered : (m : Frame → ℕ) (f : Frame) (queue : List Waiting)
    → sum_by (λ w. m w.frame) (entered f queue) ≡ m f + sum_by (λ w. m w.frame) queue
sum-entered m f queue =
    sum-placed (λ w. m w.frame) (fresh f) (if is_reset_frame f then with_end_placed (stream_of f) queue else queue)
    ∙ ap (λ k. m f + k) (by (is_reset_frame f))
  where
    by : (c : Bool) → sum_by (λ w. m w.frame) (if c then with_end_placed (stream_of f) queue else queue)
        ≡ sum_by (λ w. m w.frame) queue
    by true = sum-end-placed m (stream_of f) queue
    by false = refl

-- bytes that are taken leave no more frames
pub sum-behind : (m : Frame → ℕ) (n : ℕ) (queue : List Waiting)
    → sum_by (λ w. m w.frame) (behind n queue) ≤ sum_by (λ w. m w.frame) queue
sum-behind m n [] = le_refl 0
sum-behind m n (w ∷ queue) = by (n == 0) (nat_lt n (length w.left)) (sum-behind m (n - length w.left) queue)
  where
    begun : Waiting
    begun = record w { left = drop n w.left; fixed = true }

    by : (z c : Bool) → sum_by (λ w. m w.frame) (behind (n - length w.left) queue) ≤ sum_by (λ w. m w.frame) queue
        → sum_by (λ w. m w.frame) (if z then w ∷ queue else if c then begun ∷ queue else behind (n - length w.left) queue)
        ≤ sum_by (λ w. m w.frame) (w ∷ queue)
    by true c ih = le_refl (sum_by (λ w. m w.frame) (w ∷ queue))
    by false true ih = omega (arith, sum_by-cons (λ w. m w.frame) begun queue, sum_by-cons (λ w. m w.frame) w queue)
    by false false ih = omega (arith, ih, sum_by-cons (λ w. m w.frame) w queue)

-- Sums compared

pub sum-within : {X : Type 0} (f g : X → ℕ) (xs : List X) → All (λ x. f x ≤ g x) xs → sum_by f xs ≤ sum_by g xs
sum-within f g [] h = le_refl 0
sum-within f g (x ∷ xs) h =
    omega (arith, sum_by-cons f x xs, sum_by-cons g x xs, All-head (λ y. f y ≤ g y) x xs h, sum-within f g xs (All-tail (λ y. f y ≤ g y) x xs h))

pub sum-both : {X : Type 0} (f g : X → ℕ) (xs : List X) → sum_by (λ x. f x + g x) xs ≡ sum_by f xs + sum_by g xs
sum-both f g [] = refl
sum-both f g (x ∷ xs) =
    omega (arith, sum_by-cons (λ y. f y + g y) x xs, sum_by-cons f x xs, sum_by-cons g x xs, sum-both f g xs)

pub sum-nothing : {X : Type 0} (xs : List X) → sum_by (λ x. 0) xs ≡ 0
sum-nothing [] = refl
sum-nothing {X = X} (x ∷ xs) = omega (arith, sum_by-cons {X = X} (λ y. 0) x xs, sum-nothing xs)

-- a sum of sums, in either order
pub sum-swapped : {X Y : Type 0} (f : X → Y → ℕ) (xs : List X) (ys : List Y)
    → sum_by (λ x. sum_by (f x) ys) xs ≡ sum_by (λ y. sum_by (λ x. f x y) xs) ys
sum-swapped f xs [] = sum-nothing xs
sum-swapped {X = X} f xs (y ∷ ys) =
    same xs ∙ sum-both (λ x. f x y) (λ x. sum_by (f x) ys) xs
    ∙ ap (λ n. sum_by (λ x. f x y) xs + n) (sum-swapped f xs ys)
    ∙ sym (sum_by-cons (λ z. sum_by (λ x. f x z) xs) y ys)
  where
    same : (zs : List X) → sum_by (λ x. sum_by (f x) (y ∷ ys)) zs ≡ sum_by (λ x. f x y + sum_by (f x) ys) zs
    same [] = refl
    same (z ∷ zs) =
        sum_by-cons (λ x. sum_by (f x) (y ∷ ys)) z zs
        ∙ rw (sum_by-cons (f z) y ys, same zs) (sym (sum_by-cons (λ x. f x y + sum_by (f x) ys) z zs))

-- what no element has counts nothing
pub sum-none : {X : Type 0} (p : X → Bool) (f : X → ℕ) → ((x : X) → p x ≡ false → f x ≡ 0) → (xs : List X)
    → list_any p xs ≡ false → sum_by f xs ≡ 0
sum-none p f z [] e = refl
sum-none p f z (x ∷ xs) e = by (p x) refl e (sum-none p f z xs)
  where
    by : (c : Bool) → p x ≡ c → (c || list_any p xs) ≡ false → (list_any p xs ≡ false → sum_by f xs ≡ 0)
        → sum_by f (x ∷ xs) ≡ 0
    by true q e ih = absurd cc
    by false q e ih = omega (arith, sum_by-cons f x xs, z x q, ih e)
