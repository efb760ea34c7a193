-- Queues and tables: how the closing frames, the frames and the credits of a list change together.
use Rattle.std.proofs.Common.{◌≡◌, ℕ, ◌+◌, ◌-◌, ◌*◌, ◌≤◌, Bool, true, false, ◌==◌, List, [], ◌∷◌, Option, Some, None, refl, sym, ◌∙◌, ap, if◌then◌else◌, filter, filter_map, length, sum_by, arith, le_refl, nat_lt, drop}
use Rattle.std.specs.List.{cons_option}
use Rattle.std.proofs.lemmas.List.Sums.{sum_by-cons}
use Rattle.h2_frames.specs.declared.frame.Frame.{Frame}
use Rattle.h2_frames.specs.declared.frame.Frame.TheVariants as frame
use Rattle.h2_model.specs.declared.stream.Stream.{Stream}
use Rattle.h2_model.specs.Queue.{Waiting, entered, behind}
use Rattle.h2_model.specs.Moves.{adjust, adjusted}
use Rattle.h2_model.specs.State.{found}
use Rattle.h2_laws_log.specs.Rooms.{one_if, closing, closings_waiting, credit, credits}
use Rattle.h2_laws_log.proofs.RoomSums.{sum-entered, sum-behind}

-- Frames

pub one-at-most : (f : Frame) → closing f ≤ 1
one-at-most (frame.Data id bytes last size) = by last
  where
    by : (b : Bool) → one_if b ≤ 1
    by true = omega arith
    by false = omega arith
one-at-most (frame.Reset id code) = omega arith
one-at-most f = omega arith

count-is-sum : {X : Type 0} (xs : List X) → sum_by (λ x. 1) xs ≡ length xs
count-is-sum [] = refl
count-is-sum {X = X} (x ∷ xs) = omega (arith, sum_by-cons {X = X} (λ y. 1) x xs, count-is-sum xs)

pub length-entered : (f : Frame) (queue : List Waiting) → length (entered f queue) ≡ 1 + length queue
length-entered f queue = sym (count-is-sum (entered f queue)) ∙ sum-entered (λ g. 1) f queue ∙ ap (λ n. 1 + n) (count-is-sum queue)

pub length-behind : (n : ℕ) (queue : List Waiting) → length (behind n queue) ≤ length queue
length-behind n queue = omega (arith, count-is-sum (behind n queue), count-is-sum queue, sum-behind (λ g. 1) n queue)

-- what a filter drops closes no more than it counts
pub closings-filtered : {X : Type 0} (p : X → Bool) (m : X → ℕ) → ((x : X) → m x ≤ 1) → (xs : List X)
    → sum_by m xs + length (filter p xs) ≤ sum_by m (filter p xs) + length xs
closings-filtered p m h [] = le_refl 0
closings-filtered p m h (x ∷ xs) = by (p x) (closings-filtered p m h xs)
  where
    by : (c : Bool) → sum_by m xs + length (filter p xs) ≤ sum_by m (filter p xs) + length xs
        → sum_by m (x ∷ xs) + length (if c then x ∷ filter p xs else filter p xs)
        ≤ sum_by m (if c then x ∷ filter p xs else filter p xs) + length (x ∷ xs)
    by true ih = omega (arith, ih, sum_by-cons m x xs, sum_by-cons m x (filter p xs))
    by false ih = omega (arith, ih, sum_by-cons m x xs, h x)

pub length-filtered : {X : Type 0} (p : X → Bool) (xs : List X) → length (filter p xs) ≤ length xs
length-filtered p [] = le_refl 0
length-filtered p (x ∷ xs) = by (p x) (length-filtered p xs)
  where
    by : (c : Bool) → length (filter p xs) ≤ length xs → length (if c then x ∷ filter p xs else filter p xs) ≤ length (x ∷ xs)
    by true ih = omega (arith, ih)
    by false ih = omega (arith, ih)

-- frames that leave at the front close no more than they count
pub closings-behind : (n : ℕ) (queue : List Waiting)
    → closings_waiting queue + length (behind n queue) ≤ closings_waiting (behind n queue) + length queue
closings-behind n [] = le_refl 0
closings-behind n (w ∷ queue) = by (n == 0) (nat_lt n (length w.left)) (closings-behind (n - length w.left) queue)
  where
    begun : Waiting
    begun = record w { left = drop n w.left; fixed = true }

    by : (z c : Bool)
        → closings_waiting queue + length (behind (n - length w.left) queue)
        ≤ closings_waiting (behind (n - length w.left) queue) + length queue
        → closings_waiting (w ∷ queue)
        + length (if z then w ∷ queue else if c then begun ∷ queue else behind (n - length w.left) queue)
        ≤ closings_waiting (if z then w ∷ queue else if c then begun ∷ queue else behind (n - length w.left) queue)
        + length (w ∷ queue)
    by true c ih = le_refl (closings_waiting (w ∷ queue) + length (w ∷ queue))
    by false true ih = omega (
      arith,
      sum_by-cons (λ x. closing x.frame) w queue,
      sum_by-cons (λ x. closing x.frame) begun queue,
    )
    by false false ih = omega (arith, ih, sum_by-cons (λ x. closing x.frame) w queue, one-at-most w.frame)

-- Streams

-- the credit that is left of a stream
abbrev pub left_of : Option Stream → ℕ
left_of None = 0
left_of (Some s) = credit s

pub credit-some : (s : Stream) → 1 ≤ credit s
credit-some s = by s.here_ended
  where
    by : (h : Bool) → 1 ≤ (if h then 1 else 2)
    by true = omega arith
    by false = omega arith

pub credits-twice : (xs : List Stream) → credits xs ≤ 2 * length xs
credits-twice [] = le_refl 0
credits-twice (s ∷ xs) = omega (arith, by s.here_ended, sum_by-cons credit s xs, credits-twice xs)
  where
    by : (h : Bool) → (if h then 1 else 2) ≤ 2
    by true = omega arith
    by false = omega arith

pub credits-some : (o : Option Stream) (xs : List Stream) → credits (cons_option o xs) ≡ left_of o + credits xs
credits-some None xs = omega arith
credits-some (Some s) xs = sum_by-cons credit s xs

-- no stream gets more
pub credits-moved : (g : Stream → Option Stream) → ((s : Stream) → left_of (g s) ≤ credit s) → (xs : List Stream)
    → credits (filter_map g xs) ≤ credits xs
credits-moved g h [] = le_refl 0
credits-moved g h (s ∷ xs) =
    omega (arith, credits-some (g s) (filter_map g xs), sum_by-cons credit s xs, h s, credits-moved g h xs)

adjust-left : (id : ℕ) (f : Stream → Option Stream) → ((s : Stream) → left_of (f s) ≤ credit s) → (s : Stream)
    → left_of (adjust id f s) ≤ credit s
adjust-left id f h s = by (s.id == id)
  where
    by : (c : Bool) → left_of (if c then f s else Some s) ≤ credit s
    by true = h s
    by false = le_refl (credit s)

pub credits-adjusted : (id : ℕ) (f : Stream → Option Stream) → ((s : Stream) → left_of (f s) ≤ credit s) → (xs : List Stream)
    → credits (adjusted id f xs) ≤ credits xs
credits-adjusted id f h xs = credits-moved (adjust id f) (adjust-left id f h) xs

-- the stream that changes has one less
pub credits-spent : (id : ℕ) (f : Stream → Option Stream) → ((s : Stream) → left_of (f s) ≤ credit s) → (t : Stream)
    → left_of (f t) + 1 ≤ credit t → (xs : List Stream) → found id xs ≡ Some t → credits (adjusted id f xs) + 1 ≤ credits xs
credits-spent id f h t l [] e = absurd cc
credits-spent id f h t l (s ∷ xs) e = by (s.id == id) refl e (credits-spent id f h t l xs)
  where
    by : (c : Bool) → (s.id == id) ≡ c → (if c then Some s else found id xs) ≡ Some t
        → (found id xs ≡ Some t → credits (adjusted id f xs) + 1 ≤ credits xs)
        → credits (adjusted id f (s ∷ xs)) + 1 ≤ credits (s ∷ xs)
    by true q e ih =
        let same : s ≡ t = cc in
        rw q (omega (
          arith,
          credits-some (f s) (adjusted id f xs),
          sum_by-cons credit s xs,
          credits-adjusted id f h xs,
          rw (← same) at l,
        ))
    by false q e ih = rw q (omega (
      arith,
      sum_by-cons credit s (adjusted id f xs),
      sum_by-cons credit s xs,
      ih e,
    ))

-- a stream that is there has a credit
pub credits-found : (id : ℕ) (t : Stream) (xs : List Stream) → found id xs ≡ Some t → credit t ≤ credits xs
credits-found id t [] e = absurd cc
credits-found id t (s ∷ xs) e = by (s.id == id) e (credits-found id t xs)
  where
    by : (c : Bool) → (if c then Some s else found id xs) ≡ Some t → (found id xs ≡ Some t → credit t ≤ credits xs)
        → credit t ≤ credits (s ∷ xs)
    by true e ih = let same : s ≡ t = cc in omega (arith, sum_by-cons credit s xs, ap credit same)
    by false e ih = omega (arith, sum_by-cons credit s xs, ih e)

pub length-moved : (g : Stream → Option Stream) (xs : List Stream) → length (filter_map g xs) ≤ length xs
length-moved g [] = le_refl 0
length-moved g (s ∷ xs) = by (g s) (length-moved g xs)
  where
    by : (o : Option Stream) → length (filter_map g xs) ≤ length xs → length (cons_option o (filter_map g xs)) ≤ length (s ∷ xs)
    by None ih = omega (arith, ih)
    by (Some t) ih = omega (arith, ih)
