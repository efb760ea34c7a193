-- The DATA of a queue and of what is held, as frames enter and leave it.
use Rattle.std.proofs.Common.{◌≡◌, ℕ, ◌+◌, Bool, true, false, not, ◌||◌, ◌==◌, List, [], ◌∷◌, ◌++◌, refl, sym, ◌∙◌, ap, if◌then◌else◌, filter, map, All, arith, sum_by, le_refl, ◌≤◌}
use Rattle.std.specs.List.{list_any}
use Rattle.std.proofs.lemmas.List.Elements.{All-head, All-tail, All-cons, All-filter, All-map, All-weaker}
use Rattle.std.proofs.lemmas.List.Sums.{sum_by-cons, sum_by-append}
use Rattle.std.proofs.lemmas.List.Filters.{sum_by-filter_both}
use Rattle.h2_frames.specs.declared.frame.Frame.{Frame}
use Rattle.h2_frames.specs.declared.frame.Frame.TheVariants as frame
use Rattle.h2_model.specs.Log.{LogEntry, Handed, stream_of}
use Rattle.h2_model.specs.Queue.{Waiting, fresh, placed, all_placed, entered, queued, data_in, goes_last, is_free, is_free_of, stays_behind, with_place, with_end_placed, is_reset_frame}
use Rattle.h2_model.specs.Windows.{held_data}
use Rattle.h2_model.specs.Valid.{update_of, updates_in}

pub queued-cons : (n : ℕ) (w : Waiting) (queue : List Waiting) → queued n (w ∷ queue) ≡ data_in n w.frame + queued n queue
queued-cons n w queue = sum_by-cons (λ v. data_in n v.frame) w queue

pub queued-append : (n : ℕ) (xs ys : List Waiting) → queued n (xs ++ ys) ≡ queued n xs + queued n ys
queued-append n xs ys = sum_by-append (λ v. data_in n v.frame) xs ys

pub queued-split : (n : ℕ) (p : Waiting → Bool) (queue : List Waiting)
    → queued n (filter p queue) + queued n (filter (λ w. not (p w)) queue) ≡ queued n queue
queued-split n p queue = sum_by-filter_both p (λ w. not (p w)) (λ w. refl) (λ v. data_in n v.frame) queue

-- a sum over the queue, to which a frame's place is nothing

pub sum-placed : (m : Waiting → ℕ) (x : Waiting) (queue : List Waiting) → sum_by m (placed x queue) ≡ m x + sum_by m queue
sum-placed m x [] = sum_by-cons m x []
sum-placed m x (w ∷ queue) =
    by (goes_last x || not (is_free w) || list_any (stays_behind x.frame) (w ∷ queue)) (sum-placed m x queue)
  where
    by : (c : Bool) → sum_by m (placed x queue) ≡ m x + sum_by m queue
        → sum_by m (if c then w ∷ placed x queue else x ∷ w ∷ queue) ≡ m x + sum_by m (w ∷ queue)
    by true ih = omega (arith, ih, sum_by-cons m w (placed x queue), sum_by-cons m w queue)
    by false ih = sum_by-cons m x (w ∷ queue)

pub sum-all-placed : (m : Waiting → ℕ) (xs queue : List Waiting) → sum_by m (all_placed xs queue) ≡ sum_by m xs + sum_by m queue
sum-all-placed m [] queue = omega arith
sum-all-placed m (x ∷ xs) queue = sum-all-placed m xs (placed x queue)
    ∙ rw (sum_by-cons m x xs, sum-placed m x queue) (omega arith)

sum-fixed : (m : Waiting → ℕ) → ((w : Waiting) → m (with_place w) ≡ m w) → (xs : List Waiting)
    → sum_by m (map with_place xs) ≡ sum_by m xs
sum-fixed m same [] = refl
sum-fixed m same (x ∷ xs) =
    rw (sum_by-cons m (with_place x) (map with_place xs), sum_by-cons m x xs, sum-fixed m same xs, same x) refl

sum-end-placed : (m : Waiting → ℕ) → ((w : Waiting) → m (with_place w) ≡ m w) → (id : ℕ) (queue : List Waiting)
    → sum_by m (with_end_placed id queue) ≡ sum_by m queue
sum-end-placed m same id queue =
    sum-all-placed m (map with_place (filter (is_free_of id) queue)) (filter (λ w. not (is_free_of id w)) queue)
    ∙ ap (λ k. k + sum_by m (filter (λ w. not (is_free_of id w)) queue)) (sum-fixed m same (filter (is_free_of id) queue))
    ∙ sum_by-filter_both (is_free_of id) (λ w. not (is_free_of id w)) (λ w. refl) m queue

pub sum-entered : (m : Waiting → ℕ) → ((w : Waiting) → m (with_place w) ≡ m w) → (f : Frame) (queue : List Waiting)
    → sum_by m (entered f queue) ≡ m (fresh f) + sum_by m queue
sum-entered m same f queue =
    sum-placed m (fresh f) (if is_reset_frame f then with_end_placed (stream_of f) queue else queue)
    ∙ ap (λ k. m (fresh f) + k) (by (is_reset_frame f))
  where
    by : (c : Bool) → sum_by m (if c then with_end_placed (stream_of f) queue else queue) ≡ sum_by m queue
    by true = sum-end-placed m same (stream_of f) queue
    by false = refl

-- a frame that enters adds its DATA, and its increment
pub queued-entered : (n : ℕ) (f : Frame) (queue : List Waiting) → queued n (entered f queue) ≡ data_in n f + queued n queue
queued-entered n f queue = sum-entered (λ w. data_in n w.frame) (λ w. refl) f queue

pub updates-sum : (n : ℕ) (queue : List Waiting) → updates_in n queue ≡ sum_by (update_of n) queue
updates-sum n [] = refl
updates-sum n (w ∷ queue) = ap (λ k. update_of n w + k) (updates-sum n queue) ∙ sym (sum_by-cons (update_of n) w queue)

pub updates-entered : (n : ℕ) (f : Frame) (queue : List Waiting) → updates_in n (entered f queue)
    ≡ update_of n (fresh f) + updates_in n queue
updates-entered n f queue =
    updates-sum n (entered f queue) ∙ sum-entered (update_of n) (λ w. refl) f queue
    ∙ ap (λ k. update_of n (fresh f) + k) (sym (updates-sum n queue))

pub updates-append : (n : ℕ) (xs ys : List Waiting) → updates_in n (xs ++ ys) ≡ updates_in n xs + updates_in n ys
updates-append n [] ys = omega arith
updates-append n (x ∷ xs) ys = omega (arith, updates-append n xs ys)

-- fewer frames have no more increments
pub updates-kept : (n : ℕ) (p : Waiting → Bool) (queue : List Waiting) → updates_in n (filter p queue) ≤ updates_in n queue
updates-kept n p [] = le_refl 0
updates-kept n p (w ∷ queue) = by (p w) (updates-kept n p queue)
  where
    by : (c : Bool) → updates_in n (filter p queue) ≤ updates_in n queue
        → updates_in n (if c then w ∷ filter p queue else filter p queue) ≤ updates_in n (w ∷ queue)
    by true ih = omega (arith, ih)
    by false ih = omega (arith, ih)

-- What holds of each frame that waits

pub all-placed-one : (P : Waiting → Type 0) (x : Waiting) (queue : List Waiting) → P x → All P queue
    → All P (placed x queue)
all-placed-one P x [] p h = All-cons P x [] p h
all-placed-one P x (w ∷ queue) p h =
    by (goes_last x || not (is_free w) || list_any (stays_behind x.frame) (w ∷ queue))
    (all-placed-one P x queue p (All-tail P w queue h))
  where
    by : (c : Bool) → All P (placed x queue) → All P (if c then w ∷ placed x queue else x ∷ w ∷ queue)
    by true ih = All-cons P w (placed x queue) (All-head P w queue h) ih
    by false ih = All-cons P x (w ∷ queue) p h

pub all-placed-all : (P : Waiting → Type 0) (xs queue : List Waiting) → All P xs → All P queue → All P (all_placed xs queue)
all-placed-all P [] queue g h = h
all-placed-all P (x ∷ xs) queue g h =
    all-placed-all P xs (placed x queue) (All-tail P x xs g) (all-placed-one P x queue (All-head P x xs g) h)

pub all-entered : (P : Waiting → Type 0) → ((w : Waiting) → P w → P (with_place w)) → (f : Frame) (queue : List Waiting)
    → P (fresh f) → All P queue → All P (entered f queue)
all-entered P fixes f queue p h = all-placed-one P (fresh f) _ p (by (is_reset_frame f))
  where
    ended : All P (with_end_placed (stream_of f) queue)
    ended = all-placed-all P (map with_place (filter (is_free_of (stream_of f)) queue))
        (filter (λ w. not (is_free_of (stream_of f) w)) queue)
        (All-map P with_place (filter (is_free_of (stream_of f)) queue)
        (All-weaker P (λ w. P (with_place w)) fixes (filter (is_free_of (stream_of f)) queue)
        (All-filter (is_free_of (stream_of f)) P queue h)))
        (All-filter (λ w. not (is_free_of (stream_of f) w)) P queue h)

    by : (c : Bool) → All P (if c then with_end_placed (stream_of f) queue else queue)
    by true = ended
    by false = h

-- What is held

abbrev pub entry_data : ℕ → LogEntry → ℕ
entry_data n (Handed f) = data_in n f
entry_data n e = 0

pub held-cons : (n : ℕ) (e : LogEntry) (held : List LogEntry) → held_data n (e ∷ held) ≡ entry_data n e + held_data n held
held-cons n (Handed f) held = refl
held-cons n e held = omega arith

pub held-append : (n : ℕ) (xs ys : List LogEntry) → held_data n (xs ++ ys) ≡ held_data n xs + held_data n ys
held-append n [] ys = omega arith
held-append n (e ∷ xs) ys = rw (held-cons n e (xs ++ ys), held-cons n e xs, held-append n xs ys) (omega arith)

pub held-split : (n : ℕ) (p : LogEntry → Bool) (held : List LogEntry)
    → held_data n (filter p held) + held_data n (filter (λ e. not (p e)) held) ≡ held_data n held
held-split n p [] = refl
held-split n p (e ∷ held) = by (p e) (held-split n p held)
  where
    by : (c : Bool) → held_data n (filter p held) + held_data n (filter (λ x. not (p x)) held) ≡ held_data n held
        → held_data n (if c then e ∷ filter p held else filter p held) + held_data n
        (if not c then e ∷ filter (λ x. not (p x)) held else filter (λ x. not (p x)) held) ≡ held_data n (e ∷ held)
    by true ih = rw (held-cons n e held, held-cons n e (filter p held)) (omega (arith, ih))
    by false ih = rw (held-cons n e held, held-cons n e (filter (λ x. not (p x)) held)) (omega (arith, ih))

-- Frames of other streams

pub other-data : (n : ℕ) (f : Frame) → (n == 0) ≡ false → (stream_of f == n) ≡ false → data_in n f ≡ 0
other-data n (frame.Data id bytes last size) z e = rw (z, e) refl
other-data n f z e = refl

pub kept-queue : (n : ℕ) (p : Waiting → Bool) → ((w : Waiting) → p w ≡ true → data_in n w.frame ≡ 0)
    → (queue : List Waiting)
    → queued n (filter (λ w. not (p w)) queue) ≡ queued n queue
kept-queue n p none [] = refl
kept-queue n p none (w ∷ queue) = by (p w) refl (kept-queue n p none queue)
  where
    by : (c : Bool) → p w ≡ c → queued n (filter (λ v. not (p v)) queue) ≡ queued n queue
        → queued n (if not c then w ∷ filter (λ v. not (p v)) queue else filter (λ v. not (p v)) queue)
        ≡ queued n (w ∷ queue)
    by true e ih = rw (queued-cons n w queue, none w e) (omega (arith, ih))
    by false e ih = rw (queued-cons n w queue, queued-cons n w (filter (λ v. not (p v)) queue), ih) refl

pub kept-held-data : (n : ℕ) (p : LogEntry → Bool) → ((e : LogEntry) → p e ≡ true → entry_data n e ≡ 0) → (held : List LogEntry)
    → held_data n (filter (λ e. not (p e)) held) ≡ held_data n held
kept-held-data n p none [] = refl
kept-held-data n p none (w ∷ held) = by (p w) refl (kept-held-data n p none held)
  where
    by : (c : Bool) → p w ≡ c → held_data n (filter (λ v. not (p v)) held) ≡ held_data n held
        → held_data n (if not c then w ∷ filter (λ v. not (p v)) held else filter (λ v. not (p v)) held)
        ≡ held_data n (w ∷ held)
    by true e ih = rw (held-cons n w held, none w e) (omega (arith, ih))
    by false e ih = rw (held-cons n w held, held-cons n w (filter (λ v. not (p v)) held), ih) refl
