-- Sums over a queue after a frame entered, frames went away or were placed anew.
use Rattle.std.proofs.Common.{arith, rules, ◌≡◌, ◌≤◌, ◌<◌, ◌+◌, ◌-◌, ◌^◌, Bool, true, false, not, List, [], ◌∷◌, ◌++◌, length, map, cond, min, ◌==◌, ◌||◌, ℕ, refl, ap, sym, ◌∙◌}
use Rattle.std.specs.List.{filter, All}
use Rattle.std.proofs.lemmas.List.Filters.{sum_by-filter_both}
use Rattle.std.proofs.lemmas.List.Elements.{All-cons, All-head, All-tail, All-filter, All-nil, All-append}
use Rattle.std.proofs.lemmas.List.Sums.{sum_by-cons, sum_by_push, sum_by-insert}
use Rattle.h2_frames.specs.declared.frame.Frame.{Frame}
use Rattle.h2_frames.specs.declared.frame.Frame.TheVariants as frame
use Rattle.h2_model.specs.Queue.{Waiting, placed, all_placed, is_free, is_free_of, with_place, with_end_placed, entered, fresh, is_reset_frame, data_in, bytes_of, queued, control_bytes, is_data}
use Rattle.h2_model.specs.Log.{stream_of}
use Rattle.h2_sender.specs.Places.{place_of, ready_for}
use Rattle.h2_sender.specs.Queue.{HasLeft, IsCounted}
use Rattle.h2_laws_log.proofs.Queues.{sum-entered}
use Rattle.h2_sender.specs.Places.{IsFront}
use Rattle.h2_sender.proofs.Placed.{placed_is, is_passed}

-- one frame enters

pub queued_placed : (id : ℕ) (x : Waiting) (queue : List Waiting) → queued id (placed x queue) ≡ queued id queue + data_in id x.frame
queued_placed id x queue =
    ap (queued id) (placed_is x queue) ∙ sum_by-insert (λ (w : Waiting). data_in id w.frame) queue (place_of x queue) x

pub left_placed : (x : Waiting) (queue : List Waiting) → HasLeft x → All HasLeft queue → All HasLeft (placed x queue)
left_placed x [] here all = All-cons HasLeft x [] here (All-nil HasLeft)
left_placed x (w ∷ queue) here all =
    by_test (is_passed x w queue) (left_placed x queue here (All-tail HasLeft w queue all)) where
      by_test : (passed : Bool) → All HasLeft (placed x queue) → All HasLeft (cond passed (w ∷ placed x queue) (x ∷ w ∷ queue))
      by_test true h = All-cons HasLeft w (placed x queue) (All-head HasLeft w queue all) h
      by_test false h = All-cons HasLeft x (w ∷ queue) here all

-- several are placed

queued_all_placed : (id : ℕ) (xs queue : List Waiting) → queued id (all_placed xs queue) ≡ queued id xs + queued id queue
queued_all_placed id [] queue = omega arith
queued_all_placed id (x ∷ xs) queue =
    let rest = queued_all_placed id xs (placed x queue) in
    let here = queued_placed id x queue in
    let cons = sum_by-cons (λ (w : Waiting). data_in id w.frame) x xs in
    omega arith

left_all_placed : (xs queue : List Waiting) → All HasLeft xs → All HasLeft queue → All HasLeft (all_placed xs queue)
left_all_placed [] queue here all = all
left_all_placed (x ∷ xs) queue here all =
    left_all_placed xs (placed x queue) (All-tail HasLeft x xs here) (left_placed x queue (All-head HasLeft x xs here) all)

queued_with_place : (id : ℕ) (xs : List Waiting) → queued id (map with_place xs) ≡ queued id xs
queued_with_place id [] = refl
queued_with_place id (x ∷ xs) =
    let rest = queued_with_place id xs in
    let here = sum_by-cons (λ (w : Waiting). data_in id w.frame) x xs in
    let there = sum_by-cons (λ (w : Waiting). data_in id w.frame) (with_place x) (map with_place xs) in
    omega arith

left_with_place : (xs : List Waiting) → All HasLeft xs → All HasLeft (map with_place xs)
left_with_place [] all = All-nil HasLeft
left_with_place (x ∷ xs) all =
    All-cons HasLeft (with_place x) (map with_place xs) (All-head HasLeft x xs all) (left_with_place xs (All-tail HasLeft x xs all))

pub queued_ends : (id stream : ℕ) (queue : List Waiting) → queued id (with_end_placed stream queue) ≡ queued id queue
queued_ends id stream queue =
    let all = queued_all_placed id (map with_place (filter (is_free_of stream) queue)) (filter (λ (w : Waiting). not (is_free_of stream w)) queue) in
    let ends = queued_with_place id (filter (is_free_of stream) queue) in
    let both = sum_by-filter_both (is_free_of stream) (λ (w : Waiting). not (is_free_of stream w)) (λ w. refl) (λ (w : Waiting). data_in id w.frame) queue in
    omega arith

pub left_ends : (stream : ℕ) (queue : List Waiting) → All HasLeft queue → All HasLeft (with_end_placed stream queue)
left_ends stream queue all =
    left_all_placed (map with_place (filter (is_free_of stream) queue)) (filter (λ (w : Waiting). not (is_free_of stream w)) queue)
    (left_with_place (filter (is_free_of stream) queue) (All-filter (is_free_of stream) HasLeft queue all))
    (All-filter (λ (w : Waiting). not (is_free_of stream w)) HasLeft queue all)

-- a frame enters

queued_ready : (id : ℕ) (f : Frame) (queue : List Waiting) → queued id (ready_for f queue) ≡ queued id queue
queued_ready id f queue = by_test (is_reset_frame f) where
  by_test : (reset : Bool) → queued id (cond reset (with_end_placed (stream_of f) queue) queue) ≡ queued id queue
  by_test true = queued_ends id (stream_of f) queue
  by_test false = refl

left_ready : (f : Frame) (queue : List Waiting) → All HasLeft queue → All HasLeft (ready_for f queue)
left_ready f queue all = by_test (is_reset_frame f) where
  by_test : (reset : Bool) → All HasLeft (cond reset (with_end_placed (stream_of f) queue) queue)
  by_test true = left_ends (stream_of f) queue all
  by_test false = all

some_bytes : (f : Frame) → 0 < length (bytes_of f)
some_bytes (frame.Data id bytes last size) = omega arith
some_bytes (frame.Headers id block last ends) = omega arith
some_bytes (frame.Priority id) = omega arith
some_bytes (frame.Reset id code) = omega arith
some_bytes (frame.Settings list) = omega arith
some_bytes frame.SettingsAck = omega arith
some_bytes (frame.Push id) = omega arith
some_bytes (frame.Ping ack bytes) = omega arith
some_bytes (frame.GoAway last code) = omega arith
some_bytes (frame.Window id n) = omega arith
some_bytes (frame.Continuation id part ends) = omega arith
some_bytes (frame.Unknown kind) = omega arith

-- the bytes of a frame that are no part of DATA
abbrev pub control_in : Waiting → ℕ
control_in w = cond (is_data w.frame) 0 (length w.left)

pub counted_entered : (f : Frame) (queue : List Waiting) (n c m next : ℕ) → IsCounted queue n c m → n + data_in 0 f ≤ 2 ^ 40 → IsFront next (entered f queue)
    → IsCounted (entered f queue) (n + data_in 0 f) (min (c + control_in (fresh f)) (2 ^ 64 - 1)) next
counted_entered f queue n c m next h fits front =
    let before = queued_ready 0 f queue in
    let one = queued_placed 0 (fresh f) (ready_for f queue) in
    let counted : n ≡ queued 0 queue = h.counted in
    let total : n + data_in 0 f ≡ queued 0 (entered f queue) = omega arith in
    let control : c ≡ min (control_bytes queue) (2 ^ 64 - 1) = h.control in
    let more : control_bytes (entered f queue) ≡ control_in (fresh f) + control_bytes queue = sum-entered control_in (λ w. refl) f queue in
    record {
      left = left_placed (fresh f) (ready_for f queue) (some_bytes f) (left_ready f queue h.left);
      counted = total;
      bound = fits;
      control = omega arith;
      front = front;
    }

-- frames go

pub queued_kept : (id : ℕ) (p : Waiting → Bool) (queue : List Waiting) → queued id (filter p queue) ≤ queued id queue
queued_kept id p queue =
    let both = sum_by-filter_both p (λ (w : Waiting). not (p w)) (λ w. refl) (λ (w : Waiting). data_in id w.frame) queue in omega arith

-- one stream has no more than all

pub data_of_one : (id : ℕ) (f : Frame) → data_in id f ≤ data_in 0 f
data_of_one id (frame.Data n bytes last size) = by_test ((id == 0) || (n == id)) where
  by_test : (own : Bool) → cond own (length bytes) 0 ≤ length bytes
  by_test true = omega arith
  by_test false = omega arith
data_of_one id f = search rules

-- only some frames stay, and no DATA goes that is no free one
control_kept : (p : Waiting → Bool) → ((w : Waiting) → is_free w ≡ false → p w ≡ true) → (queue : List Waiting) → control_bytes (filter p queue) ≡ control_bytes queue
control_kept p keeps [] = refl
control_kept p keeps (w ∷ queue) = by (p w) refl (control_kept p keeps queue)
  where
    gone : p w ≡ false → is_data w.frame ≡ true
    gone e = by (is_data w.frame) refl
      where
        apart : (b : Bool) → b ≡ true → b ≡ false → ⊥
        apart true t f = absurd (grind (arith, f))
        apart false t f = absurd (grind (arith, t))

        by : (d : Bool) → is_data w.frame ≡ d → is_data w.frame ≡ true
        by true d = d
        by false d = absurd (apart (p w) (keeps w (rw d refl)) e)

    by : (c : Bool) → p w ≡ c → control_bytes (filter p queue) ≡ control_bytes queue
        → control_bytes (cond c (w ∷ filter p queue) (filter p queue)) ≡ control_bytes (w ∷ queue)
    by true e ih = rw (sum_by-cons control_in w (filter p queue), sum_by-cons control_in w queue) (ap (λ k. control_in w + k) ih)
    by false e ih =
        let none : control_in w ≡ 0 = rw (gone e) refl in
        let here : control_bytes (w ∷ queue) ≡ control_in w + control_bytes queue = sum_by-cons control_in w queue in
        omega arith

pub counted_kept : (p : Waiting → Bool) → ((w : Waiting) → is_free w ≡ false → p w ≡ true) → (queue : List Waiting) (n c m next : ℕ) → IsCounted queue n c m → IsFront next (filter p queue)
    → IsCounted (filter p queue) (queued 0 (filter p queue)) c next
counted_kept p keeps queue n c m next h front =
    let fewer = queued_kept 0 p queue in
    let counted : n ≡ queued 0 queue = h.counted in
    let bound : n ≤ 2 ^ 40 = h.bound in
    record {
      left = All-filter p HasLeft queue h.left;
      counted = refl;
      bound = omega arith;
      control = h.control ∙ ap (λ k. min k (2 ^ 64 - 1)) (sym (control_kept p keeps queue));
      front = front;
    }

-- and a frame that is no DATA goes behind them
pub counted_last : (p : Waiting → Bool) → ((w : Waiting) → is_free w ≡ false → p w ≡ true) → (queue : List Waiting) (f : Frame) (n c m next : ℕ) → IsCounted queue n c m → is_data f ≡ false
    → IsFront next (filter p queue ++ fresh f ∷ [])
    → IsCounted (filter p queue ++ fresh f ∷ []) (queued 0 (filter p queue ++ fresh f ∷ [])) (min (c + control_in (fresh f)) (2 ^ 64 - 1)) next
counted_last p keeps queue f n c m next h e front =
    let fewer = queued_kept 0 p queue in
    let none : data_in 0 f ≡ 0 = no_data f e in
    let data_sum : queued 0 (filter p queue ++ fresh f ∷ []) ≡ queued 0 (filter p queue) + data_in 0 f = sum_by_push (λ (w : Waiting). data_in 0 w.frame) (filter p queue) (fresh f) in
    let counted : n ≡ queued 0 queue = h.counted in
    let bound : n ≤ 2 ^ 40 = h.bound in
    let control : c ≡ min (control_bytes queue) (2 ^ 64 - 1) = h.control in
    let stays : control_bytes (filter p queue) ≡ control_bytes queue = control_kept p keeps queue in
    let more : control_bytes (filter p queue ++ fresh f ∷ []) ≡ control_bytes (filter p queue) + control_in (fresh f) = sum_by_push control_in (filter p queue) (fresh f) in
    record {
      left = All-append HasLeft (filter p queue) (fresh f ∷ []) (All-filter p HasLeft queue h.left) (All-cons HasLeft (fresh f) [] (some_bytes f) (All-nil HasLeft));
      counted = refl;
      bound = omega arith;
      control = omega arith;
      front = front;
    }
  where
    no_data : (f : Frame) → is_data f ≡ false → data_in 0 f ≡ 0
    no_data (frame.Data id bytes last size) e = absurd cc
    no_data (frame.Headers id block last ends) e = refl
    no_data (frame.Priority id) e = refl
    no_data (frame.Reset id code) e = refl
    no_data (frame.Settings list) e = refl
    no_data frame.SettingsAck e = refl
    no_data (frame.Push id) e = refl
    no_data (frame.Ping ack bytes) e = refl
    no_data (frame.GoAway last code) e = refl
    no_data (frame.Window id n) e = refl
    no_data (frame.Continuation id part ends) e = refl
    no_data (frame.Unknown kind) e = refl

-- the first frame is given, in part or whole

pub counted_some : (w next : Waiting) (queue : List Waiting) (n c m d k : ℕ) → IsCounted (w ∷ queue) n c m → next.frame ≡ w.frame → HasLeft next
    → d ≡ min (control_bytes (next ∷ queue)) (2 ^ 64 - 1) → IsFront k (next ∷ queue) → IsCounted (next ∷ queue) n d k
counted_some w next queue n c m d k h same left control front =
    let old = sum_by-cons (λ (x : Waiting). data_in 0 x.frame) w queue in
    let new = sum_by-cons (λ (x : Waiting). data_in 0 x.frame) next queue in
    let frame = ap (data_in 0) same in
    let counted : n ≡ queued 0 (w ∷ queue) = h.counted in
    record { left = All-cons HasLeft next queue left (All-tail HasLeft w queue h.left); counted = omega arith; bound = h.bound; control = control; front = front }

pub counted_all : (w : Waiting) (queue : List Waiting) (n c m d k : ℕ) → IsCounted (w ∷ queue) n c m
    → d ≡ min (control_bytes queue) (2 ^ 64 - 1) → IsFront k queue → IsCounted queue (n - data_in 0 w.frame) d k
counted_all w queue n c m d k h control front =
    let old = sum_by-cons (λ (x : Waiting). data_in 0 x.frame) w queue in
    let counted : n ≡ queued 0 (w ∷ queue) = h.counted in
    let bound : n ≤ 2 ^ 40 = h.bound in
    record { left = All-tail HasLeft w queue h.left; counted = omega arith; bound = omega arith; control = control; front = front }
