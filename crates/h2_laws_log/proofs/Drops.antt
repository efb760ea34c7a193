-- The bytes of DATA in a queue, where some of it is dropped.
use Rattle.std.proofs.Common.{◌≡◌, ℕ, ◌+◌, ◌≤◌, Bool, true, false, List, [], ◌∷◌, refl, sym, ◌∙◌, ap, if◌then◌else◌, ◌==◌, ◌&&◌, not, filter, arith, All}
use Rattle.std.specs.Prelude.{sum_by}
use Rattle.std.proofs.lemmas.Bool.{eqb-true, and_parts, true≢false}
use Rattle.std.proofs.lemmas.List.Sums.{sum_by-cons}
use Rattle.std.proofs.lemmas.List.Elements.{All-head, All-tail}
use Rattle.h2_frames.specs.declared.frame.Frame.{Frame}
use Rattle.h2_frames.specs.declared.frame.Frame.TheVariants as frame
use Rattle.h2_model.specs.Log.{LogEntry, Handed, stream_of}
use Rattle.h2_model.specs.Queue.{Waiting, is_free, has_bytes, data_in, queued, entered, fresh}
use Rattle.h2_model.specs.Windows.{held_data}
use Rattle.h2_model.specs.History.{frame_in}
use Rattle.h2_model.specs.Valid.{update_of, updates_in}
use Rattle.h2_model.specs.Moves.{is_dropped, is_dropped_entry, kept_waiting, kept_held}
use Rattle.h2_laws_log.proofs.Queues.{sum-entered, held-cons, updates-sum}

pub filter-whole : {X : Type 0} (p : X → Bool) (xs : List X) → All (λ x. p x ≡ true) xs → filter p xs ≡ xs
filter-whole p [] h = refl
filter-whole p (x ∷ xs) h =
    rw (All-head (λ x. p x ≡ true) x xs h) (ap (λ l. x ∷ l) (filter-whole p xs (All-tail (λ x. p x ≡ true) x xs h)))

pub sum-filter : {X : Type 0} (p : X → Bool) (g : X → ℕ) (xs : List X) → sum_by g (filter p xs) ≤ sum_by g xs
sum-filter p g [] = omega arith
sum-filter p g (x ∷ xs) = rw (sum_by-cons g x xs) (by (p x) (sum-filter p g xs))
  where
    by : (b : Bool) → sum_by g (filter p xs) ≤ sum_by g xs → sum_by g (if b then x ∷ filter p xs else filter p xs) ≤ g x + sum_by g xs
    by true ih = rw (sum_by-cons g x (filter p xs)) (omega arith)
    by false ih = omega arith

pub sum-kept : {X : Type 0} (p : X → Bool) (g : X → ℕ) (xs : List X) → ((x : X) → p x ≡ false → g x ≡ 0) → sum_by g (filter p xs) ≡ sum_by g xs
sum-kept p g [] h = refl
sum-kept p g (x ∷ xs) h = rw (sum_by-cons g x xs) (by (p x) refl (sum-kept p g xs h))
  where
    by : (b : Bool) → p x ≡ b → sum_by g (filter p xs) ≡ sum_by g xs → sum_by g (if b then x ∷ filter p xs else filter p xs) ≡ g x + sum_by g xs
    by true e ih = rw (sum_by-cons g x (filter p xs)) (ap (λ n. g x + n) ih)
    by false e ih = let z : g x ≡ 0 = h x e in omega arith

pub data-apart : (f : Frame) (id : ℕ) → (id == 0) ≡ false → (stream_of f == id) ≡ false → data_in id f ≡ 0
data-apart (frame.Data n bytes last size) id z s = rw (z, s) refl
data-apart _ id z s = refl

-- bytes of DATA in an entry that is held
abbrev pub entry_data : ℕ → LogEntry → ℕ
entry_data id (Handed f) = data_in id f
entry_data id _ = 0

pub held-sum : (id : ℕ) (held : List LogEntry) → held_data id held ≡ sum_by (entry_data id) held
held-sum id [] = refl
held-sum id (e ∷ held) = held-cons id e held ∙ ap (λ n. entry_data id e + n) (held-sum id held) ∙ sym (sum_by-cons (entry_data id) e held)

entry-apart : (e : LogEntry) (id : ℕ) → (id == 0) ≡ false → (stream_of (frame_in e) == id) ≡ false → entry_data id e ≡ 0
entry-apart (Handed f) id z s = data-apart f id z s
entry-apart _ id z s = refl

other : (n m id : ℕ) → (n == m) ≡ true → (m == id) ≡ false → (n == id) ≡ false
other n m id e s = rw (eqb-true n m e) s

not-kept : (b : Bool) → not b ≡ false → b ≡ true
not-kept true e = refl
not-kept false e = sym e

pub queued-kept : (id n : ℕ) (queue : List Waiting) → (id == 0) ≡ false → (n == id) ≡ false → queued id (kept_waiting n queue) ≡ queued id queue
queued-kept id n queue z s = sum-kept (λ w. not (is_dropped n w)) (λ w. data_in id w.frame) queue (λ w e.
    let d : is_dropped n w ≡ true = not-kept (is_dropped n w) e in
    data-apart w.frame id z (other (stream_of w.frame) n id (last-part (is_free w) (has_bytes w.frame) (stream_of w.frame == n) d) s))
  where
    last-part : (x y c : Bool) → (x && y && c) ≡ true → c ≡ true
    last-part true true c e = e
    last-part true false c e = absurd (true≢false (sym e))
    last-part false y c e = absurd (true≢false (sym e))

pub held-kept : (id n : ℕ) (held : List LogEntry) → (id == 0) ≡ false → (n == id) ≡ false → held_data id (kept_held n held) ≡ held_data id held
held-kept id n held z s = held-sum id (kept_held n held) ∙ sum-kept (λ e. not (is_dropped_entry n e)) (entry_data id) held (λ e k.
    let d : (has_bytes (frame_in e) && (stream_of (frame_in e) == n)) ≡ true = not-kept (is_dropped_entry n e) k in
    entry-apart e id z (other (stream_of (frame_in e)) n id (and_parts (has_bytes (frame_in e)) (stream_of (frame_in e) == n) d).1 s))
    ∙ sym (held-sum id held)

pub queued-less : (id n : ℕ) (queue : List Waiting) → queued id (kept_waiting n queue) ≤ queued id queue
queued-less id n queue = sum-filter (λ w. not (is_dropped n w)) (λ w. data_in id w.frame) queue

pub held-less : (id n : ℕ) (held : List LogEntry) → held_data id (kept_held n held) ≤ held_data id held
held-less id n held = rw (held-sum id (kept_held n held), held-sum id held) (sum-filter (λ e. not (is_dropped_entry n e)) (entry_data id) held)

-- What enters a queue finds its place, and nothing is lost

pub updates-entered : (id : ℕ) (f : Frame) (queue : List Waiting) → updates_in id (entered f queue) ≡ update_of id (fresh f) + updates_in id queue
updates-entered id f queue = updates-sum id (entered f queue) ∙ sum-entered (update_of id) (λ w. refl) f queue ∙ ap (λ n. update_of id (fresh f) + n) (sym (updates-sum id queue))
