-- The pigeonhole: of each stream that is kept two closing frames at most wait or may still come, and of no other any.
use Rattle.std.proofs.Common.{◌≡◌, ℕ, ◌+◌, ◌*◌, ◌≤◌, ◌<◌, Bool, true, false, not, ◌&&◌, ◌||◌, ◌==◌, List, [], ◌∷◌, Some, None, refl, sym, ◌∙◌, ap, subst, if◌then◌else◌, filter, reverse, length, All, arith, sum_by, le_refl, true≢false, eqb-true}
use Rattle.std.specs.List.{list_any, cons_option}
use Rattle.std.proofs.lemmas.List.Elements.{All-cons, All-nil, All-weaker}
use Rattle.std.proofs.lemmas.List.Sums.{sum_by-cons}
use Rattle.std.proofs.lemmas.List.Sorted.{sum_by-IsPermutation, IsPermutation-reverse}
use Rattle.h2_frames.specs.declared.frame.Frame.{Frame}
use Rattle.h2_frames.specs.declared.frame.Frame.TheVariants as frame
use Rattle.h2_model.specs.Log.{LogEntry, Log, stream_of}
use Rattle.h2_model.specs.Streams.{opened, is_opened, is_live, is_reset, is_ended_here}
use Rattle.h2_model.specs.Queue.{Waiting}
use Rattle.h2_model.specs.Account.{Account, is_headless}
use Rattle.h2_model.specs.Calls.{kept_streams, waits, is_window}
use Rattle.h2_model.specs.History.{frame_in, is_of}
use Rattle.h2_model.specs.State.{streams, live, live_among, stream_of_log}
use Rattle.h2_model.specs.Valid.{Valid, Descends, is_of_opened}
use Rattle.h2_laws_log.proofs.Opens.{streams-count}
use Rattle.h2_laws_log.proofs.Hand.{live-not-reset}
use Rattle.h2_laws_log.specs.Rooms.{one_if, closing, closings_waiting, closings_held, credit, credits, end_of, reset_of, ends_due, resets_due, Counted}
use Rattle.h2_laws_log.proofs.RoomSums.{sum-within, sum-both, sum-swapped, sum-none}

-- A closing frame counts for its stream

abbrev hit : Frame → ℕ → ℕ
hit f id = end_of id f + reset_of id f

own : (f : Frame) (id : ℕ) → (stream_of f == id) ≡ true → closing f ≤ hit f id
own (frame.Data n bytes last size) id e = by last
  where
    by : (b : Bool) → one_if b ≤ one_if ((n == id) && b) + 0
    by true = rw e (le_refl 1)
    by false = omega arith
own (frame.Reset n code) id e = rw e (le_refl 1)
own f id e = omega arith

turned : (m n : ℕ) → (m == n) ≡ true → (n == m) ≡ true
turned m n e = subst (λ (k : ℕ). (k == m) ≡ true) (eqb-true m n e) (subst (λ (k : ℕ). (m == k) ≡ true) (sym (eqb-true m n e)) e)

counts-once : (f : Frame) (ids : List ℕ) → list_any (λ n. n == stream_of f) ids ≡ true → closing f ≤ sum_by (hit f) ids
counts-once f [] e = absurd cc
counts-once f (id ∷ ids) e = by (id == stream_of f) refl e (counts-once f ids)
  where
    by : (c : Bool) → (id == stream_of f) ≡ c → (c || list_any (λ n. n == stream_of f) ids) ≡ true
        → (list_any (λ n. n == stream_of f) ids ≡ true → closing f ≤ sum_by (hit f) ids)
        → closing f ≤ sum_by (hit f) (id ∷ ids)
    by true s e ih = omega (arith, sum_by-cons (hit f) id ids, own f id (turned id (stream_of f) s))
    by false s e ih = omega (arith, sum_by-cons (hit f) id ids, ih e)

-- the connection is a number too
counts-somewhere : (f : Frame) (log : Log) → is_of_opened log (stream_of f) ≡ true → closing f ≤ sum_by (hit f) (0 ∷ opened log)
counts-somewhere f log e = by (stream_of f == 0) refl e
  where
    by : (c : Bool) → (stream_of f == 0) ≡ c → (c || is_opened (stream_of f) log) ≡ true
        → closing f ≤ sum_by (hit f) (0 ∷ opened log)
    by true s e = omega (arith, sum_by-cons (hit f) 0 (opened log), own f 0 s)
    by false s e = omega (arith, sum_by-cons (hit f) 0 (opened log), counts-once f (opened log) e)

abbrev due : Account → ℕ → ℕ
due a id = ends_due id a + resets_due id a

closings-due : (a : Account) → Valid a → Counted a → closings_waiting a.waiting + closings_held a.held ≤ sum_by (due a) (opened a.log)
closings-due a v c = omega (
  arith,
  sum-within (λ w. closing w.frame) (λ w. sum_by (hit w.frame) ids) a.waiting
      (All-weaker (λ w. is_of_opened a.log (stream_of w.frame) ≡ true) (λ w. closing w.frame ≤ sum_by (hit w.frame) ids)
      (λ w. counts-somewhere w.frame a.log) a.waiting v.waiting),
  sum-within (λ e. closing (frame_in e)) (λ e. sum_by (hit (frame_in e)) ids) a.held
      (All-weaker (λ e. is_of_opened a.log (stream_of (frame_in e)) ≡ true) (λ e. closing (frame_in e) ≤ sum_by (hit (frame_in e)) ids)
      (λ e. counts-somewhere (frame_in e) a.log) a.held v.held),
  sum-swapped (λ (w : Waiting) (id : ℕ). hit w.frame id) a.waiting ids,
  sum-swapped (λ (e : LogEntry) (id : ℕ). hit (frame_in e) id) a.held ids,
  sum-both (λ id. sum_by (λ w. hit w.frame id) a.waiting) (λ id. sum_by (λ e. hit (frame_in e) id) a.held) ids,
  sum-within both (due a) ids (all-same ids),
  sum_by-cons (due a) 0 (opened a.log),
  c.connection_ends,
  c.connection_resets,
)
  where
    ids : List ℕ
    ids = 0 ∷ opened a.log

    both : ℕ → ℕ
    both id = sum_by (λ w. hit w.frame id) a.waiting + sum_by (λ e. hit (frame_in e) id) a.held

    all-same : (ns : List ℕ) → All (λ id. both id ≤ due a id) ns
    all-same [] = All-nil (λ id. both id ≤ due a id)
    all-same (n ∷ ns) = All-cons (λ id. both id ≤ due a id) n ns
        (omega (
          arith,
          sum-both (λ w. end_of n w.frame) (λ w. reset_of n w.frame) a.waiting,
          sum-both (λ e. end_of n (frame_in e)) (λ e. reset_of n (frame_in e)) a.held,
        ))
        (all-same ns)

-- A stream that isn't kept has none

other-end : (id : ℕ) (f : Frame) → ((stream_of f == id) && not (is_window f)) ≡ false → end_of id f ≡ 0
other-end id (frame.Data n bytes last size) e = by (n == id) e
  where
    by : (c : Bool) → (c && true) ≡ false → one_if (c && last) ≡ 0
    by true e = absurd cc
    by false e = refl
other-end id f e = refl

other-reset : (id : ℕ) (f : Frame) → ((stream_of f == id) && not (is_window f)) ≡ false → reset_of id f ≡ 0
other-reset id (frame.Reset n code) e = by (n == id) e
  where
    by : (c : Bool) → (c && true) ≡ false → one_if c ≡ 0
    by true e = absurd cc
    by false e = refl
other-reset id f e = refl

less : (x y : Bool) → x ≡ false → (x && y) ≡ false
less x y e = rw e refl

parts : (x y : Bool) → (x || y) ≡ false → (x ≡ false) × (y ≡ false)
parts true y e = absurd cc
parts false y e = (refl, e)

none-due : (a : Account) (id : ℕ) → 0 < id → waits id a ≡ false → due a id ≡ 0
unfolding waits
none-due a id l e = by (id == 0) refl e
  where
    by : (z : Bool) → (id == 0) ≡ z
        → (not z && (list_any (λ w. (stream_of w.frame == id) && not (is_window w.frame)) a.waiting || list_any (is_of id) a.held)) ≡ false
        → due a id ≡ 0
    by true z e = absurd (let n : id ≡ 0 = eqb-true id 0 z in omega arith)
    by false z e =
        let p = parts (list_any (λ w. (stream_of w.frame == id) && not (is_window w.frame)) a.waiting) (list_any (is_of id) a.held) e in
        omega (
          arith,
          sum-none (λ w. (stream_of w.frame == id) && not (is_window w.frame)) (λ w. end_of id w.frame) (λ w. other-end id w.frame) a.waiting p.0,
          sum-none (λ w. (stream_of w.frame == id) && not (is_window w.frame)) (λ w. reset_of id w.frame) (λ w. other-reset id w.frame) a.waiting p.0,
          sum-none (is_of id) (λ x. end_of id (frame_in x)) (λ x n. other-end id (frame_in x) (less (is_of id x) (not (is_window (frame_in x))) n)) a.held p.1,
          sum-none (is_of id) (λ x. reset_of id (frame_in x)) (λ x n. other-reset id (frame_in x) (less (is_of id x) (not (is_window (frame_in x))) n)) a.held p.1,
        )

-- Each stream by itself

abbrev is_kept : Account → ℕ → Bool
is_kept a id = is_live id a.log || is_headless a id || waits id a

abbrev credit_of : Account → ℕ → ℕ
credit_of a id = if is_live id a.log then (if is_ended_here id a.log then 1 else 2) else 0

abbrev both_ends : Account → ℕ → ℕ
both_ends a id = if is_kept a id then 2 else 0

two-at-most : (a : Account) → Counted a → (id : ℕ) → 0 < id → due a id + credit_of a id ≤ both_ends a id
two-at-most a c id l = by (is_live id a.log) refl (is_headless a id) (waits id a) refl
  where
    ended : (x : Bool) (n : ℕ) → n ≤ one_if x → n + (if x then 1 else 2) ≤ 2
    ended true n h = omega arith
    ended false n h = omega arith

    once : (x : Bool) (n : ℕ) → n ≤ one_if x → n ≤ 1
    once true n h = h
    once false n h = omega arith

    alive : is_live id a.log ≡ true → due a id + (if is_ended_here id a.log then 1 else 2) ≤ 2
    alive v = omega (
      arith,
      ended (is_ended_here id a.log) (ends_due id a) (c.ends id),
      rw (live-not-reset id a.log v) at (c.resets id),
    )

    over : due a id + 0 ≤ 2
    over = omega (
      arith,
      once (is_ended_here id a.log) (ends_due id a) (c.ends id),
      once (is_reset id a.log) (resets_due id a) (c.resets id),
    )

    by : (v : Bool) → is_live id a.log ≡ v → (h w : Bool) → waits id a ≡ w
        → due a id + (if v then (if is_ended_here id a.log then 1 else 2) else 0) ≤ (if v || h || w then 2 else 0)
    by true v h w e = alive v
    by false v true w e = over
    by false v false true e = over
    by false v false false e = omega (arith, none-due a id l e)

above-zero : (ns : List ℕ) → Descends ns → All (λ n. 0 < n) ns
above-zero [] d = All-nil (λ n. 0 < n)
above-zero (n ∷ ns) d = All-cons (λ k. 0 < k) n ns d.0 (above-zero ns d.2)

-- The sums

credits-among : (a : Account) (ids : List ℕ) → credits (live_among ids a) ≡ sum_by (credit_of a) ids
unfolding live stream_of_log
credits-among a [] = refl
credits-among a (id ∷ ids) = by (is_live id a.log) (credits-among a ids) ∙ sym (sum_by-cons (credit_of a) id ids)
  where
    by : (v : Bool) → credits (live_among ids a) ≡ sum_by (credit_of a) ids
        → credits (cons_option (if v then Some (stream_of_log id a) else None) (live_among ids a))
        ≡ (if v then (if is_ended_here id a.log then 1 else 2) else 0) + sum_by (credit_of a) ids
    by true ih = sum_by-cons credit (stream_of_log id a) (live_among ids a) ∙ ap (λ n. (if is_ended_here id a.log then 1 else 2) + n) ih
    by false ih = omega (arith, ih)

credits-sum : (a : Account) → credits (streams a) ≡ sum_by (credit_of a) (opened a.log)
unfolding streams
credits-sum a =
    credits-among a (reverse (opened a.log))
    ∙ sum_by-IsPermutation (credit_of a) (opened a.log) (reverse (opened a.log)) (IsPermutation-reverse (opened a.log))

twice-kept : (p : ℕ → Bool) (ids : List ℕ) → sum_by (λ id. if p id then 2 else 0) ids ≡ 2 * length (filter p ids)
twice-kept p [] = refl
twice-kept p (id ∷ ids) = sum_by-cons (λ n. if p n then 2 else 0) id ids ∙ by (p id) (twice-kept p ids)
  where
    by : (c : Bool) → sum_by (λ n. if p n then 2 else 0) ids ≡ 2 * length (filter p ids)
        → (if c then 2 else 0) + sum_by (λ n. if p n then 2 else 0) ids ≡ 2 * length (if c then id ∷ filter p ids else filter p ids)
    by true ih = omega (arith, ih)
    by false ih = omega (arith, ih)

pub closings-room : (a : Account) → Valid a → Counted a
    → closings_waiting a.waiting + closings_held a.held + credits (streams a) ≤ 2 * length (kept_streams a)
closings-room a v c = omega (
  arith,
  closings-due a v c,
  credits-sum a,
  sum-both (due a) (credit_of a) (opened a.log),
  sum-within (λ id. due a id + credit_of a id) (both_ends a) (opened a.log)
      (All-weaker (λ n. 0 < n) (λ id. due a id + credit_of a id ≤ both_ends a id) (two-at-most a c) (opened a.log)
      (above-zero (opened a.log) v.descends)),
  twice-kept (is_kept a) (opened a.log),
)

-- Live streams are kept

fewer : (p q : ℕ → Bool) → ((n : ℕ) → p n ≡ true → q n ≡ true) → (ids : List ℕ) → length (filter p ids) ≤ length (filter q ids)
fewer p q h [] = le_refl 0
fewer p q h (id ∷ ids) = by (p id) (q id) (h id) (fewer p q h ids)
  where
    by : (c d : Bool) → (c ≡ true → d ≡ true) → length (filter p ids) ≤ length (filter q ids)
        → length (if c then id ∷ filter p ids else filter p ids) ≤ length (if d then id ∷ filter q ids else filter q ids)
    by true true h ih = omega (arith, ih)
    by true false h ih = absurd (true≢false (sym (h refl)))
    by false true h ih = omega (arith, ih)
    by false false h ih = ih

pub streams-kept : (a : Account) → length (streams a) ≤ length (kept_streams a)
streams-kept a = rw (streams-count a) (fewer (λ id. is_live id a.log) (is_kept a) (λ id e. rw e refl) (opened a.log))
