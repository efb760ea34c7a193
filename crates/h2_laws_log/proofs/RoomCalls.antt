-- `Counted` is kept as frames are handed over and bytes are taken, and as the connection fails.
use Rattle.std.proofs.Common.{◌≡◌, ℕ, Bool, true, false, not, ◌==◌, List, [], ◌∷◌, refl, sym, ◌∙◌, ap, filter, arith, sum_by, true≢false, eqb-true}
use borrow.Author.Tests.{not-true}
use Rattle.std.proofs.lemmas.List.Sums.{sum_by-cons, sum_by-append}
use Rattle.std.proofs.lemmas.List.Filters.{sum_by-filter_both}
use Rattle.h2_frames.specs.declared.frame.Frame.{Frame}
use Rattle.h2_frames.specs.declared.frame.Frame.TheVariants as frame
use Rattle.h2_model.specs.Log.{LogEntry, Handed, Owed}
use Rattle.h2_model.specs.Streams.{is_opened, is_live, is_reset, is_ended_here}
use Rattle.h2_model.specs.Queue.{fresh, is_free_content, whole_within}
use Rattle.h2_model.specs.Account.{Account}
use Rattle.h2_model.specs.Calls.{is_open_here}
use Rattle.h2_model.specs.History.{frame_in, noted, queue_with, handed, released, is_of, headed, violated, last_of_peer, answered, called, Take}
use Rattle.h2_model.specs.Valid.{Valid}
use Rattle.h2_laws_log.proofs.Drops.{sum-filter}
use Rattle.h2_laws_log.proofs.Lists.{same-number, both-left, both-right, and-not}
use Rattle.h2_laws_log.proofs.Hand.{handed-is, live-not-reset}
use Rattle.h2_laws_log.proofs.Same.{zero-unopened}
use Rattle.h2_laws_log.proofs.Take.{given-same}
use Rattle.h2_laws_log.specs.Rooms.{one_if, ends_due, resets_due, Counted}
use Rattle.h2_laws_log.proofs.RoomSums.{sum-behind}
use Rattle.h2_laws_log.proofs.RoomGrows.{Grows, one, stays, grows-on, noted-grows, noted-queued, queued-grows, handed-grows, counted-grows, counted-stays, counted-end, counted-reset}
use Rattle.h2_laws_log.proofs.Brings.{live-opened}

-- A stream by its number

pub live-not-zero : (id : ℕ) (a : Account) → Valid a → is_live id a.log ≡ true → (id == 0) ≡ false
live-not-zero id a v l = by (id == 0) refl
  where
    by : (z : Bool) → (id == 0) ≡ z → z ≡ false
    by true z = absurd (true≢false (sym (live-opened id a.log l) ∙ ap (λ n. is_opened n a.log) (eqb-true id 0 z) ∙ zero-unopened a v))
    by false z = refl

pub no-reset-due : (id : ℕ) (a : Account) → Counted a → is_reset id a.log ≡ false → resets_due id a ≡ 0
no-reset-due id a c e = omega (arith, rw e at (c.resets id))

no-end-due : (id : ℕ) (a : Account) → Counted a → is_ended_here id a.log ≡ false → ends_due id a ≡ 0
no-end-due id a c e = omega (arith, rw e at (c.ends id))

-- A frame is handed over

handed-log : (f : Frame) (a : Account) → (handed f a).log ≡ Handed f ∷ a.log
unfolding noted
handed-log f a = ap (λ b. b.log) (handed-is f a)

pub data-counted : (id size : ℕ) (bytes : List ℕ) (a : Account) → Counted a → Counted (handed (frame.Data id bytes false size) a)
data-counted id size bytes a c =
    let f : Frame = frame.Data id bytes false size in
    counted-grows (one f) a (handed f a) (λ k. ap one_if (and-not (id == k))) (λ k. refl) (handed-grows f a) c

pub finish-counted : (id : ℕ) (a : Account) → Valid a → is_open_here id a ≡ true → Counted a
    → Counted (handed (frame.Data id [] true 0) a)
finish-counted id a v o c =
    let f : Frame = frame.Data id [] true 0 in
    counted-end id 0 [] a (handed f a)
    (live-not-zero id a v (both-left (is_live id a.log) (not (is_ended_here id a.log)) o))
    (no-end-due id a c (not-true (is_ended_here id a.log) (both-right (is_live id a.log) (not (is_ended_here id a.log)) o)))
    (ap (λ log. is_ended_here id log) (handed-log f a) ∙ rw (same-number id) refl) (handed-grows f a) c

pub reset-counted : (id code : ℕ) (a : Account) → Valid a → is_live id a.log ≡ true → Counted a
    → Counted (handed (frame.Reset id code) a)
reset-counted id code a v l c =
    let f : Frame = frame.Reset id code in
    counted-reset id code a (handed f a) (live-not-zero id a v l) (no-reset-due id a c (live-not-reset id a.log l))
    (ap (λ log. is_reset id log) (handed-log f a) ∙ rw (same-number id) refl) (handed-grows f a) c

-- A block goes out, and what was held for it: together the same

abbrev in_all : List LogEntry → (Frame → ℕ) → ℕ
in_all held m = sum_by (λ e. m (frame_in e)) held

released-grows : (held : List LogEntry) (a : Account) → Grows (in_all held) a (released held a)
released-grows [] a = stays a
released-grows (Owed f ∷ held) a =
    let b : Account = queue_with f (noted (Owed f) a) in
    grows-on (one f) (in_all held) (in_all (Owed f ∷ held)) a b (released held b)
    (λ m. omega (arith, sum_by-cons (λ e. m (frame_in e)) (Owed f) held)) (noted-queued (Owed f) f a) (released-grows held b)
released-grows (e ∷ held) a =
    let b : Account = queue_with (frame_in e) a in
    grows-on (one (frame_in e)) (in_all held) (in_all (e ∷ held)) a b (released held b)
    (λ m. omega (arith, sum_by-cons (λ x. m (frame_in x)) e held)) (queued-grows (frame_in e) a) (released-grows held b)

headed-grows : (id : ℕ) (f : Frame) (a : Account) → Grows (one f) a (headed id f a)
headed-grows id f a =
    let b : Account = queue_with f (noted (Handed f) a) in
    let d : Account = record b { held = filter (λ e. not (is_of id e)) b.held } in
    let g : Grows (one f) a b = noted-queued (Handed f) f a in
    let h : Grows (in_all (filter (is_of id) b.held)) d (headed id f a) = released-grows (filter (is_of id) b.held) d in
    record {
      most = λ m. omega (
        arith,
        g.most m,
        h.most m,
        sum_by-filter_both (is_of id) (λ e. not (is_of id e)) (λ e. refl) (λ e. m (frame_in e)) b.held,
      );
      reset = λ k r. h.reset k (g.reset k r);
      ended = λ k e. h.ended k (g.ended k e);
    }

pub headed-counted : (id n : ℕ) (block : List ℕ) (last ends : Bool) (a : Account) → Counted a
    → Counted (headed id (frame.Headers n block last ends) a)
headed-counted id n block last ends a c =
    let f : Frame = frame.Headers n block last ends in
    counted-grows (one f) a (headed id f a) (λ k. refl) (λ k. refl) (headed-grows id f a) c

-- Bytes are taken

pub take-counted : (n : ℕ) (a : Account) → Counted a → Counted (called (Take n) a)
unfolding called
take-counted n a c = counted-stays a (called (Take n) a) (record {
  most = λ m. omega (arith, sum-behind m n a.waiting);
  reset = λ k r. given-same (is_reset k) (λ f log. refl) (whole_within n a.waiting) a.log ∙ r;
  ended = λ k e. given-same (is_ended_here k) (λ f log. refl) (whole_within n a.waiting) a.log ∙ e;
}) c

-- The connection fails: what is held and what is free is gone, and a fixed end stays

pub violated-counted : (code : ℕ) (a : Account) → Counted a → Counted (violated code a)
violated-counted code a c =
    let goaway : Frame = frame.GoAway (last_of_peer a) code in
    counted-grows (one goaway) a (violated code a) (λ k. refl) (λ k. refl) (record {
      most = λ m. omega (
        arith,
        sum_by-append (λ w. m w.frame) (filter (λ w. not (is_free_content w)) a.waiting) (fresh goaway ∷ []),
        sum_by-cons (λ w. m w.frame) (fresh goaway) [],
        sum-filter (λ w. not (is_free_content w)) (λ w. m w.frame) a.waiting,
      );
      reset = λ k r. r;
      ended = λ k e. e;
    }) c

-- What is no entry, and an opening

pub answered-counted : (a : Account) → Counted a → Counted (answered a)
answered-counted a c =
    record { ends = c.ends; resets = c.resets; connection_ends = c.connection_ends; connection_resets = c.connection_resets }

pub aside-counted : (greeted : Bool) (rest : List ℕ) (a : Account) → Counted a
    → Counted (record a { greeted = greeted; rest = rest })
aside-counted greeted rest a c =
    record { ends = c.ends; resets = c.resets; connection_ends = c.connection_ends; connection_resets = c.connection_resets }

pub noted-counted : (e : LogEntry) (a : Account) → Counted a → Counted (noted e a)
noted-counted e a c = counted-stays a (noted e a) (noted-grows e a) c
