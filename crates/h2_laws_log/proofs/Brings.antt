-- What a frame brings and owes is on the connection or on opened streams, and gives back no more than came.
use Rattle.std.proofs.Common.{◌≡◌, ℕ, ◌+◌, ◌-◌, ◌≤◌, Bool, true, false, List, [], ◌∷◌, ◌++◌, Option, Some, None, refl, sym, ◌∙◌, ap, subst, if◌then◌else◌, ◌==◌, ◌&&◌, ◌||◌, not, filter, map, reverse, nat_le, nat_lt, arith, All}
use Rattle.std.proofs.lemmas.Bool.{eqb-true, or_right, true≢false, not-false}
use Rattle.std.proofs.lemmas.List.Elements.{All-head, All-tail, All-filter, filter_passes}
use Rattle.std.proofs.lemmas.List.Sorted.{All-permutation, IsPermutation-reverse}
use Rattle.ext_msgs.specs.declared.lists.Field.{Field}
use Rattle.h2_frames.specs.declared.frame.Frame.{Frame}
use Rattle.h2_frames.specs.declared.frame.Frame.TheVariants as frame
use Rattle.h2_model.specs.declared.answers.Event.{Event}
use Rattle.h2_model.specs.declared.answers.Event.TheVariants as event
use Rattle.h2_model.specs.Codes.{first_row, refused_stream}
use Rattle.h2_model.specs.Log.{Log, Received, stream_of_event, total}
use Rattle.h2_model.specs.Streams.{opened, is_opened, is_live, live_streams, is_reset, is_ended_by_peer, is_ended_here, has_head}
use Rattle.h2_model.specs.Blocks.{OpenBlock, whole_block, decoded_with, fields_or_none}
use Rattle.h2_model.specs.Account.{Account, is_headless}
use Rattle.h2_model.specs.Windows.{data_received, increment_owed, unreturned}
use Rattle.h2_model.specs.StreamFaults.{stream_fault, on_live, with_stream, update_rows, data_rows, fault_of_block, block_rows}
use Rattle.h2_model.specs.Violations.{is_on_unopened}
use Rattle.h2_model.specs.Duties.{update, is_open_from_peer, updates, reset_for, owed_for, reset_by_goaway, if_live, head_event, faultless_events, events_by, events_of}
use Rattle.h2_model.specs.Valid.{Valid, is_of_opened}
use Rattle.h2_laws_log.proofs.Lives.{no-zero}
use Rattle.h2_laws_log.proofs.Reports.{AreOnOpened}
use Rattle.h2_laws_log.proofs.Owes.{AllMayBeOwed, increments_of}
use Rattle.h2_laws_log.proofs.Lists.{number-swapped}

-- A live stream is opened

live-by : (o r q : Bool) → (o && r && q) ≡ true → o ≡ true
live-by true r q e = refl
live-by false r q e = e

pub live-opened : (id : ℕ) (log : Log) → is_live id log ≡ true → is_opened id log ≡ true
live-opened id log l = live-by (is_opened id log) (not (is_reset id log)) (not (is_ended_by_peer id log && is_ended_here id log)) l

live-of-opened : (id : ℕ) (log : Log) → is_live id log ≡ true → is_of_opened log id ≡ true
live-of-opened id log l = or_right (id == 0) (is_opened id log) (live-opened id log l)

-- A stream error is one of a live stream

abbrev pub IsFaultOpened : Log → Option (ℕ × ℕ) → Type 0
IsFaultOpened log None = Unit {0}
IsFaultOpened log (Some s) = is_of_opened log s.0 ≡ true

on-live-opened : (a : Account) (id : ℕ) (rows : List (Bool × ℕ)) → IsFaultOpened a.log (on_live a id rows)
on-live-opened a id rows = by (is_live id a.log) refl (first_row rows)
  where
    by : (x : Bool) → is_live id a.log ≡ x → (r : Option ℕ) → IsFaultOpened a.log (if x then with_stream id r else None)
    by true l None = tt
    by true l (Some code) = live-of-opened id a.log l
    by false l r = tt

block-fault-opened : (a : Account) (fields : List Field) (o : Option OpenBlock) → IsFaultOpened a.log (fault_of_block a fields o)
block-fault-opened a fields None = tt
block-fault-opened a fields (Some b) = on-live-opened a b.stream (block_rows a b fields)

pub fault-opened : (a : Account) (f : Frame) → IsFaultOpened a.log (stream_fault a f)
unfolding stream_fault
fault-opened a (frame.Window id n) = on-live-opened a id (update_rows a id n)
fault-opened a (frame.Data id bytes last size) = on-live-opened a id (data_rows a id)
fault-opened a f = block-fault-opened a (fields_or_none (decoded_with a.log f)) (whole_block a.log f)

-- What a frame brings

if-live-opened : (a : Account) (id : ℕ) (e : Event) → stream_of_event e ≡ id → AreOnOpened a.log (if_live a id e)
if-live-opened a id e s = by (is_live id a.log) refl
  where
    by : (x : Bool) → is_live id a.log ≡ x → AreOnOpened a.log (if x then e ∷ [] else [])
    by true l = (rw s (live-of-opened id a.log l), tt)
    by false l = tt

all-resets : (log : Log) (ids : List ℕ) → All (λ id. is_live id log ≡ true) ids → AreOnOpened log (map (λ id. event.Reset id refused_stream) ids)
all-resets log [] h = tt
all-resets log (id ∷ ids) h = (live-of-opened id log (All-head (λ id. is_live id log ≡ true) id ids h), all-resets log ids (All-tail (λ id. is_live id log ≡ true) id ids h))

goaway-opened : (a : Account) (last : ℕ) → AreOnOpened a.log (reset_by_goaway a last)
goaway-opened a last = by a.client
  where
    by : (x : Bool) → AreOnOpened a.log (if x then map (λ id. event.Reset id refused_stream) (reverse (filter (λ id. nat_lt last id) (live_streams a.log))) else [])
    by true = all-resets a.log (reverse (filter (λ id. nat_lt last id) (live_streams a.log))) (All-permutation (λ id. is_live id a.log ≡ true) (filter (λ id. nat_lt last id) (live_streams a.log)) (reverse (filter (λ id. nat_lt last id) (live_streams a.log))) (IsPermutation-reverse (filter (λ id. nat_lt last id) (live_streams a.log)))
        (All-filter (λ id. nat_lt last id) (λ id. is_live id a.log ≡ true) (live_streams a.log) (filter_passes (λ id. is_live id a.log) (opened a.log))))
    by false = tt

head-opened : (a : Account) (fields : List Field) (o : Option OpenBlock) → AreOnOpened a.log (head_event a fields o)
head-opened a fields None = tt
head-opened a fields (Some b) = if-live-opened a b.stream (event.Head b.stream fields b.last) refl

faultless-opened : (a : Account) (f : Frame) → AreOnOpened a.log (faultless_events a f)
faultless-opened a (frame.Data id bytes last size) = if-live-opened a id (event.Data id bytes last) refl
faultless-opened a (frame.Reset id code) = if-live-opened a id (event.Reset id code) refl
faultless-opened a (frame.GoAway last code) = (refl, goaway-opened a last)
faultless-opened a f = head-opened a (fields_or_none (decoded_with a.log f)) (whole_block a.log f)

pub events-opened : (a : Account) (f : Frame) → AreOnOpened a.log (events_of a f)
unfolding events_of
events-opened a f = by (stream_fault a f) (fault-opened a f)
  where
    by : (o : Option (ℕ × ℕ)) → IsFaultOpened a.log o → AreOnOpened a.log (events_by a f o)
    by None s = faultless-opened a f
    by (Some s) o = (o, tt)

-- What is owed for a frame

resets-may : (a : Account) (o : Option (ℕ × ℕ)) → IsFaultOpened a.log o → AllMayBeOwed a (reset_for o)
resets-may a None s = tt
resets-may a (Some s) o = (record { no_data = refl; stream = o; headed = λ h. refl }, tt)

both-may : (a : Account) (fs gs : List Frame) → AllMayBeOwed a fs → AllMayBeOwed a gs → AllMayBeOwed a (fs ++ gs)
both-may a [] gs m n = n
both-may a (f ∷ fs) gs m n = (m.0, both-may a fs gs m.1 n)

update-may : (a : Account) (id size : ℕ) → is_of_opened a.log id ≡ true → is_headless a id ≡ false → AllMayBeOwed a (update id size a.log)
update-may a id size o h = by (nat_le 32768 (unreturned id a.log + size))
  where
    by : (x : Bool) → AllMayBeOwed a (if x then frame.Window id (unreturned id a.log + size) ∷ [] else [])
    by true = (record { no_data = refl; stream = o; headed = λ t. absurd (true≢false (sym t ∙ h)) }, tt)
    by false = tt

open-parts : (l n p h : Bool) → (l && n && p && not h) ≡ true → (l ≡ true) × (h ≡ false)
open-parts true true true false e = (refl, refl)
open-parts true true true true e = absurd (true≢false (sym e))
open-parts true true false h e = absurd (true≢false (sym e))
open-parts true false p h e = absurd (true≢false (sym e))
open-parts false n p h e = absurd (true≢false (sym e))

no-head-of-zero : (a : Account) → Valid a → is_headless a 0 ≡ false
no-head-of-zero a v = by a.client (is_opened 0 a.log) (no-zero a v.descends) (has_head 0 a.log)
  where
    by : (c o : Bool) → o ≡ false → (h : Bool) → (c && o && not h) ≡ false
    by true o e h = rw e refl
    by false o e h = refl

updates-may : (a : Account) → Valid a → (id : ℕ) (last : Bool) (size : ℕ) → AllMayBeOwed a (updates a id last size)
updates-may a v id last size =
    both-may a (update 0 size a.log) (if is_open_from_peer a id last then update id size a.log else [])
    (update-may a 0 size refl (no-head-of-zero a v)) (by (is_open_from_peer a id last) refl)
  where
    by : (x : Bool) → is_open_from_peer a id last ≡ x → AllMayBeOwed a (if x then update id size a.log else [])
    by true o =
        let parts : (is_live id a.log ≡ true) × (is_headless a id ≡ false) = open-parts (is_live id a.log) (not last) (not (is_ended_by_peer id a.log)) (is_headless a id) o in
        update-may a id size (live-of-opened id a.log parts.0) parts.1
    by false o = tt

pub owed-may : (a : Account) (f : Frame) → Valid a → AllMayBeOwed a (owed_for a f)
unfolding owed_for
owed-may a (frame.Settings list) v = (record { no_data = refl; stream = refl; headed = λ h. refl }, tt)
owed-may a (frame.Ping ack bytes) v = by ack
  where
    by : (x : Bool) → AllMayBeOwed a (if x then [] else frame.Ping true bytes ∷ [])
    by true = tt
    by false = (record { no_data = refl; stream = refl; headed = λ h. refl }, tt)
owed-may a (frame.Data id bytes last size) v =
    both-may a (updates a id last size) (reset_for (stream_fault a (frame.Data id bytes last size))) (updates-may a v id last size)
    (resets-may a (stream_fault a (frame.Data id bytes last size)) (fault-opened a (frame.Data id bytes last size)))
owed-may a f v = resets-may a (stream_fault a f) (fault-opened a f)

-- No more is given back than came

resets-free : (j : ℕ) (o : Option (ℕ × ℕ)) → increments_of j (reset_for o) ≡ 0
resets-free j None = refl
resets-free j (Some s) = refl

increments-both : (j : ℕ) (fs gs : List Frame) → increments_of j (fs ++ gs) ≡ increments_of j fs + increments_of j gs
increments-both j [] gs = omega arith
increments-both j (f ∷ fs) gs = let ih : increments_of j (fs ++ gs) ≡ increments_of j fs + increments_of j gs = increments-both j fs gs in omega arith

update-most : (j id size : ℕ) (log : Log) → increments_of j (update id size log) ≤ (if id == j then unreturned id log + size else 0)
update-most j id size log = by (nat_le 32768 (unreturned id log + size)) (id == j)
  where
    by : (x y : Bool) → increments_of j (if x then frame.Window id (unreturned id log + size) ∷ [] else []) ≤ (if id == j then unreturned id log + size else 0)
    by true y = omega arith
    by false y = omega arith

stream-update-most : (a : Account) (j id : ℕ) (last : Bool) (size : ℕ)
    → increments_of j (if is_open_from_peer a id last then update id size a.log else []) ≤ (if id == j then unreturned id a.log + size else 0)
stream-update-most a j id last size = by (is_open_from_peer a id last)
  where
    by : (x : Bool) → increments_of j (if x then update id size a.log else []) ≤ (if id == j then unreturned id a.log + size else 0)
    by true = update-most j id size a.log
    by false = omega arith

-- of each number, what is owed for DATA is within what came and wasn't given back
updates-payable : (a : Account) → Valid a → (id : ℕ) (last : Bool) (size : ℕ) → (id == 0) ≡ false → (j : ℕ)
    → increments_of j (update 0 size a.log) + increments_of j (if is_open_from_peer a id last then update id size a.log else []) + total (increment_owed j) a.log
    ≤ (if (j == 0) || (id == j) then size else 0) + total (data_received j) a.log
updates-payable a v id last size n j = by (j == 0) refl (id == j) refl (update-most j 0 size a.log) (stream-update-most a j id last size)
  where
    first : (x y r o u size : ℕ) → u ≡ r - o → o ≤ r → x ≤ u + size → y ≤ 0 → x + y + o ≤ size + r
    first x y r o u size e l p q = omega arith

    second : (x y r o u size : ℕ) → u ≡ r - o → o ≤ r → x ≤ 0 → y ≤ u + size → x + y + o ≤ size + r
    second x y r o u size e l p q = omega arith

    neither : (x y r o : ℕ) → o ≤ r → x ≤ 0 → y ≤ 0 → x + y + o ≤ 0 + r
    neither x y r o l p q = omega arith

    at-zero : increments_of 0 (update 0 size a.log) + increments_of 0 (if is_open_from_peer a id last then update id size a.log else []) + total (increment_owed 0) a.log ≤ size + total (data_received 0) a.log
    at-zero = first (increments_of 0 (update 0 size a.log)) (increments_of 0 (if is_open_from_peer a id last then update id size a.log else []))
        (total (data_received 0) a.log) (total (increment_owed 0) a.log) (unreturned 0 a.log) size refl (v.returned 0)
        (update-most 0 0 size a.log) (rw n at (stream-update-most a 0 id last size))

    by : (z : Bool) → (j == 0) ≡ z → (s : Bool) → (id == j) ≡ s
        → increments_of j (update 0 size a.log) ≤ (if 0 == j then unreturned 0 a.log + size else 0)
        → increments_of j (if is_open_from_peer a id last then update id size a.log else []) ≤ (if id == j then unreturned id a.log + size else 0)
        → increments_of j (update 0 size a.log) + increments_of j (if is_open_from_peer a id last then update id size a.log else []) + total (increment_owed j) a.log
        ≤ (if z || s then size else 0) + total (data_received j) a.log
    by true z s e p q = subst (λ (k : ℕ). increments_of k (update 0 size a.log) + increments_of k (if is_open_from_peer a id last then update id size a.log else []) + total (increment_owed k) a.log ≤ size + total (data_received k) a.log)
        (sym (eqb-true j 0 z)) at-zero
    by false z true e p q = second _ _ (total (data_received j) a.log) (total (increment_owed j) a.log) (unreturned id a.log) size (ap (λ k. unreturned k a.log) (eqb-true id j e)) (v.returned j)
        (rw (number-swapped 0 j ∙ z) at p) (rw e at q)
    by false z false e p q = neither _ _ (total (data_received j) a.log) (total (increment_owed j) a.log) (v.returned j) (rw (number-swapped 0 j ∙ z) at p) (rw e at q)

data-payable : (a : Account) → Valid a → (id : ℕ) (bytes : List ℕ) (last : Bool) (size : ℕ) → is_opened id a.log ≡ true → (j : ℕ)
    → increments_of j (owed_for a (frame.Data id bytes last size)) + total (increment_owed j) a.log ≤ data_received j (Received (frame.Data id bytes last size)) + total (data_received j) a.log
unfolding owed_for
data-payable a v id bytes last size o j =
    let fs : List Frame = update 0 size a.log in
    let gs : List Frame = if is_open_from_peer a id last then update id size a.log else [] in
    let r : Option (ℕ × ℕ) = stream_fault a (frame.Data id bytes last size) in
    let all : increments_of j ((fs ++ gs) ++ reset_for r) ≡ increments_of j fs + increments_of j gs =
    increments-both j (fs ++ gs) (reset_for r) ∙ rw (resets-free j r, increments-both j fs gs) (add-nothing (increments_of j fs + increments_of j gs)) in
    rw all (updates-payable a v id last size (not-zero (id == 0) refl) j)
  where
    add-nothing : (n : ℕ) → n + 0 ≡ n
    add-nothing n = omega arith

    not-zero : (x : Bool) → (id == 0) ≡ x → x ≡ false
    not-zero false e = refl
    not-zero true e = absurd (true≢false (sym (subst (λ (n : ℕ). is_opened n a.log ≡ true) (eqb-true id 0 e) o) ∙ no-zero a v.descends))

none-payable : (i o d r : ℕ) → i ≡ 0 → o ≤ r → i + o ≤ d + r
none-payable i o d r z l = omega arith

pub owed-payable : (a : Account) (f : Frame) → Valid a → is_on_unopened a f ≡ false → (j : ℕ)
    → increments_of j (owed_for a f) + total (increment_owed j) a.log ≤ data_received j (Received f) + total (data_received j) a.log
unfolding owed_for
owed-payable a (frame.Data id bytes last size) v o j = data-payable a v id bytes last size (not-false (is_opened id a.log) o) j
owed-payable a (frame.Settings list) v o j = none-payable _ (total (increment_owed j) a.log) _ (total (data_received j) a.log) refl (v.returned j)
owed-payable a (frame.Ping ack bytes) v o j = none-payable _ (total (increment_owed j) a.log) _ (total (data_received j) a.log) (by ack) (v.returned j)
  where
    by : (x : Bool) → increments_of j (if x then [] else frame.Ping true bytes ∷ []) ≡ 0
    by true = refl
    by false = refl
owed-payable a f v o j = none-payable _ (total (increment_owed j) a.log) _ (total (data_received j) a.log) (resets-free j (stream_fault a f)) (v.returned j)
