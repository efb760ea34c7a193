-- A frame came in: how what is kept changes, and that the account stays valid.
use Rattle.std.proofs.Common.{◌≡◌, ℕ, zero, suc, ◌+◌, ◌-◌, ◌≤◌, Bool, true, false, List, ◌∷◌, Some, None, refl, sym, ◌∙◌, ap, subst, ◌==◌, ◌&&◌, ◌||◌, nat_lt, arith}
use Rattle.std.specs.Prelude.{ℤ, pos, ◌+ℤ◌}
use Rattle.std.proofs.lemmas.Bool.{eqb-true, eq-eqb, ne_eqb, or_parts, or_right, true≢false, ltb-false}
use Rattle.std.proofs.lemmas.List.Sums.{sum_by-cons}
use Rattle.h2_frames.specs.declared.frame.Frame.{Frame}
use Rattle.h2_frames.specs.declared.frame.Frame.TheVariants as frame
use Rattle.h2_model.specs.declared.stream.Stream.{Stream}
use Rattle.h2_model.specs.Log.{LogEntry, Log, Received, stream_of, total}
use Rattle.h2_model.specs.Streams.{is_live, opening}
use Rattle.h2_model.specs.Queue.{Waiting, is_data, queued}
use Rattle.h2_model.specs.Account.{Account}
use Rattle.h2_model.specs.Windows.{increment, data_given, data_sent, data_received, increment_given, increment_owed, connection_window, window_from, receiving_window, unreturned}
use Rattle.h2_model.specs.Violations.{exceeds_window}
use Rattle.h2_model.specs.Calls.{is_window}
use Rattle.h2_model.specs.History.{noted}
use Rattle.h2_model.specs.State.{State, seen, streams, stream_of_log}
use Rattle.h2_model.specs.Moves.{receiving, with_data, with_increment, unless_over}
use Rattle.h2_model.specs.Valid.{Valid, is_of_opened}
use Rattle.h2_laws_log.specs.Steps.{about}
use Rattle.h2_laws_log.proofs.Numbers.{widened, widened-stream}
use Rattle.h2_laws_log.proofs.Lives.{Same, SameSums, same-stream, stream-moved, streams-stay, moved-over, moved-on}
use Rattle.h2_laws_log.proofs.Entries.{Apart, apart, same-opened, with_entry, noted-is, same-entry, nothing-more, Fits, fits, valid-noted}
use Rattle.h2_laws_log.proofs.Lists.{number-swapped}

-- Windows

pub window-stays : (a b : Account) → total (increment 0) b.log ≡ total (increment 0) a.log → data_sent 0 b ≡ data_sent 0 a → connection_window b ≡ connection_window a
unfolding connection_window window_from
window-stays a b i s = rw (i, s) refl

pub receive-stays : (a b : Account) → SameSums 0 a b → receiving_window 0 b.log ≡ receiving_window 0 a.log
receive-stays a b s = rw (s.given, s.received) refl

pub unreturned-stays : (a b : Account) → SameSums 0 a b → unreturned 0 b.log ≡ unreturned 0 a.log
unreturned-stays a b s = rw (s.received, s.owed) refl

-- the parts of what is kept that are sums
pub with-parts : (s : State) {w w' : ℤ} {r r' u u' : ℕ} {x x' : List Stream} → w ≡ w' → r ≡ r' → u ≡ u' → x ≡ x'
    → record s { window = w; receive = r; unreturned = u; streams = x } ≡ record s { window = w'; receive = r'; unreturned = u'; streams = x' }
with-parts s {w} {w'} {r} {r'} {u} {u'} {x} {x'} p q m n =
    ap (λ y. record s { window = y; receive = r; unreturned = u; streams = x }) p
    ∙ ap (λ y. record s { window = w'; receive = y; unreturned = u; streams = x }) q
    ∙ ap (λ y. record s { window = w'; receive = r'; unreturned = y; streams = x }) m
    ∙ ap (λ y. record s { window = w'; receive = r'; unreturned = u'; streams = y }) n

-- an entry changes no stream but the one of which it speaks
pub others : (e : LogEntry) (a : Account) → opening e ≡ None → (id : ℕ) → (id == 0) ≡ false → (id == about e) ≡ false → Same id a (with_entry e a a.waiting a.held)
others e a o id z s = same-entry id e a a.waiting a.held o (apart id e z (number-swapped (about e) id ∙ s)) refl refl

-- Frames that are no DATA and no WINDOW_UPDATE

calm : (f : Frame) (id : ℕ) → (is_data f || is_window f) ≡ false → Apart id (Received f)
calm (frame.Data n bytes last size) id e = absurd (true≢false e)
calm (frame.Window n k) id e = absurd (true≢false e)
calm _ id e = record { reset = refl; peer_ended = refl; here_ended = refl; heads = λ es. refl; increments = refl; sent = refl; received = refl; given = refl; owed = refl }

-- an entry that says nothing of any stream
pub quiet-parts : (s : State) (e : LogEntry) (a : Account) (w : List Waiting) → Valid a → opening e ≡ None → ((id : ℕ) → Apart id e) → ((id : ℕ) → queued id w ≡ queued id a.waiting)
    → let b : Account = with_entry e a w a.held in
    record s { window = connection_window b; receive = receiving_window 0 b.log; unreturned = unreturned 0 b.log; streams = streams b }
    ≡ record s { window = connection_window a; receive = receiving_window 0 a.log; unreturned = unreturned 0 a.log; streams = streams a }
quiet-parts s e a w v o q qw =
    let b : Account = with_entry e a w a.held in
    let all : (id : ℕ) → Same id a b = λ id. same-entry id e a w a.held o (q id) (qw id) refl in
    let sums : SameSums 0 a b = (all 0).sums in
    with-parts s (window-stays a b sums.increments sums.sent) (receive-stays a b sums) (unreturned-stays a b sums)
    (streams-stay a b v.descends (same-opened e a.log o) (λ id z. all id))

-- DATA

data-received : (k : ℕ) (bytes : List ℕ) (last : Bool) (size : ℕ) (log : Log) → total (data_received k) (Received (frame.Data k bytes last size) ∷ log) ≡ size + total (data_received k) log
data-received k bytes last size log =
    sum_by-cons (data_received k) (Received (frame.Data k bytes last size)) log ∙ rw (or_right (k == 0) (k == k) (eq-eqb k k refl)) refl

less-room : (g r r' size : ℕ) → r' ≡ size + r → 65535 + g - r' ≡ 65535 + g - r - size
less-room g r r' size e = omega arith

more-taken : (r r' o size : ℕ) → r' ≡ size + r → o ≤ r → r' - o ≡ r - o + size
more-taken r r' o size e l = omega arith

room-after : (id size : ℕ) (e : LogEntry) (log : Log) → increment_given id e ≡ 0 → total (data_received id) (e ∷ log) ≡ size + total (data_received id) log
    → receiving_window id (e ∷ log) ≡ receiving_window id log - size
room-after id size e log g r = rw (nothing-more (increment_given id) e log g) (less-room (total (increment_given id) log) (total (data_received id) log) _ size r)

taken-after : (id size : ℕ) (e : LogEntry) (log : Log) → increment_owed id e ≡ 0 → total (data_received id) (e ∷ log) ≡ size + total (data_received id) log
    → total (increment_owed id) log ≤ total (data_received id) log → unreturned id (e ∷ log) ≡ unreturned id log + size
taken-after id size e log o r l = rw (nothing-more (increment_owed id) e log o) (more-taken (total (data_received id) log) _ (total (increment_owed id) log) size r l)

stream-with-data : (k : ℕ) (bytes : List ℕ) (last : Bool) (size : ℕ) (a : Account) → Valid a
    → with_data last size (stream_of_log k a) ≡ unless_over (stream_of_log k (with_entry (Received (frame.Data k bytes last size)) a a.waiting a.held))
unfolding stream_of_log
stream-with-data k bytes last size a v =
    let e : LogEntry = Received (frame.Data k bytes last size) in
    let b : Account = with_entry e a a.waiting a.held in
    let s : Stream = stream_of_log k a in
    let r : total (data_received k) (e ∷ a.log) ≡ size + total (data_received k) a.log = data-received k bytes last size a.log in
    ap unless_over (sym (same-stream
    (record s { peer_ended = last || s.peer_ended; receive = s.receive - size; unreturned = s.unreturned + size })
    (stream_of_log k b) refl (rw (eq-eqb k k refl) refl) refl refl
    (rw (nothing-more (increment k) e a.log refl, nothing-more (data_given k) e a.log refl) refl)
    (room-after k size e a.log refl r) (taken-after k size e a.log refl r (v.returned k))))

receives-data : (k : ℕ) (bytes : List ℕ) (last : Bool) (size : ℕ) (a : Account) → Valid a
    → seen (with_entry (Received (frame.Data k bytes last size)) a a.waiting a.held) ≡ receiving (frame.Data k bytes last size) (seen a)
unfolding seen receiving
receives-data k bytes last size a v =
    let e : LogEntry = Received (frame.Data k bytes last size) in
    let b : Account = with_entry e a a.waiting a.held in
    let r : total (data_received 0) (e ∷ a.log) ≡ size + total (data_received 0) a.log = sum_by-cons (data_received 0) e a.log in
    with-parts (seen b)
    (window-stays a b (nothing-more (increment 0) e a.log refl) (rw (nothing-more (data_given 0) e a.log refl) refl))
    (room-after 0 size e a.log refl r) (taken-after 0 size e a.log refl r (v.returned 0))
    (stream-moved k (with_data last size) a b v.descends refl (others e a refl)
    (λ o. moved-over k a b last (with_data last size) refl refl (rw (eq-eqb k k refl) refl) refl (stream-with-data k bytes last size a v)))

-- WINDOW_UPDATE

receives-connection : (n : ℕ) (a : Account) → Valid a → seen (with_entry (Received (frame.Window zero n)) a a.waiting a.held) ≡ receiving (frame.Window zero n) (seen a)
unfolding seen receiving connection_window window_from
receives-connection n a v =
    let e : LogEntry = Received (frame.Window zero n) in
    let b : Account = with_entry e a a.waiting a.held in
    with-parts (seen b)
    (rw (nothing-more (data_given 0) e a.log refl, sum_by-cons (increment 0) e a.log) (widened 65535 n (total (increment 0) a.log) (data_sent 0 a)))
    (rw (nothing-more (increment_given 0) e a.log refl, nothing-more (data_received 0) e a.log refl) refl)
    (rw (nothing-more (increment_owed 0) e a.log refl, nothing-more (data_received 0) e a.log refl) refl)
    (streams-stay a b v.descends refl (λ id z. others e a refl id z z))

stream-with-increment : (k n : ℕ) (a : Account)
    → with_increment n (stream_of_log k a) ≡ Some (stream_of_log k (with_entry (Received (frame.Window k n)) a a.waiting a.held))
unfolding stream_of_log
stream-with-increment k n a =
    let e : LogEntry = Received (frame.Window k n) in
    let b : Account = with_entry e a a.waiting a.held in
    let s : Stream = stream_of_log k a in
    let i : total (increment k) (e ∷ a.log) ≡ n + total (increment k) a.log = sum_by-cons (increment k) e a.log ∙ rw (eq-eqb k k refl) refl in
    ap (λ t. Some t) (sym (same-stream (record s { credit = s.credit +ℤ pos n }) (stream_of_log k b) refl refl refl refl
    (rw (nothing-more (data_given k) e a.log refl, i) (widened-stream n (total (increment k) a.log) (data_sent k a)))
    (rw (nothing-more (increment_given k) e a.log refl, nothing-more (data_received k) e a.log refl) refl)
    (rw (nothing-more (increment_owed k) e a.log refl, nothing-more (data_received k) e a.log refl) refl)))

not-zero : (id : ℕ) → (suc id == 0) ≡ false
not-zero id = ne_eqb (suc id) 0 (λ z. omega (arith, z))

receives-increment : (id n : ℕ) (a : Account) → Valid a → seen (with_entry (Received (frame.Window (suc id) n)) a a.waiting a.held) ≡ receiving (frame.Window (suc id) n) (seen a)
unfolding seen receiving
receives-increment id n a v =
    let k : ℕ = suc id in
    let e : LogEntry = Received (frame.Window k n) in
    let b : Account = with_entry e a a.waiting a.held in
    with-parts (seen b)
    (window-stays a b (nothing-more (increment 0) e a.log (rw (not-zero id) refl)) (rw (nothing-more (data_given 0) e a.log refl) refl))
    (rw (nothing-more (increment_given 0) e a.log refl, nothing-more (data_received 0) e a.log refl) refl)
    (rw (nothing-more (increment_owed 0) e a.log refl, nothing-more (data_received 0) e a.log refl) refl)
    (stream-moved k (with_increment n) a b v.descends refl (others e a refl)
    (λ o. moved-on k a b (with_increment n) refl refl refl refl (stream-with-increment k n a)))

receives-entry : (f : Frame) (a : Account) → Valid a → seen (with_entry (Received f) a a.waiting a.held) ≡ receiving f (seen a)
unfolding seen receiving
receives-entry (frame.Data k bytes last size) a v = receives-data k bytes last size a v
receives-entry (frame.Window zero n) a v = receives-connection n a v
receives-entry (frame.Window (suc id) n) a v = receives-increment id n a v
receives-entry f a v = quiet-parts (seen (with_entry (Received f) a a.waiting a.held)) (Received f) a a.waiting v refl (λ id. calm f id refl) (λ id. refl)

-- what is kept after a frame came
pub receives : (f : Frame) (a : Account) → Valid a → seen (noted (Received f) a) ≡ receiving f (seen a)
receives f a v = ap seen (noted-is (Received f) a v) ∙ receives-entry f a v

-- The account stays valid

within : (g r r' size : ℕ) → r' ≡ size + r → r ≤ 65535 + g → nat_lt (65535 + g - r) size ≡ false → r' ≤ 65535 + g
within g r r' size e l n = let m : size ≤ 65535 + g - r = ltb-false (65535 + g - r) size n in omega arith

data-within : (id size : ℕ) (e : LogEntry) (log : Log) → increment_given id e ≡ 0 → total (data_received id) (e ∷ log) ≡ size + total (data_received id) log
    → total (data_received id) log ≤ 65535 + total (increment_given id) log → nat_lt (receiving_window id log) size ≡ false
    → total (data_received id) (e ∷ log) ≤ 65535 + total (increment_given id) (e ∷ log)
data-within id size e log g r l n = rw (nothing-more (increment_given id) e log g) (within (total (increment_given id) log) (total (data_received id) log) _ size r l n)

data-fits : (k : ℕ) (bytes : List ℕ) (last : Bool) (size : ℕ) (a : Account) → Valid a
    → exceeds_window a (frame.Data k bytes last size) ≡ false → Fits (Received (frame.Data k bytes last size)) a
data-fits k bytes last size a v x =
    let e : LogEntry = Received (frame.Data k bytes last size) in
    let parts : (nat_lt (receiving_window 0 a.log) size ≡ false) × ((is_live k a.log && nat_lt (receiving_window k a.log) size) ≡ false) = or_parts _ _ x in
    let connection : total (data_received 0) (e ∷ a.log) ≤ 65535 + total (increment_given 0) (e ∷ a.log) =
    data-within 0 size e a.log refl (sum_by-cons (data_received 0) e a.log) v.received parts.0 in
    record {
      received = connection;
      received_on = λ id l. on id (k == id) refl (id == 0) refl l connection parts.1;
      returned = λ id. rw (nothing-more (increment_owed id) e a.log refl, sum_by-cons (data_received id) e a.log) (more (data_received id e) (total (increment_owed id) a.log) (total (data_received id) a.log) (v.returned id));
    }
  where
    second : (x y : Bool) → x ≡ true → (x && y) ≡ false → y ≡ false
    second true y t e = e
    second false y t e = absurd (true≢false (sym t))

    more : (d o r : ℕ) → o ≤ r → o ≤ d + r
    more d o r l = omega arith

    on : (id : ℕ) (same : Bool) → (k == id) ≡ same → (z : Bool) → (id == 0) ≡ z → is_live id a.log ≡ true
        → total (data_received 0) (Received (frame.Data k bytes last size) ∷ a.log) ≤ 65535 + total (increment_given 0) (Received (frame.Data k bytes last size) ∷ a.log)
        → (is_live k a.log && nat_lt (receiving_window k a.log) size) ≡ false
        → total (data_received id) (Received (frame.Data k bytes last size) ∷ a.log) ≤ 65535 + total (increment_given id) (Received (frame.Data k bytes last size) ∷ a.log)
    on id same s true z l c p = subst (λ (n : ℕ). total (data_received n) (Received (frame.Data k bytes last size) ∷ a.log) ≤ 65535 + total (increment_given n) (Received (frame.Data k bytes last size) ∷ a.log)) (sym (eqb-true id 0 z)) c
    on id true s false z l c p =
        let e : LogEntry = Received (frame.Data k bytes last size) in
        let d : data_received id e ≡ size = rw (z, s) refl in
        let q : (is_live id a.log && nat_lt (receiving_window id a.log) size) ≡ false = subst (λ (m : ℕ). (is_live m a.log && nat_lt (receiving_window m a.log) size) ≡ false) (eqb-true k id s) p in
        let n : nat_lt (receiving_window id a.log) size ≡ false = second (is_live id a.log) _ l q in
        data-within id size e a.log refl (sum_by-cons (data_received id) e a.log ∙ ap (λ m. m + total (data_received id) a.log) d) (v.received_on id l) n
    on id false s false z l c p =
        let e : LogEntry = Received (frame.Data k bytes last size) in
        let d : data_received id e ≡ 0 = rw (z, s) refl in
        rw (nothing-more (data_received id) e a.log d, nothing-more (increment_given id) e a.log refl) (v.received_on id l)

frame-fits : (f : Frame) (a : Account) → Valid a → exceeds_window a f ≡ false → Fits (Received f) a
frame-fits (frame.Data k bytes last size) a v x = data-fits k bytes last size a v x
frame-fits f a v x = fits (Received f) a v (λ id. refl) (λ id. refl)

pub receives-valid : (f : Frame) (a : Account) → Valid a → is_of_opened a.log (stream_of f) ≡ true → exceeds_window a f ≡ false → Valid (noted (Received f) a)
receives-valid f a v s x = valid-noted (Received f) a v refl s (λ id. refl) (frame-fits f a v x)
