-- What is judged by what is kept, against the account.
use Rattle.std.proofs.Common.{◌≡◌, ℕ, ◌+◌, Bool, true, false, not, ◌&&◌, ◌||◌, if◌then◌else◌, List, [], ◌∷◌, ◌++◌, Option, Some, None, refl, sym, ◌∙◌, ap, nat_le}
use Rattle.h2_frames.specs.declared.frame.Frame.{Frame}
use Rattle.h2_model.specs.declared.stream.Stream.{Stream}
use Rattle.h2_model.specs.Account.{Account, is_headless}
use Rattle.h2_model.specs.Blocks.{OpenBlock, open_block, block_with, whole_block, decoded_with, fields_or_none}
use Rattle.h2_model.specs.Calls.{is_open_here}
use Rattle.h2_model.specs.Codes.{first_row}
use Rattle.h2_model.specs.Streams.{is_live, is_ended_by_peer, is_ended_here}
use Rattle.h2_model.specs.Duties.{is_open_from_peer, owed_for, reset_for, update}
use Rattle.h2_session.specs.Steps.{due_frames}
use Rattle.ext_msgs.specs.declared.lists.Field.{Field}
use Rattle.h2_frames.specs.declared.frame.Frame.TheVariants as frame
use Rattle.h2_model.specs.StreamFaults.{on_live, with_stream, stream_fault, fault_of_block, block_rows}
use Rattle.h2_model.specs.State.{State, live, seen, streams, stream_of_log, found}
use Rattle.h2_model.specs.Settings.{initial_window}
use Rattle.h2_model.specs.Windows.{connection_window, receiving_window, unreturned}
use Rattle.h2_model.specs.Violations.{is_first, is_settings, breaks_block, is_push, is_on_unopened, has_bad_setting, has_wide_setting, is_empty_update, widens_connection, exceeds_window, is_long}
use Rattle.h2_model.proofs.Lives.{found-live}
use Rattle.h2_streams.specs.Rows.{early_rows}

looked : (ss : List Stream) (a : Account) (id : ℕ) → ss ≡ streams a → found id ss ≡ live id a
looked ss a id e = ap (found id) e ∙ found-live id a

pub some : {A : Type 0} {x y : A} → Some x ≡ Some y → x ≡ y
some e = cc

from-live : (c : Bool) (s t : Stream) → (if c then Some s else None) ≡ Some t → (c ≡ true) × (t ≡ s)
from-live true s t e = (refl, sym (some e))
from-live false s t e = absurd cc

from-none : (c : Bool) (s : Stream) → (if c then Some s else None) ≡ None → c ≡ false
from-none true s e = absurd cc
from-none false s e = refl

-- a stream that is looked up is live, as the account says
pub its-stream : (ss : List Stream) (a : Account) (id : ℕ) (t : Stream) → ss ≡ streams a → Some t ≡ found id ss → (is_live id a.log ≡ true) × (t ≡ stream_of_log id a)
unfolding live
its-stream ss a id t e f = from-live (is_live id a.log) (stream_of_log id a) t (sym (f ∙ looked ss a id e))

pub no-stream : (ss : List Stream) (a : Account) (id : ℕ) → ss ≡ streams a → None ≡ found id ss → is_live id a.log ≡ false
unfolding live
no-stream ss a id e f = from-none (is_live id a.log) (stream_of_log id a) (sym (f ∙ looked ss a id e))

-- and whether it is open on this side
pub its-openness : (t : Stream) (id : ℕ) (a : Account) → (is_live id a.log ≡ true) × (t ≡ stream_of_log id a) → not t.here_ended ≡ is_open_here id a
unfolding stream_of_log
its-openness t id a x = ap (λ s. not s.here_ended) x.1 ∙ ap (λ l. l && not (is_ended_here id a.log)) (sym x.0)

pub no-openness : (id : ℕ) (a : Account) → is_live id a.log ≡ false → false ≡ is_open_here id a
no-openness id a l = ap (λ x. x && not (is_ended_here id a.log)) (sym l)

-- the rows, by what they test
pub rows-are : (a : Account) (f : Frame) (x1 x2 x3 x4 x5 x6 x7 x8 x9 x10 : Bool)
    → x1 ≡ (is_first a && not (is_settings f)) → x2 ≡ breaks_block (open_block a.log) f → x3 ≡ is_push f → x4 ≡ is_on_unopened a f
    → x5 ≡ has_bad_setting a f → x6 ≡ has_wide_setting a f → x7 ≡ is_empty_update f → x8 ≡ widens_connection a f → x9 ≡ exceeds_window a f
    → x10 ≡ is_long (block_with a.log f)
    → first_row ((x1, 1) ∷ (x2, 1) ∷ (x3, 1) ∷ (x4, 1) ∷ (x5, 1) ∷ (x6, 3) ∷ (x7, 1) ∷ (x8, 3) ∷ (x9, 3) ∷ (x10, 11) ∷ []) ≡ first_row (early_rows a f)
unfolding early_rows
rows-are a f x1 x2 x3 x4 x5 x6 x7 x8 x9 x10 e1 e2 e3 e4 e5 e6 e7 e8 e9 e10 = rw e1 (rw e2 (rw e3 (rw e4 (rw e5 (rw e6 (rw e7 (rw e8 (rw e9 (rw e10 refl)))))))))

pub not-live : (a : Account) (id : ℕ) (rows : List (Bool × ℕ)) → is_live id a.log ≡ false → on_live a id rows ≡ None
not-live a id rows l = rw l refl

pub on-live : (a : Account) (id : ℕ) (rows : List (Bool × ℕ)) → is_live id a.log ≡ true → with_stream id (first_row rows) ≡ on_live a id rows
on-live a id rows l = rw l refl

same-id : (t : Stream) (id : ℕ) (a : Account) → t ≡ stream_of_log id a → t.id ≡ id
unfolding stream_of_log
same-id t id a e = ap (λ s. s.id) e

-- rows of a stream that is found, judged by its own number
pub judged : (rows : ℕ → List (Bool × ℕ)) (t : Stream) (id : ℕ) (a : Account) (code : Option ℕ) → (is_live id a.log ≡ true) × (t ≡ stream_of_log id a)
    → (t ≡ stream_of_log t.id a → code ≡ first_row (rows t.id)) → with_stream id code ≡ on_live a id (rows id)
judged rows t id a code x f =
    let e : t.id ≡ id = same-id t id a x.1 in
    ap (with_stream id) (f (x.1 ∙ ap (λ n. stream_of_log n a) (sym e)) ∙ ap (λ n. first_row (rows n)) e) ∙ on-live a id (rows id) x.0

-- What the state says of the account

pub seen-first : (s : State) (a : Account) → s ≡ record (seen a) { table = s.table } → s.first ≡ is_first a
unfolding seen
seen-first s a e = ap (λ t. t.first) e

pub seen-block : (s : State) (a : Account) → s ≡ record (seen a) { table = s.table } → s.block ≡ open_block a.log
unfolding seen
seen-block s a e = ap (λ t. t.block) e

pub seen-streams : (s : State) (a : Account) → s ≡ record (seen a) { table = s.table } → s.streams ≡ streams a
unfolding seen
seen-streams s a e = ap (λ t. t.streams) e

pub seen-window : (s : State) (a : Account) → s ≡ record (seen a) { table = s.table } → s.window ≡ connection_window a
unfolding seen
seen-window s a e = ap (λ t. t.window) e

pub seen-receive : (s : State) (a : Account) → s ≡ record (seen a) { table = s.table } → s.receive ≡ receiving_window 0 a.log
unfolding seen
seen-receive s a e = ap (λ t. t.receive) e

pub seen-unreturned : (s : State) (a : Account) → s ≡ record (seen a) { table = s.table } → s.unreturned ≡ unreturned 0 a.log
unfolding seen
seen-unreturned s a e = ap (λ t. t.unreturned) e

pub seen-initial : (s : State) (a : Account) → s ≡ record (seen a) { table = s.table } → s.initial ≡ initial_window a.log
unfolding seen
seen-initial s a e = ap (λ t. t.initial) e

-- The error of a frame that is neither DATA nor WINDOW_UPDATE

abbrev pub IsPlain : Frame → Type 0
IsPlain (frame.Data id bytes last size) = ⊥
IsPlain (frame.Window id n) = ⊥
IsPlain f = Unit {0}

plain-fault : (a : Account) (f : Frame) → IsPlain f → stream_fault a f ≡ fault_of_block a (fields_or_none (decoded_with a.log f)) (whole_block a.log f)
unfolding stream_fault
plain-fault a (frame.Data id bytes last size) p = absurd p
plain-fault a (frame.Window id n) p = absurd p
plain-fault a (frame.Headers id part last ends) p = refl
plain-fault a (frame.Priority id) p = refl
plain-fault a (frame.Reset id code) p = refl
plain-fault a (frame.Settings list) p = refl
plain-fault a frame.SettingsAck p = refl
plain-fault a (frame.Push id) p = refl
plain-fault a (frame.Ping ack bytes) p = refl
plain-fault a (frame.GoAway last code) p = refl
plain-fault a (frame.Continuation id part ends) p = refl
plain-fault a (frame.Unknown kind) p = refl

pub no-fault : (a : Account) (f : Frame) → IsPlain f → whole_block a.log f ≡ None → None ≡ stream_fault a f
no-fault a f p w = sym (plain-fault a f p ∙ ap (fault_of_block a (fields_or_none (decoded_with a.log f))) w)

pub fault-of-block : (a : Account) (f : Frame) (o : OpenBlock) (fields : List Field) (x : Option (ℕ × ℕ)) → IsPlain f → whole_block a.log f ≡ Some o
    → fields_or_none (decoded_with a.log f) ≡ fields → x ≡ on_live a o.stream (block_rows a o fields) → x ≡ stream_fault a f
fault-of-block a f o fields x p w d e =
    e ∙ ap (λ xs. on_live a o.stream (block_rows a o xs)) (sym d) ∙ sym (plain-fault a f p ∙ ap (fault_of_block a (fields_or_none (decoded_with a.log f))) w)

pub plain : (f : Frame) → ((id : ℕ) (bytes : List ℕ) (last : Bool) (size : ℕ) → f ≡ frame.Data id bytes last size → ⊥)
    → ((id n : ℕ) → f ≡ frame.Window id n → ⊥) → IsPlain f
plain (frame.Data id bytes last size) d w = d id bytes last size refl
plain (frame.Window id n) d w = w id n refl
plain (frame.Headers id part last ends) d w = tt
plain (frame.Priority id) d w = tt
plain (frame.Reset id code) d w = tt
plain (frame.Settings list) d w = tt
plain frame.SettingsAck d w = tt
plain (frame.Push id) d w = tt
plain (frame.Ping ack bytes) d w = tt
plain (frame.GoAway last code) d w = tt
plain (frame.Continuation id part ends) d w = tt
plain (frame.Unknown kind) d w = tt

-- The window update of a stream

peer-ended : (t : Stream) (id : ℕ) (a : Account) → t ≡ stream_of_log id a → t.peer_ended ≡ is_ended_by_peer id a.log
unfolding stream_of_log
peer-ended t id a e = ap (λ s. s.peer_ended) e

pub its-unreturned : (t : Stream) (id : ℕ) (a : Account) → t ≡ stream_of_log id a → t.unreturned ≡ unreturned id a.log
unfolding stream_of_log
its-unreturned t id a e = ap (λ s. s.unreturned) e

-- a stream that isn't live, or isn't open from the peer, is owed none
pub owed-none : (a : Account) (id : ℕ) (last : Bool) (xs : List Frame) → is_live id a.log ≡ false → [] ≡ (if is_open_from_peer a id last then xs else [])
owed-none a id last xs l = rw l refl

shut : {A : Type 0} (l p h : Bool) (xs : List A) → (l || p || h) ≡ true → [] ≡ (if (true && not l && not p && not h) then xs else [])
shut true p h xs e = refl
shut false true h xs e = refl
shut false false true xs e = refl
shut false false false xs e = absurd cc

pub owed-shut : (a : Account) (id : ℕ) (last : Bool) (t : Stream) (h : Bool) (xs : List Frame) → (is_live id a.log ≡ true) × (t ≡ stream_of_log id a)
    → h ≡ is_headless a id → (last || t.peer_ended || h) ≡ true → [] ≡ (if is_open_from_peer a id last then xs else [])
owed-shut a id last t h xs x k e =
    rw x.0 (rw (sym (peer-ended t id a x.1)) (rw (sym k) (shut last t.peer_ended h xs e)))

opened : {A : Type 0} (l p h : Bool) (xs : List A) → (l || p || h) ≡ false → xs ≡ (if (true && not l && not p && not h) then xs else [])
opened true p h xs e = absurd cc
opened false true h xs e = absurd cc
opened false false true xs e = absurd cc
opened false false false xs e = refl

pub owed-open : (a : Account) (id size : ℕ) (last : Bool) (t : Stream) (h : Bool) (xs : List Frame) → (is_live id a.log ≡ true) × (t ≡ stream_of_log id a)
    → h ≡ is_headless a id → (last || t.peer_ended || h) ≡ false
    → xs ≡ (if nat_le 32768 (t.unreturned + size) then frame.Window id (t.unreturned + size) ∷ [] else [])
    → xs ≡ (if is_open_from_peer a id last then update id size a.log else [])
owed-open a id size last t h xs x k l e =
    e ∙ ap (λ n. if nat_le 32768 (n + size) then frame.Window id (n + size) ∷ [] else []) (its-unreturned t id a x.1)
    ∙ rw x.0 (rw (sym (peer-ended t id a x.1)) (rw (sym k) (opened last t.peer_ended h (update id size a.log) l)))

-- What is owed is what is due, and then RST_STREAM
pub owed-parts : (a : Account) (f : Frame) → owed_for a f ≡ due_frames a f ++ reset_for (stream_fault a f)
unfolding owed_for stream_fault
owed-parts a (frame.Data id bytes last size) = refl
owed-parts a (frame.Window id n) = refl
owed-parts a (frame.Headers id part last ends) = refl
owed-parts a (frame.Priority id) = refl
owed-parts a (frame.Reset id code) = refl
owed-parts a (frame.Settings list) = refl
owed-parts a frame.SettingsAck = refl
owed-parts a (frame.Push id) = refl
owed-parts a (frame.Ping true bytes) = refl
owed-parts a (frame.Ping false bytes) = refl
owed-parts a (frame.GoAway last code) = refl
owed-parts a (frame.Continuation id part ends) = refl
owed-parts a (frame.Unknown kind) = refl
