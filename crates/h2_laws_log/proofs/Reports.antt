-- A block is whole, or an event is told: how what is kept changes, and that the account stays valid.
use Rattle.std.proofs.Common.{◌≡◌, ℕ, ◌+◌, Bool, true, false, List, [], ◌∷◌, ◌++◌, Option, Some, None, refl, sym, ◌∙◌, ap, ◌==◌, ◌&&◌, ◌||◌}
use Rattle.std.specs.Prelude.{pos, ◌+ℤ◌}
use Rattle.std.specs.List.{list_all}
use Rattle.std.proofs.lemmas.Bool.{eq-eqb}
use Rattle.ext_msgs.specs.declared.lists.Field.{Field}
use Rattle.h2_model.specs.declared.answers.Event.{Event}
use Rattle.h2_model.specs.declared.answers.Event.TheVariants as event
use Rattle.h2_model.specs.declared.stream.Stream.{Stream}
use Rattle.h2_model.specs.Log.{LogEntry, Log, Block, Reported, stream_of_event, total}
use Rattle.h2_model.specs.Streams.{opened, is_ended_by_peer, heads_got, has_head, opening, resets}
use Rattle.h2_model.specs.StreamFaults.{is_interim}
use Rattle.h2_model.specs.Blocks.{OpenBlock, open_block, table_after}
use Rattle.h2_model.specs.Queue.{Waiting, queued}
use Rattle.h2_model.specs.Account.{Account}
use Rattle.h2_model.specs.Windows.{increment, data_given, data_received, increment_given, increment_owed, connection_window, window_from, receiving_window, unreturned, held_data}
use Rattle.h2_model.specs.History.{noted, with_block, reporting, reporting_all}
use Rattle.h2_model.specs.State.{State, seen, live, streams, stream_of_log}
use Rattle.h2_model.specs.Moves.{decoding, adjusted, with_end, with_head, unless_over, resetting, reported, telling, telling_all, kept_waiting, kept_held, dropped_bytes}
use Rattle.h2_model.specs.Valid.{Valid, is_of_opened}
use Rattle.h2_laws_log.specs.Steps.{about}
use Rattle.h2_laws_log.proofs.Numbers.{given-back}
use Rattle.h2_laws_log.proofs.Drops.{queued-kept, held-kept, queued-less, held-less}
use Rattle.h2_laws_log.proofs.Lives.{SameSums, same-untouched, stream-moved, stream-marked, moved-over, moved-on, moved-off}
use Rattle.h2_laws_log.proofs.Entries.{apart, Silent, with_entry, noted-is, same-entry, same-sums, same-opened, nothing-more, fits, valid-noted}
use Rattle.h2_laws_log.proofs.Receives.{window-stays, receive-stays, unreturned-stays, with-parts, quiet-parts, others}
use Rattle.h2_laws_log.proofs.Lists.{number-swapped}

-- an entry that adds to no sum
silent-parts : (s : State) (e : LogEntry) (a : Account) (x : List Stream) → ((id : ℕ) → Silent id e) → streams (with_entry e a a.waiting a.held) ≡ x
    → let b : Account = with_entry e a a.waiting a.held in
    record s { window = connection_window b; receive = receiving_window 0 b.log; unreturned = unreturned 0 b.log; streams = streams b }
    ≡ record s { window = connection_window a; receive = receiving_window 0 a.log; unreturned = unreturned 0 a.log; streams = x }
silent-parts s e a x q m =
    let b : Account = with_entry e a a.waiting a.held in
    let sums : SameSums 0 a b = same-sums 0 e a a.waiting a.held (q 0) refl refl in
    with-parts s (window-stays a b sums.increments sums.sent) (receive-stays a b sums) (unreturned-stays a b sums) m

-- A block is whole

block-silent : (k : ℕ) (bytes : List ℕ) (last : Bool) (id : ℕ) → Silent id (Block k bytes last)
block-silent k bytes last id = record { increments = refl; sent = refl; received = refl; given = refl; owed = refl }

block-ended : (k : ℕ) (bytes : List ℕ) (last : Bool) (a : Account)
    → with_end last (stream_of_log k a) ≡ unless_over (stream_of_log k (with_entry (Block k bytes last) a a.waiting a.held))
unfolding stream_of_log
block-ended k bytes last a =
    let e : LogEntry = Block k bytes last in
    let b : Account = with_entry e a a.waiting a.held in
    let s : Stream = stream_of_log k a in
    let p : is_ended_by_peer k b.log ≡ (last || is_ended_by_peer k a.log) = rw (eq-eqb k k refl) refl in
    ap unless_over (sym (stream-marked k a b (same-sums k e a a.waiting a.held (block-silent k bytes last k) refl refl) ∙ ap (λ x. record s { peer_ended = x }) p))

decodes : (b : OpenBlock) (a : Account) → Valid a → seen (with_entry (Block b.stream b.bytes b.last) a a.waiting a.held) ≡ decoding (Some b) (seen a)
unfolding seen decoding table_after
decodes o a v =
    let e : LogEntry = Block o.stream o.bytes o.last in
    let b : Account = with_entry e a a.waiting a.held in
    silent-parts (seen b) e a _ (block-silent o.stream o.bytes o.last)
    (stream-moved o.stream (with_end o.last) a b v.descends refl (others e a refl)
    (λ l. moved-over o.stream a b o.last (with_end o.last) refl refl (rw (eq-eqb o.stream o.stream refl) refl) refl (block-ended o.stream o.bytes o.last a)))

-- what is kept after the block that a frame ended
pub block-ends : (o : Option OpenBlock) (a : Account) → Valid a → seen (with_block o a) ≡ decoding o (seen a)
unfolding decoding
block-ends None a v = refl
block-ends (Some b) a v = ap seen (noted-is (Block b.stream b.bytes b.last) a v) ∙ decodes b a v

-- a block's stream is opened
abbrev pub is_of_opened_block : Log → Option OpenBlock → Bool
is_of_opened_block log None = true
is_of_opened_block log (Some b) = is_of_opened log b.stream

pub block-valid : (o : Option OpenBlock) (a : Account) → Valid a → is_of_opened_block a.log o ≡ true → Valid (with_block o a)
block-valid None a v s = v
block-valid (Some b) a v s =
    let e : LogEntry = Block b.stream b.bytes b.last in
    valid-noted e a v refl s (λ id. refl) (fits e a v (λ id. refl) (λ id. refl))

-- A stream is reset

-- its bytes that waited give their part of the connection's window back
pub reset-parts : (s : State) (e : LogEntry) (k : ℕ) (a : Account) (w : List Waiting) → Valid a → opening e ≡ None → about e ≡ k → resets k e ≡ true → Silent 0 e
    → ((id : ℕ) → queued id w ≡ queued id (kept_waiting k a.waiting))
    → let b : Account = with_entry e a w (kept_held k a.held) in
    record s { window = connection_window b; receive = receiving_window 0 b.log; unreturned = unreturned 0 b.log; streams = streams b }
    ≡ record s { window = connection_window a +ℤ pos (dropped_bytes k (seen a)); receive = receiving_window 0 a.log; unreturned = unreturned 0 a.log; streams = adjusted k (λ t. None) (streams a) }
unfolding connection_window window_from seen
reset-parts s e k a w v o ek r q qw =
    let b : Account = with_entry e a w (kept_held k a.held) in
    with-parts s
    (rw (nothing-more (increment 0) e a.log q.increments, nothing-more (data_given 0) e a.log q.sent, qw 0)
    (given-back (65535 + total (increment 0) a.log) (total (data_given 0) a.log) (queued 0 a.waiting) (queued 0 (kept_waiting k a.waiting)) (held_data 0 a.held) (held_data 0 (kept_held k a.held)) (held_data 0 a.lost)
    (queued-less 0 k a.waiting) (held-less 0 k a.held)))
    (rw (nothing-more (increment_given 0) e a.log q.given, nothing-more (data_received 0) e a.log q.received) refl)
    (rw (nothing-more (increment_owed 0) e a.log q.owed, nothing-more (data_received 0) e a.log q.received) refl)
    (stream-moved k (λ t. None) a b v.descends (same-opened e a.log o)
    (λ id z n.
    let turned : (k == id) ≡ false = number-swapped k id ∙ n in
    same-entry id e a w (kept_held k a.held) o (apart id e z (rw ek turned)) (qw id ∙ queued-kept id k a.waiting z turned) (held-kept id k a.held z turned))
    (λ l. moved-off k a b (rw r refl)))

-- An event is told

event-silent : (e : Event) (id : ℕ) → Silent id (Reported e)
event-silent e id = record { increments = refl; sent = refl; received = refl; given = refl; owed = refl }

head-told : (k : ℕ) (fields : List Field) (last : Bool) (a : Account)
    → with_head fields (stream_of_log k a) ≡ Some (stream_of_log k (with_entry (Reported (event.Head k fields last)) a a.waiting a.held))
unfolding stream_of_log
head-told k fields last a =
    let e : LogEntry = Reported (event.Head k fields last) in
    let b : Account = with_entry e a a.waiting a.held in
    let s : Stream = stream_of_log k a in
    let i : list_all is_interim (heads_got k b.log) ≡ (is_interim fields && list_all is_interim (heads_got k a.log)) = rw (eq-eqb k k refl) refl in
    ap (λ t. Some t) (sym (stream-marked k a b (same-sums k e a a.waiting a.held (event-silent (event.Head k fields last) k) refl refl) ∙ ap (λ x. record s { interim = x }) i))

told-head : (k : ℕ) (fields : List Field) (last : Bool) (a : Account) → Valid a
    → seen (with_entry (Reported (event.Head k fields last)) a a.waiting a.held) ≡ reported (event.Head k fields last) (seen a)
unfolding seen reported
told-head k fields last a v =
    let e : LogEntry = Reported (event.Head k fields last) in
    let b : Account = with_entry e a a.waiting a.held in
    silent-parts (seen b) e a _ (event-silent (event.Head k fields last))
    (stream-moved k (with_head fields) a b v.descends refl (others e a refl)
    (λ l. moved-on k a b (with_head fields) refl refl refl refl (head-told k fields last a)))

told-reset : (k code : ℕ) (a : Account) → Valid a
    → seen (with_entry (Reported (event.Reset k code)) a (kept_waiting k a.waiting) (kept_held k a.held)) ≡ reported (event.Reset k code) (seen a)
unfolding seen reported resetting
told-reset k code a v =
    let e : LogEntry = Reported (event.Reset k code) in
    reset-parts (seen (with_entry e a (kept_waiting k a.waiting) (kept_held k a.held))) e k a (kept_waiting k a.waiting) v refl refl (eq-eqb k k refl) (event-silent (event.Reset k code) 0) (λ id. refl)

-- what is kept after an event was noted
event-noted : (e : Event) (a : Account) → Valid a → seen (noted (Reported e) a) ≡ reported e (seen a)
unfolding seen reported
event-noted (event.Head k fields last) a v = ap seen (noted-is (Reported (event.Head k fields last)) a v) ∙ told-head k fields last a v
event-noted (event.Reset k code) a v = ap seen (noted-is (Reported (event.Reset k code)) a v) ∙ told-reset k code a v
event-noted e a v = ap seen (noted-is (Reported e) a v) ∙ quiet-parts (seen (with_entry (Reported e) a a.waiting a.held)) (Reported e) a a.waiting v refl
    (λ id. record { reset = refl; peer_ended = refl; here_ended = refl; heads = λ es. refl; increments = refl; sent = refl; received = refl; given = refl; owed = refl }) (λ id. refl)

-- what is no entry and waits for no one changes nothing else
pub seen-aside : (greeted : Bool) (rest : List ℕ) (us : List Event) (a : Account) → seen (record a { greeted = greeted; rest = rest; unreported = us }) ≡ record (seen a) { unreported = us }
unfolding seen streams live stream_of_log connection_window window_from
seen-aside greeted rest us a = refl

-- what is kept after an event was told
pub tells : (e : Event) (a : Account) → Valid a → seen (reporting e a) ≡ telling e (seen a)
unfolding seen noted
tells e a v = seen-aside a.greeted a.rest (a.unreported ++ e ∷ []) (noted (Reported e) a) ∙ ap {B = State} (λ (s : State). record s { unreported = s.unreported ++ e ∷ [] }) (event-noted e a v)

pub valid-aside : (greeted : Bool) (rest : List ℕ) (us : List Event) (a : Account) → Valid a → Valid (record a { greeted = greeted; rest = rest; unreported = us })
valid-aside greeted rest us a v = record {
  descends = v.descends;
  untouched = λ id p u. same-untouched id a (record a { greeted = greeted; rest = rest; unreported = us })
      (record { sums = record { increments = refl; sent = refl; received = refl; given = refl; owed = refl }; marks = record { opened = refl; reset = refl; peer_ended = refl; here_ended = refl; heads = refl } })
      (v.untouched id p u);
  waiting = v.waiting;
  held = v.held;
  waiting_kept = v.waiting_kept;
  held_kept = v.held_kept;
  held_owed = v.held_owed;
  received = v.received;
  received_on = v.received_on;
  updates = v.updates;
  returned = v.returned;
}

pub tells-valid : (e : Event) (a : Account) → Valid a → is_of_opened a.log (stream_of_event e) ≡ true → Valid (reporting e a)
unfolding noted
tells-valid e a v s = valid-aside a.greeted a.rest (a.unreported ++ e ∷ []) (noted (Reported e) a) (valid-noted (Reported e) a v refl s (λ id. refl) (fits (Reported e) a v (λ id. refl) (λ id. refl)))

-- what events leave as it was
pub record Keeps (a b : Account) : Type 0 where
  pub client : b.client ≡ a.client
  pub opened : opened b.log ≡ opened a.log
  pub heads : (id : ℕ) → has_head id b.log ≡ has_head id a.log
  pub received : (id : ℕ) → total (data_received id) b.log ≡ total (data_received id) a.log
  pub owed : (id : ℕ) → total (increment_owed id) b.log ≡ total (increment_owed id) a.log
  pub block : open_block b.log ≡ open_block a.log

pub keeps-both : (a b c : Account) → Keeps a b → Keeps b c → Keeps a c
keeps-both a b c x y = record {
  client = y.client ∙ x.client;
  opened = y.opened ∙ x.opened;
  heads = λ id. y.heads id ∙ x.heads id;
  received = λ id. y.received id ∙ x.received id;
  owed = λ id. y.owed id ∙ x.owed id;
  block = y.block ∙ x.block;
}

tells-keeps : (e : Event) (a : Account) → Keeps a (reporting e a)
unfolding noted
tells-keeps e a = record {
  client = refl;
  opened = refl;
  heads = λ id. refl;
  received = λ id. nothing-more (data_received id) (Reported e) a.log refl;
  owed = λ id. nothing-more (increment_owed id) (Reported e) a.log refl;
  block = refl;
}

pub block-keeps : (o : Option OpenBlock) (a : Account) → Keeps a (with_block o a)
unfolding noted
block-keeps None a = record { client = refl; opened = refl; heads = λ id. refl; received = λ id. refl; owed = λ id. refl; block = refl }
block-keeps (Some b) a = record {
  client = refl;
  opened = refl;
  heads = λ id. refl;
  received = λ id. nothing-more (data_received id) (Block b.stream b.bytes b.last) a.log refl;
  owed = λ id. nothing-more (increment_owed id) (Block b.stream b.bytes b.last) a.log refl;
  block = refl;
}

abbrev pub AreOnOpened : Log → List Event → Type 0
AreOnOpened log [] = Unit {0}
AreOnOpened log (e ∷ es) = (is_of_opened log (stream_of_event e) ≡ true) × AreOnOpened log es

pub record Told (es : List Event) (a : Account) : Type 0 where
  pub state : seen (reporting_all es a) ≡ telling_all es (seen a)
  pub valid : Valid (reporting_all es a)
  pub keeps : Keeps a (reporting_all es a)

pub tells-all : (es : List Event) (a : Account) → Valid a → AreOnOpened a.log es → Told es a
unfolding noted
tells-all [] a v s = record { state = refl; valid = v; keeps = record { client = refl; opened = refl; heads = λ id. refl; received = λ id. refl; owed = λ id. refl; block = refl } }
tells-all (e ∷ es) a v s =
    let b : Account = reporting e a in
    let rest : Told es b = tells-all es b (tells-valid e a v s.0) s.1 in
    record {
      state = rest.state ∙ ap (telling_all es) (tells e a v);
      valid = rest.valid;
      keeps = keeps-both a b (reporting_all es b) (tells-keeps e a) rest.keeps;
    }
