-- A frame is owed: how what is kept changes, and that the account stays valid.
use Rattle.std.proofs.Common.{◌≡◌, ℕ, zero, suc, ◌+◌, ◌-◌, ◌≤◌, Bool, true, false, List, [], ◌∷◌, ◌++◌, Some, refl, sym, ◌∙◌, ap, subst, if◌then◌else◌, ◌==◌, ◌&&◌, not, arith}
use Rattle.std.specs.Prelude.{sum_by}
use Rattle.std.proofs.lemmas.Bool.{eq-eqb, ne_eqb, true≢false}
use Rattle.std.proofs.lemmas.List.Sums.{sum_by-cons, sum_by_push}
use Rattle.std.proofs.lemmas.List.Elements.{All-push}
use Rattle.h2_frames.specs.declared.frame.Frame.{Frame}
use Rattle.h2_frames.specs.declared.frame.Frame.TheVariants as frame
use Rattle.h2_model.specs.declared.stream.Stream.{Stream}
use Rattle.h2_model.specs.Log.{LogEntry, Log, Owed, stream_of, total}
use Rattle.h2_model.specs.Streams.{opened, is_reset, has_head}
use Rattle.h2_model.specs.Blocks.{open_block}
use Rattle.h2_model.specs.Queue.{Waiting, is_data, has_bytes, data_in, queued, entered, fresh, with_place}
use Rattle.h2_model.specs.Account.{Account, is_headless}
use Rattle.h2_model.specs.Windows.{increment, data_given, data_sent, data_received, increment_given, increment_owed, held_data}
use Rattle.h2_model.specs.Calls.{is_window}
use Rattle.h2_model.specs.History.{noted, owing, owing_all, hold, queue_with, frame_in}
use Rattle.h2_model.specs.State.{seen, stream_of_log}
use Rattle.h2_model.specs.Moves.{charged, with_update, resetting, queueing, holding, owing_frame, kept_waiting}
use Rattle.h2_model.specs.Valid.{Valid, is_of_opened, is_lost, is_lost_entry, is_update_owed, updates_in, update_of}
use Rattle.h2_laws_log.specs.Steps.{reset_by, without_waiting, without_held, owing_frames}
use Rattle.h2_laws_log.proofs.Drops.{held-sum, entry_data, updates-entered}
use Rattle.h2_laws_log.proofs.Lives.{Same, same-stream, same-untouched, stream-moved, streams-stay, moved-on}
use Rattle.h2_laws_log.proofs.Entries.{apart, with_entry, noted-is, same-entry, nothing-more, Fits, valid-noted}
use Rattle.h2_laws_log.proofs.Receives.{window-stays, with-parts, quiet-parts}
use Rattle.h2_laws_log.proofs.Reports.{reset-parts}
use Rattle.h2_laws_log.proofs.Queues.{queued-entered, updates-kept, all-entered}
use Rattle.h2_laws_log.proofs.Lists.{number-swapped}

-- A frame that is no DATA brings no bytes

pub no-bytes : (f : Frame) → is_data f ≡ false → has_bytes f ≡ false
no-bytes (frame.Data id bytes last size) d = absurd (true≢false d)
no-bytes _ d = refl

pub no-data : (f : Frame) (id : ℕ) → is_data f ≡ false → data_in id f ≡ 0
no-data (frame.Data n bytes last size) id d = absurd (true≢false d)
no-data _ id d = refl

no-longer : (f : Frame) (id : ℕ) (queue : List Waiting) → is_data f ≡ false → queued id (entered f queue) ≡ queued id queue
no-longer f id queue d = let z : data_in id f ≡ 0 = no-data f id d in queued-entered id f queue ∙ by (data_in id f) z
  where
    by : (n : ℕ) → n ≡ 0 → n + queued id queue ≡ queued id queue
    by n z = omega arith

-- On a stream whose head wasn't handed over

held-push : (id : ℕ) (f : Frame) (held : List LogEntry) → held_data id (held ++ Owed f ∷ []) ≡ held_data id held
held-push id f held = held-sum id (held ++ Owed f ∷ []) ∙ sum_by_push (entry_data id) held (Owed f) ∙ by (sum_by (entry_data id) held) (held_data id held) (held-sum id held)
  where
    by : (n m : ℕ) → m ≡ n → n + 0 ≡ m
    by n m e = omega arith

same-hold : (id : ℕ) (f : Frame) (a : Account) → Same id a (hold (Owed f) a)
same-hold id f a = record {
  sums = record { increments = refl; sent = ap (λ n. total (data_given id) a.log + queued id a.waiting + n + held_data id a.lost) (held-push id f a.held); received = refl; given = refl; owed = refl };
  marks = record { opened = refl; reset = refl; peer_ended = refl; here_ended = refl; heads = refl };
}

holds : (f : Frame) (a : Account) → Valid a → seen (hold (Owed f) a) ≡ holding (Owed f) (seen a)
unfolding seen
holds f a v =
    let b : Account = hold (Owed f) a in
    with-parts (seen b) (window-stays a b refl (same-hold 0 f a).sums.sent) refl refl (streams-stay a b v.descends refl (λ id z. same-hold id f a))

valid-hold : (f : Frame) (a : Account) → Valid a → is_of_opened a.log (stream_of f) ≡ true → is_data f ≡ false → is_window f ≡ false → Valid (hold (Owed f) a)
valid-hold f a v s d w = record {
  descends = v.descends;
  untouched = λ id p u. same-untouched id a (hold (Owed f) a) (same-hold id f a) (v.untouched id p u);
  waiting = v.waiting;
  held = All-push (λ e. is_of_opened a.log (stream_of (frame_in e)) ≡ true) a.held (Owed f) v.held s;
  waiting_kept = v.waiting_kept;
  held_kept = All-push (λ e. is_lost_entry a.log e ≡ false) a.held (Owed f) v.held_kept (rw (no-bytes f d) refl);
  held_owed = All-push (λ e. is_update_owed e ≡ false) a.held (Owed f) v.held_owed (no-update f w);
  received = v.received;
  received_on = v.received_on;
  updates = v.updates;
  returned = v.returned;
}
  where
    no-update : (f : Frame) → is_window f ≡ false → is_update_owed (Owed f) ≡ false
    no-update (frame.Window id n) w = absurd (true≢false w)
    no-update _ w = refl

-- On another

-- the account with a frame that is owed
abbrev owed_account : Frame → Account → Account
owed_account f a = with_entry (Owed f) a (entered f (without_waiting (reset_by (Owed f)) a.waiting)) (without_held (reset_by (Owed f)) a.held)

queued-is : (f : Frame) (a : Account) → Valid a → queue_with f (noted (Owed f) a) ≡ owed_account f a
queued-is f a v = ap (queue_with f) (noted-is (Owed f) a v)

less-taken : (r o o' n : ℕ) → o' ≡ n + o → r - o' ≡ r - o - n
less-taken r o o' n e = omega arith

owed-more : (k n : ℕ) (log : Log) → total (increment_owed k) (Owed (frame.Window k n) ∷ log) ≡ n + total (increment_owed k) log
owed-more k n log = sum_by-cons (increment_owed k) (Owed (frame.Window k n)) log ∙ rw (eq-eqb k k refl) refl

-- a window update
update-others : (k n : ℕ) (a : Account) (id : ℕ) → (id == 0) ≡ false → (id == k) ≡ false → Same id a (owed_account (frame.Window k n) a)
update-others k n a id z s = same-entry id (Owed (frame.Window k n)) a (entered (frame.Window k n) a.waiting) a.held refl (apart id (Owed (frame.Window k n)) z (number-swapped k id ∙ s))
    (no-longer (frame.Window k n) id a.waiting refl) refl

update-sent : (id k n : ℕ) (a : Account) → data_sent id (owed_account (frame.Window k n) a) ≡ data_sent id a
update-sent id k n a = rw (nothing-more (data_given id) (Owed (frame.Window k n)) a.log refl, no-longer (frame.Window k n) id a.waiting refl) refl

owes-connection : (n : ℕ) (a : Account) → Valid a → seen (owed_account (frame.Window zero n) a) ≡ queueing (frame.Window zero n) (charged (frame.Window zero n) (seen a))
unfolding seen charged
owes-connection n a v =
    let e : LogEntry = Owed (frame.Window zero n) in
    let b : Account = owed_account (frame.Window zero n) a in
    with-parts (seen b)
    (window-stays a b (nothing-more (increment 0) e a.log refl) (update-sent 0 zero n a))
    (rw (nothing-more (increment_given 0) e a.log refl, nothing-more (data_received 0) e a.log refl) refl)
    (rw (nothing-more (data_received 0) e a.log refl) (less-taken (total (data_received 0) a.log) (total (increment_owed 0) a.log) _ n (owed-more 0 n a.log)))
    (streams-stay a b v.descends refl (λ id z. update-others zero n a id z z))

stream-with-update : (k n : ℕ) (a : Account) → with_update n (stream_of_log k a) ≡ Some (stream_of_log k (owed_account (frame.Window k n) a))
unfolding stream_of_log
stream-with-update k n a =
    let e : LogEntry = Owed (frame.Window k n) in
    let b : Account = owed_account (frame.Window k n) a in
    let s : Stream = stream_of_log k a in
    ap (λ t. Some t) (sym (same-stream (record s { unreturned = s.unreturned - n }) (stream_of_log k b) refl refl refl refl
    (rw (nothing-more (increment k) e a.log refl, update-sent k k n a) refl)
    (rw (nothing-more (increment_given k) e a.log refl, nothing-more (data_received k) e a.log refl) refl)
    (rw (nothing-more (data_received k) e a.log refl) (less-taken (total (data_received k) a.log) (total (increment_owed k) a.log) _ n (owed-more k n a.log)))))

owes-update : (id n : ℕ) (a : Account) → Valid a → seen (owed_account (frame.Window (suc id) n) a) ≡ queueing (frame.Window (suc id) n) (charged (frame.Window (suc id) n) (seen a))
unfolding seen charged
owes-update id n a v =
    let k : ℕ = suc id in
    let e : LogEntry = Owed (frame.Window k n) in
    let b : Account = owed_account (frame.Window k n) a in
    let z : (k == 0) ≡ false = ne_eqb k 0 (λ z. omega (arith, z)) in
    with-parts (seen b)
    (window-stays a b (nothing-more (increment 0) e a.log refl) (update-sent 0 k n a))
    (rw (nothing-more (increment_given 0) e a.log refl, nothing-more (data_received 0) e a.log refl) refl)
    (rw (nothing-more (data_received 0) e a.log refl, nothing-more (increment_owed 0) e a.log (rw z refl)) refl)
    (stream-moved k (with_update n) a b v.descends refl (update-others k n a)
    (λ l. moved-on k a b (with_update n) refl refl refl refl (stream-with-update k n a)))

-- a reset
owes-reset : (k code : ℕ) (a : Account) → Valid a → seen (owed_account (frame.Reset k code) a) ≡ queueing (frame.Reset k code) (charged (frame.Reset k code) (seen a))
unfolding seen charged resetting
owes-reset k code a v =
    reset-parts (seen (owed_account (frame.Reset k code) a)) (Owed (frame.Reset k code)) k a (entered (frame.Reset k code) (kept_waiting k a.waiting)) v refl refl (eq-eqb k k refl)
    (record { increments = refl; sent = refl; received = refl; given = refl; owed = refl })
    (λ id. no-longer (frame.Reset k code) id (kept_waiting k a.waiting) refl)

owes-entry : (f : Frame) (a : Account) → Valid a → is_data f ≡ false → seen (owed_account f a) ≡ queueing f (charged f (seen a))
unfolding seen charged
owes-entry (frame.Data id bytes last size) a v d = absurd (true≢false d)
owes-entry (frame.Window zero n) a v d = owes-connection n a v
owes-entry (frame.Window (suc id) n) a v d = owes-update id n a v
owes-entry (frame.Reset k code) a v d = owes-reset k code a v
owes-entry f a v d = quiet-parts (seen (owed_account f a)) (Owed f) a (entered f a.waiting) v refl
    (λ id. record { reset = refl; peer_ended = refl; here_ended = refl; heads = λ es. refl; increments = refl; sent = refl; received = refl; given = refl; owed = refl })
    (λ id. no-longer f id a.waiting refl)

-- what is kept after a frame was owed
pub owes : (f : Frame) (a : Account) → Valid a → is_data f ≡ false → seen (owing f a) ≡ owing_frame (is_headless a (stream_of f)) f (seen a)
unfolding owing owing_frame
owes f a v d = by (is_headless a (stream_of f))
  where
    by : (x : Bool) → seen (if x then hold (Owed f) a else queue_with f (noted (Owed f) a)) ≡ (if x then holding (Owed f) (seen a) else queueing f (charged f (seen a)))
    by true = holds f a v
    by false = ap seen (queued-is f a v) ∙ owes-entry f a v d

-- The account stays valid

same-queue : (id : ℕ) (f : Frame) (a : Account) → is_data f ≡ false → Same id a (queue_with f a)
same-queue id f a d = record {
  sums = record { increments = refl; sent = ap (λ n. total (data_given id) a.log + n + held_data id a.held + held_data id a.lost) (no-longer f id a.waiting d); received = refl; given = refl; owed = refl };
  marks = record { opened = refl; reset = refl; peer_ended = refl; here_ended = refl; heads = refl };
}

fixed-kept : (log : Log) (w : Waiting) → is_lost log (with_place w) ≡ false
fixed-kept log w = by (is_data w.frame) (has_bytes w.frame) (is_reset (stream_of w.frame) log)
  where
    by : (d b r : Bool) → ((d && not true) && b && r) ≡ false
    by true b r = refl
    by false b r = refl

fresh-kept : (log : Log) (f : Frame) → is_data f ≡ false → is_lost log (fresh f) ≡ false
fresh-kept log f d = rw d refl

valid-queue : (f : Frame) (a : Account) → Valid a → is_of_opened a.log (stream_of f) ≡ true → is_data f ≡ false
    → ((id : ℕ) → total (increment_given id) a.log + (update_of id (fresh f) + updates_in id a.waiting) ≤ total (increment_owed id) a.log) → Valid (queue_with f a)
valid-queue f a v s d u = record {
  descends = v.descends;
  untouched = λ id p o. same-untouched id a (queue_with f a) (same-queue id f a d) (v.untouched id p o);
  waiting = all-entered (λ w. is_of_opened a.log (stream_of w.frame) ≡ true) (λ w h. h) f a.waiting s v.waiting;
  held = v.held;
  waiting_kept = all-entered (λ w. is_lost a.log w ≡ false) (λ w h. fixed-kept a.log w) f a.waiting (fresh-kept a.log f d) v.waiting_kept;
  held_kept = v.held_kept;
  held_owed = v.held_owed;
  received = v.received;
  received_on = v.received_on;
  updates = λ id. subst (λ n. total (increment_given id) a.log + n ≤ total (increment_owed id) a.log) (sym (updates-entered id f a.waiting)) (u id);
  returned = v.returned;
}

-- what may be owed: no DATA, on the connection or an opened stream, and no window update on a headless one
pub record MayBeOwed (f : Frame) (a : Account) : Type 0 where
  pub no_data : is_data f ≡ false
  pub stream : is_of_opened a.log (stream_of f) ≡ true
  pub headed : is_headless a (stream_of f) ≡ true → is_window f ≡ false

owed-fits : (f : Frame) (a : Account) → Valid a → ((id : ℕ) → increment_owed id (Owed f) + total (increment_owed id) a.log ≤ total (data_received id) a.log) → Fits (Owed f) a
owed-fits f a v p =
    let q : Fits (Owed f) a = record {
      received = rw (nothing-more (data_received 0) (Owed f) a.log refl, nothing-more (increment_given 0) (Owed f) a.log refl) v.received;
      received_on = λ id l. rw (nothing-more (data_received id) (Owed f) a.log refl, nothing-more (increment_given id) (Owed f) a.log refl) (v.received_on id l);
      returned = λ id. rw (nothing-more (data_received id) (Owed f) a.log refl, sum_by-cons (increment_owed id) (Owed f) a.log) (p id);
    } in q

owed-updates : (id : ℕ) (f : Frame) (a : Account) → Valid a
    → total (increment_given id) (noted (Owed f) a).log + (update_of id (fresh f) + updates_in id (noted (Owed f) a).waiting) ≤ total (increment_owed id) (noted (Owed f) a).log
unfolding noted
owed-updates id f a v =
    let less : updates_in id (noted (Owed f) a).waiting ≤ updates_in id a.waiting = updates-kept id (λ w. not (is_lost (Owed f ∷ a.log) w)) a.waiting in
    rw (nothing-more (increment_given id) (Owed f) a.log refl, sum_by-cons (increment_owed id) (Owed f) a.log)
    (by (total (increment_given id) a.log) (increment_owed id (Owed f)) (updates_in id a.waiting) _ (total (increment_owed id) a.log) less (v.updates id))
  where
    by : (g i u u' o : ℕ) → u' ≤ u → g + u ≤ o → g + (i + u') ≤ i + o
    by g i u u' o l m = omega arith

pub owes-valid : (f : Frame) (a : Account) → Valid a → MayBeOwed f a
    → ((id : ℕ) → increment_owed id (Owed f) + total (increment_owed id) a.log ≤ total (data_received id) a.log) → Valid (owing f a)
unfolding owing noted
owes-valid f a v m p = by (is_headless a (stream_of f)) refl
  where
    by : (x : Bool) → is_headless a (stream_of f) ≡ x → Valid (if x then hold (Owed f) a else queue_with f (noted (Owed f) a))
    by true h = valid-hold f a v m.stream m.no_data (m.headed h)
    by false h =
        let b : Account = noted (Owed f) a in
        let vb : Valid b = valid-noted (Owed f) a v refl m.stream (λ id. refl) (owed-fits f a v p) in
        valid-queue f b vb m.stream m.no_data (λ id. owed-updates id f a v)

-- Frames in a row

-- the increments of frames
abbrev pub increments_of : ℕ → List Frame → ℕ
increments_of id [] = 0
increments_of id (f ∷ fs) = increment_owed id (Owed f) + increments_of id fs

abbrev pub AllMayBeOwed : Account → List Frame → Type 0
AllMayBeOwed a [] = Unit {0}
AllMayBeOwed a (f ∷ fs) = MayBeOwed f a × AllMayBeOwed a fs

-- which streams are opened, and which of them have a head, stays
pub record SameStreams (a b : Account) : Type 0 where
  pub client : b.client ≡ a.client
  pub opened : opened b.log ≡ opened a.log
  pub heads : (id : ℕ) → has_head id b.log ≡ has_head id a.log

-- what is owed leaves the streams that are opened, their heads and the block
pub record Stays (a b : Account) : Type 0 where
  pub client : b.client ≡ a.client
  pub opened : opened b.log ≡ opened a.log
  pub heads : (id : ℕ) → has_head id b.log ≡ has_head id a.log
  pub block : open_block b.log ≡ open_block a.log

same-streams : (a b : Account) → Stays a b → SameStreams a b
same-streams a b k = record { client = k.client; opened = k.opened; heads = k.heads }

pub same-headless : (a b : Account) → SameStreams a b → (id : ℕ) → is_headless b id ≡ is_headless a id
same-headless a b k id = rw (k.client, k.opened, k.heads id) refl

pub owing-stays : (f : Frame) (a : Account) → Stays a (owing f a)
unfolding owing noted
owing-stays f a = by (is_headless a (stream_of f))
  where
    by : (x : Bool) → Stays a (if x then hold (Owed f) a else queue_with f (noted (Owed f) a))
    by true = record { client = refl; opened = refl; heads = λ id. refl; block = refl }
    by false = record { client = refl; opened = refl; heads = λ id. refl; block = refl }

still-may : (f : Frame) (a b : Account) → SameStreams a b → MayBeOwed f a → MayBeOwed f b
still-may f a b k m = record {
  no_data = m.no_data;
  stream = rw k.opened m.stream;
  headed = λ h. m.headed (sym (same-headless a b k (stream_of f)) ∙ h);
}

pub still-may-all : (fs : List Frame) (a b : Account) → SameStreams a b → AllMayBeOwed a fs → AllMayBeOwed b fs
still-may-all [] a b k m = tt
still-may-all (f ∷ fs) a b k m = (still-may f a b k m.0, still-may-all fs a b k m.1)

-- what is left to give back after one frame
rest-payable : (id : ℕ) (f : Frame) (fs : List Frame) (a : Account)
    → increments_of id (f ∷ fs) + total (increment_owed id) a.log ≤ total (data_received id) a.log
    → increments_of id fs + total (increment_owed id) (owing f a).log ≤ total (data_received id) (owing f a).log
unfolding owing noted
rest-payable id f fs a p = by (is_headless a (stream_of f))
  where
    more : (i j o r : ℕ) → i + j + o ≤ r → j + o ≤ r
    more i j o r l = omega arith

    moved : (i j o r : ℕ) → i + j + o ≤ r → j + (i + o) ≤ r
    moved i j o r l = omega arith

    by : (x : Bool) → let b : Account = if x then hold (Owed f) a else queue_with f (noted (Owed f) a) in
        increments_of id fs + total (increment_owed id) b.log ≤ total (data_received id) b.log
    by true = more (increment_owed id (Owed f)) (increments_of id fs) (total (increment_owed id) a.log) (total (data_received id) a.log) p
    by false = rw (nothing-more (data_received id) (Owed f) a.log refl, sum_by-cons (increment_owed id) (Owed f) a.log)
        (moved (increment_owed id (Owed f)) (increments_of id fs) (total (increment_owed id) a.log) (total (data_received id) a.log) p)

first-payable : (id : ℕ) (f : Frame) (fs : List Frame) (a : Account)
    → increments_of id (f ∷ fs) + total (increment_owed id) a.log ≤ total (data_received id) a.log
    → increment_owed id (Owed f) + total (increment_owed id) a.log ≤ total (data_received id) a.log
first-payable id f fs a p = by (increment_owed id (Owed f)) (increments_of id fs) (total (increment_owed id) a.log) (total (data_received id) a.log) p
  where
    by : (i j o r : ℕ) → i + j + o ≤ r → i + o ≤ r
    by i j o r l = omega arith

pub record OwedAll (fs : List Frame) (headless : ℕ → Bool) (a : Account) : Type 0 where
  pub state : seen (owing_all fs a) ≡ owing_frames headless fs (seen a)
  pub valid : Valid (owing_all fs a)
  pub stays : Stays a (owing_all fs a)

pub owes-all : (fs : List Frame) (headless : ℕ → Bool) (a : Account) → Valid a → AllMayBeOwed a fs
    → ((id : ℕ) → increments_of id fs + total (increment_owed id) a.log ≤ total (data_received id) a.log)
    → ((id : ℕ) → is_headless a id ≡ headless id) → OwedAll fs headless a
owes-all [] headless a v m p h = record { state = refl; valid = v; stays = record { client = refl; opened = refl; heads = λ id. refl; block = refl } }
owes-all (f ∷ fs) headless a v m p h =
    let b : Account = owing f a in
    let k : Stays a b = owing-stays f a in
    let vb : Valid b = owes-valid f a v m.0 (λ id. first-payable id f fs a (p id)) in
    let rest : OwedAll fs headless b = owes-all fs headless b vb (still-may-all fs a b (same-streams a b k) m.1) (λ id. rest-payable id f fs a (p id)) (λ id. same-headless a b (same-streams a b k) id ∙ h id) in
    record {
      state = rest.state ∙ ap (owing_frames headless fs) (owes f a v m.0.no_data ∙ ap (λ x. owing_frame x f (seen a)) (h (stream_of f)));
      valid = rest.valid;
      stays = record {
        client = rest.stays.client ∙ k.client;
        opened = rest.stays.opened ∙ k.opened;
        heads = λ id. rest.stays.heads id ∙ k.heads id;
        block = rest.stays.block ∙ k.block;
      };
    }
