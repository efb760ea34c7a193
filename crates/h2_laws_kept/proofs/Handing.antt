-- A frame of a live stream is handed over: what the call leaves of the account, and what becomes of the queues.
use Rattle.std.proofs.Common.{◌≡◌, ℕ, ◌+◌, ◌≤◌, ◌<◌, Bool, true, false, not, ◌&&◌, ◌||◌, List, [], ◌∷◌, ◌++◌, length, Some, None, refl, sym, ◌∙◌, ap, if◌then◌else◌, arith, le_refl, is_some, length-append, pos, ◌-ℤ◌}
use Rattle.std.proofs.lemmas.List.Sums.{sum_by-cons, sum_by-append}
use Rattle.h2_frames.specs.declared.frame.Frame.{Frame}
use Rattle.h2_frames.specs.declared.frame.Frame.TheVariants as frame
use Rattle.h2_model.specs.declared.stream.Stream.{Stream}
use Rattle.h2_model.specs.Log.{LogEntry, Handed, violation}
use Rattle.h2_model.specs.Streams.{is_live, is_ended_here}
use Rattle.h2_model.specs.Blocks.{open_block}
use Rattle.h2_model.specs.Queue.{Waiting, is_block, entered}
use Rattle.h2_model.specs.Account.{Account, is_headless}
use Rattle.h2_model.specs.History.{Call, called, frame_in, noted, handed}
use Rattle.h2_model.specs.State.{State, seen, live, stream_of_log, found}
use Rattle.h2_model.specs.Moves.{adjusted, unless_over, with_sent, handing, sending, resetting, holding, queueing, is_dropped, is_dropped_entry, kept_waiting, kept_held}
use Rattle.h2_model.proofs.Lives.{found-live}
use Rattle.h2_laws_log.proofs.Hand.{handed-is}
use Rattle.h2_laws_log.specs.Feeding.{is_feed}
use Rattle.h2_laws_log.proofs.Keeps.{keeps-called}
use Rattle.h2_laws_log.proofs.Parts.{part-called}
use Rattle.h2_laws_log.specs.Rooms.{Counted, closing, closings_waiting, closings_held, credit, credits}
use Rattle.h2_laws_log.proofs.RoomSums.{sum-entered}
use Rattle.h2_laws_kept.specs.Kept.{Kept, lacks_head}
use Rattle.h2_laws_kept.specs.StandsFor.{IsSound, KnowsHeads, Holds}
use Rattle.h2_laws_kept.proofs.Heading.{handed-heads}
use Rattle.h2_laws_kept.proofs.Holding.{Leaves, SparesTable, lacks-head}
use Rattle.h2_laws_kept.proofs.Roominess.{Pays, Comes}
use Rattle.h2_laws_kept.proofs.Sums.{left_of, one-at-most, length-entered, length-filtered, closings-filtered, credits-spent, credits-found, credit-some, length-moved}

-- The account

-- what a frame that is handed over leaves as it was
pub record Alike (a b : Account) : Type 0 where
  pub client : b.client ≡ a.client
  pub block : open_block b.log ≡ open_block a.log
  pub violation : violation b.log ≡ violation a.log
  pub heads : KnowsHeads b

pub same-alike : (a : Account) → KnowsHeads a → Alike a a
same-alike a h = record { client = refl; block = refl; violation = refl; heads = h }

pub handed-alike : (f : Frame) (a : Account) → is_block f ≡ false → KnowsHeads a → Alike a (handed f a)
unfolding noted
handed-alike f a e h = record {
  client = ap (λ b. b.client) (handed-is f a);
  block = ap (λ b. open_block b.log) (handed-is f a);
  violation = ap (λ b. violation b.log) (handed-is f a);
  heads = handed-heads f a e h;
}

-- what each call leaves beside
pub leaves : (c : Call) (a : Account) → IsSound a → is_feed c ≡ false → Counted (called c a) → Alike a (called c a)
    → Leaves a (called c a)
leaves c a s f n x = record {
  client = x.client;
  input = keeps-called c a f;
  part = part-called c a s.part;
  counted = n;
  heads = x.heads;
  block = x.block;
  sound = λ v. sym x.violation ∙ v;
}

-- The state

sending-spares : (f : Frame) → SparesTable (sending f)
unfolding sending resetting
sending-spares (frame.Data id bytes last size) t s = refl
sending-spares (frame.Headers id block last ends) t s = refl
sending-spares (frame.Reset id code) t s = refl
sending-spares f t s = refl

handing-spares : (headless : Bool) (f : Frame) → SparesTable (handing headless f)
unfolding handing
handing-spares true f t s = ap (holding (Handed f)) (sending-spares f t s)
handing-spares false f t s = ap (queueing f) (sending-spares f t s)

-- nothing is handed over after a violation
abbrev pub handing_unless : Bool → Frame → State → State
handing_unless headless f s = if is_some s.violation then s else handing headless f s

pub unless-spares : (headless : Bool) (f : Frame) → SparesTable (handing_unless headless f)
unless-spares headless f t s = by (is_some s.violation)
  where
    by : (c : Bool)
        → (if c then record s { table = t } else handing headless f (record s { table = t }))
        ≡ record (if c then s else handing headless f s) { table = t }
    by true = refl
    by false = handing-spares headless f t s

-- by what is kept
pub handing-is : (k : Kept) (a : Account) → Holds k a → (id : ℕ) (f : Frame)
    → handing_unless (lacks_head id k) f k.state ≡ handing_unless (is_headless a id) f k.state
handing-is k a h id f = ap (λ c. handing_unless c f k.state) (lacks-head k a h id)

-- The stream

pub stream-found : (k : Kept) (a : Account) → Holds k a → (id : ℕ) → is_live id a.log ≡ true
    → found id k.state.streams ≡ Some (stream_of_log id a)
unfolding seen live
stream-found k a h id l = ap (λ s. found id s.streams) h.state ∙ found-live id a ∙ rw l refl

pub stream-open : (id : ℕ) (a : Account) → is_ended_here id a.log ≡ false → (stream_of_log id a).here_ended ≡ false
unfolding stream_of_log
stream-open id a e = e

-- a live stream has room for a frame
pub room-there : (k : Kept) (a : Account) → Holds k a → (id : ℕ) → is_live id a.log ≡ true → 0 < k.room
room-there k a h id l =
    omega (arith, h.room.queue, credit-some (stream_of_log id a), credits-found id (stream_of_log id a) k.state.streams (stream-found k a h id l))

pub held-room-there : (k : Kept) (a : Account) → Holds k a → (id : ℕ) → is_live id a.log ≡ true → k.client ≡ true → 0 < k.held_room
held-room-there k a h id l c =
    omega (arith, h.room.held c, credit-some (stream_of_log id a), credits-found id (stream_of_log id a) k.state.streams (stream-found k a h id l))

-- Credits

over-left : (s : Stream) → left_of (unless_over s) ≤ credit s
over-left s = by (s.peer_ended && s.here_ended)
  where
    by : (c : Bool) → left_of (if c then None else Some s) ≤ credit s
    by true = omega arith
    by false = le_refl (credit s)

ended-less : (last h : Bool) → (if last || h then 1 else 2) ≤ (if h then 1 else 2)
ended-less true true = omega arith
ended-less true false = omega arith
ended-less false h = le_refl (if h then 1 else 2)

pub sent-left : (last : Bool) (n : ℕ) (s : Stream) → left_of (with_sent last n s) ≤ credit s
sent-left last n s = omega (arith, over-left (sent s), ended-less last s.here_ended)
  where
    sent : Stream → Stream
    sent t = record t { here_ended = last || t.here_ended; credit = t.credit -ℤ pos n }

pub end-left : (n : ℕ) (s : Stream) → s.here_ended ≡ false → left_of (with_sent true n s) + 1 ≤ credit s
end-left n s e = omega (arith, over-left sent, whole e)
  where
    sent : Stream
    sent = record s { here_ended = true; credit = s.credit -ℤ pos n }

    whole : s.here_ended ≡ false → credit s ≡ 2
    whole h = rw h refl

-- The queues

held-one : (e : LogEntry) (held : List LogEntry) → closing (frame_in e) ≡ 1
    → closings_held held + length (held ++ e ∷ []) ≤ closings_held (held ++ e ∷ []) + length held
held-one e held c = omega (
  arith,
  c,
  length-append held (e ∷ []),
  sum_by-append (λ x. closing (frame_in x)) held (e ∷ []),
  sum_by-cons (λ x. closing (frame_in x)) e [],
)

queued-one : (f : Frame) (queue : List Waiting) → closing f ≡ 1
    → closings_waiting queue + length (entered f queue) ≤ closings_waiting (entered f queue) + length queue
queued-one f queue c = omega (arith, c, length-entered f queue, sum-entered closing f queue)

pub finish-pays : (c : Bool) (id : ℕ) (t : Stream) (s : State) → found id s.streams ≡ Some t → t.here_ended ≡ false
    → Pays s (handing c (frame.Data id [] true 0) s)
unfolding handing sending
finish-pays c id t s e o = by c
  where
    spent : credits (adjusted id (with_sent true 0) s.streams) + 1 ≤ credits s.streams
    spent = credits-spent id (with_sent true 0) (sent-left true 0) t (end-left 0 t o) s.streams e

    f : Frame
    f = frame.Data id [] true 0

    by : (c : Bool) → Pays s (if c then holding (Handed f) (sending f s) else queueing f (sending f s))
    by true = record {
      queued = omega (arith, spent);
      kept = omega (arith, spent, length-append s.held (Handed f ∷ []));
      closings = le_refl (closings_waiting s.waiting + length s.waiting);
      closings_kept = held-one (Handed f) s.held refl;
    }
    by false = record {
      queued = omega (arith, spent, length-entered f s.waiting);
      kept = omega (arith, spent);
      closings = queued-one f s.waiting refl;
      closings_kept = le_refl (closings_held s.held + length s.held);
    }

pub reset-pays : (c : Bool) (id code : ℕ) (t : Stream) (s : State) → found id s.streams ≡ Some t
    → Pays s (handing c (frame.Reset id code) s)
unfolding handing sending resetting
reset-pays c id code t s e = by c
  where
    spent : credits (adjusted id (λ u. None) s.streams) + 1 ≤ credits s.streams
    spent = credits-spent id (λ u. None) (λ u. omega arith) t (credit-some t) s.streams e

    f : Frame
    f = frame.Reset id code

    fewer : closings_waiting s.waiting + length (kept_waiting id s.waiting) ≤ closings_waiting (kept_waiting id s.waiting) + length s.waiting
    fewer = closings-filtered (λ w. not (is_dropped id w)) (λ w. closing w.frame) (λ w. one-at-most w.frame) s.waiting

    fewer_held : closings_held s.held + length (kept_held id s.held) ≤ closings_held (kept_held id s.held) + length s.held
    fewer_held = closings-filtered (λ x. not (is_dropped_entry id x)) (λ x. closing (frame_in x)) (λ x. one-at-most (frame_in x)) s.held

    short : length (kept_waiting id s.waiting) ≤ length s.waiting
    short = length-filtered (λ w. not (is_dropped id w)) s.waiting

    short_held : length (kept_held id s.held) ≤ length s.held
    short_held = length-filtered (λ x. not (is_dropped_entry id x)) s.held

    by : (c : Bool) → Pays s (if c then holding (Handed f) (sending f s) else queueing f (sending f s))
    by true = record {
      queued = omega (arith, spent, short);
      kept = omega (arith, spent, short_held, length-append (kept_held id s.held) (Handed f ∷ []));
      closings = fewer;
      closings_kept = omega (arith, fewer_held, held-one (Handed f) (kept_held id s.held) refl);
    }
    by false = record {
      queued = omega (arith, spent, short, length-entered f (kept_waiting id s.waiting));
      kept = omega (arith, spent, short_held);
      closings = omega (arith, fewer, queued-one f (kept_waiting id s.waiting) refl);
      closings_kept = fewer_held;
    }

pub send-comes : (c : Bool) (id : ℕ) (bytes : List ℕ) (s : State)
    → Comes 1 s (handing c (frame.Data id bytes false (length bytes)) s)
unfolding handing sending
send-comes c id bytes s = by c
  where
    f : Frame
    f = frame.Data id bytes false (length bytes)

    by : (c : Bool) → Comes 1 s (if c then holding (Handed f) (sending f s) else queueing f (sending f s))
    by true = record {
      queued = omega arith;
      kept = omega (arith, length-append s.held (Handed f ∷ []));
      streams = length-moved _ s.streams;
    }
    by false = record {
      queued = omega (arith, length-entered f s.waiting);
      kept = omega arith;
      streams = length-moved _ s.streams;
    }
