-- Room is left behind a frame that came in: what it owes fits into what was made for it.
use Rattle.std.proofs.Common.{ℕ, zero, suc, ◌+◌, ◌≤◌, Bool, true, false, List, [], ◌∷◌, length, not, Option, Some, None, sym, ◌∙◌, arith, length-append}
use Rattle.h2_frames.specs.declared.frame.Frame.{Frame}
use Rattle.h2_frames.specs.declared.frame.Frame.TheVariants as frame
use Rattle.h2_model.specs.declared.answers.Event.{Event}
use Rattle.h2_model.specs.declared.answers.Event.TheVariants as event
use Rattle.h2_model.specs.Log.{Owed, stream_of}
use Rattle.h2_model.specs.State.{State}
use Rattle.h2_model.specs.Moves.{charged, is_dropped, is_dropped_entry, owing_frame, queueing, receiving, reported, resetting}
use Rattle.h2_laws_log.specs.Steps.{owing_frames}
use Rattle.h2_laws_kept.specs.Kept.{Kept}
use Rattle.h2_laws_kept.specs.Rooms.{HasSpare, IsRoomy, KeepsCapacity}
use Rattle.h2_laws_kept.proofs.Roominess.{Comes, spare-roomy}
use Rattle.h2_laws_kept.proofs.Sums.{credits-twice, length-entered, length-filtered, length-moved}
use Rattle.h2_session.specs.Feeding.{KeepsRole}
use Rattle.h2_session.specs.Steps.{ending, resetting_all}
use Rattle.h2_session.specs.declared.judging.Whole.{Whole}

-- Frames come one after another

comes-then : (m n : ℕ) {s t u : State} → Comes m s t → Comes n t u → Comes (m + n) s u
comes-then m n p q = record {
  queued = omega (arith, p.queued, q.queued);
  kept = omega (arith, p.kept, q.kept);
  streams = omega (arith, p.streams, q.streams);
}

comes-within : {m : ℕ} (n : ℕ) {s t : State} → Comes m s t → m ≤ n → Comes n s t
comes-within n p l = record {
  queued = omega (arith, p.queued, l);
  kept = omega (arith, p.kept, l);
  streams = p.streams;
}

-- Where lists only get shorter, none comes

same-comes : (s : State) → Comes 0 s s
same-comes s = record { queued = omega arith; kept = omega arith; streams = omega arith }

receiving-comes : (f : Frame) (s : State) → Comes 0 s (receiving f s)
unfolding receiving
receiving-comes (frame.Data id bytes last size) s = record { queued = omega arith; kept = omega arith; streams = length-moved _ s.streams }
receiving-comes (frame.Window (suc id) n) s = record { queued = omega arith; kept = omega arith; streams = length-moved _ s.streams }
receiving-comes (frame.Window zero n) s = record { queued = omega arith; kept = omega arith; streams = omega arith }
receiving-comes f s = record { queued = omega arith; kept = omega arith; streams = omega arith }

ending-comes : (w : Option Whole) (s : State) → Comes 0 s (ending w s)
ending-comes None s = same-comes s
ending-comes (Some w) s = record { queued = omega arith; kept = omega arith; streams = length-moved _ s.streams }

resetting-comes : (id : ℕ) (s : State) → Comes 0 s (resetting id s)
unfolding resetting
resetting-comes id s = record {
  queued = omega (arith, length-filtered (λ w. not (is_dropped id w)) s.waiting);
  kept = omega (arith, length-filtered (λ e. not (is_dropped_entry id e)) s.held);
  streams = length-moved _ s.streams;
}

reported-comes : (e : Event) (s : State) → Comes 0 s (reported e s)
unfolding reported
reported-comes (event.Head id fields last) s = record { queued = omega arith; kept = omega arith; streams = length-moved _ s.streams }
reported-comes (event.Reset id code) s = resetting-comes id s
reported-comes e s = same-comes s

resetting-all-comes : (ids : List ℕ) (s : State) → Comes 0 s (resetting_all ids s)
resetting-all-comes [] s = same-comes s
resetting-all-comes (id ∷ ids) s = comes-then 0 0 (resetting-comes id s) (resetting-all-comes ids (resetting id s))

-- What is owed comes

charged-comes : (f : Frame) (s : State) → Comes 0 s (charged f s)
unfolding charged
charged-comes (frame.Window zero n) s = record { queued = omega arith; kept = omega arith; streams = omega arith }
charged-comes (frame.Window (suc id) n) s = record { queued = omega arith; kept = omega arith; streams = length-moved _ s.streams }
charged-comes (frame.Reset id code) s = resetting-comes id s
charged-comes f s = same-comes s

queueing-comes : (f : Frame) (s : State) → Comes 1 s (queueing f s)
queueing-comes f s = record { queued = omega (arith, length-entered f s.waiting); kept = omega arith; streams = omega arith }

owing-comes : (headless : Bool) (f : Frame) (s : State) → Comes 1 s (owing_frame headless f s)
unfolding owing_frame
owing-comes true f s = record { queued = omega arith; kept = omega (arith, length-append s.held (Owed f ∷ [])); streams = omega arith }
owing-comes false f s = comes-then 0 1 (charged-comes f s) (queueing-comes f (charged f s))

owing-all-comes : (headless : ℕ → Bool) (owed : List Frame) (s : State) → Comes (length owed) s (owing_frames headless owed s)
owing-all-comes headless [] s = same-comes s
owing-all-comes headless (f ∷ owed) s =
    comes-within (length (f ∷ owed))
    (comes-then 1 (length owed) (owing-comes (headless (stream_of f)) f s) (owing-all-comes headless owed (owing_frame (headless (stream_of f)) f s)))
    (omega arith)

-- A frame came, and no more than n are owed for it

pub arriving-comes : (n : ℕ) (headless : ℕ → Bool) (f : Frame) (w : Option Whole) (e : Event) (ids : List ℕ) (us : List Event)
    (owed : List Frame) (s : State) → length owed ≤ n
    → Comes n s (owing_frames headless owed (record (resetting_all ids (reported e (ending w (receiving f s)))) { unreported = us }))
arriving-comes n headless f w e ids us owed s l =
    comes-within n (comes-then 0 (length owed) told (owing-all-comes headless owed after)) (omega (arith, l))
  where
    resets : Comes 0 s (resetting_all ids (reported e (ending w (receiving f s))))
    resets = comes-then 0 0 (receiving-comes f s) (comes-then 0 0 (ending-comes w (receiving f s))
        (comes-then 0 0 (reported-comes e (ending w (receiving f s))) (resetting-all-comes ids (reported e (ending w (receiving f s))))))

    after : State
    after = record (resetting_all ids (reported e (ending w (receiving f s)))) { unreported = us }

    told : Comes 0 s after
    told = record { queued = resets.queued; kept = resets.kept; streams = resets.streams }

-- What is left

pub capacity-then : (k l m : Kept) → KeepsCapacity k l → KeepsCapacity l m → KeepsCapacity k m
capacity-then k l m c d = record {
  queue = omega (arith, c.queue, d.queue);
  held = omega (arith, c.held, d.held);
  table = omega (arith, c.table, d.table);
}

-- room that was made is room for all that may still come without memory
made-roomy : (n : ℕ) (k l : Kept) → IsRoomy k → KeepsCapacity k l → KeepsRole k l → HasSpare n l → IsRoomy l
made-roomy n k l r c q h = record {
  queue = omega (arith, credits-twice l.state.streams, h.queue);
  held = λ d. omega (arith, credits-twice l.state.streams, h.held d);
  reserve = λ d. omega (arith, h.queue);
  held_reserve = λ d. omega (arith, h.held d);
  table = λ d. rw q.streams (omega (arith, r.table (sym q.client ∙ d), c.table));
}

-- from before the frame, over the room that is made, to what is owed
pub roomy-after : (n : ℕ) (k made l : Kept) → IsRoomy k → KeepsCapacity k made → KeepsRole k made → HasSpare n made
    → KeepsCapacity made l → KeepsRole made l → Comes n made.state l.state → IsRoomy l
roomy-after n k made l r c p h d q m = spare-roomy n made l (made-roomy n k made r c p h) m h q.client q.streams d
