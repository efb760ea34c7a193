-- What a frame that is no connection error does to a session.
use Rattle.std.specs.Prelude.{◌≡◌, ◌≤◌, false, [], length, Option, None, map}
use Rattle.h2_frames.specs.declared.frame.Frame.{Frame}
use Rattle.h2_model.specs.declared.answers.Event.{Event}
use Rattle.h2_model.specs.Log.{violation}
use Rattle.h2_model.specs.Blocks.{whole_block}
use Rattle.h2_model.specs.Account.{Account}
use Rattle.h2_model.specs.Duties.{owed_for}
use Rattle.h2_model.specs.Moves.{receiving, reported}
use Rattle.h2_model.specs.StreamFaults.{stream_fault}
use Rattle.h2_model.specs.Violations.{violation_of, widens_connection}
use Rattle.h2_model.specs.Windows.{connection_window}
use Rattle.h2_laws_log.specs.Steps.{owing_frames}
use Rattle.h2_laws_kept.specs.Kept.{Kept, lacks_head}
use Rattle.h2_laws_kept.specs.StandsFor.{Holds}
use Rattle.h2_session.specs.Arrivals.{KeepsParts}
use Rattle.h2_session.specs.Refused.{refused}
use Rattle.h2_session.specs.Steps.{CanCount, IsDecoded, IsOn, IsWhole, ending, event_by, is_on_live, refused_ids, resetting_all}
use Rattle.h2_session.specs.declared.judging.Whole.{Whole}

-- the account before the frame, whose block was decoded
pub record IsAccepted (k : Kept) (f : Frame) (w : Option Whole) (a : Account) : Type 0 where
  pub before : Kept
  pub holds : Holds before a
  pub sound : violation a.log ≡ None
  pub quiet : a.unreported ≡ []
  pub passes : violation_of a f ≡ None
  pub kept : KeepsParts before k
  pub decoded : IsDecoded before.state.table (whole_block a.log f) w k.state.table
  pub fault : k.fault ≡ None

-- the account once the frame's stream is opened
pub record IsReady (k : Kept) (f : Frame) (w : Option Whole) (b : Account) : Type 0 where
  pub on : IsOn k b
  pub whole : IsWhole b f w
  pub counts : CanCount f k.state
  pub window : k.state.window ≡ connection_window b
  pub widens : widens_connection b f ≡ false

-- the frame counted, the event was told, the streams that GOAWAY refuses are over, and frames are owed
pub record Settles (k l : Kept) (f : Frame) (w : Option Whole) (e : Event) (b : Account) : Type 0 where
  pub event : e ≡ event_by f w (stream_fault b f) (is_on_live b f w)
  pub state : l.state ≡ owing_frames (λ id. lacks_head id k) (owed_for b f)
      (record (resetting_all (refused_ids k.client f k.state.streams) (reported e (ending w (receiving f k.state)))) {
        unreported = map refused (refused_ids k.client f k.state.streams);
      })
  pub few : length (owed_for b f) ≤ 3
