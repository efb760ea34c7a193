-- What goes out, as contracts see it.
use Rattle.std.specs.Prelude.{ℕ, ◌+◌, ◌-◌, not, ◌&&◌, ◌||◌, ◌==◌, length, sum_by, ◌≤◌, ◌^◌, ◌≡◌, List, if◌then◌else◌, Bool, true, ℤ, pos, ◌+ℤ◌, ◌≤ℤ◌}
use Rattle.h2_frames.specs.declared.frame.Frame.{Frame}
use Rattle.h2_model.specs.Log.{LogEntry, Handed, Owed, stream_of}
use Rattle.std.specs.List.{list_any}
use Rattle.h2_frames.specs.declared.frame.Frame.TheVariants as frame
use Rattle.h2_model.specs.Queue.{Waiting, queued, is_data, bytes_of, control_bytes, unsent, data_in}
use Rattle.h2_model.specs.Moves.{kept_waiting, kept_held}
use Rattle.h2_model.specs.Calls.{is_window}
use Rattle.h2_model.specs.History.{frame_in, is_of}
use Rattle.h2_sender.specs.Outgoing.{IsSendable}
use Rattle.h2_model.specs.Windows.{held_data}

pub record Sending : Type 0 where
  pub waiting : List Waiting
  pub held : List LogEntry  -- frames on streams whose head is awaited
  pub window : ℤ  -- the connection's sending window
  pub room : ℕ  -- how many more frames can wait, and be held, without taking memory
  pub held_room : ℕ

abbrev pub entry_of : Bool → Frame → LogEntry
entry_of owed f = if owed then Owed f else Handed f

-- what is true of a held frame: it can be sent, and DATA is handed over and never owed
pub record IsHeld (owed : Bool) (f : Frame) : Type 0 where
  pub sendable : IsSendable f
  pub handed : owed ≡ true → data_in 0 f ≡ 0

-- bytes of DATA that wait or are held
abbrev pub data_kept : List Waiting → List LogEntry → ℕ
data_kept waiting held = queued 0 waiting + held_data 0 held

-- the sums stay far from the ends of their types
pub record IsBounded (waiting : List Waiting) (held : List LogEntry) (window : ℤ) : Type 0 where
  pub «data» : data_kept waiting held ≤ 2 ^ 40
  pub low : pos 0 ≤ℤ window
  pub high : (window +ℤ pos (data_kept waiting held)) ≤ℤ pos (2 ^ 41)

-- the bytes that a reset of a stream drops
abbrev pub dropped_of : ℕ → List Waiting → List LogEntry → ℕ
dropped_of id waiting held =
    (queued 0 waiting - queued 0 (kept_waiting id waiting)) + (held_data 0 held - held_data 0 (kept_held id held))

abbrev pub IsGoaway : Frame → Type 0
IsGoaway (frame.GoAway last code) = Unit {0}
IsGoaway other = ⊥

-- the bytes of an entry that are no part of DATA
abbrev pub entry_control : LogEntry → ℕ
entry_control e = if is_data (frame_in e) then 0 else length (bytes_of (frame_in e))

abbrev pub held_control : List LogEntry → ℕ
held_control held = sum_by entry_control held

abbrev pub control_of : List Waiting → List LogEntry → ℕ
control_of waiting held = control_bytes waiting + held_control held

abbrev pub unsent_of : ℕ → List Waiting → List LogEntry → ℕ
unsent_of id waiting held = if id == 0 then 0 else unsent id waiting + held_data id held

abbrev pub waits_in : ℕ → List Waiting → List LogEntry → Bool
waits_in id waiting held =
    not (id == 0) && (list_any (λ w. (stream_of w.frame == id) && not (is_window w.frame)) waiting || list_any (is_of id) held)
