-- A queue of frames, and what is true of its fields.
use Rattle.std.specs.Prelude.{ℕ, ◌≡◌, ◌≤◌, ◌<◌, ◌-◌, ◌^◌, min, Bool, not, ◌&&◌, List, length, ◌==◌, All}
use Rattle.h2_model.specs.Log.{stream_of}
use Rattle.h2_model.specs.Queue.{Waiting, queued, control_bytes}
use Rattle.h2_model.specs.Calls.{is_window}
use Rattle.h2_sender.specs.Places.{IsFront}

pub record Queue : Type 0 where
  pub frames : List Waiting
  pub room : ℕ  -- how many more frames fit without taking memory

abbrev pub HasLeft : Waiting → Type 0
HasLeft w = 0 < length w.left

-- nothing waits for a frame that was given whole; the content of all DATA is counted, and the other bytes, and the front
pub record IsCounted (frames : List Waiting) (data_bytes control_count front_count : ℕ) : Type 0 where
  pub left : All HasLeft frames
  pub counted : data_bytes ≡ queued 0 frames
  pub bound : data_bytes ≤ 2 ^ 40
  pub control : control_count ≡ min (control_bytes frames) (2 ^ 64 - 1)
  pub front : IsFront front_count frames

-- a frame of a stream that is no window update waits
abbrev pub waits_for : ℕ → Waiting → Bool
waits_for id w = (stream_of w.frame == id) && not (is_window w.frame)

-- so many frames fit, and the shares of as many streams, without taking memory
pub record IsReserved (most waiting frames_room shares_room : ℕ) : Type 0 where
  pub few : waiting ≤ most
  pub frames : most ≤ frames_room
  pub shares : most ≤ shares_room
