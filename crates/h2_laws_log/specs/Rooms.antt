-- The frames that close a stream and were not given whole: ends and resets. A client that keeps room for two of each stream
-- it keeps can take every one that may still come.
use Rattle.std.specs.Prelude.{ℕ, ◌+◌, ◌≡◌, ◌≤◌, Bool, true, false, ◌&&◌, List, if◌then◌else◌, ◌==◌, sum_by}
use Rattle.h2_frames.specs.declared.frame.Frame.{Frame}
use Rattle.h2_frames.specs.declared.frame.Frame.TheVariants as frame
use Rattle.h2_model.specs.declared.stream.Stream.{Stream}
use Rattle.h2_model.specs.Log.{LogEntry}
use Rattle.h2_model.specs.Streams.{is_reset, is_ended_here}
use Rattle.h2_model.specs.Queue.{Waiting}
use Rattle.h2_model.specs.Account.{Account}
use Rattle.h2_model.specs.History.{frame_in}

abbrev pub one_if : Bool → ℕ
one_if b = if b then 1 else 0

-- DATA with END_STREAM, or RST_STREAM
abbrev pub is_closing : Frame → Bool
is_closing (frame.Data id bytes last size) = last
is_closing (frame.Reset id code) = true
is_closing _ = false

abbrev pub closing : Frame → ℕ
closing f = one_if (is_closing f)

abbrev pub closings_waiting : List Waiting → ℕ
closings_waiting queue = sum_by (λ w. closing w.frame) queue

abbrev pub closings_held : List LogEntry → ℕ
closings_held held = sum_by (λ e. closing (frame_in e)) held

-- the closing frames that calls may still hand over for a live stream: its end, if it has none yet, and a reset
abbrev pub credit : Stream → ℕ
credit s = if s.here_ended then 1 else 2

abbrev pub credits : List Stream → ℕ
credits streams = sum_by credit streams

-- Of one stream

abbrev pub end_of : ℕ → Frame → ℕ
end_of id (frame.Data n bytes last size) = one_if ((n == id) && last)
end_of id _ = 0

abbrev pub reset_of : ℕ → Frame → ℕ
reset_of id (frame.Reset n code) = one_if (n == id)
reset_of id _ = 0

-- a sum over the frames that wait or are held
abbrev pub tally : (Frame → ℕ) → Account → ℕ
tally m a = sum_by (λ w. m w.frame) a.waiting + sum_by (λ e. m (frame_in e)) a.held

abbrev pub ends_due : ℕ → Account → ℕ
ends_due id a = tally (end_of id) a

abbrev pub resets_due : ℕ → Account → ℕ
resets_due id a = tally (reset_of id) a

-- no more than one end and one reset of each stream wait, and none that the log doesn't know
pub record Counted (a : Account) : Type 0 where
  pub ends : (id : ℕ) → ends_due id a ≤ one_if (is_ended_here id a.log)
  pub resets : (id : ℕ) → resets_due id a ≤ one_if (is_reset id a.log)
  -- the connection has neither
  pub connection_ends : ends_due 0 a ≡ 0
  pub connection_resets : resets_due 0 a ≡ 0
