-- Flow-control windows, as sums over the log: RFC 9113 section 6.9. Number 0 is the connection.
use Rattle.std.specs.Prelude.{ℕ, ◌+◌, ◌-◌, Bool, ◌||◌, List, [], ◌∷◌, length, if◌then◌else◌, ◌==◌, ℤ, pos, ◌-ℤ◌, int_lt}
use Rattle.h2_frames.specs.declared.frame.Frame.TheVariants as frame
use Rattle.h2_model.specs.Log.{LogEntry, Log, Received, Handed, Owed, Given, total}
use Rattle.h2_model.specs.Settings.{initial_window}
use Rattle.h2_model.specs.Queue.{data_in, queued}
use Rattle.h2_model.specs.Account.{Account}

abbrev pub is_for : ℕ → ℕ → Bool
is_for id n = (id == 0) || (n == id)

-- Sending: the initial size, plus the increments received, less the DATA sent. DATA counts from `send` on; bytes that a
-- reset drops before they went give their part back, and those that a connection error drops don't.

abbrev pub increment : ℕ → LogEntry → ℕ
increment id (Received (frame.Window n k)) = if n == id then k else 0
increment id _ = 0

-- bytes of DATA that went out
abbrev pub data_given : ℕ → LogEntry → ℕ
data_given id (Given (frame.Data n bytes last size)) = if is_for id n then length bytes else 0
data_given id _ = 0

-- bytes of DATA among entries
abbrev pub held_data : ℕ → List LogEntry → ℕ
held_data id [] = 0
held_data id (Handed f ∷ held) = data_in id f + held_data id held
held_data id (e ∷ held) = held_data id held

-- bytes of DATA that went out, wait, wait for their stream's head, or were dropped by a connection error
abbrev pub data_sent : ℕ → Account → ℕ
data_sent id a = total (data_given id) a.log + queued id a.waiting + held_data id a.held + held_data id a.lost

unfoldable pub window_from : ℕ → ℕ → Account → ℤ
window_from initial id a = pos (initial + total (increment id) a.log) -ℤ pos (data_sent id a)

-- SETTINGS don't change the connection's: RFC 9113 section 6.9.2
unfoldable pub connection_window : Account → ℤ
connection_window a = window_from 65535 0 a

-- a changed initial size moves it, and it may be negative: RFC 9113 section 6.9.2
unfoldable pub stream_window : ℕ → Account → ℤ
stream_window id a = window_from (initial_window a.log) id a

-- above 2^31 - 1: RFC 9113 section 6.9.1
abbrev pub is_too_wide : ℤ → Bool
is_too_wide n = int_lt (pos 2147483647) n

-- Receiving: 65,535, plus the increments that went out whole, less the DATA received, with its padding

abbrev pub data_received : ℕ → LogEntry → ℕ
data_received id (Received (frame.Data n bytes last size)) = if is_for id n then size else 0
data_received id _ = 0

abbrev pub increment_given : ℕ → LogEntry → ℕ
increment_given id (Given (frame.Window n k)) = if n == id then k else 0
increment_given id _ = 0

abbrev pub increment_owed : ℕ → LogEntry → ℕ
increment_owed id (Owed (frame.Window n k)) = if n == id then k else 0
increment_owed id _ = 0

-- what the peer may send
abbrev pub receiving_window : ℕ → Log → ℕ
receiving_window id log = 65535 + total (increment_given id) log - total (data_received id) log

-- the bytes taken since the last update
abbrev pub unreturned : ℕ → Log → ℕ
unreturned id log = total (data_received id) log - total (increment_owed id) log
