-- How what a session keeps changes by whole calls, and by a connection error; `Moves` has the changes entry by entry.
use Rattle.std.specs.Prelude.{ℕ, Bool, true, false, not, List, [], ◌∷◌, ◌++◌, Some, None, filter, pos}
use Rattle.h2_frames.specs.declared.frame.Frame.{Frame}
use Rattle.h2_frames.specs.declared.frame.Frame.TheVariants as frame
use Rattle.h2_model.specs.Log.{LogEntry}
use Rattle.h2_model.specs.Blocks.{table_after}
use Rattle.h2_model.specs.Queue.{Waiting, fresh, is_free_content, entered, behind, whole_within}
use Rattle.h2_model.specs.History.{frame_in, is_of, own_settings, first_bytes}
use Rattle.h2_model.specs.State.{State}
use Rattle.h2_model.specs.Moves.{sending, queueing, giving_all}

-- A session begins: the first SETTINGS wait

unfoldable pub starting : Bool → State
starting client = record {
  first = true;
  block = None;
  table = table_after [];
  known = 4096;
  limit = 4096;
  initial = 65535;
  most = 4294967295;
  goaway = false;
  violation = None;
  window = pos 65535;
  receive = 65535;
  unreturned = 0;
  streams = [];
  waiting = record { frame = own_settings client; left = first_bytes client; fixed = false } ∷ [];
  held = [];
  unreported = [];
}

-- A block goes out, and behind it what was held for it

-- what was held enters the queue, oldest first
abbrev pub all_entered : List LogEntry → List Waiting → List Waiting
all_entered [] queue = queue
all_entered (e ∷ held) queue = all_entered held (entered (frame_in e) queue)

abbrev pub releasing : ℕ → State → State
releasing id s = record s {
  waiting = all_entered (filter (is_of id) s.held) s.waiting;
  held = filter (λ e. not (is_of id e)) s.held;
}

-- HEADERS of a stream are handed over; a reset that was held changes nothing more, since its stream was reset before
unfoldable pub heading : ℕ → Frame → State → State
heading id f s = releasing id (queueing f (sending f s))

-- Bytes are taken: the frames that this makes whole are given

unfoldable pub taking : ℕ → State → State
taking n s = record (giving_all (whole_within n s.waiting) s) { waiting = behind n s.waiting }

-- A connection error ends the session

-- GOAWAY, with the peer's last stream, goes behind what still goes out; DATA that was dropped still counts for the windows
unfoldable pub failing : ℕ → ℕ → State → State
failing last code s = record s {
  violation = Some code;
  held = [];
  waiting = filter (λ w. not (is_free_content w)) s.waiting ++ fresh (frame.GoAway last code) ∷ [];
}
