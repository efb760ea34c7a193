-- What a session keeps of its account: each part is a filter or a sum over the log.
use Rattle.std.specs.Prelude.{ℕ, ◌==◌, Bool, List, Option, Some, None, if◌then◌else◌, find, filter_map, reverse, ℤ, pos, ◌-ℤ◌}
use Rattle.std.specs.List.{list_any, list_all}
use Rattle.hpack_core.specs.Tables as hpack
use Rattle.h2_model.specs.declared.answers.Event.{Event}
use Rattle.h2_model.specs.declared.stream.Stream.{Stream}
use Rattle.h2_model.specs.Log.{LogEntry, violation, total}
use Rattle.h2_model.specs.Streams.{opened, is_live, is_ended_by_peer, is_ended_here, heads_got}
use Rattle.h2_model.specs.Settings.{initial_window, stream_limit, table_limit, known_limit}
use Rattle.h2_model.specs.Blocks.{OpenBlock, open_block, blocks, table_after}
use Rattle.h2_model.specs.Queue.{Waiting}
use Rattle.h2_model.specs.Account.{Account}
use Rattle.h2_model.specs.Windows.{increment, data_sent, connection_window, receiving_window, unreturned}
use Rattle.h2_model.specs.StreamFaults.{is_interim}
use Rattle.h2_model.specs.Violations.{is_first}
use Rattle.h2_model.specs.Calls.{is_goaway}

unfoldable pub stream_of_log : ℕ → Account → Stream
stream_of_log id a = record {
  id = id;
  peer_ended = is_ended_by_peer id a.log;
  here_ended = is_ended_here id a.log;
  interim = list_all is_interim (heads_got id a.log);
  credit = pos (total (increment id) a.log) -ℤ pos (data_sent id a);
  receive = receiving_window id a.log;
  unreturned = unreturned id a.log;
}

-- the stream, where it is live
unfoldable pub live : ℕ → Account → Option Stream
live id a = if is_live id a.log then Some (stream_of_log id a) else None

-- a stream that is kept, by its number
abbrev pub found : ℕ → List Stream → Option Stream
found id streams = find (λ s. s.id == id) streams

-- the live streams of these, in their order
abbrev pub live_among : List ℕ → Account → List Stream
live_among ids a = filter_map (λ id. live id a) ids

-- the live streams, lowest first
unfoldable pub streams : Account → List Stream
streams a = live_among (reverse (opened a.log)) a

pub record State : Type 0 where
  pub first : Bool  -- no frame came yet
  pub block : Option OpenBlock
  pub table : hpack.TableState
  pub known : ℕ  -- the table size of which the last block knew
  pub limit : ℕ  -- and the one of which the next will know
  pub initial : ℕ  -- SETTINGS_INITIAL_WINDOW_SIZE
  pub most : ℕ  -- SETTINGS_MAX_CONCURRENT_STREAMS
  pub goaway : Bool
  pub violation : Option ℕ
  pub window : ℤ  -- the connection's sending window
  pub receive : ℕ  -- what the peer may send on the connection
  pub unreturned : ℕ  -- the bytes that came since its last window update
  pub streams : List Stream
  pub waiting : List Waiting
  pub held : List LogEntry
  pub unreported : List Event

unfoldable pub seen : Account → State
seen a = record {
  first = is_first a;
  block = open_block a.log;
  table = table_after (blocks a.log);
  known = known_limit a.log;
  limit = table_limit a.log;
  initial = initial_window a.log;
  most = stream_limit a.log;
  goaway = list_any is_goaway a.log;
  violation = violation a.log;
  window = connection_window a;
  receive = receiving_window 0 a.log;
  unreturned = unreturned 0 a.log;
  streams = streams a;
  waiting = a.waiting;
  held = a.held;
  unreported = a.unreported;
}
