-- What the calls of a hub come to: the session of its connection, and each exchange.
use Rattle.std.specs.Prelude.{ℕ, Bool, true, false, not, ◌&&◌, ◌||◌, List, [], length, Option, Some, None, nat_lt, slice_index_or, slice_set, ◌==◌}
use Rattle.std.specs.List.{list_any}
use Rattle.h2_frames.specs.declared.frame.Frame.{Frame}
use Rattle.h2_frames.specs.declared.frame.Frame.TheVariants as frame
use Rattle.h2_model.specs.declared.answers.Event.{Event}
use Rattle.h2_model.specs.Account.{Account}
use Rattle.h2_model.specs.Log.{Log, LogEntry, Handed, Given, stream_of}
use Rattle.h2_model.specs.Queue.{is_reset_frame}
use Rattle.h2_model.specs.History.{is_violated}
use Rattle.h2_model.specs.History as session
use Rattle.filter_model.specs.Account.{ExchangeAccount}
use Rattle.filter_model.specs.Step.{after}
use Rattle.filter_model.specs.View.{ViewEntry}
use Rattle.hub_model.specs.HubCalls.{HubConfig}

-- one exchange
pub record Line : Type 0 where
  pub view : List ViewEntry  -- newest first
  pub stream : Option ℕ  -- the number of its stream, once it has one
  pub heard : List Event  -- what came on its stream, newest first
  pub client : Bool  -- this port has answered its last, or was lost
  pub upstream : Bool

-- a stream that was ended here, and how many calls of the hub came before the one that ended it
pub record EndedStream : Type 0 where
  pub call : ℕ
  pub stream : ℕ

pub record World : Type 0 where
  pub lines : List Line  -- exchange k at place k - 1
  pub session : Account
  pub broken : Bool  -- the processor's link ended or was lost
  pub ended : List EndedStream  -- in the order in which they are reset when there are too many
  pub calls : ℕ  -- how many there were
  pub ticks : List ℕ  -- newest first

unfoldable pub start : World
start = record { lines = []; session = session.start true; broken = false; ended = []; calls = 0; ticks = [] }

-- a place at which no exchange stands
abbrev pub no_line : Line
no_line = record { view = []; stream = None; heard = []; client = true; upstream = true }

abbrev pub line : ℕ → World → Line
line k w = slice_index_or w.lines k no_line

abbrev pub put : ℕ → Line → World → World
put k l w = record w { lines = slice_set w.lines k l }

abbrev pub account_of : HubConfig → Line → ExchangeAccount
account_of c l = after c.filter l.view

-- The connection has ended: its link ended or was lost, or a connection error came.
abbrev pub is_over : World → Bool
is_over w = w.broken || is_violated w.session

-- a frame that ends a stream here
abbrev pub is_end : Frame → Bool
is_end (frame.Data id bytes last size) = last
is_end f = is_reset_frame f

abbrev pub ends : ℕ → Frame → Bool
ends id f = is_end f && (stream_of f == id)

abbrev pub hands_end : ℕ → LogEntry → Bool
hands_end id (Handed f) = ends id f
hands_end id _ = false

abbrev pub gives_end : ℕ → LogEntry → Bool
gives_end id (Given f) = ends id f
gives_end id _ = false

-- an end or a reset of the stream became due, and none was given yet
abbrev pub end_missing : Option ℕ → Log → Bool
end_missing None log = false
end_missing (Some id) log = list_any (hands_end id) log && not (list_any (gives_end id) log)

-- An exchange is live until both its ports have answered their last or were lost, and the end of its stream was given, where
-- one is due and the connection hasn't ended.
abbrev pub is_live_line : World → Line → Bool
is_live_line w l = not (l.client && l.upstream && (is_over w || not (end_missing l.stream w.session.log)))

abbrev pub is_live_at : ℕ → World → Bool
is_live_at k w = nat_lt k (length w.lines) && is_live_line w (line k w)
