-- A session as its log and the frames that wait.
use Rattle.std.specs.Prelude.{ℕ, Bool, List, not, ◌&&◌}
use Rattle.h2_model.specs.declared.answers.Event.{Event}
use Rattle.h2_model.specs.Log.{LogEntry, Log}
use Rattle.h2_model.specs.Streams.{is_opened, has_head}
use Rattle.h2_model.specs.Queue.{Waiting}

pub record Account : Type 0 where
  pub client : Bool  -- the role
  pub greeted : Bool  -- a server has the client's preface
  pub rest : List ℕ  -- the bytes of the preface or the frame that isn't whole yet
  pub log : Log
  pub waiting : List Waiting
  pub held : List LogEntry  -- frames handed over or owed on streams whose head wasn't handed over yet
  pub lost : List LogEntry  -- DATA that a connection error dropped
  pub unreported : List Event  -- what was brought and not answered yet, oldest first

-- a client's stream whose head wasn't handed over
abbrev pub is_headless : Account → ℕ → Bool
is_headless a id = a.client && is_opened id a.log && not (has_head id a.log)
