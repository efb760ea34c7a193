-- The exchanges of a message trace, and what arrived on their links.
use Rattle.std.specs.Prelude.{ℕ, Bool, true, false, List, [], ◌∷◌, ◌++◌, length, Option, Some, None, if◌then◌else◌, nat_lt}
use Rattle.ext_config.specs.declared.config.Config.{Config}
use Rattle.filter_model.specs.Config.{FilterConfig}
use Rattle.filter_model.specs.Right.{Call, Stepped}
use Rattle.filter_model.specs.View.{ViewEntry, Lost, Answered, TooLong, Closed, Tick}
use Rattle.filter_model.specs.declared.calls.Loss.TheVariants.{NoDial, Broken}
use Rattle.filter_model.specs.declared.calls.Side.TheVariants.{Client, Upstream}
use Rattle.trace_format.specs.declared.line.TraceLine.{TraceLine}
use Rattle.trace_format.specs.declared.line.TraceLine.TheVariants as line
use Rattle.exchange.specs.Heard.{heard_in}

-- What arrived on a link and wasn't fed to the exchange, and whether its port is taken from.
pub record LinkState : Type 0 where
  pub waiting : List ℕ  -- oldest first
  pub ended : Bool  -- the link ends behind these bytes
  pub told : Bool  -- the exchange was told of that end
  pub held : Bool  -- nothing is taken from the port

abbrev pub idle_link : LinkState
idle_link = record { waiting = []; ended = false; told = false; held = false }

-- An exchange and its two links.
pub record ExchangeState : Type 0 where
  pub calls : List Call  -- newest first
  pub client : LinkState
  pub up : LinkState
  pub reached : Bool  -- bytes of the upstream arrived

-- Before its first event an exchange is told the time, where there was a tick.
abbrev pub told_time : Option ℕ → List Call
told_time None = []
told_time (Some now) = Stepped (Tick now) ∷ []

abbrev pub opened_at : Option ℕ → ExchangeState
opened_at clock = record { calls = told_time clock; client = idle_link; up = idle_link; reached = false }

-- The filter's view of a configuration.
abbrev pub filter_of : Config → FilterConfig
filter_of x = record {
  course = record {
    rules = x.rules;
    buffer_limit = x.buffer_limit;
    answer_limit = x.answer_limit;
    piece = 16_384;
    mark = 65_536;
  };
  failure_allow = x.failure_allow;
  timeout_ms = x.timeout_ms;
  max_timeout_ms = x.max_timeout_ms;
  allow_override = x.allow_override;
  no_immediate = x.no_immediate;
  request = x.request;
  response = x.response;
}

-- What a line brings an exchange that it is about

abbrev pub with_bytes : List ℕ → LinkState → LinkState
with_bytes bytes k = record k { waiting = k.waiting ++ bytes }

abbrev pub with_end : LinkState → LinkState
with_end k = record k { ended = true }

abbrev pub holding : Bool → LinkState → LinkState
holding held k = record k { held = held }

-- it is told this at once
abbrev pub told_of : ViewEntry → ExchangeState → ExchangeState
told_of e x = record x { calls = Stepped e ∷ x.calls }

-- an answer past the limit is too long, whatever it says
abbrev pub answered_by : FilterConfig → List ℕ → ViewEntry
answered_by c bytes = if nat_lt c.course.answer_limit (length bytes) then TooLong else Answered (heard_in bytes)

unfoldable pub arrived : FilterConfig → TraceLine → ExchangeState → ExchangeState
arrived c (line.Client n bytes) x = record x { client = with_bytes bytes x.client }
arrived c (line.Up n bytes) x = record x { up = with_bytes bytes x.up; reached = true }
arrived c (line.ClientEnd n) x = record x { client = with_end x.client }
arrived c (line.UpEnd n) x = record x { up = with_end x.up }
arrived c (line.ClientLost n) x = told_of (Lost Client Broken) x
arrived c (line.UpLost n) x = told_of (Lost Upstream Broken) x
arrived c (line.UpNoDial n) x = told_of (Lost Upstream NoDial) x
arrived c (line.Answer n bytes) x = told_of (answered_by c bytes) x
arrived c (line.Close n clean) x = told_of (Closed clean) x
arrived c (line.Tick now) x = told_of (Tick now) x
arrived c (line.HoldClient n) x = record x { client = holding true x.client }
arrived c (line.HoldUp n) x = record x { up = holding true x.up }
arrived c (line.FreeClient n) x = record x { client = holding false x.client }
arrived c (line.FreeUp n) x = record x { up = holding false x.up }
arrived c other x = x
