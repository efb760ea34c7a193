-- Where a message trace is, and what each line of it leads to.
use Rattle.std.specs.Prelude.{ℕ, ◌≡◌, ◌+◌, Bool, true, false, ◌==◌, List, [], ◌∷◌, ◌++◌, length, Option, Some, None, Ok, nat_le, max}
use Rattle.ext_config.specs.declared.config.Config.{Config}
use Rattle.ext_config.specs.Configured.{configured}
use Rattle.http_model.specs.Bytes.{is_empty}
use Rattle.filter_model.specs.Config.{FilterConfig}
use Rattle.filter_model.specs.Right.{Call, IsHistory}
use Rattle.trace_format.specs.declared.line.TraceLine.{TraceLine}
use Rattle.trace_format.specs.declared.line.TraceLine.TheVariants as line
use Rattle.trace_format.specs.declared.out.OutLine.{OutLine}
use Rattle.trace_format.specs.declared.out.OutLine.TheVariants as out
use Rattle.trace_model.specs.Lines.{lines_for}
use Rattle.trace_model.specs.Links.{ExchangeState, arrived, filter_of, opened_at}
use Rattle.trace_model.specs.Rounds.{Plays, Round}

pub record TraceState : Type 0 where
  pub config : Config
  pub clock : Option ℕ  -- the greatest tick so far, in milliseconds
  pub exchanges : List ExchangeState  -- numbered from 1

-- which line comes next
pub data Place : Type 0 where
  First : Place
  Second : Place  -- the configuration
  Events : TraceState → Place
  Ended : Place  -- none: the trace was played

abbrev pub begun : Config → TraceState
begun config = record { config = config; clock = None; exchanges = [] }

-- One exchange that a line is about

-- It met the line and was played to rest. Every call answered as it may, and the transcript tells what they gave.
pub record Goes (c : FilterConfig) (x : ℕ) (before : List Call) (met after : ExchangeState) (lines : List OutLine) : Type 0 where
  pub rounds : List Round
  pub plays : Plays c rounds met after
  pub some : is_empty rounds ≡ false
  pub right : IsHistory c after.calls
  pub calls : List Call
  pub since : after.calls ≡ calls ++ before
  pub tells : lines ≡ lines_for x before calls

-- All exchanges: those that the line isn't about stay as they are

-- the exchange that a line is about, or all of them
abbrev pub is_about : TraceLine → ℕ → Bool
is_about (line.Client n bytes) x = n == x
is_about (line.Up n bytes) x = n == x
is_about (line.ClientEnd n) x = n == x
is_about (line.UpEnd n) x = n == x
is_about (line.ClientLost n) x = n == x
is_about (line.UpLost n) x = n == x
is_about (line.UpNoDial n) x = n == x
is_about (line.Answer n bytes) x = n == x
is_about (line.Close n clean) x = n == x
is_about (line.Tick now) x = true
is_about (line.HoldClient n) x = n == x
is_about (line.HoldUp n) x = n == x
is_about (line.FreeClient n) x = n == x
is_about (line.FreeUp n) x = n == x
is_about other x = false

abbrev pub GoesIf : Bool → FilterConfig → TraceLine → ℕ → ExchangeState → ExchangeState → List OutLine → Type 0
GoesIf true c l x e e' lines = Goes c x e.calls (arrived c l e) e' lines
GoesIf false c l x e e' lines = (e' ≡ e) × (lines ≡ [])

-- numbered from x
abbrev pub AllGo : FilterConfig → TraceLine → ℕ → List ExchangeState → List ExchangeState → List OutLine → Type 0
AllGo c l x [] es lines = (es ≡ []) × (lines ≡ [])
AllGo c l x (e ∷ rest) es lines =
    (e' : ExchangeState) × (rest' : List ExchangeState) × (own more : List OutLine) × GoesIf (is_about l x) c l x e e' own
    × AllGo c l (x + 1) rest rest' more × (es ≡ e' ∷ rest') × (lines ≡ own ++ more)

-- An event line

-- the next exchange is opened, where there may be one more
abbrev pub Opens : Bool → TraceState → TraceState → List OutLine → Type 0
Opens true s s' lines = (s' ≡ s) × (lines ≡ out.Full ∷ [])
Opens false s s' lines =
    (e : ExchangeState) × Goes (filter_of s.config) (length s.exchanges + 1) [] (opened_at s.clock) e lines
    × (s' ≡ record s { exchanges = s.exchanges ++ e ∷ [] })

abbrev pub is_full : TraceState → Bool
is_full s = nat_le s.config.max_exchanges (length s.exchanges)

-- the clock never goes back
abbrev pub ticked : TraceLine → Option ℕ → Option ℕ
ticked (line.Tick now) None = Some now
ticked (line.Tick now) (Some before) = Some (max before now)
ticked other clock = clock

abbrev pub MeetsEvent : TraceState → TraceLine → TraceState → List OutLine → Type 0
MeetsEvent s line.Open s' lines = Opens (is_full s) s s' lines
MeetsEvent s l s' lines =
    (es : List ExchangeState) × AllGo (filter_of s.config) l 1 s.exchanges es lines
    × (s' ≡ record s { clock = ticked l s.clock; exchanges = es })

-- A line that may stand where it stands: the lines of the transcript that it brings, and where it leads

abbrev pub LeadsOn : TraceState → TraceLine → List OutLine → Place → Type 0
LeadsOn s line.Stop lines p = (lines ≡ out.End ∷ []) × (p ≡ Ended)
LeadsOn s l lines p = (s' : TraceState) × MeetsEvent s l s' lines × (p ≡ Events s')

abbrev pub ConfigLeads : TraceLine → Place → Type 0
ConfigLeads (line.Config text) p = (config : Config) × (configured text ≡ Ok config) × (p ≡ Events (begun config))
ConfigLeads other p = ⊥

abbrev pub Leads : Place → TraceLine → List OutLine → Place → Type 0
Leads First l lines p = (lines ≡ []) × (p ≡ Second)
Leads Second l lines p = (lines ≡ []) × ConfigLeads l p
Leads (Events s) l lines p = LeadsOn s l lines p
Leads Ended l lines p = ⊥
