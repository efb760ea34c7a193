-- Which lines may stand where in a message trace.
use Rattle.std.specs.Prelude.{ℕ, ◌≡◌, ◌+◌, Bool, true, false, not, ◌||◌, ◌==◌, List, [], ◌∷◌, ◌++◌, length, map, Option, Some, None, Result, Ok, Err, if◌then◌else◌, nat_le, slice_get}
use Rattle.ext_config.specs.declared.config.Config.{Config}
use Rattle.ext_config.specs.declared.config.ConfigFault.{ConfigFault}
use Rattle.ext_config.specs.Configured.{configured}
use Rattle.trace_format.specs.declared.line.TraceLine.{TraceLine}
use Rattle.trace_format.specs.declared.line.TraceLine.TheVariants as line
use Rattle.trace_format.specs.Lines.{line_of}
use Rattle.trace_model.specs.Links.{ExchangeState}
use Rattle.trace_format.specs.declared.out.OutLine.{OutLine}
use Rattle.trace_model.specs.Places.{Ended, Events, First, Leads, Place, Second, TraceState}

-- what is said of a line
pub data Verdict : Type 0 where
  Stands : Verdict  -- it may stand there
  Faulty : Verdict  -- it is no line of a trace, or may not stand there
  Refused : ConfigFault → Verdict  -- the configuration is refused
  Unbuilt : Verdict  -- it begins a trace of bytes, which isn't played yet

abbrev pub verdict_if : Bool → Verdict
verdict_if true = Stands
verdict_if false = Faulty

-- the first line
abbrev pub first_verdict : TraceLine → Verdict
first_verdict (line.First false) = Stands
first_verdict (line.First true) = Unbuilt
first_verdict other = Faulty

-- the second is the configuration
abbrev pub by_config : Result Config ConfigFault → Verdict
by_config (Ok config) = Stands
by_config (Err fault) = Refused fault

abbrev pub second_verdict : TraceLine → Verdict
second_verdict (line.Config text) = by_config (configured text)
second_verdict other = Faulty

-- Exchanges are numbered from 1. Of each is known whether its upstream was reached.

abbrev pub reached_at : ℕ → List Bool → Option Bool
reached_at ℕ.zero xs = None
reached_at (ℕ.suc n) xs = slice_get xs n

abbrev pub is_opened : Option Bool → Bool
is_opened None = false
is_opened (Some reached) = true

-- an upstream that was reached can't be one that couldn't be dialled
abbrev pub is_unreached : Option Bool → Bool
is_unreached None = false
is_unreached (Some reached) = not reached

-- An event line. Those of the processor's link stand in a trace of bytes alone.
unfoldable pub is_in_place : List Bool → TraceLine → Bool
is_in_place xs (line.First bytes) = false
is_in_place xs (line.Config text) = false
is_in_place xs line.Open = true
is_in_place xs (line.Client n bytes) = is_opened (reached_at n xs)
is_in_place xs (line.Up n bytes) = is_opened (reached_at n xs)
is_in_place xs (line.ClientEnd n) = is_opened (reached_at n xs)
is_in_place xs (line.UpEnd n) = is_opened (reached_at n xs)
is_in_place xs (line.ClientLost n) = is_opened (reached_at n xs)
is_in_place xs (line.UpLost n) = is_opened (reached_at n xs)
is_in_place xs (line.UpNoDial n) = is_unreached (reached_at n xs)
is_in_place xs (line.Answer n bytes) = is_opened (reached_at n xs)
is_in_place xs (line.Close n clean) = is_opened (reached_at n xs)
is_in_place xs (line.Ext bytes) = false
is_in_place xs line.ExtEnd = false
is_in_place xs line.ExtLost = false
is_in_place xs (line.Tick n) = true
is_in_place xs (line.HoldClient n) = is_opened (reached_at n xs)
is_in_place xs (line.HoldUp n) = is_opened (reached_at n xs)
is_in_place xs line.HoldExt = true
is_in_place xs (line.FreeClient n) = is_opened (reached_at n xs)
is_in_place xs (line.FreeUp n) = is_opened (reached_at n xs)
is_in_place xs line.FreeExt = true
is_in_place xs line.Stop = true

-- What lines alone say of where a trace is

pub data Shape : Type 0 where
  AtFirst : Shape
  AtSecond : Shape
  AtEvents : ℕ → List Bool → Shape  -- how many exchanges there may be, and of each whether its upstream was reached
  AtEnd : Shape

unfoldable pub verdict : Shape → TraceLine → Verdict
verdict AtFirst l = first_verdict l
verdict AtSecond l = second_verdict l
verdict (AtEvents most xs) l = verdict_if (is_in_place xs l)
verdict AtEnd l = Faulty

abbrev pub verdict_of : Shape → Option TraceLine → Verdict
verdict_of p None = Faulty
verdict_of p (Some l) = verdict p l

-- of the bytes of a line, without its line feed
unfoldable pub judged : Shape → List ℕ → Verdict
judged p text = verdict_of p (line_of text)

-- bytes of the upstream of exchange x
abbrev pub is_reaching : TraceLine → ℕ → Bool
is_reaching (line.Up n bytes) x = n == x
is_reaching other x = false

-- numbered from x
abbrev pub reached_by : TraceLine → ℕ → List Bool → List Bool
reached_by l x [] = []
reached_by l x (b ∷ xs) = (b || is_reaching l x) ∷ reached_by l (x + 1) xs

abbrev pub shape_by_config : Result Config ConfigFault → Shape
shape_by_config (Ok config) = AtEvents config.max_exchanges []
shape_by_config (Err fault) = AtSecond

abbrev pub shape_behind : ℕ → List Bool → TraceLine → Shape
shape_behind most xs line.Stop = AtEnd
shape_behind most xs line.Open = AtEvents most (if nat_le most (length xs) then xs else xs ++ false ∷ [])
shape_behind most xs l = AtEvents most (reached_by l 1 xs)

-- behind a line that may stand there
unfoldable pub next_shape : Shape → TraceLine → Shape
next_shape AtFirst l = AtSecond
next_shape AtSecond (line.Config text) = shape_by_config (configured text)
next_shape AtSecond l = AtSecond
next_shape (AtEvents most xs) l = shape_behind most xs l
next_shape AtEnd l = AtEnd

abbrev pub reaches : TraceState → List Bool
reaches s = map (λ (x : ExchangeState). x.reached) s.exchanges

abbrev pub shape_of : Place → Shape
shape_of First = AtFirst
shape_of Second = AtSecond
shape_of (Events s) = AtEvents s.config.max_exchanges (reaches s)
shape_of Ended = AtEnd

-- A text that is a line which may stand where it stands

abbrev pub LeadsAs : Option TraceLine → Place → List OutLine → Place → Type 0
LeadsAs None p lines q = ⊥
LeadsAs (Some l) p lines q = Leads p l lines q

pub record TextLeads (p : Place) (text : List ℕ) (lines : List OutLine) (q : Place) : Type 0 where
  pub stands : judged (shape_of p) text ≡ Stands
  pub leads : LeadsAs (line_of text) p lines q

-- the shape behind it
abbrev pub shape_by : Option TraceLine → Shape → Shape
shape_by None p = p
shape_by (Some l) p = next_shape p l

unfoldable pub shape_after : Shape → List ℕ → Shape
shape_after p text = shape_by (line_of text) p
