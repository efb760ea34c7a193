-- What the values of the player stand for: the states of a trace, and the calls that a line led to.
use Rattle.std.specs.Prelude.{ℕ, ◌≡◌, ◌≤◌, Bool, true, false, not, List, [], ◌∷◌, ◌++◌, length, Option, Some, None, is_some}
use Rattle.std.specs.List.{All, concat}
use Rattle.ext_config.specs.Valid.{IsValid}
use Rattle.http_model.specs.Bytes.{is_empty}
use Rattle.filter_model.specs.Config.{FilterConfig}
use Rattle.filter_model.specs.Right.{Call, IsReady, Nexted}
use Rattle.filter_model.specs.View.{ViewEntry, Lost, TooLong, Closed, Tick}
use Rattle.filter_model.specs.declared.calls.Event.{Event}
use Rattle.filter_model.specs.declared.calls.Event.TheVariants as event
use Rattle.filter_model.specs.declared.calls.Next.{Next}
use Rattle.filter_model.specs.declared.calls.Next.TheVariants as next
use Rattle.filter_model.specs.declared.calls.Side.{Side}
use Rattle.filter_model.specs.declared.calls.Side.TheVariants.{Client, Upstream}
use Rattle.exchange.specs.Stands.{IsAfter, IsAfterSome}
use Rattle.exchange.specs.declared.exchange.Exchange.{Exchange}
use Rattle.trace_format.specs.declared.line.TraceLine.{TraceLine}
use Rattle.trace_format.specs.declared.out.OutLine.{OutLine}
use Rattle.trace_model.specs.Lines.{asks_given, bytes_for, first_end, stream_end, text_of_lines}
use Rattle.trace_model.specs.Links.{ExchangeState, LinkState, filter_of}
use Rattle.trace_model.specs.Places.{AllGo, Ended, Events, First, Goes, Leads, MeetsEvent, Opens, Place, Second, TraceState, is_full, ticked}
use Rattle.trace_model.specs.Rounds.{IsRound, IsWholeTaking, Plays, Round, Taking, calls_taken, drained, fed, gives, is_busy, is_nothing, stream_gave}
use Rattle.trace_model.specs.Verdicts.{Faulty, Refused, Stands, TextLeads, Unbuilt, Verdict, judged, shape_of, verdict}
use Rattle.trace_player.specs.declared.brought.Brought.{Brought}
use Rattle.trace_player.specs.declared.draining.Drained.{Drained}
use Rattle.trace_player.specs.declared.link.Link.{Link}
use Rattle.trace_player.specs.declared.opened.Opened.{Opened}
use Rattle.trace_player.specs.declared.player.Player.{Player}
use Rattle.trace_player.specs.declared.stage.Met.{Met}
use Rattle.trace_player.specs.declared.stage.Met.TheVariants as met
use Rattle.trace_player.specs.declared.stage.Stage.{Stage}
use Rattle.trace_player.specs.declared.stage.Stage.TheVariants as stage

-- One exchange

abbrev pub link_of : Link → LinkState
link_of x = record { waiting = x.waiting; ended = x.ended; told = x.told; held = x.held }

-- an exchange whose last call didn't run out of memory
abbrev pub IsDriven : Exchange → Type 0
IsDriven x = IsAfterSome x (λ c h. IsReady h)

pub record IsTied (c : FilterConfig) (m : ExchangeState) (x : Opened) : Type 0 where
  pub after : IsAfter c m.calls x.exchange
  pub ready : IsReady m.calls
  pub client : m.client ≡ link_of x.client
  pub up : m.up ≡ link_of x.up
  pub reached : m.reached ≡ x.reached

abbrev pub SomeTied : Opened → Type 0
SomeTied x = (c : FilterConfig) × (m : ExchangeState) × IsTied c m x

-- whose answers have at most so many bytes
abbrev pub HasLimit : Opened → ℕ → Type 0
HasLimit x limit = (c : FilterConfig) × (m : ExchangeState) × IsTied c m x × (c.course.answer_limit ≡ limit)

-- which ends the transcript has
pub record HasEnds (calls : List Call) (x : Opened) : Type 0 where
  pub client : x.client.over ≡ is_some (first_end Client calls)
  pub up : x.up.over ≡ is_some (first_end Upstream calls)

pub record SameOvers (x y : Opened) : Type 0 where
  pub client : y.client.over ≡ x.client.over
  pub up : y.up.over ≡ x.up.over

-- between two lines
pub record RestTied (c : FilterConfig) (m : ExchangeState) (x : Opened) : Type 0 where
  pub tied : IsTied c m x
  pub ends : HasEnds m.calls x

abbrev pub SomeRest : Opened → ℕ → Type 0
SomeRest x limit = (c : FilterConfig) × (m : ExchangeState) × RestTied c m x × (c.course.answer_limit ≡ limit)

-- What calls brought

pub record Tells (calls : List Call) (b : Brought) : Type 0 where
  pub to_client : b.to_client.items ≡ bytes_for Client calls
  pub to_up : b.to_up.items ≡ bytes_for Upstream calls
  pub asks : b.asks.items ≡ asks_given calls
  pub ending : b.ending ≡ stream_end calls
  pub client_end : b.client_end ≡ first_end Client calls
  pub up_end : b.up_end ≡ first_end Upstream calls

-- these calls more, of which the values tell
pub record Adds (h h' : List Call) (old new : Brought) : Type 0 where
  pub calls : List Call
  pub since : h' ≡ calls ++ h
  pub tells : (before : List Call) → Tells before old → Tells (calls ++ before) new

-- a port gave these bytes more, until it gave no piece
pub record HasDrained (c : FilterConfig) (s : Side) (h : List Call) (old : List ℕ) (d : Drained) (new : List ℕ) (x : Exchange) : Type 0 where
  pub taking : Taking
  pub is_taking : IsWholeTaking taking
  pub last : d.last ≡ taking.last
  pub some : d.some ≡ not (is_empty taking.pieces)
  pub got : new ≡ old ++ concat taking.pieces
  pub after : IsAfter c (calls_taken false s taking h) x

-- the asks and the end that the stream was given, oldest first
abbrev pub asks_in_order : List Next → List (List ℕ)
asks_in_order [] = []
asks_in_order (next.Ask bytes ∷ nexts) = bytes ∷ asks_in_order nexts
asks_in_order (n ∷ nexts) = asks_in_order nexts

abbrev pub last_end : Option Bool → List Next → Option Bool
last_end end [] = end
last_end end (next.Finish ∷ nexts) = last_end (Some true) nexts
last_end end (next.Reset ∷ nexts) = last_end (Some false) nexts
last_end end (n ∷ nexts) = last_end end nexts

pub record HasStreamed (c : FilterConfig) (h : List Call) (asks : List (List ℕ)) (ending : Option Bool) (x : Exchange) : Type 0 where
  pub nexts : List Next
  pub due : All (λ n. is_nothing n ≡ false) nexts
  pub asked : asks ≡ asks_in_order nexts
  pub ended : ending ≡ last_end None nexts
  pub after : IsAfter c (Nexted next.Nothing ∷ stream_gave nexts h) x

-- What the steps of a round leave

abbrev pub held_in : Side → ExchangeState → Bool
held_in Client m = m.client.held
held_in Upstream m = m.up.held

abbrev pub with_calls : List Call → ExchangeState → ExchangeState
with_calls h m = record m { calls = h }

pub record HasTaken (c : FilterConfig) (s : Side) (m : ExchangeState) (x : Opened) (old new : Brought) (some : Bool) : Type 0 where
  pub taking : Taking
  pub is_taking : IsWholeTaking taking
  pub tied : IsTied c (with_calls (calls_taken (held_in s m) s taking m.calls) m) x
  pub adds : Adds m.calls (calls_taken (held_in s m) s taking m.calls) old new
  pub gives : some ≡ gives (held_in s m) taking

pub record IsStreamed (c : FilterConfig) (m : ExchangeState) (x : Opened) (old new : Brought) (some : Bool) : Type 0 where
  pub nexts : List Next
  pub due : All (λ n. is_nothing n ≡ false) nexts
  pub tied : IsTied c (with_calls (Nexted next.Nothing ∷ stream_gave nexts m.calls) m) x
  pub adds : Adds m.calls (Nexted next.Nothing ∷ stream_gave nexts m.calls) old new
  pub gives : some ≡ not (is_empty nexts)

pub record HasPlayedOnce (c : FilterConfig) (m : ExchangeState) (x : Opened) (old new : Brought) (some : Bool) : Type 0 where
  pub round : Round
  pub is_round : IsRound round
  pub tied : IsTied c (drained round (fed c m)) x
  pub adds : Adds m.calls (drained round (fed c m)).calls old new
  pub busy : some ≡ is_busy c round m

pub record HasPlayed (c : FilterConfig) (m : ExchangeState) (x : Opened) (b : Brought) : Type 0 where
  pub rounds : List Round
  pub some : is_empty rounds ≡ false
  pub after : ExchangeState
  pub plays : Plays c rounds m after
  pub tied : IsTied c after x
  pub calls : List Call
  pub since : after.calls ≡ calls ++ m.calls
  pub tells : Tells calls b

-- an exchange that met a line, and hasn't been played since: the calls before that line, and those that it led to tell nothing
pub record YetToTell (c : FilterConfig) (before : List Call) (m : ExchangeState) (x : Opened) : Type 0 where
  pub tied : IsTied c m x
  pub ends : HasEnds before x
  pub calls : List Call
  pub since : m.calls ≡ calls ++ before
  pub silent : (b : Brought) (later : List Call) → Tells later b → Tells (later ++ calls) b

-- it was played to rest, and the lines of the transcript were appended
pub record HasGone (c : FilterConfig) (x : ℕ) (before : List Call) (met : ExchangeState) (o : Opened) (old new : List ℕ) : Type 0 where
  pub after : ExchangeState
  pub lines : List OutLine
  pub goes : Goes c x before met after lines
  pub rest : RestTied c after o
  pub text : new ≡ old ++ text_of_lines lines

-- Events that bring no bytes and may come at any time

abbrev pub IsPlain : Event → Type 0
IsPlain (event.Lost s how) = Unit {0}
IsPlain event.TooLong = Unit {0}
IsPlain (event.Closed clean) = Unit {0}
IsPlain (event.Tick now) = Unit {0}
IsPlain _ = ⊥

abbrev pub entry_of : Event → ViewEntry
entry_of (event.Lost s how) = Lost s how
entry_of (event.Closed clean) = Closed clean
entry_of (event.Tick now) = Tick now
entry_of _ = TooLong

-- All exchanges

abbrev pub EachTied : FilterConfig → List ExchangeState → List Opened → Type 0
EachTied c [] [] = Unit {0}
EachTied c (m ∷ ms) (x ∷ xs) = RestTied c m x × EachTied c ms xs
EachTied c [] (x ∷ xs) = ⊥
EachTied c (m ∷ ms) [] = ⊥

pub record PlayerIs (s : TraceState) (p : Player) : Type 0 where
  pub config : p.config ≡ s.config
  pub valid : IsValid s.config
  pub clock : p.clock ≡ s.clock
  pub exchanges : EachTied (filter_of s.config) s.exchanges p.exchanges.items
  pub few : length s.exchanges ≤ s.config.max_exchanges

abbrev pub SomePlayer : Player → Type 0
SomePlayer p = (s : TraceState) × PlayerIs s p

pub record HasOpened (s : TraceState) (p : Player) (old new : List ℕ) : Type 0 where
  pub next : TraceState
  pub lines : List OutLine
  pub opens : Opens (is_full s) s next lines
  pub player : PlayerIs next p
  pub text : new ≡ old ++ text_of_lines lines

pub record HasMetAll (s : TraceState) (l : TraceLine) (p : Player) (old new : List ℕ) : Type 0 where
  pub exchanges : List ExchangeState
  pub lines : List OutLine
  pub all : AllGo (filter_of s.config) l 1 s.exchanges exchanges lines
  pub player : PlayerIs (record s { clock = ticked l s.clock; exchanges = exchanges }) p
  pub text : new ≡ old ++ text_of_lines lines

-- an event line
pub record HasMet (s : TraceState) (l : TraceLine) (p : Player) (text : List ℕ) : Type 0 where
  pub next : TraceState
  pub lines : List OutLine
  pub meets : MeetsEvent s l next lines
  pub player : PlayerIs next p
  pub tells : text ≡ text_of_lines lines

-- Places

abbrev pub StageIs : Place → Stage → Type 0
StageIs First stage.First = Unit {0}
StageIs Second stage.Second = Unit {0}
StageIs (Events s) (stage.Events p) = PlayerIs s p
StageIs Ended stage.Ended = Unit {0}
StageIs p x = ⊥

abbrev pub SomePlace : Stage → Type 0
SomePlace x = (p : Place) × StageIs p x

-- a line leads to this place, and the text has its lines
pub record LeadsTo (p : Place) (l : TraceLine) (text : List ℕ) (next : Stage) : Type 0 where
  pub place : Place
  pub lines : List OutLine
  pub leads : Leads p l lines place
  pub tells : text ≡ text_of_lines lines
  pub stage : StageIs place next

abbrev pub verdict_in : Met → Verdict
verdict_in (met.Goes text next) = Stands
verdict_in met.Faulty = Faulty
verdict_in (met.Refused fault) = Refused fault
verdict_in met.Unbuilt = Unbuilt

abbrev pub LeadsIf : Place → TraceLine → Met → Type 0
LeadsIf p l (met.Goes text next) = LeadsTo p l text next
LeadsIf p l m = Unit {0}

-- what a line comes to
pub record ComesTo (p : Place) (l : TraceLine) (m : Met) : Type 0 where
  pub verdict : verdict_in m ≡ verdict (shape_of p) l
  pub leads : LeadsIf p l m

-- a text, which is a line of the grammar or none
pub record TextLeadsTo (p : Place) (text out : List ℕ) (next : Stage) : Type 0 where
  pub place : Place
  pub lines : List OutLine
  pub leads : TextLeads p text lines place
  pub tells : out ≡ text_of_lines lines
  pub stage : StageIs place next

abbrev pub MeetsAs : Place → List ℕ → Met → Type 0
MeetsAs p text (met.Goes out next) = TextLeadsTo p text out next
MeetsAs p text m = judged (shape_of p) text ≡ verdict_in m
