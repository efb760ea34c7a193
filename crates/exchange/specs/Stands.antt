-- What an exchange stands for: each of its fields is what the definitions say of its history.
use Rattle.std.specs.Prelude.{ℕ, ◌+◌, ◌≡◌, ◌≤◌, Bool, true, false, not, List, [], length, take, drop, map, filter_map, Option, Some, None, if◌then◌else◌, nat_le, slice_get}
use Rattle.ext_msgs.specs.declared.ask.Ask.{Ask}
use Rattle.http_model.specs.Bytes.{is_empty, IsPrefix}
use Rattle.http_model.specs.Wire.{local_reply}
use Rattle.http_model.specs.declared.types.Direction.{Direction}
use Rattle.http_model.specs.declared.types.Direction.TheVariants.{Request, Response}
use Rattle.filter_model.specs.Config.{FilterConfig}
use Rattle.filter_model.specs.Account.{ExchangeAccount, Live, Left, Replied, Aborted, course, flow, front, direction_of, is_to_head, is_out_in, is_given}
use Rattle.filter_model.specs.Account as account
use Rattle.filter_model.specs.Answers.{ask_of}
use Rattle.filter_model.specs.Half.{progress}
use Rattle.filter_model.specs.Half as half
use Rattle.filter_model.specs.Right.{Call, IsHistory, account, ask_given, end_given}
use Rattle.filter_model.specs.Step.{is_live}
use Rattle.filter_model.specs.Told.{known}
use Rattle.h1_message.specs.Source.{Source}
use Rattle.h1_outlet.specs.Outlets.{all}
use Rattle.exchange.specs.Flows.{Story, FlowStands}
use Rattle.filter_model.specs.InTurn.{asks_in}
use Rattle.exchange.specs.Settings.{HasSizes, OfSettings}
use Rattle.exchange.specs.declared.flow.Flow.{Flow}
use Rattle.exchange.specs.declared.fate.Fate.{Fate}
use Rattle.exchange.specs.declared.fate.Fate.TheVariants as fate
use Rattle.exchange.specs.declared.fate.GivenWhole.{GivenWhole}
use Rattle.exchange.specs.declared.fate.Stream.{Stream}
use Rattle.exchange.specs.declared.exchange.Exchange.{Exchange}

-- what the reader of a direction was told
abbrev pub to_head_in : Direction → ExchangeAccount → Bool
to_head_in Request a = false
to_head_in Response a = is_to_head a

abbrev pub source_of : Direction → ExchangeAccount → Source
source_of d a = record { direction = d; to_head = to_head_in d a; brought = (flow d a).brought; ended = (flow d a).ended }

-- a time that 64 bits hold; no clock comes to a later one
abbrev pub in_64 : ℕ → Option ℕ
in_64 n = if nat_le n 18_446_744_073_709_551_615 then Some n else None

-- the reply that was written; that of a status isn't as long as it waits
abbrev pub written_reply : Direction → Option ℕ → account.Fate → List ℕ
written_reply Response None (Replied reply) = reply
written_reply _ _ _ = []

-- Each direction. While an entry is being taken its reader is ahead: it has what `g` has, and all else what `a` has.

pub record FlowTies (c : FilterConfig) (d : Direction) (g a : ExchangeAccount) (handed : ℕ) (waiting : Option ℕ) (x : Flow) : Type 0 where
  pub story : Story
  pub stands : FlowStands story x
  pub config : story.past.config ≡ c.course
  pub way : story.past.direction ≡ d
  pub source : story.source ≡ source_of d g
  pub front : story.flowed.front ≡ front d g
  pub given : (flow d a).given ≡ take story.flowed.given (all story.flowed)
  pub reply : story.flowed.reply ≡ written_reply d waiting a.fate
  pub handed_on : (progress story.past).handed ≡ length (asks_in d (take handed a.made))
  -- once the exchange has ended its half is told nothing more, and has still the asks that were made
  pub told : is_live a.fate ≡ true → half.course story.past ≡ known (course d a)
  pub asks : IsPrefix (asks_in d a.made) (map (ask_of d) (half.course story.past).asks)
  pub lost : x.lost ≡ (flow d g).lost
  pub timer : is_live a.fate ≡ true → is_out_in a d ≡ true → x.deadline ≡ in_64 (flow d a).deadline
  pub extended : is_live a.fate ≡ true → x.extended ≡ (flow d a).extended

-- The exchange

pub record IsGivenBy (c : FilterConfig) (a : ExchangeAccount) (x : GivenWhole) : Type 0 where
  pub request : x.request ≡ is_given c a Request
  pub response : x.response ≡ is_given c a Response

abbrev pub IsFate : FilterConfig → ExchangeAccount → account.Fate → Fate → Type 0
IsFate c a Live fate.Live = Unit {0}
IsFate c a Left fate.Left = Unit {0}
IsFate c a (Replied reply) (fate.Replied given) = IsGivenBy c a given
IsFate c a Aborted (fate.Aborted given) = IsGivenBy c a given
IsFate c a _ _ = ⊥

pub record OfStream (a : ExchangeAccount) (ends : List Bool) (x : Stream) : Type 0 where
  pub asked : x.asked ≡ not (is_empty a.made)
  pub unopened : x.unopened ≡ a.unopened
  pub closed : x.closed ≡ a.closed
  pub ending : x.ending ≡ a.ending
  pub ended : x.ended ≡ not (is_empty ends)

abbrev pub IsReplied : account.Fate → Type 0
IsReplied (Replied reply) = Unit {0}
IsReplied _ = ⊥

-- how many asks the halves handed out: those that were given, and one that waits to be given
abbrev pub handed_out : ℕ → Option Ask → ℕ
handed_out asked None = asked
handed_out asked (Some ask) = asked + 1

-- with so many asks given, and these ends; the flow of the request has read as far as `q`, that of the response as far
-- as `r`, and all else stands as in `a`
pub record ExchangeTies (c : FilterConfig) (q r a : ExchangeAccount) (asked : ℕ) (ends : List Bool) (x : Exchange) : Type 0 where
  pub request : FlowTies c Request q a (handed_out asked x.ready) x.waiting x.request
  pub response : FlowTies c Response r a (handed_out asked x.ready) x.waiting x.response
  pub order : x.order ≡ map direction_of (drop a.sent a.made)
  pub unsent : a.sent + x.unsent ≡ asked
  pub within : asked ≤ length a.made
  pub ready : (ask : Ask) → x.ready ≡ Some ask → slice_get a.made asked ≡ Some ask
  pub now : x.clock ≡ a.now
  pub to_head : x.to_head ≡ is_to_head r
  pub fate : IsFate c a a.fate x.fate
  pub waiting : (status : ℕ) → x.waiting ≡ Some status → a.fate ≡ Replied (local_reply status)
  pub stream : OfStream a ends x.stream
  -- a reply goes out alone: no head of a response was put
  pub alone : IsReplied a.fate → x.response.outlet.framing ≡ None

-- nothing is being taken
abbrev pub AtRest : FilterConfig → ExchangeAccount → ℕ → List Bool → Exchange → Type 0
AtRest c a asked ends x = ExchangeTies c a a a asked ends x

pub record IsConfigured (c : FilterConfig) (x : Exchange) : Type 0 where
  pub sizes : HasSizes c
  pub settings : OfSettings c x.settings

pub record IsAfter (c : FilterConfig) (h : List Call) (x : Exchange) : Type 0 where
  pub right : IsHistory c h
  pub made : IsConfigured c x
  pub ties : AtRest c (account c h) (length (filter_map ask_given h)) (filter_map end_given h) x

-- it stands for a history of which this holds
abbrev pub IsAfterSome : Exchange → (FilterConfig → List Call → Type 0) → Type 0
IsAfterSome x P = (c : FilterConfig) × (h : List Call) × IsAfter c h x × P c h
