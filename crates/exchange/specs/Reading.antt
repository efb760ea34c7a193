-- What a half is told of an entry of the two sides, and what that leaves.
use Rattle.std.specs.Prelude.{ℕ, ◌≡◌, ◌≤◌, Bool, true, false, List, [], ◌∷◌, Option, Some, None, length, take, drop, filter_map, is_some, if◌then◌else◌, nat_lt}
use Rattle.ext_msgs.specs.declared.lists.Field.{Field}
use Rattle.http_model.specs.Bytes.{IsPrefix}
use Rattle.http_model.specs.Reads.{Original, unread}
use Rattle.filter_model.specs.Course.{Course, body_room, is_over}
use Rattle.filter_model.specs.Half.{Bytes, Head, HalfCall, course, progress}
use Rattle.filter_model.specs.Told.{known, more, more_calls, news, told}
use Rattle.filter_model.specs.ToldMore.{AllFit, Arrives, FitUntilOver}
use Rattle.h1_read.specs.declared.message.Message.{Message}
use Rattle.h1_message.specs.Source.{IsNews, original}
use Rattle.h1_message.specs.declared.news.News.{News}
use Rattle.h1_outlet.specs.Outlets.{Flowed, with_interim}
use Rattle.exchange.specs.Flows.{Story, with_call}
use Rattle.filter_model.specs.Account as at
use Rattle.filter_model.specs.Account.{ExchangeAccount, from, gathered, is_finished, settled}
use Rattle.filter_model.specs.Config.{FilterConfig}
use Rattle.filter_model.specs.Right.{Call, IsHistory, Stepped, account, ask_given, end_given}
use Rattle.filter_model.specs.Sides.{IsReadOf}
use Rattle.filter_model.specs.Step.{is_departure, is_live}
use Rattle.filter_model.specs.View.{ViewEntry}
use Rattle.filter_model.specs.declared.calls.Side.{Side}
use Rattle.exchange.specs.Stands.{IsGivenBy, IsConfigured, ExchangeTies}
use Rattle.exchange.specs.declared.exchange.Exchange.{Exchange}
use Rattle.exchange.specs.declared.fate.GivenWhole.{GivenWhole}

-- its reader is ahead of the half by this news, of an entry that may be the cut
pub record MayLearn (s : Story) (news : News) : Type 0 where
  pub before : Course
  pub told : course s.past ≡ known before
  pub arrives : Arrives s.past.config s.past.direction before (original s.source)
  pub is_news : IsNews before.original (original s.source) news
  -- behind the head there was room for it
  pub fits : is_some before.original.head ≡ true → length news.body ≤ body_room s.past.config s.past.direction before

-- a half was told these calls, or the first of them until its body is past its limit
pub record HasHeard (calls : List HalfCall) (s s' : Story) : Type 0 where
  pub source : s'.source ≡ s.source
  pub flowed : s'.flowed ≡ s.flowed
  pub config : (s'.past.config ≡ s.past.config) × (s'.past.direction ≡ s.past.direction)
  pub handed : (progress s'.past).handed ≡ (progress s.past).handed
  pub goes : is_over s.past.config (told s.past.config s.past.direction calls (course s.past)) ≡ false → course s'.past ≡ told s.past.config s.past.direction calls (course s.past)
  pub over : is_over s.past.config (course s'.past) ≡ is_over s.past.config (told s.past.config s.past.direction calls (course s.past))
  pub asks : IsPrefix (course s.past).asks (course s'.past).asks

-- what its reader has read since it was told last
abbrev pub HasLearnt : Story → Original → Story → Type 0
HasLearnt s now s' = HasHeard (news s.past.config s.past.direction (course s.past) now) s s'

-- The calls of a half, by what its reader says

abbrev pub with_calls : List HalfCall → Story → Story
with_calls [] s = s
with_calls (call ∷ calls) s = with_calls calls (with_call call s)

abbrev pub head_calls : Option Message → List HalfCall
head_calls None = []
head_calls (Some m) = Head m.head m.length ∷ []

-- the head comes once
abbrev pub HeadFits : Option Message → Story → Type 0
HeadFits None s = Unit {0}
HeadFits (Some m) s = (course s.past).original.head ≡ None

-- how a message ends, where it does
abbrev pub ends_with : Bool → List Field → Original
ends_with whole trailers = record (unread None) { whole = whole; trailers = trailers }

-- body bytes, and the end where it came
abbrev pub rest_calls : Bool → List Field → List ℕ → List HalfCall
rest_calls whole trailers bytes = more_calls (ends_with whole trailers) bytes

-- in two pieces where there are more than there is room for, and none once the message is whole
abbrev pub piece_calls : ℕ → Bool → List Field → List ℕ → List HalfCall
piece_calls room whole trailers bytes =
    if nat_lt room (length bytes) then Bytes (take room bytes) ∷ more (ends_with whole trailers) (drop room bytes) ∷ []
    else rest_calls whole trailers bytes

abbrev pub calls_behind : Story → Bool → List Field → List ℕ → List HalfCall
calls_behind s whole trailers bytes =
    if (course s.past).original.whole then []
    else piece_calls (body_room s.past.config s.past.direction (course s.past)) whole trailers bytes

abbrev pub FitsBehindHead : Story → Bool → List Field → List ℕ → Type 0
FitsBehindHead s whole trailers bytes =
    FitUntilOver s.past.config s.past.direction (calls_behind s whole trailers bytes) (course s.past)

abbrev pub RestFits : Story → Bool → List Field → List ℕ → Type 0
RestFits s whole trailers bytes =
    AllFit s.past.config s.past.direction (rest_calls whole trailers bytes) (course s.past)

-- While an entry of a side is being taken

-- its reader has the bytes or the end, and told this news; of the response it knows as much of the request's head as `r`
pub record IsTaking (c : FilterConfig) (h : List Call) (s : Side) (e : ViewEntry) (news : News) (r : ExchangeAccount) (x : Exchange) : Type 0 where
  pub right : IsHistory c (Stepped e ∷ h)
  pub made : IsConfigured c x
  pub live : is_live (account c h).fate ≡ true
  pub reads : IsReadOf s e
  pub stays : is_departure e (gathered e (account c h)) ≡ false
  pub is_news : IsNews (at.course (from s) (account c h)).original (at.course (from s) (gathered e (account c h))).original news
  pub ties : ExchangeTies c (gathered e (account c h)) r (account c h) (length (filter_map ask_given h)) (filter_map end_given h) x

-- what was known before it
pub record IsBefore (c : FilterConfig) (h : List Call) (e : ViewEntry) (finished committed : Bool) (given : GivenWhole) : Type 0 where
  pub both : finished ≡ is_finished c (account c h)
  pub chosen : committed ≡ is_some (settled c (gathered e (account c h))).response.course.head
  pub each : IsGivenBy c (account c h) given

-- nothing once both messages were given; a body past its limit goes before a fault
abbrev pub status_in : Bool → Bool → ℕ → Option ℕ → Option ℕ
status_in true over limit fault = None
status_in false true limit fault = Some limit
status_in false false limit fault = fault

-- before the response goes an interim response, where the client waits for one
abbrev pub owed_flow : Bool → Flowed → Flowed
owed_flow true f = with_interim f
owed_flow false f = f
