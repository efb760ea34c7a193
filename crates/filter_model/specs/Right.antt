-- When an exchange does right, at every moment and in the end.
use Rattle.std.specs.Prelude.{ℕ, ◌≡◌, ◌<◌, ◌≤◌, min, Bool, true, false, ◌&&◌, List, [], ◌∷◌, ◌++◌, length, take, Option, Some, None, if◌then◌else◌, map, filter_map, reverse, slice_get, ◌⊎◌, bytes_eq}
use Rattle.std.specs.List.{list_any}
use Rattle.ext_msgs.specs.declared.answer.Answer.{Answer}
use Rattle.ext_msgs.specs.Spelling.{ask}
use Rattle.http_model.specs.Bytes.{is_empty, IsPrefix}
use Rattle.http_model.specs.declared.types.Direction.{Direction}
use Rattle.http_model.specs.declared.types.Direction.TheVariants.{Request, Response}
use Rattle.filter_model.specs.Config.{FilterConfig}
use Rattle.filter_model.specs.Course.{changed}
use Rattle.filter_model.specs.Outgoing.{IsWire}
use Rattle.filter_model.specs.Account.{ExchangeAccount, Fate, Live, Left, Replied, Aborted, course, flow, front, to, is_given, is_released}
use Rattle.filter_model.specs.Step.{after, room}
use Rattle.filter_model.specs.View.{ViewEntry, Bytes, End, Lost, Answered, TooLong, Closed, NoStream, Tick, Starved, Sent, Given}
use Rattle.filter_model.specs.declared.calls.Side.{Side}
use Rattle.filter_model.specs.declared.calls.Side.TheVariants.{Client, Upstream}
use Rattle.filter_model.specs.declared.calls.Event.{Event}
use Rattle.filter_model.specs.declared.calls.Event.TheVariants as event
use Rattle.filter_model.specs.declared.calls.Taken.{Taken}
use Rattle.filter_model.specs.declared.calls.Taken.TheVariants.{Piece, Nothing, Done, Abort, Gone}
use Rattle.filter_model.specs.declared.calls.Next.{Next}
use Rattle.filter_model.specs.declared.calls.Next.TheVariants as next

-- The history of an exchange by itself: its calls with their answers, newest first

pub data Call : Type 0 where
  Stepped : ViewEntry → Call  -- with the bytes that were taken
  Took : Side → Taken → Call
  Nexted : Next → Call
  Failed : Call  -- one that answered want of memory; `Starved` follows

abbrev pub entry_of : Call → Option ViewEntry
entry_of (Stepped e) = Some e
entry_of (Took s (Piece bytes)) = Some (Given s bytes)
entry_of _ = None

abbrev pub view_of : List Call → List ViewEntry
view_of h = filter_map entry_of h

-- the account after these calls
abbrev pub account : FilterConfig → List Call → ExchangeAccount
account c h = after c (view_of h)

-- the asks given by `next`, newest first
abbrev pub ask_given : Call → Option (List ℕ)
ask_given (Nexted (next.Ask bytes)) = Some bytes
ask_given _ = None

-- the ends given by `next`: true for Finish
abbrev pub end_given : Call → Option Bool
end_given (Nexted next.Finish) = Some true
end_given (Nexted next.Reset) = Some false
end_given _ = None

-- Right

-- the bytes are a wire of what the message has become
abbrev pub IsWireOf : FilterConfig → ExchangeAccount → Direction → List ℕ → Type 0
IsWireOf c a d bytes = IsWire d (changed c.course d (course d a)) bytes

-- to the client goes one reply, or the response; an interim response goes before either
abbrev pub IsForClientAt : FilterConfig → ExchangeAccount → Fate → List ℕ → Type 0
IsForClientAt c a (Replied reply) bytes = bytes ≡ front Response a ++ reply
IsForClientAt c a _ bytes = (wire : List ℕ) × IsWireOf c a Response wire × (bytes ≡ front Response a ++ wire)

-- all that may go to a side by now
abbrev pub IsFor : FilterConfig → ExchangeAccount → Side → List ℕ → Type 0
IsFor c a Client bytes = IsForClientAt c a a.fate bytes
IsFor c a Upstream bytes = IsWireOf c a Request bytes

abbrev pub given_to : Side → ExchangeAccount → List ℕ
given_to s a = (flow (to s) a).given

-- what was given to a side is the first of what may go to it
abbrev pub GivenRight : FilterConfig → ExchangeAccount → Side → Type 0
GivenRight c a s = (all : List ℕ) × IsFor c a s all × IsPrefix (given_to s a) all

-- at most one end was given, and it is the one that is due
abbrev pub EndsRight : List Bool → Option Bool → Type 0
EndsRight given ending =
    (given ≡ []) ⊎ ((ending ≡ Some true × given ≡ true ∷ []) ⊎ (ending ≡ Some false × given ≡ false ∷ []))

pub record Right (c : FilterConfig) (h : List Call) : Type 0 where
  pub upstream : GivenRight c (account c h) Upstream
  pub client : GivenRight c (account c h) Client
  pub asks : IsPrefix (reverse (filter_map ask_given h)) (map ask (account c h).made)
  pub ends : EndsRight (filter_map end_given h) (account c h).ending

-- What each call may answer

-- the side's part is whole and given, or the client left

abbrev pub is_reply_given : FilterConfig → ExchangeAccount → List ℕ → Side → Bool
is_reply_given c a reply Client = bytes_eq (given_to Client a) (front Response a ++ reply)
is_reply_given c a reply Upstream = is_given c a Request

abbrev pub is_done_at : FilterConfig → ExchangeAccount → Side → Fate → Bool
is_done_at c a s Left = true
is_done_at c a s (Replied reply) = is_reply_given c a reply s
is_done_at c a s Live = is_given c a (to s)
is_done_at c a s Aborted = is_given c a (to s)

abbrev pub is_done : FilterConfig → ExchangeAccount → Side → Bool
is_done c a s = is_done_at c a s a.fate

-- a reply aborts the link of the upstream, and an abort both

abbrev pub is_aborted_at : Side → Fate → Bool
is_aborted_at s Aborted = true
is_aborted_at Client (Replied reply) = false
is_aborted_at Upstream (Replied reply) = true
is_aborted_at s Live = false
is_aborted_at s Left = false

abbrev pub is_aborted : ExchangeAccount → Side → Bool
is_aborted a s = is_aborted_at s a.fate

abbrev pub MayTake : FilterConfig → ExchangeAccount → Side → Taken → Type 0
MayTake c a s (Piece bytes) =
    (is_done c a s ≡ false) × (is_aborted a s ≡ false) × (0 < length bytes)
    × (all : List ℕ) × IsFor c a s all × IsPrefix (given_to s a ++ bytes) all
MayTake c a s Nothing = (is_done c a s ≡ false) × (is_aborted a s ≡ false) × IsFor c a s (given_to s a)
MayTake c a s Done = is_done c a s ≡ true
MayTake c a s Abort = (is_done c a s ≡ false) × (is_aborted a s ≡ true)
MayTake c a s Gone = ⊥

-- a piece is no longer than was asked for
abbrev pub IsWithin : ℕ → Taken → Type 0
IsWithin max (Piece bytes) = length bytes ≤ max
IsWithin max _ = Unit {0}

-- the next ask that wasn't given yet
abbrev pub ask_due : FilterConfig → List Call → Option (List ℕ)
ask_due c h = slice_get (map ask (account c h).made) (length (filter_map ask_given h))

-- the end that is due and wasn't given yet
abbrev pub end_due : FilterConfig → List Call → Option Bool
end_due c h = if is_empty (filter_map end_given h) then (account c h).ending else None

abbrev pub due : Option (List ℕ) → Option Bool → Next
due (Some bytes) end = next.Ask bytes
due None (Some true) = next.Finish
due None (Some false) = next.Reset
due None None = next.Nothing

-- What a call of `step` comes to, and when it may come

-- with n bytes taken, and what the reader of messages makes of the bytes of an answer
abbrev pub entry : Option Answer → Event → ℕ → ViewEntry
entry x (event.Bytes s bytes) n = Bytes s (take n bytes)
entry x (event.End s) n = End s
entry x (event.Lost s how) n = Lost s how
entry x (event.Answer bytes) n = Answered x
entry x event.TooLong n = TooLong
entry x (event.Closed clean) n = Closed clean
entry x event.NoStream n = NoStream
entry x (event.Tick now) n = Tick now
entry x event.Starved n = Starved
entry x event.Sent n = Sent

-- how many of its bytes are taken
abbrev pub taken_of : FilterConfig → ExchangeAccount → Event → ℕ
taken_of c a (event.Bytes s bytes) = min (length bytes) (room c a s)
taken_of c a _ = 0

-- after want of memory nothing but `Starved` comes
abbrev pub IsReady : List Call → Type 0
IsReady (Failed ∷ h) = ⊥
IsReady _ = Unit {0}

-- `Sent` tells of an ask that `next` gave
abbrev pub MayCome : FilterConfig → List Call → Event → Type 0
MayCome c (Failed ∷ h) event.Starved = Unit {0}
MayCome c (Failed ∷ h) _ = ⊥
MayCome c h event.Sent = (account c h).sent < length (filter_map ask_given h)
MayCome c h (event.Answer bytes) = length bytes ≤ c.course.answer_limit
MayCome c h _ = Unit {0}

-- every event but bytes and answers is taken without memory
abbrev pub TakesNoMemory : Event → Type 0
TakesNoMemory (event.Bytes s bytes) = ⊥
TakesNoMemory (event.Answer bytes) = ⊥
TakesNoMemory _ = Unit {0}

-- Quiet and whole

abbrev pub is_idle : Call → Bool
is_idle (Took s (Piece bytes)) = false
is_idle (Took s _) = true
is_idle (Nexted next.Nothing) = true
is_idle _ = false

abbrev pub is_take_of_client : Call → Bool
is_take_of_client (Took Client t) = true
is_take_of_client _ = false

abbrev pub is_take_of_upstream : Call → Bool
is_take_of_upstream (Took Upstream t) = true
is_take_of_upstream _ = false

abbrev pub is_next : Call → Bool
is_next (Nexted n) = true
is_next _ = false

-- the calls before the first that isn't idle
abbrev pub while_idle : List Call → List Call
while_idle [] = []
while_idle (x ∷ h) = if is_idle x then x ∷ while_idle h else []

-- the last calls gave nothing, and each of the three ports is among them
abbrev pub is_quiet : List Call → Bool
is_quiet h =
    let last : List Call = while_idle h in
    list_any is_take_of_client last && list_any is_take_of_upstream last && list_any is_next last

-- both messages were given whole
pub record GivenWhole (c : FilterConfig) (a : ExchangeAccount) : Type 0 where
  pub upstream : IsFor c a Upstream (given_to Upstream a)
  pub client : IsFor c a Client (given_to Client a)
  pub request : (changed c.course Request a.request.course).ended ≡ true
  pub response : (changed c.course Response a.response.course).ended ≡ true

-- both messages have arrived whole, and every ask was answered and sent, or the rest passes; nothing ended the exchange
pub record AllArrived (a : ExchangeAccount) : Type 0 where
  pub request : a.request.course.original.whole ≡ true
  pub response : a.response.course.original.whole ≡ true
  pub live : a.fate ≡ Live
  pub asks : (is_released a ≡ true) ⊎ ((length a.request.course.asks ≡ length a.request.course.answers)
      × (length a.response.course.asks ≡ length a.response.course.answers) × (length a.made ≡ a.sent))

abbrev pub Whole : FilterConfig → List Call → Type 0
Whole c h = is_quiet h ≡ true → AllArrived (account c h) → GivenWhole c (account c h)

-- Every history in which each call answered as it may

abbrev pub May : FilterConfig → Call → List Call → Type 0
May c (Stepped (Bytes s bytes)) h = length bytes ≤ room c (account c h) s
May c (Stepped (Given s bytes)) h = ⊥
May c (Stepped Sent) h = (account c h).sent < length (filter_map ask_given h)
May c (Stepped e) h = Unit {0}
May c (Took s t) h = MayTake c (account c h) s t
May c (Nexted n) h = n ≡ due (ask_due c h) (end_due c h)
May c Failed h = Unit {0}

abbrev pub IsHistory : FilterConfig → List Call → Type 0
IsHistory c [] = Unit {0}
IsHistory c (call ∷ h) = IsHistory c h × May c call h

-- in every history an exchange does right, and gives all that is whole
abbrev pub Headline : Type 0
Headline = (c : FilterConfig) (h : List Call) → IsHistory c h → Right c h × Whole c h
