-- What the halves are told of an answer, and of which entries they are told nothing.
use Rattle.std.specs.Prelude.{◌≡◌, ◌≤◌, ◌⊎◌, true, false, List, [], ◌∷◌, length, Option, Some, None}
use Rattle.ext_msgs.specs.declared.answer.Answer.{Answer as Answering}
use Rattle.ext_msgs.specs.declared.answer.Common.{Common}
use Rattle.ext_msgs.specs.declared.answer.Span.{Span}
use Rattle.ext_msgs.specs.declared.lists.Field.{Field}
use Rattle.ext_msgs.specs.declared.modes.PartModes.{PartModes}
use Rattle.header_mutation.specs.declared.setup.HalfFault.{HalfFault}
use Rattle.header_mutation.specs.declared.setup.HalfFault.TheVariants as fault
use Rattle.http_model.specs.Reader.{Extends}
use Rattle.http_model.specs.Reads.{Original}
use Rattle.http_model.specs.declared.types.Direction.{Direction}
use Rattle.http_model.specs.declared.types.Direction.TheVariants.{Request, Response}
use Rattle.http_model.specs.declared.types.Length.{Length}
use Rattle.filter_model.specs.Config.{CourseConfig, FilterConfig}
use Rattle.filter_model.specs.Account.{ExchangeAccount, Flow, is_finished, is_released}
use Rattle.filter_model.specs.Course.{Course, asked, body_room, committed, due, head_may_go, is_over}
use Rattle.filter_model.specs.Cut.{Cut, Gone, Malformed, PartAnswer, Refused, Spurious, part_answer}
use Rattle.filter_model.specs.Half as half
use Rattle.filter_model.specs.Half.{HalfCall, Answer, Settle, called}
use Rattle.filter_model.specs.HalfRight.{MayRead}
use Rattle.filter_model.specs.Sound.{Sound}
use Rattle.filter_model.specs.Told.{ReadWell, told}
use Rattle.filter_model.specs.View.{ViewEntry, Bytes, End, Lost, Answered, TooLong, Closed, NoStream, Tick, Starved, Sent, Given}

-- Answers

abbrev pub across : Direction → Direction
across Request = Response
across Response = Request

-- a direction's modes of an override
abbrev pub modes_for : Direction → PartModes × PartModes → PartModes
modes_for Request m = m.0
modes_for Response m = m.1

-- the direction of the answer: its modes, where it brings some, and then the answer itself
abbrev pub own_calls : Direction → Option (PartModes × PartModes) → Common → List HalfCall
own_calls d None a = Answer a ∷ []
own_calls d (Some m) a = Settle (modes_for d m) ∷ Answer a ∷ []

-- the other direction than that of the answer: an answer to the request's headers brings the response's modes too
abbrev pub other_calls : Direction → Option (PartModes × PartModes) → List HalfCall
other_calls Request (Some m) = Settle m.1 ∷ []
other_calls Request None = []
other_calls Response m = []

-- an answer to a part, of an exchange in which it counts
pub record IsAnswerTo (c : FilterConfig) (x : Answering) (p : PartAnswer) (a : ExchangeAccount) : Type 0 where
  pub untimed : x.timeout ≡ None
  pub part : part_answer x.member ≡ Some p
  pub unreleased : is_released a ≡ false
  pub unfinished : is_finished c a ≡ false

-- the cut that a refusal is
abbrev pub cut_for : Option HalfFault → Option Cut
cut_for None = None
cut_for (Some fault.Spurious) = Some Spurious
cut_for (Some (fault.Malformed place)) = Some Malformed
cut_for (Some (fault.Disallowed place)) = Some Refused
cut_for (Some fault.Memory) = Some Gone

-- Entries that tell nothing

-- an entry that brings nothing of a message, and no answer
abbrev pub ReadsNothing : ViewEntry → Type 0
ReadsNothing (Bytes s bytes) = ⊥
ReadsNothing (End s) = ⊥
ReadsNothing (Answered x) = ⊥
ReadsNothing _ = Unit {0}

-- an entry of the processor or of time, or want of memory
abbrev pub IsOfNoSide : ViewEntry → Type 0
IsOfNoSide (Answered x) = Unit {0}
IsOfNoSide TooLong = Unit {0}
IsOfNoSide (Closed clean) = Unit {0}
IsOfNoSide NoStream = Unit {0}
IsOfNoSide (Tick n) = Unit {0}
IsOfNoSide Starved = Unit {0}
IsOfNoSide _ = ⊥

-- the stream gives no more answers
abbrev pub EndsStream : ViewEntry → Type 0
EndsStream TooLong = Unit {0}
EndsStream (Closed clean) = Unit {0}
EndsStream NoStream = Unit {0}
EndsStream _ = ⊥

-- an answer has a timeout override, or is one to a part
abbrev pub IsTaken : FilterConfig → ExchangeAccount → Option Answering → Type 0
IsTaken c a None = ⊥
IsTaken c a (Some x) = ((t : Span) × (x.timeout ≡ Some t)) ⊎ ((p : PartAnswer) × IsAnswerTo c x p a)

-- News

-- a head, once, or body bytes for which there is room, before the end
abbrev pub CallFits : CourseConfig → Direction → Course → HalfCall → Type 0
CallFits c d w (half.Head fields n) = w.original.head ≡ None
CallFits c d w (half.Bytes bytes) = MayRead w × (length bytes ≤ body_room c d w)
CallFits c d w (half.End bytes trailers) = MayRead w × (length bytes ≤ body_room c d w)
CallFits c d w _ = ⊥

-- a course at rest reads on, whether the entry is a cut or not
pub record Arrives (c : CourseConfig) (d : Direction) (w : Course) (now : Original) : Type 0 where
  pub sound : Sound c w
  pub chosen : w.head ≡ None → head_may_go w ≡ true → w.original.head ≡ None
  pub asked : due c d w ≡ []
  pub extends : Extends w.original now
  pub before : ReadWell w.original
  pub after : ReadWell now
  -- the head's entry brings at most one piece, and the mark leaves room for it
  pub short : w.original.head ≡ None → length now.body ≤ c.piece
  pub sizes : c.piece ≤ c.mark

-- each of the calls fits where it comes, oldest first
abbrev pub AllFit : CourseConfig → Direction → List HalfCall → Course → Type 0
AllFit c d [] w = Unit {0}
AllFit c d (call ∷ calls) w = CallFits c d w call × AllFit c d calls (asked c d (committed c d (called call w)))

-- the same until the body is past its limit; and then it stays so, whatever of them follows
abbrev pub FitUntilOver : CourseConfig → Direction → List HalfCall → Course → Type 0
FitUntilOver c d [] w = Unit {0}
FitUntilOver c d (call ∷ calls) w =
    let next : Course = asked c d (committed c d (called call w)) in
    CallFits c d w call × (is_over c next ≡ true → is_over c (told c d calls next) ≡ true)
    × (is_over c next ≡ false → FitUntilOver c d calls next)

-- What an entry leaves

pub record SameFlow (f f' : Flow) : Type 0 where
  pub brought : f'.brought ≡ f.brought
  pub ended : f'.ended ≡ f.ended
  pub lost : f'.lost ≡ f.lost
  pub given : f'.given ≡ f.given
  pub original : f'.course.original ≡ f.course.original

-- all but the asks, answers, heads, counts and releases of the courses, the timers, the fate and the ending
pub record SameRest (a a' : ExchangeAccount) : Type 0 where
  pub request : SameFlow a.request a'.request
  pub response : SameFlow a.response a'.response
  pub sent : a'.sent ≡ a.sent
  pub now : a'.now ≡ a.now
  pub unopened : a'.unopened ≡ a.unopened
  pub closed : a'.closed ≡ a.closed

-- an entry that brings no answer: of the two sides, of time, or of what went out
abbrev pub BringsNoAnswer : ViewEntry → Type 0
BringsNoAnswer (Bytes s bytes) = Unit {0}
BringsNoAnswer (End s) = Unit {0}
BringsNoAnswer (Lost s how) = Unit {0}
BringsNoAnswer (Tick n) = Unit {0}
BringsNoAnswer Sent = Unit {0}
BringsNoAnswer (Given s bytes) = Unit {0}
BringsNoAnswer _ = ⊥

-- of what its side brings, the head alone
abbrev pub head_at : Option (List Field) → Option (List Field) → Length → List HalfCall
head_at None (Some head) n = half.Head head n ∷ []
head_at None None n = []
head_at (Some head) now n = []

abbrev pub head_news : Original → Original → List HalfCall
head_news before now = head_at before.head now.head now.length
