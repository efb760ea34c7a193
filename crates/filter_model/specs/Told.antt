-- What the half of a direction is told of what its side brings, and how its course stands to that of the exchange.
use Rattle.std.specs.Prelude.{ℕ, ◌-◌, ◌≡◌, ◌≤◌, true, false, not, ◌&&◌, List, [], ◌∷◌, ◌++◌, length, take, drop, map, Option, Some, None, if◌then◌else◌, nat_lt}
use Rattle.ext_msgs.specs.declared.lists.Field.{Field}
use Rattle.ext_msgs.specs.declared.ask.Ask.{Ask}
use Rattle.http_model.specs.Bytes.{is_empty}
use Rattle.http_model.specs.Heads.{is_bodiless}
use Rattle.http_model.specs.Reading.{Fault}
use Rattle.http_model.specs.Reads.{Original, unread}
use Rattle.http_model.specs.Reader.{Extends}
use Rattle.http_model.specs.declared.types.Direction.{Direction}
use Rattle.filter_model.specs.Config.{CourseConfig, FilterConfig}
use Rattle.filter_model.specs.Account.{ExchangeAccount, course, flow, front, gathered, given_count, to}
use Rattle.filter_model.specs.Cut.{Cut}
use Rattle.filter_model.specs.Step.{cut, is_departure, is_live, lets_pass}
use Rattle.filter_model.specs.View.{ViewEntry}
use Rattle.filter_model.specs.View as view
use Rattle.filter_model.specs.declared.calls.Side.{Side}
use Rattle.filter_model.specs.Answers.{ask_of}
use Rattle.filter_model.specs.Course.{Course, committed, asked, body_room, due, head_may_go, is_over}
use Rattle.filter_model.specs.Sound.{Sound}
use Rattle.filter_model.specs.Half.{HalfCall, Head, Bytes, End, called}

-- a course as its half knows it: without what the reader alone knows, the interim response that is owed and the fault
abbrev pub known : Course → Course
known w = record w { original = record w.original { expects = false; fault = None } }

-- a half's course after these calls, oldest first
abbrev pub told : CourseConfig → Direction → List HalfCall → Course → Course
told c d [] w = w
told c d (call ∷ calls) w = told c d calls (asked c d (committed c d (called call w)))

-- What is told where the reader had read `o`, and has now read `now`

-- body bytes, and the end where it came
abbrev pub more : Original → List ℕ → HalfCall
more now bytes = if now.whole then End bytes now.trailers else Bytes bytes

-- nothing where neither came
abbrev pub more_calls : Original → List ℕ → List HalfCall
more_calls now bytes = if not now.whole && is_empty bytes then [] else more now bytes ∷ []

-- no more body bytes at once than there is room for; the head's entry alone can bring more
abbrev pub body_calls : ℕ → Original → List HalfCall
body_calls room now =
    if is_bodiless now.length then []
    else if nat_lt room (length now.body) then Bytes (take room now.body) ∷ more now (drop room now.body) ∷ []
    else more_calls now now.body

abbrev pub head_of : Original → List Field → HalfCall
head_of now head = Head head now.length

-- the head once, then what the body grew by, until it is whole
abbrev pub news_at : CourseConfig → Direction → Course → Original → Option (List Field) → Option (List Field) → List HalfCall
news_at c d w now None None = []
news_at c d w now None (Some head) = head_of now head ∷ body_calls (body_room c d (told c d (head_of now head ∷ []) w)) now
news_at c d w now (Some head) _ = if w.original.whole then [] else more_calls now (drop (length w.original.body) now.body)

-- to a half with this course
abbrev pub news : CourseConfig → Direction → Course → Original → List HalfCall
news c d w now = news_at c d w now w.original.head now.head

-- the asks that it makes meanwhile
abbrev pub asks_behind : Direction → Course → Course → List Ask
asks_behind d w now = map (ask_of d) (drop (length w.asks) now.asks)

-- What a reader says of a message, however far it was read

pub record ReadWell (o : Original) : Type 0 where
  pub unread : o.head ≡ None → (f : Option Fault) × (o ≡ unread f)
  pub bare : o.whole ≡ false → o.trailers ≡ []
  pub bodiless : (head : List Field) → o.head ≡ Some head → is_bodiless o.length ≡ true → (o.body ≡ []) × (o.trailers ≡ []) × (o.whole ≡ true)

-- a course at rest reads on, in an entry that is no cut
pub record Comes (c : CourseConfig) (d : Direction) (w : Course) (now : Original) : Type 0 where
  pub sound : Sound c w
  pub chosen : w.head ≡ None → head_may_go w ≡ true → w.original.head ≡ None
  pub asked : due c d w ≡ []
  pub extends : Extends w.original now
  pub before : ReadWell w.original
  pub after : ReadWell now
  -- the head's entry brings at most one piece, and no body that is past its limit
  pub short : w.original.head ≡ None → length now.body ≤ c.piece
  pub within : w.original.head ≡ None → is_over c (record w { original = now }) ≡ false
  -- the mark leaves room for a piece
  pub sizes : c.piece ≤ c.mark

-- An entry of the two sides, or of time

abbrev pub IsOfSides : ViewEntry → Type 0
IsOfSides (view.Bytes s bytes) = Unit {0}
IsOfSides (view.End s) = Unit {0}
IsOfSides (view.Lost s how) = Unit {0}
IsOfSides (view.Tick n) = Unit {0}
IsOfSides _ = ⊥

-- it comes to a live exchange, isn't the client's leaving, and is no cut
pub record IsNoCut (c : FilterConfig) (e : ViewEntry) (a : ExchangeAccount) : Type 0 where
  pub live : is_live a.fate ≡ true
  pub stays : is_departure e (gathered e a) ≡ false
  pub none : cut c e (gathered e a) ≡ None

-- the head's entry brings at most one piece of the body
abbrev pub IsShort : FilterConfig → Course → Course → Type 0
IsShort c w now = w.original.head ≡ None → length now.original.body ≤ c.course.piece

-- The other calls

-- so many body bytes more were given to this side than before
abbrev pub more_given : Side → List ℕ → ExchangeAccount → ℕ
more_given s bytes a =
    given_count (to s) (course (to s) a).head (front (to s) a) ((flow (to s) a).given ++ bytes) - (course (to s) a).given

abbrev pub IsOfProcessor : ViewEntry → Type 0
IsOfProcessor (view.Answered x) = Unit {0}
IsOfProcessor view.TooLong = Unit {0}
IsOfProcessor (view.Closed clean) = Unit {0}
IsOfProcessor view.NoStream = Unit {0}
IsOfProcessor (view.Tick n) = Unit {0}
IsOfProcessor _ = ⊥

-- it comes to a live exchange, and is a cut that lets the rest pass
pub record IsLetPass (c : FilterConfig) (e : ViewEntry) (a : ExchangeAccount) (k : Cut) : Type 0 where
  pub live : is_live a.fate ≡ true
  pub is : cut c e (gathered e a) ≡ Some k
  pub passes : lets_pass c k ≡ true
