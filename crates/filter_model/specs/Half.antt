-- One direction by itself: the calls that its machine gets, what it hands out, and what both come to.
use Rattle.std.specs.Prelude.{ℕ, suc, ◌+◌, ◌-◌, ◌≡◌, ◌≤◌, Bool, true, false, List, [], ◌∷◌, ◌++◌, length, take, drop, Option, Some, None, if◌then◌else◌, ◌==◌, nat_lt, slice_get, option_map}
use Rattle.ext_msgs.specs.declared.lists.Field.{Field}
use Rattle.ext_msgs.specs.declared.answer.Common.{Common}
use Rattle.ext_msgs.specs.declared.ask.Ask.{Ask}
use Rattle.ext_msgs.specs.declared.modes.PartModes.{PartModes}
use Rattle.header_mutation.specs.Mutated.{Outcome, Fields, Bad, Disallowed as Refused}
use Rattle.header_mutation.specs.declared.setup.HalfFault.{HalfFault}
use Rattle.header_mutation.specs.declared.setup.HalfFault.TheVariants.{Spurious, Malformed, Disallowed}
use Rattle.http_model.specs.Heads.{is_bodiless}
use Rattle.http_model.specs.declared.types.Direction.{Direction}
use Rattle.http_model.specs.declared.types.Length.{Length}
use Rattle.http_model.specs.declared.types.Out.{Out}
use Rattle.http_model.specs.declared.types.Out.TheVariants as part
use Rattle.filter_model.specs.Config.{CourseConfig}
use Rattle.filter_model.specs.Course.{Course, Changed, asked, committed, changed, body_of, is_spurious, outcome}
use Rattle.filter_model.specs.Account.{fresh_course}
use Rattle.filter_model.specs.Cut.{AnswerKind, OfHeaders, OfBody, OfTrailers, kind_of}
use Rattle.filter_model.specs.Answers.{behind_headers, ask_of}

-- Calls

pub data HalfCall : Type 0 where
  Settle : PartModes → HalfCall
  Head : List Field → Length → HalfCall
  Bytes : List ℕ → HalfCall
  End : List ℕ → List Field → HalfCall  -- the last bytes and the trailers
  Answer : Common → HalfCall  -- one that wasn't refused
  Release : HalfCall
  Sent : HalfCall
  Given : ℕ → HalfCall  -- so many body bytes more were given

-- before the head all modes, behind it those of body and trailers
abbrev pub settled_modes : Option (List Field) → PartModes → PartModes → PartModes
settled_modes None old new = new
settled_modes (Some head) old new = behind_headers old new

-- an answer after a release leaves the course as it is
abbrev pub called : HalfCall → Course → Course
called (Settle modes) w = record w { modes = settled_modes w.original.head w.modes modes }
called (Head fields length) w = record w {
  original = record w.original {
    head = Some fields;
    length = length;
    whole = is_bodiless length;
  };
}
called (Bytes bytes) w = record w { original = record w.original { body = w.original.body ++ bytes } }
called (End bytes trailers) w = record w {
  original = record w.original {
    body = w.original.body ++ bytes;
    trailers = trailers;
    whole = true;
  };
}
called (Answer a) w = record w { answers = if w.released then w.answers else w.answers ++ a ∷ [] }
called Release w = record w { released = true }
called Sent w = record w { sent = suc w.sent }
called (Given n) w = record w { given = w.given + n }

-- What was handed out

pub data HalfStep : Type 0 where
  Told : HalfCall → HalfStep
  Asked : HalfStep  -- an ask was handed out
  Gave : Out → HalfStep  -- a part was handed out

-- how far the message was handed out
pub record Taken : Type 0 where
  pub head : Bool
  pub body : ℕ  -- how many body bytes
  pub trailers : Bool
  pub ended : Bool

-- the parts that were handed out, newest first
abbrev pub parts : List HalfStep → List Out
parts [] = []
parts (Told call ∷ steps) = parts steps
parts (Asked ∷ steps) = parts steps
parts (Gave out ∷ steps) = out ∷ parts steps

abbrev pub after_out : Out → Taken → Taken
after_out (part.Head fields framing) t = record t { head = true }
after_out (part.Data bytes) t = record t { body = t.body + length bytes }
after_out (part.Trailers fields) t = record t { trailers = true }
after_out part.End t = record t { ended = true }
after_out part.Nothing t = t

pub record Progress : Type 0 where
  pub course : Course
  pub handed : ℕ  -- how many asks were handed out
  pub taken : Taken

-- a half's own history, newest first
pub record Past : Type 0 where
  pub config : CourseConfig
  pub direction : Direction
  pub modes : PartModes
  pub steps : List HalfStep

abbrev pub start : PartModes → Progress
start modes = record {
  course = fresh_course modes;
  handed = 0;
  taken = record { head = false; body = 0; trailers = false; ended = false };
}

-- heads are chosen and asks are made after each call
unfoldable pub one_more : CourseConfig → Direction → HalfStep → Progress → Progress
one_more c d (Told call) p = record p { course = asked c d (committed c d (called call p.course)) }
one_more c d Asked p = record p { handed = suc p.handed }
one_more c d (Gave out) p = record p { taken = after_out out p.taken }

unfoldable pub progress_of : CourseConfig → Direction → PartModes → List HalfStep → Progress
progress_of c d modes [] = start modes
progress_of c d modes (s ∷ steps) = one_more c d s (progress_of c d modes steps)

abbrev pub progress : Past → Progress
progress p = progress_of p.config p.direction p.modes p.steps

abbrev pub course : Past → Course
course p = (progress p).course

-- one step more
abbrev pub after_step : HalfStep → Past → Past
after_step s p = record p { steps = s ∷ p.steps }

abbrev pub becomes : Past → Changed
becomes p = changed p.config p.direction (course p)

-- What may be handed out next

-- the next body bytes behind n: a whole answered piece that isn't empty, or from 1 to max of the passing ones
abbrev pub IsNextData : ℕ → List (List ℕ) → List ℕ → ℕ → List ℕ → Type 0
IsNextData max [] passing n b = (1 ≤ length b) × (length b ≤ max) × (b ≡ take (length b) (drop n passing))
IsNextData max (p ∷ ps) passing n b = elim (nat_lt n (length p)) [
  | true ↦ b ≡ drop n p
  | false ↦ IsNextData max ps passing (n - length p) b
]

-- all before the trailers was handed out
pub record BodyTaken (m : Changed) (t : Taken) : Type 0 where
  pub head : t.head ≡ true
  pub body : t.body ≡ length (body_of m)

abbrev pub trailers_left : Changed → Bool → Option (List Field)
trailers_left m true = None
trailers_left m false = m.trailers

-- nothing more may go out yet
pub record NothingDue (m : Changed) (t : Taken) : Type 0 where
  pub head : t.head ≡ false → m.head ≡ None
  pub body : t.head ≡ true → t.body ≡ length (body_of m)
  pub trailers : t.head ≡ true → trailers_left m t.trailers ≡ None
  pub ended : t.head ≡ true → t.ended ≡ false → m.ended ≡ false

abbrev pub MayGive : ℕ → Changed → Taken → Out → Type 0
MayGive max m t (part.Head fields framing) = (t.head ≡ false) × (m.head ≡ Some (record { fields = fields; framing = framing }))
MayGive max m t (part.Data bytes) = (t.head ≡ true) × IsNextData max m.pieces m.passing t.body bytes
MayGive max m t (part.Trailers fields) = BodyTaken m t × (trailers_left m t.trailers ≡ Some fields)
MayGive max m t part.End = BodyTaken m t × (trailers_left m t.trailers ≡ None) × (t.ended ≡ false) × (m.ended ≡ true)
MayGive max m t part.Nothing = NothingDue m t

-- the ask that is handed out next
abbrev pub next_handed : Past → Option Ask
next_handed p = option_map (ask_of p.direction) (slice_get (course p).asks (progress p).handed)

-- Why an answer is refused, where it is

-- the number of a part in an answer: 0 headers, 1 body, 2 trailers
abbrev pub kind_numbered : ℕ → AnswerKind
kind_numbered n = if n == 0 then OfHeaders else (if n == 1 then OfBody else OfTrailers)

abbrev pub fault_of : Outcome → Option HalfFault
fault_of (Fields fields) = None
fault_of (Bad place) = Some (Malformed place)
fault_of (Refused place) = Some (Disallowed place)

abbrev pub refusal : CourseConfig → Direction → Course → AnswerKind → Common → Option HalfFault
refusal c d w kind a = if is_spurious (kind_of kind) a w then Some Spurious else fault_of (outcome c d w a.headers)

-- An `unfolding` line that names this opens the course of calls, so that examples compute.
unfoldable pub half_rules : Unit {0}
unfolding one_more progress_of
half_rules = tt
