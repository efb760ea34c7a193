-- When one direction by itself does right: it is told what may come, and hands out what may go.
use Rattle.std.specs.Prelude.{ℕ, ◌+◌, ◌≡◌, ◌<◌, ◌≤◌, ◌⊎◌, Bool, true, false, List, [], ◌∷◌, ◌++◌, length, Option, Some, None, is_some, if◌then◌else◌}
use Rattle.std.specs.List.{list_any}
use Rattle.ext_msgs.specs.declared.modes.PartModes.{PartModes}
use Rattle.http_model.specs.Heads.{is_bodiless}
use Rattle.http_model.specs.Wire.{head_bytes}
use Rattle.http_model.specs.declared.types.Direction.{Direction}
use Rattle.http_model.specs.declared.types.Framing.{Framing}
use Rattle.http_model.specs.declared.types.Out.{Out}
use Rattle.http_model.specs.declared.types.Out.TheVariants as part
use Rattle.filter_model.specs.Config.{CourseConfig}
use Rattle.filter_model.specs.Course.{Course, changed, out, is_headers}
use Rattle.filter_model.specs.Cut.{AnswerKind}
use Rattle.filter_model.specs.Outgoing.{body_bytes, end_bytes, passing_limit}
use Rattle.filter_model.specs.Half.{HalfCall, Settle, Head, Bytes, End, Answer, Release, Sent, Given, HalfStep, Told, Asked, Gave, Past, Progress, MayGive, progress_of, refusal}

-- What may come

pub record MayRead (w : Course) : Type 0 where
  pub read : is_some w.original.head ≡ true
  pub has_body : is_bodiless w.original.length ≡ false
  pub unfinished : w.original.whole ≡ false

abbrev pub MayTell : CourseConfig → Direction → Progress → HalfCall → Type 0
MayTell c d p (Settle modes) = (p.course.original.head ≡ None) ⊎ (list_any is_headers (out p.course) ≡ true)
MayTell c d p (Head fields length) = p.course.original.head ≡ None
MayTell c d p (Bytes bytes) = MayRead p.course
MayTell c d p (End bytes trailers) = MayRead p.course
MayTell c d p (Answer a) = (p.course.released ≡ true) ⊎ ((kind : AnswerKind) × (refusal c d p.course kind a ≡ None))
MayTell c d p Release = Unit {0}
MayTell c d p Sent = p.course.sent < p.handed
MayTell c d p (Given n) = p.course.given + n ≤ p.taken.body

abbrev pub MayStep : CourseConfig → Direction → Progress → HalfStep → Type 0
MayStep c d p (Told call) = MayTell c d p call
MayStep c d p Asked = p.handed < length p.course.asks
MayStep c d p (Gave out) = MayGive passing_limit (changed c d p.course) p.taken out

abbrev pub AreSteps : CourseConfig → Direction → PartModes → List HalfStep → Type 0
AreSteps c d modes [] = Unit {0}
AreSteps c d modes (s ∷ steps) = AreSteps c d modes steps × MayStep c d (progress_of c d modes steps) s

-- each step came as it may
abbrev pub IsPast : Past → Type 0
IsPast p = AreSteps p.config p.direction p.modes p.steps

-- How the parts are written

abbrev pub framing_in : List Out → Option Framing
framing_in [] = None
framing_in (part.Head fields framing ∷ parts) = Some framing
framing_in (part.Data bytes ∷ parts) = framing_in parts
framing_in (part.Trailers fields ∷ parts) = framing_in parts
framing_in (part.End ∷ parts) = framing_in parts
framing_in (part.Nothing ∷ parts) = framing_in parts

abbrev pub has_trailers : List Out → Bool
has_trailers [] = false
has_trailers (part.Head fields framing ∷ parts) = has_trailers parts
has_trailers (part.Data bytes ∷ parts) = has_trailers parts
has_trailers (part.Trailers fields ∷ parts) = true
has_trailers (part.End ∷ parts) = has_trailers parts
has_trailers (part.Nothing ∷ parts) = has_trailers parts

-- behind a head of this framing; the trailers stand in the last chunk, which is written with them or with the end
abbrev pub part_behind : Framing → Bool → Out → List ℕ
part_behind framing trailers (part.Head fields other) = []
part_behind framing trailers (part.Data bytes) = body_bytes framing (bytes ∷ [])
part_behind framing trailers (part.Trailers fields) = end_bytes framing fields
part_behind framing trailers part.End = if trailers then [] else end_bytes framing []
part_behind framing trailers part.Nothing = []

abbrev pub part_bytes : Direction → Option Framing → Bool → Out → List ℕ
part_bytes d None trailers (part.Head fields framing) = head_bytes d fields framing
part_bytes d None trailers out = []
part_bytes d (Some framing) trailers out = part_behind framing trailers out

-- parts, newest first, as bytes
abbrev pub written_parts : Direction → List Out → List ℕ
written_parts d [] = []
written_parts d (out ∷ parts) = written_parts d parts ++ part_bytes d (framing_in parts) (has_trailers parts) out
