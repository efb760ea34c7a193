-- Of a message no more was given than handed out, and no more handed out than there is; so what wasn't given is what was handed
-- out and not given, and what wasn't handed out.
use Rattle.std.proofs.Common.{inl, inr, arith, length-drop}
use Rattle.std.specs.Prelude.{◌≡◌, ◌+◌, ◌-◌, ◌≤◌, List, [], ◌∷◌, length, drop}
use Rattle.ext_msgs.specs.declared.modes.PartModes.{PartModes}
use Rattle.http_model.specs.declared.types.Direction.{Direction}
use Rattle.http_model.specs.declared.types.Out.{Out}
use Rattle.http_model.specs.declared.types.Out.TheVariants as part
use Rattle.filter_model.specs.Config.{CourseConfig}
use Rattle.filter_model.specs.Course.{body_of, queue, committed, asked, one_asked}
use Rattle.filter_model.specs.Half.{HalfCall, Settle, Head, Bytes, End, Answer, Release, Sent, Given, HalfStep, Told, Asked, Gave, Past, Progress, Taken, after_out, becomes, called, course, parts, progress, progress_of, half_rules}
use Rattle.filter_model.specs.HalfRight.{AreSteps, IsPast, MayTell}
use Rattle.filter_model.proofs.HalfWritten.{IsGone, along, body_length}

more_handed : (out : Out) (t : Taken) → t.body ≤ (after_out out t).body
more_handed (part.Head fields framing) t = omega arith
more_handed (part.Data bytes) t = omega arith
more_handed (part.Trailers fields) t = omega arith
more_handed part.End t = omega arith
more_handed part.Nothing t = omega arith

given_told : (c : CourseConfig) (d : Direction) (p : Progress) (call : HalfCall) → MayTell c d p call → p.course.given ≤ p.taken.body
    → (asked c d (committed c d (called call p.course))).given ≤ p.taken.body
unfolding asked one_asked committed
given_told c d p (Settle m) k h = h
given_told c d p (Head f n) k h = h
given_told c d p (Bytes b) k h = h
given_told c d p (End b t) k h = h
given_told c d p (Answer a) k h = h
given_told c d p Release k h = h
given_told c d p Sent k h = h
given_told c d p (Given n) k h = k

given_along : (c : CourseConfig) (d : Direction) (modes : PartModes) (steps : List HalfStep) → AreSteps c d modes steps
    → (progress_of c d modes steps).course.given ≤ (progress_of c d modes steps).taken.body
unfolding half_rules
given_along c d modes [] y = omega arith
given_along c d modes (Told call ∷ steps) (y, m) = given_told c d (progress_of c d modes steps) call m (given_along c d modes steps y)
given_along c d modes (Asked ∷ steps) (y, m) = given_along c d modes steps y
given_along c d modes (Gave out ∷ steps) (y, m) =
    let h : (progress_of c d modes steps).course.given ≤ (progress_of c d modes steps).taken.body = given_along c d modes steps y in
    let k : (progress_of c d modes steps).taken.body ≤ (after_out out (progress_of c d modes steps).taken).body = more_handed out (progress_of c d modes steps).taken in
    omega arith

pub given_handed : (p : Past) → IsPast p → (course p).given ≤ (progress p).taken.body
given_handed p y = given_along p.config p.direction p.modes p.steps y

pub handed_fits : (p : Past) → IsPast p → (progress p).taken.body ≤ length (body_of (becomes p))
handed_fits p y = by (along p.config p.direction p.modes p.steps y).1
  where
    by : IsGone p.direction (becomes p) (progress p).taken (parts p.steps) → (progress p).taken.body ≤ length (body_of (becomes p))
    by (inl (u, e)) = let z = u.body in omega (arith, z)
    by (inr g) = let l = body_length (becomes p) (progress p).taken g.shown in omega (arith, l)

-- what waits is what was handed out and not given, and what wasn't handed out
pub waits_in : (p : Past) → IsPast p → queue p.config p.direction (course p)
    ≡ ((progress p).taken.body - (course p).given) + length (drop (progress p).taken.body (body_of (becomes p)))
unfolding queue
waits_in p y =
    let a : (course p).given ≤ (progress p).taken.body = given_handed p y in
    let b : (progress p).taken.body ≤ length (body_of (becomes p)) = handed_fits p y in
    let e : length (drop (progress p).taken.body (body_of (becomes p))) ≡ length (body_of (becomes p)) - (progress p).taken.body = length-drop (progress p).taken.body (body_of (becomes p)) in
    omega arith
