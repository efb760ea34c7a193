-- A half that was answered stands for the course that was.
use Rattle.std.proofs.Common.{sym, ◌∙◌, ap, subst, arith}
use Rattle.std.specs.Prelude.{ℕ, ◌≡◌, ◌+◌, ◌≤◌, ◌<◌, Bool, true, false, List, ◌∷◌, ◌++◌, Some, [], length, map, filter, if◌then◌else◌}
use Rattle.ext_msgs.specs.declared.answer.Common.{Common}
use Rattle.http_model.specs.declared.types.Direction.{Direction}
use Rattle.filter_model.specs.Config.{CourseConfig}
use Rattle.filter_model.specs.Course.{Course, AskedPart, Headers, Body, Trailers, bytes_in, is_body, out}
use Rattle.filter_model.specs.Half.{Past, Progress, Answer, called, progress, course}
use Rattle.half_machine.specs.Answering.{brings_other, change_bytes, headers_joined, new_bytes, piece_for, with_other, with_answer, CanJoin, MayAnswer}
use Rattle.half_machine.specs.Choosing.{Holds}
use Rattle.half_machine.specs.Judging.{answered_mark}
use Rattle.half_machine.specs.Marks.{mark_of}
use Rattle.half_machine.specs.Room.{most_back}
use Rattle.half_machine.specs.Stands.{MadeWith, Ties, StandsFor}
use Rattle.half_machine.specs.declared.marks.Mark.{Mark}
use Rattle.half_machine.specs.declared.marks.Mark.TheVariants as mark
use Rattle.half_machine.specs.declared.half.Half.{Half}
use Rattle.half_machine.proofs.Answered.{joined, marks_out, lent_out}
use Rattle.half_machine.proofs.AnsweredBody.{body_ties, piece_is, piece_few}
use Rattle.half_machine.proofs.AnsweredHeaders.{HeadersOut, headers_out, headers_ties, new_few}
use Rattle.half_machine.proofs.AnsweredTrailers.{trailers_ties}
use Rattle.half_machine.proofs.Joining.{piece_of}
use Rattle.half_machine.proofs.Judged.{Taken, taken}

-- It can be taken

some_marks : (c : CourseConfig) (d : Direction) (p : Progress) (x : Half) (q : AskedPart) (more : List AskedPart) → Ties c d p x → out p.course ≡ q ∷ more → 0 < length x.marks
some_marks c d p x q more t o = let e : length x.marks ≡ length (mark_of q ∷ map mark_of more) = ap length (marks_out c d p x q more t o) in omega arith

can_join : (c : CourseConfig) (d : Direction) (p : Progress) (x : Half) (a : Common) (q : AskedPart) (more : List AskedPart) → MadeWith c d x → Ties c d p x → out p.course ≡ q ∷ more
    → p.course.released ≡ false → length (change_bytes a.body) ≤ c.answer_limit → CanJoin (mark_of q) a x
can_join c d p x a (Headers f l) more m t o r u =
    let k : HeadersOut d p x a = headers_out c d p x a f l more t o r in
    let none : length x.hold.out ≡ 0 = ap length k.out in
    let few : length (new_bytes a.body) ≤ c.answer_limit = new_few a.body c.answer_limit u in
    let i = m.answers in
    let j = m.few_answers in
    record { marks = some_marks c d p x (Headers f l) more t o; short = omega arith; fits = omega arith }
can_join c d p x a (Body b l) more m t o r u =
    let rest : List (List ℕ) = map bytes_in (filter is_body more) in
    let lent : x.hold.lent ≡ b ∷ rest = lent_out c d p x (Body b l) more t o in
    let piece : length (piece_for a x) ≡ length (piece_of a b) = ap length (piece_is a.body x.hold.lent b rest lent) in
    let few : length (piece_of a b) ≤ c.answer_limit + length b = piece_few a.body b c.answer_limit u in
    let most : most_back c.answer_limit x.hold.lent ≡ c.answer_limit + length b + most_back c.answer_limit rest = ap (most_back c.answer_limit) lent in
    let size : length x.hold.lent ≡ length (b ∷ rest) = ap length lent in
    let goes = t.room.goes r in
    let pieces = t.pieces_room r in
    let i = m.answers in
    let j = m.few_answers in
    let k = m.limit in
    let h = m.hold in
    let s = m.small in
    record { marks = some_marks c d p x (Body b l) more t o; lent = omega arith; fits = omega arith; count = omega arith }
can_join c d p x a (Trailers f) more m t o r u = some_marks c d p x (Trailers f) more t o

pub answer_can : (p : Past) (x : Half) (m : Mark) (n : ℕ) (a : Common) → StandsFor p x → MayAnswer p a → answered_mark x.marks n a.body ≡ Some m → (course p).released ≡ false → CanJoin m a x
answer_can p x m n a s y e r =
    let k : Taken p x m n a = taken p x m n a s e in
    subst (λ z. CanJoin z a x) k.mark (can_join p.config p.direction (progress p) x a k.oldest k.more s.made s.ties k.out r y.fits)

-- All of a half

join_ties : (c : CourseConfig) (d : Direction) (p : Progress) (x : Half) (a : Common) (q : AskedPart) (more : List AskedPart) → MadeWith c d x → Ties c d p x → out p.course ≡ q ∷ more
    → p.course.released ≡ false → length (change_bytes a.body) ≤ c.answer_limit → Ties c d (joined a p) (with_answer (mark_of q) a x)
join_ties c d p x a (Headers f l) more m t o r u = headers_ties c d p x a f l more m t o r u
join_ties c d p x a (Body b l) more m t o r u = body_ties c d p x a b l more m t o r u
join_ties c d p x a (Trailers f) more m t o r u = trailers_ties c d p x a f more m t o r

join_made : (c : CourseConfig) (d : Direction) (x : Half) (a : Common) (m : Mark) → MadeWith c d x → MadeWith c d (with_answer m a x)
join_made c d x a mark.Headers s = by (brings_other x a)
  where
    by : (q : Bool) → MadeWith c d (with_other q (new_bytes a.body) (headers_joined a x))
    by true = s
    by false = s
join_made c d x a (mark.Body last) s = s
join_made c d x a mark.Trailers s = s

unreleased : (w : Course) (a : Common) → w.released ≡ false → record w { answers = w.answers ++ a ∷ [] } ≡ called (Answer a) w
unreleased w a r = sym (ap (λ b. record w { answers = if b then w.answers else w.answers ++ a ∷ [] }) r)

pub answer_holds : (p : Past) (x y : Half) (m : Mark) (n : ℕ) (a : Common) → StandsFor p x → MayAnswer p a → answered_mark x.marks n a.body ≡ Some m → x.rule.released ≡ false
    → y ≡ with_answer m a x → Holds p.config p.direction (record (progress p) { course = called (Answer a) (course p) }) y
answer_holds p x y m n a s u e r f =
    let k : Taken p x m n a = taken p x m n a s e in
    let free : (course p).released ≡ false = sym s.ties.rule.released ∙ r in
    subst (λ z. Holds p.config p.direction (record (progress p) { course = called (Answer a) (course p) }) z) (sym f)
    (subst (λ w. Holds p.config p.direction (record (progress p) { course = w }) (with_answer m a x)) (unreleased (course p) a free)
    (subst (λ z. Holds p.config p.direction (joined a (progress p)) (with_answer z a x)) k.mark
    (join_made p.config p.direction x a (mark_of k.oldest) s.made, join_ties p.config p.direction (progress p) x a k.oldest k.more s.made s.ties k.out free u.fits)))

-- behind a release it changes nothing
pub late_holds : (p : Past) (x : Half) (a : Common) → StandsFor p x → x.rule.released ≡ true → Holds p.config p.direction (record (progress p) { course = called (Answer a) (course p) }) x
late_holds p x a s r =
    subst (λ b. Holds p.config p.direction (record (progress p) { course = record (course p) { answers = if b then (course p).answers else (course p).answers ++ a ∷ [] } }) x)
    (sym (sym s.ties.rule.released ∙ r)) (s.made, s.ties)
