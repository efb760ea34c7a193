-- No rule of a course reads what the reader alone knows.
use Rattle.std.specs.Prelude.{◌≡◌, refl}
use Rattle.ext_msgs.specs.declared.answer.Common.{Common}
use Rattle.http_model.specs.declared.types.Direction.{Direction}
use Rattle.filter_model.specs.Config.{CourseConfig}
use Rattle.filter_model.specs.Course.{Course, committed, asked, changed, body_room, is_over, queue, due, course_rules}
use Rattle.filter_model.specs.Cut.{AnswerKind}
use Rattle.filter_model.specs.Half.{HalfCall, Settle, Head, Bytes, End, Answer, Release, Sent, Given, called, refusal}
use Rattle.filter_model.specs.Told.{known}

pub committed_known : (c : CourseConfig) (d : Direction) (w : Course) → committed c d (known w) ≡ known (committed c d w)
unfolding course_rules
committed_known c d w = refl

pub asked_known : (c : CourseConfig) (d : Direction) (w : Course) → asked c d (known w) ≡ known (asked c d w)
unfolding course_rules
asked_known c d w = refl

pub changed_known : (c : CourseConfig) (d : Direction) (w : Course) → changed c d (known w) ≡ changed c d w
unfolding course_rules
changed_known c d w = refl

pub queue_known : (c : CourseConfig) (d : Direction) (w : Course) → queue c d (known w) ≡ queue c d w
unfolding course_rules
queue_known c d w = refl

pub room_known : (c : CourseConfig) (d : Direction) (w : Course) → body_room c d (known w) ≡ body_room c d w
unfolding course_rules
room_known c d w = refl

pub due_known : (c : CourseConfig) (d : Direction) (w : Course) → due c d (known w) ≡ due c d w
unfolding course_rules
due_known c d w = refl

pub refusal_known : (c : CourseConfig) (d : Direction) (w : Course) (kind : AnswerKind) (a : Common) → refusal c d (known w) kind a ≡ refusal c d w kind a
refusal_known c d w kind a = refl

pub over_known : (c : CourseConfig) (w : Course) → is_over c (known w) ≡ is_over c w
over_known c w = refl

pub called_known : (call : HalfCall) (w : Course) → called call (known w) ≡ known (called call w)
called_known (Settle m) w = refl
called_known (Head f n) w = refl
called_known (Bytes b) w = refl
called_known (End b t) w = refl
called_known (Answer a) w = refl
called_known Release w = refl
called_known Sent w = refl
called_known (Given n) w = refl
