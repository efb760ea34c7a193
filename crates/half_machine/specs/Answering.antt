-- What an answer makes of a half.
use Rattle.std.specs.Prelude.{ℕ, ◌+◌, ◌≤◌, ◌<◌, Bool, true, false, not, ◌&&◌, ◌||◌, List, [], ◌∷◌, ◌++◌, length, drop, is_some, unwrap_or, if◌then◌else◌, nat_le}
use Rattle.body_hold.specs.Held.{out_room}
use Rattle.body_hold.specs.Steps.{hand_replaced, backed, new_piece as piece_back}
use Rattle.body_hold.specs.declared.hold.Change.{Change}
use Rattle.body_hold.specs.declared.hold.Change.TheVariants.{Keep, Replace, Clear as Drop}
use Rattle.ext_msgs.specs.declared.answer.BodyChange.{BodyChange}
use Rattle.ext_msgs.specs.declared.answer.BodyChange.TheVariants.{Bytes, Clear, Streamed}
use Rattle.ext_msgs.specs.declared.answer.Common.{Common}
use Rattle.ext_msgs.specs.declared.ask.Ask.{Ask}
use Rattle.filter_model.specs.Answers.{ask_of}
use Rattle.filter_model.specs.Course.{is_bare, is_buffered, new_piece}
use Rattle.filter_model.specs.Half.{Past}
use Rattle.half_machine.specs.Handing.{part_at}
use Rattle.half_machine.specs.Judging.{head_under, trailers_under}
use Rattle.half_machine.specs.Pieces.{unless_none}
use Rattle.half_machine.specs.declared.marks.Mark.{Mark}
use Rattle.half_machine.specs.declared.marks.Mark.TheVariants as mark
use Rattle.half_machine.specs.declared.half.Half.{Half}

-- The ask that is answered

-- it wasn't handed out
abbrev pub is_unhanded : Half → Bool
is_unhanded x = nat_le (length x.marks) x.asked.unhanded

abbrev pub ready_with : Mark → Half → List Ask
ready_with m x = if is_unhanded x then x.ready ++ ask_of x.direction (part_at x m 0) ∷ [] else x.ready

abbrev pub with_ready : Mark → Half → Half
with_ready m x = record x { ready = ready_with m x }

-- it is out no more, and a piece of so many bytes waits
abbrev pub without_oldest : Mark → Bool → ℕ → Half → Half
without_oldest m replace n x = record x {
  rule = record x.rule { stopped = x.rule.stopped || replace };
  pieces = x.pieces ++ unless_none n;
  marks = drop 1 x.marks;
  ready = ready_with m x;
}

-- One of the headers

abbrev pub new_bytes : BodyChange → List ℕ
new_bytes change = unwrap_or (new_piece change) []

-- it brings another body, where there can be one
abbrev pub brings_other : Half → Common → Bool
brings_other x a = not (is_bare x.direction x.arrived.framed) && a.replace && is_some (new_piece a.body)

abbrev pub with_other : Bool → List ℕ → Half → Half
with_other false b x = x
with_other true b x = record x {
  rule = record x.rule { replaced = true };
  counts = record x.counts { unasked = 0 };
  hold = hand_replaced b x.hold;
}

abbrev pub other_size : Bool → List ℕ → ℕ
other_size other b = if other then length b else 0

abbrev pub headers_joined : Common → Half → Half
headers_joined a x = record x {
  rule = record x.rule { stopped = x.rule.stopped || a.replace; passes = a.replace; headers_answered = true };
  pieces = x.pieces ++ unless_none (other_size (brings_other x a) (new_bytes a.body));
  marks = drop 1 x.marks;
  ready = ready_with mark.Headers x;
  head = head_under x a.headers;
}

abbrev pub with_headers_answer : Common → Half → Half
with_headers_answer a x = with_other (brings_other x a) (new_bytes a.body) (headers_joined a x)

-- One of the body

abbrev pub change_by : BodyChange → Change
change_by (Bytes b) = Replace b
change_by (Clear true) = Drop
change_by _ = Keep

abbrev pub piece_for : Common → Half → List ℕ
piece_for a x = piece_back (change_by a.body) x.hold.lent

abbrev pub with_piece : Bool → Common → Half → Half
with_piece last a x = record x {
  rule = record x.rule { stopped = x.rule.stopped || a.replace; body_answered = true };
  counts = record x.counts { pieces = x.counts.pieces + length (piece_for a x) };
  hold = backed (change_by a.body) x.hold;
  pieces = x.pieces ++ unless_none (length (piece_for a x));
  marks = drop 1 x.marks;
  ready = ready_with (mark.Body last) x;
}

abbrev pub with_body_answer : Bool → Common → Half → Half
with_body_answer last a x = record (with_piece last a x) { head = if is_buffered x.rule.modes.body then head_under x a.headers else x.head }

-- One of the trailers

abbrev pub with_trailers_answer : Common → Half → Half
with_trailers_answer a x = record (without_oldest mark.Trailers a.replace 0 x) { trailers = trailers_under x a.headers }

abbrev pub with_answer : Mark → Common → Half → Half
with_answer mark.Headers a x = with_headers_answer a x
with_answer (mark.Body last) a x = with_body_answer last a x
with_answer mark.Trailers a x = with_trailers_answer a x

-- When it can be taken

pub record CanJoinHeaders (x : Half) (a : Common) : Type 0 where
  pub marks : 0 < length x.marks
  pub short : length (new_bytes a.body) ≤ 4_294_967_295
  pub fits : length x.hold.out + length (new_bytes a.body) ≤ out_room x.hold.limit x.hold.answer

pub record CanJoinPiece (x : Half) (a : Common) : Type 0 where
  pub marks : 0 < length x.marks
  pub lent : 0 < length x.hold.lent
  pub fits : length x.hold.out + length (piece_for a x) ≤ out_room x.hold.limit x.hold.answer
  pub count : x.counts.pieces + length (piece_for a x) ≤ 4_294_967_295

abbrev pub CanJoin : Mark → Common → Half → Type 0
CanJoin mark.Headers a x = CanJoinHeaders x a
CanJoin (mark.Body last) a x = CanJoinPiece x a
CanJoin mark.Trailers a x = 0 < length x.marks

abbrev pub change_bytes : BodyChange → List ℕ
change_bytes (Bytes b) = b
change_bytes (Streamed b last) = b
change_bytes _ = []

-- the bytes of its body change fit
pub record MayAnswer (p : Past) (a : Common) : Type 0 where
  pub fits : length (change_bytes a.body) ≤ p.config.answer_limit
