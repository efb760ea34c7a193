-- Asks by their part alone.
use Rattle.std.specs.Prelude.{Bool, true, false, ◌≤◌, vec_len, vec_capacity}
use Rattle.std.specs.Global.{Vec}
use Rattle.filter_model.specs.Course.{AskedPart, Headers, Body, Trailers}
use Rattle.half_machine.specs.declared.marks.Mark.{Mark}
use Rattle.half_machine.specs.declared.marks.Mark.TheVariants as mark

abbrev pub is_of_headers : Mark → Bool
is_of_headers mark.Headers = true
is_of_headers _ = false

abbrev pub is_of_body : Mark → Bool
is_of_body (mark.Body last) = true
is_of_body _ = false

abbrev pub is_of_trailers : Mark → Bool
is_of_trailers mark.Trailers = true
is_of_trailers _ = false

abbrev pub mark_of : AskedPart → Mark
mark_of (Headers fields last) = mark.Headers
mark_of (Body bytes last) = mark.Body last
mark_of (Trailers fields) = mark.Trailers

pub record HasSlots (items : Vec Mark) : Type 0 where
  pub few : vec_len items ≤ 4
  pub room : 4 ≤ vec_capacity items
