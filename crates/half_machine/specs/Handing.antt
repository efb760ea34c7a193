-- How a half hands out an ask.
use Rattle.std.specs.Prelude.{ℕ, ◌<◌, List, [], length, Option, Some, None, unwrap_or, slice_get}
use Rattle.ext_msgs.specs.declared.lists.Field.{Field}
use Rattle.ext_msgs.specs.declared.ask.Ask.{Ask}
use Rattle.http_model.specs.Heads.{is_bodiless}
use Rattle.http_model.specs.declared.types.Length.{Length}
use Rattle.filter_model.specs.Course.{AskedPart, Headers, Body, Trailers}
use Rattle.filter_model.specs.Half.{Past, Asked, after_step}
use Rattle.half_machine.specs.declared.marks.Mark.{Mark}
use Rattle.half_machine.specs.declared.marks.Mark.TheVariants as mark
use Rattle.half_machine.specs.declared.half.Half.{Half}

-- the part that an ask is about, by what is kept; k asks of the body are out before it
abbrev pub part_from : Option (List Field) → Length → List Field → List (List ℕ) → Mark → ℕ → AskedPart
part_from head framed trailers lent mark.Headers k = Headers (unwrap_or head []) (is_bodiless framed)
part_from head framed trailers lent (mark.Body last) k = Body (unwrap_or (slice_get lent k) []) last
part_from head framed trailers lent mark.Trailers k = Trailers trailers

abbrev pub part_at : Half → Mark → ℕ → AskedPart
part_at x m k = part_from x.head x.arrived.framed x.trailers x.hold.lent m k

-- what it is about is there
abbrev pub IsThere : Half → Mark → ℕ → Type 0
IsThere x mark.Headers k = Unit {0}
IsThere x (mark.Body last) k = k < length x.hold.lent
IsThere x mark.Trailers k = Unit {0}

abbrev pub after_ask : Option Ask → Past → Past
after_ask None p = p
after_ask (Some a) p = after_step Asked p
