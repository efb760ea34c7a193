-- Which ask is due, by what a half remembers, and what it makes of that.
use Rattle.std.specs.Prelude.{ℕ, ◌+◌, Bool, true, false, not, ◌&&◌, ◌||◌, List, take, Option, Some, None, if◌then◌else◌, ◌==◌, nat_lt, nat_le}
use Rattle.ext_msgs.specs.declared.lists.Field.{Field}
use Rattle.ext_msgs.specs.declared.modes.BodyMode.{BodyMode}
use Rattle.ext_msgs.specs.declared.modes.BodyMode.TheVariants.{NoAsk, Streamed, Buffered, Partial}
use Rattle.http_model.specs.Heads.{is_bodiless}
use Rattle.http_model.specs.declared.types.Length.{Length}
use Rattle.filter_model.specs.Course.{AskedPart, Headers, Body, Trailers, is_no_ask, is_partial}
use Rattle.half_machine.specs.Facts.{mode_in}
use Rattle.half_machine.specs.declared.facts.Arrived.{Arrived}
use Rattle.half_machine.specs.declared.facts.Ruled.{Ruled}
use Rattle.half_machine.specs.declared.facts.Asked.{Asked}
use Rattle.half_machine.specs.declared.marks.Mark.{Mark}
use Rattle.half_machine.specs.declared.marks.Mark.TheVariants as mark
use Rattle.half_machine.specs.declared.due.Due.{Due}
use Rattle.half_machine.specs.declared.due.Due.TheVariants as due

abbrev pub streamed_due : Arrived → Asked → ℕ → Option Due
streamed_due a k n =
    if n == 0 then (if (a.whole && not a.trailers) && k.body && not k.last then Some (due.Body 0 true) else None)
    else if nat_le n 16_384 then Some (due.Body n (a.whole && not a.trailers))
    else Some (due.Body 16_384 false)

abbrev pub buffered_due : Arrived → Asked → ℕ → Option Due
buffered_due a k n = if a.whole && not k.body then Some (due.Body n (not a.trailers)) else None

abbrev pub partial_due : Arrived → Asked → ℕ → ℕ → Option Due
partial_due a k limit n =
    if k.body then None
    else if nat_lt limit n then Some (due.Body limit false)
    else if a.whole then Some (due.Body n (not a.trailers))
    else None

abbrev pub due_by_mode : BodyMode → Option Due → Option Due → Option Due → Option Due
due_by_mode NoAsk streamed buffered partial = None
due_by_mode Streamed streamed buffered partial = streamed
due_by_mode Buffered streamed buffered partial = buffered
due_by_mode Partial streamed buffered partial = partial

abbrev pub body_due : Arrived → Ruled → Asked → ℕ → ℕ → Option Due
body_due a r k limit n =
    if is_bodiless a.framed then None
    else due_by_mode (mode_in r) (streamed_due a k n) (buffered_due a k n) (partial_due a k limit n)

abbrev pub trailers_due : Arrived → Ruled → Asked → Option Due
trailers_due a r k = if r.modes.trailers && a.whole && a.trailers && not k.trailers then Some due.Trailers else None

abbrev pub or_due : Option Due → Option Due → Option Due
or_due (Some x) other = Some x
or_due None other = other

abbrev pub due_in : Bool → Bool → Bool → Bool → Bool → Option Due → Option Due → Option Due
due_in head released stopped first headers_out body trailers =
    if not head || released || stopped then None
    else if first then Some due.Headers
    else if headers_out then None
    else or_due body trailers

abbrev pub due_at : Arrived → Ruled → Asked → Bool → Option Due → Option Due → Option Due
due_at a r k headers_out body trailers = due_in a.head r.released r.stopped (r.modes.headers && not k.any) headers_out body trailers

-- the ask itself, by the head, the bytes at hand and the trailers
abbrev pub part_of : List Field → Length → List ℕ → List Field → Due → AskedPart
part_of head framed hand trailers due.Headers = Headers head (is_bodiless framed)
part_of head framed hand trailers (due.Body n last) = Body (take n hand) last
part_of head framed hand trailers due.Trailers = Trailers trailers

abbrev pub passing_in : Ruled → Asked → Bool → Bool
passing_in r k body_out =
    r.released || (not body_out && (r.stopped || is_no_ask (mode_in r) || (is_partial (mode_in r) && k.body)))

-- What is remembered of it

abbrev pub made_with : Due → Asked → Asked
made_with due.Headers k = record k { any = true; unsent = k.unsent + 1; unhanded = k.unhanded + 1 }
made_with (due.Body n last) k = record k { any = true; body = true; last = k.last || last; unsent = k.unsent + 1; unhanded = k.unhanded + 1 }
made_with due.Trailers k = record k { any = true; trailers = true; unsent = k.unsent + 1; unhanded = k.unhanded + 1 }

abbrev pub mark_for : Due → Mark
mark_for due.Headers = mark.Headers
mark_for (due.Body n last) = mark.Body last
mark_for due.Trailers = mark.Trailers

abbrev pub lent_by : Due → Option ℕ
lent_by due.Headers = None
lent_by (due.Body n last) = Some n
lent_by due.Trailers = None
