-- How a half hands out a part of what its message has become.
use Rattle.std.specs.Prelude.{ℕ, ◌+◌, ◌==◌, min, Bool, true, not, ◌&&◌, ◌||◌, List, [], ◌∷◌, length, drop, is_none, if◌then◌else◌}
use Rattle.std.specs.List.{list_any}
use Rattle.ext_msgs.specs.declared.lists.Field.{Field}
use Rattle.http_model.specs.Bytes.{is_empty}
use Rattle.http_model.specs.declared.types.Framing.{Framing}
use Rattle.http_model.specs.declared.types.Framing.TheVariants.{NoField, Length, Chunked}
use Rattle.http_model.specs.declared.types.Out.{Out}
use Rattle.http_model.specs.declared.types.Out.TheVariants as part
use Rattle.body_hold.specs.Steps.{taken, dropped}
use Rattle.half_machine.specs.Marks.{is_of_body, is_of_trailers}
use Rattle.half_machine.specs.Due.{body_due, trailers_due}
use Rattle.half_machine.specs.Asking.{passes}
use Rattle.half_machine.specs.declared.facts.Counts.{Counts}
use Rattle.half_machine.specs.declared.giving.Behind.{Behind}
use Rattle.half_machine.specs.declared.giving.Behind.TheVariants as behind
use Rattle.half_machine.specs.declared.half.Half.{Half}

-- How many body bytes go next: of those that go out, a whole piece first, and then of those at hand, where they pass

abbrev pub most_of : ℕ → List ℕ → ℕ
most_of max [] = max
most_of max (n ∷ ns) = n

abbrev pub out_size : ℕ → Half → ℕ
out_size max x = min (most_of max x.pieces) (length x.hold.out)

abbrev pub hand_size : ℕ → Half → ℕ
hand_size max x = if passes x then min max (length x.hold.hand) else 0

-- What is left of a half that handed them out

abbrev pub waiting_more : ℕ → Counts → Counts
waiting_more n k = record k { waiting = min (k.waiting + n) 18_446_744_073_709_551_615 }

abbrev pub out_given : ℕ → Half → Half
out_given n x = record x {
  counts = waiting_more n x.counts;
  hold = dropped n x.hold;
  pieces = drop 1 x.pieces;
}

abbrev pub hand_given : ℕ → Half → Half
hand_given n x = record x {
  counts = waiting_more n x.counts;
  hold = taken n x.hold;
}

abbrev pub head_given : Half → Half
head_given x = record x { gone = record x.gone { head = true } }

-- What goes behind all of the body

-- all of it was read, and no piece of it is asked or still to be asked
abbrev pub body_done_in : Half → Bool
body_done_in x =
    x.arrived.whole && (x.rule.released || (not (list_any is_of_body x.marks)
    && (x.rule.stopped || is_none (body_due x.arrived x.rule x.asked x.limit (length x.hold.hand)))))

-- their ask was answered, or none is due
abbrev pub trailers_done_in : Half → Bool
trailers_done_in x =
    x.rule.released || (x.asked.trailers && not (list_any is_of_trailers x.marks))
    || (is_empty x.marks && (x.rule.stopped || is_none (trailers_due x.arrived x.rule x.asked)))

abbrev pub last_at : Bool → Behind
last_at ended = if ended then behind.Nothing else behind.End

abbrev pub behind_at : Bool → Bool → Bool → Bool → Bool → Bool → Behind
behind_at replaced body_done trailers trailers_done trailers_gone ended =
    if replaced then last_at ended
    else if not body_done then behind.Nothing
    else if not trailers then last_at ended
    else if not trailers_done then behind.Nothing
    else if not trailers_gone then behind.Trailers
    else last_at ended

abbrev pub behind_of : Half → Behind
behind_of x = behind_at x.rule.replaced (body_done_in x) x.arrived.trailers (trailers_done_in x) x.gone.trailers x.gone.ended

abbrev pub part_behind : List Field → Behind → Out
part_behind trailers behind.Nothing = part.Nothing
part_behind trailers behind.Trailers = part.Trailers trailers
part_behind trailers behind.End = part.End

abbrev pub given_behind : Behind → Half → Half
given_behind behind.Nothing x = x
given_behind behind.Trailers x = record x { gone = record x.gone { trailers = true } }
given_behind behind.End x = record x { gone = record x.gone { ended = true } }

-- Whether all of it was handed out

-- what the message becomes has ended
abbrev pub has_ended : Half → Bool
has_ended x = x.rule.replaced || (body_done_in x && (not x.arrived.trailers || trailers_done_in x))

abbrev pub is_body_handed : Half → Bool
is_body_handed x = (length x.hold.out == 0) && (not (passes x) || (length x.hold.hand == 0))

-- behind a head of this framing
abbrev pub is_tail_in : Half → Framing → Bool
is_tail_in x Chunked = x.gone.trailers || x.gone.ended
is_tail_in x NoField = true
is_tail_in x (Length n) = true

abbrev pub is_handed_in : Half → Framing → Bool
is_handed_in x framing = has_ended x && x.gone.head && is_body_handed x && is_tail_in x framing
