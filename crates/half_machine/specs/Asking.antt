-- How a half makes an ask.
use Rattle.std.specs.Prelude.{ℕ, ◌+◌, ◌-◌, ◌≤◌, ◌<◌, Bool, ◌&&◌, [], ◌∷◌, ◌++◌, length, Option, Some, None, is_some, if◌then◌else◌, nat_lt, nat_le}
use Rattle.std.specs.List.{list_any}
use Rattle.body_hold.specs.Held.{Held, joined, lent_room}
use Rattle.body_hold.specs.Steps.{lend}
use Rattle.filter_model.specs.Config.{CourseConfig}
use Rattle.filter_model.specs.Half.{Progress}
use Rattle.http_model.specs.declared.types.Direction.{Direction}
use Rattle.half_machine.specs.Marks.{is_of_headers, is_of_body}
use Rattle.half_machine.specs.Due.{body_due, trailers_due, due_at, passing_in, made_with, mark_for, lent_by}
use Rattle.half_machine.specs.Stands.{MadeWith, Ties}
use Rattle.half_machine.specs.declared.due.Due.{Due}
use Rattle.half_machine.specs.declared.facts.Counts.{Counts}
use Rattle.half_machine.specs.declared.half.Half.{Half}

abbrev pub due_of : Half → Option Due
due_of x =
    due_at x.arrived x.rule x.asked (list_any is_of_headers x.marks)
    (body_due x.arrived x.rule x.asked x.limit (length x.hold.hand)) (trailers_due x.arrived x.rule x.asked)

abbrev pub passes : Half → Bool
passes x = passing_in x.rule x.asked (list_any is_of_body x.marks)

-- the body bytes that wait to be given
abbrev pub queued : Half → ℕ
queued x = if is_some x.gone.framing then x.counts.waiting + length x.hold.out + (if passes x then length x.hold.hand else 0) else 0

abbrev pub may_ask : Half → Bool
may_ask x = nat_lt (length x.marks) 4 && nat_lt x.asked.unsent 4 && nat_le (queued x) 65_536

abbrev pub lent_to : Option ℕ → Held → Held
lent_to None h = h
lent_to (Some n) h = lend n h

abbrev pub counted_for : Option ℕ → Counts → Counts
counted_for None k = k
counted_for (Some n) k = record k { unasked = k.unasked - n }

abbrev pub with_due : Due → Half → Half
with_due due x = record x {
  asked = made_with due x.asked;
  counts = counted_for (lent_by due) x.counts;
  hold = lent_to (lent_by due) x.hold;
  marks = x.marks ++ mark_for due ∷ [];
}

abbrev pub with_next : Option Due → Half → Half
with_next None x = x
with_next (Some due) x = with_due due x

abbrev pub one_asked_in : Half → Half
one_asked_in x = if may_ask x then with_next (due_of x) x else x

-- when bytes can be lent with it
abbrev pub CanLend : Half → Option ℕ → Type 0
CanLend x None = Unit {0}
CanLend x (Some n) =
    (n ≤ length x.hold.hand) × (length x.hold.lent < 4) × (length (joined x.hold.lent) + n ≤ lent_room x.hold.limit) × (n ≤ x.counts.unasked)

pub record CanMake (x : Half) (due : Due) : Type 0 where
  pub marks : length x.marks < 4
  pub unsent : x.asked.unsent < 4
  pub unhanded : x.asked.unhanded < 4
  pub lend : CanLend x (lent_by due)

-- it stands for some progress
abbrev pub Tied : Half → Type 0
Tied x = (c : CourseConfig) × (d : Direction) × (p : Progress) × MadeWith c d x × Ties c d p x
