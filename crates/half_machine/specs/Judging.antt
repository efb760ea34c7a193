-- Which answer a half takes, and what its mutation makes of a head or of trailers.
use Rattle.std.specs.Prelude.{ℕ, ◌≡◌, Bool, not, ◌&&◌, List, [], ◌∷◌, Option, Some, None, option_map, if◌then◌else◌, ◌==◌, nat_lt}
use Rattle.ext_msgs.specs.declared.lists.Field.{Field}
use Rattle.ext_msgs.specs.declared.answer.BodyChange.{BodyChange}
use Rattle.ext_msgs.specs.declared.answer.HeaderMutation.{HeaderMutation}
use Rattle.header_mutation.specs.Mutated.{mutated, Outcome, Fields}
use Rattle.header_mutation.specs.declared.rules.MutFault.{MutFault}
use Rattle.header_mutation.specs.declared.rules.MutFault.TheVariants as mut
use Rattle.header_mutation.specs.declared.rules.PartKind.TheVariants.{Trailers as TrailerPart}
use Rattle.header_mutation.specs.declared.setup.HalfFault.{HalfFault}
use Rattle.header_mutation.specs.declared.setup.HalfFault.TheVariants as half
use Rattle.filter_model.specs.Course.{is_streamed_back, head_kind, fields_or}
use Rattle.filter_model.specs.Half.{fault_of}
use Rattle.half_machine.specs.declared.marks.Mark.{Mark}
use Rattle.half_machine.specs.declared.marks.Mark.TheVariants as mark
use Rattle.half_machine.specs.declared.half.Half.{Half}

-- an answer's part by its number: 0 headers, 1 body, 2 trailers
abbrev pub is_of_part : Mark → ℕ → Bool
is_of_part mark.Headers n = n == 0
is_of_part (mark.Body last) n = n == 1
is_of_part mark.Trailers n = nat_lt 1 n

-- the oldest ask out, where the answer is one to it
abbrev pub answered_mark : List Mark → ℕ → BodyChange → Option Mark
answered_mark [] part body = None
answered_mark (m ∷ more) part body = if is_of_part m part && not (is_streamed_back body) then Some m else None

abbrev pub head_outcome : Half → HeaderMutation → Option (List Field) → Outcome
head_outcome x m None = Fields []
head_outcome x m (Some head) = mutated x.rules (head_kind x.direction) head m

abbrev pub outcome_in : Half → HeaderMutation → Mark → Outcome
outcome_in x m mark.Headers = head_outcome x m x.head
outcome_in x m (mark.Body last) = head_outcome x m x.head
outcome_in x m mark.Trailers = mutated x.rules TrailerPart x.trailers m

abbrev pub fault_by : MutFault → HalfFault
fault_by (mut.Bad place) = half.Malformed place
fault_by (mut.Disallowed place) = half.Disallowed place
fault_by mut.Memory = half.Memory

-- the fault is this cause, if it isn't want of memory
abbrev pub IsCause : Option HalfFault → HalfFault → Type 0
IsCause cause half.Spurious = cause ≡ Some half.Spurious
IsCause cause (half.Malformed place) = cause ≡ Some (half.Malformed place)
IsCause cause (half.Disallowed place) = cause ≡ Some (half.Disallowed place)
IsCause cause half.Memory = Unit {0}

abbrev pub cause_in : Half → HeaderMutation → Mark → Option HalfFault
cause_in x m k = fault_of (outcome_in x m k)

-- what becomes of the fields
abbrev pub head_under : Half → HeaderMutation → Option (List Field)
head_under x m = option_map (λ h. fields_or h (mutated x.rules (head_kind x.direction) h m)) x.head

abbrev pub trailers_under : Half → HeaderMutation → List Field
trailers_under x m = fields_or x.trailers (mutated x.rules TrailerPart x.trailers m)
