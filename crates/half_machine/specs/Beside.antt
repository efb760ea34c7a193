-- How much a half keeps beside the bytes of the body.
use Rattle.std.specs.Prelude.{ℕ, ◌+◌, List, length, Option, Some, None, sum_by}
use Rattle.ext_msgs.specs.declared.ask.Ask.{Ask}
use Rattle.ext_msgs.specs.declared.ask.Ask.TheVariants as ask
use Rattle.ext_msgs.specs.declared.lists.Field.{Field}
use Rattle.filter_model.specs.Held.{field_bytes}
use Rattle.half_machine.specs.declared.half.Half.{Half}

-- by its fields, or its body bytes
abbrev pub ask_size : Ask → ℕ
ask_size (ask.RequestHeaders fields last) = field_bytes fields
ask_size (ask.ResponseHeaders fields last) = field_bytes fields
ask_size (ask.RequestBody bytes last) = length bytes
ask_size (ask.ResponseBody bytes last) = length bytes
ask_size (ask.RequestTrailers fields) = field_bytes fields
ask_size (ask.ResponseTrailers fields) = field_bytes fields

abbrev pub head_size : Option (List Field) → ℕ
head_size None = 0
head_size (Some head) = field_bytes head

-- the head and the trailers, and asks that were answered before they were handed out
abbrev pub held_beside : Half → ℕ
held_beside x = head_size x.head + field_bytes x.trailers + sum_by ask_size x.ready
