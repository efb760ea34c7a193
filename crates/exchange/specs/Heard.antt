-- What an event comes to.
use Rattle.std.specs.Prelude.{Option, Some, None, Result, Ok, Err, List, ℕ}
use Rattle.ext_msgs.specs.declared.answer.Answer.{Answer}
use Rattle.ext_msgs.specs.Messages.{answer_of}
use Rattle.filter_model.specs.declared.calls.Event.{Event}
use Rattle.filter_model.specs.declared.calls.Event.TheVariants as event

abbrev pub if_read : {F : Type 0} → Result Answer F → Option Answer
if_read (Ok x) = Some x
if_read (Err e) = None

-- what the reader of messages makes of these bytes
abbrev pub heard_in : List ℕ → Option Answer
heard_in bytes = if_read (answer_of bytes)

abbrev pub heard : Event → Option Answer
heard (event.Answer bytes) = heard_in bytes
heard _ = None
