-- What goes out of a direction, step by step.
use Rattle.std.specs.Prelude.{◌<◌, Bool, true, false, length}
use Rattle.filter_model.specs.declared.calls.Taken.{Taken}
use Rattle.filter_model.specs.declared.calls.Taken.TheVariants.{Done, Abort}
use Rattle.h1_outlet.specs.Outlets.{all}
use Rattle.exchange.specs.Flows.{Story, FlowStands, NothingWaits, SameStory}
use Rattle.exchange.specs.declared.flow.Flow.{Flow}

-- bytes wait to be given, or none may go by now
abbrev pub Filled : Story → Bool → Flow → Type 0
Filled s true x = (s' : Story) × FlowStands s' x × SameStory s s' × (s'.flowed.given < length (all s'.flowed))
Filled s false x = NothingWaits s × FlowStands s x

-- a side that gets no bytes any more is done where it was given all, and else its link is aborted
abbrev pub done_if : Bool → Taken
done_if true = Done
done_if false = Abort
