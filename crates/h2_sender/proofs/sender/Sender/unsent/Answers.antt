-- One stream has no more than all.
use Rattle.std.proofs.Common.{arith, ◌≡◌, ◌≤◌, ◌^◌, List, ap}
use Rattle.h2_model.specs.Log.{LogEntry}
use Rattle.h2_model.specs.Windows.{held_data}
use Rattle.h2_sender.specs.Sending.{data_kept}
use Rattle.h2_sender.proofs.Data.{held-of-one}
use Rattle.h2_sender.proofs.sender.Sender.unsent.Goals as goal

pub held_data_of-requires : goal.held_data_of-requires
held_data_of-requires c =
    let held : List LogEntry = c.self.inside.held.items in
    let fits : data_kept c.self.inside.queue.frames held ≤ 2 ^ 40 = c.self.invariant.1.«data» in
    rw c.as_slice.ensures.value (omega (arith, held-of-one c.args.id held))

pub overflow_add-result : goal.overflow_add-result
overflow_add-result c =
    let held : List LogEntry = c.self.inside.held.items in
    let fits : data_kept c.self.inside.queue.frames held ≤ 2 ^ 40 = c.self.invariant.1.«data» in
    let one = held-of-one c.args.id held in
    let slice : held_data c.args.id c.as_slice.result.now ≡ held_data c.args.id held = ap (held_data c.args.id) c.as_slice.ensures.value in
    let count : c.held_data_of.result ≡ held_data c.args.id c.as_slice.result.now = c.held_data_of.ensures in
    let bound : c.unsent.result ≤ 2 ^ 40 = c.unsent.ensures.bound in
    omega arith
