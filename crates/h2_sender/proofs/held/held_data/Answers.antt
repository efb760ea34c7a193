-- A partial sum is no more than the whole.
use Rattle.std.proofs.Common.{arith, ◌≡◌, ◌≤◌, ◌<◌, ◌+◌, length, take}
use Rattle.h2_model.specs.Windows.{held_data}
use Rattle.h2_sender.proofs.Data.{held-next, held-part}
use Rattle.h2_sender.proofs.held.held_data.Goals as goal

pub overflow_add-data : goal.overflow_add-data
overflow_add-data c =
    let inside : c.loop-h.h-index < length c.args.held.now = omega arith in
    let next = held-next 0 c.args.held.now c.loop-h.h-index c.h-item.result inside c.h-item.is in
    let part = held-part 0 c.args.held.now (c.loop-h.h-index + 1) in
    let sum : c.loop-h.«data» ≡ held_data 0 (take c.loop-h.h-index c.args.held.now) = c.loop-h.invariant in
    let bound : held_data 0 c.args.held.now ≤ 1099511627776 = c.requires in
    omega arith

pub loop-h-preserved : goal.loop-h-preserved
loop-h-preserved c =
    let inside : c.loop-h.h-index < length c.args.held.now = omega arith in
    let next = held-next 0 c.args.held.now c.loop-h.h-index c.h-item.result inside c.h-item.is in
    let sum : c.loop-h.«data» ≡ held_data 0 (take c.loop-h.h-index c.args.held.now) = c.loop-h.invariant in
    omega arith
