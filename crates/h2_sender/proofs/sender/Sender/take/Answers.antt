-- What goes out leaves less.
use Rattle.std.proofs.Common.{arith, ◌≡◌, ◌≤◌, ◌^◌, List, ℤ, pos, ◌+ℤ◌, ◌≤ℤ◌}
use Rattle.std.proofs.lemmas.Int.{ints}
use Rattle.h2_model.specs.Log.{LogEntry}
use Rattle.h2_model.specs.Queue.{Waiting, queued, behind}
use Rattle.h2_sender.specs.Sending.{IsBounded, data_kept}
use Rattle.h2_sender.proofs.Bounds.{bounded_less}
use Rattle.h2_sender.proofs.Data.{queued-behind}
use Rattle.h2_sender.proofs.sender.Sender.take.Goals as goal

pub invariant_of-self : goal.invariant_of-self
invariant_of-self c =
    let waiting : List Waiting = c.self.inside.queue.frames in
    let held : List LogEntry = c.self.inside.held.items in
    let window : ℤ = c.self.inside.window in
    let bounded : IsBounded waiting held window = c.self.invariant.1 in
    let low : pos 0 ≤ℤ window = bounded.low in
    let high : (window +ℤ pos (data_kept waiting held)) ≤ℤ pos (2 ^ 41) = bounded.high in
    let fits : data_kept waiting held ≤ 2 ^ 40 = bounded.«data» in
    let next : c.take.new.self.frames ≡ behind c.take.result.bytes waiting = c.take.ensures.frames in
    let less : queued 0 c.take.new.self.frames ≤ queued 0 waiting = rw next (queued-behind c.take.result.bytes waiting) in
    (c.self.invariant.0, bounded_less waiting c.take.new.self.frames held held window window 0 bounded (omega arith) (omega (arith, ints)))
