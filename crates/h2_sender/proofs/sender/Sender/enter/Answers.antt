-- DATA takes its length of the window.
use Rattle.std.proofs.Common.{arith, ◌≡◌, ◌≤◌, ◌<◌, ◌+◌, ◌^◌, ℕ, List, sym, subst, ℤ, pos, ◌+ℤ◌, ◌≤ℤ◌}
use Rattle.std.proofs.lemmas.Int.{ints}
use Rattle.h2_laws_log.proofs.Queues.{queued-entered}
use Rattle.h2_model.specs.Log.{LogEntry}
use Rattle.h2_model.specs.Queue.{Waiting, entered, data_in}
use Rattle.h2_sender.specs.Sending.{Sending, IsBounded, data_kept}
use Rattle.h2_sender.proofs.Bounds.{bounded_more, fits_alone}
use Rattle.h2_sender.proofs.sender.Sender.enter.Goals as goal

pub invariant_of-self : goal.invariant_of-self
invariant_of-self c =
    let waiting : List Waiting = c.self.inside.queue.frames in
    let held : List LogEntry = c.self.inside.held.items in
    let window : ℤ = c.self.inside.window in
    let bounded : IsBounded waiting held window = c.self.invariant.1 in
    let low : pos 0 ≤ℤ window = bounded.low in
    let high : (window +ℤ pos (data_kept waiting held)) ≤ℤ pos (2 ^ 41) = bounded.high in
    let fits : data_kept waiting held ≤ 2 ^ 40 = bounded.«data» in
    let n : ℕ = data_in 0 c.args.frame in
    let next : c.enter.new.self.frames ≡ entered c.args.frame waiting = c.enter.ensures.frames in
    let sum : data_kept c.enter.new.self.frames held ≡ data_kept waiting held + n = rw next (omega (arith, queued-entered 0 c.args.frame waiting)) in
    let room : 0 < n → data_kept waiting held + n ≤ 2 ^ 40 = subst (λ (s : Sending). 0 < n → data_kept s.waiting s.held + n ≤ 2 ^ 40) (sym c.self.view_is) c.requires.bound in
    let few : n ≤ 2 ^ 40 = fits_alone (data_kept waiting held) n room in
    let enough : 0 < n → pos n ≤ℤ window = subst (λ (s : Sending). 0 < n → pos n ≤ℤ s.window) (sym c.self.view_is) c.requires.window in
    let count : c.data_in.result ≡ n = c.data_in.ensures in
    (c.self.invariant.0, bounded_more waiting c.enter.new.self.frames held held window _ n bounded sum room enough (omega (arith, ints)))
