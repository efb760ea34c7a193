-- What is dropped gives its part of the window back.
use Rattle.std.proofs.Common.{arith, ◌≡◌, ◌≤◌, ◌+◌, ◌-◌, ◌^◌, ℕ, List, not, ap, ◌∙◌, ℤ, pos, ◌+ℤ◌, ◌≤ℤ◌}
use Rattle.std.proofs.lemmas.Int.{ints}
use Rattle.h2_model.specs.Log.{LogEntry}
use Rattle.h2_model.specs.Moves.{kept_waiting, kept_held, is_dropped}
use Rattle.h2_model.specs.Queue.{Waiting, queued}
use Rattle.h2_model.specs.Windows.{held_data}
use Rattle.h2_sender.specs.Sending.{IsBounded, data_kept}
use Rattle.h2_sender.proofs.Bounds.{bounded_less}
use Rattle.h2_sender.proofs.Data.{held-less, queued-less}
use Rattle.h2_sender.proofs.sender.Sender.drop_stream.Goals as goal

pub held_data-self-inside-requires : goal.held_data-self-inside-requires
held_data-self-inside-requires c =
    let waiting : List Waiting = c.self.inside.queue.frames in
    let held : List LogEntry = c.self.inside.held.items in
    let window : ℤ = c.self.inside.window in
    let bounded : IsBounded waiting held window = c.self.invariant.1 in
    let low : pos 0 ≤ℤ window = bounded.low in
    let high : (window +ℤ pos (data_kept waiting held)) ≤ℤ pos (2 ^ 41) = bounded.high in
    let fits : data_kept waiting held ≤ 2 ^ 40 = bounded.«data» in
    let next : c.drop_held.new.held.items ≡ kept_held c.args.id held = c.drop_held.ensures.items in
    let fewer : held_data 0 c.drop_held.new.held.items ≤ held_data 0 held = rw next (held-less c.args.id held) in
    let slice : held_data 0 c.as_slice.result.now ≡ held_data 0 c.drop_held.new.held.items = ap (held_data 0) c.as_slice.ensures.value in
    omega arith

pub overflow_sub-self : goal.overflow_sub-self
overflow_sub-self c =
    let waiting : List Waiting = c.self.inside.queue.frames in
    let held : List LogEntry = c.self.inside.held.items in
    let window : ℤ = c.self.inside.window in
    let bounded : IsBounded waiting held window = c.self.invariant.1 in
    let low : pos 0 ≤ℤ window = bounded.low in
    let high : (window +ℤ pos (data_kept waiting held)) ≤ℤ pos (2 ^ 41) = bounded.high in
    let fits : data_kept waiting held ≤ 2 ^ 40 = bounded.«data» in
    let next : c.drop_held.new.held.items ≡ kept_held c.args.id held = c.drop_held.ensures.items in
    let fewer : held_data 0 c.drop_held.new.held.items ≤ held_data 0 held = rw next (held-less c.args.id held) in
    let slice : held_data 0 c.as_slice.result.now ≡ held_data 0 c.drop_held.new.held.items = ap (held_data 0) c.as_slice.ensures.value in
    let now : c.held_data-self-inside.result ≡ held_data 0 c.as_slice.result.now = c.held_data-self-inside.ensures in
    let counted : c.self.inside.held_data ≡ held_data 0 held = c.self.invariant.0 in
    omega arith

pub invariant_of-self : goal.invariant_of-self
invariant_of-self c =
    let waiting : List Waiting = c.self.inside.queue.frames in
    let held : List LogEntry = c.self.inside.held.items in
    let window : ℤ = c.self.inside.window in
    let bounded : IsBounded waiting held window = c.self.invariant.1 in
    let low : pos 0 ≤ℤ window = bounded.low in
    let high : (window +ℤ pos (data_kept waiting held)) ≤ℤ pos (2 ^ 41) = bounded.high in
    let fits : data_kept waiting held ≤ 2 ^ 40 = bounded.«data» in
    let next : c.drop_held.new.held.items ≡ kept_held c.args.id held = c.drop_held.ensures.items in
    let fewer : held_data 0 c.drop_held.new.held.items ≤ held_data 0 held = rw next (held-less c.args.id held) in
    let slice : held_data 0 c.as_slice.result.now ≡ held_data 0 c.drop_held.new.held.items = ap (held_data 0) c.as_slice.ensures.value in
    let now : c.held_data-self-inside.result ≡ held_data 0 c.as_slice.result.now = c.held_data-self-inside.ensures in
    let counted : c.self.inside.held_data ≡ held_data 0 held = c.self.invariant.0 in
    let rest : c.drop_data-queued.new.self.frames ≡ kept_waiting c.args.id waiting = c.drop_data-queued.ensures.frames in
    let less : queued 0 c.drop_data-queued.new.self.frames ≤ queued 0 waiting = rw rest (queued-less (λ w. not (is_dropped c.args.id w)) waiting) in
    let dropped : c.drop_data-queued.result ≡ queued 0 waiting - queued 0 c.drop_data-queued.new.self.frames = c.drop_data-queued.ensures.dropped in
    let n : ℕ = c.drop_data-queued.result + (c.self.inside.held_data - c.held_data-self-inside.result) in
    (now ∙ slice, bounded_less waiting c.drop_data-queued.new.self.frames held c.drop_held.new.held.items window _ n bounded (omega arith) (omega (arith, ints)))
