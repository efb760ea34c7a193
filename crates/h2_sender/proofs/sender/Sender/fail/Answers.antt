-- What is free and what is held goes, and GOAWAY has no DATA.
use Rattle.std.proofs.Common.{arith, ◌≡◌, ◌≤◌, ◌+◌, ◌^◌, List, [], ◌∷◌, not, sym, ap, ◌∙◌, ℤ, pos, ◌+ℤ◌, ◌≤ℤ◌}
use Rattle.std.specs.List.{filter}
use Rattle.std.proofs.lemmas.Int.{ints}
use Rattle.h2_laws_log.proofs.Queues.{queued-append}
use Rattle.h2_model.specs.Log.{LogEntry}
use Rattle.h2_model.specs.Queue.{Waiting, is_free_content, fresh, queued, data_in}
use Rattle.h2_model.specs.Windows.{held_data}
use Rattle.h2_sender.specs.Sending.{IsBounded, data_kept}
use Rattle.h2_sender.proofs.Bounds.{bounded_less}
use Rattle.h2_sender.proofs.Data.{queued-less, goaway_no_data, goaway_control}
use Rattle.h2_sender.proofs.sender.Sender.fail.Goals as goal

pub end-requires-clause-control : goal.end-requires-clause-control
end-requires-clause-control c = goaway_control c.args.goaway c.requires.goaway

pub invariant_of-self : goal.invariant_of-self
invariant_of-self c =
    let waiting : List Waiting = c.self.inside.queue.frames in
    let held : List LogEntry = c.self.inside.held.items in
    let window : ℤ = c.self.inside.window in
    let bounded : IsBounded waiting held window = c.self.invariant.1 in
    let low : pos 0 ≤ℤ window = bounded.low in
    let high : (window +ℤ pos (data_kept waiting held)) ≤ℤ pos (2 ^ 41) = bounded.high in
    let fits : data_kept waiting held ≤ 2 ^ 40 = bounded.«data» in
    let none : data_in 0 c.args.goaway ≡ 0 = goaway_no_data c.args.goaway c.requires.goaway in
    let kept : List Waiting = filter (λ w. not (is_free_content w)) waiting in
    let less : queued 0 kept ≤ queued 0 waiting = queued-less (λ w. not (is_free_content w)) waiting in
    let one : queued 0 c.end.new.self.frames ≡ queued 0 kept + queued 0 (fresh c.args.goaway ∷ []) =
    ap (queued 0) c.end.ensures.frames ∙ queued-append 0 kept (fresh c.args.goaway ∷ []) in
    let last : queued 0 (fresh c.args.goaway ∷ []) ≡ data_in 0 c.args.goaway = omega arith in
    let nothing : held_data 0 c.clear.new.self.items ≡ 0 = ap (held_data 0) c.clear.ensures.items in
    (sym nothing, bounded_less waiting c.end.new.self.frames held c.clear.new.self.items window window 0 bounded (omega arith) (omega (arith, ints)))
