-- Only the other frames stay.
use Rattle.std.proofs.Common.{arith, rules, List, ◌≡◌, ◌≤◌, ◌^◌, Bool, false, not, ap, sym, subst, ◌∙◌}
use Rattle.std.specs.List.{filter, list_any, sum_by}
use Rattle.std.proofs.lemmas.Fn.{filter_same}
use Rattle.h2_model.specs.Moves.{is_dropped, kept_waiting}
use Rattle.h2_model.specs.Queue.{Waiting, queued}
use Rattle.h2_sender.specs.Places.{IsFront}
use Rattle.h2_sender.specs.Queue.{Queue}
use Rattle.h2_sender.proofs.Front.{front_kept, kept_unless_dropped, all_kept}
use Rattle.h2_sender.specs.Shares.{bytes_for}
use Rattle.h2_sender.proofs.Shared.{none_dropped}
use Rattle.h2_sender.proofs.Totals.{counted_kept, queued_kept}
use Rattle.h2_sender.proofs.queue.FrameQueue.drop_data.Goals as goal

pub recount-requires-clause-room : goal.recount-requires-clause-room
recount-requires-clause-room c = let few = c.self.invariant.2.few in let fits = c.self.invariant.2.shares in let kept = c.retain.ensures.bound in omega arith

pub recount-requires-clause-bound : goal.recount-requires-clause-bound
recount-requires-clause-bound c =
    let p : Waiting → Bool = λ (w : Waiting). not (is_dropped c.args.stream w) in
    let kept : c.retain.new.self.items ≡ filter p c.self.inside.frames.items = filter_same _ p _ (λ x b f k. search rules) _ _ c.retain.ensures.filtered in
    let fewer : queued 0 c.retain.new.self.items ≤ queued 0 c.self.inside.frames.items = rw kept (queued_kept 0 p c.self.inside.frames.items) in
    let counted : c.self.inside.«data» ≡ queued 0 c.self.inside.frames.items = c.self.invariant.0.counted in
    let bound : c.self.inside.«data» ≤ 2 ^ 40 = c.self.invariant.0.bound in
    omega arith

pub queued-self-inside-requires : goal.queued-self-inside-requires
queued-self-inside-requires c =
    let p : Waiting → Bool = λ (w : Waiting). not (is_dropped c.args.stream w) in
    let kept : c.retain.new.self.items ≡ filter p c.self.inside.frames.items = filter_same _ p _ (λ x b f k. search rules) _ _ c.retain.ensures.filtered in
    let fewer : queued 0 c.retain.new.self.items ≤ queued 0 c.self.inside.frames.items = rw kept (queued_kept 0 p c.self.inside.frames.items) in
    let counted : c.self.inside.«data» ≡ queued 0 c.self.inside.frames.items = c.self.invariant.0.counted in
    let bound : c.self.inside.«data» ≤ 2 ^ 40 = c.self.invariant.0.bound in
    omega arith

pub front_of-self-inside-requires : goal.front_of-self-inside-requires
front_of-self-inside-requires c =
    let p : Waiting → Bool = λ (w : Waiting). not (is_dropped c.args.stream w) in
    let kept : c.retain.new.self.items ≡ filter p c.self.inside.frames.items = filter_same _ p _ (λ x b f k. search rules) _ _ c.retain.ensures.filtered in
    rw kept (front_kept p (kept_unless_dropped c.args.stream) c.self.inside.front c.self.inside.frames.items c.self.invariant.0.front)

pub overflow_sub-result : goal.overflow_sub-result
overflow_sub-result c =
    let p : Waiting → Bool = λ (w : Waiting). not (is_dropped c.args.stream w) in
    let kept : c.retain.new.self.items ≡ filter p c.self.inside.frames.items = filter_same _ p _ (λ x b f k. search rules) _ _ c.retain.ensures.filtered in
    let fewer : queued 0 c.retain.new.self.items ≤ queued 0 c.self.inside.frames.items = rw kept (queued_kept 0 p c.self.inside.frames.items) in
    let counted : c.self.inside.«data» ≡ queued 0 c.self.inside.frames.items = c.self.invariant.0.counted in
    let left : c.queued-self-inside.result ≡ queued 0 c.retain.new.self.items = c.queued-self-inside.ensures in
    omega arith

pub invariant_of-self : goal.invariant_of-self
invariant_of-self c =
    let p : Waiting → Bool = λ (w : Waiting). not (is_dropped c.args.stream w) in
    let kept : c.retain.new.self.items ≡ filter p c.self.inside.frames.items = filter_same _ p _ (λ x b f k. search rules) _ _ c.retain.ensures.filtered in
    let front : IsFront c.front_of-self-inside.result (filter p c.self.inside.frames.items) = subst (IsFront c.front_of-self-inside.result) kept c.front_of-self-inside.ensures in
    let few = c.self.invariant.2.few in
    let most = c.self.invariant.2.frames in
    let least = c.self.invariant.2.shares in
    let less = c.retain.ensures.bound in
    let same = c.retain.ensures.capacity in
    let more = c.recount.ensures.capacity in (
      rw c.queued-self-inside.ensures (rw kept (counted_kept p (kept_unless_dropped c.args.stream) c.self.inside.frames.items c.self.inside.«data» c.self.inside.control c.self.inside.front c.front_of-self-inside.result c.self.invariant.0 front)),
      c.recount.ensures.shared,
      record { few = omega arith; frames = omega arith; shares = omega arith },
    )

pub returns-clause-frames : goal.returns-clause-frames
returns-clause-frames c =
    let p : Waiting → Bool = λ (w : Waiting). not (is_dropped c.args.stream w) in
    let kept : c.retain.new.self.items ≡ filter p c.self.inside.frames.items = filter_same _ p _ (λ x b f k. search rules) _ _ c.retain.ensures.filtered in
    kept ∙ ap (λ (q : Queue). filter p q.frames) c.self.view_is

pub returns-then-bytes_of-eq0-clause-frames : goal.returns-then-bytes_of-eq0-clause-frames
returns-then-bytes_of-eq0-clause-frames c =
    let queue : List Waiting = c.self.inside.frames.items in
    let nothing : sum_by (bytes_for c.args.stream) queue ≡ 0 = sym (c.bytes_of.ensures ∙ c.self.invariant.1.bytes c.args.stream) ∙ c.if-bytes_of-eq0.true in
    let none : list_any (is_dropped c.args.stream) queue ≡ false = none_dropped c.args.stream queue c.self.invariant.0.left nothing in
    ap (λ (q : Queue). q.frames) (sym c.self.view_is) ∙ sym (all_kept (is_dropped c.args.stream) queue none) ∙ ap (λ (q : Queue). kept_waiting c.args.stream q.frames) c.self.view_is
