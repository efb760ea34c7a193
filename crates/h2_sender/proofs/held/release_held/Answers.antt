-- One more frame enters the queue, or stays.
use Rattle.std.proofs.Common.{arith, rules, ◌≡◌, ◌<◌, ◌+◌, ℕ, true, List, ◌∷◌, ◌++◌, length, take, drop, sym, ap, subst, ◌∙◌}
use Rattle.std.proofs.lemmas.List.{drop_more, take_at, drop_at, length-take-le, get_or_default}
use Rattle.h2_model.specs.Log.{LogEntry, stream_of}
use Rattle.h2_model.specs.History.{frame_in, is_of}
use Rattle.h2_sender.proofs.Release.{IsReleasing, taken, fits}
use Rattle.h2_sender.proofs.held.release_held.Goals as goal

pub enter-requires-clause-bound : goal.enter-requires-clause-bound
enter-requires-clause-bound c =
    let held : List LogEntry = c.loop-at.held.items in
    let at : ℕ = c.loop-at.at in
    let x : LogEntry = c.remove-first.result in
    let inside : at < length held = search rules in
    let here : drop at held ≡ x ∷ drop (at + 1) held = drop_more held at x inside ∙ ap (λ e. e ∷ drop (at + 1) held) (sym c.remove-first.ensures.value) in
    let releasing : IsReleasing c.args.id c.args.held.now.items c.args.queue.now (take at held) (x ∷ drop (at + 1) held) c.loop-at.queue =
    subst (λ (es : List LogEntry). IsReleasing c.args.id c.args.held.now.items c.args.queue.now (take at held) es c.loop-at.queue) here c.loop-at.invariant.releasing in
    fits c.args.id c.args.held.now.items c.args.queue.now (take at held) x (drop (at + 1) held) c.loop-at.queue c.into_frame.result
    releasing c.into_frame.ensures.bytes c.requires.bound

pub loop-at-preserved-then-stream-id : goal.loop-at-preserved-then-stream-id
loop-at-preserved-then-stream-id c =
    let held : List LogEntry = c.loop-at.held.items in
    let at : ℕ = c.loop-at.at in
    let x : LogEntry = c.remove-first.result in
    let rest : List LogEntry = drop (at + 1) held in
    let left : List LogEntry = c.remove-first.new.self.items in
    let inside : at < length held = search rules in
    let here : drop at held ≡ x ∷ rest = drop_more held at x inside ∙ ap (λ e. e ∷ rest) (sym c.remove-first.ensures.value) in
    let releasing : IsReleasing c.args.id c.args.held.now.items c.args.queue.now (take at held) (x ∷ rest) c.loop-at.queue =
    subst (λ (es : List LogEntry). IsReleasing c.args.id c.args.held.now.items c.args.queue.now (take at held) es c.loop-at.queue) here c.loop-at.invariant.releasing in
    let same : c.index.result.now ≡ x =
    c.index.ensures ∙ get_or_default held at c.index.result.now x inside ∙ sym c.remove-first.ensures.value in
    let stream : stream_of (frame_in x) ≡ c.args.id =
    ap (λ (e : LogEntry). stream_of (frame_in e)) (sym same) ∙ sym c.stream.ensures ∙ c.if-stream-id.true in
    let own : is_of c.args.id x ≡ true = rw stream (search rules) in
    let parts : left ≡ take at held ++ rest = c.remove-first.ensures.by_index.2 in
    let before : length (take at held) ≡ at = length-take-le at held (omega arith) in
    let front : take at left ≡ take at held = rw parts (take_at (take at held) rest at before) in
    let back : drop at left ≡ rest = rw parts (drop_at (take at held) rest at before) in
    record {
      within = search rules;
      releasing = rw (front, back) (taken c.args.id c.args.held.now.items c.args.queue.now (take at held) x rest c.loop-at.queue c.enter.new.self
          c.into_frame.result releasing own c.into_frame.ensures.frame c.into_frame.ensures.bytes c.enter.ensures.frames c.enter.ensures.room);
      len = omega arith;
      capacity = c.remove-first.ensures.capacity ∙ c.loop-at.invariant.capacity;
    }
