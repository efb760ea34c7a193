-- Only the other frames stay, and the last one goes behind them.
use Rattle.std.proofs.Common.{arith, rules, ◌≡◌, ◌+◌, ◌-◌, ◌^◌, ◌++◌, ◌∷◌, [], ℕ, List, Bool, not, min, ap, subst, ◌∙◌}
use Rattle.std.specs.List.{filter}
use Rattle.std.proofs.lemmas.Fn.{filter_same}
use Rattle.h2_model.specs.Queue.{Waiting, is_free_content, fresh, queued}
use Rattle.h2_sender.specs.Places.{IsFront}
use Rattle.h2_sender.specs.Queue.{Queue, IsCounted}
use Rattle.h2_sender.proofs.Front.{front_kept, front_before, kept_unless_free_content}
use Rattle.h2_sender.proofs.Totals.{control_in, counted_last}
use Rattle.h2_sender.proofs.queue.FrameQueue.end.Goals as goal

pub push_back_reserved-requires : goal.push_back_reserved-requires
push_back_reserved-requires c =
    let here = ap (λ (q : Queue). q.room) c.self.view_is in
    let room = c.requires.room in
    let most = c.self.invariant.2.frames in
    let less = c.retain.ensures.bound in
    let same = c.retain.ensures.capacity in
    omega arith

pub recount-requires-clause-room : goal.recount-requires-clause-room
recount-requires-clause-room c =
    let here = ap (λ (q : Queue). q.room) c.self.view_is in
    let room = c.requires.room in
    let least = c.self.invariant.2.shares in
    let less = c.retain.ensures.bound in
    let one = c.push_back_reserved.ensures.len in
    omega arith

pub recount-requires-clause-bound : goal.recount-requires-clause-bound
recount-requires-clause-bound c =
    let p : Waiting → Bool = λ (w : Waiting). not (is_free_content w) in
    let queue : List Waiting = c.self.inside.frames.items in
    let kept : c.retain.new.self.items ≡ filter p queue = filter_same _ p _ (λ x b f k. search rules) _ _ c.retain.ensures.filtered in
    let items : c.push_back_reserved.new.self.items ≡ filter p queue ++ fresh c.args.last ∷ [] =
    c.push_back_reserved.ensures.items ∙ ap (λ q. q ++ c.fresh-new.result ∷ []) kept ∙ ap (λ w. filter p queue ++ w ∷ []) c.fresh-new.ensures in
    let front : IsFront c.self.inside.front (filter p queue ++ fresh c.args.last ∷ []) = front_before c.self.inside.front (filter p queue) (fresh c.args.last ∷ []) (front_kept p kept_unless_free_content c.self.inside.front queue c.self.invariant.0.front) in
    let now = counted_last p kept_unless_free_content queue c.args.last c.self.inside.«data» c.self.inside.control c.self.inside.front c.self.inside.front c.self.invariant.0 c.requires.control front in
    rw items now.bound

pub queued-self-inside-requires : goal.queued-self-inside-requires
queued-self-inside-requires c =
    let p : Waiting → Bool = λ (w : Waiting). not (is_free_content w) in
    let queue : List Waiting = c.self.inside.frames.items in
    let kept : c.retain.new.self.items ≡ filter p queue = filter_same _ p _ (λ x b f k. search rules) _ _ c.retain.ensures.filtered in
    let items : c.push_back_reserved.new.self.items ≡ filter p queue ++ fresh c.args.last ∷ [] =
    c.push_back_reserved.ensures.items ∙ ap (λ q. q ++ c.fresh-new.result ∷ []) kept ∙ ap (λ w. filter p queue ++ w ∷ []) c.fresh-new.ensures in
    let front : IsFront c.self.inside.front (filter p queue ++ fresh c.args.last ∷ []) = front_before c.self.inside.front (filter p queue) (fresh c.args.last ∷ []) (front_kept p kept_unless_free_content c.self.inside.front queue c.self.invariant.0.front) in
    let now = counted_last p kept_unless_free_content queue c.args.last c.self.inside.«data» c.self.inside.control c.self.inside.front c.self.inside.front c.self.invariant.0 c.requires.control front in
    rw items now.bound

pub front_of-self-inside-requires : goal.front_of-self-inside-requires
front_of-self-inside-requires c =
    let p : Waiting → Bool = λ (w : Waiting). not (is_free_content w) in
    let queue : List Waiting = c.self.inside.frames.items in
    let kept : c.retain.new.self.items ≡ filter p queue = filter_same _ p _ (λ x b f k. search rules) _ _ c.retain.ensures.filtered in
    let items : c.push_back_reserved.new.self.items ≡ filter p queue ++ fresh c.args.last ∷ [] =
    c.push_back_reserved.ensures.items ∙ ap (λ q. q ++ c.fresh-new.result ∷ []) kept ∙ ap (λ w. filter p queue ++ w ∷ []) c.fresh-new.ensures in
    rw items (front_before c.self.inside.front (filter p queue) (fresh c.args.last ∷ []) (front_kept p kept_unless_free_content c.self.inside.front queue c.self.invariant.0.front))

pub invariant_of-self : goal.invariant_of-self
invariant_of-self c =
    let p : Waiting → Bool = λ (w : Waiting). not (is_free_content w) in
    let queue : List Waiting = c.self.inside.frames.items in
    let kept : c.retain.new.self.items ≡ filter p queue = filter_same _ p _ (λ x b f k. search rules) _ _ c.retain.ensures.filtered in
    let items : c.push_back_reserved.new.self.items ≡ filter p queue ++ fresh c.args.last ∷ [] =
    c.push_back_reserved.ensures.items ∙ ap (λ q. q ++ c.fresh-new.result ∷ []) kept ∙ ap (λ w. filter p queue ++ w ∷ []) c.fresh-new.ensures in
    let front : IsFront c.front_of-self-inside.result (filter p queue ++ fresh c.args.last ∷ []) = subst (IsFront c.front_of-self-inside.result) items c.front_of-self-inside.ensures in
    let control : c.saturating_add-self-inside.result ≡ min (c.self.inside.control + control_in (fresh c.args.last)) (2 ^ 64 - 1) =
    c.saturating_add-self-inside.ensures ∙ ap (λ (k : ℕ). min (c.self.inside.control + k) (2 ^ 64 - 1)) (c.control.ensures ∙ ap control_in c.fresh-new.ensures) in
    let counted : IsCounted (filter p queue ++ fresh c.args.last ∷ []) (queued 0 (filter p queue ++ fresh c.args.last ∷ [])) (min (c.self.inside.control + control_in (fresh c.args.last)) (2 ^ 64 - 1)) c.front_of-self-inside.result =
    counted_last p kept_unless_free_content queue c.args.last c.self.inside.«data» c.self.inside.control c.self.inside.front c.front_of-self-inside.result c.self.invariant.0 c.requires.control front in
    let here = ap (λ (q : Queue). q.room) c.self.view_is in
    let room = c.requires.room in
    let most = c.self.invariant.2.frames in
    let least = c.self.invariant.2.shares in
    let less = c.retain.ensures.bound in
    let same = c.retain.ensures.capacity in
    let one = c.push_back_reserved.ensures.len in
    let wide = c.push_back_reserved.ensures.capacity in
    let more = c.recount.ensures.capacity in (
      rw c.queued-self-inside.ensures (rw items (rw control counted)),
      c.recount.ensures.shared,
      record { few = omega arith; frames = omega arith; shares = omega arith },
    )

pub returns-clause-frames : goal.returns-clause-frames
returns-clause-frames c =
    let p : Waiting → Bool = λ (w : Waiting). not (is_free_content w) in
    let queue : List Waiting = c.self.inside.frames.items in
    let kept : c.retain.new.self.items ≡ filter p queue = filter_same _ p _ (λ x b f k. search rules) _ _ c.retain.ensures.filtered in
    c.push_back_reserved.ensures.items ∙ ap (λ q. q ++ c.fresh-new.result ∷ []) kept ∙ ap (λ w. filter p queue ++ w ∷ []) c.fresh-new.ensures
    ∙ ap (λ (q : Queue). filter p q.frames ++ fresh c.args.last ∷ []) c.self.view_is
