-- The first frame is given, in part or whole.
use Rattle.std.proofs.Common.{arith, rules, nat_eq, ◌≡◌, ◌<◌, ◌-◌, ◌^◌, ◌∷◌, [], true, false, List, length, drop, min, length-drop, ap, sym, subst, ◌∙◌}
use Rattle.std.proofs.lemmas.List.Elements.{All-head, All-tail}
use Rattle.h2_frames.specs.declared.frame.Frame.{Frame}
use Rattle.h2_model.specs.Queue.{Waiting, is_free, behind, whole_within, data_in, control_bytes}
use Rattle.h2_sender.specs.Places.{IsFront}
use Rattle.h2_sender.specs.Queue.{Queue, HasLeft, IsCounted}
use Rattle.h2_sender.proofs.Front.{begun_stays, front_begun, front_given}
use Rattle.h2_sender.specs.Shares.{AreShared}
use Rattle.h2_sender.proofs.Shared.{GivesFirst, Uncounted, gives_first, ended, first_last, shared_begun, shared_given}
use Rattle.h2_sender.proofs.Totals.{counted_some, counted_all}
use Rattle.h2_sender.proofs.Gives.{behind_none, none_whole, behind_all, whole_all}
use Rattle.h2_sender.proofs.queue.FrameQueue.take.Goals as goal

pub returns-then-is_empty-clause-frames : goal.returns-then-is_empty-clause-frames
returns-then-is_empty-clause-frames c = sym (behind_none c.self.inside.frames.items) ∙ ap (λ (q : Queue). behind 0 q.frames) c.self.view_is

pub returns-then-is_empty-clause-whole : goal.returns-then-is_empty-clause-whole
returns-then-is_empty-clause-whole c =
    ap (λ (q : Queue). whole_within 0 q.frames) (sym c.self.view_is) ∙ none_whole c.self.inside.frames.items c.self.invariant.0.left

pub uncount-requires-clause-last : goal.uncount-requires-clause-last
uncount-requires-clause-last c =
    let first : Waiting = c.in-Some.first in
    let rest : List Waiting = c.pop_front.new.self.items in
    let next : Waiting = c.give-bytes.new.self in
    let queue : c.self.inside.frames.items ≡ first ∷ rest = c.in-Some.ensures.items in
    let gives : GivesFirst (nat_eq c.left-whole.result 0) (c.unsent-unsent.result - c.unsent.result) first next = gives_first (nat_eq c.left-whole.result 0) c.unsent-unsent.result c.unsent.result first next (ap (λ (w : Waiting). w.frame) c.give-bytes.ensures.rest) (let size = ap (λ (w : Waiting). length w.left) c.give-bytes.ensures.rest in let dropped = length-drop c.give-bytes.result first.left in omega arith) c.unsent-unsent.ensures c.unsent.ensures (λ e. ended c.left-whole.result (length next.left) c.left-whole.ensures e) in
    let before : AreShared (first ∷ rest) c.self.inside.shares.items = subst (λ (q : List Waiting). AreShared q c.self.inside.shares.items) queue c.self.invariant.1 in
    first_last (nat_eq c.left-whole.result 0) (c.unsent-unsent.result - c.unsent.result) first next rest c.self.inside.shares.items gives before

pub front_of-self-inside-requires : goal.front_of-self-inside-requires
front_of-self-inside-requires c =
    let first : Waiting = c.in-Some.first in
    let rest : List Waiting = c.pop_front.new.self.items in
    let next : Waiting = c.give-bytes.new.self in
    let queue : c.self.inside.frames.items ≡ first ∷ rest = c.in-Some.ensures.items in
    let counted : IsCounted (first ∷ rest) c.self.inside.«data» c.self.inside.control c.self.inside.front =
    subst (λ (q : List Waiting). IsCounted q c.self.inside.«data» c.self.inside.control c.self.inside.front) queue c.self.invariant.0 in
    let begun : is_free next ≡ false = rw c.give-bytes.ensures.rest (begun_stays first (drop c.give-bytes.result first.left)) in
    rw c.push_front_reserved.ensures.items (front_begun c.self.inside.front first next rest counted.front begun)

pub invariant_of-self-then-not-whole : goal.invariant_of-self-then-not-whole
invariant_of-self-then-not-whole c =
    let first : Waiting = c.in-Some.first in
    let rest : List Waiting = c.pop_front.new.self.items in
    let next : Waiting = c.give-bytes.new.self in
    let queue : c.self.inside.frames.items ≡ first ∷ rest = c.in-Some.ensures.items in
    let counted : IsCounted (first ∷ rest) c.self.inside.«data» c.self.inside.control c.self.inside.front =
    subst (λ (q : List Waiting). IsCounted q c.self.inside.«data» c.self.inside.control c.self.inside.front) queue c.self.invariant.0 in
    let items : c.push_front_reserved.new.self.items ≡ next ∷ rest = c.push_front_reserved.ensures.items in
    let left : 0 < length next.left = search rules in
    let control : c.control_behind-self-inside.result ≡ min (control_bytes (next ∷ rest)) (2 ^ 64 - 1) =
    c.control_behind-self-inside.ensures ∙ ap (λ (q : List Waiting). min (control_bytes q) (2 ^ 64 - 1)) items in
    let front : IsFront c.front_of-self-inside.result (next ∷ rest) = subst (IsFront c.front_of-self-inside.result) items c.front_of-self-inside.ensures in
    let part : nat_eq c.left-whole.result 0 ≡ false = search rules in
    let gives : GivesFirst false (c.unsent-unsent.result - c.unsent.result) first next = gives_first false c.unsent-unsent.result c.unsent.result first next (ap (λ (w : Waiting). w.frame) c.give-bytes.ensures.rest) (let size = ap (λ (w : Waiting). length w.left) c.give-bytes.ensures.rest in let dropped = length-drop c.give-bytes.result first.left in omega arith) c.unsent-unsent.ensures c.unsent.ensures (λ e. absurd cc) in
    let before : AreShared (first ∷ rest) c.self.inside.shares.items = subst (λ (q : List Waiting). AreShared q c.self.inside.shares.items) queue c.self.invariant.1 in
    let uncounted : Uncounted false (c.unsent-unsent.result - c.unsent.result) next c.self.inside.shares.items c.uncount.new.shares.items =
    subst (λ b. Uncounted b (c.unsent-unsent.result - c.unsent.result) next c.self.inside.shares.items c.uncount.new.shares.items) part
    (record { order = c.uncount.ensures.order; frames = c.uncount.ensures.frames; bytes = c.uncount.ensures.bytes; all = c.uncount.ensures.all }) in
    let total : length c.self.inside.frames.items ≡ length (first ∷ rest) = ap length queue in
    let now : length c.push_front_reserved.new.self.items ≡ length (next ∷ rest) = ap length items in
    let few = c.self.invariant.2.few in
    let most = c.self.invariant.2.frames in
    let least = c.self.invariant.2.shares in (
      rw items (counted_some first next rest c.self.inside.«data» c.self.inside.control c.self.inside.front c.control_behind-self-inside.result c.front_of-self-inside.result counted (ap (λ (w : Waiting). w.frame) c.give-bytes.ensures.rest) left control front),
      rw items (shared_begun (c.unsent-unsent.result - c.unsent.result) first next rest c.self.inside.shares.items c.uncount.new.shares.items gives before uncounted),
      record { few = omega arith; frames = omega arith; shares = omega arith },
    )

pub front_of-self-inside-requires-2 : goal.front_of-self-inside-requires-2
front_of-self-inside-requires-2 c =
    let first : Waiting = c.in-Some.first in
    let rest : List Waiting = c.pop_front.new.self.items in
    let queue : c.self.inside.frames.items ≡ first ∷ rest = c.in-Some.ensures.items in
    let counted : IsCounted (first ∷ rest) c.self.inside.«data» c.self.inside.control c.self.inside.front =
    subst (λ (q : List Waiting). IsCounted q c.self.inside.«data» c.self.inside.control c.self.inside.front) queue c.self.invariant.0 in
    let less : c.saturating_sub.result ≡ c.self.inside.front - 1 = search rules in
    rw less (front_given c.self.inside.front first rest counted.front)

pub invariant_of-self-2 : goal.invariant_of-self-2
invariant_of-self-2 c =
    let first : Waiting = c.in-Some.first in
    let rest : List Waiting = c.pop_front.new.self.items in
    let next : Waiting = c.give-bytes.new.self in
    let queue : c.self.inside.frames.items ≡ first ∷ rest = c.in-Some.ensures.items in
    let counted : IsCounted (first ∷ rest) c.self.inside.«data» c.self.inside.control c.self.inside.front =
    subst (λ (q : List Waiting). IsCounted q c.self.inside.«data» c.self.inside.control c.self.inside.front) queue c.self.invariant.0 in
    let given : c.data.result ≡ data_in 0 first.frame = c.data.ensures ∙ ap (λ (w : Waiting). data_in 0 w.frame) c.give-bytes.ensures.rest in
    let all : nat_eq c.left-whole.result 0 ≡ true = search rules in
    let gives : GivesFirst true (c.unsent-unsent.result - c.unsent.result) first next = gives_first true c.unsent-unsent.result c.unsent.result first next (ap (λ (w : Waiting). w.frame) c.give-bytes.ensures.rest) (let size = ap (λ (w : Waiting). length w.left) c.give-bytes.ensures.rest in let dropped = length-drop c.give-bytes.result first.left in omega arith) c.unsent-unsent.ensures c.unsent.ensures (λ e. ended c.left-whole.result (length next.left) c.left-whole.ensures all) in
    let before : AreShared (first ∷ rest) c.self.inside.shares.items = subst (λ (q : List Waiting). AreShared q c.self.inside.shares.items) queue c.self.invariant.1 in
    let uncounted : Uncounted true (c.unsent-unsent.result - c.unsent.result) next c.self.inside.shares.items c.uncount.new.shares.items =
    subst (λ b. Uncounted b (c.unsent-unsent.result - c.unsent.result) next c.self.inside.shares.items c.uncount.new.shares.items) all
    (record { order = c.uncount.ensures.order; frames = c.uncount.ensures.frames; bytes = c.uncount.ensures.bytes; all = c.uncount.ensures.all }) in
    let few = c.self.invariant.2.few in
    let most = c.self.invariant.2.frames in
    let least = c.self.invariant.2.shares in (
      rw given (counted_all first rest c.self.inside.«data» c.self.inside.control c.self.inside.front c.control_behind-self-inside-2.result c.front_of-self-inside-2.result counted c.control_behind-self-inside-2.ensures c.front_of-self-inside-2.ensures),
      shared_given (c.unsent-unsent.result - c.unsent.result) first next rest c.self.inside.shares.items c.uncount.new.shares.items gives before uncounted,
      record { few = omega arith; frames = omega arith; shares = omega arith },
    )

pub returns-clause-frames : goal.returns-clause-frames
returns-clause-frames c =
    let first : Waiting = c.in-Some.first in
    let rest : List Waiting = c.pop_front.new.self.items in
    let before : IsCounted (first ∷ rest) c.self.inside.«data» c.self.inside.control c.self.inside.front =
    subst (λ (q : List Waiting). IsCounted q c.self.inside.«data» c.self.inside.control c.self.inside.front) c.in-Some.ensures.items c.self.invariant.0 in
    let here : 0 < length first.left = All-head HasLeft first rest before.left in
    let size = ap (λ (w : Waiting). length w.left) c.give-bytes.ensures.rest in
    let left = length-drop c.give-bytes.result first.left in
    let room : 0 < length c.args.out.now = search rules in
    let all : c.give-bytes.result ≡ length first.left = omega arith in
    let some : 0 < c.give-bytes.result = omega arith in
    sym (ap (λ (q : Queue). behind c.give-bytes.result q.frames) (sym c.self.view_is)
    ∙ ap (behind c.give-bytes.result) c.in-Some.ensures.items
    ∙ behind_all first rest c.give-bytes.result some all)

pub returns-clause-whole : goal.returns-clause-whole
returns-clause-whole c =
    let first : Waiting = c.in-Some.first in
    let rest : List Waiting = c.pop_front.new.self.items in
    let before : IsCounted (first ∷ rest) c.self.inside.«data» c.self.inside.control c.self.inside.front =
    subst (λ (q : List Waiting). IsCounted q c.self.inside.«data» c.self.inside.control c.self.inside.front) c.in-Some.ensures.items c.self.invariant.0 in
    let size = ap (λ (w : Waiting). length w.left) c.give-bytes.ensures.rest in
    let left = length-drop c.give-bytes.result first.left in
    let all : c.give-bytes.result ≡ length first.left = omega arith in
    let frame = c.into_frame.ensures ∙ ap (λ (w : Waiting). w.frame) c.give-bytes.ensures.rest in
    ap (λ (q : Queue). whole_within c.give-bytes.result q.frames) (sym c.self.view_is)
    ∙ ap (whole_within c.give-bytes.result) c.in-Some.ensures.items
    ∙ whole_all first rest c.give-bytes.result all (All-tail HasLeft first rest before.left)
    ∙ ap (λ (f : Frame). f ∷ []) (sym frame)
