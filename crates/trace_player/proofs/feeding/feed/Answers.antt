use Rattle.std.proofs.Common.{sym, ◌∙◌, ap, Some, None, is_some}
use Rattle.std.specs.Prelude.{take}
use Rattle.filter_model.specs.View.{Bytes, End}
use Rattle.trace_model.specs.Rounds.{link_fed}
use Rattle.trace_model.proofs.May.{may_bytes, may_end}
use Rattle.trace_player.specs.Ties.{link_of}
use Rattle.trace_player.proofs.Fed.{behind_front, fed_on, front_within, with_end, with_front, without_end, without_room}
use Rattle.trace_player.proofs.feeding.feed.Goals as goal

-- no room

pub returns-then-room-eq0-clause-told : goal.returns-then-room-eq0-clause-told
returns-then-room-eq0-clause-told c = λ k h a ready.
    fed_on k h c.args.exchange.now _ None (without_room k c.args.side h (link_of c.args.link.now) c.room-room.result (c.room-room.ensures k h a) c.if-room-eq0.true) a

pub returns-then-room-eq0-clause-link : goal.returns-then-room-eq0-clause-link
returns-then-room-eq0-clause-link c = λ k h a ready.
    ap (λ o. link_fed o (link_of c.args.link.now))
    (sym (without_room k c.args.side h (link_of c.args.link.now) c.room-room.result (c.room-room.ensures k h a) c.if-room-eq0.true))

pub returns-then-room-eq0-clause-some : goal.returns-then-room-eq0-clause-some
returns-then-room-eq0-clause-some c = λ k h a ready.
    ap is_some (sym (without_room k c.args.side h (link_of c.args.link.now) c.room-room.result (c.room-room.ensures k h a) c.if-room-eq0.true))

-- nothing waits, and no end is due

pub returns-then-not-is_ending-clause-told : goal.returns-then-not-is_ending-clause-told
returns-then-not-is_ending-clause-told c = λ k h a ready.
    fed_on k h c.args.exchange.now _ None (without_end k c.args.side h (link_of c.args.link.now) (sym c.if-is_empty.ensures) (sym c.is_ending.ensures ∙ c.if-not-is_ending.true)) a

pub returns-then-not-is_ending-clause-link : goal.returns-then-not-is_ending-clause-link
returns-then-not-is_ending-clause-link c = λ k h a ready.
    ap (λ o. link_fed o (link_of c.args.link.now))
    (sym (without_end k c.args.side h (link_of c.args.link.now) (sym c.if-is_empty.ensures) (sym c.is_ending.ensures ∙ c.if-not-is_ending.true)))

pub returns-then-not-is_ending-clause-some : goal.returns-then-not-is_ending-clause-some
returns-then-not-is_ending-clause-some c = λ k h a ready.
    ap is_some (sym (without_end k c.args.side h (link_of c.args.link.now) (sym c.if-is_empty.ensures) (sym c.is_ending.ensures ∙ c.if-not-is_ending.true)))

-- the end

pub step-requires : goal.step-requires
step-requires c =
    let (k, h, a, ready) = c.requires in
    (k, h, a, may_end k h c.args.side ready)

pub returns-then-is_empty-clause-told : goal.returns-then-is_empty-clause-told
returns-then-is_empty-clause-told c = λ k h a ready.
    fed_on k h c.step.new.self _ (Some (End c.args.side))
    (with_end k c.args.side h (link_of c.args.link.now) c.room-room.result (c.room-room.ensures k h a) c.if-room-eq0.false (sym c.if-is_empty.ensures)
    (sym c.is_ending.ensures ∙ c.if-not-is_ending.false))
    (c.in_ok-step.ensures.stands k h a (may_end k h c.args.side ready))

pub returns-then-is_empty-clause-link : goal.returns-then-is_empty-clause-link
returns-then-is_empty-clause-link c = λ k h a ready.
    ap (λ o. link_fed o (link_of c.args.link.now))
    (sym (with_end k c.args.side h (link_of c.args.link.now) c.room-room.result (c.room-room.ensures k h a) c.if-room-eq0.false (sym c.if-is_empty.ensures)
    (sym c.is_ending.ensures ∙ c.if-not-is_ending.false)))

pub returns-then-is_empty-clause-some : goal.returns-then-is_empty-clause-some
returns-then-is_empty-clause-some c = λ k h a ready.
    ap is_some
    (sym (with_end k c.args.side h (link_of c.args.link.now) c.room-room.result (c.room-room.ensures k h a) c.if-room-eq0.false (sym c.if-is_empty.ensures)
    (sym c.is_ending.ensures ∙ c.if-not-is_ending.false)))

-- bytes

pub step-requires-2 : goal.step-requires-2
step-requires-2 c =
    let (k, h, a, ready) = c.requires in
    (k, h, a, may_bytes k h c.args.side c.in_ok-front.front ready)

pub drop_front-requires : goal.drop_front-requires
drop_front-requires c =
    let (k, h, a, ready) = c.requires in
    front_within c.room-room.result c.in_ok-n.n _ c.in_ok-front.front c.args.link.now.waiting c.in_ok-front.ensures
    (c.in_ok-n.ensures.taken k h a (may_bytes k h c.args.side c.in_ok-front.front ready))

pub returns-clause-told : goal.returns-clause-told
returns-clause-told c = λ k h a ready.
    let may = may_bytes k h c.args.side c.in_ok-front.front ready in
    fed_on k h c.step-2.new.self _ (Some (Bytes c.args.side (take c.in_ok-n.n c.in_ok-front.front)))
    (with_front k c.args.side h (link_of c.args.link.now) c.in_ok-front.front c.in_ok-n.n c.room-room.result (c.room-room.ensures k h a) c.if-room-eq0.false
    (sym c.if-is_empty.ensures) c.in_ok-front.ensures (c.in_ok-n.ensures.taken k h a may))
    (c.in_ok-n.ensures.stands k h a may)

pub returns-clause-link : goal.returns-clause-link
returns-clause-link c = λ k h a ready.
    rw c.drop_front.ensures (behind_front k c.args.side h (link_of c.args.link.now) c.in_ok-front.front c.in_ok-n.n c.room-room.result (c.room-room.ensures k h a) c.if-room-eq0.false
    (sym c.if-is_empty.ensures) c.in_ok-front.ensures (c.in_ok-n.ensures.taken k h a (may_bytes k h c.args.side c.in_ok-front.front ready)))

pub returns-clause-some : goal.returns-clause-some
returns-clause-some c = λ k h a ready.
    ap is_some
    (sym (with_front k c.args.side h (link_of c.args.link.now) c.in_ok-front.front c.in_ok-n.n c.room-room.result (c.room-room.ensures k h a) c.if-room-eq0.false
    (sym c.if-is_empty.ensures) c.in_ok-front.ensures (c.in_ok-n.ensures.taken k h a (may_bytes k h c.args.side c.in_ok-front.front ready))))
