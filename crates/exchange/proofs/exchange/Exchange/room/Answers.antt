use Rattle.std.proofs.Common.{refl, sym, ◌∙◌, ap, ◌≡◌, true, false}
use Rattle.std.specs.Prelude.{is_some}
use Rattle.http_model.specs.declared.types.Direction.TheVariants.{Request, Response}
use Rattle.filter_model.specs.Right.{account}
use Rattle.filter_model.specs.Step.{is_live, is_awaited, room}
use Rattle.filter_model.specs.declared.calls.Side.TheVariants.{Client, Upstream}
use Rattle.filter_model.proofs.AtRest.{steady}
use Rattle.exchange.proofs.ReadingRoom.{dead_room, flow_readable, flow_room, live_room, unawaited_room}
use Rattle.exchange.proofs.TimingEvents.{lives}
use Rattle.exchange.proofs.exchange.Exchange.room.Goals as goal

pub returns-then-not-is_live : goal.returns-then-not-is_live
returns-then-not-is_live c k h s =
    let a = account k h in
    sym (dead_room k a c.args.side (lives k h c.args.self.now c.is_live.result s c.is_live.ensures ∙ c.if-not-is_live.true))

pub returns-in-Client : goal.returns-in-Client
returns-in-Client c k h s =
    let a = account k h in
    let l : is_live a.fate ≡ true = lives k h c.args.self.now c.is_live.result s c.is_live.ensures ∙ c.if-not-is_live.false in
    let t = s.ties.request in
    let r = (steady k h s.right).along.read in
    c.room.ensures t.story t.stands (flow_readable k h Request _ _ c.args.self.now.request t s.right l)
    ∙ flow_room k a Request _ _ c.args.self.now.request t r s.made.sizes l ∙ sym (live_room k a Client l refl) ∙ ap (room k a) (sym c.in-Client.is)

pub returns-in-Upstream : goal.returns-in-Upstream
returns-in-Upstream c k h s =
    let a = account k h in
    let l : is_live a.fate ≡ true = lives k h c.args.self.now c.is_live.result s c.is_live.ensures ∙ c.if-not-is_live.false in
    let t = s.ties.response in
    let q = s.ties.request in
    let r = (steady k h s.right).along.read in
    let w : is_awaited Upstream a ≡ true = sym (ap (λ w. is_some w.head) (q.told l)) ∙ sym (c.is_committed.ensures q.story.past q.stands.half) ∙ c.if-is_committed.true in
    c.room-in-Upstream.ensures t.story t.stands (flow_readable k h Response _ _ c.args.self.now.response t s.right l)
    ∙ flow_room k a Response _ _ c.args.self.now.response t r s.made.sizes l ∙ sym (live_room k a Upstream l w) ∙ ap (room k a) (sym c.in-Upstream.is)

pub returns-in-Upstream-2 : goal.returns-in-Upstream-2
returns-in-Upstream-2 c k h s =
    let a = account k h in
    let l : is_live a.fate ≡ true = lives k h c.args.self.now c.is_live.result s c.is_live.ensures ∙ c.if-not-is_live.false in
    let q = s.ties.request in
    let w : is_awaited Upstream a ≡ false = sym (ap (λ w. is_some w.head) (q.told l)) ∙ sym (c.is_committed.ensures q.story.past q.stands.half) ∙ c.if-is_committed.false in
    sym (unawaited_room k a Upstream w) ∙ ap (room k a) (sym c.in-Upstream.is)
