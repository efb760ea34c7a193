use Rattle.std.proofs.Common.{sym, ◌∙◌, ap, ◌≡◌, true}
use Rattle.filter_model.specs.Right.{account}
use Rattle.filter_model.specs.Step.{is_live, is_over_for}
use Rattle.filter_model.specs.declared.calls.Side.TheVariants.{Client, Upstream}
use Rattle.filter_model.proofs.AtRest.{steady}
use Rattle.exchange.proofs.ReadingRoom.{over_is}
use Rattle.exchange.proofs.TimingEvents.{lives}
use Rattle.exchange.proofs.exchange.Exchange.over.Goals as goal

pub returns-else-not-is_live : goal.returns-else-not-is_live
returns-else-not-is_live c k h s =
    let a = account k h in
    let l : is_live a.fate ≡ true = lives k h c.args.self.now c.is_live.result s c.is_live.ensures ∙ c.if-not-is_live.false in
    let t = s.ties.request in
    c.is_over.ensures t.story t.stands ∙ over_is k a Client _ _ c.args.self.now.request t (steady k h s.right).along.read l ∙ ap (is_over_for a) (sym c.in-Client.is)

pub returns-else-not-is_live-2 : goal.returns-else-not-is_live-2
returns-else-not-is_live-2 c k h s =
    let a = account k h in
    let l : is_live a.fate ≡ true = lives k h c.args.self.now c.is_live-in-Upstream.result s c.is_live-in-Upstream.ensures ∙ c.if-not-is_live-2.false in
    let t = s.ties.response in
    c.is_over-else-not-is_live-2.ensures t.story t.stands ∙ over_is k a Upstream _ _ c.args.self.now.response t (steady k h s.right).along.read l ∙ ap (is_over_for a) (sym c.in-Upstream.is)
