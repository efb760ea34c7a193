use Rattle.std.proofs.Common.{sym, ◌∙◌, ap, subst}
use Rattle.std.specs.Prelude.{◌∷◌, Some}
use Rattle.http_model.specs.declared.types.Direction.TheVariants.{Request, Response}
use Rattle.filter_model.specs.Right.{Stepped}
use Rattle.filter_model.specs.View as view
use Rattle.exchange.specs.Stands.{IsAfter}
use Rattle.exchange.proofs.AskingOver.{one_first, sends_first, sent_over}
use Rattle.exchange.proofs.TimingEvents.{lives}
use Rattle.exchange.proofs.exchange.Exchange.sent.Goals as goal

pub returns-then-not-is_live : goal.returns-then-not-is_live
returns-then-not-is_live g c h s k =
    let x = g.args.self.now in
    subst (IsAfter c (Stepped view.Sent ∷ h)) (sym g.mark_sent.ensures) (sent_over c h x s (lives c h x g.is_live.result s g.is_live.ensures ∙ g.if-not-is_live.true) k)

pub request_sent-requires : goal.request_sent-requires
request_sent-requires g =
    let (c, h, s, k) = g.requires in
    let x = g.args.self.now in
    (c, h, s, sends_first c h Request x s (lives c h x g.is_live.result s g.is_live.ensures ∙ g.if-not-is_live.false) k (sym g.at.ensures ∙ g.in-Some-Request.is ∙ ap Some g.in-Some-Request.field-0-is))

pub response_sent-requires : goal.response_sent-requires
response_sent-requires g =
    let (c, h, s, k) = g.requires in
    let x = g.args.self.now in
    (c, h, s, sends_first c h Response x s (lives c h x g.is_live.result s g.is_live.ensures ∙ g.if-not-is_live.false) k (sym g.at.ensures ∙ g.in-Some-Response.is ∙ ap Some g.in-Some-Response.field-0-is))

pub returns-in-Some-Request : goal.returns-in-Some-Request
returns-in-Some-Request g c h s k =
    let x = g.args.self.now in
    g.request_sent.ensures c h s (sends_first c h Request x s (lives c h x g.is_live.result s g.is_live.ensures ∙ g.if-not-is_live.false) k (sym g.at.ensures ∙ g.in-Some-Request.is ∙ ap Some g.in-Some-Request.field-0-is))

pub returns-in-Some-Response : goal.returns-in-Some-Response
returns-in-Some-Response g c h s k =
    let x = g.args.self.now in
    g.response_sent.ensures c h s (sends_first c h Response x s (lives c h x g.is_live.result s g.is_live.ensures ∙ g.if-not-is_live.false) k (sym g.at.ensures ∙ g.in-Some-Response.is ∙ ap Some g.in-Some-Response.field-0-is))

pub returns-in-None : goal.returns-in-None
returns-in-None g c h s k = absurd (one_first c h g.args.self.now s k (sym g.at.ensures ∙ g.in-None.is))
