use Rattle.std.proofs.Common.{sym, ◌∙◌, ap}
use Rattle.std.specs.Prelude.{is_some, ◌&&◌}
use Rattle.http_model.specs.declared.types.Direction.TheVariants.{Response}
use Rattle.filter_model.specs.Account.{course, gathered}
use Rattle.filter_model.specs.Course.{head_may_go}
use Rattle.filter_model.specs.Right.{account}
use Rattle.exchange.proofs.ReadingChosen.{upstream_chosen, upstream_goes}
use Rattle.exchange.proofs.exchange.Exchange.would_be_committed.Goals as goal

pub returns-then-is_committed : goal.returns-then-is_committed
returns-then-is_committed c k h e y =
    let t = y.ties.response in
    upstream_chosen k h e y.right y.live (sym (ap (λ w. is_some w.head) (t.told y.live)) ∙ sym (c.is_committed.ensures t.story.past t.stands.half) ∙ c.if-is_committed.true)

pub returns : goal.returns
returns c k h e y =
    let t = y.ties.response in
    let a = account k h in
    let o = (course Response (gathered e a)).original in
    c.would_go-goes.ensures t.story t.stands (course Response a).original o y.is_news
    ∙ ap (λ w. is_some c.args.news.now.head && head_may_go (record w { original = o })) (t.told y.live)
    ∙ upstream_goes k h e c.args.news.now y.right y.live (sym (ap (λ w. is_some w.head) (t.told y.live)) ∙ sym (c.is_committed.ensures t.story.past t.stands.half) ∙ c.if-is_committed.false) y.is_news
