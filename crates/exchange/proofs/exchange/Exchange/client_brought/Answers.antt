use Rattle.std.proofs.Common.{refl, ◌∙◌, ap}
use Rattle.std.specs.Prelude.{is_some}
use Rattle.filter_model.specs.Right.{account}
use Rattle.exchange.proofs.ReadingChosen.{client_chosen}
use Rattle.exchange.proofs.exchange.Exchange.client_brought.Goals as goal

pub request_heard-requires : goal.request_heard-requires
request_heard-requires c =
    let k = c.requires.0 in
    let h = c.requires.1 in
    let e = c.requires.2 in
    let y = c.requires.3 in
    let t = y.ties.response in (
      k,
      h,
      e,
      c.owe.ensures k h e y,
      record {
        both = c.is_finished-finished.ensures k _ _ (account k h) _ _ y.ties y.live refl;
        chosen = c.is_committed-committed.ensures t.story.past t.stands.half ∙ ap (λ w. is_some w.head) (t.told y.live) ∙ client_chosen k h e y.right y.reads y.live;
        each = c.given_whole-given.ensures k _ _ (account k h) _ _ y.ties y.live refl;
      },
    )

pub returns : goal.returns
returns c k h e y =
    let t = y.ties.response in
    c.request_heard.ensures k h e (c.owe.ensures k h e y) (record {
      both = c.is_finished-finished.ensures k _ _ (account k h) _ _ y.ties y.live refl;
      chosen = c.is_committed-committed.ensures t.story.past t.stands.half ∙ ap (λ w. is_some w.head) (t.told y.live) ∙ client_chosen k h e y.right y.reads y.live;
      each = c.given_whole-given.ensures k _ _ (account k h) _ _ y.ties y.live refl;
    })
