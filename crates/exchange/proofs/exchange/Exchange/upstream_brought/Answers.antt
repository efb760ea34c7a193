use Rattle.filter_model.specs.Right.{account}
use Rattle.exchange.proofs.ReadingSides.{upstream_front}
use Rattle.exchange.proofs.exchange.Exchange.upstream_brought.Goals as goal

pub response_heard-requires : goal.response_heard-requires
response_heard-requires c =
    let k = c.requires.0 in
    let h = c.requires.1 in
    let e = c.requires.2 in
    let y = c.requires.3 in
    let f = upstream_front e (account k h) y.reads in (
      k,
      h,
      e,
      y,
      record {
        both = c.is_finished-finished.ensures k _ _ (account k h) _ _ y.ties y.live f;
        chosen = c.would_be_committed-committed.ensures k h e y;
        each = c.given_whole-given.ensures k _ _ (account k h) _ _ y.ties y.live f;
      },
    )

pub returns : goal.returns
returns c k h e y =
    let f = upstream_front e (account k h) y.reads in
    c.response_heard.ensures k h e y (record {
      both = c.is_finished-finished.ensures k _ _ (account k h) _ _ y.ties y.live f;
      chosen = c.would_be_committed-committed.ensures k h e y;
      each = c.given_whole-given.ensures k _ _ (account k h) _ _ y.ties y.live f;
    })
