use Rattle.std.proofs.Common.{sym, subst}
use Rattle.exchange.specs.Reading.{FitsBehindHead, HasHeard, calls_behind, head_calls, with_calls}
use Rattle.exchange.proofs.Learning.{body_fits, has_learnt, head_fits}
use Rattle.exchange.proofs.flow.Flow.tell.Goals as goal

pub tell_body-requires : goal.tell_body-requires
tell_body-requires c =
    let s = c.requires.0 in
    let n = c.args.news in (
      with_calls (head_calls n.head) s,
      c.tell_head.ensures.stands s c.requires.1 (head_fits s n c.requires.2),
      subst (FitsBehindHead (with_calls (head_calls n.head) s) n.whole n.trailers) (sym c.bytes.ensures.list) (body_fits s n c.requires.2),
    )

pub returns-clause-stands : goal.returns-clause-stands
returns-clause-stands c s f y =
    let n = c.args.news in
    let b : FitsBehindHead (with_calls (head_calls n.head) s) n.whole n.trailers c.bytes.result.now =
    subst (FitsBehindHead (with_calls (head_calls n.head) s) n.whole n.trailers) (sym c.bytes.ensures.list) (body_fits s n y) in
    let h = c.tell_body.ensures.stands (with_calls (head_calls n.head) s) (c.tell_head.ensures.stands s f (head_fits s n y)) b in
    (h.0, h.1, has_learnt s h.0 n y (subst (λ l. HasHeard (calls_behind (with_calls (head_calls n.head) s) n.whole n.trailers l) (with_calls (head_calls n.head) s) h.0) c.bytes.ensures.list h.2))
