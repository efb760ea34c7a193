use Rattle.std.proofs.Common.{refl, sym, ap, ◌∙◌, true}
use Rattle.rule_book.specs.Counted.{QuotaStands, count_of, counted}
use Rattle.rule_book.proofs.Deciding.{decides, says}
use Rattle.rule_book.proofs.quota_stage.QuotaStageStage.ask.Goals as goal

pub returns : goal.returns
unfolding count_of
returns c = λ conduct past s.
    let x = c.args.self.now in
    let said_so = c.say-verdict.ensures in
    decides conduct past c.args._stream c.args.ask.now (QuotaStands _ conduct) c.say-verdict.result
    (λ m. says x.streams x.life c.is_request_head-is_head.result x.asks x.heads (sym said_so ∙ m))
    (said_so ∙ rw (s.quota, s.asks, s.heads, c.is_request_head-is_head.ensures) refl)
    (record {
      quota = s.quota;
      asks = c.counted-self.ensures ∙ ap (λ n. counted true n) s.asks;
      heads = c.counted-self-2.ensures ∙ rw (c.is_request_head-is_head.ensures, s.heads) refl;
    })
