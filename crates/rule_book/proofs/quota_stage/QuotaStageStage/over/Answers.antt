use Rattle.rule_book.specs.Counted.{count_of}
use Rattle.rule_book.proofs.quota_stage.QuotaStageStage.over.Goals as goal

pub returns : goal.returns
unfolding count_of
returns c = λ conduct past s. record { quota = s.quota; asks = s.asks; heads = s.heads }
