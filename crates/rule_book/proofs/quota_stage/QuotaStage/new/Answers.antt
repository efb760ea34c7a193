use Rattle.std.proofs.Common.{refl}
use Rattle.rule_book.specs.Counted.{count_of}
use Rattle.rule_book.proofs.quota_stage.QuotaStage.new.Goals as goal

pub returns : goal.returns
unfolding count_of
returns c = record { quota = refl; asks = refl; heads = refl }
