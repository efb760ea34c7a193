use Rattle.filter_model.proofs.FewAsks.{few_in, few_unsent}
use Rattle.filter_model.proofs.laws.few_unsent.Goals as goal

pub returns : goal.returns
returns c = record { each = few_in; both = few_unsent }
