use Rattle.std.proofs.Common.{refl}
use Rattle.rule_book.specs.Ruled.{was_asked}
use Rattle.rule_book.specs.Given.{has}
use Rattle.rule_book.proofs.rule_stage.RuleStage.new.Goals as goal

pub returns : goal.returns
unfolding was_asked has
returns c = record { rules = refl; request = λ e s. rw c.new.ensures refl; response = λ e s. rw c.new-2.ensures refl }
