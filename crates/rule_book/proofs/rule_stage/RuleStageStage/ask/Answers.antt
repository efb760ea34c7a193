use Rattle.std.proofs.Common.{ap}
use Rattle.ext_msgs.specs.declared.answer.Member.{Member}
use Rattle.rule_book.specs.declared.stage.Verdict.TheVariants as verdict
use Rattle.rule_book.specs.Ruled.{answer_with}
use Rattle.rule_book.proofs.rule_stage.RuleStageStage.ask.Goals as goal

pub returns-in-Ok-mark : goal.returns-in-Ok-mark
returns-in-Ok-mark c = λ conduct past s.
    (rw s.rules (ap (λ (m : Member). verdict.Answer (answer_with m)) (c.in-Ok.ensures conduct past s)), c.in-Ok-mark.ensures.stands conduct past s)
