-- A verdict that isn't that memory ran out.
use Rattle.std.proofs.Common.{refl}
use Rattle.std.specs.Prelude.{ℕ, ◌≡◌, Bool, true, false, List, [], ◌∷◌, ◌&&◌, nat_le, if◌then◌else◌}
use Rattle.ext_msgs.specs.declared.ask.Ask.{Ask}
use Rattle.rule_book.specs.declared.stage.Verdict.{Verdict}
use Rattle.rule_book.specs.declared.stage.Verdict.TheVariants as verdict
use Rattle.rule_book.specs.Stages.{Conduct, Decides, StageCall, Asked}
use Rattle.rule_book.specs.Ruled.{answer_with, reply}
use Rattle.rule_book.specs.Counted.{said, is_spent, head_counted}

pub decides : (conduct : Conduct) (past : List StageCall) (stream : ℕ) (ask : Ask) (Stands : List StageCall → Type 0) (v : Verdict) → (v ≡ verdict.Memory → ⊥)
    → v ≡ conduct past stream ask → Stands (Asked stream ask ∷ past) → Decides conduct past stream ask v Stands
decides conduct past stream ask Stands verdict.Pass n e s = (e, s)
decides conduct past stream ask Stands (verdict.Answer a) n e s = (e, s)
decides conduct past stream ask Stands verdict.Broken n e s = (e, s)
decides conduct past stream ask Stands verdict.Memory n e s = absurd (n refl)

-- a quota never says so
pub says : (streams life : ℕ) (head : Bool) (asks heads : ℕ) → said streams life head asks heads ≡ verdict.Memory → ⊥
unfolding said
says streams life head asks heads = by_spent (is_spent life asks)
  where
    by_late : (b : Bool) (a : Verdict) → (a ≡ verdict.Memory → ⊥) → (if b then a else verdict.Pass) ≡ verdict.Memory → ⊥
    by_late true a n e = n e
    by_late false a n e = cc

    clash : verdict.Answer (answer_with (reply 429 [])) ≡ verdict.Memory → ⊥
    clash m = cc

    by_spent : (b : Bool) → (if b then verdict.Broken else head_counted head streams heads) ≡ verdict.Memory → ⊥
    by_spent true e = cc
    by_spent false e = by_late (head && nat_le streams heads) (verdict.Answer (answer_with (reply 429 []))) (λ m. clash m) e
