-- What a stage says: a function of its past.
use Rattle.std.specs.Prelude.{ℕ, ◌≡◌, List, ◌∷◌}
use Rattle.ext_msgs.specs.declared.ask.Ask.{Ask}
use Rattle.rule_book.specs.declared.stage.Verdict.{Verdict}
use Rattle.rule_book.specs.declared.stage.Verdict.TheVariants as verdict

-- what happens to a stage
pub data StageCall : Type 0 where
  -- it was given an ask of a stream, and its verdict wasn't that memory ran out
  Asked : ℕ → Ask → StageCall
  -- a stream ended
  Over : ℕ → StageCall

-- the verdict on an ask of a stream, by what happened before, newest first
abbrev pub Conduct : Type 0
Conduct = List StageCall → ℕ → Ask → Verdict

-- What an ask leads to: the verdict of its conduct, and a stage that has this ask in its past; or memory runs out, and it
-- stays as it was.
abbrev pub Decides : Conduct → List StageCall → ℕ → Ask → Verdict → (List StageCall → Type 0) → Type 0
Decides conduct past stream ask verdict.Memory Stands = Stands past
Decides conduct past stream ask v Stands = (v ≡ conduct past stream ask) × Stands (Asked stream ask ∷ past)
