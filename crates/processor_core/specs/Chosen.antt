-- Which stage answers an ask, and what becomes of the stages.
use Rattle.std.specs.Prelude.{ℕ, zero, suc, ◌≡◌, List, [], ◌∷◌, map, Option, Some, None}
use Rattle.ext_msgs.specs.declared.ask.Ask.{Ask}
use Rattle.ext_msgs.specs.declared.ask.Ask.TheVariants as asks
use Rattle.ext_msgs.specs.declared.answer.Answer.{Answer}
use Rattle.ext_msgs.specs.declared.answer.BodyChange.TheVariants as change
use Rattle.ext_msgs.specs.declared.answer.Common.{Common}
use Rattle.ext_msgs.specs.declared.answer.Member.{Member}
use Rattle.ext_msgs.specs.declared.answer.Member.TheVariants as members
use Rattle.rule_book.specs.Ruled.{answer_with, body_common, no_mutation}
use Rattle.rule_book.specs.Stages.{Conduct, StageCall, Asked, Over}
use Rattle.rule_book.specs.declared.stage.Verdict.{Verdict}
use Rattle.rule_book.specs.declared.stage.Verdict.TheVariants as verdict

-- a stage: how it decides, and what it was asked and told, newest first
pub record Staged : Type 0 where
  pub conduct : Conduct
  pub past : List StageCall

abbrev pub asked : ℕ → Ask → Staged → Staged
asked stream x s = record s { past = Asked stream x ∷ s.past }

abbrev pub told_over : ℕ → Staged → Staged
told_over stream s = record s { past = Over stream ∷ s.past }

-- Where no stage answers, the answer is the empty one of the ask's kind

abbrev pub no_change : Common
no_change = body_common change.Absent

abbrev pub empty_member : Ask → Member
empty_member (asks.RequestHeaders head end) = members.RequestHeaders no_change
empty_member (asks.ResponseHeaders head end) = members.ResponseHeaders no_change
empty_member (asks.RequestBody body end) = members.RequestBody no_change
empty_member (asks.ResponseBody body end) = members.ResponseBody no_change
empty_member (asks.RequestTrailers ts) = members.RequestTrailers no_mutation
empty_member (asks.ResponseTrailers ts) = members.ResponseTrailers no_mutation

abbrev pub empty_answer : Ask → Answer
empty_answer x = answer_with (empty_member x)

-- The stages as an ask left them, and the answer, which is missing only where memory ran out.
pub record Choice : Type 0 where
  pub stages : List Staged
  pub answer : Option Answer

abbrev pub before_rest : Staged → Choice → Choice
before_rest s c = record c { stages = s ∷ c.stages }

-- by what the first stage says: one that passes stays, one that is broken is gone, and the rest decides
abbrev pub chosen_by : Verdict → ℕ → Ask → Staged → List Staged → Choice → Choice
chosen_by verdict.Pass stream x s rest c = before_rest (asked stream x s) c
chosen_by (verdict.Answer answer) stream x s rest c = record { stages = asked stream x s ∷ rest; answer = Some answer }
chosen_by verdict.Broken stream x s rest c = c
chosen_by verdict.Memory stream x s rest c = record { stages = s ∷ rest; answer = None }

abbrev pub next_place : Option ℕ → Option ℕ
next_place (Some (suc k)) = Some k
next_place _ = None

-- What an ask of a stream comes to. Memory runs out at the stage of this place, if at any: it stays as it was.
unfoldable pub chosen : Option ℕ → ℕ → Ask → List Staged → Choice
chosen (Some zero) stream x (s ∷ rest) = record { stages = s ∷ rest; answer = None }
chosen lost stream x [] = record { stages = []; answer = Some (empty_answer x) }
chosen lost stream x (s ∷ rest) =
    chosen_by (s.conduct s.past stream x) stream x s rest (chosen (next_place lost) stream x rest)

-- Seats of stages, some of them empty, stand for the stages that are left

abbrev pub Stands : Type 0 → Type 1
Stands X = X → Conduct → List StageCall → Type 0

abbrev pub AreSeated : {X : Type 0} → Stands X → List (Option X) → List Staged → Type 0
AreSeated stands [] [] = Unit {0}
AreSeated stands [] (s ∷ ss) = ⊥
AreSeated stands (None ∷ seats) ss = AreSeated stands seats ss
AreSeated stands (Some x ∷ seats) [] = ⊥
AreSeated stands (Some x ∷ seats) (s ∷ ss) = stands x s.conduct s.past × AreSeated stands seats ss

-- an ask of a stream leaves other seats, and this answer, for any stages that are seated
abbrev pub Chooses : {X : Type 0} → Stands X → List (Option X) → ℕ → Ask → List (Option X) → Option Answer → Type 0
Chooses stands seats stream x seats' answer =
    (ss : List Staged) → AreSeated stands seats ss
    → (lost : Option ℕ) × AreSeated stands seats' (chosen lost stream x ss).stages × (answer ≡ (chosen lost stream x ss).answer)

-- and the end of a stream these
abbrev pub TellsOver : {X : Type 0} → Stands X → List (Option X) → ℕ → List (Option X) → Type 0
TellsOver stands seats stream seats' =
    (ss : List Staged) → AreSeated stands seats ss → AreSeated stands seats' (map (told_over stream) ss)
