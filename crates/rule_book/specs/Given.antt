-- What a stage of rules keeps of its past.
use Rattle.std.specs.Prelude.{ℕ, ◌≡◌, Bool, List, ◌∷◌, [], ◌++◌, if◌then◌else◌, ◌==◌}
use Rattle.std.specs.List.{list_any}
use Rattle.ext_msgs.specs.declared.ask.Ask.{Ask}
use Rattle.rule_book.specs.declared.book.BodyRule.{BodyRule}
use Rattle.rule_book.specs.declared.book.BodyRule.TheVariants.{Fixed}
use Rattle.rule_book.specs.declared.rule_stage.RuleStage.{RuleStage}
use Rattle.rule_book.specs.Stages.{StageCall, Conduct}
use Rattle.rule_book.specs.Ruled.{ruled, was_asked, is_request_body, is_response_body}

-- the stream is among these
unfoldable pub has : ℕ → List ℕ → Bool
has stream streams = list_any (λ s. s == stream) streams

-- the stream is marked, where the rule is a fixed text
unfoldable pub marked : BodyRule → ℕ → List ℕ → List ℕ
marked Fixed stream streams = if has stream streams then streams else streams ++ stream ∷ []
marked _ stream streams = streams

-- where the rule is a fixed text, the streams that had it are those that were asked since their last end
abbrev pub Marks : BodyRule → (Ask → Bool) → List ℕ → List StageCall → Type 0
Marks rule kind streams past = rule ≡ Fixed → (stream : ℕ) → has stream streams ≡ was_asked kind stream past

pub record RuleStands (x : RuleStage) (conduct : Conduct) (past : List StageCall) : Type 0 where
  pub rules : conduct ≡ ruled x.book
  pub request : Marks x.book.request.body is_request_body x.request_given past
  pub response : Marks x.book.response.body is_response_body x.response_given past
