-- What a quota says.
use Rattle.std.specs.Prelude.{ℕ, ◌+◌, ◌≡◌, Bool, true, false, not, ◌&&◌, List, [], ◌∷◌, if◌then◌else◌, ◌==◌, nat_le, min}
use Rattle.ext_msgs.specs.declared.ask.Ask.{Ask}
use Rattle.ext_msgs.specs.declared.ask.Ask.TheVariants as asks
use Rattle.rule_book.specs.declared.quota_stage.QuotaStage.{QuotaStage}
use Rattle.rule_book.specs.declared.stage.Verdict.{Verdict}
use Rattle.rule_book.specs.declared.stage.Verdict.TheVariants as verdict
use Rattle.rule_book.specs.Stages.{StageCall, Asked, Over, Conduct}
use Rattle.rule_book.specs.Ruled.{reply, answer_with}

abbrev pub is_request_head : Ask → Bool
is_request_head (asks.RequestHeaders head end) = true
is_request_head _ = false

abbrev pub any_ask : Ask → Bool
any_ask ask = true

-- a count stays at the end of its type
abbrev pub counted : Bool → ℕ → ℕ
counted true n = min (n + 1) 18_446_744_073_709_551_615
counted false n = n

-- how many asks of a kind there were
unfoldable pub count_of : (Ask → Bool) → List StageCall → ℕ
count_of kind [] = 0
count_of kind (Over s ∷ past) = count_of kind past
count_of kind (Asked s ask ∷ past) = counted (kind ask) (count_of kind past)

-- it lives for so many asks; 0 is no end
abbrev pub is_spent : ℕ → ℕ → Bool
is_spent life asks = not (life == 0) && nat_le life asks

abbrev pub head_counted : Bool → ℕ → ℕ → Verdict
head_counted head streams heads =
    if head && nat_le streams heads then verdict.Answer (answer_with (reply 429 [])) else verdict.Pass

-- what is said of an ask, by the counts before it
unfoldable pub said : ℕ → ℕ → Bool → ℕ → ℕ → Verdict
said streams life head asks heads = if is_spent life asks then verdict.Broken else head_counted head streams heads

-- the conduct of a quota
abbrev pub rationed : ℕ → ℕ → Conduct
rationed streams life past stream ask =
    said streams life (is_request_head ask) (count_of any_ask past) (count_of is_request_head past)

-- what a quota keeps of its past
pub record QuotaStands (x : QuotaStage) (conduct : Conduct) (past : List StageCall) : Type 0 where
  pub quota : conduct ≡ rationed x.streams x.life
  pub asks : x.asks ≡ count_of any_ask past
  pub heads : x.heads ≡ count_of is_request_head past
