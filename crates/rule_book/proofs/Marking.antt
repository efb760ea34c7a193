-- The streams that had the fixed text are those that were asked.
use Rattle.std.proofs.Common.{refl, sym, ◌∙◌, ap, subst}
use Rattle.std.proofs.lemmas.Bool.{eqb-true}
use Rattle.std.proofs.lemmas.List.Folds.{list_any-append}
use Rattle.std.proofs.lemmas.Map.Views.{any-filter_same}
use Rattle.std.specs.Prelude.{ℕ, ◌≡◌, Bool, true, false, not, ◌&&◌, ◌||◌, List, [], ◌∷◌, ◌++◌, filter, if◌then◌else◌, ◌==◌}
use Rattle.ext_msgs.specs.declared.ask.Ask.{Ask}
use Rattle.rule_book.specs.declared.book.BodyRule.{BodyRule}
use Rattle.rule_book.specs.declared.book.BodyRule.TheVariants.{Keep, Upper, Clear, Fixed}
use Rattle.rule_book.specs.Stages.{Conduct, StageCall, Asked, Over}
use Rattle.rule_book.specs.declared.rule_stage.RuleStage.{RuleStage}
use Rattle.rule_book.specs.Ruled.{changed_by, is_request_body, is_response_body, was_asked}
use Rattle.rule_book.specs.Given.{Marks, RuleStands, has, marked}

has_less : (s stream : ℕ) (xs : List ℕ) → has s (filter (λ k. not (k == stream)) xs) ≡ (not (s == stream) && has s xs)
unfolding has
has_less s stream xs = any-filter_same (λ k. k == s) (λ k. not (k == stream)) (not (s == stream)) (λ k e. ap (λ n. not (n == stream)) (eqb-true k s e)) xs

pub marks_over : (rule : BodyRule) (kind : Ask → Bool) (stream : ℕ) (xs : List ℕ) (past : List StageCall) → Marks rule kind xs past
    → Marks rule kind (filter (λ k. not (k == stream)) xs) (Over stream ∷ past)
unfolding was_asked
marks_over rule kind stream xs past m = λ e s. has_less s stream xs ∙ ap (λ b. not (s == stream) && b) (m e s)

pub marks_other : (rule : BodyRule) (kind : Ask → Bool) (stream : ℕ) (ask : Ask) (xs : List ℕ) (past : List StageCall) → kind ask ≡ false → Marks rule kind xs past
    → Marks rule kind xs (Asked stream ask ∷ past)
unfolding was_asked
marks_other rule kind stream ask xs past k m = λ e s. m e s ∙ sym (rw k (nothing (stream == s) (was_asked kind s past)))
  where
    nothing : (a b : Bool) → ((a && false) || b) ≡ b
    nothing true b = refl
    nothing false b = refl

-- one stream more

has_more : (s stream : ℕ) (xs : List ℕ) → has s (xs ++ stream ∷ []) ≡ (has s xs || (stream == s))
unfolding has
has_more s stream xs = list_any-append (λ k. k == s) xs (stream ∷ []) ∙ ap (λ b. has s xs || b) (alone (stream == s))
  where
    alone : (b : Bool) → (b || false) ≡ b
    alone true = refl
    alone false = refl

has_marked : (s stream : ℕ) (xs : List ℕ) → has s (marked Fixed stream xs) ≡ ((stream == s && true) || has s xs)
unfolding marked
has_marked s stream xs = by_had (has stream xs) refl (stream == s) refl
  where
    swapped : (a b : Bool) → (a || b) ≡ ((b && true) || a)
    swapped true true = refl
    swapped true false = refl
    swapped false true = refl
    swapped false false = refl

    there : (b : Bool) → (stream == s) ≡ b → has stream xs ≡ true → has s xs ≡ ((b && true) || has s xs)
    there true e h = subst (λ n. has n xs ≡ true) (eqb-true stream s e) h
    there false e h = refl

    by_had : (b : Bool) → has stream xs ≡ b → (c : Bool) → (stream == s) ≡ c → has s (if b then xs else xs ++ stream ∷ []) ≡ ((stream == s && true) || has s xs)
    by_had true h c e = there (stream == s) refl h
    by_had false h c e = has_more s stream xs ∙ swapped (has s xs) (stream == s)

pub marks_asked : (rule : BodyRule) (kind : Ask → Bool) (stream : ℕ) (ask : Ask) (xs : List ℕ) (past : List StageCall) → kind ask ≡ true → Marks rule kind xs past
    → Marks rule kind (marked rule stream xs) (Asked stream ask ∷ past)
unfolding was_asked
marks_asked Fixed kind stream ask xs past k m = λ e s. has_marked s stream xs ∙ ap (λ b. (stream == s && true) || b) (m e s) ∙ sym (rw k refl)
marks_asked Keep kind stream ask xs past k m = λ e. cc
marks_asked Upper kind stream ask xs past k m = λ e. cc
marks_asked Clear kind stream ask xs past k m = λ e. cc

-- what becomes of a piece hangs on what was asked alone
pub same_change : (rule : BodyRule) (kind : Ask → Bool) (stream : ℕ) (xs : List ℕ) (past : List StageCall) (fixed body : List ℕ) → Marks rule kind xs past
    → changed_by rule (not (has stream xs)) fixed body ≡ changed_by rule (not (was_asked kind stream past)) fixed body
unfolding changed_by
same_change Fixed kind stream xs past fixed body m = ap (λ b. changed_by Fixed (not b) fixed body) (m refl stream)
same_change Keep kind stream xs past fixed body m = refl
same_change Upper kind stream xs past fixed body m = refl
same_change Clear kind stream xs past fixed body m = refl

-- an ask of no body marks no stream
pub unmarked : (x : RuleStage) (conduct : Conduct) (past : List StageCall) (stream : ℕ) (ask : Ask) → is_request_body ask ≡ false → is_response_body ask ≡ false
    → RuleStands x conduct past → RuleStands x conduct (Asked stream ask ∷ past)
unmarked x conduct past stream ask r p s = record {
  rules = s.rules;
  request = marks_other x.book.request.body is_request_body stream ask x.request_given past r s.request;
  response = marks_other x.book.response.body is_response_body stream ask x.response_given past p s.response;
}
