-- What an ask does with the first seat, and with those behind it.
use Rattle.std.proofs.Common.{sym, ◌∙◌, ap, subst}
use Rattle.std.specs.Prelude.{ℕ, suc, ◌≡◌, List, [], ◌∷◌, length, Option, Some, None, refl}
use Rattle.ext_msgs.specs.declared.ask.Ask.{Ask}
use Rattle.ext_msgs.specs.declared.answer.Answer.{Answer}
use Rattle.rule_book.specs.Stages.{Conduct, StageCall, Decides, Over}
use Rattle.rule_book.specs.declared.stage.Verdict.{Verdict}
use Rattle.rule_book.specs.declared.stage.Verdict.TheVariants as verdict
use Rattle.processor_core.specs.Chosen.{AreSeated, Choice, Chooses, Staged, Stands, TellsOver, chosen, chosen_by, empty_answer}

-- memory runs out one seat later
abbrev later : Option ℕ → Option ℕ
later None = None
later (Some k) = Some (suc k)

first_then : (lost : Option ℕ) (stream : ℕ) (x : Ask) (s : Staged) (rest : List Staged)
    → chosen (later lost) stream x (s ∷ rest) ≡ chosen_by (s.conduct s.past stream x) stream x s rest (chosen lost stream x rest)
unfolding chosen
first_then None stream x s rest = refl
first_then (Some k) stream x s rest = refl

module _ {X : Type 0} (stands : Stands X) (stream : ℕ) (x : Ask) where
  -- the stages and the answer that a choice has
  abbrev Leaves : List (Option X) → Option Answer → Choice → Type 0
  Leaves seats answer c = AreSeated stands seats c.stages × (answer ≡ c.answer)

  -- one seat, by what the stage said
  abbrev pub Said : X → Verdict → X → Type 0
  Said old v new = (conduct : Conduct) (past : List StageCall) → stands old conduct past → Decides conduct past stream x v (stands new conduct)

  pub nobody : (seats : List (Option X)) (answer : Answer) → length seats ≡ 0 → answer ≡ empty_answer x → Chooses stands seats stream x seats (Some answer)
  unfolding chosen
  nobody [] answer n e [] h = (None, tt, ap Some e)
  nobody [] answer n e (s ∷ ss) h = absurd h
  nobody (o ∷ seats) answer n e ss h = absurd cc

  -- seats of which the first is taken
  pub taken : (seats rest seats' : List (Option X)) (first : Option X) (old : X) (answer : Option Answer) → seats ≡ first ∷ rest → first ≡ Some old
      → Chooses stands (Some old ∷ rest) stream x seats' answer → Chooses stands seats stream x seats' answer
  taken seats rest seats' first old answer e f r = subst (λ l. Chooses stands l stream x seats' answer) (sym (e ∙ ap (λ o. o ∷ rest) f)) r

  pub passes : (old new : X) (rest rest' : List (Option X)) (answer : Option Answer) → Said old verdict.Pass new → Chooses stands rest stream x rest' answer
      → Chooses stands (Some old ∷ rest) stream x (Some new ∷ rest') answer
  passes old new rest rest' answer d r [] h = absurd h
  passes old new rest rest' answer d r (s ∷ ss) h =
      let v = d s.conduct s.past h.0 in
      let q = r ss h.1 in
      let e = first_then q.0 stream x s ss ∙ ap (λ w. chosen_by w stream x s ss (chosen q.0 stream x ss)) (sym v.0) in
      let z = subst (Leaves (Some new ∷ rest') answer) (sym e) ((v.1, q.1), q.2) in
      (later q.0, z.0, z.1)

  pub breaks : (old new : X) (rest rest' : List (Option X)) (answer : Option Answer) → Said old verdict.Broken new → Chooses stands rest stream x rest' answer
      → Chooses stands (Some old ∷ rest) stream x (None ∷ rest') answer
  breaks old new rest rest' answer d r [] h = absurd h
  breaks old new rest rest' answer d r (s ∷ ss) h =
      let v = d s.conduct s.past h.0 in
      let q = r ss h.1 in
      let e = first_then q.0 stream x s ss ∙ ap (λ w. chosen_by w stream x s ss (chosen q.0 stream x ss)) (sym v.0) in
      let z = subst (Leaves (None ∷ rest') answer) (sym e) (q.1, q.2) in
      (later q.0, z.0, z.1)

  pub answers : (old new : X) (rest : List (Option X)) (answer : Answer) → Said old (verdict.Answer answer) new
      → Chooses stands (Some old ∷ rest) stream x (Some new ∷ rest) (Some answer)
  answers old new rest answer d [] h = absurd h
  answers old new rest answer d (s ∷ ss) h =
      let v = d s.conduct s.past h.0 in
      let e = first_then None stream x s ss ∙ ap (λ w. chosen_by w stream x s ss (chosen None stream x ss)) (sym v.0) in
      let z = subst (Leaves (Some new ∷ rest) (Some answer)) (sym e) ((v.1, h.1), refl) in
      (None, z.0, z.1)

  pub runs_out : (old new : X) (rest : List (Option X)) → Said old verdict.Memory new → Chooses stands (Some old ∷ rest) stream x (Some new ∷ rest) None
  unfolding chosen
  runs_out old new rest d [] h = absurd h
  runs_out old new rest d (s ∷ ss) h = (Some 0, (d s.conduct s.past h.0, h.1), refl)

  -- the end of a stream

  pub tells_nobody : TellsOver stands [] stream []
  tells_nobody [] h = tt
  tells_nobody (s ∷ ss) h = absurd h

  pub tells_seat : (old new : X) (rest rest' : List (Option X))
      → ((conduct : Conduct) (past : List StageCall) → stands old conduct past → stands new conduct (Over stream ∷ past))
      → TellsOver stands rest stream rest' → TellsOver stands (Some old ∷ rest) stream (Some new ∷ rest')
  tells_seat old new rest rest' d r [] h = absurd h
  tells_seat old new rest rest' d r (s ∷ ss) h = (d s.conduct s.past h.0, r ss h.1)
