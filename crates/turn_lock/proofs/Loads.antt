-- Steps that only load the count: a seat notes it, learns its number, or compares its front with one that was joined in.
use Rattle.std.proofs.Common.{◌≡◌, ℕ, List, ◌++◌, get_or, All, Option, refl, sym, ap, ◌∙◌, subst, arith}
use mathlib.Core.Option.{none}
use Rattle.atomic_table.specs.Table.{Me, step, keeps, Allows}
use Rattle.turn_lock.specs.declared.view.SeatNumber.TheVariants.{SplitFrom, Known}
use Rattle.turn_lock.specs.declared.entry.Entry.{Entry}
use Rattle.turn_lock.specs.declared.view.JoinedFront.TheVariants.{Of}
use Rattle.turn_lock.specs.declared.view.SeatView.{SeatView}
use Rattle.turn_lock.specs.declared.view.Counted.{Counted}
use Rattle.turn_lock.specs.History.{IsOfOther, IsLonger}
use Rattle.turn_lock.specs.Views.{number_in, with_number, with_front, with_noted}
use Rattle.turn_lock.specs.Rule.{FitsNumber, OneHistory}
use Rattle.turn_lock.specs.Steps.{number_learned, fronts_compared, length_noted}
use Rattle.turn_lock.proofs.Fronts.{prefix_length, all_right, longer}
use Rattle.turn_lock.proofs.Rule.{loads, count_is}

module _ {T C R : Type 0} (stands : T → List (Entry C R) → Type 0) (slots id : ℕ) (me : Me (Option (Counted T)) (SeatView C R)) where
  pub notes_length : Allows (OneHistory stands) slots id me 1 (λ n. n) (length_noted stands (step slots 1 0 0 none) me)
  notes_length s r _ at _ = let v = me.0 in let f = r.each id v at in let n : ℕ = get_or s.words 1 0 in let is = count_is stands s r in let w : SeatView C R = with_noted n v in (
    w,
    keeps,
    tt,
    loads stands s r 1 id me w at record { front = f.front; noted = omega arith; alone = f.alone; number = f.number; stage = f.stage } refl (λ h. h) (λ m k e. r.joined id m v k at e),
    (refl, refl, let h = f.noted in omega arith, let h = prefix_length v.front r.history f.front in omega arith),
  )

  pub learns_number : (from : ℕ) → me.0.number ≡ SplitFrom from → Allows (OneHistory stands) slots id me 1 (λ n. n) (number_learned stands (step slots 1 0 0 none) me)
  learns_number from is s r _ at _ = let v = me.0 in let f = r.each id v at in let w : SeatView C R = with_number (Known id) v in
      let split = subst (FitsNumber r.history v.front id) is f.number in
      let parts : All (IsOfOther id) (v.front ++ f.front.0) = subst (All (IsOfOther id)) (sym f.front.1) split.2 in
      let others = all_right (IsOfOther id) v.front f.front.0 parts in (
        w,
        keeps,
        tt,
        loads stands s r 1 id me w at record { front = f.front; noted = f.noted; alone = f.alone; number = (refl, (f.front.0, f.front.1, others)); stage = f.stage } refl (λ h. absurd (cc (is, h))) (λ m k e. r.joined id m v k at e),
        (refl, λ n e. (id, refl, (let same : from ≡ n = ap number_in (sym is ∙ e) in let h = split.0 in omega arith), split.1)),
      )

  pub compares_fronts : (n other : ℕ) (front : List (Entry C R)) → me.0.number ≡ Known n → me.0.joined ≡ Of other front → Allows (OneHistory stands) slots id me 1 (λ n. n) (fronts_compared stands (step slots 1 0 0 none) me)
  compares_fronts n other front is brought s r _ at _ = let v = me.0 in let f = r.each id v at in
      let number = subst (FitsNumber r.history v.front id) is f.number in
      let l = longer id other v.front front r.history number.1 (r.joined id other v front at brought).0 in let w : SeatView C R = with_front l.0 v in (
        w,
        keeps,
        tt,
        loads stands s r 1 id me w at record {
          front = (l.2.0, l.2.1);
          noted = f.noted;
          alone = f.alone;
          number = subst (FitsNumber r.history l.0 id) (sym is) (number.0, l.2);
          stage = f.stage;
        } refl (λ h. h) (λ m k e. absurd (cc (e))),
        (
          refl,
          λ m other' front' e brought'.
              let b : Of other front ≡ Of other' front' = sym brought ∙ brought' in
              let b1 : other ≡ other' = cc b in let b2 : front ≡ front' = cc b in
              (l.0, refl, subst (λ k. IsLonger k other' v.front front' l.0) (sym number.0 ∙ ap number_in (sym is ∙ e)) (subst (λ k. IsLonger id k v.front front' l.0) b1 (subst (λ k. IsLonger id other v.front k l.0) b2 l.1))),
        ),
      )
