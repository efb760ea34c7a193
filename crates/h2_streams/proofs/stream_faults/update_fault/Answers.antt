-- The rows are computed from the credit and the initial size.
use Rattle.std.proofs.Common.{◌≡◌, ◌==◌, ◌+ℤ◌, true, false, pos, refl, sym, ◌∙◌, ap, arith, rules, w64}
use Rattle.std.proofs.lemmas.Int.{to_z-of_z}
use mir.Val.{SFits}
use Rattle.h2_model.specs.Windows.{is_too_wide}
use Rattle.h2_streams.proofs.Accounted.{update-row}
use Rattle.h2_streams.proofs.stream_faults.update_fault.Goals as goal

pub returns-then-is_too_wide : goal.returns-then-is_too_wide
returns-then-is_too_wide c = λ a e f.
    let range : SFits w64 c.window.result = search rules in
    let kept = simp to_z-of_z at c.is_too_wide.ensures in
    let some : (c.args.n == 0) ≡ false = grind (arith, c.if-n-eq0.false) in
    let wide : is_too_wide ((pos c.args.initial +ℤ c.args.stream.now.credit) +ℤ pos c.args.n) ≡ true =
    ap (λ w. is_too_wide (w +ℤ pos c.args.n)) (sym c.window.ensures.sum) ∙ sym kept ∙ c.if-is_too_wide.true in
    sym (update-row c.args.stream.now c.args.initial c.args.n _ a e f ∙ rw some (rw wide refl))

pub returns : goal.returns
returns c = λ a e f.
    let range : SFits w64 c.window.result = search rules in
    let kept = simp to_z-of_z at c.is_too_wide.ensures in
    let some : (c.args.n == 0) ≡ false = grind (arith, c.if-n-eq0.false) in
    let fits : is_too_wide ((pos c.args.initial +ℤ c.args.stream.now.credit) +ℤ pos c.args.n) ≡ false =
    ap (λ w. is_too_wide (w +ℤ pos c.args.n)) (sym c.window.ensures.sum) ∙ sym kept ∙ c.if-is_too_wide.false in
    sym (update-row c.args.stream.now c.args.initial c.args.n _ a e f ∙ rw some (rw fits refl))
