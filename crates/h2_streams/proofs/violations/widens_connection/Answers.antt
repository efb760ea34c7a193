-- The connection's window with the increment.
use Rattle.std.proofs.Common.{◌≡◌, ◌+ℤ◌, pos, sym, ◌∙◌, ap, rules}
use Rattle.std.proofs.lemmas.Int.{to_z-of_z}
use Rattle.h2_frames.specs.declared.frame.Frame.TheVariants as frame
use Rattle.h2_model.specs.Windows.{is_too_wide}
use Rattle.h2_model.specs.Violations.{widens_connection}
use Rattle.h2_streams.proofs.Accounted.{connection}
use Rattle.h2_streams.proofs.violations.widens_connection.Goals as goal

pub returns-in-Window-eq0-default : goal.returns-in-Window-eq0-default
returns-in-Window-eq0-default c = λ a e.
    let n = c.in-Window-eq0-default.n in
    let on_connection : c.in-Window-eq0-default.field-0 ≡ 0 = search rules in
    let range = c.ranges.window in
    let kept = simp to_z-of_z at c.is_too_wide.ensures in
    kept
    ∙ ap (λ w. is_too_wide (w +ℤ pos n)) e
    ∙ ap is_too_wide (sym (connection n a))
    ∙ ap (λ id. widens_connection a (frame.Window id n)) (sym on_connection)
    ∙ ap (widens_connection a) (sym c.in-Window-eq0-default.is)
