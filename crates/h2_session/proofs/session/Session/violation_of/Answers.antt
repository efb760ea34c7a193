use Rattle.std.proofs.Common.{◌≡◌, ◌∙◌, sym, ap, subst, ◌&&◌, not, to_z, of_z, w64, arith}
use Rattle.std.proofs.lemmas.Int.{ints}
use Rattle.h2_model.specs.Violations.{is_settings, breaks_block}
use Rattle.h2_laws_kept.specs.Kept.{Kept}
use Rattle.h2_laws_kept.specs.StandsFor.{Holds}
use Rattle.h2_session.proofs.Judged.{rows-are, seen-first, seen-block, seen-streams, seen-window, seen-receive}
use Rattle.h2_session.proofs.session.Session.violation_of.Goals as goal

pub returns : goal.returns
returns c = λ a h v.
    let held : Holds _ a = subst (λ (l : Kept). Holds l a) (sym c.self.view_is) h in
    let same : to_z w64 (of_z w64 c.window.result) ≡ c.window.result = omega (arith, ints, c.window.ensures.low, c.window.ensures.high) in
    c.first_row.ensures ∙ rows-are a c.args.frame.now _ _ _ _ _ _ _ _ _ _
    (c.is_unsettled.ensures ∙ ap (λ x. x && not (is_settings c.args.frame.now)) (seen-first _ a held.state))
    (c.breaks_block.ensures ∙ ap (λ x. breaks_block x c.args.frame.now) (seen-block _ a held.state))
    c.is_push.ensures
    (c.is_on_unopened.ensures a held.role held.streams.known)
    (c.has_bad_setting.ensures a held.role)
    (c.has_wide_setting.ensures a (seen-streams _ a held.state))
    c.is_empty_update.ensures
    (c.widens_connection.ensures a (same ∙ c.window.ensures.value ∙ seen-window _ a held.state))
    (c.exceeds_window.ensures a (seen-receive _ a held.state) (seen-streams _ a held.state))
    (c.has_long_block.ensures a (seen-block _ a held.state))
