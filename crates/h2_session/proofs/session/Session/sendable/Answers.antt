-- As many bytes go as the lesser window and one frame allow.
use Rattle.std.proofs.Common.{◌≡◌, ◌≤◌, pos, ◌≤ℤ◌, negsuc, ◌-ℤ◌, ◌^◌, false, min, sym, ◌∙◌, ap, arith}
use Rattle.std.proofs.lemmas.Int.{ints}
use Rattle.std.proofs.Math.IntN.{nat_abs}
use Rattle.std.specs.Int.{int_min}
use Rattle.std.specs.Int.Signed.{le_z}
use Rattle.h2_model.specs.Calls.{now}
use Rattle.h2_session.proofs.Parts.{allows-sent, least-none, least-some, not-positive, positive, unwrapped, within-window}
use Rattle.h2_session.proofs.Standing.{sendable-by}
use Rattle.h2_laws_kept.proofs.Answers.{window-is}
use Rattle.h2_laws_kept.specs.Kept.{Kept}
use Rattle.h2_session.proofs.session.Session.sendable.Goals as goal

pub returns-then-window-le0-clause-count : goal.returns-then-window-le0-clause-count
returns-then-window-le0-clause-count c = λ r h s.
    let is : c.min-window.result ≡ int_min c.window.result c.window-2.result = c.min-window.ensures.value
    ∙ (λ i. int_min (unwrapped c.window.result c.window.type_inv i) (unwrapped c.window-2.result c.window-2.type_inv i)) in
    let low = not-positive c.min-window.result
    (ap (λ z. le_z z (pos 0)) (sym (unwrapped c.min-window.result c.min-window.type_inv)) ∙ c.if-window-le0.true) in
    let connection = window-is c.args.self.now (now r h) s.holds
    ∙ sym (ap (λ (k : Kept). k.state.window) c.self.view_is) ∙ sym c.window-2.ensures.value in
    let none = least-none c.window.result c.window-2.result c.min-window.result is low in
    let all = sendable-by c.args.id c.args.len (now r h) c.window.result c.window-2.result (sym (c.window.ensures.value r h s)) connection in
    sym (all ∙ rw none (omega arith))

pub returns-clause-count : goal.returns-clause-count
returns-clause-count c = λ r h s.
    let is : c.min-window.result ≡ int_min c.window.result c.window-2.result = c.min-window.ensures.value
    ∙ (λ i. int_min (unwrapped c.window.result c.window.type_inv i) (unwrapped c.window-2.result c.window-2.type_inv i)) in
    let back = unwrapped c.min-window.result c.min-window.type_inv in
    let high = positive c.min-window.result (ap (λ z. le_z z (pos 0)) (sym back) ∙ c.if-window-le0.false) in
    let connection = window-is c.args.self.now (now r h) s.holds
    ∙ sym (ap (λ (k : Kept). k.state.window) c.self.view_is) ∙ sym c.window-2.ensures.value in
    let some = least-some c.window.result c.window-2.result c.min-window.result is high in
    let all = sendable-by c.args.id c.args.len (now r h) c.window.result c.window-2.result (sym (c.window.ensures.value r h s)) connection in
    c.min-2.ensures ∙ (λ i. min (c.min.ensures i) ((ap nat_abs back ∙ some) i)) ∙ sym all

pub returns-clause-credit : goal.returns-clause-credit
returns-clause-credit c = λ t e.
    let back = unwrapped c.min-window.result c.min-window.type_inv in
    let high = positive c.min-window.result (ap (λ z. le_z z (pos 0)) (sym back) ∙ c.if-window-le0.false) in
    let few : c.min-2.result ≤ nat_abs c.min-window.result = omega (arith, c.min-2.ensures, ap nat_abs back) in
    let under : c.min-window.result ≤ℤ c.window.result =
    rw (← unwrapped c.window.result c.window.type_inv) c.min-window.ensures.self_bound in
    let within : pos c.min-2.result ≤ℤ c.window.result = within-window c.min-2.result c.min-window.result c.window.result few high under in
    let low : negsuc (2 ^ 33) ≤ℤ (t.credit -ℤ c.window.result) = (c.window.ensures.credit t e).0 in
    allows-sent false c.min-2.result t (omega (arith, ints, within, low))
