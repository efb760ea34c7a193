use Rattle.std.proofs.Common.{subst, sym, ap, ◌∙◌, ◌≡◌, ◌+◌}
use Rattle.std.specs.Prelude.{min}
use Rattle.filter_model.specs.Half.{Gave, after_step}
use Rattle.half_driver.specs.Driving.{Driving, Follows, size_of}
use Rattle.half_driver.proofs.Driven.{gave}
use Rattle.half_driver.proofs.driver.Driver.next_out.Goals as goal

pub invariant_of-self : goal.invariant_of-self
invariant_of-self c =
    let x = c.self.inside in
    subst (λ h. Driving h x.read x.unfinished x.unsent x.waiting x.answer_limit) (sym c.in_err-out.ensures.kept) c.self.invariant

pub invariant_of-self-2 : goal.invariant_of-self-2
invariant_of-self-2 c =
    let x = c.self.inside in
    let p = c.self.invariant.0 in
    let s = c.self.invariant.1 in
    let f = c.self.invariant.2 in
    let out = c.in_ok-out.out in
    let size : c.saturating_add-self-inside.result ≡ min (x.waiting + size_of out) 18_446_744_073_709_551_615 =
    c.saturating_add-self-inside.ensures ∙ ap (λ n. min (x.waiting + n) 18_446_744_073_709_551_615) c.size_of.ensures in (
      after_step (Gave out) p,
      c.in_ok-out.ensures.stands p s,
      subst (λ n. Follows x.read x.unfinished x.unsent n (after_step (Gave out) p)) (sym size) (gave x.read x.unfinished x.unsent x.waiting p out f),
      c.self.invariant.3,
    )
