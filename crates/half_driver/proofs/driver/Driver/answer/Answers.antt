use Rattle.std.proofs.Common.{rules, subst, sym, ◌≡◌}
use Rattle.std.specs.Prelude.{Result, Ok, Err, OnOk, OnErr}
use Rattle.header_mutation.specs.declared.setup.HalfFault.{HalfFault}
use Rattle.filter_model.specs.Half.{Answer, Told, after_step}
use Rattle.half_machine.specs.Stands.{StandsFor}
use Rattle.half_machine.specs.declared.half.Half.{Half}
use Rattle.half_driver.specs.Driving.{Driving}
use Rattle.half_driver.proofs.Driven.{answered}
use Rattle.half_driver.proofs.driver.Driver.answer.Goals as goal

-- taken, it stands for one step more; refused, it is as it was
either : {A : Type 0} (r : Result A HalfFault) (old new : Half) (stands holds : Type 0) → OnOk r stands → OnErr r (new ≡ old) → (stands → holds) → (new ≡ old → holds) → holds
either (Ok u) old new stands holds s e f g = f s
either (Err u) old new stands holds s e f g = g e

pub invariant_of-self : goal.invariant_of-self
invariant_of-self c =
    let x = c.self.inside in
    let p = c.self.invariant.0 in
    let f = c.self.invariant.2 in
    let a = c.args.answer.now.common in
    either c.answer.result x.half c.answer.new.self (StandsFor (after_step (Told (Answer a)) p) c.answer.new.self) (Driving c.answer.new.self x.read x.unfinished x.unsent x.waiting x.answer_limit)
    (c.answer.ensures.stands p c.self.invariant.1 (record { fits = search rules })) c.answer.ensures.unchanged
    (λ s. (after_step (Told (Answer a)) p, s, answered x.read x.unfinished x.unsent x.waiting p a f, c.self.invariant.3))
    (λ e. subst (λ h. Driving h x.read x.unfinished x.unsent x.waiting x.answer_limit) (sym e) c.self.invariant)
