use Rattle.std.proofs.Common.{refl, sym, ◌∙◌, ap, ◌≡◌, ◌<◌, ◌-◌, ℕ, arith}
use Rattle.std.specs.Prelude.{Some}
use Rattle.half_machine.proofs.Handed.{handing, handed_stands, unhanded_out, none_unhanded, popped, popped_stands}
use Rattle.half_machine.proofs.half.Half.next_ask.Goals as goal

positive : (n : ℕ) → (n ≡ 0 → ⊥) → 0 < n
positive ℕ.zero f = absurd (f refl)
positive (ℕ.suc n) f = omega arith

pub returns-in-Some-clause-exact : goal.returns-in-Some-clause-exact
returns-in-Some-clause-exact c p s = sym (popped p c.args.self.now c.in-Some.ask c.take.new.self s c.in-Some.ensures).next

pub returns-in-Some-clause-stands : goal.returns-in-Some-clause-stands
returns-in-Some-clause-stands c p s = popped_stands p c.args.self.now c.in-Some.ask c.take.new.self s c.in-Some.ensures

pub returns-then-self-eq0-clause-exact : goal.returns-then-self-eq0-clause-exact
returns-then-self-eq0-clause-exact c p s = none_unhanded p c.args.self.now s c.if-self-eq0.true

pub overflow_sub-at : goal.overflow_sub-at
overflow_sub-at c =
    let l = c.len.ensures in
    let u = unhanded_out c.requires.0 c.args.self.now c.requires.1 c.in_default.ensures.0 in
    omega arith

pub at-requires : goal.at-requires
at-requires c =
    let l = c.len.ensures in
    let u = unhanded_out c.requires.0 c.args.self.now c.requires.1 c.in_default.ensures.0 in
    let k = positive c.args.self.now.asked.unhanded c.if-self-eq0.false in
    omega arith

pub ask_for-requires : goal.ask_for-requires
ask_for-requires c =
    let x = c.args.self.now in
    (handing c.requires.0 x (c.len.result - x.asked.unhanded) c.bodies_before.result c.at.result c.requires.1 c.in_default.ensures.0 (positive x.asked.unhanded c.if-self-eq0.false) (ap (λ n. n - x.asked.unhanded) c.len.ensures) c.at.ensures c.bodies_before.ensures).there

pub returns-clause-exact : goal.returns-clause-exact
returns-clause-exact c p s =
    let x = c.args.self.now in
    ap Some c.in_ok-ask.ensures
    ∙ sym (handing p x (c.len.result - x.asked.unhanded) c.bodies_before.result c.at.result s c.in_default.ensures.0 (positive x.asked.unhanded c.if-self-eq0.false) (ap (λ n. n - x.asked.unhanded) c.len.ensures) c.at.ensures c.bodies_before.ensures).next

pub returns-clause-stands : goal.returns-clause-stands
returns-clause-stands c p s =
    handed_stands p c.args.self.now c.take.new.self s c.in_default.ensures.0 c.in_default.ensures.1 (positive c.args.self.now.asked.unhanded c.if-self-eq0.false)
