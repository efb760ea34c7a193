use Rattle.std.proofs.Common.{sym, ◌∙◌, subst}
use Rattle.std.specs.Prelude.{◌+◌, length}
use Rattle.h1_outlet.specs.Stands.{StandsFor}
use Rattle.h1_outlet.proofs.Giving.{given_next, given_stands, not_none, on_err}
use Rattle.h1_outlet.proofs.Putting.{none_given}
use Rattle.h1_outlet.proofs.Refilled.{ready_stands}
use Rattle.h1_outlet.proofs.outlet.Outlet.take.Goals as goal

pub returns-then-len-eq0-clause-gives : goal.returns-then-len-eq0-clause-gives
returns-then-len-eq0-clause-gives c f s =
    none_given f c.args.self.now c.ready.new.self c.in_ok-ready.ensures.readied (sym c.len.ensures ∙ c.if-len-eq0.true) s

pub returns-then-len-eq0-clause-stands : goal.returns-then-len-eq0-clause-stands
returns-then-len-eq0-clause-stands c f s = subst (λ x. StandsFor f x) (sym c.in_ok-ready.ensures.readied) (ready_stands f c.args.self.now s)

pub returns-in_err-gave-clause-kept : goal.returns-in_err-gave-clause-kept
returns-in_err-gave-clause-kept c f s =
    let k : StandsFor f c.ready.new.self = subst (λ x. StandsFor f x) (sym c.in_ok-ready.ensures.readied) (ready_stands f c.args.self.now s) in
    on_err c.from_residual-in_err-gave.result (subst (λ w. StandsFor f (record c.ready.new.self { going = w })) (sym c.in_err-gave.ensures.unchanged) k)

pub returns-clause-gives : goal.returns-clause-gives
returns-clause-gives c f s =
    let k : StandsFor f c.ready.new.self = subst (λ x. StandsFor f x) (sym c.in_ok-ready.ensures.readied) (ready_stands f c.args.self.now s) in
    given_next f c.ready.new.self c.args.max c.in_ok-gave.gave k c.requires (not_none c.len.result (length c.ready.new.self.going.left) c.len.ensures c.if-len-eq0.false)
    c.in_ok-gave.ensures.gives

pub returns-clause-stands : goal.returns-clause-stands
returns-clause-stands c f s =
    let k : StandsFor f c.ready.new.self = subst (λ x. StandsFor f x) (sym c.in_ok-ready.ensures.readied) (ready_stands f c.args.self.now s) in
    subst (λ w. StandsFor (record f { given = f.given + length c.in_ok-gave.gave.bytes }) (record c.ready.new.self { going = w })) (sym c.in_ok-gave.ensures.left)
    (given_stands f c.ready.new.self c.args.max c.in_ok-gave.gave k c.in_ok-gave.ensures.gives)
