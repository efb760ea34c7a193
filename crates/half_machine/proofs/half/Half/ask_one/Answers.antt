use Rattle.std.proofs.Common.{rules, ◌≡◌, true, Some}
use Rattle.half_machine.specs.Asking.{may_ask, due_of}
use Rattle.half_machine.proofs.Lending.{can_make}
use Rattle.half_machine.proofs.half.Half.ask_one.Goals as goal

pub make-requires : goal.make-requires
make-requires c =
    let x = c.args.self.now in
    let y : may_ask x ≡ true = search rules in
    let e : due_of x ≡ Some c.in-Some.due = search rules in
    can_make c.requires.0.0 c.requires.0.1 c.requires.0.2 x c.in-Some.due c.requires.0.3 c.requires.0.4 y e
