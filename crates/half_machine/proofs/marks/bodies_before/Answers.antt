use Rattle.std.proofs.Common.{rules}
use Rattle.half_machine.proofs.Bodies.{few}
use Rattle.half_machine.proofs.marks.bodies_before.Goals as goal

pub overflow_add-n : goal.overflow_add-n
overflow_add-n c = let e = few c.args.marks.now c.marks.k in let i = c.marks.invariant in search rules
