use Rattle.filter_model.specs.Half.{Settle, called, progress, course}
use Rattle.half_machine.proofs.Chosen.{tied}
use Rattle.half_machine.proofs.Settling.{settle_holds}
use Rattle.half_machine.proofs.Told.{told}
use Rattle.half_machine.proofs.half.Half.settle.Goals as goal

pub go_on-requires : goal.go_on-requires
go_on-requires c =
    let p = c.requires.0 in
    let m = c.args.modes in
    tied p.config p.direction (record (progress p) { course = called (Settle m) (course p) }) _
    (settle_holds p c.args.self.now m c.settled-self.result c.requires.1 c.requires.2 c.settled-self.ensures)

pub returns : goal.returns
returns c p s y =
    let m = c.args.modes in
    told p (Settle m) c.go_on.new.self (c.go_on.ensures p.config p.direction (record (progress p) { course = called (Settle m) (course p) })
    (settle_holds p c.args.self.now m c.settled-self.result s y c.settled-self.ensures))
