use Rattle.filter_model.specs.Half.{Bytes, called, progress, course}
use Rattle.half_machine.proofs.Chosen.{tied}
use Rattle.half_machine.proofs.Coming.{can_take, data_holds}
use Rattle.half_machine.proofs.Told.{told}
use Rattle.half_machine.proofs.half.Half.data.Goals as goal

pub take-requires : goal.take-requires
take-requires c = can_take c.requires.0 c.args.self.now c.args.bytes.now c.requires.1 c.requires.2

pub go_on-requires : goal.go_on-requires
go_on-requires c =
    let p = c.requires.0 in
    let b = c.args.bytes.now in
    tied p.config p.direction (record (progress p) { course = called (Bytes b) (course p) }) c.take.new.self
    (data_holds p c.args.self.now c.take.new.self b c.requires.1 c.requires.2 c.take.ensures)

pub returns : goal.returns
returns c p s m =
    let b = c.args.bytes.now in
    told p (Bytes b) c.go_on.new.self (c.go_on.ensures p.config p.direction (record (progress p) { course = called (Bytes b) (course p) })
    (data_holds p c.args.self.now c.take.new.self b s m c.take.ensures))
