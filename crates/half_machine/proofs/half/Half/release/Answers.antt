use Rattle.filter_model.specs.Half.{Release, called, progress, course}
use Rattle.half_machine.proofs.Chosen.{tied}
use Rattle.half_machine.proofs.Told.{told}
use Rattle.half_machine.proofs.Releasing.{can_release, release_holds}
use Rattle.half_machine.proofs.half.Half.release.Goals as goal

pub let_pass-requires : goal.let_pass-requires
let_pass-requires c = can_release c.requires.0 c.args.self.now c.requires.1

pub go_on-requires : goal.go_on-requires
go_on-requires c =
    let p = c.requires.0 in
    tied p.config p.direction (record (progress p) { course = called Release (course p) }) c.let_pass.new.self
    (release_holds p c.args.self.now c.let_pass.new.self c.requires.1 c.let_pass.ensures)

pub returns : goal.returns
returns c p s =
    told p Release c.go_on.new.self (c.go_on.ensures p.config p.direction (record (progress p) { course = called Release (course p) })
    (release_holds p c.args.self.now c.let_pass.new.self s c.let_pass.ensures))
