use Rattle.filter_model.specs.Half.{Sent, called, progress, course}
use Rattle.half_machine.proofs.Chosen.{tied}
use Rattle.half_machine.proofs.Told.{told, sent_holds}
use Rattle.half_machine.proofs.half.Half.sent.Goals as goal

pub go_on-requires : goal.go_on-requires
go_on-requires c =
    let p = c.requires.0 in
    tied p.config p.direction (record (progress p) { course = called Sent (course p) }) _ (sent_holds p c.args.self.now c.requires.1 c.requires.2)

pub returns : goal.returns
returns c p s m =
    told p Sent c.go_on.new.self (c.go_on.ensures p.config p.direction (record (progress p) { course = called Sent (course p) }) (sent_holds p c.args.self.now s m))
