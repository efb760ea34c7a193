use Rattle.filter_model.specs.Half.{Head, called, progress, course}
use Rattle.half_machine.proofs.Chosen.{tied}
use Rattle.half_machine.proofs.Heading.{head_holds}
use Rattle.half_machine.proofs.Told.{told}
use Rattle.half_machine.proofs.half.Half.head.Goals as goal

pub go_on-requires : goal.go_on-requires
go_on-requires c =
    let p = c.requires.0 in
    let f = c.args.head in
    let n = c.args.length in
    tied p.config p.direction (record (progress p) { course = called (Head f n) (course p) }) _
    (head_holds p c.args.self.now f n c.own_framing-self.result c.is_bodiless-self.result c.requires.1 c.requires.2 c.own_framing-self.ensures c.is_bodiless-self.ensures)

pub returns : goal.returns
returns c p s m =
    let f = c.args.head in
    let n = c.args.length in
    told p (Head f n) c.go_on.new.self (c.go_on.ensures p.config p.direction (record (progress p) { course = called (Head f n) (course p) })
    (head_holds p c.args.self.now f n c.own_framing-self.result c.is_bodiless-self.result s m c.own_framing-self.ensures c.is_bodiless-self.ensures))
