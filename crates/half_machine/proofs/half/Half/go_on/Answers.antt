use Rattle.std.proofs.Common.{refl}
use Rattle.filter_model.specs.Course.{Course, committed, one_asked}
use Rattle.filter_model.specs.Half.{Progress}
use Rattle.half_machine.specs.Choosing.{Holds, IsChosen}
use Rattle.half_machine.proofs.Chosen.{choose_holds, ask_holds, go_on_holds, choose_chosen, ask_chosen, choose_tied, ask_tied}
use Rattle.half_machine.proofs.half.Half.go_on.Goals as goal

pub ask_one-requires : goal.ask_one-requires
ask_one-requires c = choose_tied c.args.self.now c.choose_head.new.self c.choose_head.ensures c.requires

pub ask_one-requires-2 : goal.ask_one-requires-2
ask_one-requires-2 c =
    ask_tied c.choose_head.new.self c.ask_one.new.self c.ask_one.ensures (choose_tied c.args.self.now c.choose_head.new.self c.choose_head.ensures c.requires)

pub ask_one-requires-3 : goal.ask_one-requires-3
ask_one-requires-3 c =
    ask_tied c.ask_one.new.self c.ask_one-2.new.self c.ask_one-2.ensures
    (ask_tied c.choose_head.new.self c.ask_one.new.self c.ask_one.ensures (choose_tied c.args.self.now c.choose_head.new.self c.choose_head.ensures c.requires))

pub ask_one-requires-4 : goal.ask_one-requires-4
ask_one-requires-4 c =
    ask_tied c.ask_one-2.new.self c.ask_one-3.new.self c.ask_one-3.ensures
    (ask_tied c.ask_one.new.self c.ask_one-2.new.self c.ask_one-2.ensures
    (ask_tied c.choose_head.new.self c.ask_one.new.self c.ask_one.ensures (choose_tied c.args.self.now c.choose_head.new.self c.choose_head.ensures c.requires)))

pub returns : goal.returns
returns c config d p h =
    let w : Course = committed config d p.course in
    let p0 : Progress = record p { course = w } in
    let p1 : Progress = record p { course = one_asked config d w } in
    let p2 : Progress = record p { course = one_asked config d p1.course } in
    let p3 : Progress = record p { course = one_asked config d p2.course } in
    let h0 : Holds config d p0 c.choose_head.new.self = choose_holds config d p c.args.self.now c.choose_head.new.self c.choose_head.ensures h in
    let k0 : IsChosen c.choose_head.new.self = choose_chosen c.args.self.now c.choose_head.new.self c.choose_head.ensures in
    let h1 : Holds config d p1 c.ask_one.new.self = ask_holds config d p0 c.choose_head.new.self c.ask_one.new.self c.ask_one.ensures k0 h0 in
    let k1 : IsChosen c.ask_one.new.self = ask_chosen c.choose_head.new.self c.ask_one.new.self c.ask_one.ensures k0 in
    let h2 : Holds config d p2 c.ask_one-2.new.self = ask_holds config d p1 c.ask_one.new.self c.ask_one-2.new.self c.ask_one-2.ensures k1 h1 in
    let k2 : IsChosen c.ask_one-2.new.self = ask_chosen c.ask_one.new.self c.ask_one-2.new.self c.ask_one-2.ensures k1 in
    let h3 : Holds config d p3 c.ask_one-3.new.self = ask_holds config d p2 c.ask_one-2.new.self c.ask_one-3.new.self c.ask_one-3.ensures k2 h2 in
    let k3 : IsChosen c.ask_one-3.new.self = ask_chosen c.ask_one-2.new.self c.ask_one-3.new.self c.ask_one-3.ensures k2 in
    go_on_holds config d p c.ask_one-4.new.self w refl (ask_holds config d p3 c.ask_one-3.new.self c.ask_one-4.new.self c.ask_one-4.ensures k3 h3)
