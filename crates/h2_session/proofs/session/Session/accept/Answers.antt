-- A frame that is no connection error brings what the account says.
use Rattle.std.proofs.lemmas.Result.{IfOk-weaker}
use Rattle.h2_model.specs.History.{with_opening}
use Rattle.h2_session.proofs.Accepted.{brings, is-ready, may-open}
use Rattle.h2_session.proofs.session.Session.accept.Goals as goal

pub returns-clause-brings : goal.returns-clause-brings
returns-clause-brings c a p =
    let k = c.args.self.now in
    let f = c.args.frame in
    let w = c.args.whole in
    let o = c.in_ok-open_for.ensures in
    let m = c.in_ok-make_room.ensures in
    let may = may-open k f w a p in
    IfOk-weaker c.settle.result _ _
    (λ e s. brings k f w a p c.open_for.new.self c.make_room.new.self (o.state may) (o.numbers may) o.beside o.headless o.capacity
    m.state m.same m.capacity m.room c.settle.new.self e s c.settle.ensures.same c.settle.ensures.capacity)
    (c.settle.ensures.settled (with_opening f a)
    (is-ready k f w a p c.open_for.new.self c.make_room.new.self (o.state may) (o.numbers may) o.beside o.headless o.capacity
    m.state m.same m.capacity m.room))
