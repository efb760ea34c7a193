-- An increment of the connection, or of a stream.
use Rattle.h2_session.proofs.Increments.{taken-connection, taken-stream, absorbed-stream}
use Rattle.h2_session.proofs.session.Session.take_increment.Goals as goal

pub returns-then-id-eq0-clause-state : goal.returns-then-id-eq0-clause-state
returns-then-id-eq0-clause-state c =
    taken-connection c.args.id c.args.n c.args.self.now.state c.widen_connection.new.self.state c.if-id-eq0.true c.requires c.widen_connection.ensures.state

pub returns-else-id-eq0-clause-state : goal.returns-else-id-eq0-clause-state
returns-else-id-eq0-clause-state c =
    taken-stream c.args.id c.args.n c.args.self.now.state c.widen_stream.new.self.state c.if-id-eq0.false c.requires c.widen_stream.ensures.state

pub returns-else-id-eq0-clause-faulty : goal.returns-else-id-eq0-clause-faulty
returns-else-id-eq0-clause-faulty c =
    absorbed-stream c.args.id c.args.n c.args.self.now.state c.widen_stream.new.self.state c.requires c.widen_stream.ensures.faulty
