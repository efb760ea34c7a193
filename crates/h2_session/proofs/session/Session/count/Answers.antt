-- How a frame counts, kind by kind.
use Rattle.std.proofs.Common.{sym}
use Rattle.std.proofs.lemmas.Result.{on_ok_weaker}
use Rattle.h2_session.proofs.Counting.{counts-headers, counts-continuation, counts-data, counts-settings, counts-goaway, counts-other}
use Rattle.h2_session.proofs.session.Session.count.Goals as goal

pub returns-in-Headers-clause-state : goal.returns-in-Headers-clause-state
returns-in-Headers-clause-state c = λ u v. on_ok_weaker c.begin_block.result
    (counts-headers c.args.frame.now _ _ _ _ _ c.args.self.now.state c.begin_block.new.self.state c.in-Headers.is c.bytes.ensures.list c.requires) c.begin_block.ensures.state

pub returns-in-Continuation-clause-state : goal.returns-in-Continuation-clause-state
returns-in-Continuation-clause-state c = λ u v. on_ok_weaker c.continue_block.result
    (counts-continuation c.args.frame.now _ _ _ _ c.args.self.now.state c.continue_block.new.self.state c.in-Continuation.is c.bytes-in-Continuation.ensures.list c.requires) c.continue_block.ensures.state

pub returns-in-Data-clause-state : goal.returns-in-Data-clause-state
returns-in-Data-clause-state c = λ u v. counts-data c.args.frame.now _ _ _ _ c.args.self.now.state c.take_data.new.self.state c.in-Data.is c.requires
    (λ h. c.take_data.ensures.state h.0 h.1) u

pub returns-in-Settings-clause-state : goal.returns-in-Settings-clause-state
returns-in-Settings-clause-state c = λ u v. counts-settings c.args.frame.now _ _ c.args.self.now.state c.apply.new.self.state c.in-Settings.is (sym c.as_slice.ensures) c.requires c.apply.ensures.state

pub returns-in-GoAway-clause-state : goal.returns-in-GoAway-clause-state
returns-in-GoAway-clause-state c = λ u v. counts-goaway c.args.frame.now _ _ c.args.self.now.state c.start_ending.new.self.state c.in-GoAway.is c.requires c.start_ending.ensures.state

pub returns-in_default-clause-state : goal.returns-in_default-clause-state
returns-in_default-clause-state c = λ u v. counts-other c.args.frame.now c.args.self.now.state c.in_default.not-Data c.in_default.not-Headers
    c.in_default.not-Settings c.in_default.not-GoAway c.in_default.not-Window c.in_default.not-Continuation c.requires
