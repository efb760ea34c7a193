use Rattle.trace_model.specs.Links.{arrived}
use Rattle.trace_player.proofs.opened.Opened.arrive.Goals as goal

pub returns-in_ok-told-in-ClientLost-clause-tied : goal.returns-in_ok-told-in-ClientLost-clause-tied
unfolding arrived
returns-in_ok-told-in-ClientLost-clause-tied c = λ k m t e. rw c.in-ClientLost.is (c.in_ok-told-in-ClientLost.ensures.tied k m t)

pub returns-in_ok-told-in-UpLost-clause-tied : goal.returns-in_ok-told-in-UpLost-clause-tied
unfolding arrived
returns-in_ok-told-in-UpLost-clause-tied c = λ k m t e. rw c.in-UpLost.is (c.in_ok-told-in-UpLost.ensures.tied k m t)

pub returns-in_ok-told-in-UpNoDial-clause-tied : goal.returns-in_ok-told-in-UpNoDial-clause-tied
unfolding arrived
returns-in_ok-told-in-UpNoDial-clause-tied c = λ k m t e. rw c.in-UpNoDial.is (c.in_ok-told-in-UpNoDial.ensures.tied k m t)

pub returns-in_ok-answered-in-Answer-clause-tied : goal.returns-in_ok-answered-in-Answer-clause-tied
unfolding arrived
returns-in_ok-answered-in-Answer-clause-tied c = λ k m t e. rw c.in-Answer.is (c.in_ok-answered-in-Answer.ensures.tied k m t e)

pub returns-in_ok-told-in-Close-clause-tied : goal.returns-in_ok-told-in-Close-clause-tied
unfolding arrived
returns-in_ok-told-in-Close-clause-tied c = λ k m t e. rw c.in-Close.is (c.in_ok-told-in-Close.ensures.tied k m t)

pub returns-in_ok-told-in-Tick-clause-tied : goal.returns-in_ok-told-in-Tick-clause-tied
unfolding arrived
returns-in_ok-told-in-Tick-clause-tied c = λ k m t e. rw c.in-Tick.is (c.in_ok-told-in-Tick.ensures.tied k m t)
