use Rattle.trace_model.proofs.AtRest.{quiet_there, rests}
use Rattle.trace_model.proofs.laws.at_rest.Goals as goal

pub returns-clause-ports : goal.returns-clause-ports
returns-clause-ports c = λ c x before met after lines g. rests c g.rounds met after g.plays g.some

pub returns-clause-quiet : goal.returns-clause-quiet
returns-clause-quiet c = λ x e client up. quiet_there x e client up
