use Rattle.header_mutation.proofs.NameTests.{begins_as_compared}
use Rattle.header_mutation.proofs.names.begins_lower.Goals as goal
use Rattle.std.proofs.Common.{◌∙◌}

pub returns-then-text-name : goal.returns-then-text-name
returns-then-text-name c = c.same_lower.ensures ∙ begins_as_compared c.args.name.now c.args.text.now
