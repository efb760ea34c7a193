use Rattle.header_mutation.specs.Values.{is_method}
use Rattle.header_mutation.proofs.NameTests.{token_is_tested}
use Rattle.header_mutation.proofs.values.is_method.Goals as goal

pub returns : goal.returns
unfolding is_method
returns c = token_is_tested c.is_token.result c.args.value.now c.is_token.ensures
