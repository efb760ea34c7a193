use Rattle.std.proofs.Common.{arith}
use Rattle.std.proofs.lemmas.Bool.Decides.{nat_tests}
use Rattle.header_mutation.proofs.NameTests.{token_is_tested}
use Rattle.header_mutation.proofs.names.is_field_name.Goals as goal

pub returns-then-name-le-LONGEST : goal.returns-then-name-le-LONGEST
returns-then-name-le-LONGEST c =
    let tested = token_is_tested c.is_token.result c.args.name.now c.is_token.ensures in
    grind (arith, nat_tests, tested, c.if-name-le-LONGEST.true)
