use Rattle.h1_read.proofs.ResponseLaw.{responses_agree}
use Rattle.h1_read.proofs.laws.response_grammar.Goals as goal

pub returns : goal.returns
returns c = responses_agree
