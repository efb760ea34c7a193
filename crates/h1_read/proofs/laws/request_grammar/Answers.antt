use Rattle.h1_read.proofs.RequestLaw.{requests_agree}
use Rattle.h1_read.proofs.laws.request_grammar.Goals as goal

pub returns : goal.returns
returns c = requests_agree
