use Rattle.http_model.proofs.ReadsOn.{reads_is_reader}
use Rattle.http_model.proofs.laws.reading_on.Goals as goal

pub returns : goal.returns
returns c = reads_is_reader
