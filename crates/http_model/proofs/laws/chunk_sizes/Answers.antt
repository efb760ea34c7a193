use Rattle.http_model.proofs.Hexadecimal.{hex_is_digits}
use Rattle.http_model.proofs.laws.chunk_sizes.Goals as goal

pub returns : goal.returns
returns c = hex_is_digits
