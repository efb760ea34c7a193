use Rattle.std.proofs.Common.{◌∙◌}
use Rattle.h1_read.proofs.FieldText.{token_same}
use Rattle.h1_read.proofs.place.is_token_byte.Goals as goal

pub returns : goal.returns
returns c = c.is_header_name_token.ensures ∙ token_same c.args.b
