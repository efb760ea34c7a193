use Rattle.hpack_prim.proofs.Walks.{one_word}
use Rattle.hpack_prim.proofs.laws.no_code_begins_another.Goals as goal

pub returns : goal.returns
returns c = one_word
