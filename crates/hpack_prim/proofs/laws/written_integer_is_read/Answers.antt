use Rattle.hpack_prim.specs.Integers.{int}
use Rattle.hpack_prim.proofs.IntegerLaws.{int_is, int_only}
use Rattle.hpack_prim.proofs.laws.written_integer_is_read.Goals as goal

pub returns : goal.returns
returns c = λ prefix first at n rest low high free fits. int_only prefix at (int prefix first n) rest n (int_is prefix first n low high free fits)
