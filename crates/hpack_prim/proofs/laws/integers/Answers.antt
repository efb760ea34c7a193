use Rattle.hpack_prim.proofs.IntegerLaws.{int_found, int_only, int_is}
use Rattle.hpack_prim.proofs.laws.integers.Goals as goal

pub returns-clause-found : goal.returns-clause-found
returns-clause-found c = λ prefix at n next bytes a e. int_found prefix at bytes n next a e

pub returns-clause-only : goal.returns-clause-only
returns-clause-only c = λ prefix at n spelling rest i. int_only prefix at spelling rest n i

pub returns-clause-written : goal.returns-clause-written
returns-clause-written c = λ prefix first n low high free fits. int_is prefix first n low high free fits
