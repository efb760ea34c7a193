use Rattle.hpack_core.proofs.BlockOnly.{block_only}
use Rattle.hpack_core.proofs.WritingLaws.{block_is, empty}
use Rattle.hpack_core.proofs.laws.written_block_is_read.Goals as goal

pub returns : goal.returns
returns c = λ known limit fields bytes le most short fit w. block_only bytes (empty known) fields (empty limit) (block_is known limit fields bytes le most short w) fit
