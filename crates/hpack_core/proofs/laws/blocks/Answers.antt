use Rattle.hpack_core.proofs.BlockLaws.{block_found}
use Rattle.hpack_core.proofs.BlockOnly.{block_only}
use Rattle.hpack_core.proofs.laws.blocks.Goals as goal

pub returns-clause-found : goal.returns-clause-found
returns-clause-found c = λ bytes table behind fields a e. block_found bytes table fields behind a e

pub returns-clause-only : goal.returns-clause-only
returns-clause-only c = λ bytes table behind fields b fit. block_only bytes table fields behind b fit
