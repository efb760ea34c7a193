use Rattle.std.proofs.Common.{refl}
use Rattle.hpack_core.proofs.TableLemmas.{cut-nil}
use Rattle.hpack_core.proofs.WritingLaws.{block_is}
use Rattle.hpack_core.proofs.encoder.Encoder.block.Goals as goal

pub returns-clause-related : goal.returns-clause-related
returns-clause-related c = rw (← c.self.view_is, c.from_vec.ensures) (block_is c.self.inside.known c.self.inside.limit c.args.fields.now c.in_ok-bytes.bytes.items c.self.invariant.0 c.self.invariant.1 c.requires c.in_ok-bytes.ensures)

pub returns-clause-table : goal.returns-clause-table
returns-clause-table c = rw (← c.self.view_is, cut-nil c.self.inside.limit) refl
