use Rattle.std.proofs.Common.{ap, arith}
use Rattle.hpack_core.specs.Tables.{TableState, kept}
use Rattle.hpack_core.proofs.TableLemmas.{total_kept}
use Rattle.hpack_core.proofs.table.Table.held.Goals as goal

pub overflow_mul-result : goal.overflow_mul-result
overflow_mul-result c = omega (arith, total_kept c.self.inside.entries.items, c.self.invariant.sum, c.self.invariant.fits, c.self.invariant.low, c.len.ensures)

pub overflow_sub-result : goal.overflow_sub-result
overflow_sub-result c = omega (arith, total_kept c.self.inside.entries.items, c.self.invariant.sum, c.len.ensures)

pub returns-clause-held : goal.returns-clause-held
returns-clause-held c =
    let e = ap (λ (t : TableState). kept t.entries) c.self.view_is in
    omega (arith, total_kept c.self.inside.entries.items, c.self.invariant.sum, c.len.ensures, e)
