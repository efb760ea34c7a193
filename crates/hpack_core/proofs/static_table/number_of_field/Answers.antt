use Rattle.std.proofs.Common.{sym}
use Rattle.hpack_core.specs.Static.{entry}
use Rattle.hpack_core.specs.Writing.{is_field}
use Rattle.hpack_core.proofs.StaticLemmas.{starts, goes_on, finds_field, no_field}
use Rattle.hpack_core.proofs.static_table.number_of_field.Goals as goal

pub loop-index-init : goal.loop-index-init
loop-index-init c = starts (is_field c.args.field.now)

pub returns-then-is_equal : goal.returns-then-is_equal
returns-then-is_equal c = finds_field c.args.field.now c.loop-index.index (entry c.static_at.result.0.now c.static_at.result.1.now) c.loop-index-test.true c.static_at.ensures c.loop-index.invariant c.if-is_equal.ensures

pub loop-index-preserved : goal.loop-index-preserved
loop-index-preserved c = goes_on (is_field c.args.field.now) c.loop-index.index (entry c.static_at.result.0.now c.static_at.result.1.now) c.loop-index-test.true c.static_at.ensures c.loop-index.invariant (sym c.if-is_equal.ensures)

pub returns : goal.returns
returns c = no_field c.args.field.now c.loop-index.index c.loop-index-test.false c.loop-index.invariant
