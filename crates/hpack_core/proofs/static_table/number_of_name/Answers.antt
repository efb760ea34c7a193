use Rattle.std.proofs.Common.{refl, sym}
use Rattle.hpack_core.specs.Static.{entry}
use Rattle.hpack_core.specs.Writing.{is_name}
use Rattle.hpack_core.proofs.StaticLemmas.{starts, goes_on, finds_name, no_name}
use Rattle.hpack_core.proofs.static_table.number_of_name.Goals as goal

pub loop-index-init : goal.loop-index-init
loop-index-init c = starts (is_name c.args.name.now)

pub returns-then-has_name : goal.returns-then-has_name
returns-then-has_name c = finds_name c.args.name.now c.static_at.result.0.now c.loop-index.index (entry c.static_at.result.0.now c.static_at.result.1.now) c.loop-index-test.true c.static_at.ensures c.loop-index.invariant refl c.if-has_name.ensures

pub loop-index-preserved : goal.loop-index-preserved
loop-index-preserved c = goes_on (is_name c.args.name.now) c.loop-index.index (entry c.static_at.result.0.now c.static_at.result.1.now) c.loop-index-test.true c.static_at.ensures c.loop-index.invariant (sym c.if-has_name.ensures)

pub returns : goal.returns
returns c = no_name c.args.name.now c.loop-index.index c.loop-index-test.false c.loop-index.invariant
