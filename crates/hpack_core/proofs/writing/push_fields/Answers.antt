use Rattle.hpack_core.proofs.WritingLemmas.{goes_on}
use Rattle.hpack_core.proofs.writing.push_fields.Goals as goal

pub loop-field-preserved : goal.loop-field-preserved
loop-field-preserved c =
    let w = c.in_ok-push_field.ensures in
    goes_on c.as_slice-field-items.result.now c.loop-field.field-index c.field-item.result c.args.out.now.items c.loop-field.out.items c.push_field.new.out.items w.0 c.loop-field-test.true c.field-item.is c.loop-field.invariant w.1 w.2
