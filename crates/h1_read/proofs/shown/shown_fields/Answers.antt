use Rattle.std.proofs.Common.{◌∙◌, ◌||◌, ap, sym}
use Rattle.h1_read.proofs.ShownFields.{kept_step}
use Rattle.h1_read.proofs.shown.shown_fields.Goals as goal

pub loop-field-preserved : goal.loop-field-preserved
loop-field-preserved c =
    kept_step c.args.fields.now c.loop-field.shown.items c.push.new.self.items c.loop-field.has_length c.either-has_length.result c.loop-field.field-index
    c.field-item.result c.in_ok-copy.field-0 c.loop-field-test.true c.field-item.is (sym c.is_kept.ensures ∙ c.if-not-is_kept.false) c.in_ok-copy.ensures c.in_ok-push.ensures.items
    (c.either-has_length.ensures ∙ ap (λ t. c.loop-field.has_length || t) c.is_named.ensures) c.loop-field.invariant
