use Rattle.std.proofs.Common.{◌++◌, ◌+◌, ◌∷◌, [], map, drop, ap, ◌∙◌}
use Rattle.pb_wire.specs.Canonical.{spelling}
use Rattle.ext_msgs.specs.Spelling.{present, field_record}
use Rattle.ext_msgs.proofs.Joined.{put_step, put_all}
use Rattle.ext_msgs.proofs.writing.map.Goals as goal

pub loop-field-preserved : goal.loop-field-preserved
loop-field-preserved c =
    let fields = c.as_slice-field-items.result.now in
    let put = c.in_ok-put_present.ensures ∙ ap (λ b. c.loop-field.message ++ spelling (present 1 b ∷ [])) c.in_ok-value.ensures in
    ap (λ o. o ++ spelling (map field_record (drop (c.loop-field.field-index + 1) fields))) put
    ∙ put_step field_record c.loop-field.message _ fields c.loop-field.field-index c.field-item.result c.loop-field-test.true c.field-item.is c.loop-field.invariant

pub returns : goal.returns
returns c =
    c.done.ensures ∙ put_all field_record c.loop-field.message _ c.as_slice-field-items.result.now c.loop-field.field-index c.loop-field-test.false c.loop-field.invariant
    ∙ ap (λ fields. spelling (map field_record fields)) c.as_slice-field-items.ensures
