use Rattle.std.proofs.Common.{◌++◌, ◌+◌, map, drop, ap, ◌∙◌}
use Rattle.pb_wire.specs.Canonical.{spelling}
use Rattle.ext_msgs.specs.Spelling.{removal_record}
use Rattle.ext_msgs.proofs.Joined.{put_step, put_all}
use Rattle.ext_msgs.proofs.answer_writing.put_removals.Goals as goal

pub loop-name-preserved : goal.loop-name-preserved
loop-name-preserved c =
    let names = c.as_slice-name-items.result.now in
    ap (λ o. o ++ spelling (map removal_record (drop (c.loop-name.name-index + 1) names))) c.in_ok-put_present.ensures
    ∙ put_step removal_record c.loop-name.out _ names c.loop-name.name-index c.name-item.result c.loop-name-test.true c.name-item.is c.loop-name.invariant

pub returns : goal.returns
returns c =
    put_all removal_record c.loop-name.out _ c.as_slice-name-items.result.now c.loop-name.name-index c.loop-name-test.false c.loop-name.invariant
    ∙ ap (λ names. c.args.out.now ++ spelling (map removal_record names)) c.as_slice-name-items.ensures
