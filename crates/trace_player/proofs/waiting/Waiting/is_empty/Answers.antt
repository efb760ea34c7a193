use Rattle.std.proofs.Common.{ap, ◌∙◌, arith}
use Rattle.http_model.specs.Bytes.{is_empty}
use Rattle.trace_player.proofs.Waits.{none_left}
use Rattle.trace_player.proofs.waiting.Waiting.is_empty.Goals as goal

pub returns : goal.returns
returns c =
    let len = c.len.ensures in
    let ok = c.self.inside.bytes.ok.0 in
    let within = c.self.invariant in
    none_left c.self.inside.start c.len.result c.self.inside.bytes.items (omega (arith, len, ok)) (omega (arith, len, within)) ∙ ap is_empty c.self.view_is
