use Rattle.std.proofs.Common.{◌∙◌}
use Rattle.filter_model.specs.Half.{progress}
use Rattle.half_machine.proofs.NextAsk.{headers_out_is}
use Rattle.half_machine.proofs.half.Half.awaits_headers.Goals as goal

pub returns : goal.returns
returns c p s = c.has_headers-awaits.ensures ∙ headers_out_is p.config p.direction (progress p) c.args.self.now s.ties
