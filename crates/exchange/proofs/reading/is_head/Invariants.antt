use Rattle.std.proofs.Common.{◌≡◌, Some, drop}
use Rattle.filter_model.specs.Account.{is_head_request}
use Rattle.exchange.proofs.reading.is_head.Given as goal

abbrev pub invariant-loop-field : goal.invariant-loop-field
invariant-loop-field l = is_head_request (Some l.head) ≡ is_head_request (Some (drop l.field-index l.field-items))
