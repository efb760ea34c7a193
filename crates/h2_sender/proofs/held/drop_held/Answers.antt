-- Only the other frames stay.
use Rattle.std.proofs.Common.{rules, Bool, not}
use Rattle.std.proofs.lemmas.Fn.{filter_same}
use Rattle.h2_model.specs.Log.{LogEntry}
use Rattle.h2_model.specs.Moves.{is_dropped_entry}
use Rattle.h2_sender.proofs.held.drop_held.Goals as goal

pub returns-clause-items : goal.returns-clause-items
returns-clause-items c =
    let p : LogEntry → Bool = λ (e : LogEntry). not (is_dropped_entry c.args.id e) in
    filter_same _ p _ (λ x b f k. search rules) _ _ c.retain.ensures.filtered
