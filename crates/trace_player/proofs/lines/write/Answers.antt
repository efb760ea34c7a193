use Rattle.std.proofs.Common.{◌≡◌, sym, ◌∙◌}
use Rattle.filter_model.specs.declared.calls.Side.TheVariants.{Client, Upstream}
use Rattle.trace_model.specs.Lines.{first_end, if_new}
use Rattle.trace_player.proofs.WrittenLines.{all_written, new_else, new_then}
use Rattle.trace_player.proofs.lines.write.Goals as goal
use Rattle.trace_player.proofs.lines.write.Goals.{then-client_over, else-client_over, then-up_over, else-up_over}

pub returns : goal.returns
returns c = λ before calls t e f.
    let client : c.if-client_over.push_client_end ≡ if_new (first_end Client before) c.args.brought.client_end = elim c.if-client_over.branch [
      | then-client_over w ↦ w.push_client_end-is ∙ new_then (first_end Client before) c.args.brought.client_end (sym e ∙ w.if-client_over.true)
      | else-client_over w ↦ w.push_client_end-is ∙ new_else (first_end Client before) c.args.brought.client_end (sym e ∙ w.if-client_over.false)
    ] in
    let up : c.if-up_over.push_up_end ≡ if_new (first_end Upstream before) c.args.brought.up_end = elim c.if-up_over.branch [
      | then-up_over w ↦ w.push_up_end-is ∙ new_then (first_end Upstream before) c.args.brought.up_end (sym f ∙ w.if-up_over.true)
      | else-up_over w ↦ w.push_up_end-is ∙ new_else (first_end Upstream before) c.args.brought.up_end (sym f ∙ w.if-up_over.false)
    ] in
    all_written c.args.x before calls c.args.brought _ _ _ _ _ _ _ _ _ t client up c.in_ok-push_client.ensures c.in_ok-push_up.ensures
    c.in_ok-push_asks.ensures c.in_ok-push_ending.ensures c.in_ok-push_client_end.ensures c.in_ok-push_up_end.ensures
