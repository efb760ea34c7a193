use Rattle.std.proofs.Common.{refl, ap, ◌∙◌}
use Rattle.trace_model.specs.Lines.{end_of}
use Rattle.trace_player.proofs.PlayedRounds.{up_taken, held_taken}
use Rattle.trace_player.proofs.PlayedTells.{then_none, then_some}
use Rattle.trace_player.proofs.opened.Opened.drain_up.Goals as goal
use Rattle.trace_player.proofs.opened.Opened.drain_up.Goals.{then-is_none, else-is_none}

pub drain-requires : goal.drain-requires
drain-requires c = let (k, m, t) = c.requires in (k, m.calls, t.after, t.ready)

pub returns-then-self : goal.returns-then-self
returns-then-self c = λ k m t. held_taken k _ m _ _ t (ap (λ l. l.held) t.up ∙ c.if-self.true)

pub returns : goal.returns
returns c = λ k m t.
    let d = c.in_ok-drained.ensures k m.calls t.after in
    elim c.if-is_none.branch [
      | then-is_none w ↦
          rw w.brought-is (up_taken k m c.args.self.now _ c.args.brought.now _ c.in_ok-drained.drained t c.if-self.false d refl refl refl refl refl refl
          (w.end_of-brought.ensures ∙ then_none c.args.brought.now.up_end (end_of c.in_ok-drained.drained.last) w.if-is_none.ensures) refl)
      | else-is_none w ↦
          rw w.brought-is (up_taken k m c.args.self.now _ c.args.brought.now _ c.in_ok-drained.drained t c.if-self.false d refl refl refl refl refl refl
          (then_some c.args.brought.now.up_end (end_of c.in_ok-drained.drained.last) w.if-is_none.ensures) refl)
    ]
