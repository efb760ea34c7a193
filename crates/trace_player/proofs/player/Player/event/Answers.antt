use Rattle.trace_player.proofs.Events.{met_opening, met_others}
use Rattle.trace_player.proofs.player.Player.event.Goals as goal
use Rattle.trace_player.proofs.player.Player.event.Goals.{in-Open+in_ok-open-in-Open, in_default+in_ok-meet_all-in_default}

pub returns : goal.returns
returns c = λ s p. elim c.match-line.branch [
  | in-Open+in_ok-open-in-Open w ↦ rw (c.from_vec.ensures, w.self-is, w.text-is, w.in-Open.is) (met_opening s w.open.new.self w.open.new.text.items (rw c.new-text.ensures.items at w.in_ok-open-in-Open.ensures s p))
  | in_default+in_ok-meet_all-in_default w ↦
      rw (c.from_vec.ensures, w.self-is, w.text-is) (met_others s c.args.line.now w.meet_all.new.self w.meet_all.new.text.items w.in_default.not-Open
      (rw c.new-text.ensures.items at w.in_ok-meet_all-in_default.ensures s p))
]
