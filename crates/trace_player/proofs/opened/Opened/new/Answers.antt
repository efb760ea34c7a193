use Rattle.std.proofs.Common.{refl, []}
use Rattle.exchange.specs.Stands.{IsAfter}
use Rattle.trace_model.specs.Links.{filter_of, told_time}
use Rattle.trace_model.proofs.Configured.{fits}
use Rattle.trace_player.proofs.PlayedMeets.{new_rest}
use Rattle.trace_player.proofs.opened.Opened.new.Goals as goal
use Rattle.trace_player.proofs.opened.Opened.new.Goals.{in-Some+in_ok-step, in_default}

pub step-requires : goal.step-requires
step-requires c = (filter_of c.args.config.now, [], c.in_ok-exchange.ensures (filter_of c.args.config.now) (fits c.args.config.now), tt)

pub returns : goal.returns
returns c =
    let made = c.in_ok-exchange.ensures (filter_of c.args.config.now) (fits c.args.config.now) in
    let told : IsAfter (filter_of c.args.config.now) (told_time c.args.clock) c.match-clock.exchange = elim c.match-clock.branch [
      | in-Some+in_ok-step w ↦ rw (w.in-Some.is, w.exchange-is) (w.in_ok-step.ensures.stands (filter_of c.args.config.now) [] made tt)
      | in_default w ↦ rw (w.in_default.is, w.exchange-is) made
    ] in
    new_rest (filter_of c.args.config.now) c.args.clock _ told c.new-2.ensures.idle c.new-3.ensures.idle c.new-2.ensures.over c.new-3.ensures.over refl
