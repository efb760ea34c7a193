use Rattle.std.proofs.Common.{[]}
use Rattle.trace_model.specs.Links.{filter_of, opened_at}
use Rattle.trace_player.proofs.PlayedMeets.{may_open}
use Rattle.trace_player.proofs.opened.Opened.open.Goals as goal

pub returns : goal.returns
returns c =
    c.in_ok-tell.ensures (filter_of c.args.config.now) [] (opened_at c.args.clock)
    (may_open (filter_of c.args.config.now) c.args.clock c.in_ok-opened.opened c.in_ok-opened.ensures)
