use Rattle.trace_player.proofs.StageConfig.{config_leads}
use Rattle.trace_player.proofs.stage.second.Goals as goal

pub returns-in-Ok : goal.returns-in-Ok
returns-in-Ok c =
    let read = rw c.bytes.ensures.list at c.in-Ok.ensures.ok in
    rw (c.in-Config.is, c.new.ensures) (config_leads c.in-Config.text c.in-Ok.config c.new-in-Ok.result read c.new-in-Ok.ensures)
