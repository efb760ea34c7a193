-- The line of the configuration, where it may stand, leads to the first event.
use Rattle.std.proofs.Common.{refl, ap, sym}
use Rattle.std.specs.Prelude.{ℕ, ◌≡◌, List, [], Ok}
use Rattle.ext_config.specs.Configured.{configured}
use Rattle.ext_config.specs.declared.config.Config.{Config}
use Rattle.trace_format.specs.declared.line.TraceLine.TheVariants as line
use Rattle.trace_model.specs.Places.{Events, Second, begun}
use Rattle.trace_model.specs.Verdicts.{by_config, verdict}
use Rattle.trace_player.specs.Ties.{ComesTo, PlayerIs}
use Rattle.trace_player.specs.declared.player.Player.{Player}
use Rattle.trace_player.specs.declared.stage.Met.TheVariants as met
use Rattle.trace_player.specs.declared.stage.Stage.TheVariants as stage

pub config_leads : (text : List ℕ) (config : Config) (p : Player) → configured text ≡ Ok config → PlayerIs (begun config) p
    → ComesTo Second (line.Config text) (met.Goes [] (stage.Events p))
unfolding verdict
config_leads text config p k t = record {
  verdict = sym (ap by_config k);
  leads = record { place = Events (begun config); lines = []; leads = (refl, (config, k, refl)); tells = refl; stage = t };
}
