-- The filter's view of a configuration has its settings.
use Rattle.std.proofs.Common.{refl}
use Rattle.ext_config.specs.declared.config.Config.{Config}
use Rattle.exchange.specs.Settings.{FitsConfig}
use Rattle.trace_model.specs.Links.{filter_of}

pub fits : (x : Config) → FitsConfig (filter_of x) x
fits x = record {
  piece = refl;
  mark = refl;
  rules = refl;
  buffer_limit = refl;
  answer_limit = refl;
  failure_allow = refl;
  timeout_ms = refl;
  max_timeout_ms = refl;
  allow_override = refl;
  no_immediate = refl;
  request = refl;
  response = refl;
}
