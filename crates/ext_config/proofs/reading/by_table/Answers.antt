use Rattle.std.proofs.Common.{refl}
use Rattle.ext_config.specs.Configured.{config_of}
use Rattle.ext_config.proofs.reading.by_table.Goals as goal

pub returns-clause-value : goal.returns-clause-value
unfolding config_of
returns-clause-value c =
    let general = c.in_ok-general.ensures in
    let request = c.in_ok-request.ensures in
    let limits = c.in_ok-limits.ensures in
    rw (
      general.failure_allow,
      general.timeout_ms,
      general.max_timeout_ms,
      general.allow_override,
      general.no_immediate,
      request.request,
      request.response,
      c.in_ok-rules.ensures.rules,
      limits.buffer_limit,
      limits.answer_limit,
      limits.max_exchanges,
      limits.authority,
    ) refl
