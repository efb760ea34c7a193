use Rattle.std.proofs.Common.{refl}
use Rattle.ext_config.specs.Configured.{at_key}
use Rattle.ext_config.proofs.Faults.{handed_on, fault_first, fault_later, none_later}
use Rattle.ext_config.proofs.sections.read_general.Goals as goal

pub returns-in_err-failure_allow-clause-err : goal.returns-in_err-failure_allow-clause-err
returns-in_err-failure_allow-clause-err c =
    handed_on _ _ _ c.from_residual-in_err-failure_allow.ensures.1 (fault_later _ _ _ c.in_ok-_version.ensures.ok.0 (fault_first _ _ _ c.in_err-failure_allow.ensures.err))

pub returns-in_err-timeout_ms-clause-err : goal.returns-in_err-timeout_ms-clause-err
returns-in_err-timeout_ms-clause-err c =
    handed_on _ _ _ c.from_residual-in_err-timeout_ms.ensures.1 (fault_later _ _ _ c.in_ok-_version.ensures.ok.0 (fault_later _ _ _ c.in_ok-failure_allow.ensures.ok.0 (fault_first _ _ _ c.in_err-timeout_ms.ensures.err)))

pub returns-in_err-max_timeout_ms-clause-err : goal.returns-in_err-max_timeout_ms-clause-err
returns-in_err-max_timeout_ms-clause-err c =
    handed_on _ _ _ c.from_residual-in_err-max_timeout_ms.ensures.1 (fault_later _ _ _ c.in_ok-_version.ensures.ok.0 (fault_later _ _ _ c.in_ok-failure_allow.ensures.ok.0 (fault_later _ _ _ c.in_ok-timeout_ms.ensures.ok.0 (fault_first _ _ _ c.in_err-max_timeout_ms.ensures.err))))

pub returns-in_err-allow_override-clause-err : goal.returns-in_err-allow_override-clause-err
returns-in_err-allow_override-clause-err c =
    handed_on _ _ _ c.from_residual-in_err-allow_override.ensures.1 (fault_later _ _ _ c.in_ok-_version.ensures.ok.0 (fault_later _ _ _ c.in_ok-failure_allow.ensures.ok.0 (fault_later _ _ _ c.in_ok-timeout_ms.ensures.ok.0 (fault_later _ _ _ c.in_ok-max_timeout_ms.ensures.ok.0 (fault_first _ _ _ c.in_err-allow_override.ensures.err)))))

pub returns-in_err-no_immediate-clause-err : goal.returns-in_err-no_immediate-clause-err
returns-in_err-no_immediate-clause-err c =
    handed_on _ _ _ c.from_residual-in_err-no_immediate.ensures.1 (fault_later _ _ _ c.in_ok-_version.ensures.ok.0 (fault_later _ _ _ c.in_ok-failure_allow.ensures.ok.0 (fault_later _ _ _ c.in_ok-timeout_ms.ensures.ok.0 (fault_later _ _ _ c.in_ok-max_timeout_ms.ensures.ok.0 (fault_later _ _ _ c.in_ok-allow_override.ensures.ok.0 (fault_first _ _ _ c.in_err-no_immediate.ensures.err))))))

pub returns-clause-ok : goal.returns-clause-ok
returns-clause-ok c = none_later _ _ c.in_ok-_version.ensures.ok.0 (none_later _ _ c.in_ok-failure_allow.ensures.ok.0 (none_later _ _ c.in_ok-timeout_ms.ensures.ok.0 (none_later _ _ c.in_ok-max_timeout_ms.ensures.ok.0 (none_later _ _ c.in_ok-allow_override.ensures.ok.0 (none_later _ _ c.in_ok-no_immediate.ensures.ok.0 (refl))))))

pub returns-clause-failure_allow : goal.returns-clause-failure_allow
unfolding at_key
returns-clause-failure_allow c = c.in_ok-failure_allow.ensures.ok.1

pub returns-clause-timeout_ms : goal.returns-clause-timeout_ms
unfolding at_key
returns-clause-timeout_ms c = c.in_ok-timeout_ms.ensures.ok.1
