use Rattle.std.proofs.Common.{refl}
use Rattle.ext_config.specs.Configured.{at_key}
use Rattle.ext_config.proofs.Faults.{handed_on, fault_first, fault_later, none_later}
use Rattle.ext_config.proofs.sections.read_limits.Goals as goal

pub returns-in_err-answer_limit-clause-err : goal.returns-in_err-answer_limit-clause-err
returns-in_err-answer_limit-clause-err c =
    handed_on _ _ _ c.from_residual-in_err-answer_limit.ensures.1 (fault_later _ _ _ c.in_ok-buffer_limit.ensures.ok.0 (fault_first _ _ _ c.in_err-answer_limit.ensures.err))

pub returns-in_err-max_exchanges-clause-err : goal.returns-in_err-max_exchanges-clause-err
returns-in_err-max_exchanges-clause-err c =
    handed_on _ _ _ c.from_residual-in_err-max_exchanges.ensures.1 (fault_later _ _ _ c.in_ok-buffer_limit.ensures.ok.0 (fault_later _ _ _ c.in_ok-answer_limit.ensures.ok.0 (fault_first _ _ _ c.in_err-max_exchanges.ensures.err)))

pub returns-in_err-authority-clause-err : goal.returns-in_err-authority-clause-err
returns-in_err-authority-clause-err c =
    handed_on _ _ _ c.from_residual-in_err-authority.ensures.1 (fault_later _ _ _ c.in_ok-buffer_limit.ensures.ok.0 (fault_later _ _ _ c.in_ok-answer_limit.ensures.ok.0 (fault_later _ _ _ c.in_ok-max_exchanges.ensures.ok.0 (fault_first _ _ _ c.in_err-authority.ensures.err))))

pub returns-clause-ok : goal.returns-clause-ok
returns-clause-ok c = none_later _ _ c.in_ok-buffer_limit.ensures.ok.0 (none_later _ _ c.in_ok-answer_limit.ensures.ok.0 (none_later _ _ c.in_ok-max_exchanges.ensures.ok.0 (none_later _ _ c.in_ok-authority.ensures.ok.0 (refl))))

pub returns-clause-buffer_limit : goal.returns-clause-buffer_limit
unfolding at_key
returns-clause-buffer_limit c = c.in_ok-buffer_limit.ensures.ok.1
