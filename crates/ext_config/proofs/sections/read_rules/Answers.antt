use Rattle.std.proofs.Common.{refl}
use Rattle.ext_config.specs.Configured.{at_key, mutation_rules}
use Rattle.ext_config.proofs.Faults.{handed_on, fault_first, fault_later, none_later}
use Rattle.ext_config.proofs.sections.read_rules.Goals as goal

pub returns-in_err-allow_all_routing-clause-err : goal.returns-in_err-allow_all_routing-clause-err
returns-in_err-allow_all_routing-clause-err c =
    handed_on _ _ _ c.from_residual-in_err-allow_all_routing.ensures.1 (fault_later _ _ _ c.in_ok-object.ensures.ok (fault_first _ _ _ c.in_err-allow_all_routing.ensures.err))

pub returns-in_err-allow_envoy-clause-err : goal.returns-in_err-allow_envoy-clause-err
returns-in_err-allow_envoy-clause-err c =
    handed_on _ _ _ c.from_residual-in_err-allow_envoy.ensures.1 (fault_later _ _ _ c.in_ok-object.ensures.ok (fault_later _ _ _ c.in_ok-allow_all_routing.ensures.ok.0 (fault_first _ _ _ c.in_err-allow_envoy.ensures.err)))

pub returns-in_err-disallow_system-clause-err : goal.returns-in_err-disallow_system-clause-err
returns-in_err-disallow_system-clause-err c =
    handed_on _ _ _ c.from_residual-in_err-disallow_system.ensures.1 (fault_later _ _ _ c.in_ok-object.ensures.ok (fault_later _ _ _ c.in_ok-allow_all_routing.ensures.ok.0 (fault_later _ _ _ c.in_ok-allow_envoy.ensures.ok.0 (fault_first _ _ _ c.in_err-disallow_system.ensures.err))))

pub returns-in_err-disallow_all-clause-err : goal.returns-in_err-disallow_all-clause-err
returns-in_err-disallow_all-clause-err c =
    handed_on _ _ _ c.from_residual-in_err-disallow_all.ensures.1 (fault_later _ _ _ c.in_ok-object.ensures.ok (fault_later _ _ _ c.in_ok-allow_all_routing.ensures.ok.0 (fault_later _ _ _ c.in_ok-allow_envoy.ensures.ok.0 (fault_later _ _ _ c.in_ok-disallow_system.ensures.ok.0 (fault_first _ _ _ c.in_err-disallow_all.ensures.err)))))

pub returns-in_err-disallow_is_error-clause-err : goal.returns-in_err-disallow_is_error-clause-err
returns-in_err-disallow_is_error-clause-err c =
    handed_on _ _ _ c.from_residual-in_err-disallow_is_error.ensures.1 (fault_later _ _ _ c.in_ok-object.ensures.ok (fault_later _ _ _ c.in_ok-allow_all_routing.ensures.ok.0 (fault_later _ _ _ c.in_ok-allow_envoy.ensures.ok.0 (fault_later _ _ _ c.in_ok-disallow_system.ensures.ok.0 (fault_later _ _ _ c.in_ok-disallow_all.ensures.ok.0 (fault_first _ _ _ c.in_err-disallow_is_error.ensures.err))))))

pub returns-in_err-disallow_prefixes-clause-err : goal.returns-in_err-disallow_prefixes-clause-err
returns-in_err-disallow_prefixes-clause-err c =
    handed_on _ _ _ c.from_residual-in_err-disallow_prefixes.ensures.1 (fault_later _ _ _ c.in_ok-object.ensures.ok (fault_later _ _ _ c.in_ok-allow_all_routing.ensures.ok.0 (fault_later _ _ _ c.in_ok-allow_envoy.ensures.ok.0 (fault_later _ _ _ c.in_ok-disallow_system.ensures.ok.0 (fault_later _ _ _ c.in_ok-disallow_all.ensures.ok.0 (fault_later _ _ _ c.in_ok-disallow_is_error.ensures.ok.0 (fault_first _ _ _ c.in_err-disallow_prefixes.ensures.err)))))))

pub returns-in_err-allow_prefixes-clause-err : goal.returns-in_err-allow_prefixes-clause-err
returns-in_err-allow_prefixes-clause-err c =
    handed_on _ _ _ c.from_residual-in_err-allow_prefixes.ensures.1 (fault_later _ _ _ c.in_ok-object.ensures.ok (fault_later _ _ _ c.in_ok-allow_all_routing.ensures.ok.0 (fault_later _ _ _ c.in_ok-allow_envoy.ensures.ok.0 (fault_later _ _ _ c.in_ok-disallow_system.ensures.ok.0 (fault_later _ _ _ c.in_ok-disallow_all.ensures.ok.0 (fault_later _ _ _ c.in_ok-disallow_is_error.ensures.ok.0 (fault_later _ _ _ c.in_ok-disallow_prefixes.ensures.ok.0 (fault_first _ _ _ c.in_err-allow_prefixes.ensures.err))))))))

pub returns-clause-ok : goal.returns-clause-ok
returns-clause-ok c = none_later _ _ c.in_ok-object.ensures.ok (none_later _ _ c.in_ok-allow_all_routing.ensures.ok.0 (none_later _ _ c.in_ok-allow_envoy.ensures.ok.0 (none_later _ _ c.in_ok-disallow_system.ensures.ok.0 (none_later _ _ c.in_ok-disallow_all.ensures.ok.0 (none_later _ _ c.in_ok-disallow_is_error.ensures.ok.0 (none_later _ _ c.in_ok-disallow_prefixes.ensures.ok.0 (none_later _ _ c.in_ok-allow_prefixes.ensures.ok.0 (refl))))))))

pub returns-clause-rules : goal.returns-clause-rules
unfolding mutation_rules at_key
returns-clause-rules c =
    rw (c.in_ok-allow_all_routing.ensures.ok.1, c.in_ok-allow_envoy.ensures.ok.1, c.in_ok-disallow_system.ensures.ok.1, c.in_ok-disallow_all.ensures.ok.1, c.in_ok-disallow_is_error.ensures.ok.1, c.in_ok-disallow_prefixes.ensures.ok.1, c.in_ok-allow_prefixes.ensures.ok.1) refl
