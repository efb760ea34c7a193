use Rattle.std.proofs.Common.{refl}
use Rattle.ext_config.specs.Configured.{at_key, request_modes, response_modes}
use Rattle.ext_config.proofs.Faults.{handed_on, fault_first, fault_later, none_later}
use Rattle.ext_config.proofs.sections.read_modes.Goals as goal

pub returns-in_err-request_headers-clause-err : goal.returns-in_err-request_headers-clause-err
returns-in_err-request_headers-clause-err c =
    handed_on _ _ _ c.from_residual-in_err-request_headers.ensures.1 (fault_later _ _ _ c.in_ok-object.ensures.ok (fault_first _ _ _ c.in_err-request_headers.ensures.err))

pub returns-in_err-response_headers-clause-err : goal.returns-in_err-response_headers-clause-err
returns-in_err-response_headers-clause-err c =
    handed_on _ _ _ c.from_residual-in_err-response_headers.ensures.1 (fault_later _ _ _ c.in_ok-object.ensures.ok (fault_later _ _ _ c.in_ok-request_headers.ensures.ok.0 (fault_first _ _ _ c.in_err-response_headers.ensures.err)))

pub returns-in_err-request_body-clause-err : goal.returns-in_err-request_body-clause-err
returns-in_err-request_body-clause-err c =
    handed_on _ _ _ c.from_residual-in_err-request_body.ensures.1 (fault_later _ _ _ c.in_ok-object.ensures.ok (fault_later _ _ _ c.in_ok-request_headers.ensures.ok.0 (fault_later _ _ _ c.in_ok-response_headers.ensures.ok.0 (fault_first _ _ _ c.in_err-request_body.ensures.err))))

pub returns-in_err-response_body-clause-err : goal.returns-in_err-response_body-clause-err
returns-in_err-response_body-clause-err c =
    handed_on _ _ _ c.from_residual-in_err-response_body.ensures.1 (fault_later _ _ _ c.in_ok-object.ensures.ok (fault_later _ _ _ c.in_ok-request_headers.ensures.ok.0 (fault_later _ _ _ c.in_ok-response_headers.ensures.ok.0 (fault_later _ _ _ c.in_ok-request_body.ensures.ok.0 (fault_first _ _ _ c.in_err-response_body.ensures.err)))))

pub returns-in_err-request_trailers-clause-err : goal.returns-in_err-request_trailers-clause-err
returns-in_err-request_trailers-clause-err c =
    handed_on _ _ _ c.from_residual-in_err-request_trailers.ensures.1 (fault_later _ _ _ c.in_ok-object.ensures.ok (fault_later _ _ _ c.in_ok-request_headers.ensures.ok.0 (fault_later _ _ _ c.in_ok-response_headers.ensures.ok.0 (fault_later _ _ _ c.in_ok-request_body.ensures.ok.0 (fault_later _ _ _ c.in_ok-response_body.ensures.ok.0 (fault_first _ _ _ c.in_err-request_trailers.ensures.err))))))

pub returns-in_err-response_trailers-clause-err : goal.returns-in_err-response_trailers-clause-err
returns-in_err-response_trailers-clause-err c =
    handed_on _ _ _ c.from_residual-in_err-response_trailers.ensures.1 (fault_later _ _ _ c.in_ok-object.ensures.ok (fault_later _ _ _ c.in_ok-request_headers.ensures.ok.0 (fault_later _ _ _ c.in_ok-response_headers.ensures.ok.0 (fault_later _ _ _ c.in_ok-request_body.ensures.ok.0 (fault_later _ _ _ c.in_ok-response_body.ensures.ok.0 (fault_later _ _ _ c.in_ok-request_trailers.ensures.ok.0 (fault_first _ _ _ c.in_err-response_trailers.ensures.err)))))))

pub returns-clause-ok : goal.returns-clause-ok
returns-clause-ok c = none_later _ _ c.in_ok-object.ensures.ok (none_later _ _ c.in_ok-request_headers.ensures.ok.0 (none_later _ _ c.in_ok-response_headers.ensures.ok.0 (none_later _ _ c.in_ok-request_body.ensures.ok.0 (none_later _ _ c.in_ok-response_body.ensures.ok.0 (none_later _ _ c.in_ok-request_trailers.ensures.ok.0 (none_later _ _ c.in_ok-response_trailers.ensures.ok.0 (refl)))))))

pub returns-clause-request : goal.returns-clause-request
unfolding request_modes at_key
returns-clause-request c =
    rw (c.in_ok-request_headers.ensures.ok.1, c.in_ok-request_body.ensures.ok.1, c.in_ok-request_trailers.ensures.ok.1) refl

pub returns-clause-response : goal.returns-clause-response
unfolding response_modes at_key
returns-clause-response c =
    rw (c.in_ok-response_headers.ensures.ok.1, c.in_ok-response_body.ensures.ok.1, c.in_ok-response_trailers.ensures.ok.1) refl
