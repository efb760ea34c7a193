-- A frame that is a connection error ends the session, by a row before or behind its decoding; any other is accepted.
use Rattle.std.proofs.Common.{sym, ◌∙◌, ap, subst, Some}
use Rattle.h2_model.specs.History.{violated}
use Rattle.h2_laws_kept.specs.Arriving.{Breaks, IfCode}
use Rattle.h2_laws_kept.specs.StandsFor.{Holds}
use Rattle.h2_session.proofs.Accepted.{accepted, undecoded-breaks}
use Rattle.h2_session.proofs.Arrived.{breaks, early-breaks}
use Rattle.h2_session.proofs.Endings.{if-code}
use Rattle.h2_session.proofs.Reading.{handed-on}
use Rattle.h2_session.proofs.session.Session.arrive.Goals as goal

pub returns-in-Some-clause-breaks : goal.returns-in-Some-clause-breaks
returns-in-Some-clause-breaks c a h n q = if-code (λ told p. breaks c.fail.new.self a c.args.frame told
    (early-breaks a c.args.frame told (sym (c.violation_of.ensures a h n) ∙ c.in-Some.is ∙ ap Some (sym p.0)))
    (subst (λ code. Holds c.fail.new.self (violated code a)) (sym p.0) p.1)) c.fail.result (c.fail.ensures.fails a h n)

pub returns-in_err-whole-clause-breaks : goal.returns-in_err-whole-clause-breaks
returns-in_err-whole-clause-breaks c a h n q =
    let l = c.whole_block.new.self in
    let f = c.args.frame in
    let fault = c.in_err-whole.field-0.0 in
    handed-on (IfCode (Breaks l f a)) c.from_residual.result fault c.from_residual.ensures.1
    (if-code (undecoded-breaks c.args.self.now l a f h n (sym (c.violation_of.ensures a h n) ∙ c.in_default.is)) fault
    (c.in_err-whole.ensures.refused (h.decodes n)))

pub returns-clause-brings : goal.returns-clause-brings
returns-clause-brings c a h n q =
    let w = c.in_ok-whole.ensures in
    c.in_ok-accept.ensures.brings a
    (accepted c.args.self.now c.whole_block.new.self a c.args.frame c.in_ok-whole.whole h n q
    (sym (c.violation_of.ensures a h n) ∙ c.in_default.is) w.kept (w.decoded (h.decodes n)) (w.fault (h.decodes n)))
