use Rattle.std.proofs.Common.{sym, subst}
use Rattle.std.specs.Prelude.{◌∷◌, IfOk}
use Rattle.filter_model.specs.Right.{Took, MayTake, account}
use Rattle.filter_model.specs.declared.calls.Side.TheVariants as side
use Rattle.exchange.specs.Stands.{IsAfter}
use Rattle.exchange.proofs.GivingFates.{aborted_client, aborted_upstream, left_may, lives, may_over, replied, replied_may, took_over}
use Rattle.exchange.proofs.exchange.Exchange.take.Goals as goal

-- The exchange lives

pub returns-in-Client-clause-may : goal.returns-in-Client-clause-may
returns-in-Client-clause-may g c h s =
    subst (λ d. IfOk g.take_response.result (λ t. MayTake c (account c h) d t)) (sym g.in-Client.is)
    (g.take_response.ensures.may c h s (lives c (account c h) (account c h).fate g.args.self.now.fate s.ties.fate g.in-Live.is))

pub returns-in-Client-clause-stands : goal.returns-in-Client-clause-stands
returns-in-Client-clause-stands g c h s =
    subst (λ d. IfOk g.take_response.result (λ t. IsAfter c (Took d t ∷ h) g.take_response.new.self)) (sym g.in-Client.is)
    (g.take_response.ensures.stands c h s (lives c (account c h) (account c h).fate g.args.self.now.fate s.ties.fate g.in-Live.is))

pub returns-in-Client-clause-failed : goal.returns-in-Client-clause-failed
returns-in-Client-clause-failed g c h s = g.take_response.ensures.failed c h s (lives c (account c h) (account c h).fate g.args.self.now.fate s.ties.fate g.in-Live.is)

pub returns-in-Upstream-clause-may : goal.returns-in-Upstream-clause-may
returns-in-Upstream-clause-may g c h s =
    subst (λ d. IfOk g.take_request.result (λ t. MayTake c (account c h) d t)) (sym g.in-Upstream.is)
    (g.take_request.ensures.may c h s (lives c (account c h) (account c h).fate g.args.self.now.fate s.ties.fate g.in-Live.is))

pub returns-in-Upstream-clause-stands : goal.returns-in-Upstream-clause-stands
returns-in-Upstream-clause-stands g c h s =
    subst (λ d. IfOk g.take_request.result (λ t. IsAfter c (Took d t ∷ h) g.take_request.new.self)) (sym g.in-Upstream.is)
    (g.take_request.ensures.stands c h s (lives c (account c h) (account c h).fate g.args.self.now.fate s.ties.fate g.in-Live.is))

pub returns-in-Upstream-clause-failed : goal.returns-in-Upstream-clause-failed
returns-in-Upstream-clause-failed g c h s = g.take_request.ensures.failed c h s (lives c (account c h) (account c h).fate g.args.self.now.fate s.ties.fate g.in-Live.is)

-- It has ended

pub returns-in-Left-clause-stands : goal.returns-in-Left-clause-stands
returns-in-Left-clause-stands g c h s = record { right = (s.right, left_may c (account c h) g.args.side g.args.self.now.fate s.ties.fate g.in-Left.is); made = s.made; ties = s.ties }

pub returns-in-Client-side-clause-may : goal.returns-in-Client-side-clause-may
returns-in-Client-side-clause-may g c h s =
    subst (λ d. IfOk g.take_reply.result (λ t. MayTake c (account c h) d t)) (sym g.in-Client-side.is)
    (g.take_reply.ensures.may c h s (replied c (account c h) (account c h).fate g.args.self.now.fate g.in-Replied.given s.ties.fate g.in-Replied.is).0)

pub returns-in-Client-side-clause-stands : goal.returns-in-Client-side-clause-stands
returns-in-Client-side-clause-stands g c h s =
    subst (λ d. IfOk g.take_reply.result (λ t. IsAfter c (Took d t ∷ h) g.take_reply.new.self)) (sym g.in-Client-side.is)
    (g.take_reply.ensures.stands c h s (replied c (account c h) (account c h).fate g.args.self.now.fate g.in-Replied.given s.ties.fate g.in-Replied.is).0)

pub returns-in-Client-side-clause-failed : goal.returns-in-Client-side-clause-failed
returns-in-Client-side-clause-failed g c h s = g.take_reply.ensures.failed c h s (replied c (account c h) (account c h).fate g.args.self.now.fate g.in-Replied.given s.ties.fate g.in-Replied.is).0

pub returns-in-Upstream-side-clause-may : goal.returns-in-Upstream-side-clause-may
returns-in-Upstream-side-clause-may g c h s =
    may_over c (account c h) g.args.side side.Upstream g.in-Replied.given.request g.done_or_abort.result g.in-Upstream-side.is g.done_or_abort.ensures
    (replied_may c (account c h) g.args.self.now.fate g.in-Replied.given s.ties.fate g.in-Replied.is)

pub returns-in-Upstream-side-clause-stands : goal.returns-in-Upstream-side-clause-stands
returns-in-Upstream-side-clause-stands g c h s =
    took_over c h g.args.side side.Upstream g.in-Replied.given.request g.done_or_abort.result g.args.self.now g.in-Upstream-side.is g.done_or_abort.ensures s
    (replied_may c (account c h) g.args.self.now.fate g.in-Replied.given s.ties.fate g.in-Replied.is)

pub returns-in-Client-side-2-clause-may : goal.returns-in-Client-side-2-clause-may
returns-in-Client-side-2-clause-may g c h s =
    may_over c (account c h) g.args.side side.Client g.in-Aborted.given.response g.done_or_abort-in-Client-side-2.result g.in-Client-side-2.is g.done_or_abort-in-Client-side-2.ensures
    (aborted_client c (account c h) g.args.self.now.fate g.in-Aborted.given s.ties.fate g.in-Aborted.is)

pub returns-in-Client-side-2-clause-stands : goal.returns-in-Client-side-2-clause-stands
returns-in-Client-side-2-clause-stands g c h s =
    took_over c h g.args.side side.Client g.in-Aborted.given.response g.done_or_abort-in-Client-side-2.result g.args.self.now g.in-Client-side-2.is g.done_or_abort-in-Client-side-2.ensures s
    (aborted_client c (account c h) g.args.self.now.fate g.in-Aborted.given s.ties.fate g.in-Aborted.is)

pub returns-in-Upstream-side-2-clause-may : goal.returns-in-Upstream-side-2-clause-may
returns-in-Upstream-side-2-clause-may g c h s =
    may_over c (account c h) g.args.side side.Upstream g.in-Aborted.given.request g.done_or_abort-in-Upstream-side-2.result g.in-Upstream-side-2.is g.done_or_abort-in-Upstream-side-2.ensures
    (aborted_upstream c (account c h) g.args.self.now.fate g.in-Aborted.given s.ties.fate g.in-Aborted.is)

pub returns-in-Upstream-side-2-clause-stands : goal.returns-in-Upstream-side-2-clause-stands
returns-in-Upstream-side-2-clause-stands g c h s =
    took_over c h g.args.side side.Upstream g.in-Aborted.given.request g.done_or_abort-in-Upstream-side-2.result g.args.self.now g.in-Upstream-side-2.is g.done_or_abort-in-Upstream-side-2.ensures s
    (aborted_upstream c (account c h) g.args.self.now.fate g.in-Aborted.given s.ties.fate g.in-Aborted.is)
