use Rattle.std.proofs.Common.{sym, ◌∙◌, ap}
use Rattle.std.specs.Prelude.{length, filter_map, Some, slice_get}
use Rattle.http_model.specs.declared.types.Direction.TheVariants.{Request, Response}
use Rattle.filter_model.specs.Right.{account, ask_given, end_given}
use Rattle.exchange.proofs.AskingNext.{at_none, handed_next, none_at, none_ready, request_handed, response_handed, some_at, way_at}
use Rattle.exchange.proofs.exchange.Exchange.hand_out.Goals as goal

pub returns-in-None-clause-ready : goal.returns-in-None-clause-ready
returns-in-None-clause-ready g c h s =
    let x = g.args.self.now in
    let n = length (filter_map ask_given h) in
    none_ready x.ready g.is_some.result g.is_some.ensures g.if-is_some.false
    ∙ sym (none_at (slice_get (account c h).made n) (sym (way_at c (account c h) n (filter_map end_given h) x s.ties) ∙ sym g.at.ensures ∙ g.in-None.is))

pub returns-in_ok-ask-in-Some-Request-clause-ready : goal.returns-in_ok-ask-in-Some-Request-clause-ready
returns-in_ok-ask-in-Some-Request-clause-ready g c h s =
    let x = g.args.self.now in
    let n = length (filter_map ask_given h) in
    let a = account c h in
    let r = none_ready x.ready g.is_some.result g.is_some.ensures g.if-is_some.false in
    let own = at_none c Request a n x.ready x.waiting x.request r s.ties.request in
    let (ask, e, k) = some_at Request (slice_get a.made n) (sym (way_at c a n (filter_map end_given h) x s.ties) ∙ sym g.at.ensures ∙ g.in-Some-Request.is ∙ ap Some g.in-Some-Request.field-0-is) in
    let i = g.in_ok-ask-in-Some-Request.ensures.exact own.story.past own.stands.half ∙ handed_next c Request a n x.waiting x.request ask own e k in
    i ∙ sym e

pub returns-in_ok-ask-in-Some-Request-clause-stands : goal.returns-in_ok-ask-in-Some-Request-clause-stands
returns-in_ok-ask-in-Some-Request-clause-stands g c h s =
    let x = g.args.self.now in
    let n = length (filter_map ask_given h) in
    let a = account c h in
    let r = none_ready x.ready g.is_some.result g.is_some.ensures g.if-is_some.false in
    let own = at_none c Request a n x.ready x.waiting x.request r s.ties.request in
    let (ask, e, k) = some_at Request (slice_get a.made n) (sym (way_at c a n (filter_map end_given h) x s.ties) ∙ sym g.at.ensures ∙ g.in-Some-Request.is ∙ ap Some g.in-Some-Request.field-0-is) in
    let i = g.in_ok-ask-in-Some-Request.ensures.exact own.story.past own.stands.half ∙ handed_next c Request a n x.waiting x.request ask own e k in
    record {
      right = s.right;
      made = record { sizes = s.made.sizes; settings = s.made.settings };
      ties = request_handed c a n (filter_map end_given h) x g.next_ask.new.self g.in_ok-ask-in-Some-Request.ask ask s.ties own (at_none c Response a n x.ready x.waiting x.response r s.ties.response) e k i
          (g.in_ok-ask-in-Some-Request.ensures.stands own.story.past own.stands.half);
    }

pub returns-in_ok-ask-in-Some-Response-clause-ready : goal.returns-in_ok-ask-in-Some-Response-clause-ready
returns-in_ok-ask-in-Some-Response-clause-ready g c h s =
    let x = g.args.self.now in
    let n = length (filter_map ask_given h) in
    let a = account c h in
    let r = none_ready x.ready g.is_some.result g.is_some.ensures g.if-is_some.false in
    let own = at_none c Response a n x.ready x.waiting x.response r s.ties.response in
    let (ask, e, k) = some_at Response (slice_get a.made n) (sym (way_at c a n (filter_map end_given h) x s.ties) ∙ sym g.at.ensures ∙ g.in-Some-Response.is ∙ ap Some g.in-Some-Response.field-0-is) in
    let i = g.in_ok-ask-in-Some-Response.ensures.exact own.story.past own.stands.half ∙ handed_next c Response a n x.waiting x.response ask own e k in
    i ∙ sym e

pub returns-in_ok-ask-in-Some-Response-clause-stands : goal.returns-in_ok-ask-in-Some-Response-clause-stands
returns-in_ok-ask-in-Some-Response-clause-stands g c h s =
    let x = g.args.self.now in
    let n = length (filter_map ask_given h) in
    let a = account c h in
    let r = none_ready x.ready g.is_some.result g.is_some.ensures g.if-is_some.false in
    let own = at_none c Response a n x.ready x.waiting x.response r s.ties.response in
    let (ask, e, k) = some_at Response (slice_get a.made n) (sym (way_at c a n (filter_map end_given h) x s.ties) ∙ sym g.at.ensures ∙ g.in-Some-Response.is ∙ ap Some g.in-Some-Response.field-0-is) in
    let i = g.in_ok-ask-in-Some-Response.ensures.exact own.story.past own.stands.half ∙ handed_next c Response a n x.waiting x.response ask own e k in
    record {
      right = s.right;
      made = record { sizes = s.made.sizes; settings = s.made.settings };
      ties = response_handed c a n (filter_map end_given h) x g.next_ask-in-Some-Response.new.self g.in_ok-ask-in-Some-Response.ask ask s.ties (at_none c Request a n x.ready x.waiting x.request r s.ties.request) own e k i
          (g.in_ok-ask-in-Some-Response.ensures.stands own.story.past own.stands.half);
    }
