use Rattle.std.proofs.Common.{◌∙◌, ap}
use Rattle.std.specs.Prelude.{length, filter_map, Some}
use Rattle.http_model.specs.declared.types.Direction.TheVariants.{Request, Response}
use Rattle.filter_model.specs.Cut.{part_answer}
use Rattle.filter_model.specs.Right.{account, ask_given, end_given}
use Rattle.filter_model.specs.View.{Answered}
use Rattle.h1_outlet.proofs.Giving.{on_err}
use Rattle.exchange.specs.Answering.{unsettled}
use Rattle.exchange.proofs.AnsweringHeard.{extends_to, immediately_to, says_part, to_trailers, unset_fails, untimed}
use Rattle.exchange.proofs.TimingSteps.{stands_next}
use Rattle.exchange.proofs.exchange.Exchange.heard.Goals as goal

pub returns-in-Some-clause-stands : goal.returns-in-Some-clause-stands
returns-in-Some-clause-stands g c h s k =
    let x = g.args.answer in
    let b = unsettled c (Answered (Some x)) (account c h) in
    stands_next c (Answered (Some x)) h g.args.self.now g.extend.new.self s tt g.extend.ensures.settings k.live
    (g.extend.ensures.ties c (account c h) b (length (filter_map ask_given h)) (filter_map end_given h) s.made s.ties (extends_to c h x g.in-Some.span s.right k g.in-Some.is))

pub returns-in-Unset-clause-stands : goal.returns-in-Unset-clause-stands
returns-in-Unset-clause-stands g c h s k =
    let x = g.args.answer in
    let b = unsettled c (Answered (Some x)) (account c h) in
    stands_next c (Answered (Some x)) h g.args.self.now g.fail.new.self s tt g.fail.ensures.settings k.live
    (g.fail.ensures.ties c (account c h) b (length (filter_map ask_given h)) (filter_map end_given h) s.made s.ties
    (unset_fails c h x s.right k (untimed x.timeout g.in_default.not-Some) g.in-Unset.is))

pub returns-in_ok-immediate-in-Immediate-clause-stands :
    goal.returns-in_ok-immediate-in-Immediate-clause-stands
returns-in_ok-immediate-in-Immediate-clause-stands g c h s k =
    let x = g.args.answer in
    let b = unsettled c (Answered (Some x)) (account c h) in
    stands_next c (Answered (Some x)) h g.args.self.now g.immediate.new.self s tt g.immediate.ensures.settings k.live
    (g.in_ok-immediate-in-Immediate.ensures.ties c (account c h) b (length (filter_map ask_given h)) (filter_map end_given h) s.made s.ties
    (immediately_to c h x g.in-Immediate.reply s.right k (untimed x.timeout g.in_default.not-Some) g.in-Immediate.is))

pub returns-in_err-to_request-in-RequestHeaders-clause-failed :
    goal.returns-in_err-to_request-in-RequestHeaders-clause-failed
returns-in_err-to_request-in-RequestHeaders-clause-failed g c h s k =
    let x = g.args.answer in
    let p = says_part c h x Request (record { part = 0; common = g.in-RequestHeaders.common }) k (untimed x.timeout g.in_default.not-Some) (ap part_answer g.in-RequestHeaders.is) in
    on_err g.from_residual-in_err-to_request-in-RequestHeaders.result (g.in_err-to_request-in-RequestHeaders.ensures.failed c h x s p)

pub returns-in_ok-to_request-in-RequestHeaders-clause-stands :
    goal.returns-in_ok-to_request-in-RequestHeaders-clause-stands
returns-in_ok-to_request-in-RequestHeaders-clause-stands g c h s k =
    let x = g.args.answer in
    let p = says_part c h x Request (record { part = 0; common = g.in-RequestHeaders.common }) k (untimed x.timeout g.in_default.not-Some) (ap part_answer g.in-RequestHeaders.is) in
    g.in_ok-to_request-in-RequestHeaders.ensures.stands c h x s p

pub returns-in_err-to_request-in-RequestBody-clause-failed :
    goal.returns-in_err-to_request-in-RequestBody-clause-failed
returns-in_err-to_request-in-RequestBody-clause-failed g c h s k =
    let x = g.args.answer in
    let p = says_part c h x Request (record { part = 1; common = g.in-RequestBody.common }) k (untimed x.timeout g.in_default.not-Some) (ap part_answer g.in-RequestBody.is) in
    on_err g.from_residual-in_err-to_request-in-RequestBody.result (g.in_err-to_request-in-RequestBody.ensures.failed c h x s p)

pub returns-in_ok-to_request-in-RequestBody-clause-stands :
    goal.returns-in_ok-to_request-in-RequestBody-clause-stands
returns-in_ok-to_request-in-RequestBody-clause-stands g c h s k =
    let x = g.args.answer in
    let p = says_part c h x Request (record { part = 1; common = g.in-RequestBody.common }) k (untimed x.timeout g.in_default.not-Some) (ap part_answer g.in-RequestBody.is) in
    g.in_ok-to_request-in-RequestBody.ensures.stands c h x s p

pub returns-in_err-to_request-in-RequestTrailers-clause-failed :
    goal.returns-in_err-to_request-in-RequestTrailers-clause-failed
returns-in_err-to_request-in-RequestTrailers-clause-failed g c h s k =
    let x = g.args.answer in
    let p = says_part c h x Request g.of_trailers.result k (untimed x.timeout g.in_default.not-Some) (ap part_answer g.in-RequestTrailers.is ∙ to_trailers Request g.of_trailers.result g.in-RequestTrailers.headers g.of_trailers.ensures.part g.of_trailers.ensures.common) in
    on_err g.from_residual-in_err-to_request-in-RequestTrailers.result (g.in_err-to_request-in-RequestTrailers.ensures.failed c h x s p)

pub returns-in_ok-to_request-in-RequestTrailers-clause-stands :
    goal.returns-in_ok-to_request-in-RequestTrailers-clause-stands
returns-in_ok-to_request-in-RequestTrailers-clause-stands g c h s k =
    let x = g.args.answer in
    let p = says_part c h x Request g.of_trailers.result k (untimed x.timeout g.in_default.not-Some) (ap part_answer g.in-RequestTrailers.is ∙ to_trailers Request g.of_trailers.result g.in-RequestTrailers.headers g.of_trailers.ensures.part g.of_trailers.ensures.common) in
    g.in_ok-to_request-in-RequestTrailers.ensures.stands c h x s p

pub returns-in_err-to_response-in-ResponseHeaders-clause-failed :
    goal.returns-in_err-to_response-in-ResponseHeaders-clause-failed
returns-in_err-to_response-in-ResponseHeaders-clause-failed g c h s k =
    let x = g.args.answer in
    let p = says_part c h x Response (record { part = 0; common = g.in-ResponseHeaders.common }) k (untimed x.timeout g.in_default.not-Some) (ap part_answer g.in-ResponseHeaders.is) in
    on_err g.from_residual-in_err-to_response-in-ResponseHeaders.result (g.in_err-to_response-in-ResponseHeaders.ensures.failed c h x s p)

pub returns-in_ok-to_response-in-ResponseHeaders-clause-stands :
    goal.returns-in_ok-to_response-in-ResponseHeaders-clause-stands
returns-in_ok-to_response-in-ResponseHeaders-clause-stands g c h s k =
    let x = g.args.answer in
    let p = says_part c h x Response (record { part = 0; common = g.in-ResponseHeaders.common }) k (untimed x.timeout g.in_default.not-Some) (ap part_answer g.in-ResponseHeaders.is) in
    g.in_ok-to_response-in-ResponseHeaders.ensures.stands c h x s p

pub returns-in_err-to_response-in-ResponseBody-clause-failed :
    goal.returns-in_err-to_response-in-ResponseBody-clause-failed
returns-in_err-to_response-in-ResponseBody-clause-failed g c h s k =
    let x = g.args.answer in
    let p = says_part c h x Response (record { part = 1; common = g.in-ResponseBody.common }) k (untimed x.timeout g.in_default.not-Some) (ap part_answer g.in-ResponseBody.is) in
    on_err g.from_residual-in_err-to_response-in-ResponseBody.result (g.in_err-to_response-in-ResponseBody.ensures.failed c h x s p)

pub returns-in_ok-to_response-in-ResponseBody-clause-stands :
    goal.returns-in_ok-to_response-in-ResponseBody-clause-stands
returns-in_ok-to_response-in-ResponseBody-clause-stands g c h s k =
    let x = g.args.answer in
    let p = says_part c h x Response (record { part = 1; common = g.in-ResponseBody.common }) k (untimed x.timeout g.in_default.not-Some) (ap part_answer g.in-ResponseBody.is) in
    g.in_ok-to_response-in-ResponseBody.ensures.stands c h x s p

pub returns-in_err-to_response-in-ResponseTrailers-clause-failed :
    goal.returns-in_err-to_response-in-ResponseTrailers-clause-failed
returns-in_err-to_response-in-ResponseTrailers-clause-failed g c h s k =
    let x = g.args.answer in
    let p = says_part c h x Response g.of_trailers-in-ResponseTrailers.result k (untimed x.timeout g.in_default.not-Some) (ap part_answer g.in-ResponseTrailers.is ∙ to_trailers Response g.of_trailers-in-ResponseTrailers.result g.in-ResponseTrailers.headers g.of_trailers-in-ResponseTrailers.ensures.part g.of_trailers-in-ResponseTrailers.ensures.common) in
    on_err g.from_residual-in_err-to_response-in-ResponseTrailers.result (g.in_err-to_response-in-ResponseTrailers.ensures.failed c h x s p)

pub returns-in_ok-to_response-in-ResponseTrailers-clause-stands :
    goal.returns-in_ok-to_response-in-ResponseTrailers-clause-stands
returns-in_ok-to_response-in-ResponseTrailers-clause-stands g c h s k =
    let x = g.args.answer in
    let p = says_part c h x Response g.of_trailers-in-ResponseTrailers.result k (untimed x.timeout g.in_default.not-Some) (ap part_answer g.in-ResponseTrailers.is ∙ to_trailers Response g.of_trailers-in-ResponseTrailers.result g.in-ResponseTrailers.headers g.of_trailers-in-ResponseTrailers.ensures.part g.of_trailers-in-ResponseTrailers.ensures.common) in
    g.in_ok-to_response-in-ResponseTrailers.ensures.stands c h x s p
