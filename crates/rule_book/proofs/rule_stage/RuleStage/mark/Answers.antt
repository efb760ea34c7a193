use Rattle.std.proofs.Common.{refl}
use Rattle.rule_book.specs.Ruled.{is_request_body, is_response_body}
use Rattle.rule_book.proofs.Marking.{marks_asked, marks_other, unmarked}
use Rattle.rule_book.proofs.rule_stage.RuleStage.mark.Goals as goal

pub returns-in_ok-mark-in-RequestBody-clause-stands : goal.returns-in_ok-mark-in-RequestBody-clause-stands
returns-in_ok-mark-in-RequestBody-clause-stands c = λ conduct past s.
    let x = c.args.self.now in record {
      rules = s.rules;
      request = rw c.in_ok-mark-in-RequestBody.ensures.marked (marks_asked x.book.request.body is_request_body c.args.stream c.args.ask.now x.request_given past (rw c.in-RequestBody.is refl) s.request);
      response = marks_other x.book.response.body is_response_body c.args.stream c.args.ask.now x.response_given past (rw c.in-RequestBody.is refl) s.response;
    }

pub returns-in_ok-mark-in-ResponseBody-clause-stands : goal.returns-in_ok-mark-in-ResponseBody-clause-stands
returns-in_ok-mark-in-ResponseBody-clause-stands c = λ conduct past s.
    let x = c.args.self.now in record {
      rules = s.rules;
      request = marks_other x.book.request.body is_request_body c.args.stream c.args.ask.now x.request_given past (rw c.in-ResponseBody.is refl) s.request;
      response = rw c.in_ok-mark-in-ResponseBody.ensures.marked (marks_asked x.book.response.body is_response_body c.args.stream c.args.ask.now x.response_given past (rw c.in-ResponseBody.is refl) s.response);
    }

pub returns-in-RequestHeaders-clause-stands : goal.returns-in-RequestHeaders-clause-stands
returns-in-RequestHeaders-clause-stands c = λ conduct past s. unmarked c.args.self.now conduct past c.args.stream c.args.ask.now (rw c.in-RequestHeaders.is refl) (rw c.in-RequestHeaders.is refl) s

pub returns-in-ResponseHeaders-clause-stands : goal.returns-in-ResponseHeaders-clause-stands
returns-in-ResponseHeaders-clause-stands c = λ conduct past s. unmarked c.args.self.now conduct past c.args.stream c.args.ask.now (rw c.in-ResponseHeaders.is refl) (rw c.in-ResponseHeaders.is refl) s

pub returns-in-RequestTrailers-clause-stands : goal.returns-in-RequestTrailers-clause-stands
returns-in-RequestTrailers-clause-stands c = λ conduct past s. unmarked c.args.self.now conduct past c.args.stream c.args.ask.now (rw c.in-RequestTrailers.is refl) (rw c.in-RequestTrailers.is refl) s

pub returns-in-ResponseTrailers-clause-stands : goal.returns-in-ResponseTrailers-clause-stands
returns-in-ResponseTrailers-clause-stands c = λ conduct past s. unmarked c.args.self.now conduct past c.args.stream c.args.ask.now (rw c.in-ResponseTrailers.is refl) (rw c.in-ResponseTrailers.is refl) s
