use Rattle.std.proofs.Common.{ap, ◌∙◌, not}
use Rattle.ext_msgs.specs.declared.answer.BodyChange.{BodyChange}
use Rattle.ext_msgs.specs.declared.answer.Common.{Common}
use Rattle.ext_msgs.specs.declared.answer.Member.TheVariants as members
use Rattle.rule_book.specs.Ruled.{body_common, body_ruled, is_request_body, is_response_body}
use Rattle.rule_book.proofs.Marking.{same_change}
use Rattle.rule_book.proofs.rule_stage.RuleStage.member.Goals as goal

pub returns-in_ok-common-in-RequestBody : goal.returns-in_ok-common-in-RequestBody
returns-in_ok-common-in-RequestBody c = λ conduct past s.
    let x = c.args.self.now in
    let b = c.in-RequestBody.body in
    let same = same_change x.book.request.body is_request_body c.args.stream x.request_given past x.book.request.fixed b s.request in
    rw c.in-RequestBody.is (ap (λ (m : Common). members.RequestBody m)
    (c.in_ok-common-in-RequestBody.ensures
    ∙ ap (λ z. body_common (body_ruled x.book.request (not z) b)) c.has-is_first.ensures
    ∙ ap (λ (z : BodyChange). body_common z) same))

pub returns-in_ok-common-in-ResponseBody : goal.returns-in_ok-common-in-ResponseBody
returns-in_ok-common-in-ResponseBody c = λ conduct past s.
    let x = c.args.self.now in
    let b = c.in-ResponseBody.body in
    let same = same_change x.book.response.body is_response_body c.args.stream x.response_given past x.book.response.fixed b s.response in
    rw c.in-ResponseBody.is (ap (λ (m : Common). members.ResponseBody m)
    (c.in_ok-common-in-ResponseBody.ensures
    ∙ ap (λ z. body_common (body_ruled x.book.response (not z) b)) c.has-is_first-in-ResponseBody.ensures
    ∙ ap (λ (z : BodyChange). body_common z) same))
