use Rattle.rule_book.specs.Ruled.{is_request_body, is_response_body}
use Rattle.rule_book.proofs.Marking.{marks_over}
use Rattle.rule_book.proofs.rule_stage.RuleStageStage.over.Goals as goal

pub returns : goal.returns
returns c = λ conduct past s. let x = c.args.self.now in record {
  rules = s.rules;
  request = rw c.remove.ensures (marks_over x.book.request.body is_request_body c.args.stream x.request_given past s.request);
  response = rw c.remove-2.ensures (marks_over x.book.response.body is_response_body c.args.stream x.response_given past s.response);
}
