-- What rules answer.
use Rattle.std.specs.Prelude.{ℕ, Bool, true, false, not, ◌&&◌, ◌||◌, List, [], ◌∷◌, Option, Some, None, if◌then◌else◌, ◌==◌, map, bytes_eq}
use Rattle.std.specs.List.{list_any}
use Rattle.std.specs.Char.{to_ascii_uppercase}
use Rattle.ext_msgs.specs.declared.ask.Ask.{Ask}
use Rattle.ext_msgs.specs.declared.ask.Ask.TheVariants as asks
use Rattle.ext_msgs.specs.declared.answer.Answer.{Answer}
use Rattle.ext_msgs.specs.declared.answer.Common.{Common}
use Rattle.ext_msgs.specs.declared.answer.BodyChange.{BodyChange}
use Rattle.ext_msgs.specs.declared.answer.BodyChange.TheVariants as change
use Rattle.ext_msgs.specs.declared.answer.HeaderMutation.{HeaderMutation}
use Rattle.ext_msgs.specs.declared.answer.Member.{Member}
use Rattle.ext_msgs.specs.declared.answer.Member.TheVariants as members
use Rattle.ext_msgs.specs.declared.lists.Field.{Field}
use Rattle.ext_msgs.specs.declared.lists.SetField.{SetField}
use Rattle.rule_book.specs.declared.book.RuleBook.{RuleBook}
use Rattle.rule_book.specs.declared.book.PartRules.{PartRules}
use Rattle.rule_book.specs.declared.book.BodyRule.{BodyRule}
use Rattle.rule_book.specs.declared.book.BodyRule.TheVariants.{Keep, Upper, Clear, Fixed}
use Rattle.rule_book.specs.declared.stage.Verdict.TheVariants as verdict
use Rattle.rule_book.specs.Stages.{StageCall, Asked, Over, Conduct}

-- Fields

abbrev pub no_mutation : HeaderMutation
no_mutation = record { set = []; remove = [] }

-- a field is overwritten, or added where it is absent
abbrev pub overwrite : Field → SetField
overwrite f = record { name = f.name; value = f.value; action = 2 }

abbrev pub same_field : Field → Field → Bool
same_field f g = bytes_eq f.name g.name && bytes_eq f.value g.value

-- the head has the field that calls for a reply
unfoldable pub is_replied : Option Field → List Field → Bool
is_replied None head = false
is_replied (Some field) head = list_any (same_field field) head

-- Members of an answer

unfoldable pub reply : ℕ → List ℕ → Member
reply status body = members.Immediate (record { code = status; headers = no_mutation; body = body })

abbrev pub head_common : PartRules → Common
head_common p = record {
  replace = false;
  headers = record { set = map overwrite p.set; remove = p.remove };
  body = change.Absent;
}

abbrev pub body_common : BodyChange → Common
body_common b = record { replace = false; headers = no_mutation; body = b }

-- what becomes of a piece of a body, which may be the first of its stream, where the fixed text is this
unfoldable pub changed_by : BodyRule → Bool → List ℕ → List ℕ → BodyChange
changed_by Keep is_first fixed body = change.Absent
changed_by Upper is_first fixed body = change.Bytes (map to_ascii_uppercase body)
changed_by Clear is_first fixed body = change.Clear true
changed_by Fixed true fixed body = change.Bytes fixed
changed_by Fixed false fixed body = change.Clear true

abbrev pub body_ruled : PartRules → Bool → List ℕ → BodyChange
body_ruled p is_first body = changed_by p.body is_first p.fixed body

abbrev pub trailers_ruled : PartRules → HeaderMutation
trailers_ruled p = record { set = map overwrite p.trailers; remove = [] }

-- The pieces of a body that a stream had before

abbrev pub is_request_body : Ask → Bool
is_request_body (asks.RequestBody body end) = true
is_request_body _ = false

abbrev pub is_response_body : Ask → Bool
is_response_body (asks.ResponseBody body end) = true
is_response_body _ = false

-- an ask of this kind was given since the stream's last end
unfoldable pub was_asked : (Ask → Bool) → ℕ → List StageCall → Bool
was_asked kind stream [] = false
was_asked kind stream (Over s ∷ past) = not (stream == s) && was_asked kind stream past
was_asked kind stream (Asked s ask ∷ past) = (s == stream && kind ask) || was_asked kind stream past

-- The answer

abbrev pub member_ruled : RuleBook → List StageCall → ℕ → Ask → Member
member_ruled book past stream (asks.RequestHeaders head end) =
    if is_replied book.request.reply_when head then reply book.request.reply_status book.request.reply_body
    else members.RequestHeaders (head_common book.request)
member_ruled book past stream (asks.ResponseHeaders head end) =
    if is_replied book.response.reply_when head then reply book.response.reply_status book.response.reply_body
    else members.ResponseHeaders (head_common book.response)
member_ruled book past stream (asks.RequestBody body end) =
    members.RequestBody (body_common (body_ruled book.request (not (was_asked is_request_body stream past)) body))
member_ruled book past stream (asks.ResponseBody body end) =
    members.ResponseBody (body_common (body_ruled book.response (not (was_asked is_response_body stream past)) body))
member_ruled book past stream (asks.RequestTrailers ts) = members.RequestTrailers (trailers_ruled book.request)
member_ruled book past stream (asks.ResponseTrailers ts) = members.ResponseTrailers (trailers_ruled book.response)

abbrev pub answer_with : Member → Answer
answer_with m = record { member = m; modes = None; timeout = None }

-- the conduct of rules: they answer every ask
abbrev pub ruled : RuleBook → Conduct
ruled book past stream ask = verdict.Answer (answer_with (member_ruled book past stream ask))
