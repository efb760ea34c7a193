-- Configurations, entries and what goes out, for the examples. Sizes are small: pieces of 4 bytes, a limit of 4, a mark of 16.
use Rattle.std.specs.Prelude.{ℕ, Bool, true, false, List, [], ◌∷◌, ◌++◌, length, Option, Some, None, if◌then◌else◌, codes, reverse, decimal}
use Rattle.ext_msgs.specs.declared.answer.HeaderMutation.{HeaderMutation}
use Rattle.ext_msgs.specs.declared.answer.Common.{Common}
use Rattle.ext_msgs.specs.declared.answer.Member.{Member}
use Rattle.ext_msgs.specs.declared.answer.Member.TheVariants as member
use Rattle.ext_msgs.specs.declared.answer.BodyChange.{BodyChange}
use Rattle.ext_msgs.specs.declared.answer.BodyChange.TheVariants as change
use Rattle.ext_msgs.specs.declared.ask.Ask.{Ask}
use Rattle.ext_msgs.specs.declared.modes.BodyMode.{BodyMode}
use Rattle.ext_msgs.specs.declared.modes.BodyMode.TheVariants.{NoAsk}
use Rattle.ext_msgs.specs.declared.modes.PartModes.{PartModes}
use Rattle.header_mutation.specs.declared.rules.Rules.{Rules}
use Rattle.http_model.specs.Bytes.{is_empty}
use Rattle.http_model.specs.declared.types.Direction.{Direction}
use Rattle.http_model.specs.declared.types.Direction.TheVariants.{Request, Response}
use Rattle.filter_model.specs.Config.{CourseConfig, FilterConfig}
use Rattle.filter_model.specs.Course.{changed, Changed}
use Rattle.filter_model.specs.Outgoing.{written}
use Rattle.filter_model.specs.Account.{ExchangeAccount, Fate, Replied, course, front}
use Rattle.filter_model.specs.Step.{after}
use Rattle.filter_model.specs.View.{ViewEntry, Bytes, Answered}
use Rattle.filter_model.specs.declared.calls.Side.TheVariants.{Client, Upstream}

-- Configurations

abbrev pub skip : PartModes
skip = record { headers = false; body = NoAsk; trailers = false }

abbrev pub send : BodyMode → PartModes
send mode = record { headers = true; body = mode; trailers = false }

abbrev pub no_rules : Rules
no_rules = record {
  allow_all_routing = false;
  allow_envoy = false;
  disallow_system = false;
  disallow_all = false;
  disallow_is_error = false;
  disallow_prefixes = [];
  allow_prefixes = [];
}

abbrev pub small : CourseConfig
small = record { rules = no_rules; buffer_limit = 4; answer_limit = 1024; piece = 4; mark = 16 }

-- the request headers are asked, and the request body in this mode; of the response nothing
abbrev pub config : BodyMode → FilterConfig
config mode = record {
  course = small;
  failure_allow = false;
  timeout_ms = 200;
  max_timeout_ms = 0;
  allow_override = false;
  no_immediate = false;
  request = send mode;
  response = skip;
}

abbrev pub allowing : FilterConfig → FilterConfig
allowing c = record c { failure_allow = true }

abbrev pub with_rules : Rules → FilterConfig → FilterConfig
with_rules r c = record c { course = record c.course { rules = r } }

-- What goes out, passing bytes in one chunk

abbrev pub one_cut : Changed → List (List ℕ)
one_cut m = if is_empty m.passing then [] else m.passing ∷ []

abbrev pub wire : FilterConfig → Direction → ExchangeAccount → List ℕ
wire c d a = let m : Changed = changed c.course d (course d a) in written d m (one_cut m)

abbrev pub behind_front : FilterConfig → ExchangeAccount → Fate → List ℕ
behind_front c a (Replied reply) = reply
behind_front c a _ = wire c Response a

abbrev pub client_gets : FilterConfig → ExchangeAccount → List ℕ
client_gets c a = front Response a ++ behind_front c a a.fate

abbrev pub to_upstream : FilterConfig → List ViewEntry → List ℕ
to_upstream c v = wire c Request (after c (reverse v))

abbrev pub to_client : FilterConfig → List ViewEntry → List ℕ
to_client c v = client_gets c (after c (reverse v))

abbrev pub asks : FilterConfig → List ViewEntry → List Ask
asks c v = (after c (reverse v)).made

abbrev pub fate_of : FilterConfig → List ViewEntry → Fate
fate_of c v = (after c (reverse v)).fate

abbrev pub end_of : FilterConfig → List ViewEntry → Option Bool
end_of c v = (after c (reverse v)).ending

-- Entries

abbrev pub get_a : ViewEntry
get_a = Bytes Client (codes "GET / HTTP/1.1\r\nHost: a\r\n\r\n")

abbrev pub post : List ℕ → ViewEntry
post body = Bytes Client (codes "POST / HTTP/1.1\r\nHost: a\r\nContent-Length: " ++ decimal (length body) ++ codes "\r\n\r\n" ++ body)

-- a 200 without body
abbrev pub ok : ViewEntry
ok = Bytes Upstream (codes "HTTP/1.1 200 OK\r\nContent-Length: 0\r\n\r\n")

abbrev pub unchanged : HeaderMutation
unchanged = record { set = []; remove = [] }

abbrev pub setting : List ℕ → List ℕ → ℕ → HeaderMutation
setting name value action = record { set = record { name = name; value = value; action = action } ∷ []; remove = [] }

abbrev pub removing : List ℕ → HeaderMutation
removing name = record { set = []; remove = name ∷ [] }

abbrev pub common : BodyChange → Common
common b = record { replace = false; headers = unchanged; body = b }

abbrev pub mutating : HeaderMutation → Common
mutating m = record { replace = false; headers = m; body = change.Absent }

abbrev pub answer : Member → ViewEntry
answer m = Answered (Some (record { member = m; modes = None; timeout = None }))

abbrev pub headers_answered : ViewEntry
headers_answered = answer (member.RequestHeaders (common change.Absent))

abbrev pub body_answered : BodyChange → ViewEntry
body_answered b = answer (member.RequestBody (common b))

abbrev pub response_headers_answered : ViewEntry
response_headers_answered = answer (member.ResponseHeaders (common change.Absent))

abbrev pub response_body_answered : BodyChange → ViewEntry
response_body_answered b = answer (member.ResponseBody (common b))
