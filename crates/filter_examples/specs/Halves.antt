-- The course of a direction in an exchange is that of the calls of its half, along all short histories.
use Rattle.std.specs.Prelude.{ℕ, suc, zero, ◌-◌, ◌≡◌, Bool, true, false, not, ◌&&◌, List, [], ◌∷◌, ◌++◌, length, drop, Some, None, if◌then◌else◌, nat_lt, codes, refl, is_none, bytes_eq}
use Rattle.std.specs.Fmt.{digits}
use Rattle.std.specs.List.{list_all}
use Rattle.ext_msgs.specs.declared.answer.Member.TheVariants as member
use Rattle.ext_msgs.specs.declared.answer.BodyChange.TheVariants as change
use Rattle.ext_msgs.specs.declared.modes.BodyMode.{BodyMode}
use Rattle.ext_msgs.specs.declared.modes.BodyMode.TheVariants.{NoAsk, Streamed, Buffered, Partial}
use Rattle.header_mutation.specs.Mutated.{mutation_rules}
use Rattle.http_model.specs.Bytes.{is_empty}
use Rattle.http_model.specs.Reads.{read_rules}
use Rattle.http_model.specs.Wire.{write_rules}
use Rattle.http_model.specs.declared.types.Direction.{Direction}
use Rattle.http_model.specs.declared.types.Direction.TheVariants.{Request}
use Rattle.filter_model.specs.Config.{CourseConfig, FilterConfig}
use Rattle.filter_model.specs.Course.{Course, changed, body_of, AskedPart, Headers, Body, Trailers, asked, committed}
use Rattle.filter_model.specs.Account.{ExchangeAccount, start, fresh_course}
use Rattle.filter_model.specs.Step.{rules, step, is_live}
use Rattle.filter_model.specs.Half.{HalfCall, Settle, Head, Bytes as Data, End as Last, Answer, Release, Sent as OneSent, Given as Gave, called}
use Rattle.filter_model.specs.View.{ViewEntry, Bytes, Answered, Closed, Sent}
use Rattle.filter_model.specs.declared.calls.Side.TheVariants.{Client}
use Rattle.filter_examples.specs.Setting.{config, headers_answered, body_answered, common}
use Rattle.filter_examples.specs.Growing.{same_fields, limited, wide, fully, chunked, more, last}
use Rattle.std.specs.Prelude.{pos}

-- the calls by which a course went on
abbrev head_calls : Course → Course → List HalfCall
head_calls v w = elim v.original.head [
  | Some head ↦ []
  | None ↦ elim w.original.head [ None ↦ [] | Some head ↦ Settle w.modes ∷ Head head w.original.length ∷ [] ]
]

abbrev is_head_only : Course → Bool
is_head_only w = w.original.whole && is_empty w.original.body && is_empty w.original.trailers

abbrev body_calls : Course → Course → List HalfCall
body_calls v w =
    let new : List ℕ = drop (length v.original.body) w.original.body in
    if w.original.whole && not v.original.whole then (if is_head_only w && is_none v.original.head then [] else Last new w.original.trailers ∷ [])
    else if is_empty new then [] else Data new ∷ []

abbrev answer_calls : Course → Course → List HalfCall
answer_calls v w = elim (drop (length v.answers) w.answers) [ [] ↦ [] | a ∷ _ ↦ Settle w.modes ∷ Answer a ∷ [] ]

abbrev other_calls : Course → Course → List HalfCall
other_calls v w =
    (if w.released && not v.released then Release ∷ [] else [])
    ++ (if nat_lt v.sent w.sent then OneSent ∷ [] else [])
    ++ (if nat_lt v.given w.given then Gave (w.given - v.given) ∷ [] else [])

abbrev calls : Course → Course → List HalfCall
calls v w = head_calls v w ++ body_calls v w ++ answer_calls v w ++ other_calls v w

abbrev after_calls : CourseConfig → Direction → List HalfCall → Course → Course
after_calls c d [] w = w
after_calls c d (call ∷ more) w = after_calls c d more (asked c d (committed c d (called call w)))

abbrev same_part : AskedPart → AskedPart → Bool
same_part (Headers fs l) (Headers gs m) = same_fields fs gs && (if l then m else not m)
same_part (Body x l) (Body y m) = bytes_eq x y && (if l then m else not m)
same_part (Trailers fs) (Trailers gs) = same_fields fs gs
same_part _ _ = false

abbrev same_parts : List AskedPart → List AskedPart → Bool
same_parts [] [] = true
same_parts (x ∷ xs) (y ∷ ys) = same_part x y && same_parts xs ys
same_parts _ _ = false

abbrev agrees : CourseConfig → Course → Course → Bool
agrees c v w = same_parts v.asks w.asks && bytes_eq (body_of (changed c Request v)) (body_of (changed c Request w))

-- the half follows the exchange, as long as it lives
abbrev follow : ℕ → FilterConfig → List ViewEntry → ExchangeAccount → Course → Bool
follow zero c events a half = true
follow (suc n) c events a half = list_all (λ e.
    let b : ExchangeAccount = step c (limited c a e) a in
    let next_half : Course = after_calls c.course Request (calls a.request.course b.request.course) half in
    elim (is_live b.fate) [ false ↦ true | true ↦ agrees c.course b.request.course next_half && follow n c events b next_half ]) events

abbrev whole_chunked : ViewEntry
whole_chunked = Bytes Client (codes "POST / HTTP/1.1\r\nHost: a\r\nTransfer-Encoding: chunked\r\n\r\n3\r\nabc\r\n2\r\nde\r\n0\r\nX-T: 1\r\n\r\n")

abbrev with_streamed : ViewEntry
with_streamed = Answered (Some (record {
  member = member.RequestHeaders (common change.Absent);
  modes = Some (record { numbers = pos 0 ∷ pos 0 ∷ pos 1 ∷ pos 0 ∷ pos 0 ∷ pos 0 ∷ [] });
  timeout = None;
}))

abbrev events : List ViewEntry
events = chunked ∷ more ∷ last ∷ whole_chunked ∷ headers_answered ∷ with_streamed ∷ body_answered (change.Bytes (codes "hello")) ∷ Sent ∷ Closed true ∷ []

abbrev roomy : FilterConfig → FilterConfig
roomy c = let w : FilterConfig = fully (wide c) in record w { allow_override = true; course = record w.course { piece = 128 } }

-- behind the first head
abbrev half_follows : BodyMode → Bool
half_follows mode =
    let c : FilterConfig = roomy (config mode) in
    follow 3 c events (start c) (fresh_course c.request)

half_follows_unasked : half_follows NoAsk ≡ true
unfolding digits rules read_rules write_rules mutation_rules
half_follows_unasked = refl

half_follows_streamed : half_follows Streamed ≡ true
unfolding digits rules read_rules write_rules mutation_rules
half_follows_streamed = refl

half_follows_buffered : half_follows Buffered ≡ true
unfolding digits rules read_rules write_rules mutation_rules
half_follows_buffered = refl

half_follows_partial : half_follows Partial ≡ true
unfolding digits rules read_rules write_rules mutation_rules
half_follows_partial = refl
