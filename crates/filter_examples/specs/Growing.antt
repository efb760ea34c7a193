-- All short histories of one side: what may go out only grows, head and framing never change, the framing fits the body, and what has arrived and is answered is whole.
use Rattle.std.specs.Prelude.{ℕ, suc, zero, ◌≡◌, Bool, true, false, not, ◌&&◌, ◌||◌, List, [], ◌∷◌, length, take, Some, None, if◌then◌else◌, ◌==◌, nat_le, codes, refl, unwrap_or, is_none, bytes_eq}
use Rattle.std.specs.Fmt.{digits}
use Rattle.std.specs.List.{list_all}
use Rattle.ext_msgs.specs.declared.lists.Field.{Field}
use Rattle.ext_msgs.specs.declared.answer.Member.TheVariants as member
use Rattle.ext_msgs.specs.declared.answer.BodyChange.{BodyChange}
use Rattle.ext_msgs.specs.declared.answer.BodyChange.TheVariants as change
use Rattle.ext_msgs.specs.declared.modes.BodyMode.{BodyMode}
use Rattle.ext_msgs.specs.declared.modes.BodyMode.TheVariants.{NoAsk, Streamed, Buffered, Partial}
use Rattle.header_mutation.specs.Mutated.{mutation_rules}
use Rattle.http_model.specs.Bytes.{is_empty, begins_with}
use Rattle.http_model.specs.Reads.{read_rules}
use Rattle.http_model.specs.Wire.{write_rules}
use Rattle.http_model.specs.declared.types.Direction.{Direction}
use Rattle.http_model.specs.declared.types.Direction.TheVariants.{Request, Response}
use Rattle.http_model.specs.declared.types.Framing.{Framing}
use Rattle.http_model.specs.declared.types.Framing.TheVariants.{NoField, Length, Chunked}
use Rattle.filter_model.specs.Config.{CourseConfig, FilterConfig}
use Rattle.filter_model.specs.Course.{Course, Changed, changed, body_of, next, out, is_bare}
use Rattle.filter_model.specs.Account.{ExchangeAccount, start, course}
use Rattle.filter_model.specs.Step.{rules, step, room}
use Rattle.filter_model.specs.View.{ViewEntry, Bytes, End, Closed, Tick}
use Rattle.filter_model.specs.declared.calls.Side.TheVariants.{Client, Upstream}
use Rattle.filter_examples.specs.Setting.{config, allowing, send, get_a, headers_answered, response_headers_answered, response_body_answered, body_answered, answer, unchanged}

abbrev pub same_fields : List Field → List Field → Bool
same_fields [] [] = true
same_fields (f ∷ fs) (g ∷ gs) = bytes_eq f.name g.name && bytes_eq f.value g.value && same_fields fs gs
same_fields _ _ = false

abbrev same_pieces : List (List ℕ) → List (List ℕ) → Bool
same_pieces [] [] = true
same_pieces (x ∷ xs) (y ∷ ys) = bytes_eq x y && same_pieces xs ys
same_pieces _ _ = false

abbrev begin_with : List (List ℕ) → List (List ℕ) → Bool
begin_with [] ys = true
begin_with (x ∷ xs) (y ∷ ys) = bytes_eq x y && begin_with xs ys
begin_with _ _ = false

abbrev same_framing : Framing → Framing → Bool
same_framing NoField NoField = true
same_framing (Length n) (Length k) = n == k
same_framing Chunked Chunked = true
same_framing _ _ = false

abbrev body_grows : Changed → Changed → Bool
body_grows m n =
    if is_empty m.passing then begin_with m.pieces n.pieces
    else same_pieces m.pieces n.pieces && begins_with m.passing n.passing

-- an end is final
abbrev end_stays : Changed → Changed → Bool
end_stays m n =
    not m.ended || (n.ended && bytes_eq (body_of m) (body_of n) && same_fields (unwrap_or m.trailers []) (unwrap_or n.trailers []))

-- head and framing never change, and what may go out only grows
abbrev grows : Changed → Changed → Bool
grows m n = elim m.head [
  | None ↦ true
  | Some head ↦ elim n.head [
    | None ↦ false
    | Some head' ↦ same_fields head.fields head'.fields && same_framing head.framing head'.framing && body_grows m n && end_stays m n
  ]
]

-- the framing fits the body
abbrev fits : Bool → Framing → Changed → Bool
fits bare NoField m = is_empty (body_of m) && is_empty (unwrap_or m.trailers [])
fits bare (Length n) m =
    is_empty (unwrap_or m.trailers [])
    && (if bare then is_empty (body_of m) else nat_le (length (body_of m)) n && (not m.ended || (length (body_of m) == n)))
fits bare Chunked m = true

-- everything has arrived, and nothing is asked or due
abbrev is_settled_whole : CourseConfig → Course → Bool
is_settled_whole c w = w.original.whole && (w.released || (is_empty (out w) && is_none (next c w)))

abbrev holds : FilterConfig → ExchangeAccount → ExchangeAccount → Direction → Bool
holds c a b d =
    let m : Changed = changed c.course d (course d a) in
    let n : Changed = changed c.course d (course d b) in
    grows m n
    && (elim n.head [ None ↦ true | Some head ↦ fits (is_bare d (course d b).original.length) head.framing n ])
    && (not (is_settled_whole c.course (course d b)) || n.ended)

-- bytes beyond the room don't come
abbrev pub limited : FilterConfig → ExchangeAccount → ViewEntry → ViewEntry
limited c a (Bytes s bytes) = Bytes s (take (room c a s) bytes)
limited c a e = e

abbrev explore : ℕ → FilterConfig → List ViewEntry → ExchangeAccount → Bool
explore zero c events a = true
explore (suc n) c events a = list_all (λ e.
    let b : ExchangeAccount = step c (limited c a e) a in
    holds c a b Request && holds c a b Response && explore n c events b) events

-- with pieces and a mark of 64
abbrev pub wide : FilterConfig → FilterConfig
wide c = record c { course = record c.course { piece = 64; mark = 64 } }

-- trailers asked too
abbrev pub fully : FilterConfig → FilterConfig
fully c = record c { request = record c.request { trailers = true } }

-- A chunked request with trailers

abbrev pub chunked : ViewEntry
chunked = Bytes Client (codes "POST / HTTP/1.1\r\nHost: a\r\nTransfer-Encoding: chunked\r\n\r\n3\r\nabc\r\n")

abbrev pub more : ViewEntry
more = Bytes Client (codes "1\r\nd\r\n")

abbrev pub last : ViewEntry
last = Bytes Client (codes "0\r\nX-T: 1\r\n\r\n")

abbrev trailers_answered : ViewEntry
trailers_answered = answer (member.RequestTrailers unchanged)

abbrev replaces_with : BodyChange → ViewEntry
replaces_with b = answer (member.RequestHeaders (record { replace = true; headers = unchanged; body = b }))

abbrev body_stops : ViewEntry
body_stops = answer (member.RequestBody (record { replace = true; headers = unchanged; body = change.Bytes (codes "hello") }))

abbrev pub forbids : ViewEntry
forbids = answer (member.Immediate (record { code = 403; headers = unchanged; body = codes "no" }))

abbrev chunked_events : List ViewEntry
chunked_events = more ∷ last ∷ headers_answered ∷ body_answered change.Absent ∷ body_stops ∷ trailers_answered ∷ Closed true ∷ []

abbrev chunked_holds : FilterConfig → Bool
chunked_holds c = explore 3 c chunked_events (step c chunked (start c))

chunked_request_unasked : chunked_holds (wide (config NoAsk)) ≡ true
unfolding digits rules read_rules write_rules mutation_rules
chunked_request_unasked = refl

chunked_request_streamed : chunked_holds (wide (config Streamed)) ≡ true
unfolding digits rules read_rules write_rules mutation_rules
chunked_request_streamed = refl

chunked_request_streamed_with_trailers : chunked_holds (wide (fully (config Streamed))) ≡ true
unfolding digits rules read_rules write_rules mutation_rules
chunked_request_streamed_with_trailers = refl

chunked_request_buffered : chunked_holds (wide (config Buffered)) ≡ true
unfolding digits rules read_rules write_rules mutation_rules
chunked_request_buffered = refl

chunked_request_buffered_with_trailers : chunked_holds (wide (fully (config Buffered))) ≡ true
unfolding digits rules read_rules write_rules mutation_rules
chunked_request_buffered_with_trailers = refl

chunked_request_partial : chunked_holds (wide (config Partial)) ≡ true
unfolding digits rules read_rules write_rules mutation_rules
chunked_request_partial = refl

chunked_request_partial_with_trailers : chunked_holds (wide (fully (config Partial))) ≡ true
unfolding digits rules read_rules write_rules mutation_rules
chunked_request_partial_with_trailers = refl

-- A request of a known length, with a limit that it passes, replacements and faults

abbrev pub other_part : ViewEntry
other_part = response_body_answered change.Absent

abbrev known_events : List ViewEntry
known_events = Bytes Client (codes "ab") ∷ Bytes Client (codes "cde") ∷ headers_answered ∷ replaces_with change.Absent ∷ replaces_with (change.Bytes (codes "hi"))
    ∷ body_answered (change.Bytes (codes "hello!")) ∷ other_part ∷ Tick 300 ∷ []

abbrev known_holds : FilterConfig → Bool
known_holds c = explore 3 c known_events (step c (Bytes Client (codes "POST / HTTP/1.1\r\nHost: a\r\nContent-Length: 5\r\n\r\n")) (start c))

known_request_unasked : known_holds (wide (allowing (config NoAsk))) ≡ true
unfolding digits rules read_rules write_rules mutation_rules
known_request_unasked = refl

known_request_streamed : known_holds (wide (allowing (config Streamed))) ≡ true
unfolding digits rules read_rules write_rules mutation_rules
known_request_streamed = refl

known_request_buffered : known_holds (wide (config Buffered)) ≡ true
unfolding digits rules read_rules write_rules mutation_rules
known_request_buffered = refl

known_request_buffered_allowed : known_holds (wide (allowing (config Buffered))) ≡ true
unfolding digits rules read_rules write_rules mutation_rules
known_request_buffered_allowed = refl

known_request_partial : known_holds (wide (allowing (config Partial))) ≡ true
unfolding digits rules read_rules write_rules mutation_rules
known_request_partial = refl

-- Responses of every length, also to HEAD

abbrev response_events : List ViewEntry
response_events = Bytes Upstream (codes "HTTP/1.1 200 OK\r\nContent-Length: 3\r\n\r\n")
    ∷ Bytes Upstream (codes "HTTP/1.1 200 OK\r\n\r\n") ∷ Bytes Upstream (codes "HTTP/1.1 204 No\r\n\r\n")
    ∷ Bytes Upstream (codes "abc") ∷ End Upstream ∷ response_headers_answered
    ∷ answer (member.ResponseHeaders (record { replace = true; headers = unchanged; body = change.Bytes (codes "hi") }))
    ∷ response_body_answered (change.Bytes (codes "hello!")) ∷ Closed true ∷ []

abbrev responses_hold : BodyMode → ViewEntry → Bool
responses_hold mode first =
    let c : FilterConfig = wide (record (config NoAsk) { response = send mode }) in
    explore 3 c response_events (step c headers_answered (step c first (start c)))

abbrev head_a : ViewEntry
head_a = Bytes Client (codes "HEAD / HTTP/1.1\r\nHost: a\r\n\r\n")

responses_unasked : responses_hold NoAsk get_a ≡ true
unfolding digits rules read_rules write_rules mutation_rules
responses_unasked = refl

responses_streamed : responses_hold Streamed get_a ≡ true
unfolding digits rules read_rules write_rules mutation_rules
responses_streamed = refl

responses_buffered : responses_hold Buffered get_a ≡ true
unfolding digits rules read_rules write_rules mutation_rules
responses_buffered = refl

responses_partial : responses_hold Partial get_a ≡ true
unfolding digits rules read_rules write_rules mutation_rules
responses_partial = refl

responses_to_head : responses_hold Buffered head_a ≡ true
unfolding digits rules read_rules write_rules mutation_rules
responses_to_head = refl
