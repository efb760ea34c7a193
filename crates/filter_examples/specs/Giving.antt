-- All short histories in which sides are also given what waits: what was given is the first of what may go out, and at quiet with everything arrived both messages are whole.
use Rattle.std.specs.Prelude.{ℕ, suc, zero, ◌≡◌, Bool, true, false, not, ◌&&◌, ◌||◌, List, [], ◌∷◌, ◌++◌, length, take, drop, if◌then◌else◌, ◌==◌, codes, flat_map, refl, bytes_eq}
use Rattle.std.specs.Fmt.{digits}
use Rattle.std.specs.List.{list_all}
use Rattle.ext_msgs.specs.declared.answer.BodyChange.TheVariants as change
use Rattle.ext_msgs.specs.declared.modes.BodyMode.{BodyMode}
use Rattle.ext_msgs.specs.declared.modes.BodyMode.TheVariants.{NoAsk, Streamed, Buffered, Partial}
use Rattle.header_mutation.specs.Mutated.{mutation_rules}
use Rattle.http_model.specs.Bytes.{is_empty, begins_with}
use Rattle.http_model.specs.Reads.{read_rules}
use Rattle.http_model.specs.Wire.{write_rules}
use Rattle.http_model.specs.declared.types.Direction.{Direction}
use Rattle.http_model.specs.declared.types.Direction.TheVariants.{Request, Response}
use Rattle.filter_model.specs.Config.{FilterConfig}
use Rattle.filter_model.specs.Course.{Changed, changed, out}
use Rattle.filter_model.specs.Outgoing.{written}
use Rattle.filter_model.specs.Account.{ExchangeAccount, Fate, Live, Left, Replied, Aborted, start, course, flow, front, to, is_released, is_finished}
use Rattle.filter_model.specs.Step.{rules, step, is_live}
use Rattle.filter_model.specs.View.{ViewEntry, Bytes, Closed, Tick, Sent, Given}
use Rattle.filter_model.specs.declared.calls.Side.{Side}
use Rattle.filter_model.specs.declared.calls.Side.TheVariants.{Client, Upstream}
use Rattle.filter_examples.specs.Setting.{config, allowing, headers_answered, response_headers_answered, response_body_answered, body_answered}
use Rattle.filter_examples.specs.Growing.{limited, wide, fully, chunked, more, last, other_part, forbids}

-- an account, and how its passing bytes were cut so far
record State : Type 0 where
  account : ExchangeAccount
  request_cuts : List (List ℕ)
  response_cuts : List (List ℕ)

data Move : Type 0 where
  Meets : ViewEntry → Move
  Drains : Side → ℕ → Move  -- the side is given at most so many bytes
  Sends : Move  -- all asks made are sent

abbrev cuts_of : State → Direction → List (List ℕ)
cuts_of s Request = s.request_cuts
cuts_of s Response = s.response_cuts

-- the cuts so far, and all further passing bytes in one
abbrev more_cuts : Changed → List (List ℕ) → List (List ℕ)
more_cuts m cuts = let new : List ℕ = drop (length (flat_map (λ p. p) cuts)) m.passing in if is_empty new then cuts else cuts ++ new ∷ []

abbrev by_fate : Fate → List ℕ → List ℕ
by_fate (Replied reply) wire = reply
by_fate _ wire = wire

-- all that may go out in a direction by now
abbrev all_out : FilterConfig → State → Direction → List ℕ
all_out c s d =
    let a : ExchangeAccount = s.account in
    let m : Changed = changed c.course d (course d a) in
    let wire : List ℕ = written d m (more_cuts m (cuts_of s d)) in
    elim d [ Request ↦ wire | Response ↦ front Response a ++ by_fate a.fate wire ]

abbrev drains : FilterConfig → State → Direction → Side → ℕ → State
drains c s d side n =
    let a : ExchangeAccount = s.account in
    let m : Changed = changed c.course d (course d a) in
    let piece : List ℕ = take n (drop (length (flow d a).given) (all_out c s d)) in
    let b : ExchangeAccount = step c (Given side piece) a in
    elim d [
      | Request ↦ record { account = b; request_cuts = more_cuts m s.request_cuts; response_cuts = s.response_cuts }
      | Response ↦ record { account = b; request_cuts = s.request_cuts; response_cuts = more_cuts m s.response_cuts }
    ]

-- an abort gives nothing more
abbrev may_give : Fate → Side → Bool
may_give Live side = true
may_give Left side = false
may_give Aborted side = false
may_give (Replied reply) Client = true
may_give (Replied reply) Upstream = false

abbrev sends : ℕ → FilterConfig → ExchangeAccount → ExchangeAccount
sends zero c a = a
sends (suc n) c a = sends n c (step c Sent a)

abbrev moved : FilterConfig → Move → State → State
moved c (Meets e) s = record s { account = step c (limited c s.account e) s.account }
moved c (Drains side n) s = elim (may_give s.account.fate side) [ false ↦ s | true ↦ drains c s (to side) side n ]
moved c Sends s = record s { account = sends 4 c s.account }

-- what was given is the first of what may go out
abbrev is_right : FilterConfig → State → Direction → Bool
is_right c s d = begins_with (flow d s.account).given (all_out c s d)

abbrev is_answered : ExchangeAccount → Direction → Bool
is_answered a d = is_empty (out (course d a))

abbrev is_all_answered : ExchangeAccount → Bool
is_all_answered a = is_answered a Request && is_answered a Response && (length a.made == a.sent)

abbrev is_given_all : FilterConfig → State → Direction → Bool
is_given_all c s d = bytes_eq (flow d s.account).given (all_out c s d)

abbrev has_all : ExchangeAccount → Bool
has_all a = is_live a.fate && a.request.course.original.whole && a.response.course.original.whole && (is_released a || is_all_answered a)

-- everything due arrived, and everything that waits was given: then both messages were given whole
abbrev is_whole : FilterConfig → State → Bool
is_whole c s =
    not (is_given_all c s Request && is_given_all c s Response && has_all s.account)
    || (is_finished c s.account && (changed c.course Request s.account.request.course).ended && (changed c.course Response s.account.response.course).ended)

abbrev play : ℕ → FilterConfig → List Move → State → Bool
play zero c moves s = true
play (suc n) c moves s = list_all (λ e.
    let t : State = moved c e s in
    is_right c t Request && is_right c t Response && is_whole c t && play n c moves t) moves

abbrev runs : FilterConfig → List Move → State → State
runs c [] s = s
runs c (e ∷ es) s = runs c es (moved c e s)

abbrev fresh_state : FilterConfig → State
fresh_state c = record { account = start c; request_cuts = []; response_cuts = [] }

abbrev is_right_after : FilterConfig → List Move → List Move → ℕ → Bool
is_right_after c first moves n = play n c moves (runs c first (fresh_state c))

-- A chunked request, given in pieces

abbrev begun : List Move
begun = Meets chunked ∷ Sends ∷ Meets headers_answered ∷ Drains Upstream 20 ∷ []

abbrev moves : List Move
moves = Meets more ∷ Meets last ∷ Meets (body_answered (change.Bytes (codes "hello"))) ∷ Drains Upstream 99 ∷ Drains Upstream 4 ∷ Sends ∷ Meets (Closed true) ∷ []

unasked_request_goes_right : is_right_after (wide (config NoAsk)) begun moves 3 ≡ true
unfolding digits rules read_rules write_rules mutation_rules
unasked_request_goes_right = refl

streamed_request_goes_right : is_right_after (wide (config Streamed)) begun moves 3 ≡ true
unfolding digits rules read_rules write_rules mutation_rules
streamed_request_goes_right = refl

buffered_request_goes_right : is_right_after (wide (config Buffered)) begun moves 3 ≡ true
unfolding digits rules read_rules write_rules mutation_rules
buffered_request_goes_right = refl

partial_request_goes_right : is_right_after (wide (config Partial)) begun moves 3 ≡ true
unfolding digits rules read_rules write_rules mutation_rules
partial_request_goes_right = refl

-- Faults that are let pass lose no byte

abbrev faults : List Move
faults = Meets last ∷ Meets (body_answered (change.Bytes (codes "hello"))) ∷ Drains Upstream 7 ∷ Drains Upstream 999 ∷ Meets other_part ∷ Meets (Tick 300) ∷ Sends ∷ []

allowed_faults_of_a_streamed_request : is_right_after (wide (allowing (config Streamed))) begun faults 3 ≡ true
unfolding digits rules read_rules write_rules mutation_rules
allowed_faults_of_a_streamed_request = refl

allowed_faults_of_a_partial_request : is_right_after (wide (allowing (fully (config Partial)))) begun faults 3 ≡ true
unfolding digits rules read_rules write_rules mutation_rules
allowed_faults_of_a_partial_request = refl

-- A response behind an interim one, with an immediate response among the moves

abbrev begun_response : List Move
begun_response = Meets (Bytes Client (codes "POST /up HTTP/1.1\r\nHost: a\r\nContent-Length: 3\r\nExpect: 100-continue\r\n\r\naaa")) ∷ Drains Client 5 ∷ Sends ∷ Meets headers_answered ∷ []

abbrev response_moves : List Move
response_moves = Meets (Bytes Upstream (codes "HTTP/1.1 200 OK\r\nTransfer-Encoding: chunked\r\n\r\n2\r\nok\r\n"))
    ∷ Meets (Bytes Upstream (codes "0\r\nX-T: 1\r\n\r\n")) ∷ Meets response_headers_answered
    ∷ Meets (response_body_answered (change.Bytes (codes "hello"))) ∷ Meets forbids ∷ Drains Client 99 ∷ Drains Upstream 999 ∷ []

abbrev with_response : BodyMode → FilterConfig
with_response mode =
    let c : FilterConfig = wide (config NoAsk) in
    record c { response = record { headers = true; body = mode; trailers = true }; course = record c.course { piece = 128 } }

streamed_response_goes_right : is_right_after (with_response Streamed) begun_response response_moves 3 ≡ true
unfolding digits rules read_rules write_rules mutation_rules
streamed_response_goes_right = refl

buffered_response_goes_right : is_right_after (with_response Buffered) begun_response response_moves 3 ≡ true
unfolding digits rules read_rules write_rules mutation_rules
buffered_response_goes_right = refl

-- To the end: the last moves of a whole exchange, in any order

abbrev nearly : List Move
nearly = Meets chunked ∷ Sends ∷ Meets headers_answered ∷ Drains Upstream 999 ∷ Meets (Bytes Upstream (codes "HTTP/1.1 200 OK\r\nContent-Length: 2\r\n\r\nok")) ∷ []

abbrev last_moves : List Move
last_moves = Meets last ∷ Meets (body_answered change.Absent) ∷ Drains Upstream 999 ∷ Drains Client 999 ∷ Sends ∷ Meets (Closed true) ∷ []

whole_in_any_order : is_right_after (wide (config Streamed)) nearly last_moves 4 ≡ true
unfolding digits rules read_rules write_rules mutation_rules
whole_in_any_order = refl

-- and the whole is reached
whole_is_reached : is_finished (wide (config Streamed))
    (runs (wide (config Streamed)) (nearly ++ Meets last ∷ Meets (body_answered change.Absent) ∷ Sends ∷ Drains Upstream 999 ∷ Drains Client 999 ∷ []) (fresh_state (wide (config Streamed)))).account
    ≡ true
unfolding digits rules read_rules write_rules mutation_rules
whole_is_reached = refl
