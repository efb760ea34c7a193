-- Answers that were written are read again.
use Rattle.std.proofs.Common.{◌≡◌, ℕ, zero, suc, ◌%◌, ◌^◌, ◌<◌, ◌≤◌, Bool, true, false, ltb, eqb, not, List, [], ◌∷◌, ◌++◌, length, reverse, filter, is_some, Option, Some, None, Result, Ok, refl, sym, ap, ◌∙◌, arith}
use Rattle.std.proofs.lemmas.Bool.{le-ltb}
use Rattle.std.proofs.lemmas.List.{append-nil}
use Rattle.std.proofs.lemmas.List.Elements.{filter-append}
use Rattle.pb_wire.specs.Records.{Entry}
use Rattle.pb_wire.specs.Walk.{entries}
use Rattle.pb_wire.specs.Canonical.{spelling}
use Rattle.ext_msgs.specs.declared.fault.MsgFault.{MsgFault}
use Rattle.ext_msgs.specs.declared.answer.HeaderMutation.{HeaderMutation}
use Rattle.ext_msgs.specs.declared.answer.BodyChange.{BodyChange}
use Rattle.ext_msgs.specs.declared.answer.BodyChange.TheVariants.{Absent, Bytes, Clear, Streamed}
use Rattle.ext_msgs.specs.declared.answer.Common.{Common}
use Rattle.ext_msgs.specs.declared.answer.Immediate.{Immediate}
use Rattle.ext_msgs.specs.declared.answer.ModeNumbers.{ModeNumbers}
use Rattle.ext_msgs.specs.declared.answer.Span.{Span}
use Rattle.ext_msgs.specs.declared.answer.Member.{Member}
use Rattle.ext_msgs.specs.declared.answer.Member.TheVariants as members
use Rattle.ext_msgs.specs.declared.answer.Answer.{Answer}
use Rattle.ext_msgs.specs.Fields.{inside, bytes_of, number_of, is_set, latest_in, latest, last_place}
use Rattle.ext_msgs.specs.MessageFault.{no_fault, mutation_fault, body_fault, common_fault, response_fault, trailers_fault, status_fault, immediate_fault, answer_fault}
use Rattle.ext_msgs.specs.MessageValue.{mutation, body_change, is_one, common, status_code, code, immediate, modes, duration, answer_member, response, trailers, member_by, answer_modes, answer_timeout, with_member, answer_value}
use Rattle.ext_msgs.specs.Messages.{unless, answer_of}
use Rattle.ext_msgs.specs.Spelling.{present, bit, filled, some_number, flag, some_embedded, embedded, body_records, mutation_records, change_records, common_records, response_records, trailers_response_records, immediate_records, member_records, numbered, mode_records, duration_records, timeout_records, answer_records, answer}
use Rattle.ext_msgs.specs.Writable.{IsMutation, IsImmediate, IsMember, SaysSomething, AreModes, IsTimeout, IsWritableAnswer}
use Rattle.ext_msgs.proofs.Again.{AreGood, good_append, present_good, filled_good, counted_good, number_good, embedded_good, some_embedded_good, none_again, same_again, append_short, rest_short, embedded_short, some_embedded_short, entries_nil, inside_one}
use Rattle.ext_msgs.proofs.AgainFields.{mutation_good, mutation_said}
use Rattle.ext_msgs.proofs.AgainAsk.{bit_fits, body_good, body_said}
use Rattle.ext_msgs.proofs.AgainNumbers.{modes_good, modes_said, duration_good, duration_said}

-- ---- BodyMutation

change_good : (c : BodyChange) → AreGood body_fault (change_records c)
change_good Absent = tt
change_good (Bytes bytes) = (present_good body_fault 1 bytes (omega arith) (omega arith) (λ place start. refl), tt)
change_good (Clear on) = (counted_good body_fault 2 (bit on) (omega arith) (omega arith) (bit_fits on) (λ place start. refl), tt)
change_good (Streamed body end) = (embedded_good body_fault no_fault 3 (body_records body end) (omega arith) (omega arith) (body_good body end) (λ place start h. h), tt)

change_said : (c : BodyChange) → length (spelling (change_records c)) < 2 ^ 64 → body_change (change_records c) ≡ c
change_said Absent l = refl
change_said (Bytes bytes) l = refl
change_said (Clear true) l = refl
change_said (Clear false) l = refl
change_said (Streamed body end) l =
    let said = body_said body end in
    let records : entries (spelling (body_records body end)) ++ [] ≡ body_records body end = inside_one (spelling (body_records body end)) ∙ same_again no_fault (body_records body end) (body_good body end) (embedded_short 3 (body_records body end) [] l) in
    ap (λ es. Streamed (bytes_of 1 es) (is_set (number_of 2 es))) records ∙ ap (λ (b : List ℕ). Streamed b (is_set (number_of 2 (body_records body end)))) said.0 ∙ ap (λ (e : Bool). Streamed body e) said.1

-- ---- CommonResponse

common_good : (c : Common) → IsMutation c.headers → AreGood common_fault (common_records c)
common_good c h =
    let status : AreGood common_fault (flag 1 c.replace) = status_of c.replace in
    good_append common_fault (flag 1 c.replace) (some_embedded 2 (mutation_records c.headers) ++ some_embedded 3 (change_records c.body)) status
    (good_append common_fault (some_embedded 2 (mutation_records c.headers)) (some_embedded 3 (change_records c.body))
    (some_embedded_good common_fault mutation_fault 2 (mutation_records c.headers) (omega arith) (omega arith) (mutation_good c.headers h) (λ place start none. rw none refl))
    (some_embedded_good common_fault body_fault 3 (change_records c.body) (omega arith) (omega arith) (change_good c.body) (λ place start none. none)))
  where
    status_of : (on : Bool) → AreGood common_fault (flag 1 on)
    status_of true = number_good common_fault 1 1 (omega arith) (omega arith) (omega arith) (λ place start. refl)
    status_of false = tt

-- what stands in the fields of a common response whose embedded messages have these bytes
common_parts : (replace : Bool) (m b : List ℕ)
    → (is_one (number_of 1 (flag 1 replace ++ (filled 2 m ++ filled 3 b))) ≡ replace) × (inside 2 (flag 1 replace ++ (filled 2 m ++ filled 3 b)) ≡ entries m) × (inside 3 (flag 1 replace ++ (filled 2 m ++ filled 3 b)) ≡ entries b)
common_parts true [] [] = (refl, sym entries_nil, sym entries_nil)
common_parts true [] (y ∷ b) = (refl, sym entries_nil, inside_one (y ∷ b))
common_parts true (x ∷ m) [] = (refl, inside_one (x ∷ m), sym entries_nil)
common_parts true (x ∷ m) (y ∷ b) = (refl, inside_one (x ∷ m), inside_one (y ∷ b))
common_parts false [] [] = (refl, sym entries_nil, sym entries_nil)
common_parts false [] (y ∷ b) = (refl, sym entries_nil, inside_one (y ∷ b))
common_parts false (x ∷ m) [] = (refl, inside_one (x ∷ m), sym entries_nil)
common_parts false (x ∷ m) (y ∷ b) = (refl, inside_one (x ∷ m), inside_one (y ∷ b))

common_said : (c : Common) → IsMutation c.headers → length (spelling (common_records c)) < 2 ^ 64 → common (common_records c) ≡ c
common_said c h l =
    let ms = mutation_records c.headers in
    let bs = change_records c.body in
    let es = common_records c in
    let p = common_parts c.replace (spelling ms) (spelling bs) in
    let embeddeds = (append_short (flag 1 c.replace) (some_embedded 2 ms ++ some_embedded 3 bs) l).1 in
    let lm = some_embedded_short 2 ms (append_short (some_embedded 2 ms) (some_embedded 3 bs) embeddeds).0 in
    let lb = some_embedded_short 3 bs (append_short (some_embedded 2 ms) (some_embedded 3 bs) embeddeds).1 in
    let headers : mutation (inside 2 es) ≡ c.headers = ap mutation (p.1 ∙ same_again mutation_fault ms (mutation_good c.headers h) lm) ∙ mutation_said c.headers h lm in
    let body : body_change (inside 3 es) ≡ c.body = ap body_change (p.2 ∙ same_again body_fault bs (change_good c.body) lb) ∙ change_said c.body lb in
    ap (λ (r : Bool). record { replace = r; headers = mutation (inside 2 es); body = body_change (inside 3 es) }) p.0
    ∙ ap (λ (m : HeaderMutation). record { replace = c.replace; headers = m; body = body_change (inside 3 es) }) headers
    ∙ ap (λ (b : BodyChange). record { replace = c.replace; headers = c.headers; body = b }) body

-- ---- HeadersResponse and BodyResponse

-- a message of one field that is left out when empty
one_part : (b : List ℕ) → inside 1 (filled 1 b) ≡ entries b
one_part [] = sym entries_nil
one_part (x ∷ b) = inside_one (x ∷ b)

response_good : (c : Common) → IsMutation c.headers → AreGood response_fault (response_records c)
response_good c h = some_embedded_good response_fault common_fault 1 (common_records c) (omega arith) (omega arith) (common_good c h) (λ place start none. none)

response_said : (c : Common) → IsMutation c.headers → length (spelling (response_records c)) < 2 ^ 64 → response (response_records c) ≡ c
response_said c h l =
    let short = some_embedded_short 1 (common_records c) l in
    ap common (one_part (spelling (common_records c)) ∙ same_again common_fault (common_records c) (common_good c h) short) ∙ common_said c h short

-- ---- TrailersResponse

trailers_good : (m : HeaderMutation) → IsMutation m → AreGood trailers_fault (trailers_response_records m)
trailers_good m h = some_embedded_good trailers_fault mutation_fault 1 (mutation_records m) (omega arith) (omega arith) (mutation_good m h) (λ place start none. none)

trailers_said : (m : HeaderMutation) → IsMutation m → length (spelling (trailers_response_records m)) < 2 ^ 64 → trailers (trailers_response_records m) ≡ m
trailers_said m h l =
    let short = some_embedded_short 1 (mutation_records m) l in
    ap mutation (one_part (spelling (mutation_records m)) ∙ same_again mutation_fault (mutation_records m) (mutation_good m h) short) ∙ mutation_said m h short

-- ---- ImmediateResponse

status_good : (status : ℕ) → 200 ≤ status → status ≤ 599 → AreGood status_fault (some_number 1 status)
status_good status least most =
    let within : (ltb (status % 2 ^ 32) 200 ≡ false) × (ltb 599 (status % 2 ^ 32) ≡ false) = (le-ltb (status % 2 ^ 32) 200 (omega arith), le-ltb 599 (status % 2 ^ 32) (omega arith)) in
    number_good status_fault 1 status (omega arith) (omega arith) (omega arith) (λ place start. rw (within.0, within.1) refl)

immediate_good : (i : Immediate) → IsImmediate i → AreGood immediate_fault (immediate_records i)
immediate_good i h = (
  embedded_good immediate_fault status_fault 1 (some_number 1 i.code) (omega arith) (omega arith) (status_good i.code h.least h.most) (λ place start none. rw none refl),
  good_append immediate_fault (some_embedded 2 (mutation_records i.headers)) (filled 3 i.body)
      (some_embedded_good immediate_fault mutation_fault 2 (mutation_records i.headers) (omega arith) (omega arith) (mutation_good i.headers h.headers) (λ place start none. rw none refl))
      (filled_good immediate_fault 3 i.body (omega arith) (omega arith) (λ place start. refl)),
)

immediate_parts : (s m body : List ℕ) → (inside 1 (present 1 s ∷ (filled 2 m ++ filled 3 body)) ≡ entries s) × (inside 2 (present 1 s ∷ (filled 2 m ++ filled 3 body)) ≡ entries m) × (bytes_of 3 (present 1 s ∷ (filled 2 m ++ filled 3 body)) ≡ body)
immediate_parts s [] [] = (inside_one s, sym entries_nil, refl)
immediate_parts s [] (y ∷ body) = (inside_one s, sym entries_nil, refl)
immediate_parts s (x ∷ m) [] = (inside_one s, inside_one (x ∷ m), refl)
immediate_parts s (x ∷ m) (y ∷ body) = (inside_one s, inside_one (x ∷ m), refl)

-- the code of a status
status_said : (status : ℕ) → 200 ≤ status → status ≤ 599 → status_code (some_number 1 status) ≡ Some status
status_said zero least most = absurd (omega arith)
status_said (suc n) least most = let small : suc n % 2 ^ 32 ≡ suc n = omega arith in ap (λ (k : ℕ). Some k) small

immediate_said : (place : ℕ) (i : Immediate) → IsImmediate i → length (spelling (immediate_records i)) < 2 ^ 64 → immediate place (code (immediate_records i)) (immediate_records i) ≡ Ok (members.Immediate i)
immediate_said place i h l =
    let ss = some_number 1 i.code in
    let ms = mutation_records i.headers in
    let es = immediate_records i in
    let p = immediate_parts (spelling ss) (spelling ms) i.body in
    let ls = embedded_short 1 ss (some_embedded 2 ms ++ filled 3 i.body) l in
    let lm = some_embedded_short 2 ms (append_short (some_embedded 2 ms) (filled 3 i.body) (rest_short (embedded 1 ss) (some_embedded 2 ms ++ filled 3 i.body) l)).0 in
    let status : code es ≡ Some i.code = ap status_code (p.0 ∙ same_again status_fault ss (status_good i.code h.least h.most) ls) ∙ status_said i.code h.least h.most in
    let headers : mutation (inside 2 es) ≡ i.headers = ap mutation (p.1 ∙ same_again mutation_fault ms (mutation_good i.headers h.headers) lm) ∙ mutation_said i.headers h.headers lm in
    ap (λ o. immediate place o es) status
    ∙ ap (λ (m : HeaderMutation). Ok (members.Immediate (record { code = i.code; headers = m; body = bytes_of 3 es }))) headers
    ∙ ap (λ (b : List ℕ). Ok (members.Immediate (record { code = i.code; headers = i.headers; body = b }))) p.2

-- ---- the members

abbrev member_is : Member → Result Member MsgFault
member_is m = Ok m

member_good : (m : Member) → IsMember m → AreGood answer_fault (member_records m)
member_good members.Unset h = tt
member_good (members.RequestHeaders c) h = (embedded_good answer_fault response_fault 1 (response_records c) (omega arith) (omega arith) (response_good c h) (λ place start none. rw none refl), tt)
member_good (members.ResponseHeaders c) h = (embedded_good answer_fault response_fault 2 (response_records c) (omega arith) (omega arith) (response_good c h) (λ place start none. rw none refl), tt)
member_good (members.RequestBody c) h = (embedded_good answer_fault response_fault 3 (response_records c) (omega arith) (omega arith) (response_good c h) (λ place start none. rw none refl), tt)
member_good (members.ResponseBody c) h = (embedded_good answer_fault response_fault 4 (response_records c) (omega arith) (omega arith) (response_good c h) (λ place start none. rw none refl), tt)
member_good (members.RequestTrailers m) h = (embedded_good answer_fault trailers_fault 5 (trailers_response_records m) (omega arith) (omega arith) (trailers_good m h) (λ place start none. rw none refl), tt)
member_good (members.ResponseTrailers m) h = (embedded_good answer_fault trailers_fault 6 (trailers_response_records m) (omega arith) (omega arith) (trailers_good m h) (λ place start none. rw none refl), tt)
member_good (members.Immediate i) h = (embedded_good answer_fault immediate_fault 7 (immediate_records i) (omega arith) (omega arith) (immediate_good i h) (λ place start none. none), tt)

response_inside : (make : Common → Member) (c : Common) → IsMutation c.headers → length (spelling (response_records c)) < 2 ^ 64 → member_is (make (response (entries (spelling (response_records c)) ++ []))) ≡ member_is (make c)
response_inside make c h l =
    ap (λ es. member_is (make (response es))) (inside_one (spelling (response_records c)) ∙ same_again response_fault (response_records c) (response_good c h) l) ∙ ap (λ (x : Common). member_is (make x)) (response_said c h l)

trailers_inside : (make : HeaderMutation → Member) (m : HeaderMutation) → IsMutation m → length (spelling (trailers_response_records m)) < 2 ^ 64 → member_is (make (trailers (entries (spelling (trailers_response_records m)) ++ []))) ≡ member_is (make m)
trailers_inside make m h l =
    ap (λ es. member_is (make (trailers es))) (inside_one (spelling (trailers_response_records m)) ∙ same_again trailers_fault (trailers_response_records m) (trailers_good m h) l) ∙ ap (λ (x : HeaderMutation). member_is (make x)) (trailers_said m h l)

immediate_inside : (place : ℕ) (i : Immediate) → IsImmediate i → length (spelling (immediate_records i)) < 2 ^ 64 → immediate place (code (entries (spelling (immediate_records i)) ++ [])) (entries (spelling (immediate_records i)) ++ []) ≡ Ok (members.Immediate i)
immediate_inside place i h l =
    ap (λ es. immediate place (code es) es) (inside_one (spelling (immediate_records i)) ∙ same_again immediate_fault (immediate_records i) (immediate_good i h) l) ∙ immediate_said place i h l

-- what the record of a member says
member_said : (place : ℕ) (m : Member) (t : Option Span) → IsMember m → SaysSomething m t → length (spelling (member_records m)) < 2 ^ 64 → member_by place (is_some t) (latest answer_member (member_records m)).0 (latest answer_member (member_records m)).1 ≡ Ok m
member_said place members.Unset None h some l = absurd some
member_said place members.Unset (Some t) h some l = refl
member_said place (members.RequestHeaders c) t h some l = response_inside members.RequestHeaders c h (embedded_short 1 (response_records c) [] l)
member_said place (members.ResponseHeaders c) t h some l = response_inside members.ResponseHeaders c h (embedded_short 2 (response_records c) [] l)
member_said place (members.RequestBody c) t h some l = response_inside members.RequestBody c h (embedded_short 3 (response_records c) [] l)
member_said place (members.ResponseBody c) t h some l = response_inside members.ResponseBody c h (embedded_short 4 (response_records c) [] l)
member_said place (members.RequestTrailers m) t h some l = trailers_inside members.RequestTrailers m h (embedded_short 5 (trailers_response_records m) [] l)
member_said place (members.ResponseTrailers m) t h some l = trailers_inside members.ResponseTrailers m h (embedded_short 6 (trailers_response_records m) [] l)
member_said place (members.Immediate i) t h some l = immediate_inside place i h (embedded_short 7 (immediate_records i) [] l)

-- ---- mode_override and override_message_timeout

modes_all_good : (o : Option ModeNumbers) → AreModes o → AreGood answer_fault (mode_records o)
modes_all_good None h = tt
modes_all_good (Some m) h = (embedded_good answer_fault no_fault 9 (numbered 1 m.numbers) (omega arith) (omega arith) (modes_good m h.0 h.1) (λ place start none. rw none refl), tt)

timeout_all_good : (o : Option Span) → IsTimeout o → AreGood answer_fault (timeout_records o)
timeout_all_good None h = tt
timeout_all_good (Some t) h = (embedded_good answer_fault no_fault 10 (duration_records t) (omega arith) (omega arith) (duration_good t h.0 h.1) (λ place start none. rw none refl), tt)

-- a member has neither
members_apart : (m : Member) (es : List Entry) → (answer_modes (member_records m ++ es) ≡ answer_modes es) × (answer_timeout (member_records m ++ es) ≡ answer_timeout es)
members_apart members.Unset es = (refl, refl)
members_apart (members.RequestHeaders c) es = (refl, refl)
members_apart (members.ResponseHeaders c) es = (refl, refl)
members_apart (members.RequestBody c) es = (refl, refl)
members_apart (members.ResponseBody c) es = (refl, refl)
members_apart (members.RequestTrailers m) es = (refl, refl)
members_apart (members.ResponseTrailers m) es = (refl, refl)
members_apart (members.Immediate i) es = (refl, refl)

modes_read : (m : ModeNumbers) → AreModes (Some m) → length (spelling (mode_records (Some m))) < 2 ^ 64 → modes (entries (spelling (numbered 1 m.numbers)) ++ []) ≡ m
modes_read m h l =
    ap modes (inside_one (spelling (numbered 1 m.numbers)) ∙ same_again no_fault (numbered 1 m.numbers) (modes_good m h.0 h.1) (embedded_short 9 (numbered 1 m.numbers) [] l)) ∙ modes_said m h.0 h.1

duration_read : (t : Span) → IsTimeout (Some t) → length (spelling (timeout_records (Some t))) < 2 ^ 64 → duration (entries (spelling (duration_records t)) ++ []) ≡ t
duration_read t h l =
    ap duration (inside_one (spelling (duration_records t)) ∙ same_again no_fault (duration_records t) (duration_good t h.0 h.1) (embedded_short 10 (duration_records t) [] l)) ∙ duration_said t h.0 h.1

modes_said_again : (o : Option ModeNumbers) (t : Option Span) → AreModes o → length (spelling (mode_records o)) < 2 ^ 64 → answer_modes (mode_records o ++ timeout_records t) ≡ o
modes_said_again None None h l = refl
modes_said_again None (Some t) h l = refl
modes_said_again (Some m) None h l = ap (λ (x : ModeNumbers). Some x) (modes_read m h l)
modes_said_again (Some m) (Some t) h l = ap (λ (x : ModeNumbers). Some x) (modes_read m h l)

timeout_said_again : (o : Option ModeNumbers) (t : Option Span) → IsTimeout t → length (spelling (timeout_records t)) < 2 ^ 64 → answer_timeout (mode_records o ++ timeout_records t) ≡ t
timeout_said_again None None h l = refl
timeout_said_again (Some m) None h l = refl
timeout_said_again None (Some t) h l = ap (λ (x : Span). Some x) (duration_read t h l)
timeout_said_again (Some m) (Some t) h l = ap (λ (x : Span). Some x) (duration_read t h l)

-- and neither sets a member
abbrev sets : Entry → Bool
sets e = not (eqb (answer_member e) 0)

none_set : (o : Option ModeNumbers) (t : Option Span) → filter sets (mode_records o ++ timeout_records t) ≡ []
none_set None None = refl
none_set (Some m) None = refl
none_set None (Some t) = refl
none_set (Some m) (Some t) = refl

latest_front : (es fs : List Entry) → filter sets fs ≡ [] → latest answer_member (es ++ fs) ≡ latest answer_member es
latest_front es fs none =
    ap (λ s. latest_in answer_member (reverse s)) (filter-append sets es fs ∙ ap (λ s. filter sets es ++ s) none ∙ append-nil (filter sets es))

-- ---- ProcessingResponse

answer_good : (a : Answer) → IsWritableAnswer a → AreGood answer_fault (answer_records a)
answer_good a w =
    good_append answer_fault (member_records a.member) (mode_records a.modes ++ timeout_records a.timeout) (member_good a.member w.member)
    (good_append answer_fault (mode_records a.modes) (timeout_records a.timeout) (modes_all_good a.modes w.modes) (timeout_all_good a.timeout w.timeout))

answer_said : (place : ℕ) (a : Answer) → IsWritableAnswer a → answer_value place (answer_records a) ≡ Ok a
answer_said place a w =
    let ms = member_records a.member in
    let rest = mode_records a.modes ++ timeout_records a.timeout in
    let short = append_short ms rest (omega (arith, w.short)) in
    let parts = append_short (mode_records a.modes) (timeout_records a.timeout) short.1 in
    let apart = members_apart a.member rest in
    let modes_are : answer_modes (answer_records a) ≡ a.modes = apart.0 ∙ modes_said_again a.modes a.timeout w.modes parts.0 in
    let timeout_is : answer_timeout (answer_records a) ≡ a.timeout = apart.1 ∙ timeout_said_again a.modes a.timeout w.timeout parts.1 in
    let run : latest answer_member (answer_records a) ≡ latest answer_member ms = latest_front ms rest (none_set a.modes a.timeout) in
    ap (λ o. with_member o (answer_timeout (answer_records a)) (member_by place (is_some (answer_timeout (answer_records a))) (latest answer_member (answer_records a)).0 (latest answer_member (answer_records a)).1)) modes_are
    ∙ ap (λ t. with_member a.modes t (member_by place (is_some t) (latest answer_member (answer_records a)).0 (latest answer_member (answer_records a)).1)) timeout_is
    ∙ ap (λ (r : ℕ × List Entry). with_member a.modes a.timeout (member_by place (is_some a.timeout) r.0 r.1)) run
    ∙ ap (with_member a.modes a.timeout) (member_said place a.member a.timeout w.member w.something short.0)

-- what is written of a writable answer is read as that answer
pub answer_again : (a : Answer) → IsWritableAnswer a → answer_of (answer a) ≡ Ok a
answer_again a w =
    let l : length (answer a) < 2 ^ 64 = omega (arith, w.short) in
    let good = answer_good a w in
    let place = last_place 7 (length (answer a)) (answer a) in
    ap (λ f. unless f (answer_value place (entries (answer a)))) (none_again answer_fault (answer_records a) good l (length (answer a)))
    ∙ ap (answer_value place) (same_again answer_fault (answer_records a) good l) ∙ answer_said place a w
