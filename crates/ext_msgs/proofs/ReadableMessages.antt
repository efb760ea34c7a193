-- An ask or an answer that was read can be written.
use Rattle.std.proofs.Common.{◌≡◌, ℕ, pos, negsuc, zero, suc, ◌-◌, ◌^◌, ◌<◌, ◌≤◌, Bool, true, false, cond, List, [], ◌∷◌, length, map, is_some, Option, Some, None, Result, Ok, Err, refl, sym, subst, ◌∙◌, arith, inl, inr, ◌⊎◌}
use Rattle.std.specs.List.{All, AllByRecursion}
use Rattle.std.specs.Int.{w32, w64, cast_signed}
use Rattle.std.specs.Int.RustNames.{FitsSigned}
use Rattle.std.proofs.lemmas.Bool.{cases_lt, lt-ltb, le-ltb}
use Rattle.std.proofs.lemmas.List.Elements.{All-from_recursion, recursion_from_All}
use Rattle.pb_wire.specs.Records.{Entry}
use Rattle.pb_wire.specs.Cursor.{Placed}
use Rattle.pb_wire.specs.Walk.{entries}
use Rattle.ext_msgs.specs.declared.fault.MsgFault.{MsgFault}
use Rattle.ext_msgs.specs.declared.fault.MsgFault.TheVariants.{BadNumber, NoMember}
use Rattle.ext_msgs.specs.declared.ask.Ask.{Ask}
use Rattle.ext_msgs.specs.declared.ask.Ask.TheVariants as asks
use Rattle.ext_msgs.specs.declared.answer.Span.{Span}
use Rattle.ext_msgs.specs.declared.answer.Member.{Member}
use Rattle.ext_msgs.specs.declared.answer.Member.TheVariants as members
use Rattle.ext_msgs.specs.declared.answer.Answer.{Answer}
use Rattle.ext_msgs.specs.Fields.{spans, varints, last_or, bytes_of, number_of, inside, if_any, low, int32, int64, latest, last_place}
use Rattle.ext_msgs.specs.MessageFault.{◌else◌, first_fault, number_within, message, no_fault, map_fault, fields_fault, ask_fault, mutation_fault, common_fault, response_fault, trailers_fault, status_fault, immediate_fault, member_fault, answer_fault}
use Rattle.ext_msgs.specs.MessageValue.{mutation, ask_member, headers_ask, body_ask, trailers_ask, ask_by, ask_value, code, immediate, modes, duration, answer_member, common, response, trailers, member_by, answer_modes, answer_timeout, answer_value}
use Rattle.ext_msgs.specs.Messages.{unless, ask_of, answer_of}
use Rattle.ext_msgs.specs.Spelling.{answer}
use Rattle.ext_msgs.specs.Writable.{HasTexts, IsWritableAsk, IsMutation, IsImmediate, IsMember, SaysSomething, AreModes, IsTimeout, IsWritableAnswer}
use Rattle.ext_msgs.proofs.Sizes.{entries_least, entries_bytes}
use Rattle.ext_msgs.proofs.Weights.{run_all}
use Rattle.ext_msgs.proofs.DoubledMessages.{same_done, not_done, unset_ask, unset_member, answer_parts, ask_twice, answer_twice}
use Rattle.ext_msgs.proofs.Readable.{none_left, none_right, IsClear, AreClear, clear_entries, Has, clear_inside, IsWithin, clear_numbers, fields_texts, mutation_is}

-- ---- what was read without a fault

pub record ReadFrom {X : Type 0} (found : Option MsgFault) (value : Result X MsgFault) (x : X) : Type 0 where
  pub none : found ≡ None
  pub says : value ≡ Ok x

read_from : {X : Type 0} (found : Option MsgFault) (value : Result X MsgFault) (x : X) → unless found value ≡ Ok x → ReadFrom found value x
read_from None value x e = record { none = refl; says = e }
read_from (Some f) value x e = absurd (not_done f x e)

-- ---- asks

-- the records of HttpHeaders or HttpTrailers
fields_inside : (es : List Entry) → AreClear fields_fault es → AreClear map_fault (inside 1 es)
fields_inside es h = clear_inside fields_fault map_fault 1 (λ p k. k) es h

-- one of the ask's fields
module _ (run : List Entry) (h : AreClear ask_fault run) where
  second : AreClear fields_fault (inside 2 run)
  second = clear_inside ask_fault fields_fault 2 (λ p k. none_left _ _ k) run h

  third : AreClear fields_fault (inside 3 run)
  third = clear_inside ask_fault fields_fault 3 (λ p k. none_left _ _ (none_right (message 2 fields_fault p) _ k)) run h

  sixth : AreClear fields_fault (inside 6 run)
  sixth = clear_inside ask_fault fields_fault 6 (λ p k. none_left _ _ (none_right (message 5 no_fault p) _ (none_right (message 4 no_fault p) _ (none_right (message 3 fields_fault p) _ (none_right (message 2 fields_fault p) _ k))))) run h

  seventh : AreClear fields_fault (inside 7 run)
  seventh = clear_inside ask_fault fields_fault 7 (λ p k. none_right (message 6 fields_fault p) _ (none_right (message 5 no_fault p) _ (none_right (message 4 no_fault p) _ (none_right (message 3 fields_fault p) _ (none_right (message 2 fields_fault p) _ k))))) run h

ask_texts : (n : ℕ) (run : List Entry) (a : Ask) → AreClear ask_fault run → ask_by n run ≡ Ok a → HasTexts a
ask_texts zero run a h e = absurd (not_done NoMember a e)
ask_texts (suc zero) run a h e = absurd (not_done NoMember a e)
ask_texts (suc (suc zero)) run a h e = subst HasTexts (same_done (headers_ask asks.RequestHeaders (inside 2 run)) a e) (fields_texts (inside 1 (inside 2 run)) (fields_inside (inside 2 run) (second run h)))
ask_texts (suc (suc (suc zero))) run a h e = subst HasTexts (same_done (headers_ask asks.ResponseHeaders (inside 3 run)) a e) (fields_texts (inside 1 (inside 3 run)) (fields_inside (inside 3 run) (third run h)))
ask_texts (suc (suc (suc (suc zero)))) run a h e = subst HasTexts (same_done (body_ask asks.RequestBody (inside 4 run)) a e) tt
ask_texts (suc (suc (suc (suc (suc zero))))) run a h e = subst HasTexts (same_done (body_ask asks.ResponseBody (inside 5 run)) a e) tt
ask_texts (suc (suc (suc (suc (suc (suc zero)))))) run a h e = subst HasTexts (same_done (trailers_ask asks.RequestTrailers (inside 6 run)) a e) (fields_texts (inside 1 (inside 6 run)) (fields_inside (inside 6 run) (sixth run h)))
ask_texts (suc (suc (suc (suc (suc (suc (suc zero))))))) run a h e = subst HasTexts (same_done (trailers_ask asks.ResponseTrailers (inside 7 run)) a e) (fields_texts (inside 1 (inside 7 run)) (fields_inside (inside 7 run) (seventh run h)))
ask_texts (suc (suc (suc (suc (suc (suc (suc (suc n)))))))) run a h e =
    absurd (not_done NoMember a (sym (unset_ask (suc (suc (suc (suc (suc (suc (suc (suc n)))))))) run (omega arith)) ∙ e))

pub ask_writable : (bytes : List ℕ) (a : Ask) → All (λ b. b < 256) bytes → length bytes < 2 ^ 30 → ask_of bytes ≡ Ok a → IsWritableAsk a
ask_writable bytes a all short e =
    let es = entries bytes in
    let r = read_from (first_fault ask_fault (length bytes) bytes) (ask_value es) a e in
    let are = recursion_from_All (λ b. b < 256) bytes all in
    let run = latest ask_member es in
    record {
      texts = ask_texts run.0 run.1 a (run_all (IsClear ask_fault) ask_member es (clear_entries ask_fault (length bytes) bytes r.none)) r.says;
      short = omega (arith, ask_twice es a (entries_bytes bytes are) r.says, entries_least bytes are);
    }

-- ---- the members of an answer

common_is : (es : List Entry) → AreClear common_fault es → IsMutation (common es).headers
common_is es h = mutation_is (inside 2 es) (clear_inside common_fault mutation_fault 2 (λ p k. none_left _ _ (none_right (number_within 1 0 1 p) _ k)) es h)

response_is : (es : List Entry) → AreClear response_fault es → IsMutation (response es).headers
response_is es h = common_is (inside 1 es) (clear_inside response_fault common_fault 1 (λ p k. k) es h)

trailers_are : (es : List Entry) → AreClear trailers_fault es → IsMutation (trailers es)
trailers_are es h = mutation_is (inside 1 es) (clear_inside trailers_fault mutation_fault 1 (λ p k. k) es h)

-- a code that was read is within bounds
code_within : (status : ℕ) (d : Option ℕ) (vs : List ℕ) → last_or d (map (λ v. Some (low v)) vs) ≡ Some status → AllByRecursion (IsWithin 200 599) vs → (d ≡ Some status) ⊎ ((200 ≤ status) × (status ≤ 599))
code_within status d [] e h = inl e
code_within status d (v ∷ vs) e h = elim (code_within status (Some (low v)) vs e h.1) [
  | inl last ↦ let is : low v ≡ status = cc in inr (omega (arith, is, h.0.0), omega (arith, is, h.0.1))
  | inr within ↦ inr within
]

immediate_is : (es : List Entry) (status : ℕ) → AreClear immediate_fault es → code es ≡ Some status → IsImmediate (record { code = status; headers = mutation (inside 2 es); body = bytes_of 3 es })
immediate_is es status h e =
    let inner = clear_inside immediate_fault status_fault 1 (λ p k. none_left _ _ k) es h in
    let within = code_within status None (varints 1 (inside 1 es)) e (clear_numbers status_fault 1 200 599 (λ p k. k) (inside 1 es) inner) in
    elim within [
      | inl none ↦ absurd cc
      | inr w ↦ record { least = w.0; most = w.1; headers = mutation_is (inside 2 es) (clear_inside immediate_fault mutation_fault 2 (λ p k. none_left _ _ (none_right (message 1 status_fault p) _ k)) es h) }
    ]

-- the members' faults are the answer's
members_in : Has answer_fault member_fault
members_in p k = none_right (message 10 no_fault p) _ (none_right (message 9 no_fault p) _ k)

module _ (run : List Entry) (h : AreClear answer_fault run) where
  responses : (n : ℕ) → Has member_fault (message n response_fault) → AreClear response_fault (inside n run)
  responses n has = clear_inside answer_fault response_fault n (λ p k. has p (members_in p k)) run h

  has_one : Has member_fault (message 1 response_fault)
  has_one p k = none_left _ _ k

  has_two : Has member_fault (message 2 response_fault)
  has_two p k = none_left _ _ (none_right (message 1 response_fault p) _ k)

  has_three : Has member_fault (message 3 response_fault)
  has_three p k = none_left _ _ (none_right (message 2 response_fault p) _ (none_right (message 1 response_fault p) _ k))

  after_three : (p : Placed) → member_fault p ≡ None → message 4 response_fault p else message 5 trailers_fault p else message 6 trailers_fault p else message 7 immediate_fault p ≡ None
  after_three p k = none_right (message 3 response_fault p) _ (none_right (message 2 response_fault p) _ (none_right (message 1 response_fault p) _ k))

  has_four : Has member_fault (message 4 response_fault)
  has_four p k = none_left _ _ (after_three p k)

  fifth : AreClear trailers_fault (inside 5 run)
  fifth = clear_inside answer_fault trailers_fault 5 (λ p k. none_left _ _ (none_right (message 4 response_fault p) _ (after_three p (members_in p k)))) run h

  sixth_of : AreClear trailers_fault (inside 6 run)
  sixth_of = clear_inside answer_fault trailers_fault 6 (λ p k. none_left _ _ (none_right (message 5 trailers_fault p) _ (none_right (message 4 response_fault p) _ (after_three p (members_in p k))))) run h

  seventh_of : AreClear immediate_fault (inside 7 run)
  seventh_of = clear_inside answer_fault immediate_fault 7 (λ p k. none_right (message 6 trailers_fault p) _ (none_right (message 5 trailers_fault p) _ (none_right (message 4 response_fault p) _ (after_three p (members_in p k))))) run h

-- what is said of a member, and of there being one
record Allowed (timed : Bool) (m : Member) : Type 0 where
  pub member : IsMember m
  pub something : (timeout : Option Span) → is_some timeout ≡ timed → SaysSomething m timeout

allowed_unset : (timed : Bool) (m : Member) → cond timed (Ok members.Unset) (Err NoMember) ≡ Ok m → Allowed timed m
allowed_unset false m e = absurd (not_done NoMember m e)
allowed_unset true m e = subst (Allowed true) (same_done members.Unset m e) (record { member = tt; something = some })
  where
    some : (timeout : Option Span) → is_some timeout ≡ true → SaysSomething members.Unset timeout
    some None q = absurd cc
    some (Some t) q = tt

allowed_reply : (timed : Bool) (run : List Entry) (place : ℕ) (m : Member) (o : Option ℕ) → AreClear answer_fault run → code (inside 7 run) ≡ o → immediate place o (inside 7 run) ≡ Ok m → Allowed timed m
allowed_reply timed run place m None h c e = absurd (not_done (BadNumber place) m e)
allowed_reply timed run place m (Some status) h c e =
    subst (Allowed timed) (same_done (members.Immediate (record { code = status; headers = mutation (inside 2 (inside 7 run)); body = bytes_of 3 (inside 7 run) })) m e)
    (record { member = immediate_is (inside 7 run) status (seventh_of run h) c; something = λ t q. tt })

allowed_member : (place : ℕ) (timed : Bool) (n : ℕ) (run : List Entry) (m : Member) → AreClear answer_fault run → member_by place timed n run ≡ Ok m → Allowed timed m
allowed_member place timed zero run m h e = allowed_unset timed m e
allowed_member place timed (suc zero) run m h e = subst (Allowed timed) (same_done (members.RequestHeaders (response (inside 1 run))) m e) (record { member = response_is (inside 1 run) (responses run h 1 (has_one run h)); something = λ t q. tt })
allowed_member place timed (suc (suc zero)) run m h e = subst (Allowed timed) (same_done (members.ResponseHeaders (response (inside 2 run))) m e) (record { member = response_is (inside 2 run) (responses run h 2 (has_two run h)); something = λ t q. tt })
allowed_member place timed (suc (suc (suc zero))) run m h e = subst (Allowed timed) (same_done (members.RequestBody (response (inside 3 run))) m e) (record { member = response_is (inside 3 run) (responses run h 3 (has_three run h)); something = λ t q. tt })
allowed_member place timed (suc (suc (suc (suc zero)))) run m h e = subst (Allowed timed) (same_done (members.ResponseBody (response (inside 4 run))) m e) (record { member = response_is (inside 4 run) (responses run h 4 (has_four run h)); something = λ t q. tt })
allowed_member place timed (suc (suc (suc (suc (suc zero))))) run m h e = subst (Allowed timed) (same_done (members.RequestTrailers (trailers (inside 5 run))) m e) (record { member = trailers_are (inside 5 run) (fifth run h); something = λ t q. tt })
allowed_member place timed (suc (suc (suc (suc (suc (suc zero)))))) run m h e = subst (Allowed timed) (same_done (members.ResponseTrailers (trailers (inside 6 run))) m e) (record { member = trailers_are (inside 6 run) (sixth_of run h); something = λ t q. tt })
allowed_member place timed (suc (suc (suc (suc (suc (suc (suc zero))))))) run m h e = allowed_reply timed run place m (code (inside 7 run)) h refl e
allowed_member place timed (suc (suc (suc (suc (suc (suc (suc (suc n)))))))) run m h e =
    allowed_unset timed m (sym (unset_member place timed (suc (suc (suc (suc (suc (suc (suc (suc n)))))))) run (omega arith)) ∙ e)

-- ---- the overrides of an answer

-- a number of so many bits, as two's complement
signed_fits : (v : ℕ) → v < 2 ^ 32 → FitsSigned w32 (cast_signed w32 v)
signed_fits v h = elim (cases_lt v (2 ^ 31)) [
  | inl lt ↦ let e : cast_signed w32 v ≡ pos v = rw (lt-ltb v (2 ^ 31) lt) refl in subst (FitsSigned w32) (sym e) (record { sfits = omega arith })
  | inr le ↦ let e : cast_signed w32 v ≡ negsuc (2 ^ 32 - suc v) = rw (le-ltb v (2 ^ 31) le) refl in subst (FitsSigned w32) (sym e) (record { sfits = omega arith })
]

int32_fits : (v : ℕ) → FitsSigned w32 (int32 v)
int32_fits v = signed_fits (low v) (omega arith)

int64_fits : (v : ℕ) → FitsSigned w64 (int64 v)
int64_fits v = elim (cases_lt v (2 ^ 63)) [
  | inl lt ↦ let e : int64 v ≡ pos v = rw (lt-ltb v (2 ^ 63) lt) refl in subst (FitsSigned w64) (sym e) (record { sfits = omega arith })
  | inr le ↦ let e : int64 v ≡ negsuc (2 ^ 64 - suc v) = rw (le-ltb v (2 ^ 63) le) refl in subst (FitsSigned w64) (sym e) (record { sfits = omega arith })
]

modes_are : (es : List Entry) → AreModes (answer_modes es)
modes_are es = by_spans (spans 9 es)
  where
    by_spans : (bs : List (List ℕ)) → AreModes (if_any bs (modes (inside 9 es)))
    by_spans [] = tt
    by_spans (b ∷ bs) = let m = inside 9 es in (
      refl,
      All-from_recursion (FitsSigned w32) (modes m).numbers (int32_fits (number_of 1 m), (int32_fits (number_of 2 m), (int32_fits (number_of 3 m), (int32_fits (number_of 4 m), (int32_fits (number_of 5 m), (int32_fits (number_of 6 m), tt)))))),
    )

timeout_is : (es : List Entry) → IsTimeout (answer_timeout es)
timeout_is es = by_spans (spans 10 es)
  where
    by_spans : (bs : List (List ℕ)) → IsTimeout (if_any bs (duration (inside 10 es)))
    by_spans [] = tt
    by_spans (b ∷ bs) = (int64_fits (number_of 1 (inside 10 es)), int32_fits (number_of 2 (inside 10 es)))

-- ---- answers

pub answer_writable : (bytes : List ℕ) (a : Answer) → All (λ b. b < 256) bytes → length bytes < 2 ^ 30 → answer_of bytes ≡ Ok a → IsWritableAnswer a
answer_writable bytes a all short e =
    let es = entries bytes in
    let place = last_place 7 (length bytes) bytes in
    let r = read_from (first_fault answer_fault (length bytes) bytes) (answer_value place es) a e in
    let are = recursion_from_All (λ b. b < 256) bytes all in
    let run = latest answer_member es in
    let timed = is_some (answer_timeout es) in
    let p = answer_parts (answer_modes es) (answer_timeout es) (member_by place timed run.0 run.1) a r.says in
    let m = allowed_member place timed run.0 run.1 p.0 (run_all (IsClear answer_fault) answer_member es (clear_entries answer_fault (length bytes) bytes r.none)) p.1 in
    let twice = answer_twice place es a (entries_bytes bytes are) r.says in
    let long : length (answer a) < 2 ^ 31 = omega (arith, twice, entries_least bytes are) in
    subst IsWritableAnswer p.2 (record { member = m.member; something = m.something (answer_timeout es) refl; modes = modes_are es; timeout = timeout_is es; short = subst (λ (x : Answer). length (answer x) < 2 ^ 31) (sym p.2) long })
