-- The answer of all records is the one that reading adds up.
use Rattle.std.proofs.Common.{◌≡◌, ℕ, zero, suc, ◌≤◌, Bool, false, cond, eqb, ltb, arith, is_some, option_map, List, [], ◌∷◌, ◌++◌, Option, Some, None, Result, length, refl, sym, ap, subst, ◌∙◌, fold}
use Rattle.std.proofs.lemmas.Bool.{eq-eqb, ne_eqb, le-ltb}
use Rattle.std.proofs.Math.Bool.{and-false}
use Rattle.pb_wire.specs.Records.{Entry}
use Rattle.pb_wire.specs.Walk.{entries}
use Rattle.ext_msgs.specs.declared.fault.MsgFault.{MsgFault}
use Rattle.ext_msgs.specs.declared.answer_parts.AnswerParts.{AnswerParts}
use Rattle.ext_msgs.specs.declared.answer.Answer.{Answer}
use Rattle.ext_msgs.specs.declared.overrides.ModeParts.{ModeParts}
use Rattle.ext_msgs.specs.Fields.{span_at, bytes_in, spans, inside, if_any, low, int32, int64, latest, last_place}
use Rattle.ext_msgs.specs.MessageFault.{first_fault, answer_fault}
use Rattle.ext_msgs.specs.MessageValue.{mutation, body_change, is_one, common, code, immediate, duration, Kind, no_kind, answers, trails, ends, kind_of, answer_member, answer_modes, answer_timeout, with_member, member_by, answer_value}
use Rattle.ext_msgs.specs.Messages.{answer_of, IsRead}
use Rattle.ext_msgs.specs.Parts.{filled, mutation_add, body_add, common_add, response_parts, response_add, trailer_parts, trailer_add, status_parts, status_add, immediate_parts, immediate_add, fresh_member, member_from, member_run, member_parts, entered_member, grown_member, member_add, finished_immediate, finished_member, mode_parts, modes_add, finished_modes, duration_add, answer_parts, answer_add, finished_answer}
use Rattle.ext_msgs.proofs.Fold.{AddsOne}
use Rattle.ext_msgs.proofs.FieldLaws.{bytes_push, seen_push, optional_push, inside_push, any_push}
use Rattle.ext_msgs.proofs.MutationLaws.{mutation_one}
use Rattle.ext_msgs.proofs.BodyLaws.{body_one}
use Rattle.ext_msgs.proofs.Oneof.{oneof_one}
use Rattle.ext_msgs.proofs.Whole.{is_read}

pub common_one : AddsOne common_add common
common_one es e = rw (seen_push is_one 1 es e, inside_push mutation_add mutation mutation_one 2 es e, inside_push body_add body_change body_one 3 es e) refl

pub response_one : AddsOne response_add response_parts
response_one es e = rw (inside_push common_add common common_one 1 es e) refl

pub trailers_one : AddsOne trailer_add trailer_parts
trailers_one es e = rw (inside_push mutation_add mutation mutation_one 1 es e) refl

pub status_one : AddsOne status_add status_parts
status_one es e = rw (optional_push (λ n. Some (low n)) None 1 es e) refl

pub immediate_one : AddsOne immediate_add immediate_parts
immediate_one es e = rw (inside_push status_add status_parts status_one 1 es e, inside_push mutation_add mutation mutation_one 2 es e, bytes_push 3 es e) refl

-- ---- the oneof

-- the number of a member's value
number_is : (k : Kind) (n : ℕ) (run : List Entry) → (member_from k n run).number ≡ n
number_is no_kind n run = refl
number_is answers n run = refl
number_is trails n run = refl
number_is ends n run = refl

-- an occurrence of the member, with its bytes
pub inside_more : {S : Type 0} (add : S → Entry → S) (value : List Entry → S) → AddsOne add value → (run : List Entry) (e : Entry) (bytes : List ℕ) → bytes_in e.content ≡ Some bytes → fold add (value (inside e.number run)) (entries bytes) ≡ value (inside e.number (run ++ e ∷ []))
inside_more add value one run e bytes p =
    let found : span_at e.number e ≡ Some bytes = rw (eq-eqb e.number e.number refl) p in
    ap (filled add (value (inside e.number run))) (sym found) ∙ inside_push add value one e.number run e

zero_is : (n : ℕ) (k : Kind) → kind_of n ≡ k → n ≡ 0 → k ≡ no_kind
zero_is n k q z = sym q ∙ subst (λ (m : ℕ). kind_of m ≡ no_kind) (sym z) refl

-- where the member's number differs it begins anew
anew : (n m : ℕ) (run : List Entry) → (n ≡ m → ⊥) → entered_member (member_run n run) m ≡ fresh_member m
anew n m run ne = let test : eqb (member_run n run).number m ≡ false = ap (λ (k : ℕ). eqb k m) (number_is (kind_of n) n run) ∙ ne_eqb n m ne in ap (λ b. cond b (member_run n run) (fresh_member m)) test

module _ (e : Entry) where
  keeps : (n : ℕ) (run : List Entry) (o : Option (List ℕ)) (k : Kind) → bytes_in e.content ≡ o → kind_of e.number ≡ k → answer_member e ≡ 0 → member_add (member_run n run) e ≡ member_run n run
  keeps n run None k p q h = rw p refl
  keeps n run (Some bytes) no_kind p q h = rw (p, q) refl
  keeps n run (Some bytes) answers p q h = let z : e.number ≡ 0 = rw (p, q) at h in let no = zero_is e.number answers q z in absurd cc
  keeps n run (Some bytes) trails p q h = let z : e.number ≡ 0 = rw (p, q) at h in let no = zero_is e.number trails q z in absurd cc
  keeps n run (Some bytes) ends p q h = let z : e.number ≡ 0 = rw (p, q) at h in let no = zero_is e.number ends q z in absurd cc

  joins : (run : List Entry) (o : Option (List ℕ)) (k : Kind) → bytes_in e.content ≡ o → kind_of e.number ≡ k → (answer_member e ≡ 0 → ⊥) → (answer_member e ≡ e.number) × (member_add (member_run e.number run) e ≡ member_run e.number (run ++ e ∷ []))
  joins run None k p q h = absurd (h (rw p refl))
  joins run (Some bytes) no_kind p q h = absurd (h (rw (p, q) refl))
  joins run (Some bytes) answers p q h = (rw (p, q) refl, rw (p, q, eq-eqb e.number e.number refl) (ap (λ r. record { number = e.number; response = r; trailers = trailer_parts []; immediate = immediate_parts [] }) (inside_more response_add response_parts response_one run e bytes p)))
  joins run (Some bytes) trails p q h = (rw (p, q) refl, rw (p, q, eq-eqb e.number e.number refl) (ap (λ r. record { number = e.number; response = response_parts []; trailers = r; immediate = immediate_parts [] }) (inside_more trailer_add trailer_parts trailers_one run e bytes p)))
  joins run (Some bytes) ends p q h = (rw (p, q) refl, rw (p, q, eq-eqb e.number e.number refl) (ap (λ r. record { number = e.number; response = response_parts []; trailers = trailer_parts []; immediate = r }) (inside_more immediate_add immediate_parts immediate_one run e bytes p)))

  starts : (n : ℕ) (run : List Entry) (o : Option (List ℕ)) (k : Kind) → bytes_in e.content ≡ o → kind_of e.number ≡ k → (answer_member e ≡ 0 → ⊥) → (n ≡ e.number → ⊥) → member_add (member_run n run) e ≡ member_run e.number (e ∷ [])
  starts n run None k p q h ne = absurd (h (rw p refl))
  starts n run (Some bytes) no_kind p q h ne = absurd (h (rw (p, q) refl))
  starts n run (Some bytes) answers p q h ne = rw (p, q) (ap (λ m. grown_member answers m (entries bytes)) (anew n e.number run ne) ∙ ap (λ r. record { number = e.number; response = r; trailers = trailer_parts []; immediate = immediate_parts [] }) (inside_more response_add response_parts response_one [] e bytes p))
  starts n run (Some bytes) trails p q h ne = rw (p, q) (ap (λ m. grown_member trails m (entries bytes)) (anew n e.number run ne) ∙ ap (λ r. record { number = e.number; response = response_parts []; trailers = r; immediate = immediate_parts [] }) (inside_more trailer_add trailer_parts trailers_one [] e bytes p))
  starts n run (Some bytes) ends p q h ne = rw (p, q) (ap (λ m. grown_member ends m (entries bytes)) (anew n e.number run ne) ∙ ap (λ r. record { number = e.number; response = response_parts []; trailers = trailer_parts []; immediate = r }) (inside_more immediate_add immediate_parts immediate_one [] e bytes p))

pub member_one : AddsOne member_add member_parts
member_one = oneof_one answer_member member_run member_add
    (λ n run e h. keeps e n run (bytes_in e.content) (kind_of e.number) refl refl h)
    (λ run e h. let j = joins e run (bytes_in e.content) (kind_of e.number) refl refl h in subst (λ (m : ℕ). member_add (member_run m run) e ≡ member_run m (run ++ e ∷ [])) (sym j.0) j.1)
    (λ n run e h ne.
    let j = joins e run (bytes_in e.content) (kind_of e.number) refl refl h in
    starts e n run (bytes_in e.content) (kind_of e.number) refl refl h (λ x. ne (x ∙ sym j.0)) ∙ ap (λ (m : ℕ). member_run m (e ∷ [])) (sym j.0))

-- ---- the whole

pub modes_one : AddsOne modes_add mode_parts
modes_one es e = rw (seen_push int32 1 es e, seen_push int32 2 es e, seen_push int32 3 es e, seen_push int32 4 es e, seen_push int32 5 es e, seen_push int32 6 es e) refl

pub duration_one : AddsOne duration_add duration
duration_one es e = rw (seen_push int64 1 es e, seen_push int32 2 es e) refl

pub answer_one : AddsOne answer_add answer_parts
answer_one es e =
    let m = member_one es e in
    rw (m, any_push modes_add mode_parts modes_one 9 es e, any_push duration_add duration duration_one 10 es e) refl

-- ---- what is kept of all records makes the answer

-- a number that is no member's
no_member : (n : ℕ) → 8 ≤ n → kind_of n ≡ no_kind
no_member n le = rw (le-ltb n 5 (omega arith), le-ltb n 7 (omega arith), ne_eqb n 7 (omega arith), and-false (ltb 0 n), and-false (ltb 4 n)) refl

unset : (place : ℕ) (timed : Bool) (n : ℕ) (run : List Entry) → 8 ≤ n → finished_member place timed (member_run n run) ≡ member_by place timed n run
unset place timed n run le =
    rw (no_member n le, ne_eqb n 1 (omega arith), ne_eqb n 2 (omega arith), ne_eqb n 3 (omega arith), ne_eqb n 4 (omega arith), ne_eqb n 5 (omega arith), ne_eqb n 6 (omega arith), ne_eqb n 7 (omega arith)) refl

ended : (place : ℕ) (timed : Bool) (run : List Entry) → finished_member place timed (member_run 7 run) ≡ member_by place timed 7 run
ended place timed run = by_code (code (inside 7 run))
  where
    by_code : (o : Option ℕ) → finished_immediate place o (immediate_parts (inside 7 run)) ≡ immediate place o (inside 7 run)
    by_code None = refl
    by_code (Some n) = refl

member_is : (place : ℕ) (timed : Bool) (n : ℕ) (run : List Entry) → finished_member place timed (member_run n run) ≡ member_by place timed n run
member_is place timed zero run = refl
member_is place timed (suc zero) run = refl
member_is place timed (suc (suc zero)) run = refl
member_is place timed (suc (suc (suc zero))) run = refl
member_is place timed (suc (suc (suc (suc zero)))) run = refl
member_is place timed (suc (suc (suc (suc (suc zero))))) run = refl
member_is place timed (suc (suc (suc (suc (suc (suc zero)))))) run = refl
member_is place timed (suc (suc (suc (suc (suc (suc (suc zero))))))) run = ended place timed run
member_is place timed (suc (suc (suc (suc (suc (suc (suc (suc n)))))))) run = unset place timed (suc (suc (suc (suc (suc (suc (suc (suc n)))))))) run (omega arith)

modes_are : (bs : List (List ℕ)) (m : ModeParts) → option_map finished_modes (if_any bs m) ≡ if_any bs (finished_modes m)
modes_are [] m = refl
modes_are (b ∷ bs) m = refl

answer_is : (place : ℕ) (es : List Entry) → finished_answer place (answer_parts es) ≡ answer_value place es
answer_is place es =
    let timed = is_some (answer_timeout es) in
    let run = latest answer_member es in
    ap (λ m. with_member m (answer_timeout es) (finished_member place timed (member_parts es))) (modes_are (spans 9 es) (mode_parts (inside 9 es)))
    ∙ ap (with_member (answer_modes es) (answer_timeout es)) (member_is place timed run.0 run.1)

pub is_answer : (bytes : List ℕ) (a : AnswerParts) (r : Result Answer MsgFault) → first_fault answer_fault (length bytes) bytes ≡ None → a ≡ answer_parts (entries bytes) → r ≡ finished_answer (last_place 7 (length bytes) bytes) a → IsRead r (answer_of bytes)
is_answer bytes a r none is_a is_r =
    let place = last_place 7 (length bytes) bytes in
    is_read (first_fault answer_fault (length bytes) bytes) (answer_value place (entries bytes)) r none (is_r ∙ ap (finished_answer place) is_a ∙ answer_is place (entries bytes))
