-- The ask of all records is the one that reading adds up.
use Rattle.std.proofs.Common.{◌≡◌, ℕ, zero, suc, ◌≤◌, false, cond, eqb, ltb, arith, List, [], ◌∷◌, ◌++◌, Option, Some, None, Result, length, refl, sym, ap, subst, ◌∙◌, fold}
use Rattle.std.proofs.lemmas.Bool.{eq-eqb, ne_eqb, le-ltb}
use Rattle.std.proofs.Math.Bool.{and-false}
use Rattle.pb_wire.specs.Records.{Entry}
use Rattle.pb_wire.specs.Walk.{entries}
use Rattle.ext_msgs.specs.declared.fault.MsgFault.{MsgFault}
use Rattle.ext_msgs.specs.declared.ask_parts.AskParts.{AskParts}
use Rattle.ext_msgs.specs.declared.ask.Ask.{Ask}
use Rattle.ext_msgs.specs.Fields.{bytes_in, is_set, latest}
use Rattle.ext_msgs.specs.MessageFault.{first_fault, ask_fault}
use Rattle.ext_msgs.specs.MessageValue.{field, Part, no_part, heads, bodies, tails, part_of, ask_member, ask_by, ask_value}
use Rattle.ext_msgs.specs.Messages.{ask_of, IsRead}
use Rattle.ext_msgs.specs.Parts.{header_parts, header_add, finished_field, stream_parts, stream_add, map_parts, map_add, head_parts, head_add, tail_parts, tail_add, fresh_ask, ask_from, ask_run, ask_parts, entered_ask, grown_ask, ask_add, finished_ask}
use Rattle.ext_msgs.proofs.Fold.{AddsOne, fold_all}
use Rattle.ext_msgs.proofs.FieldLaws.{seen_push, inside_push, repeated_push}
use Rattle.ext_msgs.proofs.MutationLaws.{header_one}
use Rattle.ext_msgs.proofs.BodyLaws.{stream_one}
use Rattle.ext_msgs.proofs.Oneof.{oneof_one}
use Rattle.ext_msgs.proofs.AnswerLaws.{inside_more}
use Rattle.ext_msgs.proofs.Whole.{is_read}

pub map_one : AddsOne map_add map_parts
map_one es e = rw (repeated_push (λ b. field (entries b)) (λ b. finished_field (fold header_add (header_parts []) (entries b))) (λ b. ap finished_field (fold_all header_add header_parts header_one (entries b))) 1 es e) refl

pub head_one : AddsOne head_add head_parts
head_one es e = rw (inside_push map_add map_parts map_one 1 es e, seen_push is_set 3 es e) refl

pub tail_one : AddsOne tail_add tail_parts
tail_one es e = rw (inside_push map_add map_parts map_one 1 es e) refl

-- ---- the oneof

-- the number of a member's value
number_is : (k : Part) (n : ℕ) (run : List Entry) → (ask_from k n run).number ≡ n
number_is no_part n run = refl
number_is heads n run = refl
number_is bodies n run = refl
number_is tails n run = refl

zero_is : (n : ℕ) (k : Part) → part_of n ≡ k → n ≡ 0 → k ≡ no_part
zero_is n k q z = sym q ∙ subst (λ (m : ℕ). part_of m ≡ no_part) (sym z) refl

-- where the member's number differs it begins anew
anew : (n m : ℕ) (run : List Entry) → (n ≡ m → ⊥) → entered_ask (ask_run n run) m ≡ fresh_ask m
anew n m run ne = let test : eqb (ask_run n run).number m ≡ false = ap (λ (k : ℕ). eqb k m) (number_is (part_of n) n run) ∙ ne_eqb n m ne in ap (λ b. cond b (ask_run n run) (fresh_ask m)) test

module _ (e : Entry) where
  keeps : (n : ℕ) (run : List Entry) (o : Option (List ℕ)) (k : Part) → bytes_in e.content ≡ o → part_of e.number ≡ k → ask_member e ≡ 0 → ask_add (ask_run n run) e ≡ ask_run n run
  keeps n run None k p q h = rw p refl
  keeps n run (Some bytes) no_part p q h = rw (p, q) refl
  keeps n run (Some bytes) heads p q h = let z : e.number ≡ 0 = rw (p, q) at h in let no = zero_is e.number heads q z in absurd cc
  keeps n run (Some bytes) bodies p q h = let z : e.number ≡ 0 = rw (p, q) at h in let no = zero_is e.number bodies q z in absurd cc
  keeps n run (Some bytes) tails p q h = let z : e.number ≡ 0 = rw (p, q) at h in let no = zero_is e.number tails q z in absurd cc

  joins : (run : List Entry) (o : Option (List ℕ)) (k : Part) → bytes_in e.content ≡ o → part_of e.number ≡ k → (ask_member e ≡ 0 → ⊥) → (ask_member e ≡ e.number) × (ask_add (ask_run e.number run) e ≡ ask_run e.number (run ++ e ∷ []))
  joins run None k p q h = absurd (h (rw p refl))
  joins run (Some bytes) no_part p q h = absurd (h (rw (p, q) refl))
  joins run (Some bytes) heads p q h = (rw (p, q) refl, rw (p, q, eq-eqb e.number e.number refl) (ap (λ r. record { number = e.number; head = r; body = stream_parts []; tail = tail_parts [] }) (inside_more head_add head_parts head_one run e bytes p)))
  joins run (Some bytes) bodies p q h = (rw (p, q) refl, rw (p, q, eq-eqb e.number e.number refl) (ap (λ r. record { number = e.number; head = head_parts []; body = r; tail = tail_parts [] }) (inside_more stream_add stream_parts stream_one run e bytes p)))
  joins run (Some bytes) tails p q h = (rw (p, q) refl, rw (p, q, eq-eqb e.number e.number refl) (ap (λ r. record { number = e.number; head = head_parts []; body = stream_parts []; tail = r }) (inside_more tail_add tail_parts tail_one run e bytes p)))

  starts : (n : ℕ) (run : List Entry) (o : Option (List ℕ)) (k : Part) → bytes_in e.content ≡ o → part_of e.number ≡ k → (ask_member e ≡ 0 → ⊥) → (n ≡ e.number → ⊥) → ask_add (ask_run n run) e ≡ ask_run e.number (e ∷ [])
  starts n run None k p q h ne = absurd (h (rw p refl))
  starts n run (Some bytes) no_part p q h ne = absurd (h (rw (p, q) refl))
  starts n run (Some bytes) heads p q h ne = rw (p, q) (ap (λ m. grown_ask heads m (entries bytes)) (anew n e.number run ne) ∙ ap (λ r. record { number = e.number; head = r; body = stream_parts []; tail = tail_parts [] }) (inside_more head_add head_parts head_one [] e bytes p))
  starts n run (Some bytes) bodies p q h ne = rw (p, q) (ap (λ m. grown_ask bodies m (entries bytes)) (anew n e.number run ne) ∙ ap (λ r. record { number = e.number; head = head_parts []; body = r; tail = tail_parts [] }) (inside_more stream_add stream_parts stream_one [] e bytes p))
  starts n run (Some bytes) tails p q h ne = rw (p, q) (ap (λ m. grown_ask tails m (entries bytes)) (anew n e.number run ne) ∙ ap (λ r. record { number = e.number; head = head_parts []; body = stream_parts []; tail = r }) (inside_more tail_add tail_parts tail_one [] e bytes p))

pub ask_one : AddsOne ask_add ask_parts
ask_one = oneof_one ask_member ask_run ask_add
    (λ n run e h. keeps e n run (bytes_in e.content) (part_of e.number) refl refl h)
    (λ run e h. let j = joins e run (bytes_in e.content) (part_of e.number) refl refl h in subst (λ (m : ℕ). ask_add (ask_run m run) e ≡ ask_run m (run ++ e ∷ [])) (sym j.0) j.1)
    (λ n run e h ne.
    let j = joins e run (bytes_in e.content) (part_of e.number) refl refl h in
    starts e n run (bytes_in e.content) (part_of e.number) refl refl h (λ x. ne (x ∙ sym j.0)) ∙ ap (λ (m : ℕ). ask_run m (e ∷ [])) (sym j.0))

-- ---- what is kept of all records makes the ask

-- a number that is no member's
no_member : (n : ℕ) → 8 ≤ n → part_of n ≡ no_part
no_member n le = rw (le-ltb n 4 (omega arith), le-ltb n 6 (omega arith), le-ltb n 8 le, and-false (ltb 1 n), and-false (ltb 3 n), and-false (ltb 5 n)) refl

unset : (n : ℕ) (run : List Entry) → 8 ≤ n → finished_ask (ask_run n run) ≡ ask_by n run
unset n run le =
    rw (no_member n le, ne_eqb n 2 (omega arith), ne_eqb n 3 (omega arith), ne_eqb n 4 (omega arith), ne_eqb n 5 (omega arith), ne_eqb n 6 (omega arith), ne_eqb n 7 (omega arith)) refl

run_is : (n : ℕ) (run : List Entry) → finished_ask (ask_run n run) ≡ ask_by n run
run_is zero run = refl
run_is (suc zero) run = refl
run_is (suc (suc zero)) run = refl
run_is (suc (suc (suc zero))) run = refl
run_is (suc (suc (suc (suc zero)))) run = refl
run_is (suc (suc (suc (suc (suc zero))))) run = refl
run_is (suc (suc (suc (suc (suc (suc zero)))))) run = refl
run_is (suc (suc (suc (suc (suc (suc (suc zero))))))) run = refl
run_is (suc (suc (suc (suc (suc (suc (suc (suc n)))))))) run = unset (suc (suc (suc (suc (suc (suc (suc (suc n)))))))) run (omega arith)

pub is_ask : (bytes : List ℕ) (a : AskParts) (r : Result Ask MsgFault) → first_fault ask_fault (length bytes) bytes ≡ None → a ≡ ask_parts (entries bytes) → r ≡ finished_ask a → IsRead r (ask_of bytes)
is_ask bytes a r none is_a is_r =
    let run = latest ask_member (entries bytes) in
    is_read (first_fault ask_fault (length bytes) bytes) (ask_value (entries bytes)) r none (is_r ∙ ap finished_ask is_a ∙ run_is run.0 run.1)
