-- From the parts of a head to the message.
use Rattle.std.proofs.Common.{inl, inr, sym, ◌∙◌, ap, subst, refl, arith, length-append, length-drop}
use Rattle.std.specs.Prelude.{ℕ, zero, suc, ◌≡◌, ◌⊎◌, ◌+◌, ◌-◌, ◌<◌, ◌≤◌, Bool, true, false, not, ◌&&◌, List, [], ◌∷◌, ◌++◌, length, take, drop, Option, Some, None, Ok, Err, codes, bytes_eq}
use Rattle.std.proofs.lemmas.List.{drop-drop}
use Rattle.std.proofs.Math.Seq.{take-append_seam, drop-append-add}
use Rattle.http_model.specs.Bytes.{begins_with}
use Rattle.http_model.specs.Reading.{Reading, Whole, Partial, Bad, Fault, onward}
use Rattle.http_model.specs.Reading as reading
use Rattle.http_model.specs.Heads.{StatusLine, is_interim, final_of, response_message_in, response_message, request_message, request_fault, request_head, unless, request_of, behind_interims, or_behind, Head, response_head, message_head, RequestLine, head_limit, head_lines, request_line, status_line}
use Rattle.http_model.specs.declared.types.Direction.{Direction}
use Rattle.http_model.specs.declared.types.Direction.TheVariants.{Request, Response}
use Rattle.ext_msgs.specs.declared.lists.Field as model
use Rattle.h1_read.specs.declared.fault.H1Fault.{H1Fault}
use Rattle.h1_read.specs.declared.fault.H1Fault.TheVariants.{BadHead, LongHead, BadLength, BadChunk, Version, Method, CutShort, Memory}
use Rattle.h1_read.specs.declared.message.Message.{Message}
use Rattle.h1_read.specs.declared.head.RequestParts.{RequestParts}
use Rattle.h1_read.specs.declared.head.ResponseParts.{ResponseParts}
use Rattle.h1_read.specs.HeadParts.{request_lines, response_lines, line_of_parts, status_of_parts, IsWholeRequest, IsWholeResponse}
use Rattle.h1_read.specs.Messages.{head_of, IsFault, Judges, final_fault}
use Rattle.h1_read.specs.Steps.{IsOpen, IsPast, IsInterim, IsFinal, IsBadTurn, IsTurn, IsGot, IsLeft, IsBadStep, IsStep}
use Rattle.h1_read.proofs.WholeBehind.{open_within}
use Rattle.h1_read.proofs.StepLaw.{some_used, request_past, response_past}

-- What was judged

judged_ok : (o : Option Fault) (h : Head) (m : Message) → Judges o h (Ok m) → (rest : List ℕ) → unless o h rest ≡ Whole (head_of m) rest
judged_ok None h m x rest = ap (λ g. Whole g rest) (sym x)
judged_ok (Some f) h m x rest = absurd x

-- the fault of a head, unless memory ran out
record Faulty (o : Option Fault) (e : H1Fault) : Type 0 where
  fault : Fault
  is : IsFault e fault
  there : o ≡ Some fault

judged_err : (o : Option Fault) (h : Head) (e : H1Fault) → Judges o h (Err e) → (e ≡ Memory) ⊎ Faulty o e
judged_err (Some f) h e x = inr (record { fault = f; is = x; there = refl })
judged_err None h Memory x = inl refl
judged_err None h BadHead x = absurd x
judged_err None h LongHead x = absurd x
judged_err None h BadLength x = absurd x
judged_err None h BadChunk x = absurd x
judged_err None h Version x = absurd x
judged_err None h Method x = absurd x
judged_err None h CutShort x = absurd x

-- One response

unfoldable pub after_lines : ℕ → Bool → Reading (StatusLine × List model.Field) → Reading Head
after_lines n to_head r = onward r (λ h rest.
    elim (is_interim h.0) [
      | true ↦ elim (bytes_eq h.0.status (codes "101")) [ true ↦ Bad reading.BadHead | false ↦ response_message_in n to_head rest ]
      | false ↦ final_of to_head h rest
    ])

pub one_turn : (n : ℕ) (to_head : Bool) (bytes : List ℕ) → response_message_in (suc n) to_head bytes ≡ after_lines n to_head (response_lines bytes)
unfolding response_message_in after_lines
one_turn n to_head bytes = refl

pub after_whole : (n : ℕ) (to_head : Bool) (h : StatusLine × List model.Field) (rest : List ℕ) (i b : Bool) → is_interim h.0 ≡ i → bytes_eq h.0.status (codes "101") ≡ b
    → after_lines n to_head (Whole h rest) ≡ elim i [ true ↦ elim b [ true ↦ Bad reading.BadHead | false ↦ response_message_in n to_head rest ] | false ↦ final_of to_head h rest ]
unfolding after_lines
after_whole n to_head h rest i b e f = λ k. elim (e k) [ true ↦ elim (f k) [ true ↦ Bad reading.BadHead | false ↦ response_message_in n to_head rest ] | false ↦ final_of to_head h rest ]

after_bad : (n : ℕ) (to_head : Bool) (f : Fault) → after_lines n to_head (Bad f) ≡ Bad f
unfolding after_lines
after_bad n to_head f = refl

after_partial : (n : ℕ) (to_head : Bool) → after_lines n to_head Partial ≡ Partial
unfolding after_lines
after_partial n to_head = refl

whole_turn : (n : ℕ) (to_head : Bool) (bytes : List ℕ) (p : ResponseParts) (used : ℕ) (w : IsWholeResponse bytes p used) (i b : Bool)
    → begins_with (codes "1") p.status ≡ i → bytes_eq p.status (codes "101") ≡ b
    → response_message_in (suc n) to_head bytes
    ≡ elim i [ true ↦ elim b [ true ↦ Bad reading.BadHead | false ↦ response_message_in n to_head (drop used bytes) ] | false ↦ final_of to_head (status_of_parts p, p.fields.items) (drop used bytes) ]
whole_turn n to_head bytes p used w i b e f =
    one_turn n to_head bytes ∙ ap (after_lines n to_head) w.reads ∙ after_whole n to_head (status_of_parts p, p.fields.items) (drop used bytes) i b e f

whole_past : (bytes : List ℕ) (p : ResponseParts) (used : ℕ) → IsWholeResponse bytes p used → IsPast Response bytes used
whole_past bytes p used w = response_past bytes (status_of_parts p, p.fields.items) used w.in_range w.reads

or_left : (n : ℕ) (bytes : List ℕ) (p : ResponseParts) (used : ℕ) → IsWholeResponse bytes p used → begins_with (codes "1") p.status ≡ true → bytes_eq p.status (codes "101") ≡ false
    → behind_interims (suc n) bytes ≡ behind_interims n (drop used bytes)
unfolding behind_interims
or_left n bytes p used w e f = ap (λ r. or_behind bytes r (behind_interims n)) w.reads ∙ by (begins_with (codes "1") p.status) (bytes_eq p.status (codes "101")) e f
  where
    by : (i b : Bool) → i ≡ true → b ≡ false → ◌≡◌ {A = List ℕ} (elim (i && not b) [ true ↦ behind_interims n (drop used bytes) | false ↦ bytes ]) (behind_interims n (drop used bytes))
    by true false g h = refl
    by true true g h = absurd cc
    by false b g h = absurd cc

pub turn_interim : (to_head : Bool) (bytes : List ℕ) (p : ResponseParts) (used : ℕ) → IsWholeResponse bytes p used → begins_with (codes "1") p.status ≡ true
    → bytes_eq p.status (codes "101") ≡ false → IsInterim to_head bytes used
turn_interim to_head bytes p used w e f = record {
  in_range = w.in_range;
  some = some_used status_line bytes (status_of_parts p, p.fields.items) used w.in_range w.reads;
  message = λ n. whole_turn n to_head bytes p used w true false e f;
  left = λ n. or_left n bytes p used w e f;
  past = whole_past bytes p used w;
}

pub turn_101 : (to_head : Bool) (bytes : List ℕ) (p : ResponseParts) (used : ℕ) → IsWholeResponse bytes p used → begins_with (codes "1") p.status ≡ true
    → bytes_eq p.status (codes "101") ≡ true → IsBadTurn to_head bytes BadHead
turn_101 to_head bytes p used w e f = record { fault = reading.BadHead; is = refl; message = λ n. whole_turn n to_head bytes p used w true true e f }

pub turn_final : (to_head : Bool) (bytes : List ℕ) (p : ResponseParts) (used : ℕ) (m : Message) → IsWholeResponse bytes p used → begins_with (codes "1") p.status ≡ false
    → Judges (final_fault (status_of_parts p) p.fields.items) (response_head to_head (status_of_parts p) p.fields.items) (Ok m) → IsFinal to_head bytes m used
turn_final to_head bytes p used m w e x = record {
  in_range = w.in_range;
  message = λ n. whole_turn n to_head bytes p used w false (bytes_eq p.status (codes "101")) e refl
      ∙ judged_ok (final_fault (status_of_parts p) p.fields.items) (response_head to_head (status_of_parts p) p.fields.items) m x (drop used bytes);
  past = whole_past bytes p used w;
}

bad_turn : (to_head : Bool) (bytes : List ℕ) (e : H1Fault) (f : Fault) → IsFault e f → ((n : ℕ) → response_message_in (suc n) to_head bytes ≡ Bad f) → IsTurn to_head bytes (Err e)
bad_turn to_head bytes Memory f x k = tt
bad_turn to_head bytes BadHead f x k = record { fault = f; is = x; message = k }
bad_turn to_head bytes LongHead f x k = record { fault = f; is = x; message = k }
bad_turn to_head bytes BadLength f x k = record { fault = f; is = x; message = k }
bad_turn to_head bytes BadChunk f x k = record { fault = f; is = x; message = k }
bad_turn to_head bytes Version f x k = record { fault = f; is = x; message = k }
bad_turn to_head bytes Method f x k = record { fault = f; is = x; message = k }
bad_turn to_head bytes CutShort f x k = record { fault = f; is = x; message = k }

pub turn_fault : (to_head : Bool) (bytes : List ℕ) (p : ResponseParts) (used : ℕ) (e : H1Fault) → IsWholeResponse bytes p used → begins_with (codes "1") p.status ≡ false
    → Judges (final_fault (status_of_parts p) p.fields.items) (response_head to_head (status_of_parts p) p.fields.items) (Err e) → IsTurn to_head bytes (Err e)
turn_fault to_head bytes p used e w i x = by (judged_err (final_fault (status_of_parts p) p.fields.items) (response_head to_head (status_of_parts p) p.fields.items) e x)
  where
    by : (e ≡ Memory) ⊎ Faulty (final_fault (status_of_parts p) p.fields.items) e → IsTurn to_head bytes (Err e)
    by (inl same) = subst (λ g. IsTurn to_head bytes (Err g)) (sym same) tt
    by (inr g) = bad_turn to_head bytes e g.fault g.is (λ n.
        whole_turn n to_head bytes p used w false (bytes_eq p.status (codes "101")) i refl
        ∙ ap (λ o. unless o (response_head to_head (status_of_parts p) p.fields.items) (drop used bytes)) g.there)

pub turn_bad : (to_head : Bool) (bytes : List ℕ) → response_lines bytes ≡ Bad reading.BadHead → IsBadTurn to_head bytes BadHead
turn_bad to_head bytes e = record { fault = reading.BadHead; is = refl; message = λ n. one_turn n to_head bytes ∙ ap (after_lines n to_head) e ∙ after_bad n to_head reading.BadHead }

pub turn_long : (to_head : Bool) (bytes : List ℕ) → response_lines bytes ≡ Bad reading.LongHead → IsBadTurn to_head bytes LongHead
turn_long to_head bytes e = record { fault = reading.LongHead; is = refl; message = λ n. one_turn n to_head bytes ∙ ap (after_lines n to_head) e ∙ after_bad n to_head reading.LongHead }

-- Requests

bad_step : (d : Direction) (to_head : Bool) (bytes : List ℕ) (e : H1Fault) (f : Fault) → IsFault e f → message_head d to_head bytes ≡ Bad f → IsStep d to_head bytes (Err e)
bad_step d to_head bytes Memory f x k = tt
bad_step d to_head bytes BadHead f x k = record { fault = f; is = x; message = k }
bad_step d to_head bytes LongHead f x k = record { fault = f; is = x; message = k }
bad_step d to_head bytes BadLength f x k = record { fault = f; is = x; message = k }
bad_step d to_head bytes BadChunk f x k = record { fault = f; is = x; message = k }
bad_step d to_head bytes Version f x k = record { fault = f; is = x; message = k }
bad_step d to_head bytes Method f x k = record { fault = f; is = x; message = k }
bad_step d to_head bytes CutShort f x k = record { fault = f; is = x; message = k }

request_by : (bytes : List ℕ) (r : Reading (RequestLine × List model.Field)) → request_lines bytes ≡ r → request_message bytes ≡ onward r request_of
unfolding request_message
request_by bytes r e = ap (λ x. onward x request_of) e

pub request_got : (to_head : Bool) (bytes : List ℕ) (p : RequestParts) (used : ℕ) (m : Message) → IsWholeRequest bytes p used
    → Judges (request_fault (line_of_parts p) p.fields.items) (request_head (line_of_parts p) p.fields.items) (Ok m) → IsGot Request to_head bytes m used
request_got to_head bytes p used m w x = record {
  in_range = w.in_range;
  message = request_by bytes (Whole (line_of_parts p, p.fields.items) (drop used bytes)) w.reads
      ∙ judged_ok (request_fault (line_of_parts p) p.fields.items) (request_head (line_of_parts p) p.fields.items) m x (drop used bytes);
  past = request_past bytes (line_of_parts p, p.fields.items) used w.in_range w.reads;
}

pub request_fails : (to_head : Bool) (bytes : List ℕ) (p : RequestParts) (used : ℕ) (e : H1Fault) → IsWholeRequest bytes p used
    → Judges (request_fault (line_of_parts p) p.fields.items) (request_head (line_of_parts p) p.fields.items) (Err e) → IsStep Request to_head bytes (Err e)
request_fails to_head bytes p used e w x = by (judged_err (request_fault (line_of_parts p) p.fields.items) (request_head (line_of_parts p) p.fields.items) e x)
  where
    by : (e ≡ Memory) ⊎ Faulty (request_fault (line_of_parts p) p.fields.items) e → IsStep Request to_head bytes (Err e)
    by (inl same) = subst (λ g. IsStep Request to_head bytes (Err g)) (sym same) tt
    by (inr g) = bad_step Request to_head bytes e g.fault g.is
        (request_by bytes (Whole (line_of_parts p, p.fields.items) (drop used bytes)) w.reads
        ∙ ap (λ o. unless o (request_head (line_of_parts p) p.fields.items) (drop used bytes)) g.there)

none_dropped : (bytes : List ℕ) → bytes ≡ drop 0 bytes
none_dropped [] = refl
none_dropped (b ∷ bytes) = refl

pub request_left : (to_head : Bool) (bytes : List ℕ) → request_lines bytes ≡ Partial → IsLeft Request to_head bytes 0
request_left to_head bytes e = record {
  in_range = omega arith;
  message = request_by bytes Partial e;
  left = none_dropped bytes;
  still = ap request_lines (sym (none_dropped bytes)) ∙ e;
}

pub request_bad : (to_head : Bool) (bytes : List ℕ) → request_lines bytes ≡ Bad reading.BadHead → IsBadStep Request to_head bytes BadHead
request_bad to_head bytes e = record { fault = reading.BadHead; is = refl; message = request_by bytes (Bad reading.BadHead) e }

pub request_long : (to_head : Bool) (bytes : List ℕ) → request_lines bytes ≡ Bad reading.LongHead → IsBadStep Request to_head bytes LongHead
request_long to_head bytes e = record { fault = reading.LongHead; is = refl; message = request_by bytes (Bad reading.LongHead) e }

-- Responses, one after another

pub record Run (to_head : Bool) (bytes : List ℕ) (i at : ℕ) : Type 0 where
  pub in_range : at ≤ length bytes
  pub passed : i ≤ at
  pub message : response_message to_head bytes ≡ response_message_in (suc (length bytes) - i) to_head (drop at bytes)
  pub left : behind_interims (length bytes) bytes ≡ behind_interims (length bytes - i) (drop at bytes)
  pub past : (kept more : List ℕ) → bytes ≡ kept ++ more → response_lines kept ≡ Partial → (at ≡ 0) ⊎ (length kept ≤ at)

pub run_starts : (to_head : Bool) (bytes : List ℕ) → Run to_head bytes 0 0
unfolding response_message
run_starts to_head bytes = record {
  in_range = omega arith;
  passed = omega arith;
  message = ap (response_message_in (suc (length bytes)) to_head) (none_dropped bytes) ∙ ap (λ n. response_message_in n to_head (drop 0 bytes)) (same (suc (length bytes)));
  left = ap (behind_interims (length bytes)) (none_dropped bytes) ∙ ap (λ n. behind_interims n (drop 0 bytes)) (same (length bytes));
  past = λ kept more e k. inl refl;
}
  where
    same : (n : ℕ) → n ≡ n - 0
    same n = omega arith

behind_past : (bytes kept more : List ℕ) (at used : ℕ) → (at ≡ 0) ⊎ (length kept ≤ at) → IsPast Response (drop at bytes) used → bytes ≡ kept ++ more → response_lines kept ≡ Partial
    → length kept ≤ at + used
behind_past bytes kept more at used (inr h) p e k = omega (arith, h)
behind_past bytes kept more at used (inl h) p e k =
    let here : drop at bytes ≡ kept ++ more = ap (λ n. drop n bytes) h ∙ sym (none_dropped bytes) ∙ e in
    omega (arith, p kept more here k)

pub run_goes_on : (to_head : Bool) (bytes : List ℕ) (i at used : ℕ) → Run to_head bytes i at → IsInterim to_head (drop at bytes) used → Run to_head bytes (i + 1) (at + used)
run_goes_on to_head bytes i at used r w =
    let size : length (drop at bytes) ≡ length bytes - at = length-drop at bytes in
    let range : at ≤ length bytes = r.in_range in
    let fits : used ≤ length (drop at bytes) = w.in_range in
    let some : 0 < used = w.some in
    let passed : i ≤ at = r.passed in
    let one : suc (length bytes) - i ≡ suc (suc (length bytes) - (i + 1)) = omega arith in
    let two : length bytes - i ≡ suc (length bytes - (i + 1)) = omega arith in
    record {
      in_range = omega arith;
      passed = omega arith;
      message = r.message ∙ ap (λ n. response_message_in n to_head (drop at bytes)) one ∙ w.message (suc (length bytes) - (i + 1))
          ∙ ap (response_message_in (suc (length bytes) - (i + 1)) to_head) (drop-drop used at bytes);
      left = r.left ∙ ap (λ n. behind_interims n (drop at bytes)) two ∙ w.left (length bytes - (i + 1)) ∙ ap (behind_interims (length bytes - (i + 1))) (drop-drop used at bytes);
      past = λ kept more e k. inr (behind_past bytes kept more at used (r.past kept more e k) w.past e k);
    }

turns_left : (to_head : Bool) (bytes : List ℕ) (i at : ℕ) → Run to_head bytes i at → suc (length bytes) - i ≡ suc (length bytes - i)
turns_left to_head bytes i at r = let h = r.in_range in let k = r.passed in omega arith

pub run_ends : (to_head : Bool) (bytes : List ℕ) (i at used : ℕ) (m : Message) → Run to_head bytes i at → IsFinal to_head (drop at bytes) m used → IsGot Response to_head bytes m (at + used)
run_ends to_head bytes i at used m r w = record {
  in_range = omega (arith, r.in_range, w.in_range, length-drop at bytes);
  message = r.message ∙ ap (λ n. response_message_in n to_head (drop at bytes)) (turns_left to_head bytes i at r) ∙ w.message (length bytes - i)
      ∙ ap (Whole (head_of m)) (drop-drop used at bytes);
  past = λ kept more e k. behind_past bytes kept more at used (r.past kept more e k) w.past e k;
}

behind_none : (n : ℕ) (bytes : List ℕ) → response_lines bytes ≡ Partial → behind_interims n bytes ≡ bytes
unfolding behind_interims
behind_none zero bytes e = refl
behind_none (suc n) bytes e = ap (λ r. or_behind bytes r (behind_interims n)) e

pub run_waits : (to_head : Bool) (bytes : List ℕ) (i at : ℕ) → Run to_head bytes i at → response_lines (drop at bytes) ≡ Partial → IsLeft Response to_head bytes at
run_waits to_head bytes i at r e = record {
  in_range = r.in_range;
  message = r.message ∙ ap (λ n. response_message_in n to_head (drop at bytes)) (turns_left to_head bytes i at r)
      ∙ one_turn (length bytes - i) to_head (drop at bytes) ∙ ap (after_lines (length bytes - i) to_head) e ∙ after_partial (length bytes - i) to_head;
  left = r.left ∙ behind_none (length bytes - i) (drop at bytes) e;
  still = e;
}

bad_run : (to_head : Bool) (bytes : List ℕ) (i at : ℕ) (e : H1Fault) → Run to_head bytes i at → IsBadTurn to_head (drop at bytes) e → IsStep Response to_head bytes (Err e)
bad_run to_head bytes i at e r w = bad_step Response to_head bytes e w.fault w.is
    (r.message ∙ ap (λ n. response_message_in n to_head (drop at bytes)) (turns_left to_head bytes i at r) ∙ w.message (length bytes - i))

pub run_fails : (to_head : Bool) (bytes : List ℕ) (i at : ℕ) (e : H1Fault) → Run to_head bytes i at → IsTurn to_head (drop at bytes) (Err e) → IsStep Response to_head bytes (Err e)
run_fails to_head bytes i at Memory r w = tt
run_fails to_head bytes i at BadHead r w = bad_run to_head bytes i at BadHead r w
run_fails to_head bytes i at LongHead r w = bad_run to_head bytes i at LongHead r w
run_fails to_head bytes i at BadLength r w = bad_run to_head bytes i at BadLength r w
run_fails to_head bytes i at BadChunk r w = bad_run to_head bytes i at BadChunk r w
run_fails to_head bytes i at Version r w = bad_run to_head bytes i at Version r w
run_fails to_head bytes i at Method r w = bad_run to_head bytes i at Method r w
run_fails to_head bytes i at CutShort r w = bad_run to_head bytes i at CutShort r w

pub run_over : (to_head : Bool) (bytes : List ℕ) (i at : ℕ) → Run to_head bytes i at → length bytes < i → ⊥
run_over to_head bytes i at r h = let p = r.passed in let k = r.in_range in omega arith

-- What a feed gives

pub record FedGot (d : Direction) (to_head : Bool) (kept bytes : List ℕ) (m : Message) (used : ℕ) : Type 0 where
  pub behind : length kept ≤ used
  pub in_range : used - length kept ≤ length bytes
  pub message : message_head d to_head (kept ++ bytes) ≡ Whole (head_of m) (drop (used - length kept) bytes)

pub fed_got : (d : Direction) (to_head : Bool) (all kept bytes : List ℕ) (m : Message) (used : ℕ) → all ≡ kept ++ bytes → IsOpen d kept → IsGot d to_head all m used
    → FedGot d to_head kept bytes m used
fed_got d to_head all kept bytes m used j o w =
    let past : length kept ≤ used = w.past kept bytes j o in
    let sum : used ≡ length kept + (used - length kept) = omega arith in
    record {
      behind = past;
      in_range = omega (arith, w.in_range, ap length j, length-append kept bytes);
      message = ap (message_head d to_head) (sym j) ∙ w.message
          ∙ ap (Whole (head_of m)) (ap (drop used) j ∙ ap (λ n. drop n (kept ++ bytes)) sum ∙ drop-append-add kept bytes (used - length kept));
    }

pub kept_again : (all kept bytes : List ℕ) → all ≡ kept ++ bytes → take (length kept) all ≡ kept
kept_again all kept bytes j = ap (take (length kept)) j ∙ take-append_seam kept bytes

-- an open head is within the limit
pub open_small : (d : Direction) (bytes : List ℕ) → IsOpen d bytes → length bytes < 32768
open_small Request bytes e = (open_within (head_lines request_line (take head_limit bytes)) bytes e).1
open_small Response bytes e = (open_within (head_lines status_line (take head_limit bytes)) bytes e).1
