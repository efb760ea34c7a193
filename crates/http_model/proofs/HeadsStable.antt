-- Heads stay as they were read.
use Rattle.std.proofs.Common.{sym, ap, subst, refl, arith}
use Rattle.std.specs.Prelude.{ℕ, zero, suc, ◌<◌, Bool, true, false, List, ◌++◌, length, Option, Some, None, codes, bytes_eq}
use Rattle.ext_msgs.specs.declared.lists.Field.{Field}
use Rattle.http_model.specs.Reading.{Reading, Whole, Partial, Bad, Fault, BadHead, LongHead, onward, limited, Stays}
use Rattle.http_model.specs.Lines.{first_line, without_cr, section}
use Rattle.http_model.specs.Heads.{head_limit, field_limit, fields_behind, head_lines, request_line, request_fault, request_head, unless, request_of, request_message, StatusLine, status_line, response_lines, is_interim, final_of, response_message_in, response_message, message_head}
use Rattle.http_model.specs.declared.types.Direction.{Direction}
use Rattle.http_model.specs.declared.types.Direction.TheVariants.{Request, Response}
use Rattle.http_model.proofs.Stable.{IsStable, LeavesUnder, onward-stays, onward-leaves, limited-stays, limited-leaves}
use Rattle.http_model.proofs.LinesStable.{first_line-stays, first_line-leaves, section-stays, section-leaves}

pub fields_behind-stays : {A : Type 0} (o : Option A) → IsStable (fields_behind o)
fields_behind-stays None bytes more = refl
fields_behind-stays (Some first) bytes more =
    onward-stays (section BadHead field_limit bytes) (section BadHead field_limit (bytes ++ more)) more (λ fields rest. Whole (first, fields) rest)
    (λ fields rest e. refl) (section-stays BadHead field_limit bytes more)

pub head_lines-stays : {A : Type 0} (parse : List ℕ → Option A) → IsStable (head_lines parse)
head_lines-stays parse bytes more =
    onward-stays (first_line bytes) (first_line (bytes ++ more)) more (λ l rest. fields_behind (parse (without_cr l)) rest)
    (λ l rest e. fields_behind-stays (parse (without_cr l)) rest more) (first_line-stays bytes more)

unless-stays : {A : Type 0} (o : Option Fault) (a : A) (rest more : List ℕ) → Stays (unless o a rest) more (unless o a (rest ++ more))
unless-stays None a rest more = refl
unless-stays (Some f) a rest more = refl

request_message-stays : IsStable request_message
unfolding request_message
request_message-stays bytes more =
    onward-stays (limited head_limit LongHead (head_lines request_line) bytes) (limited head_limit LongHead (head_lines request_line) (bytes ++ more)) more request_of
    (λ h rest e. unless-stays (request_fault h.0 h.1) (request_head h.0 h.1) rest more)
    (limited-stays head_limit LongHead (head_lines request_line) (head_lines-stays request_line) bytes more)

-- Responses, behind interim ones

pub fields_behind-leaves : {A : Type 0} (n : ℕ) (o : Option A) (rest : List ℕ) → length rest < n → LeavesUnder n (fields_behind o rest)
fields_behind-leaves n None rest h = tt
fields_behind-leaves n (Some first) rest h =
    onward-leaves n (section BadHead field_limit rest) (λ fields more. Whole (first, fields) more) (λ fields more e. e)
    (less (section BadHead field_limit rest) (section-leaves BadHead field_limit rest))
  where
    less : (r : Reading (List Field)) → LeavesUnder (suc (length rest)) r → LeavesUnder n r
    less (Whole fields more) e = omega (arith, h, e)
    less Partial e = tt
    less (Bad f) e = tt

pub head_lines-leaves : {A : Type 0} (parse : List ℕ → Option A) (bytes : List ℕ) → LeavesUnder (length bytes) (head_lines parse bytes)
head_lines-leaves parse bytes =
    onward-leaves (length bytes) (first_line bytes) (λ l rest. fields_behind (parse (without_cr l)) rest)
    (λ l rest e. fields_behind-leaves (length bytes) (parse (without_cr l)) rest e) (first_line-leaves bytes)

pub response_lines-leaves : (bytes : List ℕ) → LeavesUnder (length bytes) (response_lines bytes)
response_lines-leaves = limited-leaves head_limit LongHead (head_lines status_line) (head_lines-leaves status_line)

response_lines-stays : IsStable response_lines
response_lines-stays = limited-stays head_limit LongHead (head_lines status_line) (head_lines-stays status_line)

final_of-stays : (to_head : Bool) (h : StatusLine × List Field) (rest more : List ℕ) → Stays (final_of to_head h rest) more (final_of to_head h (rest ++ more))
final_of-stays to_head h rest more = unless-stays _ _ rest more

-- with as many responses as there may be
response_in-stays : (n m : ℕ) (to_head : Bool) (bytes more : List ℕ) → length bytes < n → length (bytes ++ more) < m
    → Stays (response_message_in n to_head bytes) more (response_message_in m to_head (bytes ++ more))
unfolding response_message_in
response_in-stays zero m to_head bytes more h k = tt
response_in-stays (suc n) zero to_head bytes more h k = absurd (omega (arith, k))
response_in-stays (suc n) (suc m) to_head bytes more h k =
    by (response_lines bytes) (response_lines (bytes ++ more)) (response_lines-leaves bytes) (response_lines-leaves (bytes ++ more)) (response_lines-stays bytes more)
    (λ rest. response_in-stays n m to_head rest more)
  where
    next : (x : StatusLine × List Field) (rest : List ℕ) → Stays (response_message_in n to_head rest) more (response_message_in m to_head (rest ++ more)) → (b c : Bool)
        → Stays (elim b [ true ↦ elim c [ true ↦ Bad BadHead | false ↦ response_message_in n to_head rest ] | false ↦ final_of to_head x rest ]) more
        (elim b [ true ↦ elim c [ true ↦ Bad BadHead | false ↦ response_message_in m to_head (rest ++ more) ] | false ↦ final_of to_head x (rest ++ more) ])
    next x rest k true true = refl
    next x rest k true false = k
    next x rest k false c = final_of-stays to_head x rest more

    by : (r r' : Reading (StatusLine × List Field)) → LeavesUnder (length bytes) r → LeavesUnder (length (bytes ++ more)) r' → Stays r more r'
        → ((rest : List ℕ) → length rest < n → length (rest ++ more) < m → Stays (response_message_in n to_head rest) more (response_message_in m to_head (rest ++ more)))
        → Stays (onward r (λ x rest. elim (is_interim x.0) [
          | true ↦ elim (bytes_eq x.0.status (codes "101")) [ true ↦ Bad BadHead | false ↦ response_message_in n to_head rest ]
          | false ↦ final_of to_head x rest
        ])) more
        (onward r' (λ x rest. elim (is_interim x.0) [
          | true ↦ elim (bytes_eq x.0.status (codes "101")) [ true ↦ Bad BadHead | false ↦ response_message_in m to_head rest ]
          | false ↦ final_of to_head x rest
        ]))
    by (Whole x rest) r' p q e i =
        let small : length (rest ++ more) < length (bytes ++ more) = subst (LeavesUnder (length (bytes ++ more))) e q in
        subst (λ y. Stays (elim (is_interim x.0) [
          | true ↦ elim (bytes_eq x.0.status (codes "101")) [ true ↦ Bad BadHead | false ↦ response_message_in n to_head rest ]
          | false ↦ final_of to_head x rest
        ]) more
        (onward y (λ x rest. elim (is_interim x.0) [
          | true ↦ elim (bytes_eq x.0.status (codes "101")) [ true ↦ Bad BadHead | false ↦ response_message_in m to_head rest ]
          | false ↦ final_of to_head x rest
        ]))) (sym e)
        (next x rest (i rest (omega (arith, h, p)) (omega (arith, k, small))) (is_interim x.0) (bytes_eq x.0.status (codes "101")))
    by Partial r' p q e i = tt
    by (Bad f) r' p q e i = ap (λ y. onward y (λ x rest. elim (is_interim x.0) [
      | true ↦ elim (bytes_eq x.0.status (codes "101")) [ true ↦ Bad BadHead | false ↦ response_message_in m to_head rest ]
      | false ↦ final_of to_head x rest
    ])) e

pub message_head-stays : (d : Direction) (to_head : Bool) → IsStable (message_head d to_head)
unfolding response_message
message_head-stays Request to_head bytes more = request_message-stays bytes more
message_head-stays Response to_head bytes more =
    response_in-stays (suc (length bytes)) (suc (length (bytes ++ more))) to_head bytes more (omega arith) (omega arith)
