-- The bytes of a body change are no more than those of the message that brings it.
use Rattle.std.proofs.Common.{◌∙◌, ap, arith, inl, inr, length-append, eqb, cond, subst}
use Rattle.std.specs.Prelude.{ℕ, zero, suc, ◌≡◌, ◌≤◌, ◌+◌, ◌==◌, Bool, true, false, List, [], ◌∷◌, ◌++◌, length, Option, Some, None, Result, Ok, Err, flat_map, is_some, if◌then◌else◌}
use Rattle.std.specs.List.{AllByRecursion, cons_option}
use Rattle.pb_wire.specs.Records.{Content, Entry, Records, SpellsContent, varint, fixed64, span, fixed32}
use Rattle.pb_wire.specs.Walk.{entries}
use Rattle.pb_wire.proofs.Exact.{parts_are}
use Rattle.ext_msgs.specs.Fields.{bytes_in, bytes_of, inside, last_or, latest, last_place, spans}
use Rattle.ext_msgs.specs.MessageFault.{answer_fault, first_fault}
use Rattle.ext_msgs.specs.MessageValue.{answer_member, answer_modes, answer_timeout, answer_value, body_by, body_change, body_member, code, immediate, member_by, response, with_member}
use Rattle.ext_msgs.specs.Messages.{answer_of, unless}
use Rattle.ext_msgs.specs.declared.answer.Answer.{Answer}
use Rattle.ext_msgs.specs.declared.answer.Member.{Member}
use Rattle.ext_msgs.specs.declared.answer.ModeNumbers.{ModeNumbers}
use Rattle.ext_msgs.specs.declared.answer.Span.{Span}
use Rattle.ext_msgs.specs.declared.fault.MsgFault.{MsgFault}
use Rattle.ext_msgs.proofs.Weights.{run_all}
use Rattle.filter_model.specs.Cut.{PartAnswer, part_answer}
use Rattle.half_machine.specs.Answering.{change_bytes}

-- Records whose bytes are at most so many

abbrev IsAtMost : ℕ → Content → Type 0
IsAtMost n (varint v) = Unit {0}
IsAtMost n (fixed64 v) = Unit {0}
IsAtMost n (span bytes) = length bytes ≤ n
IsAtMost n (fixed32 v) = Unit {0}

abbrev AreAtMost : ℕ → List Entry → Type 0
AreAtMost n es = AllByRecursion (λ e. IsAtMost n e.content) es

abbrev AllAtMost : ℕ → List (List ℕ) → Type 0
AllAtMost n bs = AllByRecursion (λ b. length b ≤ n) bs

content_most : (n : ℕ) (behind : List ℕ) (k : Content) → length behind ≤ n → SpellsContent behind k → IsAtMost n k
content_most n behind (varint v) l h = tt
content_most n behind (fixed64 v) l h = tt
content_most n behind (span inner) l h = omega (arith, l, ap length h.2, length-append h.0 inner)
content_most n behind (fixed32 v) l h = tt

records_most : (n : ℕ) (bytes : List ℕ) (es : List Entry) → length bytes ≤ n → Records bytes es → AreAtMost n es
records_most n bytes [] l h = tt
records_most n bytes (e ∷ es) l h =
    let s = h.2 in
    let i : length bytes ≡ length h.0 + length h.1 = ap length h.3 ∙ length-append h.0 h.1 in
    let j : length h.0 ≡ length s.tag + length s.behind = ap length s.joined ∙ length-append s.tag s.behind in (
      content_most n s.behind e.content (omega (arith, l, i, j)) s.is_behind,
      records_most n h.1 es (omega (arith, l, i)) h.4,
    )

entries_most : (n : ℕ) (bytes : List ℕ) → length bytes ≤ n → AreAtMost n (entries bytes)
entries_most n bytes l =
    elim (parts_are 0 bytes) [
      | inl r ↦ records_most n bytes (entries bytes) l r.records
      | inr r ↦ records_most n r.front (entries bytes) (omega (arith, l, ap length r.parts, length-append r.front r.rest)) r.records
    ]

both_most : (n : ℕ) (es fs : List Entry) → AreAtMost n es → AreAtMost n fs → AreAtMost n (es ++ fs)
both_most n [] fs h k = k
both_most n (e ∷ es) fs h k = (h.0, both_most n es fs h.1 k)

joined_most : (n : ℕ) (bs : List (List ℕ)) → AllAtMost n bs → AreAtMost n (flat_map entries bs)
joined_most n [] h = tt
joined_most n (b ∷ bs) h = both_most n (entries b) (flat_map entries bs) (entries_most n b h.0) (joined_most n bs h.1)

spans_most : (n k : ℕ) (es : List Entry) → AreAtMost n es → AllAtMost n (spans k es)
spans_most n k [] h = tt
spans_most n k (e ∷ es) h = by (eqb e.number k) e.content h.0 (spans k es) (spans_most n k es h.1)
  where
    by : (t : Bool) (c : Content) → IsAtMost n c → (bs : List (List ℕ)) → AllAtMost n bs → AllAtMost n (cons_option (cond t (bytes_in c) None) bs)
    by false c i bs more = more
    by true (varint v) i bs more = more
    by true (fixed64 v) i bs more = more
    by true (span b) i bs more = (i, more)
    by true (fixed32 v) i bs more = more

inside_most : (n k : ℕ) (es : List Entry) → AreAtMost n es → AreAtMost n (inside k es)
inside_most n k es h = joined_most n (spans k es) (spans_most n k es h)

last_most : (n : ℕ) (d : List ℕ) (bs : List (List ℕ)) → length d ≤ n → AllAtMost n bs → length (last_or d bs) ≤ n
last_most n d [] l h = l
last_most n d (b ∷ bs) l h = last_most n b bs h.0 h.1

bytes_most : (n k : ℕ) (es : List Entry) → AreAtMost n es → length (bytes_of k es) ≤ n
bytes_most n k es h = last_most n [] (spans k es) (omega arith) (spans_most n k es h)

-- A body change

change_most : (n k : ℕ) (run : List Entry) → AreAtMost n run → length (change_bytes (body_by k run)) ≤ n
change_most n zero run h = omega arith
change_most n (suc zero) run h = bytes_most n 1 run h
change_most n (suc (suc zero)) run h = omega arith
change_most n (suc (suc (suc zero))) run h = bytes_most n 1 (inside 3 run) (inside_most n 3 run h)
change_most n (suc (suc (suc (suc k)))) run h = omega arith

body_most : (n : ℕ) (es : List Entry) → AreAtMost n es → length (change_bytes (body_change es)) ≤ n
body_most n es h = change_most n (latest body_member es).0 (latest body_member es).1 (run_all (λ e. IsAtMost n e.content) body_member es h)

common_most : (n : ℕ) (es : List Entry) → AreAtMost n es → length (change_bytes (response es).body) ≤ n
common_most n es h = body_most n (inside 3 (inside 1 es)) (inside_most n 3 (inside 1 es) (inside_most n 1 es h))

-- An answer

abbrev PartAtMost : ℕ → Option PartAnswer → Type 0
PartAtMost n None = Unit {0}
PartAtMost n (Some p) = length (change_bytes p.common.body) ≤ n

abbrev MemberAtMost : ℕ → Result Member MsgFault → Type 0
MemberAtMost n (Ok m) = PartAtMost n (part_answer m)
MemberAtMost n (Err f) = Unit {0}

immediate_most : (n place : ℕ) (o : Option ℕ) (es : List Entry) → MemberAtMost n (immediate place o es)
immediate_most n place None es = tt
immediate_most n place (Some status) es = tt

either_most : (n : ℕ) (b : Bool) (x y : Result Member MsgFault) → MemberAtMost n x → MemberAtMost n y → MemberAtMost n (if b then x else y)
either_most n true x y h k = h
either_most n false x y h k = k

member_most : (n place : ℕ) (timed : Bool) (k : ℕ) (run : List Entry) → AreAtMost n run → MemberAtMost n (member_by place timed k run)
member_most n place timed k run h =
    either_most n (k == 1) _ _ (part 1)
    (either_most n (k == 2) _ _ (part 2)
    (either_most n (k == 3) _ _ (part 3)
    (either_most n (k == 4) _ _ (part 4)
    (either_most n (k == 5) _ _ (omega arith)
    (either_most n (k == 6) _ _ (omega arith)
    (either_most n (k == 7) _ _ (immediate_most n place (code (inside 7 run)) (inside 7 run))
    (either_most n timed _ _ tt tt)))))))
  where
    part : (i : ℕ) → length (change_bytes (response (inside i run)).body) ≤ n
    part i = common_most n (inside i run) (inside_most n i run h)

abbrev AnswerAtMost : ℕ → Result Answer MsgFault → Type 0
AnswerAtMost n (Ok x) = PartAtMost n (part_answer x.member)
AnswerAtMost n (Err f) = Unit {0}

with_most : (n : ℕ) (modes : Option ModeNumbers) (timeout : Option Span) (m : Result Member MsgFault) → MemberAtMost n m → AnswerAtMost n (with_member modes timeout m)
with_most n modes timeout (Ok m) h = h
with_most n modes timeout (Err f) h = tt

unless_most : (n : ℕ) (f : Option MsgFault) (x : Result Answer MsgFault) → AnswerAtMost n x → AnswerAtMost n (unless f x)
unless_most n None x h = h
unless_most n (Some f) x h = tt

answer_most : (bytes : List ℕ) → AnswerAtMost (length bytes) (answer_of bytes)
answer_most bytes =
    let n : ℕ = length bytes in
    let es : List Entry = entries bytes in
    unless_most n (first_fault answer_fault n bytes) (answer_value (last_place 7 n bytes) es)
    (with_most n (answer_modes es) (answer_timeout es) (member_by (last_place 7 n bytes) (is_some (answer_timeout es)) (latest answer_member es).0 (latest answer_member es).1)
    (member_most n (last_place 7 n bytes) (is_some (answer_timeout es)) (latest answer_member es).0 (latest answer_member es).1
    (run_all (λ e. IsAtMost n e.content) answer_member es (entries_most n bytes (omega arith)))))

-- it may be told to a half
pub change_fits : (bytes : List ℕ) (x : Answer) (p : PartAnswer) → answer_of bytes ≡ Ok x → part_answer x.member ≡ Some p → length (change_bytes p.common.body) ≤ length bytes
change_fits bytes x p e k = subst (PartAtMost (length bytes)) k (subst (AnswerAtMost (length bytes)) e (answer_most bytes))
