-- What was open is whole behind what was there.
use Rattle.std.proofs.Common.{inl, inr, sym, ◌∙◌, ap, subst, refl, arith, length-append, length-drop, leb-false}
use Rattle.std.specs.Prelude.{ℕ, ◌≡◌, ◌⊎◌, ◌<◌, ◌≤◌, Bool, true, false, List, ◌++◌, length, take, drop, nat_le, if◌then◌else◌, map}
use Rattle.std.proofs.lemmas.List.{take-append-drop, take-append-le}
use Rattle.std.proofs.Math.Seq.{take-append_seam}
use Rattle.http_model.specs.Reading.{Reading, Whole, Partial, Bad, BadChunk, LongHead, within, limited}
use Rattle.http_model.specs.Lines.{section}
use Rattle.http_model.specs.Heads.{head_limit, field_limit}
use Rattle.http_model.proofs.Stable.{Reaches, Within, at_limit}
use Rattle.ext_msgs.specs.declared.lists.Field as model
use Rattle.httparse.specs.Grammar.{Field, LineEnd, print_section, ReadsSection}
use Rattle.h1_read.specs.Agreement.{field_of_line}
use Rattle.h1_read.proofs.SectionLaw.{section_found, section_exceeds, section_tells, Tells}

abbrev pub within_limit : {A : Type 0} → (List ℕ → Reading A) → List ℕ → Reading A
within_limit read bytes = limited head_limit LongHead read bytes

abbrev pub IsLocal : {A : Type 0} → (List ℕ → Reading A) → Type 0
IsLocal {A} read = (kept more rest : List ℕ) (a : A) → read kept ≡ Partial → read (kept ++ more) ≡ Whole a rest → length rest ≤ length more

-- what a text at the front leaves of a longer one
pub record Covers (kept text : List ℕ) : Type 0 where
  pub left : List ℕ
  pub joined : kept ≡ text ++ left

pub covers : (kept more text rest : List ℕ) → kept ++ more ≡ text ++ rest → length more < length rest → Covers kept text
covers kept more text rest e h =
    let size : length text ≤ length kept = omega (arith, h, ap length e, length-append kept more, length-append text rest) in
    let taken : take (length text) kept ≡ text = sym (take-append-le (length text) kept more size) ∙ ap (take (length text)) e ∙ take-append_seam text rest in
    record {
      left = drop (length text) kept;
      joined = sym (take-append-drop (length text) kept) ∙ ap (λ s. s ++ drop (length text) kept) taken;
    }

-- within the limit

pub open_within : {A : Type 0} (r : Reading A) (kept : List ℕ) → within head_limit LongHead kept r ≡ Partial → (r ≡ Partial) × (length kept < head_limit)
open_within (Whole a rest) kept e = absurd cc
open_within (Bad f) kept e = absurd cc
open_within {A} Partial kept e = (refl, by (nat_le head_limit (length kept)) refl e)
  where
    by : (t : Bool) → nat_le head_limit (length kept) ≡ t → ◌≡◌ {A = Reading A} (if t then Bad LongHead else Partial) Partial → length kept < head_limit
    by true f g = absurd cc
    by false f g = leb-false head_limit (length kept) f

same_whole : {A : Type 0} (r : Reading A) (bytes rest : List ℕ) (a : A) → within head_limit LongHead bytes r ≡ Whole a rest
    → (left : List ℕ) × (r ≡ Whole a left) × (rest ≡ left ++ drop head_limit bytes)
same_whole {A} (Whole b left) bytes rest a e = (left, ap (λ x. Whole x left) (first b a (left ++ drop head_limit bytes) rest e), second b a (left ++ drop head_limit bytes) rest e)
  where
    first : (x y : A) (l r : List ℕ) → Whole x l ≡ Whole y r → x ≡ y
    first x y l r e = cc

    second : (x y : A) (l r : List ℕ) → Whole x l ≡ Whole y r → r ≡ l
    second x y l r e = cc
same_whole {A} Partial bytes rest a e = absurd (by (nat_le head_limit (length bytes)) e)
  where
    by : (t : Bool) → ◌≡◌ {A = Reading A} (if t then Bad LongHead else Partial) (Whole a rest) → ⊥
    by true f = cc
    by false f = cc
same_whole (Bad f) bytes rest a e = absurd cc

local_within : {A : Type 0} (read : List ℕ → Reading A) → IsLocal read → (kept more rest : List ℕ) (a : A)
    → within_limit read kept ≡ Partial → within_limit read (kept ++ more) ≡ Whole a rest → length rest ≤ length more
local_within {A} read local kept more rest a unfinished whole = by (at_limit head_limit kept more)
  where
    o : (read (take head_limit kept) ≡ Partial) × (length kept < head_limit)
    o = open_within (read (take head_limit kept)) kept unfinished

    w : (left : List ℕ) × (read (take head_limit (kept ++ more)) ≡ Whole a left) × (rest ≡ left ++ drop head_limit (kept ++ more))
    w = same_whole (read (take head_limit (kept ++ more))) (kept ++ more) rest a whole

    by : Reaches head_limit kept more ⊎ Within head_limit kept more → length rest ≤ length more
    by (inl r) = absurd (let h = o.1 in let k = r.long in omega arith)
    by (inr r) =
        let kept_open : read kept ≡ Partial = ap read (sym r.taken) ∙ o.0 in
        let found : read (kept ++ r.next) ≡ Whole a w.0 = ap read (sym r.taken_more) ∙ w.1 in
        let short : length w.0 ≤ length r.next = local kept r.next w.0 a kept_open found in
        omega (arith, short, ap length w.2, length-append w.0 (drop head_limit (kept ++ more)), ap length r.dropped_more, ap length r.joined, length-append r.next r.others)

pub past : {A : Type 0} (read : List ℕ → Reading A) → IsLocal read → (bytes : List ℕ) (a : A) (used : ℕ) → used ≤ length bytes
    → within_limit read bytes ≡ Whole a (drop used bytes)
    → (kept more : List ℕ) → bytes ≡ kept ++ more → within_limit read kept ≡ Partial → length kept ≤ used
past read local bytes a used fits e kept more j unfinished =
    let less : length (drop used bytes) ≤ length more = local_within read local kept more (drop used bytes) a unfinished (ap (within_limit read) (sym j) ∙ e) in
    omega (arith, less, fits, length-drop used bytes, ap length j, length-append kept more)

-- sections

pub le_or_lt : (n m : ℕ) → (n ≤ m) ⊎ (m < n)
le_or_lt n m = grind arith

sections_local : IsLocal (section BadChunk field_limit)
sections_local kept more rest a unfinished whole = by (subst (Tells (kept ++ more)) whole (section_tells BadChunk field_limit (kept ++ more))) (le_or_lt (length rest) (length more))
  where
    never : (fs : List Field) (last : LineEnd) (left : List ℕ) → ReadsSection kept fs last left → (length fs ≤ field_limit) ⊎ (field_limit < length fs) → ⊥
    never fs last left x (inl few) =
        let both : ◌≡◌ {A = Reading (List model.Field)} Partial (Whole (map field_of_line fs) left) = sym unfinished ∙ section_found BadChunk field_limit kept fs last left x few in
        absurd cc
    never fs last left x (inr many) =
        let both : ◌≡◌ {A = Reading (List model.Field)} Partial (Bad LongHead) = sym unfinished ∙ section_exceeds BadChunk field_limit kept fs last left x many in
        absurd cc

    by : Tells (kept ++ more) (Whole a rest) → (length rest ≤ length more) ⊎ (length more < length rest) → length rest ≤ length more
    by t (inl h) = h
    by t (inr h) =
        let c = covers kept more (print_section t.fields t.last) rest t.reads.1 h in
        absurd (never t.fields t.last c.left (t.reads.0, c.joined) (le_or_lt (length t.fields) field_limit))

pub section_past : (bytes : List ℕ) (fields : List model.Field) (used : ℕ) → used ≤ length bytes → within_limit (section BadChunk field_limit) bytes ≡ Whole fields (drop used bytes)
    → (kept more : List ℕ) → bytes ≡ kept ++ more → within_limit (section BadChunk field_limit) kept ≡ Partial → length kept ≤ used
section_past = past (section BadChunk field_limit) sections_local
