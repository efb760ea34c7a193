-- A section that was written is read back.
use Rattle.std.proofs.Common.{◌∙◌, ap, refl, arith, append_assoc}
use Rattle.std.specs.Prelude.{ℕ, zero, suc, ◌≡◌, ◌<◌, ◌≤◌, Bool, true, false, not, ◌&&◌, ◌||◌, if◌then◌else◌, List, [], ◌∷◌, ◌++◌, length, map, ◌==◌, bytes_eq}
use Rattle.std.specs.List.{list_all}
use Rattle.ext_msgs.specs.declared.lists.Field.{Field}
use Rattle.http_model.specs.Bytes.{is_empty, is_token, is_token_byte, is_value_byte, lower, trim, field, crlf, split_at}
use Rattle.http_model.specs.Reading.{Reading, Whole, Partial, Bad, Fault, LongHead}
use Rattle.http_model.specs.Lines.{line, AtStart, InValue, AtEnd, NoField, field_shape, field_of, with_field, by_line, section_at, begins_field, section, without_cr}
use Rattle.http_model.specs.Wire.{field_line, field_lines}
use Rattle.http_model.proofs.LinesStable.{field_shape-append}
use Rattle.httparse.specs.Grammar as grammar
use Rattle.h1_read.specs.Written.{given, is_on_one_line, is_writable, is_readable}
use Rattle.h1_read.proofs.LineParts.{Lacks, Lacks-append, Lacks-pass, line_at, without_cr-end, split_at-first}
use Rattle.h1_read.proofs.SectionLaw.{begins_token}
use Rattle.h1_read.proofs.FieldText.{Tokens, name_begins}
use Rattle.h1_read.proofs.HeadLaw.{and_first, and_second, bytes_same, from_all_true, from_some_byte}

-- what is read of it
abbrev pub written_section : Fault → ℕ → List Field → List ℕ → Reading (List Field)
written_section bad n [] rest = Whole [] rest
written_section bad zero (f ∷ fields) rest = Bad LongHead
written_section bad (suc n) (f ∷ fields) rest = elim (is_readable f) [ true ↦ with_field (given f) (written_section bad n fields rest) | false ↦ Bad bad ]

-- Field lines

-- without the line's end
abbrev text_of : Field → List ℕ
text_of f = f.name ++ 58 ∷ 32 ∷ f.value

record Plain (f : Field) : Type 0 where
  some : 0 < length f.name
  tokens : Tokens f.name
  lower_case : lower f.name ≡ f.name
  no_cr : Lacks 13 f.value
  no_lf : Lacks 10 f.value

one_line : (v : List ℕ) → is_on_one_line v ≡ true → (Lacks 13 v) × (Lacks 10 v)
one_line [] e = (tt, tt)
one_line (b ∷ v) e =
    let both = by (b == 13) (b == 10) (and_first (not (b == 13 || b == 10)) (is_on_one_line v) e) in
    let rest = one_line v (and_second (not (b == 13 || b == 10)) (is_on_one_line v) e) in
    ((both.0, rest.0), (both.1, rest.1))
  where
    by : (x y : Bool) → not (x || y) ≡ true → (x ≡ false) × (y ≡ false)
    by true y e = absurd cc
    by false true e = absurd cc
    by false false e = (refl, refl)

plain : (f : Field) → is_writable f ≡ true → Plain f
plain f e =
    let name : (is_token f.name && bytes_eq (lower f.name) f.name) ≡ true = and_first (is_token f.name && bytes_eq (lower f.name) f.name) (is_on_one_line f.value) e in
    let value = one_line f.value (and_second (is_token f.name && bytes_eq (lower f.name) f.name) (is_on_one_line f.value) e) in
    let token : is_token f.name ≡ true = and_first (is_token f.name) (bytes_eq (lower f.name) f.name) name in
    record {
      some = from_some_byte f.name (and_first (not (is_empty f.name)) (list_all is_token_byte f.name) token);
      tokens = from_all_true is_token_byte f.name (and_second (not (is_empty f.name)) (list_all is_token_byte f.name) token);
      lower_case = bytes_same (lower f.name) f.name (and_second (is_token f.name) (bytes_eq (lower f.name) f.name) name);
      no_cr = value.0;
      no_lf = value.1;
    }

text_lacks : (c : ℕ) (f : Field) → is_token_byte c ≡ false → (58 == c) ≡ false → (32 == c) ≡ false → Tokens f.name → Lacks c f.value → Lacks c (text_of f)
text_lacks c f e g h x y = Lacks-append c f.name (58 ∷ 32 ∷ f.value) (Lacks-pass is_token_byte c e f.name x) (g, (h, y))

no_shape : (s : List ℕ) → field_shape NoField s ≡ NoField
no_shape [] = refl
no_shape (b ∷ s) = no_shape s

value_shape : (v : List ℕ) → Lacks 13 v → field_shape InValue (v ++ 13 ∷ []) ≡ (if list_all is_value_byte v then AtEnd else NoField)
value_shape [] x = refl
value_shape (b ∷ v) x = by (is_value_byte b) (b == 13) x.0 (value_shape v x.1)
  where
    by : (t c : Bool) → c ≡ false → field_shape InValue (v ++ 13 ∷ []) ≡ (if list_all is_value_byte v then AtEnd else NoField)
        → field_shape (if t then InValue else (if c then AtEnd else NoField)) (v ++ 13 ∷ []) ≡ (if t && list_all is_value_byte v then AtEnd else NoField)
    by true c e k = k
    by false true e k = absurd cc
    by false false e k = no_shape (v ++ 13 ∷ [])

line_shape : (f : Field) → Plain f → field_shape AtStart (text_of f ++ 13 ∷ []) ≡ (if is_readable f then AtEnd else NoField)
line_shape f x =
    ap (field_shape AtStart) (append_assoc f.name (58 ∷ 32 ∷ f.value) (13 ∷ []))
    ∙ field_shape-append AtStart f.name (58 ∷ 32 ∷ (f.value ++ 13 ∷ []))
    ∙ ap (λ s. field_shape s (58 ∷ 32 ∷ (f.value ++ 13 ∷ []))) (name_begins f.name x.some x.tokens)
    ∙ value_shape f.value x.no_cr

line_field : (f : Field) → Plain f → field_of (text_of f ++ 13 ∷ []) ≡ given f
line_field f x =
    let text : without_cr (text_of f ++ 13 ∷ []) ≡ text_of f =
    without_cr-end (text_of f) grammar.crlf (text_lacks 13 f refl refl refl x.tokens x.no_cr) in
    let parts : split_at 58 (text_of f) ≡ (f.name, 32 ∷ f.value) =
    split_at-first 58 f.name (32 ∷ f.value) (Lacks-pass is_token_byte 58 refl f.name x.tokens) in
    ap (λ t. field (lower (split_at 58 t).0) (trim (split_at 58 t).1)) text
    ∙ ap (λ p. field (lower p.0) (trim p.1)) parts
    ∙ ap (λ n. field n (trim f.value)) x.lower_case

-- one line, and what stands behind it
line_parted : (f : Field) (more : List ℕ) → field_line f.name f.value ++ more ≡ (text_of f ++ 13 ∷ []) ++ 10 ∷ more
line_parted f more = regroup f.name f.value more
  where
    regroup : (n v m : List ℕ) → (n ++ (58 ∷ 32 ∷ []) ++ v ++ crlf) ++ m ≡ ((n ++ 58 ∷ 32 ∷ v) ++ 13 ∷ []) ++ 10 ∷ m
    regroup n v m = simp append_assoc

one_read : (bad : Fault) (f : Field) (more : List ℕ) (next : List ℕ → Reading (List Field)) → Plain f
    → section_at bad (field_line f.name f.value ++ more) (line (field_line f.name f.value ++ more)) next
    ≡ elim (is_readable f) [ true ↦ with_field (given f) (next more) | false ↦ Bad bad ]
one_read bad f more next x =
    let text : List ℕ = text_of f ++ 13 ∷ [] in
    ap (λ b. section_at bad b (line b) next) (line_parted f more)
    ∙ ap (λ r. section_at bad (text ++ 10 ∷ more) r next) (line_at text more (Lacks-append 10 (text_of f) (13 ∷ []) (text_lacks 10 f refl refl refl x.tokens x.no_lf) (refl, tt)))
    ∙ ap (λ s. by_line bad s text more next) (line_shape f x)
    ∙ by (is_readable f)
  where
    by : (t : Bool) → by_line bad (if t then AtEnd else NoField) (text_of f ++ 13 ∷ []) more next ≡ elim t [ true ↦ with_field (given f) (next more) | false ↦ Bad bad ]
    by true = ap (λ g. with_field g (next more)) (line_field f x)
    by false = refl

begins : (f : Field) (more : List ℕ) → Plain f → begins_field (field_line f.name f.value ++ more) ≡ true
begins f more x = by f.name x.some x.tokens
  where
    by : (n : List ℕ) → 0 < length n → Tokens n → begins_field ((n ++ (58 ∷ 32 ∷ []) ++ f.value ++ crlf) ++ more) ≡ true
    by [] h y = absurd (none h)
      where
        none : 0 < 0 → ⊥
        none h = omega (arith, h)
    by (b ∷ n) h y = begins_token b ((n ++ (58 ∷ 32 ∷ []) ++ f.value ++ crlf) ++ more) y.0

-- Sections

pub section_written : (bad : Fault) (n : ℕ) (fields : List Field) (rest : List ℕ) → list_all is_writable fields ≡ true
    → section bad n (field_lines fields ++ (crlf ++ rest)) ≡ written_section bad n fields rest
unfolding section
section_written bad zero [] rest e = refl
section_written bad (suc n) [] rest e = refl
section_written bad zero (f ∷ fields) rest e =
    let more : List ℕ = field_lines fields ++ (crlf ++ rest) in
    let x : Plain f = plain f (and_first (is_writable f) (list_all is_writable fields) e) in
    ap (section bad zero) (append_assoc (field_line f.name f.value) (field_lines fields) (crlf ++ rest))
    ∙ ap (choose (field_line f.name f.value ++ more)) (begins f more x)
  where
    choose : List ℕ → Bool → Reading (List Field)
    choose bytes c = elim c [ true ↦ Bad LongHead | false ↦ section_at bad bytes (line bytes) (λ others. Bad LongHead) ]
section_written bad (suc n) (f ∷ fields) rest e =
    let more : List ℕ = field_lines fields ++ (crlf ++ rest) in
    let x : Plain f = plain f (and_first (is_writable f) (list_all is_writable fields) e) in
    ap (λ b. section_at bad b (line b) (section bad n)) (append_assoc (field_line f.name f.value) (field_lines fields) (crlf ++ rest))
    ∙ one_read bad f more (section bad n) x
    ∙ ap (λ r. elim (is_readable f) [ true ↦ with_field (given f) r | false ↦ Bad bad ])
    (section_written bad n fields rest (and_second (is_writable f) (list_all is_writable fields) e))

-- Which of them are given back

-- where it is read, as they were
pub written_given : (bad : Fault) (n : ℕ) (fields : List Field) (rest : List ℕ) (shown : List Field) (others : List ℕ)
    → written_section bad n fields rest ≡ Whole shown others → (map given fields ≡ shown) × (rest ≡ others)
written_given bad n [] rest shown others e = (cc, cc)
written_given bad zero (f ∷ fields) rest shown others e = absurd cc
written_given bad (suc n) (f ∷ fields) rest shown others e = by (is_readable f) (written_section bad n fields rest) (written_given bad n fields rest) e
  where
    by : (c : Bool) (r : Reading (List Field)) → ((shown : List Field) (others : List ℕ) → r ≡ Whole shown others → (map given fields ≡ shown) × (rest ≡ others))
        → ◌≡◌ {A = Reading (List Field)} (elim c [ true ↦ with_field (given f) r | false ↦ Bad bad ]) (Whole shown others) → (map given (f ∷ fields) ≡ shown) × (rest ≡ others)
    by true (Whole gs more) k e =
        let inner : (map given fields ≡ gs) × (rest ≡ more) = k gs more refl in
        let same : given f ∷ gs ≡ shown = cc in
        let rests : more ≡ others = cc in
        (ap (λ l. given f ∷ l) inner.0 ∙ same, inner.1 ∙ rests)
    by true Partial k e = absurd cc
    by true (Bad b) k e = absurd cc
    by false r k e = absurd cc

-- within the limit, where each can be read
pub written_whole : (bad : Fault) (n : ℕ) (fields : List Field) (rest : List ℕ) → list_all is_readable fields ≡ true → length fields ≤ n
    → written_section bad n fields rest ≡ Whole (map given fields) rest
written_whole bad n [] rest e h = refl
written_whole bad zero (f ∷ fields) rest e h = absurd (none (length fields) h)
  where
    none : (k : ℕ) → suc k ≤ 0 → ⊥
    none k h = omega (arith, h)
written_whole bad (suc n) (f ∷ fields) rest e h =
    by (is_readable f) (and_first (is_readable f) (list_all is_readable fields) e)
    ∙ ap (with_field (given f)) (written_whole bad n fields rest (and_second (is_readable f) (list_all is_readable fields) e) (omega (arith, h)))
  where
    by : (c : Bool) → c ≡ true → ◌≡◌ {A = Reading (List Field)} (elim c [ true ↦ with_field (given f) (written_section bad n fields rest) | false ↦ Bad bad ])
        (with_field (given f) (written_section bad n fields rest))
    by true e = refl
    by false e = absurd cc
