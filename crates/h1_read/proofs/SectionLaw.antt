-- The sections of the model are those of httparse's grammar.
use Rattle.std.proofs.Common.{inl, inr, sym, ◌∙◌, ap, subst, refl, arith, append_assoc, append-nil}
use Rattle.std.specs.Prelude.{ℕ, zero, suc, ◌≡◌, ◌⊎◌, ◌+◌, ◌-◌, ◌<◌, ◌≤◌, Bool, true, false, not, ◌||◌, List, [], ◌∷◌, ◌++◌, length, map, ◌==◌}
use Rattle.std.specs.List.{flat_map, All}
use Rattle.std.proofs.lemmas.List.Elements.{All-head, All-tail, All-cons, All-nil}
use Rattle.http_model.specs.Bytes.{is_token_byte, is_value_byte}
use Rattle.http_model.specs.Reading.{Reading, Whole, Partial, Bad, Fault, LongHead, Stays}
use Rattle.http_model.specs.Lines.{line, FieldShape, AtStart, InName, InValue, AtEmptyEnd, AtEnd, NoField, field_shape, field_of, with_field, by_line, by_part, section_at, begins_field, section}
use Rattle.http_model.proofs.LinesStable.{section-stays}
use Rattle.ext_msgs.specs.declared.lists.Field as model
use Rattle.httparse.specs.Grammar.{LineEnd, crlf, lf, print_end, Field, IsField, print_field, print_section, ReadsSection, NeverHasSection, MayBecomeSection}
use Rattle.httparse.specs.Spans.{SectionOverflows}
use Rattle.h1_read.specs.Agreement.{field_of_line, IsSection, AgreesOnSections}
use Rattle.h1_read.proofs.LineParts.{Lacks, Lacks-pass, line_at, line_open, FirstOf, by_line_feed, cr_of}
use Rattle.h1_read.proofs.FieldText.{Tokens, tokens_of, field_text, end_shape, text_shape, text_lacks, text_is, text_field, all_tokens}
use Rattle.h1_read.proofs.LineShape.{Says, says, IsText, text_of}

-- What the grammar has is read

abbrev pub with_fields : List model.Field → Reading (List model.Field) → Reading (List model.Field)
with_fields [] r = r
with_fields (f ∷ fs) r = with_field f (with_fields fs r)

by_text : (bad : Fault) (f : Field) (rest : List ℕ) (next : List ℕ → Reading (List model.Field)) → IsField f
    → section_at bad (field_text f ++ 10 ∷ rest) (line (field_text f ++ 10 ∷ rest)) next ≡ with_field (field_of_line f) (next rest)
by_text bad f rest next x =
    ap (λ r. section_at bad (field_text f ++ 10 ∷ rest) r next) (line_at (field_text f) rest (text_lacks f x))
    ∙ ap (λ s. by_line bad s (field_text f) rest next) (text_shape f x)
    ∙ by_end f.end
    ∙ ap (λ g. with_field g (next rest)) (text_field f x)
  where
    by_end : (e : LineEnd) → by_line bad (end_shape e) (field_text f) rest next ≡ with_field (field_of (field_text f)) (next rest)
    by_end crlf = refl
    by_end lf = refl

pub begins_token : (b : ℕ) (s : List ℕ) → is_token_byte b ≡ true → begins_field (b ∷ s) ≡ true
begins_token b s e = by (b == 13) (b == 10) (Lacks-pass is_token_byte 13 refl (b ∷ []) (e, tt)).0 (Lacks-pass is_token_byte 10 refl (b ∷ []) (e, tt)).0
  where
    by : (x y : Bool) → x ≡ false → y ≡ false → not (x || y) ≡ true
    by true y e f = absurd cc
    by false true e f = absurd cc
    by false false e f = refl

pub text_begins : (f : Field) (s : List ℕ) → IsField f → begins_field (field_text f ++ s) ≡ true
text_begins f s x = by f.name x.name.0 (tokens_of f.name x.name.1)
  where
    by : (n : List ℕ) → 0 < length n → Tokens n → begins_field ((n ++ 58 ∷ (f.raw ++ cr_of f.end)) ++ s) ≡ true
    by [] h y = absurd (omega arith)
    by (b ∷ n) h y = begins_token b ((n ++ 58 ∷ (f.raw ++ cr_of f.end)) ++ s) y.0

no_room : (bad : Fault) (f : Field) (rest : List ℕ) → IsField f → section bad zero (field_text f ++ 10 ∷ rest) ≡ Bad LongHead
unfolding section
no_room bad f rest x = ap choose (text_begins f (10 ∷ rest) x)
  where
    choose : Bool → Reading (List model.Field)
    choose b = elim b [
      | true ↦ Bad LongHead
      | false ↦ section_at bad (field_text f ++ 10 ∷ rest) (line (field_text f ++ 10 ∷ rest)) (λ more. Bad LongHead)
    ]

some_room : (bad : Fault) (n : ℕ) (f : Field) (rest : List ℕ) → IsField f
    → section bad (suc n) (field_text f ++ 10 ∷ rest) ≡ with_field (field_of_line f) (section bad n rest)
unfolding section
some_room bad n f rest x = by_text bad f rest (section bad n) x

pub lines_of : (f : Field) (fs : List Field) (s : List ℕ) → flat_map print_field (f ∷ fs) ++ s ≡ field_text f ++ 10 ∷ (flat_map print_field fs ++ s)
lines_of f fs s =
    append_assoc (print_field f) (flat_map print_field fs) s
    ∙ ap (λ t. t ++ (flat_map print_field fs ++ s)) (text_is f)
    ∙ append_assoc (field_text f) (10 ∷ []) (flat_map print_field fs ++ s)

-- as many fields as there is room for
pub fields_fit : (bad : Fault) (n : ℕ) (fs : List Field) (s : List ℕ) → All IsField fs
    → section bad (length fs + n) (flat_map print_field fs ++ s) ≡ with_fields (map field_of_line fs) (section bad n s)
fields_fit bad n [] s x = ap (λ k. section bad k s) (none n)
  where
    none : (n : ℕ) → 0 + n ≡ n
    none n = omega arith
fields_fit bad n (f ∷ fs) s x =
    ap (λ k. section bad k (flat_map print_field (f ∷ fs) ++ s)) (one (length fs) n)
    ∙ ap (section bad (suc (length fs + n))) (lines_of f fs s)
    ∙ some_room bad (length fs + n) f (flat_map print_field fs ++ s) (All-head IsField f fs x)
    ∙ ap (with_field (field_of_line f)) (fields_fit bad n fs s (All-tail IsField f fs x))
  where
    one : (m n : ℕ) → suc m + n ≡ suc (m + n)
    one m n = omega arith

with_fields-whole : (fs gs : List model.Field) (rest : List ℕ) → with_fields fs (Whole gs rest) ≡ Whole (fs ++ gs) rest
with_fields-whole [] gs rest = refl
with_fields-whole (f ∷ fs) gs rest = ap (with_field f) (with_fields-whole fs gs rest)

-- more fields than there is room for
pub fields_exceed : (bad : Fault) (n : ℕ) (fs : List Field) (s : List ℕ) → All IsField fs → n < length fs
    → section bad n (flat_map print_field fs ++ s) ≡ Bad LongHead
fields_exceed bad n [] s x h = absurd (omega arith)
fields_exceed bad zero (f ∷ fs) s x h =
    ap (section bad zero) (lines_of f fs s) ∙ no_room bad f (flat_map print_field fs ++ s) (All-head IsField f fs x)
fields_exceed bad (suc n) (f ∷ fs) s x h =
    ap (section bad (suc n)) (lines_of f fs s)
    ∙ some_room bad n f (flat_map print_field fs ++ s) (All-head IsField f fs x)
    ∙ ap (with_field (field_of_line f)) (fields_exceed bad n fs s (All-tail IsField f fs x) (omega arith))

-- the empty line
pub section_ends : (bad : Fault) (n : ℕ) (e : LineEnd) (rest : List ℕ) → section bad n (print_end e ++ rest) ≡ Whole [] rest
unfolding section
section_ends bad zero crlf rest = refl
section_ends bad zero lf rest = refl
section_ends bad (suc n) crlf rest = refl
section_ends bad (suc n) lf rest = refl

pub section_found : (bad : Fault) (n : ℕ) (bytes : List ℕ) (fs : List Field) (last : LineEnd) (rest : List ℕ)
    → ReadsSection bytes fs last rest → length fs ≤ n → section bad n bytes ≡ Whole (map field_of_line fs) rest
section_found bad n bytes fs last rest x h =
    ap (section bad n) (x.1 ∙ append_assoc (flat_map print_field fs) (print_end last) rest)
    ∙ ap (λ k. section bad k (flat_map print_field fs ++ (print_end last ++ rest))) (parted n (length fs) h)
    ∙ fields_fit bad (n - length fs) fs (print_end last ++ rest) x.0
    ∙ ap (with_fields (map field_of_line fs)) (section_ends bad (n - length fs) last rest)
    ∙ with_fields-whole (map field_of_line fs) [] rest
    ∙ ap (λ gs. Whole gs rest) (append-nil (map field_of_line fs))
  where
    parted : (n m : ℕ) → m ≤ n → n ≡ m + (n - m)
    parted n m h = omega arith

pub section_exceeds : (bad : Fault) (n : ℕ) (bytes : List ℕ) (fs : List Field) (last : LineEnd) (rest : List ℕ)
    → ReadsSection bytes fs last rest → n < length fs → section bad n bytes ≡ Bad LongHead
section_exceeds bad n bytes fs last rest x h =
    ap (section bad n) (x.1 ∙ append_assoc (flat_map print_field fs) (print_end last) rest)
    ∙ fields_exceed bad n fs (print_end last ++ rest) x.0 h

-- What is read is in the grammar

pub section_of : (f : Field) (fs : List Field) (last : LineEnd) (rest : List ℕ)
    → print_section (f ∷ fs) last ++ rest ≡ field_text f ++ 10 ∷ (print_section fs last ++ rest)
section_of f fs last rest =
    append_assoc (flat_map print_field (f ∷ fs)) (print_end last) rest
    ∙ lines_of f fs (print_end last ++ rest)
    ∙ ap (λ s. field_text f ++ 10 ∷ s) (sym (append_assoc (flat_map print_field fs) (print_end last) rest))

abbrev pub Tells : List ℕ → Reading (List model.Field) → Type 0
Tells bytes (Whole fs rest) = IsSection bytes fs rest
Tells bytes Partial = MayBecomeSection bytes
Tells bytes (Bad f) = Unit {0}

no_fields : (bytes : List ℕ) (e : LineEnd) (rest : List ℕ) → bytes ≡ print_end e ++ rest → IsSection bytes [] rest
no_fields bytes e rest same = record { fields = []; last = e; reads = (All-nil IsField, same); same = refl }

one_field : (bytes first rest : List ℕ) (e : LineEnd) → IsText first e → bytes ≡ first ++ 10 ∷ rest → (r : Reading (List model.Field))
    → Tells rest r → Tells bytes (with_field (field_of first) r)
one_field bytes first rest e w joined (Whole fs more) x = record {
  fields = w.field ∷ x.fields;
  last = x.last;
  reads = (
    All-cons IsField w.field x.fields w.valid x.reads.0,
    joined ∙ ap (λ s. s ++ 10 ∷ rest) w.joined ∙ ap (λ s. field_text w.field ++ 10 ∷ s) x.reads.1 ∙ sym (section_of w.field x.fields x.last more),
  );
  same = ap (λ f. f ∷ map field_of_line x.fields) (sym (ap field_of w.joined ∙ text_field w.field w.valid)) ∙ ap (λ gs. field_of first ∷ gs) x.same;
}
one_field bytes first rest e w joined Partial x = (
  x.0,
  w.field ∷ x.1,
  x.2,
  (
    All-cons IsField w.field x.1 w.valid x.3.0,
    ap (λ s. s ++ x.0) (joined ∙ ap (λ s. s ++ 10 ∷ rest) w.joined)
        ∙ append_assoc (field_text w.field) (10 ∷ rest) x.0
        ∙ ap (λ s. field_text w.field ++ 10 ∷ s) x.3.1
        ∙ sym (section_of w.field x.1 x.2 []),
  ),
)
one_field bytes first rest e w joined (Bad f) x = tt

-- a field line that lacks its line feed
may_end : (bytes : List ℕ) (e : LineEnd) → IsText bytes e → MayBecomeSection bytes
may_end bytes e w = (
  10 ∷ 10 ∷ [],
  w.field ∷ [],
  lf,
  (
    All-cons IsField w.field [] w.valid (All-nil IsField),
    ap (λ s. s ++ 10 ∷ 10 ∷ []) w.joined ∙ sym (section_of w.field [] lf []),
  ),
)

-- a name that lacks all else
may_go_on : (bytes : List ℕ) → 0 < length bytes → Tokens bytes → MayBecomeSection bytes
may_go_on bytes h x =
    let f : Field = record { name = bytes; raw = []; end = lf } in
    let valid : IsField f = record { name = (h, all_tokens bytes x); raw = All-nil (λ b. is_value_byte b ≡ true) } in (
      58 ∷ 10 ∷ 10 ∷ [],
      f ∷ [],
      lf,
      (All-cons IsField f [] valid (All-nil IsField), sym (append_assoc bytes (58 ∷ []) (10 ∷ 10 ∷ [])) ∙ sym (section_of f [] lf [])),
    )

tells_at : (bad : Fault) (bytes : List ℕ) (next : List ℕ → Reading (List model.Field)) → ((rest : List ℕ) → Tells rest (next rest))
    → FirstOf bytes ⊎ Lacks 10 bytes → Tells bytes (section_at bad bytes (line bytes) next)
tells_at bad bytes next k (inl w) =
    subst (λ r. Tells bytes (section_at bad bytes r next)) (sym (ap line w.joined ∙ line_at w.first w.rest w.lacks)) (by (field_shape AtStart w.first) (says w.first))
  where
    by : (s : FieldShape) → Says s w.first → Tells bytes (by_line bad s w.first w.rest next)
    by AtStart x = no_fields bytes lf w.rest (w.joined ∙ ap (λ l. l ++ 10 ∷ w.rest) x)
    by AtEmptyEnd x = no_fields bytes crlf w.rest (w.joined ∙ ap (λ l. l ++ 10 ∷ w.rest) x)
    by InValue x = one_field bytes w.first w.rest lf (text_of w.first lf x) w.joined (next w.rest) (k w.rest)
    by AtEnd x = one_field bytes w.first w.rest crlf (text_of w.first crlf x) w.joined (next w.rest) (k w.rest)
    by InName x = tt
    by NoField x = tt
tells_at bad bytes next k (inr w) =
    subst (λ r. Tells bytes (section_at bad bytes r next)) (sym (line_open bytes w)) (by (field_shape AtStart bytes) (says bytes))
  where
    by : (s : FieldShape) → Says s bytes → Tells bytes (by_part bad s)
    by AtStart x = (10 ∷ [], [], lf, (All-nil IsField, ap (λ l. l ++ 10 ∷ []) x))
    by AtEmptyEnd x = (10 ∷ [], [], crlf, (All-nil IsField, ap (λ l. l ++ 10 ∷ []) x))
    by InValue x = may_end bytes lf (text_of bytes lf x)
    by AtEnd x = may_end bytes crlf (text_of bytes crlf x)
    by InName x = may_go_on bytes x.0 x.1
    by NoField x = tt

pub section_tells : (bad : Fault) (n : ℕ) (bytes : List ℕ) → Tells bytes (section bad n bytes)
unfolding section
section_tells bad zero bytes = by (begins_field bytes)
  where
    by : (b : Bool) → Tells bytes (elim b [ true ↦ Bad LongHead | false ↦ section_at bad bytes (line bytes) (λ rest. Bad LongHead) ])
    by true = tt
    by false = tells_at bad bytes (λ rest. Bad LongHead) (λ rest. tt) (by_line_feed bytes)
section_tells bad (suc n) bytes = tells_at bad bytes (section bad n) (section_tells bad n) (by_line_feed bytes)

-- What can't be read never is in the grammar

pub few_or_many : (n m : ℕ) → (m ≤ n) ⊎ (n < m)
few_or_many n m = grind arith

same_fault : (f g : Fault) → ◌≡◌ {A = Reading (List model.Field)} (Bad f) (Bad g) → f ≡ g
same_fault f g e = cc

stays_bad : (bad : Fault) (n : ℕ) (bytes more : List ℕ) (f : Fault) → section bad n bytes ≡ Bad f → section bad n (bytes ++ more) ≡ Bad f
stays_bad bad n bytes more f e = subst (λ r. Stays r more (section bad n (bytes ++ more))) e (section-stays bad n bytes more)

pub section_never : (bad : Fault) (n : ℕ) (bytes : List ℕ) → (bad ≡ LongHead → ⊥) → section bad n bytes ≡ Bad bad → NeverHasSection bytes
section_never bad n bytes other e more fs last rest x = by (few_or_many n (length fs))
  where
    by : (length fs ≤ n) ⊎ (n < length fs) → ⊥
    by (inl h) =
        let both : Bad bad ≡ Whole (map field_of_line fs) rest = sym (stays_bad bad n bytes more bad e) ∙ section_found bad n (bytes ++ more) fs last rest x h in
        absurd cc
    by (inr h) = other (same_fault bad LongHead (sym (stays_bad bad n bytes more bad e) ∙ section_exceeds bad n (bytes ++ more) fs last rest x h))

pub section_long : (bad : Fault) (n : ℕ) (bytes : List ℕ) → section bad n bytes ≡ Bad LongHead → SectionOverflows n bytes
section_long bad n bytes e more fs last rest x = by (few_or_many n (length fs))
  where
    by : (length fs ≤ n) ⊎ (n < length fs) → n < length fs
    by (inl h) =
        let both : Bad LongHead ≡ Whole (map field_of_line fs) rest = sym (stays_bad bad n bytes more LongHead e) ∙ section_found bad n (bytes ++ more) fs last rest x h in
        absurd cc
    by (inr h) = h

pub sections_agree : (bad : Fault) (n : ℕ) → (bad ≡ LongHead → ⊥) → AgreesOnSections bad n
sections_agree bad n other = record {
  found = section_found bad n;
  whole = λ bytes shown rest e. subst (Tells bytes) e (section_tells bad n bytes);
  partial = λ bytes e. subst (Tells bytes) e (section_tells bad n bytes);
  never = λ bytes e. section_never bad n bytes other e;
  long = section_long bad n;
}
