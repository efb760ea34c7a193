-- A line is a field line by its shape, and gives the same field.
use Rattle.std.proofs.Common.{sym, ◌∙◌, ap, refl, arith, append_assoc}
use Rattle.std.specs.Prelude.{ℕ, ◌≡◌, ◌<◌, Bool, true, false, ◌&&◌, if◌then◌else◌, List, [], ◌∷◌, ◌++◌, length, reverse, ◌==◌}
use Rattle.std.specs.List.{AllByRecursion}
use Rattle.std.proofs.lemmas.List.{reverse-append}
use Rattle.std.proofs.lemmas.List.Elements.{All-from_recursion}
use Rattle.http_model.specs.Bytes.{is_empty, is_blank, is_token_byte, is_value_byte, lower, trim, trim_start, trim_end, split_at, field}
use Rattle.http_model.specs.Lines.{without_cr, FieldShape, AtStart, InName, InValue, AtEmptyEnd, AtEnd, NoField, field_shape, field_of}
use Rattle.http_model.proofs.LinesStable.{field_shape-append}
use Rattle.httparse.specs.Grammar.{AllPass, LineEnd, crlf, lf, print_end, Field, IsField, print_field, skip_ows, trim_ows}
use Rattle.httparse.specs.Grammar as grammar
use Rattle.ext_msgs.specs.declared.lists.Field as model
use Rattle.h1_read.specs.Agreement.{field_of_line}
use Rattle.h1_read.proofs.LineParts.{Lacks, Lacks-append, Lacks-pass, passing, cr_of, end_is, cr_lacks, without_cr-end, split_at-first}

-- Blanks

skip_is : (s : List ℕ) → skip_ows s ≡ trim_start s
skip_is [] = refl
skip_is (b ∷ s) = ap (λ t. if is_blank b then t else b ∷ s) (skip_is s)

skip-last : (b : ℕ) (s : List ℕ) → skip_ows (s ++ b ∷ []) ≡ (if is_empty (skip_ows s) then skip_ows (b ∷ []) else skip_ows s ++ b ∷ [])
skip-last b [] = refl
skip-last b (c ∷ s) = by (is_blank c) (skip-last b s)
  where
    by : (t : Bool) → skip_ows (s ++ b ∷ []) ≡ (if is_empty (skip_ows s) then skip_ows (b ∷ []) else skip_ows s ++ b ∷ [])
        → (if t then skip_ows (s ++ b ∷ []) else c ∷ (s ++ b ∷ []))
        ≡ (if is_empty (if t then skip_ows s else c ∷ s) then skip_ows (b ∷ []) else (if t then skip_ows s else c ∷ s) ++ b ∷ [])
    by true e = e
    by false e = refl

pub some_last : (s : List ℕ) (b : ℕ) → is_empty (s ++ b ∷ []) ≡ false
some_last [] b = refl
some_last (c ∷ s) b = refl

one_more : (b : ℕ) (rest r : List ℕ) → rest ≡ reverse r
    → (if is_blank b && is_empty rest then [] else b ∷ rest) ≡ reverse (if is_empty r then skip_ows (b ∷ []) else r ++ b ∷ [])
one_more b rest [] e = ap (λ s. if is_blank b && is_empty s then [] else b ∷ s) e ∙ by (is_blank b)
  where
    by : (t : Bool) → ◌≡◌ {A = List ℕ} (if t && true then [] else b ∷ []) (reverse (if t then [] else b ∷ []))
    by true = refl
    by false = refl
one_more b rest (c ∷ r) e =
    let turned : reverse (c ∷ r) ≡ reverse r ++ c ∷ [] = reverse-append (c ∷ []) r in
    let some : is_empty rest ≡ false = ap is_empty (e ∙ turned) ∙ some_last (reverse r) c in
    ap (λ t. if is_blank b && t then [] else b ∷ rest) some ∙ never (is_blank b) ∙ ap (λ s. b ∷ s) e ∙ sym (reverse-append (c ∷ r) (b ∷ []))
  where
    never : (t : Bool) → (if t && false then [] else b ∷ rest) ≡ b ∷ rest
    never true = refl
    never false = refl

trim_end_is : (s : List ℕ) → trim_end s ≡ reverse (skip_ows (reverse s))
trim_end_is [] = refl
trim_end_is (b ∷ s) =
    one_more b (trim_end s) (skip_ows (reverse s)) (trim_end_is s)
    ∙ sym (ap reverse (ap skip_ows (reverse-append (b ∷ []) s) ∙ skip-last b (reverse s)))

pub trim_is : (s : List ℕ) → trim s ≡ trim_ows s
unfolding trim_ows
trim_is s = trim_end_is (trim_start s) ∙ ap (λ t. reverse (skip_ows (reverse t))) (sym (skip_is s))

-- Bytes of one kind

abbrev pub Tokens : List ℕ → Type 0
Tokens s = AllByRecursion (λ b. is_token_byte b ≡ true) s

abbrev pub Values : List ℕ → Type 0
Values s = AllByRecursion (λ b. is_value_byte b ≡ true) s

pub token_same : (b : ℕ) → grammar.is_token_byte b ≡ is_token_byte b
unfolding grammar.is_token_byte
token_same b = refl

tokens_from : (s : List ℕ) → AllByRecursion (λ b. grammar.is_token_byte b ≡ true) s → Tokens s
tokens_from [] x = tt
tokens_from (b ∷ s) x = (sym (token_same b) ∙ x.0, tokens_from s x.1)

tokens_to : (s : List ℕ) → Tokens s → AllByRecursion (λ b. grammar.is_token_byte b ≡ true) s
tokens_to [] x = tt
tokens_to (b ∷ s) x = (token_same b ∙ x.0, tokens_to s x.1)

pub tokens_of : (s : List ℕ) → AllPass grammar.is_token_byte s → Tokens s
tokens_of s x = tokens_from s (passing grammar.is_token_byte s x)

pub all_tokens : (s : List ℕ) → Tokens s → AllPass grammar.is_token_byte s
all_tokens s x = All-from_recursion (λ b. grammar.is_token_byte b ≡ true) s (tokens_to s x)

pub values_of : (s : List ℕ) → AllPass grammar.is_value_byte s → Values s
values_of s x = passing grammar.is_value_byte s x

pub all_values : (s : List ℕ) → Values s → AllPass grammar.is_value_byte s
all_values s x = All-from_recursion (λ b. is_value_byte b ≡ true) s x

-- Field lines have the shape of one

name_goes_on : (s : List ℕ) → Tokens s → field_shape InName s ≡ InName
name_goes_on [] x = refl
name_goes_on (b ∷ s) x = ap (λ t. field_shape (if t then InName else (if b == 58 then InValue else NoField)) s) x.0 ∙ name_goes_on s x.1

pub value_goes_on : (s : List ℕ) → Values s → field_shape InValue s ≡ InValue
value_goes_on [] x = refl
value_goes_on (b ∷ s) x = ap (λ t. field_shape (if t then InValue else (if b == 13 then AtEnd else NoField)) s) x.0 ∙ value_goes_on s x.1

pub name_begins : (s : List ℕ) → 0 < length s → Tokens s → field_shape AtStart s ≡ InName
name_begins [] h x = absurd (omega arith)
name_begins (b ∷ s) h x = ap (λ t. field_shape (if t then InName else (if b == 13 then AtEmptyEnd else NoField)) s) x.0 ∙ name_goes_on s x.1

abbrev pub field_text : Field → List ℕ
field_text f = f.name ++ 58 ∷ (f.raw ++ cr_of f.end)

abbrev pub end_shape : LineEnd → FieldShape
end_shape crlf = AtEnd
end_shape lf = InValue

at_end : (e : LineEnd) → field_shape InValue (cr_of e) ≡ end_shape e
at_end crlf = refl
at_end lf = refl

pub text_shape : (f : Field) → IsField f → field_shape AtStart (field_text f) ≡ end_shape f.end
text_shape f x =
    field_shape-append AtStart f.name (58 ∷ (f.raw ++ cr_of f.end))
    ∙ ap (λ s. field_shape s (58 ∷ (f.raw ++ cr_of f.end))) (name_begins f.name x.name.0 (tokens_of f.name x.name.1))
    ∙ field_shape-append InValue f.raw (cr_of f.end)
    ∙ ap (λ s. field_shape s (cr_of f.end)) (value_goes_on f.raw (values_of f.raw x.raw))
    ∙ at_end f.end

pub text_lacks : (f : Field) → IsField f → Lacks 10 (field_text f)
text_lacks f x =
    Lacks-append 10 f.name (58 ∷ (f.raw ++ cr_of f.end)) (Lacks-pass is_token_byte 10 refl f.name (tokens_of f.name x.name.1))
    (refl, Lacks-append 10 f.raw (cr_of f.end) (Lacks-pass is_value_byte 10 refl f.raw (values_of f.raw x.raw)) (cr_lacks f.end))

pub text_is : (f : Field) → print_field f ≡ field_text f ++ 10 ∷ []
text_is f = rw (end_is f.end) (regroup f.name f.raw (cr_of f.end))
  where
    cons-append : (x : ℕ) (a b : List ℕ) → (x ∷ a) ++ b ≡ x ∷ (a ++ b)
    cons-append x a b = refl

    regroup : (n r c : List ℕ) → n ++ 58 ∷ r ++ (c ++ 10 ∷ []) ≡ (n ++ 58 ∷ (r ++ c)) ++ 10 ∷ []
    regroup n r c = simp (append_assoc, cons-append) refl

abbrev by_parts : List ℕ × List ℕ → model.Field
by_parts parts = field (lower parts.0) (trim parts.1)

pub text_field : (f : Field) → IsField f → field_of (field_text f) ≡ field_of_line f
text_field f x =
    let same : field_text f ≡ (f.name ++ 58 ∷ f.raw) ++ cr_of f.end = sym (append_assoc f.name (58 ∷ f.raw) (cr_of f.end)) in
    let text_lacks_cr : Lacks 13 (f.name ++ 58 ∷ f.raw) =
    Lacks-append 13 f.name (58 ∷ f.raw) (Lacks-pass is_token_byte 13 refl f.name (tokens_of f.name x.name.1))
    (refl, Lacks-pass is_value_byte 13 refl f.raw (values_of f.raw x.raw)) in
    let parted = ap without_cr same ∙ without_cr-end (f.name ++ 58 ∷ f.raw) f.end text_lacks_cr in
    let named : Lacks 58 f.name = Lacks-pass is_token_byte 58 refl f.name (tokens_of f.name x.name.1) in
    ap (λ s. by_parts (split_at 58 s)) parted
    ∙ ap by_parts (split_at-first 58 f.name f.raw named)
    ∙ ap (λ v. field (lower f.name) v) (trim_is f.raw)
