-- What a shape says of the bytes so far.
use Rattle.std.proofs.Common.{sym, ◌∙◌, ap, subst, refl, arith, append_assoc, append-nil, length-append}
use Rattle.std.specs.Prelude.{ℕ, ◌≡◌, ◌<◌, Bool, true, false, if◌then◌else◌, List, [], ◌∷◌, ◌++◌, length, ◌==◌}
use Rattle.std.specs.List.{AllByRecursion}
use Rattle.std.proofs.lemmas.Bool.Decides.{nat_tests}
use Rattle.http_model.specs.Bytes.{is_token_byte, is_value_byte}
use Rattle.http_model.specs.Lines.{FieldShape, AtStart, InName, InValue, AtEmptyEnd, AtEnd, NoField, field_shape, field_shape_on}
use Rattle.httparse.specs.Grammar.{LineEnd, Field, IsField}
use Rattle.h1_read.proofs.LineParts.{cr_of}
use Rattle.h1_read.proofs.FieldText.{Tokens, Values, all_tokens, all_values, field_text}

-- a field line up to its end
pub record IsLine (l end : List ℕ) : Type 0 where
  pub name : List ℕ
  pub raw : List ℕ
  pub some : 0 < length name
  pub tokens : Tokens name
  pub values : Values raw
  pub joined : l ≡ name ++ 58 ∷ (raw ++ end)

abbrev pub Says : FieldShape → List ℕ → Type 0
Says AtStart l = l ≡ []
Says InName l = (0 < length l) × Tokens l
Says InValue l = IsLine l []
Says AtEmptyEnd l = l ≡ 13 ∷ []
Says AtEnd l = IsLine l (13 ∷ [])
Says NoField l = Unit {0}

one_more : (test : ℕ → Bool) (l : List ℕ) (b : ℕ) → AllByRecursion (λ c. test c ≡ true) l → test b ≡ true → AllByRecursion (λ c. test c ≡ true) (l ++ b ∷ [])
one_more test [] b x y = (y, tt)
one_more test (c ∷ l) b x y = (x.0, one_more test l b x.1 y)

is_that : (b c : ℕ) → (b == c) ≡ true → b ≡ c
is_that b c e = grind (arith, nat_tests, e)

cons-append : (x : ℕ) (a b : List ℕ) → (x ∷ a) ++ b ≡ x ∷ (a ++ b)
cons-append x a b = refl

longer : (l : List ℕ) (b : ℕ) (w : IsLine l []) (end : List ℕ) → l ++ b ∷ [] ≡ w.name ++ 58 ∷ (w.raw ++ b ∷ [])
longer l b w end = ap (λ s. s ++ b ∷ []) w.joined ∙ regroup w.name w.raw b
  where
    regroup : (n r : List ℕ) (b : ℕ) → (n ++ 58 ∷ (r ++ [])) ++ b ∷ [] ≡ n ++ 58 ∷ (r ++ b ∷ [])
    regroup n r b = simp (append_assoc, append-nil, cons-append) refl

on : (s : FieldShape) (l : List ℕ) (b : ℕ) → Says s l → Says (field_shape_on s b) (l ++ b ∷ [])
on AtStart l b x = by (is_token_byte b) (b == 13) refl refl
  where
    by : (t u : Bool) → is_token_byte b ≡ t → (b == 13) ≡ u → Says (if t then InName else (if u then AtEmptyEnd else NoField)) (l ++ b ∷ [])
    by true u e f = subst (λ k. (0 < length (k ++ b ∷ [])) × Tokens (k ++ b ∷ [])) (sym x) (omega arith, (e, tt))
    by false true e f = ap (λ k. k ++ b ∷ []) x ∙ ap (λ c. c ∷ []) (is_that b 13 f)
    by false false e f = tt
on InName l b x = by (is_token_byte b) (b == 58) refl refl
  where
    by : (t u : Bool) → is_token_byte b ≡ t → (b == 58) ≡ u → Says (if t then InName else (if u then InValue else NoField)) (l ++ b ∷ [])
    by true u e f = (omega (arith, x.0, length-append l (b ∷ [])), one_more is_token_byte l b x.1 e)
    by false true e f = record { name = l; raw = []; some = x.0; tokens = x.1; values = tt; joined = ap (λ c. l ++ c ∷ []) (is_that b 58 f) }
    by false false e f = tt
on InValue l b x = by (is_value_byte b) (b == 13) refl refl
  where
    by : (t u : Bool) → is_value_byte b ≡ t → (b == 13) ≡ u → Says (if t then InValue else (if u then AtEnd else NoField)) (l ++ b ∷ [])
    by true u e f = record {
      name = x.name;
      raw = x.raw ++ b ∷ [];
      some = x.some;
      tokens = x.tokens;
      values = one_more is_value_byte x.raw b x.values e;
      joined = longer l b x [] ∙ ap (λ r. x.name ++ 58 ∷ r) (sym (append-nil (x.raw ++ b ∷ [])));
    }
    by false true e f = record {
      name = x.name;
      raw = x.raw;
      some = x.some;
      tokens = x.tokens;
      values = x.values;
      joined = longer l b x [] ∙ ap (λ c. x.name ++ 58 ∷ (x.raw ++ c ∷ [])) (is_that b 13 f);
    }
    by false false e f = tt
on AtEmptyEnd l b x = tt
on AtEnd l b x = tt
on NoField l b x = tt

along : (s : FieldShape) (before l : List ℕ) → Says s before → Says (field_shape s l) (before ++ l)
along s before [] x = subst (Says s) (sym (append-nil before)) x
along s before (b ∷ l) x =
    subst (Says (field_shape (field_shape_on s b) l)) (append_assoc before (b ∷ []) l)
    (along (field_shape_on s b) (before ++ b ∷ []) l (on s before b x))

pub says : (l : List ℕ) → Says (field_shape AtStart l) l
says l = along AtStart [] l refl

-- the field of a line that ends so
pub record IsText (l : List ℕ) (e : LineEnd) : Type 0 where
  pub field : Field
  pub valid : IsField field
  pub end : field.end ≡ e
  pub joined : l ≡ field_text field

pub text_of : (l : List ℕ) (e : LineEnd) → IsLine l (cr_of e) → IsText l e
text_of l e w = record {
  field = record { name = w.name; raw = w.raw; end = e };
  valid = record { name = (w.some, all_tokens w.name w.tokens); raw = all_values w.raw w.values };
  end = refl;
  joined = w.joined;
}
