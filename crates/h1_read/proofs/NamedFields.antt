-- The fields of one name, one by one.
use Rattle.std.proofs.Common.{◌≡◌, ℕ, ◌+◌, ◌<◌, ◌≤◌, ◌&&◌, ◌||◌, Bool, true, false, if◌then◌else◌, List, [], ◌∷◌, length, get_or, drop, refl, ap, ◌∙◌, Some, None}
use Rattle.std.specs.List.{list_any, list_all, cons_option}
use Rattle.std.proofs.lemmas.List.{drop_more, drop_all}
use Rattle.ext_msgs.specs.declared.lists.Field.{Field}
use Rattle.http_model.specs.Bytes.{is_named, values_of}

values_cons : (name : List ℕ) (f : Field) (fields : List Field) → values_of name (f ∷ fields) ≡ (if is_named name f then f.value ∷ values_of name fields else values_of name fields)
values_cons name f fields = by (is_named name f)
  where
    by : (t : Bool) → cons_option (if t then Some f.value else None) (values_of name fields) ≡ (if t then f.value ∷ values_of name fields else values_of name fields)
    by true = refl
    by false = refl

pub here : (name : List ℕ) (f : Field) (fields : List Field) → is_named name f ≡ true → values_of name (f ∷ fields) ≡ f.value ∷ values_of name fields
here name f fields e = values_cons name f fields ∙ ap (λ t. if t then f.value ∷ values_of name fields else values_of name fields) e

pub other : (name : List ℕ) (f : Field) (fields : List Field) → is_named name f ≡ false → values_of name (f ∷ fields) ≡ values_of name fields
other name f fields e = values_cons name f fields ∙ ap (λ t. if t then f.value ∷ values_of name fields else values_of name fields) e

pub named_here : (name : List ℕ) (fields : List Field) (i : ℕ) (d : Field) → i < length fields → is_named name (get_or fields i d) ≡ true
    → values_of name (drop i fields) ≡ (get_or fields i d).value ∷ values_of name (drop (i + 1) fields)
named_here name fields i d h e = ap (values_of name) (drop_more fields i d h) ∙ here name (get_or fields i d) (drop (i + 1) fields) e

pub named_next : (name : List ℕ) (fields : List Field) (i : ℕ) (d : Field) → i < length fields → is_named name (get_or fields i d) ≡ false
    → values_of name (drop i fields) ≡ values_of name (drop (i + 1) fields)
named_next name fields i d h e = ap (values_of name) (drop_more fields i d h) ∙ other name (get_or fields i d) (drop (i + 1) fields) e

pub named_none : (name : List ℕ) (fields : List Field) (i : ℕ) → length fields ≤ i → values_of name (drop i fields) ≡ []
named_none name fields i h = ap (values_of name) (drop_all i fields h)

-- some value, or all

pub any_here : (test : List ℕ → Bool) (name : List ℕ) (fields : List Field) (i : ℕ) (d : Field) → i < length fields → is_named name (get_or fields i d) ≡ true
    → test (get_or fields i d).value ≡ true → list_any test (values_of name (drop i fields)) ≡ true
any_here test name fields i d h e f = ap (list_any test) (named_here name fields i d h e) ∙ ap (λ t. t || list_any test (values_of name (drop (i + 1) fields))) f

pub any_next : (test : List ℕ → Bool) (name : List ℕ) (fields : List Field) (i : ℕ) (d : Field) → i < length fields
    → (is_named name (get_or fields i d) && test (get_or fields i d).value) ≡ false
    → list_any test (values_of name (drop i fields)) ≡ list_any test (values_of name (drop (i + 1) fields))
any_next test name fields i d h e = by (is_named name (get_or fields i d)) (test (get_or fields i d).value) refl refl e
  where
    by : (x y : Bool) → is_named name (get_or fields i d) ≡ x → test (get_or fields i d).value ≡ y → (x && y) ≡ false
        → list_any test (values_of name (drop i fields)) ≡ list_any test (values_of name (drop (i + 1) fields))
    by true true f g k = absurd cc
    by true false f g k = ap (list_any test) (named_here name fields i d h f) ∙ ap (λ t. t || list_any test (values_of name (drop (i + 1) fields))) g
    by false y f g k = ap (list_any test) (named_next name fields i d h f)

pub any_none : (test : List ℕ → Bool) (name : List ℕ) (fields : List Field) (i : ℕ) → length fields ≤ i → list_any test (values_of name (drop i fields)) ≡ false
any_none test name fields i h = ap (list_any test) (named_none name fields i h)

pub all_next : (test : List ℕ → Bool) (name : List ℕ) (fields : List Field) (i : ℕ) (d : Field) → i < length fields → is_named name (get_or fields i d) ≡ true
    → test (get_or fields i d).value ≡ true → list_all test (values_of name (drop i fields)) ≡ list_all test (values_of name (drop (i + 1) fields))
all_next test name fields i d h e f = ap (list_all test) (named_here name fields i d h e) ∙ ap (λ t. t && list_all test (values_of name (drop (i + 1) fields))) f

pub all_fails : (test : List ℕ → Bool) (name : List ℕ) (fields : List Field) (i : ℕ) (d : Field) → i < length fields → is_named name (get_or fields i d) ≡ true
    → test (get_or fields i d).value ≡ false → list_all test (values_of name (drop i fields)) ≡ false
all_fails test name fields i d h e f = ap (list_all test) (named_here name fields i d h e) ∙ ap (λ t. t && list_all test (values_of name (drop (i + 1) fields))) f

pub all_other : (test : List ℕ → Bool) (name : List ℕ) (fields : List Field) (i : ℕ) (d : Field) → i < length fields → is_named name (get_or fields i d) ≡ false
    → list_all test (values_of name (drop i fields)) ≡ list_all test (values_of name (drop (i + 1) fields))
all_other test name fields i d h e = ap (list_all test) (named_next name fields i d h e)

pub all_none : (test : List ℕ → Bool) (name : List ℕ) (fields : List Field) (i : ℕ) → length fields ≤ i → list_all test (values_of name (drop i fields)) ≡ true
all_none test name fields i h = ap (list_all test) (named_none name fields i h)
