-- The texts of an array, item by item.
use Rattle.std.proofs.Common.{◌≡◌, ℕ, ◌+◌, ◌<◌, ◌≤◌, true, List, [], ◌∷◌, ◌++◌, Option, Some, None, length, drop, get_or, codes, refl, append_assoc, append-nil, add-one}
use Rattle.std.proofs.Math.Seq.{drop-cons}
use Rattle.std.proofs.lemmas.List.{drop_all}
use Rattle.serde_json.specs.Data.{Data, null, boolean, number, string, array, object, no_items, item}
use Rattle.serde_json.specs.Find.{as_str}
use Rattle.serde_json.specs.View.{view, items_view}
use Rattle.serde_json.specs.declared.value.Value.{Value}
use Rattle.ext_config.specs.Keys.{texts, text_before, is_authority, is_visible, are_prefixes, are_all_prefixes}

-- the default of `authority` is in its range
pub localhost_is_authority : is_authority (codes "localhost") ≡ true
unfolding is_authority is_visible
localhost_is_authority = refl

-- no prefix is in range
pub none_are_prefixes : are_prefixes [] ≡ true
unfolding are_prefixes are_all_prefixes
none_are_prefixes = refl

pub texts_none : texts no_items ≡ Some []
unfolding texts
texts_none = refl

-- texts that were read, and what is left to read
abbrev pub after : List (List ℕ) → Option (List (List ℕ)) → Option (List (List ℕ))
after names None = None
after names (Some others) = Some (names ++ others)

after-text_before : (names : List (List ℕ)) (s : List ℕ) (rest : Option (List (List ℕ)))
    → after names (text_before (string s) rest) ≡ after (names ++ s ∷ []) rest
after-text_before names s None = refl
after-text_before names s (Some others) = rw (append_assoc names (s ∷ []) others) refl

other_before : (d : Data) (rest : Option (List (List ℕ))) → as_str d ≡ None → text_before d rest ≡ None
other_before null rest h = refl
other_before (boolean b) rest h = refl
other_before (number n) rest h = refl
other_before (string s) rest h = cc
other_before (array ds) rest h = refl
other_before (object ms) rest h = refl

text_from_as_str : (d : Data) (s : List ℕ) → as_str d ≡ Some s → d ≡ string s
text_from_as_str null s h = cc
text_from_as_str (boolean b) s h = cc
text_from_as_str (number n) s h = cc
text_from_as_str (string t) s h = cc
text_from_as_str (array ds) s h = cc
text_from_as_str (object ms) s h = cc

items_view-drop : (vs : List Value) (i : ℕ) (d : Value) → i < length vs
    → items_view (drop i vs) ≡ item (view (get_or vs i d)) (items_view (drop (i + 1) vs))
items_view-drop vs i d h = rw (drop-cons vs i d h, add-one i) refl

module _ (vs : List Value) (names : List (List ℕ)) (i : ℕ) (d : Value) where
  -- one more text
  pub after_text : (s : List ℕ) → i < length vs → as_str (view (get_or vs i d)) ≡ Some s
      → after names (texts (items_view (drop i vs))) ≡ after (names ++ s ∷ []) (texts (items_view (drop (i + 1) vs)))
  unfolding texts
  after_text s inside h =
      rw (items_view-drop vs i d inside, text_from_as_str (view (get_or vs i d)) s h)
      (after-text_before names s (texts (items_view (drop (i + 1) vs))))

  -- an item that is no text
  pub after_other : i < length vs → as_str (view (get_or vs i d)) ≡ None
      → after names (texts (items_view (drop i vs))) ≡ None
  unfolding texts
  after_other inside h =
      rw (items_view-drop vs i d inside, other_before (view (get_or vs i d)) (texts (items_view (drop (i + 1) vs))) h) refl

-- no item is left
pub after_none : (vs : List Value) (names : List (List ℕ)) (i : ℕ) → length vs ≤ i
    → after names (texts (items_view (drop i vs))) ≡ Some names
unfolding texts
after_none vs names i h = rw (drop_all i vs h) (simp append-nil)
