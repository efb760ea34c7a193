-- Overwriting, field by field.
use Rattle.std.proofs.Common.{◌≡◌, ℕ, Bool, true, false, List, [], ◌∷◌, ◌++◌, refl, bytes_eq, append_assoc, append-nil}
use Rattle.ext_msgs.specs.declared.lists.Field.{Field}
use Rattle.header_mutation.specs.Names.{without}
use Rattle.header_mutation.specs.Mutated.{field, overwritten}

-- what the fields that are left come to, where a field of the name came already, and where none did
abbrev pub left_over : Bool → List ℕ → List ℕ → List Field → List Field
left_over true name value fields = without name fields
left_over false name value fields = overwritten name value fields

left_over-other : (is_set : Bool) (name value : List ℕ) (f : Field) (fields : List Field) → bytes_eq name f.name ≡ false
    → left_over is_set name value (f ∷ fields) ≡ f ∷ left_over is_set name value fields
unfolding without overwritten
left_over-other true name value f fields h = rw h refl
left_over-other false name value f fields h = rw h refl

left_over-later : (name value : List ℕ) (f : Field) (fields : List Field) → bytes_eq name f.name ≡ true
    → left_over true name value (f ∷ fields) ≡ left_over true name value fields
unfolding without
left_over-later name value f fields h = rw h refl

left_over-first : (name value : List ℕ) (f : Field) (fields : List Field) → bytes_eq name f.name ≡ true
    → left_over false name value (f ∷ fields) ≡ field name value ∷ left_over true name value fields
unfolding overwritten
left_over-first name value f fields h = rw h refl

left_over-none : (is_set : Bool) (name value : List ℕ) → left_over is_set name value [] ≡ []
unfolding without overwritten
left_over-none true name value = refl
left_over-none false name value = refl

module _ (name value : List ℕ) (all : List Field) where
  -- a field of another name stays
  pub overwriting-other : (is_set : Bool) (f : Field) (before after fields rest : List Field)
      → fields ≡ f ∷ rest → after ≡ before ++ f ∷ [] → bytes_eq name f.name ≡ false
      → before ++ left_over is_set name value fields ≡ all → after ++ left_over is_set name value rest ≡ all
  overwriting-other is_set f before after fields rest e a h so_far =
      rw (a, append_assoc, ← left_over-other is_set name value f rest h, ← e) so_far

  -- the first field of the name gets the value
  pub overwriting-first : (f : Field) (before after fields rest : List Field)
      → fields ≡ f ∷ rest → after ≡ before ++ field name value ∷ [] → bytes_eq name f.name ≡ true
      → before ++ left_over false name value fields ≡ all → after ++ left_over true name value rest ≡ all
  overwriting-first f before after fields rest e a h so_far =
      rw (a, append_assoc, ← left_over-first name value f rest h, ← e) so_far

  -- a later field of the name goes
  pub overwriting-later : (f : Field) (before fields rest : List Field)
      → fields ≡ f ∷ rest → bytes_eq name f.name ≡ true
      → before ++ left_over true name value fields ≡ all → before ++ left_over true name value rest ≡ all
  overwriting-later f before fields rest e h so_far = rw (← left_over-later name value f rest h, ← e) so_far

  -- none is left
  pub overwriting-done : (is_set : Bool) (before fields : List Field) → fields ≡ []
      → before ++ left_over is_set name value fields ≡ all → before ≡ all
  overwriting-done is_set before fields e so_far = rw (e, left_over-none, append-nil) at so_far
