-- The least of the unknown keys.
use Rattle.std.proofs.Common.{◌≡◌, ℕ, List, [], ◌∷◌, ◌++◌, Option, Some, None, fold, refl}
use Rattle.serde_json.specs.Data.{Data, null, boolean, number, string, array, object, no_members}
use Rattle.serde_json.specs.Find.{as_object}
use Rattle.ext_config.specs.declared.keys.Section.{Section}
use Rattle.ext_config.specs.declared.keys.Section.TheVariants.{Top, Modes, Rules}
use Rattle.ext_config.specs.Keys.{found, section_name}
use Rattle.ext_config.specs.Configured.{unknown_in, unknown_keys, members, members_at, lesser, least}

-- a fold over two lists is one over the second, from what the first gave
fold-append : {A B : Type 0} (f : B → A → B) (b : B) (xs ys : List A) → fold f b (xs ++ ys) ≡ fold f (fold f b xs) ys
fold-append f b [] ys = refl
fold-append f b (x ∷ xs) ys = fold-append f (f b x) xs ys

members_of_other : (d : Data) → as_object d ≡ None → members d ≡ no_members
members_of_other null h = refl
members_of_other (boolean b) h = refl
members_of_other (number n) h = refl
members_of_other (string s) h = refl
members_of_other (array ds) h = refl
members_of_other (object ms) h = cc

-- what is no object has no unknown key
pub unknown_in_other : (section : Section) (d : Data) → as_object d ≡ None → unknown_in section (members d) ≡ []
unfolding unknown_in
unknown_in_other section d h = rw (members_of_other d h) refl

-- a section that stands as no object has no unknown key
pub unknown_in_absent : (section : Section) (config : Data) → found Top (section_name section) config ≡ None
    → unknown_in section (members_at section config) ≡ []
unfolding members_at unknown_in
unknown_in_absent section config h = rw h refl

pub unknown_in_no_object : (section : Section) (config d : Data) → found Top (section_name section) config ≡ Some d
    → as_object d ≡ None → unknown_in section (members_at section config) ≡ []
unfolding members_at
unknown_in_no_object section config d h k = rw h (unknown_in_other section d k)

-- the sections are gone through one after another
pub least_by_section : (config : Data) (top modes : Option (List ℕ))
    → top ≡ fold lesser None (unknown_in Top (members config))
    → modes ≡ fold lesser top (unknown_in Modes (members_at Modes config))
    → fold lesser modes (unknown_in Rules (members_at Rules config)) ≡ least (unknown_keys config)
unfolding least unknown_keys
least_by_section config top modes t m =
    rw (fold-append lesser None (unknown_in Top (members config)) _, fold-append lesser (fold lesser None (unknown_in Top (members config))) (unknown_in Modes (members_at Modes config)) _, ← t, ← m) refl
