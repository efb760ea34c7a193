-- The search in the static table.
use Rattle.std.proofs.Common.{◌≡◌, ℕ, ◌+◌, ◌<◌, ◌≤◌, Bool, true, false, List, [], ◌∷◌, length, drop, get_or, refl, ap, sym, ◌∙◌, arith, Some, None}
use Rattle.std.proofs.lemmas.List.{drop_more, drop_all}
use Rattle.std.specs.Str.{bytes_eq}
use Rattle.ext_msgs.specs.declared.lists.Field.{Field}
use Rattle.hpack_core.specs.Static.{entry, static_table}
use Rattle.hpack_core.specs.Writing.{first_from, is_name, is_field, field_number, name_number}

first_here : (p : Field → Bool) (n : ℕ) (e : Field) (es : List Field) → p e ≡ true → first_from p n (e ∷ es) ≡ Some n
unfolding first_from
first_here p n e es h = rw h refl

first_on : (p : Field → Bool) (n : ℕ) (e : Field) (es : List Field) → p e ≡ false → first_from p n (e ∷ es) ≡ first_from p (n + 1) es
unfolding first_from
first_on p n e es h = rw h refl

first_none : (p : Field → Bool) (n : ℕ) → first_from p n [] ≡ None
unfolding first_from
first_none p n = refl

pub count : length static_table ≡ 61
unfolding static_table
count = refl

-- no entry before an index passes the test
pub record Searching (p : Field → Bool) (index : ℕ) : Type 0 where
  pub rest : first_from p (index + 1) (drop index static_table) ≡ first_from p 1 static_table

pub starts : (p : Field → Bool) → Searching p 0
starts p = record { rest = refl }

here : (index : ℕ) (e : Field) → index < 61 → e ≡ get_or static_table index (entry [] []) → drop index static_table ≡ e ∷ drop (index + 1) static_table
here index e less is = drop_more static_table index (entry [] []) (omega (arith, count)) ∙ ap (λ (x : Field). x ∷ drop (index + 1) static_table) (sym is)

pub finds : (p : Field → Bool) (index : ℕ) (e : Field) → index < 61 → e ≡ get_or static_table index (entry [] []) → Searching p index → p e ≡ true → first_from p 1 static_table ≡ Some (index + 1)
finds p index e less is s h = sym s.rest ∙ ap (first_from p (index + 1)) (here index e less is) ∙ first_here p (index + 1) e (drop (index + 1) static_table) h

pub goes_on : (p : Field → Bool) (index : ℕ) (e : Field) → index < 61 → e ≡ get_or static_table index (entry [] []) → Searching p index → p e ≡ false → Searching p (index + 1)
goes_on p index e less is s h = record { rest = sym (ap (first_from p (index + 1)) (here index e less is) ∙ first_on p (index + 1) e (drop (index + 1) static_table) h) ∙ s.rest }

pub ends : (p : Field → Bool) (index : ℕ) → 61 ≤ index → Searching p index → first_from p 1 static_table ≡ None
ends p index past s = sym s.rest ∙ ap (first_from p (index + 1)) (drop_all index static_table (omega (arith, count))) ∙ first_none p (index + 1)

pub finds_name : (name text : List ℕ) (index : ℕ) (e : Field) → index < 61 → e ≡ get_or static_table index (entry [] []) → Searching (is_name name) index → text ≡ e.name → true ≡ bytes_eq text name → Some (index + 1) ≡ name_number name
unfolding name_number
finds_name name text index e less is s t h = sym (finds (is_name name) index e less is s (ap (λ (v : List ℕ). bytes_eq v name) (sym t) ∙ sym h))

pub no_name : (name : List ℕ) (index : ℕ) → 61 ≤ index → Searching (is_name name) index → None ≡ name_number name
unfolding name_number
no_name name index past s = sym (ends (is_name name) index past s)

pub finds_field : (f : Field) (index : ℕ) (e : Field) → index < 61 → e ≡ get_or static_table index (entry [] []) → Searching (is_field f) index → true ≡ is_field f e → Some (index + 1) ≡ field_number f
unfolding field_number
finds_field f index e less is s h = sym (finds (is_field f) index e less is s (sym h))

pub no_field : (f : Field) (index : ℕ) → 61 ≤ index → Searching (is_field f) index → None ≡ field_number f
unfolding field_number
no_field f index past s = sym (ends (is_field f) index past s)
