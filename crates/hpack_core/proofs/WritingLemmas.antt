-- Fields written one by one.
use Rattle.std.proofs.Common.{◌≡◌, ℕ, ◌+◌, ◌<◌, List, [], ◌∷◌, ◌++◌, length, take, get_or, refl, ap, sym, ◌∙◌, append_assoc, append-nil, Option, None, subst}
use Rattle.std.proofs.lemmas.List.{take_more}
use Rattle.ext_msgs.specs.declared.lists.Field.{Field}
use Rattle.hpack_core.specs.Writing.{StringWritten, NameWritten, FieldWritten, FieldsWritten, field_number, name_number}

-- a literal behind what was written
pub literal_written : (f : Field) (name value start mid new : List ℕ) → None ≡ field_number f → NameWritten (name_number f.name) f.name name → StringWritten f.value value → mid ≡ start ++ name → new ≡ mid ++ value
    → (s : List ℕ) × FieldWritten (field_number f) f s × (new ≡ start ++ s)
literal_written f name value start mid new o n v e g =
    (name ++ value, subst (λ (w : Option ℕ). FieldWritten w f (name ++ value)) o (name, value, n, v, refl), g ∙ ap (λ (x : List ℕ). x ++ value) e ∙ append_assoc start name value)

-- a field more behind fields
written_behind : (fs : List Field) (f : Field) (s t : List ℕ) → FieldsWritten fs s → FieldWritten (field_number f) f t → FieldsWritten (fs ++ f ∷ []) (s ++ t)
written_behind [] f s t w v = (t, [], v, refl, ap (λ (x : List ℕ). x ++ t) w ∙ sym (append-nil t))
written_behind (g ∷ fs) f s t w v = (w.0, w.1 ++ t, w.2, written_behind fs f w.1 t w.3 v, ap (λ (x : List ℕ). x ++ t) w.4 ∙ append_assoc w.0 w.1 t)

-- the fields so far, written behind a start
pub record SoFar (items : List Field) (index : ℕ) (start now : List ℕ) : Type 0 where
  pub bytes : List ℕ
  pub fields : FieldsWritten (take index items) bytes
  pub whole : now ≡ start ++ bytes

pub goes_on : (items : List Field) (index : ℕ) (f : Field) (start now next t : List ℕ) → index < length items → f ≡ get_or items index f → SoFar items index start now → FieldWritten (field_number f) f t → next ≡ now ++ t
    → SoFar items (index + 1) start next
goes_on items index f start now next t less is s w e = record {
  bytes = s.bytes ++ t;
  fields = subst (λ (fs : List Field). FieldsWritten fs (s.bytes ++ t)) (sym (take_more items index f less ∙ ap (λ (g : Field). take index items ++ g ∷ []) (sym is))) (written_behind (take index items) f s.bytes t s.fields w);
  whole = e ∙ ap (λ (x : List ℕ). x ++ t) s.whole ∙ append_assoc start s.bytes t;
}
