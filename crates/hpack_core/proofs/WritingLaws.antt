-- What is written is in the grammar of blocks.
use Rattle.std.proofs.Common.{◌≡◌, ℕ, zero, suc, ◌+◌, ◌-◌, ◌^◌, ◌<◌, ◌≤◌, inl, inr, Bool, true, false, nat_lt, List, [], ◌∷◌, ◌++◌, length, get_or, refl, ap, ap₂, sym, ◌∙◌, arith, append_assoc, append-nil, Option, Some, None, subst, cond, All}
use borrow.Author.Tests.{ltb-true, ltb-false}
use Rattle.std.specs.Str.{bytes_eq}
use Rattle.std.proofs.lemmas.Slice.Eq.{bytes_eq-Decides}
use Rattle.hpack_prim.specs.Integers.{IsInt, int}
use Rattle.hpack_prim.proofs.IntegerLaws.{int_is}
use Rattle.ext_msgs.specs.declared.lists.Field.{Field}
use Rattle.hpack_core.specs.Static.{entry, static_table}
use Rattle.hpack_core.specs.Tables.{TableState, cut}
use Rattle.hpack_core.specs.Blocks.{lead_of, IsString, IsEntry, IsName, IsRepr, Block}
use Rattle.hpack_core.specs.Blocks.IsRepr.{indexed, resize, plain}
use Rattle.hpack_core.specs.Blocks.Block.{done, field, other}
use Rattle.hpack_core.specs.Writing.{StringWritten, first_from, is_name, is_field, field_number, name_number, NameWritten, FieldWritten, FieldsWritten, update, BlockWritten}
use Rattle.hpack_core.proofs.StringLaws.{lead_append}
use Rattle.hpack_core.proofs.StaticLemmas.{count}
use Rattle.hpack_prim.proofs.Codes.{both}

-- the first byte of an integer as it is written
pub record Lead (prefix first n : ℕ) : Type 0 where
  pub low : first ≤ lead_of (int prefix first n)
  pub high : lead_of (int prefix first n) < first + 2 ^ prefix

lead_at : (prefix first n : ℕ) (b : Bool) → nat_lt (n + 1) (2 ^ prefix) ≡ b → 0 < 2 ^ prefix → Lead prefix first n
unfolding int
lead_at prefix first n true e some = let h = ltb-true _ _ e in record { low = rw e (omega arith); high = rw e (omega arith) }
lead_at prefix first n false e some = record { low = rw e (omega arith); high = rw e (omega arith) }

lead : (prefix first n : ℕ) → 0 < 2 ^ prefix → Lead prefix first n
lead prefix first n some = lead_at prefix first n _ refl some

-- a string as it is written
pub string_is : (text s : List ℕ) → length text < 2 ^ 32 → StringWritten text s → IsString s text
string_is text s short w = elim w [
  | inl h ↦ let l = lead 7 128 (length h.1) (omega arith) in let small = h.0 in let size = h.2 in
      record { lead = int 7 128 (length h.1); raw = h.1; whole = h.4; int = int_is 7 128 (length h.1) (omega arith) (omega arith) (omega arith) (omega arith); stands = inr (l.low, h.3) }
  | inr h ↦ let l = lead 7 0 (length text) (omega arith) in
      record { lead = int 7 0 (length text); raw = text; whole = h.1; int = int_is 7 0 (length text) (omega arith) (omega arith) (omega arith) short; stands = inl (l.high, refl) }
]

-- ---- the static table

-- an entry that a search finds
pub record Hit (p : Field → Bool) (from : ℕ) (es : List Field) (n : ℕ) : Type 0 where
  pub low : from ≤ n
  pub high : n < from + length es
  pub passes : p (get_or es (n - from) (entry [] [])) ≡ true

abbrev number_in : Option ℕ → ℕ
number_in None = 0
number_in (Some n) = n

hit_at : (p : Field → Bool) (from : ℕ) (e : Field) (es : List Field) (n : ℕ) (b : Bool) → p e ≡ b → ((m : ℕ) → first_from p (from + 1) es ≡ Some m → Hit p (from + 1) es m)
    → cond b (Some from) (first_from p (from + 1) es) ≡ Some n → Hit p from (e ∷ es) n
hit_at p from e es n true h more f =
    let is : from ≡ n = ap number_in f in let z : n - from ≡ 0 = omega arith in
    record { low = omega arith; high = omega arith; passes = ap (λ (k : ℕ). p (get_or (e ∷ es) k (entry [] []))) z ∙ h }
hit_at p from e es n false h more f =
    let i = more n f in let z : n - from ≡ suc (n - (from + 1)) = omega (arith, i.low) in
    record { low = omega (arith, i.low); high = omega (arith, i.high); passes = ap (λ (k : ℕ). p (get_or (e ∷ es) k (entry [] []))) z ∙ i.passes }

hit : (p : Field → Bool) (from : ℕ) (es : List Field) (n : ℕ) → first_from p from es ≡ Some n → Hit p from es n
unfolding first_from
hit p from [] n e = (cc)
hit p from (x ∷ es) n e = hit_at p from x es n (p x) refl (λ m f. hit p (from + 1) es m f) e

equal : (f e : Field) → is_field f e ≡ true → f ≡ e
equal f e h =
    let b = both (bytes_eq e.name f.name) (bytes_eq e.value f.value) h in
    ap₂ entry (sym ((bytes_eq-Decides e.name f.name).0 b.0)) (sym ((bytes_eq-Decides e.value f.value).0 b.1))

-- the entry that a number of a field stands for
pub record Numbered (entries : List Field) (f : Field) (n : ℕ) : Type 0 where
  pub small : n < 62
  pub is : IsEntry entries n f

pub field_numbered : (entries : List Field) (f : Field) (n : ℕ) → field_number f ≡ Some n → Numbered entries f n
unfolding field_number
field_numbered entries f n e = let h = hit (is_field f) 1 static_table n e in
    record { small = omega (arith, h.high, count); is = inl (h.low, omega (arith, h.high, count), equal f (get_or static_table (n - 1) (entry [] [])) h.passes) }

-- the entry that a number of a name stands for
pub record Named (entries : List Field) (name : List ℕ) (n : ℕ) : Type 0 where
  pub low : 1 ≤ n
  pub small : n < 62
  pub entry : Field
  pub is : IsEntry entries n entry
  pub name_is : name ≡ entry.name

pub name_numbered : (entries : List Field) (name : List ℕ) (n : ℕ) → name_number name ≡ Some n → Named entries name n
unfolding name_number
name_numbered entries name n e = let h = hit (is_name name) 1 static_table n e in
    let f : Field = get_or static_table (n - 1) (entry [] []) in
    record { low = h.low; small = omega (arith, h.high, count); entry = f; is = inl (h.low, omega (arith, h.high, count), refl); name_is = sym ((bytes_eq-Decides f.name name).0 h.passes) }

-- ---- fields

-- the index of a literal, and its name
pub record NameIs (entries : List Field) (name s : List ℕ) : Type 0 where
  pub index : ℕ
  pub lead : List ℕ
  pub rest : List ℕ
  pub whole : s ≡ lead ++ rest
  pub int : IsInt 4 lead index
  pub name_is : IsName entries index rest name
  pub high : lead_of lead < 16

named_is : (entries : List Field) (name s : List ℕ) (n : ℕ) → Named entries name n → s ≡ int 4 0 n → NameIs entries name s
named_is entries name s zero h e = absurd (let low = h.low in omega arith)
named_is entries name s (suc n) h e = record {
  index = suc n;
  lead = int 4 0 (suc n);
  rest = [];
  whole = e ∙ sym (append-nil (int 4 0 (suc n)));
  int = int_is 4 0 (suc n) (omega arith) (omega arith) (omega arith) (omega (arith, h.small));
  name_is = (refl, h.entry, h.is, h.name_is);
  high = (lead 4 0 (suc n) (omega arith)).high;
}

name_is : (entries : List Field) (name s : List ℕ) (o : Option ℕ) → name_number name ≡ o → length name < 2 ^ 32 → NameWritten o name s → NameIs entries name s
name_is entries name s (Some n) e short w = named_is entries name s n (name_numbered entries name n e) w
name_is entries name s None e short w = record {
  index = 0;
  lead = int 4 0 0;
  rest = w.0;
  whole = w.2;
  int = int_is 4 0 0 (omega arith) (omega arith) (omega arith) (omega arith);
  name_is = string_is name w.0 short w.1;
  high = (lead 4 0 0 (omega arith)).high;
}

field_at : (t : TableState) (first : Bool) (f : Field) (s : List ℕ) (o : Option ℕ) → field_number f ≡ o → length f.name < 2 ^ 32 → length f.value < 2 ^ 32 → FieldWritten o f s → IsRepr t first s (Some f) t
field_at t first f s (Some n) e short small w =
    let h = field_numbered t.entries f n e in let l = lead 7 128 n (omega arith) in
    subst (λ (x : List ℕ). IsRepr t first x (Some f) t) (sym w) (indexed first (int 7 128 n) n f l.low (int_is 7 128 n (omega arith) (omega arith) (omega arith) (omega (arith, h.small))) h.is)
field_at t first f s None e short small w =
    let n = name_is t.entries f.name w.0 (name_number f.name) refl short w.2 in
    let v = string_is f.value w.1 small w.3 in
    let whole : s ≡ n.lead ++ (n.rest ++ w.1) = w.4 ∙ ap (λ (x : List ℕ). x ++ w.1) n.whole ∙ append_assoc n.lead n.rest w.1 in
    let high : lead_of s < 16 = subst (λ (k : ℕ). k < 16) (sym (ap lead_of whole ∙ lead_append 4 n.index n.lead (n.rest ++ w.1) n.int)) n.high in
    plain first s f high (record { index = n.index; lead = n.lead; name_spelling = n.rest; value_spelling = w.1; whole = whole; int = n.int; name = n.name_is; value = v })

abbrev pub Short : Field → Type 0
Short f = (length f.name < 2 ^ 32) × (length f.value < 2 ^ 32)

all_behind : (f : Field) (fs : List Field) → All Short (f ∷ fs) → All Short fs
all_behind f fs a = λ k d less. a (suc k) d (omega arith)

fields_are : (t : TableState) (first : Bool) (fs : List Field) (s : List ℕ) → All Short fs → FieldsWritten fs s → Block t first s fs t
fields_are t first [] s a w = subst (λ (x : List ℕ). Block t first x [] t) (sym w) (done t first)
fields_are t first (f ∷ fs) s a w =
    let h = a 0 f (omega arith) in
    subst (λ (x : List ℕ). Block t first x (f ∷ fs) t) (sym w.4) (field t t t first w.0 w.1 f fs (field_at t first f w.0 (field_number f) refl h.0 h.1 w.2) (fields_are t false fs w.1 (all_behind f fs a) w.3))

-- ---- blocks

abbrev pub empty : ℕ → TableState
empty limit = record { entries = []; limit = limit }

updated : (known limit : ℕ) (fs : List Field) (s : List ℕ) (b : Bool) → nat_lt limit known ≡ b → limit ≤ known → known ≤ 4096 → Block (empty limit) true s fs (empty limit) → Block (empty known) true (update known limit ++ s) fs (empty limit)
unfolding update cut
updated known limit fs s true e le most w =
    let l = lead 5 32 limit (omega arith) in
    rw e (other (empty known) (empty limit) (empty limit) true (int 5 32 limit) s fs (resize (int 5 32 limit) limit l.low l.high (int_is 5 32 limit (omega arith) (omega arith) (omega arith) (omega arith)) (omega arith)) w)
updated known limit fs s false e le most w =
    let g = ltb-false limit known e in let same : limit ≡ known = omega arith in
    rw e (subst (λ (k : ℕ). Block (empty k) true s fs (empty limit)) same w)

pub block_is : (known limit : ℕ) (fs : List Field) (bytes : List ℕ) → limit ≤ known → known ≤ 4096 → All Short fs → BlockWritten known limit fs bytes → Block (empty known) true bytes fs (empty limit)
block_is known limit fs bytes le most a w =
    subst (λ (x : List ℕ). Block (empty known) true x fs (empty limit)) (sym w.2) (updated known limit fs w.0 _ refl le most (fields_are (empty limit) true fs w.0 a w.1))
