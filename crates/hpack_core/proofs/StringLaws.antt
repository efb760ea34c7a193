-- What the reading of strings and literals says of their bytes.
use Rattle.std.proofs.Common.{◌≡◌, ℕ, zero, suc, ◌+◌, ◌-◌, ◌≤◌, Bool, true, false, nat_lt, nat_le, List, [], ◌∷◌, ◌++◌, length, take, drop, get_or, refl, ap, sym, ◌∙◌, arith, inl, inr, Ok, Err, Result, cond, append_assoc, subst, le-ltb}
use borrow.Author.Tests.{ltb-true, ltb-false, leb-true, leb-false, lt-leb, le-leb}
use Rattle.std.proofs.lemmas.List.{drop-drop, drop_at, take-append-drop, length-take-le, length-drop, get_or-drop, length-append, take_at}
use Rattle.hpack_prim.specs.declared.fault.PrimFault.{PrimFault}
use Rattle.hpack_core.specs.declared.fault.HpackFault.{HpackFault}
use Rattle.hpack_core.specs.declared.fault.HpackFault.TheVariants.{Index}
use Rattle.hpack_prim.specs.Integers.{IsInt, AreBytes, int_at}
use Rattle.hpack_prim.specs.Huffman.{huff_of}
use Rattle.hpack_prim.proofs.IntegerLaws.{int_found, int_only}
use Rattle.hpack_prim.proofs.HuffmanLaws.{huff_found, huff_only}
use Rattle.hpack_core.specs.Reading.{◌>>=◌, prim, placed, string_of, string_at, entry_at, name_at, literal_at}
use Rattle.ext_msgs.specs.declared.lists.Field.{Field}
use Rattle.hpack_core.specs.Static.{entry, static_table}
use Rattle.hpack_core.specs.Blocks.{lead_of, StringStandsFor, IsString, IsEntry, IsName, IsLiteral}

pub bind_ok : {A B : Type 0} (r : Result A HpackFault) (f : A → Result B HpackFault) (y : B) → (r >>= f) ≡ Ok y → (x : A) × (r ≡ Ok x) × (f x ≡ Ok y)
bind_ok (Ok x) f y e = (x, refl, e)
bind_ok (Err x) f y e = (cc)

pub prim_ok : {A : Type 0} (r : Result A PrimFault) (y : A) → prim r ≡ Ok y → r ≡ Ok y
prim_ok (Ok x) y e = let f : x ≡ y = cc in ap Ok f
prim_ok (Err x) y e = (cc)

pub placed_ok : {A : Type 0} (at : ℕ) (r : Result A PrimFault) (y : A) → placed at r ≡ Ok y → r ≡ Ok y
placed_ok at (Ok x) y e = let f : x ≡ y = cc in ap Ok f
placed_ok at (Err x) y e = (cc)

pub guard_ok : {A : Type 0} (b : Bool) (d : HpackFault) (r : Result A HpackFault) (y : A) → cond b (Err d) r ≡ Ok y → (b ≡ false) × (r ≡ Ok y)
guard_ok true d r y e = (cc)
guard_ok false d r y e = (refl, e)

pub AreBytes-drop : (n : ℕ) (xs : List ℕ) → AreBytes xs → AreBytes (drop n xs)
AreBytes-drop zero xs a = a
AreBytes-drop (suc n) [] a = tt
AreBytes-drop (suc n) (x ∷ xs) a = AreBytes-drop n xs a.1

-- an integer at a place: its spelling lies before the next place
pub record At (prefix at : ℕ) (bytes : List ℕ) (n next : ℕ) : Type 0 where
  pub lead : List ℕ
  pub whole : drop at bytes ≡ lead ++ drop next bytes
  pub int : IsInt prefix lead n
  pub first : lead_of lead ≡ get_or bytes at 0

pub lead_first : (prefix n : ℕ) (s rest xs : List ℕ) → IsInt prefix s n → xs ≡ s ++ rest → get_or s 0 0 ≡ get_or xs 0 0
lead_first prefix n [] rest xs i e = absurd i
lead_first prefix n (b ∷ s) rest xs i e = sym (ap (λ (v : List ℕ). get_or v 0 0) e)

pub int_lies : (prefix at : ℕ) (bytes : List ℕ) (n next : ℕ) → AreBytes bytes → int_at prefix at (drop at bytes) ≡ Ok (n, next) → At prefix at bytes n next
int_lies prefix at bytes n next a e =
    let s = int_found prefix at (drop at bytes) n next (AreBytes-drop at bytes a) e in
    let r : drop next bytes ≡ s.rest = ap (λ (k : ℕ). drop k bytes) s.place ∙ sym (drop-drop (length s.spelling) at bytes) ∙ ap (drop (length s.spelling)) s.whole ∙ drop_at s.spelling s.rest (length s.spelling) refl in
    let z : at + 0 ≡ at = omega arith in
    record { lead = s.spelling; whole = s.whole ∙ ap (λ (v : List ℕ). s.spelling ++ v) (sym r); int = s.int; first = lead_first prefix n s.spelling s.rest (drop at bytes) s.int s.whole ∙ get_or-drop at bytes 0 0 ∙ ap (λ (k : ℕ). get_or bytes k 0) z }

stands : (lead at : ℕ) (raw text : List ℕ) (b : Bool) → nat_le 128 lead ≡ b → string_of b at raw ≡ Ok text → StringStandsFor lead raw text
unfolding string_of
stands lead at raw text true t e = inr (leb-true 128 lead t, huff_found raw text (placed_ok at (huff_of raw) text e))
stands lead at raw text false t e = let h = leb-false 128 lead t in let f : raw ≡ text = cc in inl (h, sym f)

-- what lies between two places
pub record Lies (P : List ℕ → Type 0) (bytes : List ℕ) (at next : ℕ) : Type 0 where
  pub spelling : List ℕ
  pub whole : drop at bytes ≡ spelling ++ drop next bytes
  pub is : P spelling

abbrev text_in : Result (List ℕ × ℕ) HpackFault → List ℕ
text_in (Ok p) = p.0
text_in (Err e) = []

abbrev next_in : Result (List ℕ × ℕ) HpackFault → ℕ
next_in (Ok p) = p.1
next_in (Err e) = 0

abbrev okay_text : List ℕ → Result (List ℕ) HpackFault
okay_text s = Ok s

abbrev field_in : Result Field HpackFault → Field
field_in (Ok f) = f
field_in (Err e) = entry [] []

abbrev pair_in : Result (Field × ℕ) HpackFault → Field
pair_in (Ok p) = p.0
pair_in (Err e) = entry [] []

abbrev pair_next : Result (Field × ℕ) HpackFault → ℕ
pair_next (Ok p) = p.1
pair_next (Err e) = 0

pub string_lies : (bytes : List ℕ) (at : ℕ) (text : List ℕ) (next : ℕ) → AreBytes bytes → string_at bytes at ≡ Ok (text, next) → Lies (λ s. IsString s text) bytes at next
unfolding string_at
string_lies bytes at text next a e =
    let n = bind_ok (prim (int_at 7 at (drop at bytes))) _ _ e in
    let i = int_lies 7 at bytes n.0.0 n.0.1 a (prim_ok _ _ n.1) in
    let g = guard_ok (nat_lt (length bytes) (n.0.1 + n.0.0)) _ _ _ n.2 in
    let raw : List ℕ = take n.0.0 (drop n.0.1 bytes) in
    let s = bind_ok (string_of (nat_le 128 (get_or bytes at 0)) n.0.1 raw) _ _ g.1 in
    let te : s.0 ≡ text = ap text_in s.2 in
    let ne : n.0.1 + n.0.0 ≡ next = ap next_in s.2 in
    let bound : n.0.1 + n.0.0 ≤ length bytes = ltb-false (length bytes) (n.0.1 + n.0.0) g.0 in
    let len : length raw ≡ n.0.0 = length-take-le n.0.0 (drop n.0.1 bytes) (let d = length-drop n.0.1 bytes in omega arith) in
    let behind : drop n.0.1 bytes ≡ raw ++ drop next bytes = sym (take-append-drop n.0.0 (drop n.0.1 bytes)) ∙ ap (λ (v : List ℕ). raw ++ v) (drop-drop n.0.0 n.0.1 bytes ∙ ap (λ (k : ℕ). drop k bytes) ne) in
    record {
      spelling = i.lead ++ raw;
      whole = i.whole ∙ ap (λ (v : List ℕ). i.lead ++ v) behind ∙ sym (append_assoc i.lead raw (drop next bytes));
      is = record {
        lead = i.lead;
        raw = raw;
        whole = refl;
        int = subst (λ (k : ℕ). IsInt 7 i.lead k) (sym len) i.int;
        stands = subst (λ (k : ℕ). StringStandsFor k raw text) (sym i.first) (stands (get_or bytes at 0) n.0.1 raw text (nat_le 128 (get_or bytes at 0)) refl (s.1 ∙ ap Ok te));
      };
    }

-- ---- entries, names and literals

entry_is : (entries : List Field) (at i : ℕ) (f : Field) (t u : Bool) → nat_lt i 61 ≡ t → nat_lt (i - 61) (length entries) ≡ u
    → cond t (Ok (get_or static_table i (entry [] []))) (cond u (Ok (get_or entries (i - 61) (entry [] []))) (Err (Index at))) ≡ Ok f → IsEntry entries (suc i) f
entry_is entries at i f true u e g h = let k = ltb-true i 61 e in
    let z : suc i - 1 ≡ i = omega arith in
    inl (omega arith, omega arith, sym (ap field_in h) ∙ ap (λ (x : ℕ). get_or static_table x (entry [] [])) (sym z))
entry_is entries at i f false true e g h = let k = ltb-false i 61 e in let l = ltb-true _ _ g in
    let z : suc i - 62 ≡ i - 61 = omega arith in
    inr (omega arith, omega arith, sym (ap field_in h) ∙ ap (λ (x : ℕ). get_or entries x (entry [] [])) (sym z))
entry_is entries at i f false false e g h = (cc)

pub entry_lies : (entries : List Field) (at i : ℕ) (f : Field) → entry_at entries at i ≡ Ok f → IsEntry entries i f
unfolding entry_at
entry_lies entries at zero f e = (cc)
entry_lies entries at (suc i) f e = entry_is entries at i f _ _ refl refl e

pub name_lies : (entries : List Field) (bytes : List ℕ) (at i next : ℕ) (name : List ℕ) (after : ℕ) → AreBytes bytes → name_at entries bytes at i next ≡ Ok (name, after) → Lies (λ s. IsName entries i s name) bytes next after
unfolding name_at
name_lies entries bytes at zero next name after a e = string_lies bytes next name after a e
name_lies entries bytes at (suc i) next name after a e =
    let f = bind_ok (entry_at entries at (suc i)) _ _ e in
    let te : f.0.name ≡ name = ap text_in f.2 in
    let ne : next ≡ after = ap next_in f.2 in
    record { spelling = []; whole = ap (λ (k : ℕ). drop k bytes) ne; is = (refl, f.0, entry_lies entries at (suc i) f.0 f.1, sym te) }

pub lead_append : (prefix n : ℕ) (s xs : List ℕ) → IsInt prefix s n → lead_of (s ++ xs) ≡ lead_of s
lead_append prefix n [] xs i = absurd i
lead_append prefix n (b ∷ s) xs i = refl

-- a literal, and its first byte
pub record Literal (entries : List Field) (prefix lead : ℕ) (f : Field) (s : List ℕ) : Type 0 where
  pub literal : IsLiteral entries prefix s f
  pub first : lead_of s ≡ lead

pub literal_lies : (entries : List Field) (bytes : List ℕ) (at prefix : ℕ) (f : Field) (next : ℕ) → AreBytes bytes → literal_at entries bytes at prefix ≡ Ok (f, next) → Lies (Literal entries prefix (get_or bytes at 0) f) bytes at next
unfolding literal_at
literal_lies entries bytes at prefix f next a e =
    let i = bind_ok (prim (int_at prefix at (drop at bytes))) _ _ e in
    let n = bind_ok (name_at entries bytes at i.0.0 i.0.1) _ _ i.2 in
    let v = bind_ok (string_at bytes n.0.1) _ _ n.2 in
    let il = int_lies prefix at bytes i.0.0 i.0.1 a (prim_ok _ _ i.1) in
    let nl = name_lies entries bytes at i.0.0 i.0.1 n.0.0 n.0.1 a n.1 in
    let vl = string_lies bytes n.0.1 v.0.0 v.0.1 a v.1 in
    let fe : entry n.0.0 v.0.0 ≡ f = ap pair_in v.2 in
    let ne : v.0.1 ≡ next = ap pair_next v.2 in
    let s : List ℕ = il.lead ++ (nl.spelling ++ vl.spelling) in
    record {
      spelling = s;
      whole = il.whole ∙ ap (λ (x : List ℕ). il.lead ++ x) (nl.whole ∙ ap (λ (x : List ℕ). nl.spelling ++ x) (vl.whole ∙ ap (λ (k : ℕ). vl.spelling ++ drop k bytes) ne) ∙ sym (append_assoc nl.spelling vl.spelling (drop next bytes)))
          ∙ sym (append_assoc il.lead (nl.spelling ++ vl.spelling) (drop next bytes));
      is = record {
        literal = subst (λ (g : Field). IsLiteral entries prefix s g) fe (record { index = i.0.0; lead = il.lead; name_spelling = nl.spelling; value_spelling = vl.spelling; whole = refl; int = il.int; name = nl.is; value = vl.is });
        first = lead_append prefix i.0.0 il.lead (nl.spelling ++ vl.spelling) il.int ∙ il.first;
      };
    }

-- ---- what is spelled so is read

stands_only : (lead at : ℕ) (raw text : List ℕ) → StringStandsFor lead raw text → string_of (nat_le 128 lead) at raw ≡ Ok text
unfolding string_of
stands_only lead at raw text s = elim s [
  | inl p ↦ rw (lt-leb 128 lead p.0) (ap okay_text (sym p.1))
  | inr p ↦ rw (le-leb 128 lead p.0) (ap (placed at) (huff_only raw text p.1))
]

pub string_only : (bytes : List ℕ) (at : ℕ) (s rest text : List ℕ) → drop at bytes ≡ s ++ rest → at ≤ length bytes → IsString s text → string_at bytes at ≡ Ok (text, at + length s)
unfolding string_at
string_only bytes at s rest text e inside i =
    let d : drop at bytes ≡ i.lead ++ (i.raw ++ rest) = e ∙ ap (λ (v : List ℕ). v ++ rest) i.whole ∙ append_assoc i.lead i.raw rest in
    let start : ℕ = at + length i.lead in
    let n : int_at 7 at (drop at bytes) ≡ Ok (length i.raw, start) = ap (int_at 7 at) d ∙ int_only 7 at i.lead (i.raw ++ rest) (length i.raw) i.int in
    let r : drop start bytes ≡ i.raw ++ rest = sym (drop-drop (length i.lead) at bytes) ∙ ap (drop (length i.lead)) d ∙ drop_at i.lead (i.raw ++ rest) (length i.lead) refl in
    let raw : take (length i.raw) (drop start bytes) ≡ i.raw = ap (take (length i.raw)) r ∙ take_at i.raw rest (length i.raw) refl in
    let l : length bytes - at ≡ length i.lead + (length i.raw + length rest) = sym (length-drop at bytes) ∙ ap length d ∙ length-append i.lead (i.raw ++ rest) ∙ ap (λ (k : ℕ). length i.lead + k) (length-append i.raw rest) in
    let g : nat_lt (length bytes) (start + length i.raw) ≡ false = le-ltb (length bytes) (start + length i.raw) (omega arith) in
    let z : at + 0 ≡ at = omega arith in
    let f : get_or bytes at 0 ≡ lead_of i.lead = sym (lead_first 7 (length i.raw) i.lead (i.raw ++ rest) (drop at bytes) i.int d ∙ get_or-drop at bytes 0 0 ∙ ap (λ (k : ℕ). get_or bytes k 0) z) in
    let t : string_of (nat_le 128 (get_or bytes at 0)) start (take (length i.raw) (drop start bytes)) ≡ Ok text = rw (f, raw) (stands_only (lead_of i.lead) start i.raw text i.stands) in
    let m : length s ≡ length i.lead + length i.raw = ap length i.whole ∙ length-append i.lead i.raw in
    let k : start + length i.raw ≡ at + length s = omega arith in
    rw (n, g, t, k) refl
