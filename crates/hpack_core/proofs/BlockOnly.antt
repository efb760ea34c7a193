-- What is in the grammar of blocks is read.
use Rattle.std.proofs.Common.{◌≡◌, ℕ, zero, suc, ◌+◌, ◌-◌, ◌<◌, ◌≤◌, Bool, true, false, List, [], ◌∷◌, ◌++◌, length, drop, get_or, refl, ap, sym, ◌∙◌, arith, inl, inr, Ok, Result, Option, Some, None, lt-ltb, le-ltb, append_assoc}
use borrow.Author.Tests.{lt-leb, le-leb}
use Rattle.std.proofs.lemmas.List.{drop-drop, drop_at, length-drop, length-append, get_or-drop}
use Rattle.hpack_core.specs.declared.fault.HpackFault.{HpackFault}
use Rattle.hpack_prim.specs.Integers.{IsInt, int_at}
use Rattle.hpack_prim.proofs.IntegerLaws.{int_only}
use Rattle.ext_msgs.specs.declared.lists.Field.{Field}
use Rattle.hpack_core.specs.Static.{entry, static_table}
use Rattle.hpack_core.specs.Tables.{TableState, size, total}
use Rattle.hpack_core.specs.Reading.{step, entry_at, name_at, string_at, literal_at, indexed_at, added_at, plain_at, resized_at, step_at, with_field, fields_in, block_of}
use Rattle.hpack_core.specs.Blocks.{lead_of, IsEntry, IsName, IsLiteral, IsRepr, Block}
use Rattle.hpack_core.specs.Blocks.IsRepr.{indexed, incremental, resize, never, plain}
use Rattle.hpack_core.specs.Blocks.Block.{done, field, other}
use Rattle.hpack_core.proofs.StringLaws.{string_only}
use Rattle.hpack_core.proofs.BlockLemmas.{fields_more, fields_end, pred_of}

behind : (bytes : List ℕ) (at : ℕ) (xs ys : List ℕ) → drop at bytes ≡ xs ++ ys → drop (at + length xs) bytes ≡ ys
behind bytes at xs ys e = sym (drop-drop (length xs) at bytes) ∙ ap (drop (length xs)) e ∙ drop_at xs ys (length xs) refl

within : (bytes : List ℕ) (at : ℕ) (xs ys : List ℕ) → at ≤ length bytes → drop at bytes ≡ xs ++ ys → at + length xs ≤ length bytes
within bytes at xs ys inside e = let l : length bytes - at ≡ length xs + length ys = sym (length-drop at bytes) ∙ ap length e ∙ length-append xs ys in omega arith

abbrev okay_field : Field → Result Field HpackFault
okay_field f = Ok f

abbrev okay_name : List ℕ → ℕ → Result (List ℕ × ℕ) HpackFault
okay_name s n = Ok (s, n)

entry_only : (entries : List Field) (at i : ℕ) (f : Field) → IsEntry entries i f → entry_at entries at i ≡ Ok f
unfolding entry_at
entry_only entries at zero f e = elim e [ inl p ↦ absurd (let h = p.0 in omega arith) | inr p ↦ absurd (let h = p.0 in omega arith) ]
entry_only entries at (suc i) f e = elim e [
  | inl p ↦ let z : suc i - 1 ≡ i = omega arith in rw (lt-ltb i 61 (let h = p.1 in omega arith)) (ap (λ (k : ℕ). okay_field (get_or static_table k (entry [] []))) (sym z) ∙ ap okay_field (sym p.2))
  | inr p ↦ let z : suc i - 62 ≡ i - 61 = omega arith in rw (le-ltb i 61 (let h = p.0 in omega arith), lt-ltb (i - 61) (length entries) (let h = p.1 in omega arith))
      (ap (λ (k : ℕ). okay_field (get_or entries k (entry [] []))) (sym z) ∙ ap okay_field (sym p.2))
]

name_only : (entries : List Field) (bytes : List ℕ) (at i next : ℕ) (s rest name : List ℕ) → drop next bytes ≡ s ++ rest → next ≤ length bytes → IsName entries i s name → name_at entries bytes at i next ≡ Ok (name, next + length s)
unfolding name_at
name_only entries bytes at zero next s rest name e inside i = string_only bytes next s rest name e inside i
name_only entries bytes at (suc i) next s rest name e inside n =
    let z : next ≡ next + length s = let l : length s ≡ 0 = ap length n.0 in omega arith in
    rw (entry_only entries at (suc i) n.1 n.2) (ap (λ (v : List ℕ). okay_name v next) (sym n.3) ∙ ap (okay_name name) z)

literal_only : (entries : List Field) (bytes : List ℕ) (at prefix : ℕ) (s rest : List ℕ) (f : Field) → drop at bytes ≡ s ++ rest → at ≤ length bytes → IsLiteral entries prefix s f → literal_at entries bytes at prefix ≡ Ok (f, at + length s)
unfolding literal_at
literal_only entries bytes at prefix s rest f e inside i =
    let d : drop at bytes ≡ i.lead ++ (i.name_spelling ++ (i.value_spelling ++ rest)) = e ∙ ap (λ (v : List ℕ). v ++ rest) i.whole ∙ append_assoc i.lead (i.name_spelling ++ i.value_spelling) rest ∙ ap (λ (v : List ℕ). i.lead ++ v) (append_assoc i.name_spelling i.value_spelling rest) in
    let one : ℕ = at + length i.lead in
    let two : ℕ = one + length i.name_spelling in
    let d1 = behind bytes at i.lead (i.name_spelling ++ (i.value_spelling ++ rest)) d in
    let w1 = within bytes at i.lead (i.name_spelling ++ (i.value_spelling ++ rest)) inside d in
    let d2 = behind bytes one i.name_spelling (i.value_spelling ++ rest) d1 in
    let w2 = within bytes one i.name_spelling (i.value_spelling ++ rest) w1 d1 in
    let n : int_at prefix at (drop at bytes) ≡ Ok (i.index, one) = ap (int_at prefix at) d ∙ int_only prefix at i.lead (i.name_spelling ++ (i.value_spelling ++ rest)) i.index i.int in
    let m : name_at entries bytes at i.index one ≡ Ok (f.name, two) = name_only entries bytes at i.index one i.name_spelling (i.value_spelling ++ rest) f.name d1 w1 i.name in
    let v : string_at bytes two ≡ Ok (f.value, two + length i.value_spelling) = string_only bytes two i.value_spelling rest f.value d2 w2 i.value in
    let l : length s ≡ length i.lead + (length i.name_spelling + length i.value_spelling) = ap length i.whole ∙ length-append i.lead (i.name_spelling ++ i.value_spelling) ∙ ap (λ (k : ℕ). length i.lead + k) (length-append i.name_spelling i.value_spelling) in
    let k : two + length i.value_spelling ≡ at + length s = omega arith in
    rw (n, m, v, k) refl

int_some : (prefix : ℕ) (s : List ℕ) (n : ℕ) → IsInt prefix s n → 0 < length s
int_some prefix [] n i = absurd i
int_some prefix (b ∷ s) n i = omega arith

literal_some : (entries : List Field) (prefix : ℕ) (s : List ℕ) (f : Field) → IsLiteral entries prefix s f → 0 < length s
literal_some entries prefix s f i = let a = int_some prefix i.lead i.index i.int in let l = ap length i.whole ∙ length-append i.lead (i.name_spelling ++ i.value_spelling) in omega arith

repr_some : (t : TableState) (first : Bool) (s : List ℕ) (o : Option Field) (u : TableState) → IsRepr t first s o u → 0 < length s
repr_some t _ _ _ _ (indexed first s i f low n e) = int_some 7 s i n
repr_some t _ _ _ _ (incremental first s f low high l) = literal_some t.entries 6 s f l
repr_some t _ _ _ _ (resize s n low high i le) = int_some 5 s n i
repr_some t _ _ _ _ (never first s f low high l) = literal_some t.entries 4 s f l
repr_some t _ _ _ _ (plain first s f low l) = literal_some t.entries 4 s f l

first_is : (bytes : List ℕ) (at : ℕ) (s rest : List ℕ) → drop at bytes ≡ s ++ rest → 0 < length s → get_or bytes at 0 ≡ lead_of s
first_is bytes at [] rest e some = absurd (omega arith)
first_is bytes at (b ∷ s) rest e some = let z : at + 0 ≡ at = omega arith in sym (ap (λ (k : ℕ). get_or bytes k 0) z) ∙ sym (get_or-drop at bytes 0 0) ∙ ap lead_of e

-- a representation in the grammar is read
repr_only : (bytes : List ℕ) (at : ℕ) (rest : List ℕ) (t : TableState) (first : Bool) (s : List ℕ) (o : Option Field) (u : TableState) → drop at bytes ≡ s ++ rest → at ≤ length bytes → IsRepr t first s o u → step_at t first bytes at ≡ Ok (step o u (at + length s))
unfolding step_at indexed_at added_at plain_at resized_at
repr_only bytes at rest t _ _ _ _ e inside (indexed first s i f low n g) =
    let h = first_is bytes at s rest e (int_some 7 s i n) in
    let m : int_at 7 at (drop at bytes) ≡ Ok (i, at + length s) = ap (int_at 7 at) e ∙ int_only 7 at s rest i n in
    rw (h, le-leb 128 (lead_of s) low, m, entry_only t.entries at i f g) refl
repr_only bytes at rest t _ _ _ _ e inside (incremental first s f low high l) =
    let h = first_is bytes at s rest e (literal_some t.entries 6 s f l) in
    rw (h, lt-leb 128 (lead_of s) high, le-leb 64 (lead_of s) low, literal_only t.entries bytes at 6 s rest f e inside l) refl
repr_only bytes at rest t _ _ _ _ e inside (resize s n low high i le) =
    let h = first_is bytes at s rest e (int_some 5 s n i) in
    let m : int_at 5 at (drop at bytes) ≡ Ok (n, at + length s) = ap (int_at 5 at) e ∙ int_only 5 at s rest n i in
    rw (h, lt-leb 128 (lead_of s) (omega arith), lt-leb 64 (lead_of s) high, le-leb 32 (lead_of s) low, m, le-ltb 4096 n le) refl
repr_only bytes at rest t _ _ _ _ e inside (never first s f low high l) =
    let h = first_is bytes at s rest e (literal_some t.entries 4 s f l) in
    rw (h, lt-leb 128 (lead_of s) (omega arith), lt-leb 64 (lead_of s) (omega arith), lt-leb 32 (lead_of s) high, literal_only t.entries bytes at 4 s rest f e inside l) refl
repr_only bytes at rest t _ _ _ _ e inside (plain first s f low l) =
    let h = first_is bytes at s rest e (literal_some t.entries 4 s f l) in
    rw (h, lt-leb 128 (lead_of s) (omega arith), lt-leb 64 (lead_of s) (omega arith), lt-leb 32 (lead_of s) (omega arith), literal_only t.entries bytes at 4 s rest f e inside l) refl

-- a block in the grammar is read, where the sizes have room
fields_only : (bytes bs : List ℕ) (t : TableState) (first : Bool) (fs : List Field) (v : TableState) (most room at : ℕ) → Block t first bs fs v → drop at bytes ≡ bs → at ≤ length bytes → total fs ≤ room → length bytes - at < most
    → fields_in most bytes t first room at ≡ Ok (fs, v)
fields_only bytes _ _ _ _ _ most room at (done t first) e inside fit enough =
    let p = pred_of most (length bytes - at) enough in
    let l = length-drop at bytes in let z : length (drop at bytes) ≡ 0 = ap length e in
    ap (λ (m : ℕ). fields_in m bytes t first room at) p.1 ∙ fields_end p.0 bytes t first room at (omega arith)
fields_only bytes _ _ _ _ _ most room at (field t u v first s rest f fs r b) e inside fit enough =
    let p = pred_of most (length bytes - at) enough in
    let some = repr_some t first s (Some f) u r in
    let w = within bytes at s rest inside e in
    let next : ℕ = at + length s in
    let i : fields_in p.0 bytes u false (room - size f) next ≡ Ok (fs, v) = fields_only bytes rest u false fs v p.0 (room - size f) next b (behind bytes at s rest e) w (omega arith) (let q = p.1 in omega arith) in
    ap (λ (m : ℕ). fields_in m bytes t first room at) p.1 ∙ fields_more p.0 bytes t first room at (Ok (step (Some f) u next)) (omega arith) (repr_only bytes at rest t first s (Some f) u e inside r)
    ∙ rw (le-ltb room (size f) (omega arith)) (ap (with_field f) i)
fields_only bytes _ _ _ _ _ most room at (other t u v first s rest fs r b) e inside fit enough =
    let p = pred_of most (length bytes - at) enough in
    let some = repr_some t first s None u r in
    let w = within bytes at s rest inside e in
    let next : ℕ = at + length s in
    ap (λ (m : ℕ). fields_in m bytes t first room at) p.1 ∙ fields_more p.0 bytes t first room at (Ok (step None u next)) (omega arith) (repr_only bytes at rest t first s None u e inside r)
    ∙ fields_only bytes rest u first fs v p.0 room next b (behind bytes at s rest e) w fit (let q = p.1 in omega arith)

pub block_only : (bytes : List ℕ) (t : TableState) (fs : List Field) (v : TableState) → Block t true bytes fs v → total fs ≤ 65536 → block_of t bytes ≡ Ok (fs, v)
unfolding block_of
block_only bytes t fs v b fit = fields_only bytes bytes t true fs v (length bytes + 1) 65536 0 b refl (omega arith) fit (omega arith)
