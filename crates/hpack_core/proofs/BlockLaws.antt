-- What the reading of a block says of its bytes.
use Rattle.std.proofs.Common.{◌≡◌, ℕ, zero, suc, ◌+◌, ◌-◌, ◌<◌, ◌≤◌, Bool, true, false, nat_lt, nat_le, List, [], ◌∷◌, ◌++◌, length, drop, get_or, refl, ap, sym, arith, ◌⊎◌, inl, inr, Ok, Err, Result, Option, Some, None, cond, subst}
use borrow.Author.Tests.{ltb-false, leb-true, leb-false}
use Rattle.std.proofs.lemmas.List.{drop_all}
use Rattle.hpack_core.specs.declared.fault.HpackFault.{HpackFault}
use Rattle.hpack_core.specs.declared.fault.HpackFault.TheVariants.{TableSize}
use Rattle.hpack_prim.specs.Integers.{AreBytes, int_at}
use Rattle.ext_msgs.specs.declared.lists.Field.{Field}
use Rattle.hpack_core.specs.Tables.{TableState, size}
use Rattle.hpack_core.specs.Reading.{◌>>=◌, prim, Step, step, entry_at, literal_at, indexed_at, added_at, plain_at, resized_at, step_at, with_field, from_step, fields_in, block_of}
use Rattle.hpack_core.specs.Blocks.{lead_of, IsLiteral, IsRepr, Block}
use Rattle.hpack_core.specs.Blocks.IsRepr.{indexed, incremental, resize, never, plain}
use Rattle.hpack_core.specs.Blocks.Block.{done, field, other}
use Rattle.hpack_core.proofs.StringLaws.{bind_ok, prim_ok, guard_ok, int_lies, entry_lies, Lies, literal_lies}
use Rattle.hpack_core.proofs.BlockLemmas.{Read}

abbrev pub ReprAt : TableState → Bool → List ℕ → ℕ → Step → Type 0
ReprAt t first bytes at st = Lies (λ s. IsRepr t first s st.field st.table) bytes at st.next

nothing : Step
nothing = step None (record { entries = []; limit = 0 }) 0

step_in : Result Step HpackFault → Step
step_in (Ok s) = s
step_in (Err e) = nothing

abbrev okay : Step → Result Step HpackFault
okay s = Ok s

abbrev refused : HpackFault → Result Step HpackFault
refused e = Err e

step_is : (s st : Step) → okay s ≡ okay st → s ≡ st
unfolding step_in
step_is s st e = ap step_in e

no_step : {P : Type 0} (e : HpackFault) (st : Step) → refused e ≡ okay st → P
no_step e st h = (cc)

indexed_lies : (t : TableState) (first : Bool) (bytes : List ℕ) (at : ℕ) (st : Step) → AreBytes bytes → 128 ≤ get_or bytes at 0 → indexed_at t bytes at ≡ Ok st → ReprAt t first bytes at st
unfolding indexed_at
indexed_lies t first bytes at st a low e =
    let i = bind_ok (prim (int_at 7 at (drop at bytes))) _ _ e in
    let f = bind_ok (entry_at t.entries at i.0.0) _ _ i.2 in
    let l = int_lies 7 at bytes i.0.0 i.0.1 a (prim_ok _ _ i.1) in
    subst (ReprAt t first bytes at) (step_is _ st f.2) (record { spelling = l.lead; whole = l.whole; is = indexed first l.lead i.0.0 f.0 (let g = l.first in omega arith) l.int (entry_lies t.entries at i.0.0 f.0 f.1) })

added_lies : (t : TableState) (first : Bool) (bytes : List ℕ) (at : ℕ) (st : Step) → AreBytes bytes → 64 ≤ get_or bytes at 0 → get_or bytes at 0 < 128 → added_at t bytes at ≡ Ok st → ReprAt t first bytes at st
unfolding added_at
added_lies t first bytes at st a low high e =
    let f = bind_ok (literal_at t.entries bytes at 6) _ _ e in
    let l = literal_lies t.entries bytes at 6 f.0.0 f.0.1 a f.1 in
    subst (ReprAt t first bytes at) (step_is _ st f.2) (record { spelling = l.spelling; whole = l.whole; is = incremental first l.spelling f.0.0 (let g = l.is.first in omega arith) (let g = l.is.first in omega arith) l.is.literal })

low_or_not : (n : ℕ) → (n < 16) ⊎ (16 ≤ n)
low_or_not n = grind arith

plain_is : (t : TableState) (first : Bool) (s : List ℕ) (f : Field) → lead_of s < 32 → IsLiteral t.entries 4 s f → IsRepr t first s (Some f) t
plain_is t first s f high l = elim (low_or_not (lead_of s)) [ inl low ↦ plain first s f low l | inr more ↦ never first s f more high l ]

plain_lies : (t : TableState) (first : Bool) (bytes : List ℕ) (at : ℕ) (st : Step) → AreBytes bytes → get_or bytes at 0 < 32 → plain_at t bytes at ≡ Ok st → ReprAt t first bytes at st
unfolding plain_at
plain_lies t first bytes at st a high e =
    let f = bind_ok (literal_at t.entries bytes at 4) _ _ e in
    let l = literal_lies t.entries bytes at 4 f.0.0 f.0.1 a f.1 in
    subst (ReprAt t first bytes at) (step_is _ st f.2) (record { spelling = l.spelling; whole = l.whole; is = plain_is t first l.spelling f.0.0 (let g = l.is.first in omega arith) l.is.literal })

resized_lies : (t : TableState) (first : Bool) (bytes : List ℕ) (at : ℕ) (st : Step) → AreBytes bytes → 32 ≤ get_or bytes at 0 → get_or bytes at 0 < 64 → resized_at t first bytes at ≡ Ok st → ReprAt t first bytes at st
unfolding resized_at
resized_lies t true bytes at st a low high e =
    let n = bind_ok (prim (int_at 5 at (drop at bytes))) _ _ e in
    let g = guard_ok (nat_lt 4096 n.0.0) _ _ _ n.2 in
    let l = int_lies 5 at bytes n.0.0 n.0.1 a (prim_ok _ _ n.1) in
    subst (ReprAt t true bytes at) (step_is _ st g.1) (record { spelling = l.lead; whole = l.whole; is = resize l.lead n.0.0 (let f = l.first in omega arith) (let f = l.first in omega arith) l.int (ltb-false 4096 n.0.0 g.0) })
resized_lies t false bytes at st a low high e =
    let n = bind_ok (prim (int_at 5 at (drop at bytes))) _ _ e in
    let g = guard_ok (nat_lt 4096 n.0.0) _ _ _ n.2 in
    no_step (TableSize at) st g.1

by_form : (t : TableState) (first : Bool) (bytes : List ℕ) (at : ℕ) (st : Step) (p q r : Bool) → AreBytes bytes → nat_le 128 (get_or bytes at 0) ≡ p → nat_le 64 (get_or bytes at 0) ≡ q → nat_le 32 (get_or bytes at 0) ≡ r
    → cond p (indexed_at t bytes at) (cond q (added_at t bytes at) (cond r (resized_at t first bytes at) (plain_at t bytes at))) ≡ Ok st → ReprAt t first bytes at st
by_form t first bytes at st true q r a x y z e = indexed_lies t first bytes at st a (leb-true _ _ x) e
by_form t first bytes at st false true r a x y z e = added_lies t first bytes at st a (leb-true _ _ y) (leb-false _ _ x) e
by_form t first bytes at st false false true a x y z e = resized_lies t first bytes at st a (leb-true _ _ z) (leb-false _ _ y) e
by_form t first bytes at st false false false a x y z e = plain_lies t first bytes at st a (leb-false _ _ z) e

pub step_lies : (t : TableState) (first : Bool) (bytes : List ℕ) (at : ℕ) (st : Step) → AreBytes bytes → step_at t first bytes at ≡ Ok st → ReprAt t first bytes at st
unfolding step_at
step_lies t first bytes at st a e = by_form t first bytes at st _ _ _ a refl refl refl e

-- ---- blocks

fields_of : Read → List Field
fields_of (Ok p) = p.0
fields_of (Err e) = []

state_of : TableState → Read → TableState
state_of t (Ok p) = p.1
state_of t (Err e) = t

abbrev Sound : ℕ → Type 0
Sound most = (bytes : List ℕ) (t : TableState) (first : Bool) (room at : ℕ) (fs : List Field) (v : TableState) → AreBytes bytes → fields_in most bytes t first room at ≡ Ok (fs, v) → Block t first (drop at bytes) fs v

with_is : (f : Field) (x : Read) (fs : List Field) (v : TableState) → with_field f x ≡ Ok (fs, v) → (gs : List Field) × (x ≡ Ok (gs, v)) × (f ∷ gs ≡ fs)
unfolding fields_of state_of
with_is f (Ok p) fs v e = (p.0, ap (λ (u : TableState). Ok (p.0, u)) (ap (state_of v) e), ap fields_of e)
with_is f (Err x) fs v e = (cc)

from_lies : (most : ℕ) (bytes : List ℕ) (t : TableState) (first : Bool) (room at : ℕ) (fs : List Field) (v : TableState) (o : Option Field) (u : TableState) (next : ℕ) → Sound most → AreBytes bytes
    → Lies (λ s. IsRepr t first s o u) bytes at next → from_step o u next first room (λ t f r n. fields_in most bytes t f r n) ≡ Ok (fs, v) → Block t first (drop at bytes) fs v
from_lies most bytes t first room at fs v None u next i a l e = subst (λ (b : List ℕ). Block t first b fs v) (sym l.whole) (other t u v first l.spelling (drop next bytes) fs l.is (i bytes u first room next fs v a e))
from_lies most bytes t first room at fs v (Some f) u next i a l e =
    let g = guard_ok (nat_lt room (size f)) _ _ _ e in
    let w = with_is f (fields_in most bytes u false (room - size f) next) fs v g.1 in
    subst (λ (b : List ℕ). Block t first b fs v) (sym l.whole) (subst (λ (x : List Field). Block t first (l.spelling ++ drop next bytes) x v) w.2 (field t u v first l.spelling (drop next bytes) f w.0 l.is (i bytes u false (room - size f) next w.0 v a w.1)))

more_lies : (most : ℕ) (bytes : List ℕ) (t : TableState) (first : Bool) (room at : ℕ) (fs : List Field) (v : TableState) (b : Bool) → Sound most → AreBytes bytes → nat_lt at (length bytes) ≡ b
    → cond b (step_at t first bytes at >>= λ s. from_step s.field s.table s.next first room (λ t f r n. fields_in most bytes t f r n)) (Ok ([], t)) ≡ Ok (fs, v) → Block t first (drop at bytes) fs v
unfolding fields_of state_of
more_lies most bytes t first room at fs v true i a x e =
    let s = bind_ok (step_at t first bytes at) _ _ e in
    from_lies most bytes t first room at fs v s.0.field s.0.table s.0.next i a (step_lies t first bytes at s.0 a s.1) s.2
more_lies most bytes t first room at fs v false i a x e =
    let d : drop at bytes ≡ [] = drop_all at bytes (ltb-false at (length bytes) x) in
    let fe : [] ≡ fs = ap fields_of e in let te : t ≡ v = ap (state_of v) e in
    subst (λ (b : List ℕ). Block t first b fs v) (sym d) (subst (λ (x : List Field). Block t first [] x v) fe (subst (λ (u : TableState). Block t first [] [] u) te (done t first)))

sound : (most : ℕ) → Sound most
unfolding fields_in
sound zero bytes t first room at fs v a e = cc
sound (suc most) bytes t first room at fs v a e = more_lies most bytes t first room at fs v _ (sound most) a refl e

-- what is read of a block is in the grammar
pub block_found : (bytes : List ℕ) (t : TableState) (fs : List Field) (v : TableState) → AreBytes bytes → block_of t bytes ≡ Ok (fs, v) → Block t true bytes fs v
unfolding block_of
block_found bytes t fs v a e = sound (length bytes + 1) bytes t true 65536 0 fs v a e
