-- The loop over the representations of a block.
use Rattle.std.proofs.Common.{◌≡◌, ℕ, zero, suc, ◌+◌, ◌-◌, ◌<◌, ◌≤◌, Bool, true, false, List, [], ◌∷◌, ◌++◌, length, refl, ap, sym, ◌∙◌, arith, append_assoc, append-nil, Some, None, Result, Ok, Err, lt-ltb, le-ltb}
use Rattle.hpack_core.specs.declared.fault.HpackFault.{HpackFault}
use Rattle.hpack_core.specs.declared.fault.HpackFault.TheVariants.{Prim, Index, TableSize, ListSize, Memory}
use Rattle.ext_msgs.specs.declared.lists.Field.{Field}
use Rattle.hpack_core.specs.Tables.{TableState, size}
use Rattle.hpack_core.specs.Reading.{◌>>=◌, Step, step, step_at, with_field, from_step, fields_in, block_of, FailsWith}

abbrev pub Read : Type 0
Read = Result (List Field × TableState) HpackFault

-- these fields, and then those of what is read
abbrev pub behind : List Field → Read → Read
behind fs (Ok p) = Ok (fs ++ p.0, p.1)
behind fs (Err e) = Err e

behind_more : (fs : List Field) (f : Field) (x : Read) → behind (fs ++ f ∷ []) x ≡ behind fs (with_field f x)
behind_more fs f (Ok p) = ap (λ (v : List Field). Ok (v, p.1)) (append_assoc fs (f ∷ []) p.0)
behind_more fs f (Err e) = refl

behind-nil : (x : Read) → behind [] x ≡ x
behind-nil (Ok p) = refl
behind-nil (Err e) = refl

-- what the loop keeps: these fields, and then what is read from here on
pub record Reads (start : TableState) (bytes : List ℕ) (fs : List Field) (table : TableState) (first : Bool) (room at : ℕ) : Type 0 where
  pub most : ℕ
  pub enough : length bytes - at < most
  pub whole : behind fs (fields_in most bytes table first room at) ≡ block_of start bytes
  pub inside : at ≤ length bytes

pub reads_start : (start : TableState) (bytes : List ℕ) (fs : List Field) → fs ≡ [] → Reads start bytes fs start true 65536 0
unfolding block_of
reads_start start bytes fs e = record { most = length bytes + 1; enough = omega arith; whole = ap (λ (v : List Field). behind v (fields_in (length bytes + 1) bytes start true 65536 0)) e ∙ behind-nil _; inside = omega arith }

pub fields_more : (most : ℕ) (bytes : List ℕ) (table : TableState) (first : Bool) (room at : ℕ) (x : Result Step HpackFault) → at < length bytes → step_at table first bytes at ≡ x
    → fields_in (suc most) bytes table first room at ≡ (x >>= λ s. from_step s.field s.table s.next first room (λ t f r n. fields_in most bytes t f r n))
unfolding fields_in
fields_more most bytes table first room at x less e = rw (lt-ltb at (length bytes) less) (ap (λ (y : Result Step HpackFault). y >>= λ s. from_step s.field s.table s.next first room (λ t f r n. fields_in most bytes t f r n)) e)

pub fields_end : (most : ℕ) (bytes : List ℕ) (table : TableState) (first : Bool) (room at : ℕ) → length bytes ≤ at → fields_in (suc most) bytes table first room at ≡ Ok ([], table)
unfolding fields_in
fields_end most bytes table first room at past = rw (le-ltb at (length bytes) past) refl

-- the fuel is not empty
pub pred_of : (n k : ℕ) → k < n → (m : ℕ) × (n ≡ suc m)
pred_of zero k less = absurd (omega arith)
pred_of (suc m) k less = (m, refl)

-- the reading, one step on
one : (start : TableState) (bytes : List ℕ) (fs : List Field) (table : TableState) (first : Bool) (room at : ℕ) (x : Result Step HpackFault) (r : Reads start bytes fs table first room at) → at < length bytes → step_at table first bytes at ≡ x
    → (m : ℕ) × (r.most ≡ suc m) × (behind fs (x >>= λ s. from_step s.field s.table s.next first room (λ t f q n. fields_in m bytes t f q n)) ≡ block_of start bytes)
one start bytes fs table first room at x r less e =
    let p = pred_of r.most (length bytes - at) r.enough in
    (p.0, p.1, sym (ap (behind fs) (ap (λ (n : ℕ). fields_in n bytes table first room at) p.1 ∙ fields_more p.0 bytes table first room at x less e)) ∙ r.whole)

pub reads_fault : (start : TableState) (bytes : List ℕ) (fs : List Field) (table : TableState) (first : Bool) (room at : ℕ) (fault : HpackFault) → Reads start bytes fs table first room at → at < length bytes → step_at table first bytes at ≡ Err fault → block_of start bytes ≡ Err fault
reads_fault start bytes fs table first room at fault r less e = sym (one start bytes fs table first room at (Err fault) r less e).2

pub reads_large : (start : TableState) (bytes : List ℕ) (fs : List Field) (table next_table : TableState) (first : Bool) (room at next : ℕ) (f : Field) → Reads start bytes fs table first room at → at < length bytes
    → step_at table first bytes at ≡ Ok (step (Some f) next_table next) → room < size f → block_of start bytes ≡ Err ListSize
reads_large start bytes fs table next_table first room at next f r less e small =
    let o = one start bytes fs table first room at _ r less e in
    sym o.2 ∙ rw (lt-ltb room (size f) small) refl

pub reads_field : (start : TableState) (bytes : List ℕ) (fs gs : List Field) (table next_table : TableState) (first : Bool) (room left at next : ℕ) (f : Field) → Reads start bytes fs table first room at → at < length bytes
    → step_at table first bytes at ≡ Ok (step (Some f) next_table next) → left + size f ≡ room → gs ≡ fs ++ f ∷ [] → at < next → next ≤ length bytes → Reads start bytes gs next_table false left next
reads_field start bytes fs gs table next_table first room left at next f r less e sum g on inside =
    let o = one start bytes fs table first room at _ r less e in
    let d : room - size f ≡ left = omega arith in
    record {
      most = o.0;
      enough = omega (arith, r.enough, o.1);
      whole = rw g (behind_more fs f (fields_in o.0 bytes next_table false left next)) ∙ ap (λ (q : ℕ). behind fs (with_field f (fields_in o.0 bytes next_table false q next))) (sym d)
          ∙ sym (ap (behind fs) (rw (le-ltb room (size f) (omega arith)) refl)) ∙ o.2;
      inside = inside;
    }

pub reads_none : (start : TableState) (bytes : List ℕ) (fs : List Field) (table next_table : TableState) (first : Bool) (room at next : ℕ) → Reads start bytes fs table first room at → at < length bytes
    → step_at table first bytes at ≡ Ok (step None next_table next) → at < next → next ≤ length bytes → Reads start bytes fs next_table first room next
reads_none start bytes fs table next_table first room at next r less e on inside =
    let o = one start bytes fs table first room at _ r less e in
    record { most = o.0; enough = omega (arith, r.enough, o.1); whole = o.2; inside = inside }

pub reads_end : (start : TableState) (bytes : List ℕ) (fs : List Field) (table : TableState) (first : Bool) (room at : ℕ) → Reads start bytes fs table first room at → length bytes ≤ at → block_of start bytes ≡ Ok (fs, table)
reads_end start bytes fs table first room at r past =
    let p = pred_of r.most (length bytes - at) r.enough in
    sym r.whole ∙ ap (λ (n : ℕ). behind fs (fields_in n bytes table first room at)) p.1 ∙ ap (behind fs) (fields_end p.0 bytes table first room at past) ∙ ap (λ (v : List Field). Ok (v, table)) (append-nil fs)

pub reads_fails : (start : TableState) (bytes : List ℕ) (fs : List Field) (table : TableState) (first : Bool) (room at : ℕ) (e : HpackFault) → Reads start bytes fs table first room at → at < length bytes → FailsWith e (step_at table first bytes at) → FailsWith e (block_of start bytes)
reads_fails start bytes fs table first room at Memory r less f = tt
reads_fails start bytes fs table first room at (Prim p) r less f = reads_fault start bytes fs table first room at (Prim p) r less f
reads_fails start bytes fs table first room at (Index p) r less f = reads_fault start bytes fs table first room at (Index p) r less f
reads_fails start bytes fs table first room at (TableSize p) r less f = reads_fault start bytes fs table first room at (TableSize p) r less f
reads_fails start bytes fs table first room at ListSize r less f = reads_fault start bytes fs table first room at ListSize r less f
