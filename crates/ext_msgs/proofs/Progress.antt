-- Reading the records of some bytes one after the other, as a loop does.
use Rattle.std.proofs.Common.{◌≡◌, ℕ, ◌+◌, ◌-◌, ◌≤◌, List, Option, Some, None, Ok, Err, refl, sym, ap, subst, ◌∙◌, arith}
use Rattle.std.specs.Prelude.{option_map, fold}
use Rattle.pb_wire.specs.declared.fault.WireFault.{WireFault}
use Rattle.pb_wire.specs.declared.reader.Record.{Record}
use Rattle.pb_wire.specs.Records.{Entry}
use Rattle.pb_wire.specs.Cursor.{Cursor, Placed, part, left, shown, next_at, given, given_unless, Nexts}
use Rattle.pb_wire.specs.Walk.{placed, wire_fault, entries}
use Rattle.pb_wire.proofs.Walk.{placed_some, placed_none, placed_err, fault_some, fault_none, fault_err, entries_some, entries_none}
use Rattle.ext_msgs.specs.declared.fault.MsgFault.{MsgFault}
use Rattle.ext_msgs.specs.declared.fault.MsgFault.TheVariants.{Wire, Utf8, BadNumber, NoMember, Memory}
use Rattle.ext_msgs.specs.MessageFault.{◌else◌, first_of, first_fault}
use Rattle.ext_msgs.specs.Parts.{Refuses}

pub else_assoc : {A : Type 0} (a b c : Option A) → (a else b) else c ≡ a else (b else c)
else_assoc (Some x) b c = refl
else_assoc None b c = refl

-- ---- the first fault, by what a step gives

module _ (fault : Placed → Option MsgFault) (end : ℕ) (bytes : List ℕ) where
  pub first_some : (p : Placed) (rest : List ℕ) → next_at end bytes ≡ Ok (Some (p, rest)) → first_fault fault end bytes ≡ fault p else first_fault fault end rest
  unfolding first_fault
  first_some p rest e =
      rw (placed_some end bytes p rest e, fault_some end bytes p rest e) (else_assoc (fault p) (first_of fault (placed end rest)) (option_map Wire (wire_fault end rest)))

  pub first_none : next_at end bytes ≡ Ok None → first_fault fault end bytes ≡ None
  unfolding first_fault
  first_none e = rw (placed_none end bytes e, fault_none end bytes e) refl

  pub first_err : (f : WireFault) → next_at end bytes ≡ Err f → first_fault fault end bytes ≡ Some (Wire f)
  unfolding first_fault
  first_err f e = rw (placed_err end bytes f e, fault_err end bytes f e) refl

-- ---- what the loop keeps

pub record Progress {S : Type 0} (fault : Placed → Option MsgFault) (add : S → Entry → S) (bytes : List ℕ) (start len : ℕ) (old new : S) (c : Cursor) : Type 0 where
  pub whole : c.whole ≡ bytes
  pub last : c.end ≡ start + len
  pub order : c.at ≤ c.end
  pub going : c.failed ≡ None
  pub first : first_fault fault (start + len) (part bytes start len) ≡ first_fault fault c.end (left c)
  pub told : fold add old (entries (part bytes start len)) ≡ fold add new (entries (left c))

gave : (c : Cursor) → c.failed ≡ None → given c ≡ next_at c.end (left c)
gave c e = ap (λ f. given_unless f c) e

module _ {S : Type 0} (fault : Placed → Option MsgFault) (add : S → Entry → S) (bytes : List ℕ) (start len : ℕ) (old : S) where
  pub begins : (c : Cursor) → c ≡ record { whole = bytes; at = start; end = start + len; failed = None } → Progress fault add bytes start len old old c
  begins c e =
      let size : start + len - start ≡ len = omega arith in
      subst (λ (d : Cursor). Progress fault add bytes start len old old d) (sym e) (record {
        whole = refl;
        last = refl;
        order = omega arith;
        going = refl;
        first = rw size refl;
        told = rw size refl;
      })

  pub goes_on : (mid new : S) (c d : Cursor) (r : Record) → Progress fault add bytes start len old mid c → Nexts c d (Ok (Some r)) → fault (shown bytes r) ≡ None → new ≡ add mid (shown bytes r).entry → Progress fault add bytes start len old new d
  goes_on mid new c d r p n none more =
      let p_is : shown c.whole r ≡ shown bytes r = ap (λ w. shown w r) p.whole in
      let step : next_at c.end (left c) ≡ Ok (Some (shown bytes r, left d)) = sym (gave c p.going) ∙ n.0 ∙ ap (λ s. Ok (Some (s, left d))) p_is in
      let d_end : d.end ≡ c.end = ap (λ (x : Cursor). x.end) n.1 in
      record {
        whole = ap (λ (x : Cursor). x.whole) n.1 ∙ p.whole;
        last = d_end ∙ p.last;
        order = omega (arith, n.3, d_end);
        going = ap (λ (x : Cursor). x.failed) n.1 ∙ p.going;
        first = p.first ∙ first_some fault c.end (left c) (shown bytes r) (left d) step ∙ ap (λ f. f else first_fault fault c.end (left d)) none ∙ ap (λ e. first_fault fault e (left d)) (sym d_end);
        told = p.told ∙ ap (fold add mid) (entries_some c.end (left c) (shown bytes r) (left d) step) ∙ ap (λ s. fold add s (entries (left d))) (sym more);
      }

  pub ends : (new : S) (c d : Cursor) → Progress fault add bytes start len old new c → Nexts c d (Ok None) → (first_fault fault (start + len) (part bytes start len) ≡ None) × (new ≡ fold add old (entries (part bytes start len)))
  ends new c d p n =
      let step : next_at c.end (left c) ≡ Ok None = sym (gave c p.going) ∙ n.0 in
      (p.first ∙ first_none fault c.end (left c) step, sym (p.told ∙ ap (fold add new) (entries_none c.end (left c) step)))

  pub ends_wire : (new : S) (c d : Cursor) (f : WireFault) → Progress fault add bytes start len old new c → Nexts c d (Err f) → first_fault fault (start + len) (part bytes start len) ≡ Some (Wire f)
  ends_wire new c d f p n = p.first ∙ first_err fault c.end (left c) f (sym (gave c p.going) ∙ n.0)

  refused : (e : MsgFault) (a b : Option MsgFault) → Refuses e a → Refuses e (a else b)
  refused Memory a b h = tt
  refused (Wire f) a b h = ap (λ o. o else b) h
  refused (Utf8 f) a b h = ap (λ o. o else b) h
  refused (BadNumber f) a b h = ap (λ o. o else b) h
  refused NoMember a b h = ap (λ o. o else b) h

  pub ends_field : (new : S) (c d : Cursor) (r : Record) (e : MsgFault) → Progress fault add bytes start len old new c → Nexts c d (Ok (Some r)) → Refuses e (fault (shown bytes r)) → Refuses e (first_fault fault (start + len) (part bytes start len))
  ends_field new c d r e p n h =
      let p_is : shown c.whole r ≡ shown bytes r = ap (λ w. shown w r) p.whole in
      let step : next_at c.end (left c) ≡ Ok (Some (shown bytes r, left d)) = sym (gave c p.going) ∙ n.0 ∙ ap (λ s. Ok (Some (s, left d))) p_is in
      subst (Refuses e) (sym (p.first ∙ first_some fault c.end (left c) (shown bytes r) (left d) step)) (refused e (fault (shown bytes r)) (first_fault fault c.end (left d)) h)
