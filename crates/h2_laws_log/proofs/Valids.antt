-- `Valid` is kept by a move that changes only what it names.
use Rattle.std.proofs.Common.{◌≡◌, ℕ, ◌+◌, ◌<◌, ◌≤◌, Bool, true, false, ◌||◌, ◌==◌, refl, sym, ◌∙◌, ap, subst, All, arith, eqb-true}
use Rattle.std.specs.List.{list_any}
use Rattle.h2_model.specs.Log.{Log, stream_of, total}
use Rattle.h2_model.specs.Streams.{opened, is_opened, is_live}
use Rattle.h2_model.specs.Account.{Account}
use Rattle.h2_model.specs.Windows.{data_received, increment_given, increment_owed}
use Rattle.h2_model.specs.History.{frame_in}
use Rattle.h2_model.specs.Valid.{Valid, Untouched, Descends, is_lost, is_lost_entry, is_of_opened, is_update_owed, updates_in}
use Rattle.h2_laws_log.proofs.Same.{Same, same-untouched}

pub record Moves (a b : Account) : Type 0 where
  pub opened : opened b.log ≡ opened a.log
  pub untouched : (n : ℕ) → 0 < n → is_opened n a.log ≡ false → Untouched n a → Untouched n b
  pub lives : (n : ℕ) → is_live n b.log ≡ true → is_live n a.log ≡ true
  pub received : (n : ℕ) → total (data_received n) b.log ≡ total (data_received n) a.log
  pub given : (n : ℕ) → total (increment_given n) a.log ≤ total (increment_given n) b.log
  pub owed : (n : ℕ) → total (increment_owed n) b.log ≡ total (increment_owed n) a.log
  pub waiting : All (λ w. is_of_opened a.log (stream_of w.frame) ≡ true) b.waiting
  pub held : All (λ e. is_of_opened a.log (stream_of (frame_in e)) ≡ true) b.held
  pub waiting_kept : All (λ w. is_lost b.log w ≡ false) b.waiting
  pub held_kept : All (λ e. is_lost_entry b.log e ≡ false) b.held
  pub held_owed : All (λ e. is_update_owed e ≡ false) b.held
  pub updates : (n : ℕ) → total (increment_given n) b.log + updates_in n b.waiting ≤ total (increment_owed n) b.log

pub valid-moved : (a b : Account) → Valid a → Moves a b → Valid b
valid-moved a b v m = record {
  descends = subst Descends (sym m.opened) v.descends;
  untouched = λ n l o. let was : is_opened n a.log ≡ false = sym (ap (list_any (λ k. k == n)) m.opened) ∙ o in
      m.untouched n l was (v.untouched n l was);
  waiting = subst (λ os. All
      (λ w. ((stream_of w.frame == 0) || list_any (λ k. k == stream_of w.frame) os) ≡ true) b.waiting)
      (sym m.opened) m.waiting;
  held = subst (λ os. All
      (λ e. ((stream_of (frame_in e) == 0) || list_any (λ k. k == stream_of (frame_in e)) os) ≡ true) b.held)
      (sym m.opened) m.held;
  waiting_kept = m.waiting_kept;
  held_kept = m.held_kept;
  held_owed = m.held_owed;
  updates = m.updates;
  received = let r : total (data_received 0) b.log ≡ total (data_received 0) a.log = m.received 0 in
      let g : total (increment_given 0) a.log ≤ total (increment_given 0) b.log = m.given 0 in
      let w : total (data_received 0) a.log ≤ 65535 + total (increment_given 0) a.log = v.received in omega arith;
  received_on = λ n l. let r : total (data_received n) b.log ≡ total (data_received n) a.log = m.received n in
      let g : total (increment_given n) a.log ≤ total (increment_given n) b.log = m.given n in
      let w : total (data_received n) a.log ≤ 65535 + total (increment_given n) a.log = v.received_on n (m.lives n l) in
      omega arith;
  returned = λ n. let r : total (data_received n) b.log ≡ total (data_received n) a.log = m.received n in
      let o : total (increment_owed n) b.log ≡ total (increment_owed n) a.log = m.owed n in
      let w : total (increment_owed n) a.log ≤ total (data_received n) a.log = v.returned n in omega arith;
}

-- a stream that isn't opened is another than one of the connection or of an opened stream
pub apart : (n id : ℕ) (log : Log) → 0 < n → is_opened n log ≡ false → is_of_opened log id ≡ true → (n == id) ≡ false
apart n id log l o k = by (n == id) refl
  where
    at_zero : (z : Bool) → (n == 0) ≡ z → (z || is_opened n log) ≡ true → (n == id) ≡ false
    at_zero true z h = let e : n ≡ 0 = eqb-true n 0 z in absurd (omega arith)
    at_zero false z h = absurd cc

    by : (c : Bool) → (n == id) ≡ c → (n == id) ≡ false
    by true e = at_zero (n == 0) refl (subst (λ m. is_of_opened log m ≡ true) (sym (eqb-true n id e)) k)
    by false e = e

-- only one stream moves
pub others-untouched : (a b : Account) (id : ℕ) → is_of_opened a.log id ≡ true
    → ((n : ℕ) → 0 < n → (n == id) ≡ false → Same n a b)
    → (n : ℕ) → 0 < n → is_opened n a.log ≡ false → Untouched n a → Untouched n b
others-untouched a b id k s n l o u = same-untouched n a b (s n l (apart n id a.log l o k)) u
