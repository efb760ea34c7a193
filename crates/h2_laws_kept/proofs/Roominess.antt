-- Room is kept: by the frames that come to the queue and to what is held, and by the credits that are left.
use Rattle.std.proofs.Common.{◌≡◌, ℕ, ◌+◌, ◌≤◌, Bool, true, false, length, sym, ◌∙◌, arith, le_refl, if◌then◌else◌}
use Rattle.h2_model.specs.State.{State}
use Rattle.h2_laws_log.specs.Rooms.{credits, closings_waiting, closings_held}
use Rattle.h2_laws_kept.specs.Kept.{Kept, IsSame}
use Rattle.h2_laws_kept.specs.Rooms.{IsRoomy, KeepsCapacity, HasSpare}
use Rattle.h2_laws_kept.proofs.Sums.{credits-twice}

-- what is reserved stays
pub roomy-kept : (k l : Kept) → IsRoomy k → l.state ≡ k.state → l.client ≡ k.client → l.streams ≡ k.streams → k.room ≤ l.room
    → k.held_room ≤ l.held_room → k.table_room ≤ l.table_room → IsRoomy l
roomy-kept k l r e c n q h t = record {
  queue = rw e (omega (arith, r.queue));
  held = λ d. rw e (omega (arith, r.held (sym c ∙ d)));
  reserve = λ d. rw (e, n) (omega (arith, r.reserve (sym c ∙ d)));
  held_reserve = λ d. rw (e, n) (omega (arith, r.held_reserve (sym c ∙ d)));
  table = λ d. rw (e, n) (omega (arith, r.table (sym c ∙ d)));
}

-- how the lists of a state change: so many frames come that credits pay for, and no other
pub record Pays (s t : State) : Type 0 where
  pub queued : credits t.streams + length t.waiting ≤ credits s.streams + length s.waiting
  pub kept : credits t.streams + length t.held ≤ credits s.streams + length s.held
  pub closings : closings_waiting s.waiting + length t.waiting ≤ closings_waiting t.waiting + length s.waiting
  pub closings_kept : closings_held s.held + length t.held ≤ closings_held t.held + length s.held

pub pays-nothing : (s : State) → Pays s s
pays-nothing s = record {
  queued = le_refl (credits s.streams + length s.waiting);
  kept = le_refl (credits s.streams + length s.held);
  closings = le_refl (closings_waiting s.waiting + length s.waiting);
  closings_kept = le_refl (closings_held s.held + length s.held);
}

-- after a violation nothing comes
pub pays-unless : (c : Bool) (s t : State) → Pays s t → Pays s (if c then s else t)
pays-unless true s t p = pays-nothing s
pays-unless false s t p = p

pub pays-roomy : (k l : Kept) → IsRoomy k → Pays k.state l.state → IsSame k l → KeepsCapacity k l → IsRoomy l
pays-roomy k l r p s c = record {
  queue = omega (arith, r.queue, p.queued, c.queue);
  held = λ d. omega (arith, r.held (sym s.client ∙ d), p.kept, c.held);
  reserve = λ d. rw s.streams (omega (arith, r.reserve (sym s.client ∙ d), p.closings, c.queue));
  held_reserve = λ d. rw s.streams (omega (arith, r.held_reserve (sym s.client ∙ d), p.closings_kept, c.held));
  table = λ d. rw s.streams (omega (arith, r.table (sym s.client ∙ d), c.table));
}

-- with room to spare, n frames come
pub record Comes (n : ℕ) (s t : State) : Type 0 where
  pub queued : length t.waiting ≤ length s.waiting + n
  pub kept : length t.held ≤ length s.held + n
  pub streams : length t.streams ≤ length s.streams

pub spare-roomy : (n : ℕ) (k l : Kept) → IsRoomy k → Comes n k.state l.state → HasSpare n k → l.client ≡ k.client
    → l.streams ≡ k.streams → KeepsCapacity k l → IsRoomy l
spare-roomy n k l r m h same same_streams c = record {
  queue = omega (arith, m.queued, m.streams, credits-twice l.state.streams, h.queue, c.queue);
  held = λ d. omega (arith, m.kept, m.streams, credits-twice l.state.streams, h.held (sym same ∙ d), c.held);
  reserve = λ d. rw same_streams (omega (arith, m.queued, h.queue, c.queue));
  held_reserve = λ d. rw same_streams (omega (arith, m.kept, h.held (sym same ∙ d), c.held));
  table = λ d. rw same_streams (omega (arith, r.table (sym same ∙ d), c.table));
}
