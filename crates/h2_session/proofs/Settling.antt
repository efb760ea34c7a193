-- What the steps of `settle` leave, taken together.
use Rattle.std.proofs.Common.{◌≡◌, ℕ, ◌≤◌, Bool, List, Option, length, sym, ◌∙◌, ap, subst, map, ◌&&◌, nat_le}
use Rattle.h2_frames.specs.declared.frame.Frame.{Frame}
use Rattle.h2_model.specs.declared.answers.Event.{Event}
use Rattle.h2_model.specs.Account.{Account}
use Rattle.h2_model.specs.Duties.{owed_for}
use Rattle.h2_model.specs.Moves.{receiving, reported}
use Rattle.h2_model.specs.StreamFaults.{stream_fault}
use Rattle.h2_laws_log.specs.Steps.{owing_frames}
use Rattle.h2_model.specs.Numbers.{has}
use Rattle.h2_laws_kept.specs.Kept.{IsSame, Kept, lacks_head}
use Rattle.h2_session.specs.Accepting.{IsReady, Settles}
use Rattle.h2_session.specs.Refused.{refused}
use Rattle.h2_session.specs.Steps.{CanCount, CanTake, IsAbsorbed, ending, event_by, is_on_live, refused_ids, resetting_all}
use Rattle.h2_session.specs.declared.judging.Whole.{Whole}
use Rattle.h2_session.proofs.Endings.{same-twice}
use Rattle.h2_session.proofs.Fits.{told-alike}

-- what four steps keep
pub same-through : (k k1 k2 k3 k4 : Kept) → IsSame k k1 → IsSame k1 k2 → IsSame k2 k3 → IsSame k3 k4 → IsSame k k4
same-through k k1 k2 k3 k4 s t u v = same-twice k k3 k4 (same-twice k k2 k3 (same-twice k k1 k2 s t) u) v

module _ (k : Kept) (f : Frame) (w : Option Whole) (b : Account) (r : IsReady k f w b) where
  pub settles : (k1 k2 k3 k4 l : Kept) (fault : Option (ℕ × ℕ)) (live : Bool) (e : Event) (owed : List Frame) (ids : List ℕ)
      → live ≡ is_on_live b f w → fault ≡ stream_fault b f → e ≡ event_by f w fault live → owed ≡ owed_for b f → length owed ≤ 3
      → ids ≡ refused_ids k.client f k.state.streams → (CanCount f k.state → CanTake f k.state → k1.state ≡ receiving f k.state)
      → IsAbsorbed f k.state k1.state → k2.state ≡ ending w k1.state → k3.state ≡ reported e k2.state
      → k4.state ≡ record (resetting_all ids k3.state) { unreported = map refused ids } → IsSame k k4
      → l.state ≡ owing_frames (λ id. lacks_head id k4) owed k4.state → Settles k l f w e b
  settles k1 k2 k3 k4 l fault live e owed ids on_live is_fault is_event is_owed few are_refused counted absorbed ended told refuses same owes = record {
    event = event;
    state =
        owes
        ∙ (λ i. owing_frames (λ id. same.client i && nat_le (same.headless i) id && has id (same.numbers i)) (is_owed i) (refuses i))
        ∙ (λ i. owing_frames (λ id. lacks_head id k) (owed_for b f)
        (record (resetting_all (are_refused i) (brought i)) { unreported = map refused (are_refused i) }));
    few = subst (λ x. length x ≤ 3) is_owed few;
  }
    where
      event : e ≡ event_by f w (stream_fault b f) (is_on_live b f w)
      event = is_event ∙ (λ i. event_by f w (is_fault i) (on_live i))

      brought : k3.state ≡ reported e (ending w (receiving f k.state))
      brought =
          told ∙ (λ i. reported (event i) (ended i))
          ∙ told-alike b f w (is_on_live b f w) k.state k1.state (counted r.counts) absorbed r.on.streams r.window r.widens r.whole
          ∙ ap (λ x. reported x (ending w (receiving f k.state))) (sym event)
