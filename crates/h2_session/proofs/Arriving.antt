-- A frame comes in: what the steps of a session leave of the state is what the account after it says.
use Rattle.std.proofs.Common.{◌≡◌, inl, inr, ℕ, Bool, List, [], Option, Some, None, drop, refl, sym, ◌∙◌, ap, subst, map}
use Rattle.hpack_core.specs.Tables as hpack
use Rattle.h2_frames.specs.declared.frame.Frame.{Frame}
use Rattle.h2_model.specs.declared.answers.Event.{Event}
use Rattle.h2_model.specs.declared.answers.Event.TheVariants as event
use Rattle.h2_model.specs.Blocks.{OpenBlock, table_or}
use Rattle.h2_model.specs.State.{State}
use Rattle.h2_model.specs.Moves.{adjusted, decoding, receiving, reported, telling_all, with_end}
use Rattle.h2_laws_log.specs.Steps.{arriving, opening_for, owing_frames}
use Rattle.h2_session.specs.Refused.{refused}
use Rattle.h2_session.specs.Steps.{IsDecoded, IsTold, ending, resetting_all}
use Rattle.h2_session.specs.declared.judging.Whole.{Whole}
use Rattle.h2_session.proofs.Apart.{opening-quiet, opening-table, owing-all-aside, receiving-keeps, receiving-quiet, receiving-table, tells-first}

-- A block is whole

ends-decoded : (whole : Option OpenBlock) (w : Option Whole) (t : hpack.TableState) (s : State) → IsDecoded s.table whole w t
    → ending w (record s { table = t }) ≡ decoding whole s
unfolding decoding
ends-decoded None None t s h = ap (λ (x : hpack.TableState). record s { table = x }) h
ends-decoded (Some b) (Some w) t s h = λ i. record s {
  table = table_or s.table (sym h.2 i);
  streams = adjusted (h.0 i) (with_end (h.1 i)) s.streams;
}
ends-decoded None (Some w) t s h = absurd h
ends-decoded (Some b) None t s h = absurd h

decoding-quiet : (whole : Option OpenBlock) (s : State) → (decoding whole s).unreported ≡ s.unreported
unfolding decoding
decoding-quiet None s = refl
decoding-quiet (Some b) s = refl

-- What is told

reported-nothing : (e : Event) (s : State) → e ≡ event.Nothing → reported e s ≡ s
unfolding reported
reported-nothing e s q = ap (λ (x : Event). reported x s) q

all-told : (e : Event) (ids : List ℕ) (es : List Event) (s : State) → s.unreported ≡ [] → IsTold e ids es
    → (telling_all es s ≡ record (resetting_all ids (reported e s)) { unreported = es }) × (map refused ids ≡ drop 1 es)
all-told e ids es s q (inl t) = (
  ap (λ x. telling_all x s) t.2 ∙ sym (λ i. record (resetting_all (t.1 i) (reported-nothing e s t.0 i)) { unreported = (t.2 ∙ sym q) i }),
  ap (map refused) t.1 ∙ sym (ap (drop 1) t.2),
)
all-told e ids es s q (inr t) = (
  ap (λ x. telling_all x s) t.1 ∙ tells-first e ids s q ∙ ap (λ (x : List Event). record (resetting_all ids (reported e s)) { unreported = x }) (sym t.1),
  sym (ap (drop 1) t.1),
)

-- All of it

module _ (known headless : ℕ → Bool) (f : Frame) (owed : List Frame) (es : List Event) (whole : Option OpenBlock) (w : Option Whole)
    (t : hpack.TableState) (e : Event) (ids : List ℕ) (s : State) (q : s.unreported ≡ []) (d : IsDecoded s.table whole w t) (told : IsTold e ids es) where
  abbrev opened : State
  opened = opening_for known f s

  abbrev done : State
  done = decoding whole (receiving f opened)

  abbrev brought : State
  brought = resetting_all ids (reported e done)

  keeps : (receiving f opened).table ≡ s.table
  keeps = receiving-keeps f opened ∙ ap (λ (x : State). x.table) (opening-table known f s.table s)

  ends : ending w (receiving f (opening_for known f (record s { table = t }))) ≡ done
  ends = ap (λ x. ending w (receiving f x)) (opening-table known f t s) ∙ ap (ending w) (receiving-table f t opened)
      ∙ ends-decoded whole w t (receiving f opened) (subst (λ x. IsDecoded x whole w t) (sym keeps) d)

  quiet : done.unreported ≡ []
  quiet = decoding-quiet whole (receiving f opened) ∙ receiving-quiet f opened ∙ opening-quiet known f s ∙ q

  pub arrived-unreported : (arriving headless f owed es whole opened).unreported ≡ es
  arrived-unreported =
      ap (λ (x : State). x.unreported) (ap (owing_frames headless owed) (all-told e ids es done quiet told).0 ∙ owing-all-aside headless owed es brought)

  pub arrives-as : owing_frames headless owed (record (resetting_all ids (reported e (ending w (receiving f (opening_for known f (record s {
    table = t;
  })))))) { unreported = map refused ids })
      ≡ record (arriving headless f owed es whole opened) { unreported = drop 1 (arriving headless f owed es whole opened).unreported }
  arrives-as =
      (λ i. owing_frames headless owed (record (resetting_all ids (reported e (ends i))) { unreported = (all-told e ids es done quiet told).1 i }))
      ∙ owing-all-aside headless owed (drop 1 es) brought
      ∙ sym (λ i. record ((ap (owing_frames headless owed) (all-told e ids es done quiet told).0 ∙ owing-all-aside headless owed es brought) i) {
        unreported = drop 1 (arrived-unreported i);
      })
