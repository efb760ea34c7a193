-- Increments that come in, on the connection or on a stream.
use Rattle.std.proofs.Common.{◌≡◌, ℕ, zero, suc, ◌==◌, Bool, true, false, List, [], ◌∷◌, Some, None, refl, sym, ◌∙◌, ap, if◌then◌else◌, pos, ◌+ℤ◌, ◌≤ℤ◌}
use Rattle.std.specs.List.{cons_option}
use Rattle.h2_frames.specs.declared.frame.Frame.TheVariants as frame
use Rattle.h2_model.specs.declared.stream.Stream.{Stream}
use Rattle.h2_model.specs.State.{State, found}
use Rattle.h2_model.specs.Moves.{adjusted, receiving, resetting, with_increment}
use Rattle.h2_streams.specs.Changes.{Allows}
use Rattle.h2_streams.specs.declared.changes.Change.TheVariants.{IncrementCame}
use Rattle.h2_session.specs.Steps.{CanTake, IsAbsorbed}

absorbed-among : (id n : ℕ) (ts : List Stream) → adjusted id (λ t. None) (adjusted id (with_increment n) ts) ≡ adjusted id (λ t. None) ts
absorbed-among id n [] = refl
absorbed-among id n (t ∷ ts) = by (t.id == id) refl (absorbed-among id n ts)
  where
    by : (c : Bool) → (t.id == id) ≡ c → adjusted id (λ t. None) (adjusted id (with_increment n) ts) ≡ adjusted id (λ t. None) ts
        → adjusted id (λ t. None) (cons_option (if c then with_increment n t else Some t) (adjusted id (with_increment n) ts))
        ≡ cons_option (if c then None else Some t) (adjusted id (λ t. None) ts)
    by true e ih = rw e ih
    by false e ih = rw e (ap (λ xs. t ∷ xs) ih)

pub absorbed : (id n : ℕ) (s : State) → resetting id s ≡ resetting id (record s { streams = adjusted id (with_increment n) s.streams })
unfolding resetting
absorbed id n s = ap (λ (ts : List Stream). record (resetting id s) { streams = ts }) (sym (absorbed-among id n s.streams))

pub taken-connection : (id n : ℕ) (s t : State) → id ≡ 0 → s.first ≡ false
    → ((s.window +ℤ pos n) ≤ℤ pos 2147483647 → t ≡ record s { window = s.window +ℤ pos n })
    → CanTake (frame.Window id n) s → t ≡ receiving (frame.Window id n) s
unfolding receiving
taken-connection zero n s t z f w h = w h ∙ ap (λ (b : Bool). record s { first = b; window = s.window +ℤ pos n }) f
taken-connection (suc id) n s t z f w h = absurd cc

pub taken-stream : (id n : ℕ) (s t : State) → (id ≡ 0 → ⊥) → s.first ≡ false
    → (((u : Stream) → found id s.streams ≡ Some u → Allows (IncrementCame n) u) → t ≡ record s { streams = adjusted id (with_increment n) s.streams })
    → CanTake (frame.Window id n) s → t ≡ receiving (frame.Window id n) s
unfolding receiving
taken-stream zero n s t z f w h = absurd (z refl)
taken-stream (suc id) n s t z f w h = w h ∙ ap (λ (b : Bool). record s { first = b; streams = adjusted (suc id) (with_increment n) s.streams }) f

pub absorbed-stream : (id n : ℕ) (s t : State) → s.first ≡ false
    → resetting id t ≡ resetting id (record s { streams = adjusted id (with_increment n) s.streams }) → IsAbsorbed (frame.Window id n) s t
unfolding receiving
absorbed-stream zero n s t f e = tt
absorbed-stream (suc id) n s t f e =
    e ∙ ap (λ (b : Bool). resetting (suc id) (record s { first = b; streams = adjusted (suc id) (with_increment n) s.streams })) f
