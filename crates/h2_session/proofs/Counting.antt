-- How a frame counts, kind by kind.
use Rattle.std.proofs.Common.{◌≡◌, ℕ, zero, suc, ◌+◌, ◌-◌, ◌<◌, ◌^◌, Bool, true, false, List, Some, None, refl, ◌∙◌, ap, if◌then◌else◌, min, arith}
use Rattle.h2_frames.specs.declared.frame.Setting.{Setting}
use Rattle.h2_frames.specs.declared.frame.Frame.{Frame}
use Rattle.h2_frames.specs.declared.frame.Frame.TheVariants as frame
use Rattle.h2_model.specs.Blocks.{more_of}
use Rattle.h2_model.specs.Settings.{setting_in, least_in}
use Rattle.h2_model.specs.State.{State}
use Rattle.h2_model.specs.Moves.{adjusted, receiving, with_data}
use Rattle.h2_session.specs.Steps.{CanCount, CanTake, IsAbsorbed}

pub min-below : (n : ℕ) → n < 2 ^ 32 → min n 4294967295 ≡ n
min-below n l = omega (arith, l)

pub counts-headers : (f : Frame) (id : ℕ) (part bytes : List ℕ) (last ends : Bool) (s t : State) → f ≡ frame.Headers id part last ends → bytes ≡ part
    → s.first ≡ false
    → t ≡ record s { block = if ends then None else Some (record { stream = id; bytes = bytes; last = last }) } → t ≡ receiving f s
unfolding receiving
counts-headers f id part bytes last ends s t e p b h = rw e
    (h ∙ ap (λ (x : List ℕ). record s { block = if ends then None else Some (record { stream = id; bytes = x; last = last }) }) p
    ∙ ap (λ (x : Bool). record s { first = x; block = if ends then None else Some (record { stream = id; bytes = part; last = last }) }) b)

pub counts-continuation : (f : Frame) (id : ℕ) (part bytes : List ℕ) (ends : Bool) (s t : State) → f ≡ frame.Continuation id part ends → bytes ≡ part
    → s.first ≡ false
    → t ≡ record s { block = if ends then None else more_of bytes s.block } → t ≡ receiving f s
unfolding receiving
counts-continuation f id part bytes ends s t e p b h = rw e
    (h ∙ ap (λ (x : List ℕ). record s { block = if ends then None else more_of x s.block }) p
    ∙ ap (λ (x : Bool). record s { first = x; block = if ends then None else more_of part s.block }) b)

pub counts-data : (f : Frame) (id : ℕ) (bytes : List ℕ) (last : Bool) (size : ℕ) (s t : State) → f ≡ frame.Data id bytes last size → s.first ≡ false
    → (CanCount (frame.Data id bytes last size) s → t ≡ record s {
      receive = s.receive - size;
      unreturned = s.unreturned + size;
      streams = adjusted id (with_data last size) s.streams;
    }) → CanCount f s → t ≡ receiving f s
unfolding receiving
counts-data f id bytes last size s t e b h = rw e (λ u. h u ∙ ap (λ (x : Bool). record s {
  first = x;
  receive = s.receive - size;
  unreturned = s.unreturned + size;
  streams = adjusted id (with_data last size) s.streams;
}) b)

pub counts-settings : (f : Frame) (list items : List Setting) (s t : State) → f ≡ frame.Settings list → list ≡ items → s.first ≡ false
    → t ≡ record s { initial = setting_in 4 items s.initial; most = setting_in 3 items s.most; limit = least_in items s.limit } → t ≡ receiving f s
unfolding receiving
counts-settings f list items s t e p b h = rw (e, p) (h ∙ ap (λ (x : Bool). record s {
  first = x;
  initial = setting_in 4 items s.initial;
  most = setting_in 3 items s.most;
  limit = least_in items s.limit;
}) b)

pub counts-goaway : (f : Frame) (last code : ℕ) (s t : State) → f ≡ frame.GoAway last code → s.first ≡ false
    → t ≡ record s { goaway = true } → t ≡ receiving f s
unfolding receiving
counts-goaway f last code s t e b h = rw e (h ∙ ap (λ (x : Bool). record s { first = x; goaway = true }) b)

pub counts-other : (f : Frame) (s : State)
    → ((id : ℕ) (bytes : List ℕ) (last : Bool) (size : ℕ) → f ≡ frame.Data id bytes last size → ⊥)
    → ((id : ℕ) (part : List ℕ) (last ends : Bool) → f ≡ frame.Headers id part last ends → ⊥)
    → ((list : List Setting) → f ≡ frame.Settings list → ⊥)
    → ((last code : ℕ) → f ≡ frame.GoAway last code → ⊥)
    → ((id n : ℕ) → f ≡ frame.Window id n → ⊥)
    → ((id : ℕ) (part : List ℕ) (ends : Bool) → f ≡ frame.Continuation id part ends → ⊥)
    → s.first ≡ false → s ≡ receiving f s
unfolding receiving
counts-other (frame.Data id bytes last size) s d h l g w c b = absurd (d id bytes last size refl)
counts-other (frame.Headers id part last ends) s d h l g w c b = absurd (h id part last ends refl)
counts-other (frame.Settings list) s d h l g w c b = absurd (l list refl)
counts-other (frame.GoAway last code) s d h l g w c b = absurd (g last code refl)
counts-other (frame.Window id n) s d h l g w c b = absurd (w id n refl)
counts-other (frame.Continuation id part ends) s d h l g w c b = absurd (c id part ends refl)
counts-other f s d h l g w c b = ap (λ (x : Bool). record s { first = x }) b

-- The first frame is like the others

pub first-receives : (f : Frame) (s : State) → receiving f (record s { first = false }) ≡ receiving f s
unfolding receiving
first-receives (frame.Window zero n) s = refl
first-receives (frame.Window (suc id) n) s = refl
first-receives f s = refl

pub first-counts : (f : Frame) (s : State) → CanCount f s → CanCount f (record s { first = false })
first-counts (frame.Data id bytes last size) s h = h
first-counts f s h = tt

pub first-takes : (f : Frame) (s : State) → CanTake f s → CanTake f (record s { first = false })
first-takes (frame.Window zero n) s h = h
first-takes (frame.Window (suc id) n) s h = h
first-takes f s h = tt

pub first-absorbed : (f : Frame) (s t : State) → IsAbsorbed f (record s { first = false }) t → IsAbsorbed f s t
unfolding receiving
first-absorbed (frame.Window zero n) s t h = tt
first-absorbed (frame.Window (suc id) n) s t h = h
first-absorbed f s t h = tt
