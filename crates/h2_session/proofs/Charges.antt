-- What is owed on a stream that has its head, kind by kind.
use Rattle.std.proofs.Common.{◌≡◌, ℕ, zero, suc, ◌-◌, refl, ap, arith, ℤ, pos, ◌-ℤ◌}
use Rattle.std.proofs.lemmas.Int.{ints}
use Rattle.h2_frames.specs.declared.frame.Frame.{Frame}
use Rattle.h2_frames.specs.declared.frame.Frame.TheVariants as frame
use Rattle.h2_model.specs.Queue.{data_in}
use Rattle.h2_model.specs.State.{State}
use Rattle.h2_session.specs.Steps.{IsOwed}
use Rattle.h2_model.specs.Moves.{adjusted, charged, resetting, with_update}

pub charged-connection : (id n : ℕ) (s : State) → id ≡ 0 → charged (frame.Window id n) s ≡ record s { unreturned = s.unreturned - n }
unfolding charged
charged-connection zero n s z = refl
charged-connection (suc id) n s z = absurd cc

pub charged-stream : (id n : ℕ) (s : State) → (id ≡ 0 → ⊥)
    → charged (frame.Window id n) s ≡ record s { streams = adjusted id (with_update n) s.streams }
unfolding charged
charged-stream zero n s z = absurd (z refl)
charged-stream (suc id) n s z = refl

pub charged-update : (f : Frame) (id n : ℕ) (s : State) → f ≡ frame.Window id n → charged f s ≡ charged (frame.Window id n) s
charged-update f id n s e = ap (λ g. charged g s) e

pub charged-reset : (f : Frame) (id code : ℕ) (s : State) → f ≡ frame.Reset id code → charged f s ≡ resetting id s
unfolding charged
charged-reset f id code s e = rw e refl

pub charged-other : (f : Frame) (s : State) → ((id code : ℕ) → f ≡ frame.Reset id code → ⊥) → ((id n : ℕ) → f ≡ frame.Window id n → ⊥) → s ≡ charged f s
unfolding charged
charged-other (frame.Reset id code) s r w = absurd (r id code refl)
charged-other (frame.Window id n) s r w = absurd (w id n refl)
charged-other f s r w = refl

-- what is owed has no bytes of a body
no-data : (f : Frame) → IsOwed f → data_in 0 f ≡ 0
no-data frame.SettingsAck o = refl
no-data (frame.Ping ack bytes) o = refl
no-data (frame.Window id n) o = refl
no-data (frame.Reset id code) o = refl
no-data f o = absurd o

less-nothing : (w : ℤ) (n : ℕ) → n ≡ 0 → w -ℤ pos n ≡ w
less-nothing w n e = omega (arith, ints, e)

pub window-kept : (f : Frame) (w : ℤ) → IsOwed f → w -ℤ pos (data_in 0 f) ≡ w
window-kept f w o = less-nothing w (data_in 0 f) (no-data f o)
