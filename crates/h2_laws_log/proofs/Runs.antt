-- A session that isn't stopped.
use Rattle.std.proofs.Common.{◌≡◌, Bool, true, false, not, ◌||◌, List, [], ◌∷◌, refl, true≢false}
use Rattle.h2_model.specs.declared.answers.Event.{Event}
use Rattle.h2_model.specs.Log.{is_empty}
use Rattle.h2_model.specs.Account.{Account}
use Rattle.h2_model.specs.History.{is_violated}
use Rattle.h2_model.specs.Calls.{is_stopped}
use Rattle.h2_laws_log.specs.Feeding.{ReadsFrames}

pub record Runs (a : Account) : Type 0 where
  pub sound : is_violated a ≡ false
  pub quiet : a.unreported ≡ []

nothing-waits : (us : List Event) (v : Bool) → (not (is_empty us) || v) ≡ false → (v ≡ false) × (us ≡ [])
nothing-waits [] v e = (e, refl)
nothing-waits (u ∷ us) v e = absurd (true≢false e)

pub runs : (a : Account) → is_stopped a ≡ false → Runs a
runs a s = let h = nothing-waits a.unreported (is_violated a) s in record { sound = h.0; quiet = h.1 }

pub frames-run : (a : Account) → a.greeted ≡ true → is_stopped a ≡ false → ReadsFrames a
frames-run a g s = record { greeted = g; sound = (runs a s).sound; quiet = (runs a s).quiet }
