-- What a frame that comes in, and what `feed`, leave.
use Rattle.std.specs.Prelude.{ℕ, ◌≡◌, [], None, Some}
use Rattle.h2_frames.specs.declared.frame.Frame.{Frame}
use Rattle.h2_model.specs.declared.answers.Event.{Event}
use Rattle.h2_model.specs.declared.answers.Event.TheVariants as event
use Rattle.h2_model.specs.declared.answers.SessionFault.{SessionFault}
use Rattle.h2_model.specs.declared.answers.SessionFault.TheVariants.{Code, Memory}
use Rattle.h2_model.specs.Log.{violation}
use Rattle.h2_model.specs.Account.{Account}
use Rattle.h2_model.specs.History.{answered, arrived}
use Rattle.h2_model.specs.Calls.{event_or_nothing}
use Rattle.h2_laws_kept.specs.Kept.{Kept}
use Rattle.h2_laws_kept.specs.StandsFor.{Holds}

-- a fault but for want of memory
abbrev pub IfCode : (ℕ → Type 0) → SessionFault → Type 0
IfCode P (Code code) = P code
IfCode P Memory = Unit {0}

-- a frame came, and brought this
pub record Brings (k : Kept) (f : Frame) (a : Account) (e : Event) : Type 0 where
  pub sound : violation (arrived f a).log ≡ None
  pub told : e ≡ event_or_nothing (arrived f a).unreported
  -- a frame never tells `Nothing`
  pub quiet : e ≡ event.Nothing → (arrived f a).unreported ≡ []
  pub holds : Holds k (answered (arrived f a))

-- a frame came that is a connection error
pub record Breaks (k : Kept) (f : Frame) (a : Account) (code : ℕ) : Type 0 where
  pub told : violation (arrived f a).log ≡ Some code
  pub holds : Holds k (arrived f a)
