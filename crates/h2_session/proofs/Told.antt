-- What is told, kind by kind.
use Rattle.std.proofs.Common.{◌≡◌, ℕ, Bool, List, refl}
use Rattle.ext_msgs.specs.declared.lists.Field.{Field}
use Rattle.h2_model.specs.declared.answers.Event.{Event}
use Rattle.h2_model.specs.declared.answers.Event.TheVariants as event
use Rattle.h2_model.specs.State.{State}
use Rattle.h2_model.specs.Moves.{adjusted, reported, resetting, with_head}

pub told-head : (e : Event) (id : ℕ) (fields : List Field) (last : Bool) (s : State) → e ≡ event.Head id fields last
    → reported e s ≡ record s { streams = adjusted id (with_head fields) s.streams }
unfolding reported
told-head e id fields last s h = rw h refl

pub told-reset : (e : Event) (id code : ℕ) (s : State) → e ≡ event.Reset id code → reported e s ≡ resetting id s
unfolding reported
told-reset e id code s h = rw h refl

pub told-other : (e : Event) (s : State) → ((id : ℕ) (fields : List Field) (last : Bool) → e ≡ event.Head id fields last → ⊥)
    → ((id code : ℕ) → e ≡ event.Reset id code → ⊥) → s ≡ reported e s
unfolding reported
told-other (event.Head id fields last) s h r = absurd (h id fields last refl)
told-other (event.Reset id code) s h r = absurd (r id code refl)
told-other e s h r = refl
