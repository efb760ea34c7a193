-- The first fault of rows that are gone through one after another.
use Rattle.std.proofs.Common.{◌≡◌, Option, None, Result, Ok, Err, IsErrAnd, IfErr, refl}
use Rattle.ext_config.specs.declared.config.ConfigFault.{ConfigFault}
use Rattle.ext_config.specs.declared.config.ConfigFault.TheVariants as fault
use Rattle.ext_config.specs.Keys.{or_else}
use Rattle.ext_config.specs.Configured.{IsFault}

-- a fault that comes first is the first
pub fault_first : (there other : Option ConfigFault) (f : ConfigFault) → IsFault there f → IsFault (or_else there other) f
fault_first there other (fault.Unknown key) h = rw h refl
fault_first there other (fault.Kind key) h = rw h refl
fault_first there other (fault.Range key) h = rw h refl
fault_first there other fault.Json h = rw h refl
fault_first there other fault.Memory h = tt

-- a fault behind a row without one is the first
pub fault_later : (there other : Option ConfigFault) (f : ConfigFault) → there ≡ None → IsFault other f → IsFault (or_else there other) f
fault_later there other f none h = rw none h

-- rows without a fault have none together
pub none_later : (there other : Option ConfigFault) → there ≡ None → other ≡ None → or_else there other ≡ None
none_later there other none h = rw none h

-- `?` hands the fault on
pub handed_on : {T : Type 0} (r : Result T ConfigFault) (f : ConfigFault) (there : Option ConfigFault)
    → IsErrAnd r (λ g. g ≡ f) → IsFault there f → IfErr r (λ g. IsFault there g)
handed_on (Ok value) f there h k = tt
handed_on (Err g) f there h k = rw h k
