-- An exchange behind one call more.
use Rattle.std.specs.Prelude.{ℕ, Bool, true, ◌∷◌}
use Rattle.filter_model.specs.Right.{Call, Failed, IsReady}
use Rattle.exchange.specs.Stands.{IsAfter}
use Rattle.exchange.specs.declared.exchange.Exchange.{Exchange}
use Rattle.exchange_driver.specs.Driving.{Driving}

pub goes_on : (x y : Exchange) (limit : ℕ) (spent : Bool) (d : Driving x limit spent) (call : Call) → IsAfter d.config (call ∷ d.history) y → IsReady (call ∷ d.history)
    → Driving y limit spent
goes_on x y limit spent d call a r = record { config = d.config; history = call ∷ d.history; stands = a; limits = d.limits; ready = λ e. r }

-- it ran out of memory
pub gives_up : (x y : Exchange) (limit : ℕ) (spent : Bool) (d : Driving x limit spent) → IsAfter d.config (Failed ∷ d.history) y → Driving y limit true
gives_up x y limit spent d a = record { config = d.config; history = Failed ∷ d.history; stands = a; limits = d.limits; ready = λ e. absurd cc }
