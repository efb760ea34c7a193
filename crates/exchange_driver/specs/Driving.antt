-- An exchange whose next call may come.
use Rattle.std.specs.Prelude.{ℕ, ◌≡◌, Bool, false, List}
use Rattle.filter_model.specs.Config.{FilterConfig}
use Rattle.filter_model.specs.Right.{Call, IsReady}
use Rattle.exchange.specs.Stands.{IsAfter}
use Rattle.exchange.specs.declared.exchange.Exchange.{Exchange}

-- it stands for a history, whose last call didn't run out of memory unless it is spent
pub record Driving (x : Exchange) (limit : ℕ) (spent : Bool) : Type 0 where
  pub config : FilterConfig
  pub history : List Call
  pub stands : IsAfter config history x
  pub limits : config.course.answer_limit ≡ limit
  pub ready : spent ≡ false → IsReady history
