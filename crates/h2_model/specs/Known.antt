-- Which streams were opened, by what is kept of it.
use Rattle.std.specs.Prelude.{ℕ, ◌≡◌, ◌%◌, ◌&&◌, ◌==◌, nat_lt}
use Rattle.h2_model.specs.Streams.{greatest, is_opened, opened}
use Rattle.h2_model.specs.Account.{Account}
use Rattle.h2_model.specs.Numbers.{Numbers, has, may_have, last_of}

pub record HasOpened (n : Numbers) (a : Account) : Type 0 where
  pub known : (id : ℕ) → has id n ≡ is_opened id a.log
  pub above : (id : ℕ) → may_have id n ≡ ((id % 2 == 1) && nat_lt (greatest (opened a.log)) id)
  pub last : last_of n ≡ greatest (opened a.log)
