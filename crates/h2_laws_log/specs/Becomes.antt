-- What a call leaves of a session.
use Rattle.std.specs.Prelude.{ℕ, ◌≡◌, Bool, List}
use Rattle.h2_model.specs.Streams.{opened}
use Rattle.h2_model.specs.Account.{Account, is_headless}
use Rattle.h2_model.specs.State.{State, seen}
use Rattle.h2_model.specs.Valid.{Valid}
use Rattle.h2_laws_log.specs.Sound.{CallsSound}

-- the account b is what was promised: what it keeps, its streams, and which of them lack a head
pub record Becomes (b : Account) (ids : List ℕ) (lacks : ℕ → Bool) (s : State) : Type 0 where
  pub state : seen b ≡ s
  pub valid : Valid b
  pub sound : CallsSound b
  pub numbers : opened b.log ≡ ids
  pub headless : (k : ℕ) → is_headless b k ≡ lacks k
