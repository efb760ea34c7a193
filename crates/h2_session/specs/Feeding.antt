-- What reading bytes leaves of a session.
use Rattle.std.specs.Prelude.{ℕ, ◌≡◌, ◌⊎◌, List, [], length, true, None}
use Rattle.h2_model.specs.declared.answers.Fed.{Fed}
use Rattle.h2_model.specs.declared.answers.SessionFault.TheVariants.{Code}
use Rattle.h2_model.specs.Log.{violation}
use Rattle.h2_model.specs.Account.{Account}
use Rattle.h2_model.specs.History.{Feed, called}
use Rattle.h2_model.specs.Calls.{IsFault, IsFed, used_bytes}
use Rattle.h2_laws_log.specs.Feeding.{HasRead, KeepsPart}
use Rattle.h2_laws_kept.specs.Kept.{Kept}
use Rattle.h2_laws_kept.specs.StandsFor.{Holds}

-- the role and how many streams a client keeps are chosen for good
pub record KeepsRole (k l : Kept) : Type 0 where
  pub client : l.client ≡ k.client
  pub streams : l.streams ≡ k.streams

-- n of the bytes led from the account a to b, which the session holds, and goes on from
pub record Runs (k : Kept) (a b : Account) (bytes : List ℕ) (n : ℕ) : Type 0 where
  pub part : KeepsPart a
  pub read : HasRead a bytes n b
  pub holds : Holds k b
  pub quiet : b.unreported ≡ []
  pub sound : violation b.log ≡ None

pub record Reaches (k : Kept) (a : Account) (bytes : List ℕ) (n : ℕ) : Type 0 where
  pub reached : Account
  pub runs : Runs k a reached bytes n

-- and the preface is whole, or no byte is left
pub record Greets (k : Kept) (a : Account) (bytes : List ℕ) (n : ℕ) : Type 0 where
  pub reached : Account
  pub runs : Runs k a reached bytes n
  pub greeted : (reached.greeted ≡ true) ⊎ (n ≡ length bytes)

-- what is answered, and what the session holds then
pub record Told (k : Kept) (a : Account) (bytes : List ℕ) (f : Fed) : Type 0 where
  pub fed : IsFed a bytes f
  pub holds : Holds k (called (Feed (used_bytes bytes a)) a)

pub record RefusesBytes (k : Kept) (a : Account) (bytes : List ℕ) (code : ℕ) : Type 0 where
  pub fault : IsFault a bytes (Code code)
  pub holds : Holds k (called (Feed (used_bytes bytes a)) a)
