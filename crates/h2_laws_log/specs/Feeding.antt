-- What bytes do to a session's account, piece by piece, as code reads them.
use Rattle.std.specs.Prelude.{ℕ, ◌<◌, ◌≤◌, ◌≡◌, Bool, true, false, List, [], length, take}
use Rattle.h2_frames.specs.Frames.{first, Unfinished}
use Rattle.h2_model.specs.Account.{Account}
use Rattle.h2_model.specs.History.{Call, Feed, preface, violated, with_bytes, is_violated}
use Rattle.h2_model.specs.Calls.{used, used_bytes}

-- a session that reads frames: the preface came, no violation, and nothing is to be answered first
pub record ReadsFrames (a : Account) : Type 0 where
  pub greeted : a.greeted ≡ true
  pub sound : is_violated a ≡ false
  pub quiet : a.unreported ≡ []

-- a server that got the first k bytes of the preface, and not all of them
pub record ReadsPreface (k : ℕ) (a : Account) : Type 0 where
  pub greeted : a.greeted ≡ false
  pub sound : is_violated a ≡ false
  pub quiet : a.unreported ≡ []
  pub rest : a.rest ≡ take k preface
  pub short : k < 24

-- of every account: no frame is whole in the bytes that are kept, and before the preface they are its first ones
pub record KeepsPart (a : Account) : Type 0 where
  pub frame : a.greeted ≡ true → first a.rest ≡ Unfinished
  pub preface : a.greeted ≡ false → a.rest ≡ take (length a.rest) preface
  pub short : a.greeted ≡ false → length a.rest < 24

-- what came in and isn't used up stays the same
pub record KeepsInput (a b : Account) : Type 0 where
  pub greeted : b.greeted ≡ a.greeted
  pub rest : b.rest ≡ a.rest

abbrev pub is_feed : Call → Bool
is_feed (Feed bytes) = true
is_feed _ = false

-- the frame of which bytes go on is faulty: the fault stands at the `count`-th of them, and what is kept doesn't count
pub record FailsWithin (code : ℕ) (bytes : List ℕ) (a : Account) : Type 0 where
  pub count : ℕ
  pub some : 0 < count
  pub within : count ≤ length bytes
  pub uses : used bytes a ≡ count
  pub front : used (take count bytes) a ≡ count
  pub rest : List ℕ
  pub after : with_bytes (take count bytes) a ≡ violated code (record a { rest = rest })

-- the first n of the bytes are used, and lead from the account a to b
pub record HasRead (a : Account) (bytes : List ℕ) (n : ℕ) (b : Account) : Type 0 where
  pub within : n ≤ length bytes
  pub uses : used (take n bytes) a ≡ n
  pub after : with_bytes (take n bytes) a ≡ b

-- n of the bytes are used and no more, and lead from a to b
pub record EndsAt (a : Account) (bytes : List ℕ) (n : ℕ) (b : Account) : Type 0 where
  pub uses : used bytes a ≡ n
  pub front : used_bytes bytes a ≡ take n bytes
  pub after : with_bytes (used_bytes bytes a) a ≡ b

-- the frame that b began is faulty, and the session a ends there
pub record EndsAtFault (a : Account) (bytes : List ℕ) (code : ℕ) (b : Account) : Type 0 where
  pub count : ℕ
  pub rest : List ℕ
  pub ends : EndsAt a bytes count (violated code (record b { rest = rest }))
