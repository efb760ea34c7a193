-- What a session stands for: the history of its calls.
use Rattle.std.specs.Prelude.{ℕ, ◌≡◌, ◌≤◌, ◌<◌, ◌&&◌, ◌==◌, ◌%◌, true, false, List, [], take, nat_le, None, All}
use Rattle.h2_model.specs.Log.{violation, stream_of}
use Rattle.h2_model.specs.Streams.{is_opened, has_head}
use Rattle.h2_model.specs.Blocks.{open_block}
use Rattle.h2_model.specs.Account.{Account, is_headless}
use Rattle.h2_model.specs.History.{Call, preface, next_number, frame_in}
use Rattle.h2_model.specs.Calls.{Role, IsHistory, now}
use Rattle.h2_model.specs.State.{seen}
use Rattle.h2_model.specs.Valid.{Valid}
use Rattle.h2_laws_log.specs.Steps.{is_block_opened}
use Rattle.h2_laws_log.specs.Sound as calls
use Rattle.h2_laws_log.specs.Feeding.{KeepsPart}
use Rattle.h2_laws_log.specs.Rooms.{Counted}
use Rattle.h2_model.specs.Known.{HasOpened}
use Rattle.h2_model.specs.Numbers.{Numbers}
use Rattle.h2_laws_kept.specs.Kept.{Kept}
use Rattle.h2_laws_kept.specs.Rooms.{IsRoomy}

-- frames are held for streams without a head alone, and only a stream that was opened has one
pub record KnowsHeads (a : Account) : Type 0 where
  pub held : All (λ e. is_headless a (stream_of (frame_in e)) ≡ true) a.held
  pub opened : (id : ℕ) → is_opened id a.log ≡ false → has_head id a.log ≡ false

-- what holds of every account that calls lead to
pub record IsSound (a : Account) : Type 0 where
  pub valid : Valid a
  pub calls : calls.CallsSound a
  pub block : is_block_opened a (open_block a.log) ≡ true
  pub counted : Counted a
  pub part : KeepsPart a
  pub heads : KnowsHeads a

-- what was passed over is below what can be opened
abbrev pub AreBelow : Numbers → Type 0
AreBelow n = All (λ gap. gap.last < n.next) n.gaps

-- the streams of a client are all odd numbers below the next, without a head from one of them on
pub record Lacks (k : Kept) (a : Account) : Type 0 where
  pub known : HasOpened k.numbers a
  pub gaps : AreBelow k.numbers
  pub headless : (id : ℕ) → is_headless a id ≡ (k.client && nat_le k.headless id && is_opened id a.log)
  pub odd : k.headless % 2 ≡ 1
  pub within : k.client ≡ true → k.headless ≤ k.numbers.next
  pub whole : k.client ≡ true → k.numbers.gaps ≡ []
  pub count : k.client ≡ true → k.numbers.next ≡ next_number a

-- the bytes of what isn't whole yet
pub record ReadsInput (k : Kept) (a : Account) : Type 0 where
  pub greeted : a.greeted ≡ (k.greeted == 24)
  pub within : k.greeted ≤ 24
  pub preface : a.greeted ≡ false → a.rest ≡ take k.greeted preface
  pub frame : a.greeted ≡ true → k.reader ≡ a.rest
  pub begun : a.greeted ≡ false → k.reader ≡ []

-- the parts hold what the account says; nothing is read after a violation
pub record Holds (k : Kept) (a : Account) : Type 0 where
  pub sound : IsSound a
  -- a block that can't be decoded leaves no table of use: it ends the session
  pub state : k.state ≡ record (seen a) { table = k.state.table }
  pub table : violation a.log ≡ None → k.state.table ≡ (seen a).table
  pub role : k.client ≡ a.client
  pub streams : Lacks k a
  pub reads : violation a.log ≡ None → ReadsInput k a
  pub decodes : violation a.log ≡ None → k.fault ≡ None
  pub encodes : k.entries ≡ []
  pub room : IsRoomy k

pub record StandsFor (r : Role) (k : Kept) (h : List Call) : Type 0 where
  pub history : IsHistory r h
  pub role : k.client ≡ r.client
  pub reserved : k.streams ≡ r.streams
  pub holds : Holds k (now r h)

-- it stands for some history of which this holds
abbrev pub Stands : Kept → (Role → List Call → Type 0) → Type 0
Stands k P = (r : Role) × (h : List Call) × StandsFor r k h × P r h
