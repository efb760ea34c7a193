-- What a session keeps, as contracts see it.
use Rattle.std.specs.Prelude.{ℕ, ◌≡◌, ◌≤◌, ◌*◌, ◌&&◌, Bool, true, List, [], Option, None, if◌then◌else◌, nat_le}
use Rattle.ext_msgs.specs.declared.lists.Field.{Field}
use Rattle.hpack_core.specs.declared.fault.HpackFault.{HpackFault}
use Rattle.h2_model.specs.State.{State}
use Rattle.h2_laws_log.specs.Calling.{starting}
use Rattle.h2_model.specs.Numbers.{Numbers, has}

pub record Kept : Type 0 where
  pub client : Bool
  pub streams : ℕ  -- how many streams a client may keep
  pub greeted : ℕ  -- how many bytes of the preface a server has
  pub reader : List ℕ  -- the bytes of the frame that isn't whole yet
  pub state : State
  pub numbers : Numbers
  pub headless : ℕ  -- the first stream of a client whose head wasn't handed over
  pub fault : Option HpackFault  -- of the decoder
  pub entries : List Field  -- of the encoder's table
  pub room : ℕ  -- how many more frames can wait, be held, and how many more streams can be live, without taking memory
  pub held_room : ℕ
  pub table_room : ℕ

-- the head of a client's stream wasn't handed over
abbrev pub lacks_head : ℕ → Kept → Bool
lacks_head id k = k.client && nat_le k.headless id && has id k.numbers

-- what a call leaves that isn't in the state
pub record IsSame (k l : Kept) : Type 0 where
  pub client : l.client ≡ k.client
  pub streams : l.streams ≡ k.streams
  pub greeted : l.greeted ≡ k.greeted
  pub reader : l.reader ≡ k.reader
  pub numbers : l.numbers ≡ k.numbers
  pub headless : l.headless ≡ k.headless
  pub fault : l.fault ≡ k.fault
  pub entries : l.entries ≡ k.entries

-- what neither a head nor an opening changes, beside the state, the numbers and the first stream without a head
pub record IsBeside (k l : Kept) : Type 0 where
  pub client : l.client ≡ k.client
  pub streams : l.streams ≡ k.streams
  pub greeted : l.greeted ≡ k.greeted
  pub reader : l.reader ≡ k.reader
  pub fault : l.fault ≡ k.fault
  pub entries : l.entries ≡ k.entries

-- what is kept at first; a client has room for two closing frames of each stream that it may keep
pub record IsNew (client : Bool) (k : Kept) : Type 0 where
  pub role : k.client ≡ client
  pub state : k.state ≡ starting client
  pub greeted : k.greeted ≡ (if client then 24 else 0)
  pub reader : k.reader ≡ []
  pub numbers : k.numbers ≡ record { next = 1; gaps = [] }
  pub headless : k.headless ≡ 1
  pub fault : k.fault ≡ None
  pub entries : k.entries ≡ []
  pub room : client ≡ true → 2 * k.streams ≤ k.room
  pub held_room : client ≡ true → 2 * k.streams ≤ k.held_room
  pub table_room : client ≡ true → k.streams ≤ k.table_room
