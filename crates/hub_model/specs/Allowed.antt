-- What each call of a hub may answer.
use Rattle.std.specs.Prelude.{ℕ, suc, zero, ◌+◌, ◌≡◌, ◌<◌, ◌≤◌, min, Bool, true, false, ◌&&◌, ◌||◌, not, List, [], ◌∷◌, ◌++◌, length, drop, Option, Some, None, if◌then◌else◌, nat_le}
use Rattle.hpack_core.specs.Writing.{BlockWritten}
use Rattle.h2_model.specs.Account.{Account}
use Rattle.h2_model.specs.Calls.{control, is_open_here, next_head, sendable}
use Rattle.h2_model.specs.History.{called, is_violated}
use Rattle.h2_model.specs.Queue.{flow}
use Rattle.h2_model.specs.Settings.{known_limit, table_limit}
use Rattle.grpc_call.specs.Written.{call_fields}
use Rattle.http_model.specs.Bytes.{IsPrefix}
use Rattle.filter_model.specs.Right.{MayTake}
use Rattle.filter_model.specs.Step.{is_over_for, room}
use Rattle.filter_model.specs.declared.calls.Side.{Side}
use Rattle.filter_model.specs.declared.calls.Taken.{Taken}
use Rattle.filter_model.specs.declared.calls.Taken.TheVariants.{Piece, Nothing, Done, Abort, Gone}
use Rattle.hub_model.specs.declared.ports.PortName.{PortName}
use Rattle.hub_model.specs.declared.ports.OpenFault.{OpenFault}
use Rattle.hub_model.specs.declared.ports.OpenFault.TheVariants as fault
use Rattle.hub_model.specs.HubCalls.{HubCall, HubConfig, Handing, HandsHead, HandsData, Opened, NotOpened, Fed, Ended, PortLost, Ticked, Took, Gave, Failed, side_of, port_of}
use Rattle.hub_model.specs.World.{World, account_of, is_live_at, is_over, line}
use Rattle.hub_model.specs.Sending.{all_handed, asks_of, handed_over, session_call}
use Rattle.hub_model.specs.Happens.{world}

-- `open`

-- how many exchanges at the first n places are live
abbrev pub live_among : ℕ → World → ℕ
live_among zero w = 0
live_among (suc n) w = live_among n w + (if is_live_at n w then 1 else 0)

abbrev pub live_count : World → ℕ
live_count w = live_among (length w.lines) w

abbrev pub is_spent : World → Bool
is_spent w = nat_le 4294967295 (length w.lines)

abbrev pub is_full : HubConfig → World → Bool
is_full c w = nat_le c.max_exchanges (live_count w)

abbrev pub MayRefuse : HubConfig → World → OpenFault → Type 0
MayRefuse c w fault.Spent = is_spent w ≡ true
MayRefuse c w fault.Full = (is_spent w ≡ false) × (is_full c w ≡ true)
MayRefuse c w fault.Memory = Unit {0}

-- `room` and `over`

abbrev pub room_at : HubConfig → Side → ℕ → World → ℕ
room_at c s k w = if is_live_at k w then room c.filter (account_of c (line k w)) s else 0

-- one read, and none where 65,536 bytes of control frames wait
abbrev pub processor_room : World → ℕ
processor_room w = if is_over w || nat_le 65536 (control w.session) then 0 else 16384

abbrev pub room_on : HubConfig → Option (Side × ℕ) → World → ℕ
room_on c (Some p) w = room_at c p.0 p.1 w
room_on c None w = processor_room w

abbrev pub room_of : HubConfig → PortName → World → ℕ
room_of c p w = room_on c (side_of p) w

abbrev pub over_on : HubConfig → Option (Side × ℕ) → World → Bool
over_on c (Some p) w = not (is_live_at p.1 w) || is_over_for (account_of c (line p.1 w)) p.0
over_on c None w = is_over w

-- nothing comes on a port any more
abbrev pub over_of : HubConfig → PortName → World → Bool
over_of c p w = over_on c (side_of p) w

-- `take` on an exchange's port

abbrev pub MayTakeIf : HubConfig → Side → ℕ → Taken → World → Bool → Type 0
MayTakeIf c s k t w true = MayTake c.filter (account_of c (line k w)) s t
MayTakeIf c s k t w false = t ≡ Gone

abbrev pub MayTakeAt : HubConfig → Side → ℕ → Taken → World → Type 0
MayTakeAt c s k t w = MayTakeIf c s k t w (is_live_at k w)

-- `take` on the processor's port

-- bytes of the asks of an exchange go on its stream, as many as both windows and one frame allow
pub record MayHandData (c : HubConfig) (w : World) (id : ℕ) (bytes : List ℕ) (a : Account) : Type 0 where
  pub place : ℕ
  pub own : (line place w).stream ≡ Some id
  pub here : is_open_here id a ≡ true
  pub some : 0 < length bytes
  pub fits : length bytes ≤ sendable id (length bytes) a
  pub first : IsPrefix (all_handed id a.log ++ bytes) (asks_of c (line place w))

-- one head for each stream, in the order of their numbers
pub record MayHandHead (c : HubConfig) (w : World) (id : ℕ) (block : List ℕ) (a : Account) : Type 0 where
  pub place : ℕ
  pub own : (line place w).stream ≡ Some id
  pub next : next_head a ≡ Some id
  pub written : BlockWritten (known_limit a.log) (table_limit a.log) (call_fields c.authority) block

abbrev pub MayHand : HubConfig → World → Handing → Account → Type 0
MayHand c w (HandsHead id block) a = MayHandHead c w id block a
MayHand c w (HandsData id bytes) a = MayHandData c w id bytes a

abbrev pub MayHandAll : HubConfig → World → List Handing → Account → Type 0
MayHandAll c w [] a = Unit {0}
MayHandAll c w (x ∷ xs) a = MayHand c w x a × MayHandAll c w xs (called (session_call c x) a)

-- once the connection has ended nothing is handed over
abbrev pub MayHandIf : HubConfig → World → List Handing → Bool → Type 0
MayHandIf c w xs true = xs ≡ []
MayHandIf c w xs false = MayHandAll c w xs w.session

-- nothing more of a stream's asks may go
abbrev pub NothingToHand : HubConfig → World → Account → Type 0
NothingToHand c w a = (k id : ℕ) → (line k w).stream ≡ Some id → is_open_here id a ≡ true
    → sendable id (length (drop (length (all_handed id a.log)) (asks_of c (line k w)))) a ≡ 0

-- behind a connection error's GOAWAY nothing goes
abbrev pub is_aborted : World → Account → Bool
is_aborted w a = w.broken || (is_violated a && nat_le (length (flow a.waiting)) 0)

-- what is given, by what the session has once all was handed over
abbrev pub MaySend : HubConfig → World → Taken → Account → Type 0
MaySend c w (Piece bytes) a = (w.broken ≡ false) × (0 < length bytes) × IsPrefix bytes (flow a.waiting)
MaySend c w Nothing a =
    (is_aborted w a ≡ false) × (flow a.waiting ≡ []) × (next_head a ≡ None) × NothingToHand c w a
MaySend c w Done a = ⊥
MaySend c w Abort a = is_aborted w a ≡ true
MaySend c w Gone a = ⊥

-- All calls

abbrev pub MayAt : HubConfig → HubCall → Option (Side × ℕ) → World → Type 0
MayAt c (Opened x) p w = (is_spent w ≡ false) × (is_full c w ≡ false) × (x ≡ suc (length w.lines))
MayAt c (NotOpened fault) p w = MayRefuse c w fault
MayAt c (Ticked now) p w = Unit {0}
MayAt c (Gave xs t) p w = MayHandIf c w xs (is_over w) × MaySend c w t (handed_over c xs w.session)
MayAt c (Fed port bytes n) p w = n ≡ min (length bytes) (room_on c p w)
MayAt c (Ended port) p w = Unit {0}
MayAt c (PortLost port how) p w = Unit {0}
MayAt c (Took port t) (Some p) w = MayTakeAt c p.0 p.1 t w
MayAt c (Took port t) None w = ⊥
MayAt c (Failed port) (Some p) w = Unit {0}
-- Left out for now: a call on the processor's port that ran out of memory.
MayAt c (Failed port) None w = ⊥

abbrev pub MayCall : HubConfig → HubCall → World → Type 0
MayCall c x w = MayAt c x (side_of (port_of x)) w

-- every history in which each call answered as it may
abbrev pub IsHubHistory : HubConfig → List HubCall → Type 0
IsHubHistory c [] = Unit {0}
IsHubHistory c (x ∷ h) = IsHubHistory c h × MayCall c x (world c h)
