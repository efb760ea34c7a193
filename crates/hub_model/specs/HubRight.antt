-- When a hub does right by each of its exchanges, at every moment and in the end.
use Rattle.std.specs.Prelude.{ℕ, ◌≡◌, Bool, true, false, ◌&&◌, List, [], ◌∷◌, ◌++◌, Option, Some, None, if◌then◌else◌, ◌==◌, filter_map}
use Rattle.std.specs.List.{list_any}
use Rattle.hpack_core.specs.Writing.{BlockWritten}
use Rattle.h2_frames.specs.declared.frame.Frame.{Frame}
use Rattle.h2_frames.specs.declared.frame.Frame.TheVariants as frame
use Rattle.http_model.specs.Bytes.{IsPrefix}
use Rattle.grpc_call.specs.Written.{call_fields}
use Rattle.filter_model.specs.View.{ViewEntry}
use Rattle.filter_model.specs.Step.{after}
use Rattle.filter_model.specs.Right.{AllArrived, GivenRight, GivenWhole}
use Rattle.filter_model.specs.declared.calls.Side.{Side}
use Rattle.filter_model.specs.declared.calls.Side.TheVariants.{Client, Upstream}
use Rattle.filter_model.specs.declared.calls.Taken.TheVariants.{Piece, Gone}
use Rattle.hub_model.specs.HubCalls.{HubCall, HubConfig, Opened, NotOpened, Ticked, Took, Gave, place, side_of, port_of}
use Rattle.hub_model.specs.World.{Line, World, account_of, line}
use Rattle.hub_model.specs.Meeting.{cancel, end_due}
use Rattle.hub_model.specs.Sending.{asks_of, frames_handed, joined_data}
use Rattle.hub_model.specs.Happens.{world}

-- Right: what each side got is the first of what may go to it
pub record RightGiven (c : HubConfig) (l : Line) : Type 0 where
  pub upstream : GivenRight c.filter (account_of c l) Upstream
  pub client : GivenRight c.filter (account_of c l) Client

-- What is handed to the session on the exchange's stream

-- the blocks of a stream among frames, newest first
abbrev pub block_on : ℕ → Frame → Option (List ℕ)
block_on id (frame.Headers n block last ends) = if n == id then Some block else None
block_on id _ = None

abbrev pub blocks_on : ℕ → List Frame → List (List ℕ)
blocks_on id frames = filter_map (block_on id) frames

-- the ends of a stream among frames, newest first: none for END_STREAM, the code for a reset
abbrev pub end_on : ℕ → Frame → Option (Option ℕ)
end_on id (frame.Data n bytes true size) = if n == id then Some None else None
end_on id (frame.Reset n code) = if n == id then Some (Some code) else None
end_on id _ = None

abbrev pub ends_on : ℕ → List Frame → List (Option ℕ)
ends_on id frames = filter_map (end_on id) frames

-- at most one head, and it is that of the call
abbrev pub IsOneHead : HubConfig → List (List ℕ) → Type 0
IsOneHead c [] = Unit {0}
IsOneHead c (block ∷ []) = (known limit : ℕ) × BlockWritten known limit (call_fields c.authority) block
IsOneHead c _ = ⊥

-- At some moment this end of the stream was due: by what the exchange's view was then, and by its newest entry.
pub record EndDue (c : HubConfig) (l : Line) (finish : Bool) : Type 0 where
  pub later : List ViewEntry
  pub entry : ViewEntry
  pub earlier : List ViewEntry
  pub view : l.view ≡ later ++ entry ∷ earlier
  pub due : end_due entry (after c.filter (entry ∷ earlier)) ≡ Some finish

-- At most one end, and the one that was due; behind END_STREAM at most one reset, of a stream that is kept no longer.
abbrev pub AreEnds : HubConfig → Line → List (Option ℕ) → Type 0
AreEnds c l [] = Unit {0}
AreEnds c l (None ∷ []) = EndDue c l true
AreEnds c l (Some code ∷ []) = (code ≡ cancel) × EndDue c l false
AreEnds c l (Some code ∷ None ∷ []) = (code ≡ cancel) × EndDue c l true
AreEnds c l _ = ⊥

pub record StreamRight (c : HubConfig) (l : Line) (id : ℕ) (frames : List Frame) : Type 0 where
  pub head : IsOneHead c (blocks_on id frames)
  pub asks : IsPrefix (joined_data id frames) (asks_of c l)
  pub ends : AreEnds c l (ends_on id frames)

-- each stream is of one exchange, and carries what is due of it
pub record StreamsRight (c : HubConfig) (w : World) : Type 0 where
  pub apart : (j k id : ℕ) → (line j w).stream ≡ Some id → (line k w).stream ≡ Some id → j ≡ k
  pub right : (k id : ℕ) → (line k w).stream ≡ Some id → StreamRight c (line k w) id (frames_handed w.session.log)

-- Quiet

abbrev pub is_same_side : Side → Side → Bool
is_same_side Client Client = true
is_same_side Upstream Upstream = true
is_same_side _ _ = false

abbrev pub is_near : ℕ → Option (Side × ℕ) → Bool
is_near k (Some p) = p.1 == k
is_near k None = true

-- whether a call ends the quiet of the exchange at a place
abbrev pub noise_at : ℕ → HubCall → Option (Side × ℕ) → Bool
noise_at k (Opened x) p = false
noise_at k (NotOpened fault) p = false
noise_at k (Ticked now) p = true
noise_at k (Gave xs (Piece bytes)) p = true
noise_at k (Gave xs t) p = false
noise_at k (Took port (Piece bytes)) p = is_near k p
noise_at k (Took port t) p = false
noise_at k x p = is_near k p

abbrev pub is_noise : ℕ → HubCall → Bool
is_noise k x = noise_at k x (side_of (port_of x))

abbrev pub is_side : Side → ℕ → Option (Side × ℕ) → Bool
is_side s k (Some p) = is_same_side s p.0 && (p.1 == k)
is_side s k None = false

abbrev pub take_at : Side → ℕ → HubCall → Option (Side × ℕ) → Bool
take_at s k (Took port Gone) p = false
take_at s k (Took port t) p = is_side s k p
take_at s k _ p = false

abbrev pub is_take : Side → ℕ → HubCall → Bool
is_take s k x = take_at s k x (side_of (port_of x))

abbrev pub is_take_of_processor : HubCall → Bool
is_take_of_processor (Gave xs t) = true
is_take_of_processor _ = false

-- the calls before the first that is noise
abbrev pub while_quiet : ℕ → List HubCall → List HubCall
while_quiet k [] = []
while_quiet k (x ∷ h) = if is_noise k x then [] else x ∷ while_quiet k h

-- The last call on each of the three ports of the exchange gave no piece, and no other call on these and no tick came since.
abbrev pub is_quiet_at : ℕ → List HubCall → Bool
is_quiet_at k h =
    let last : List HubCall = while_quiet k h in
    list_any (is_take Client k) last && list_any (is_take Upstream k) last && list_any is_take_of_processor last

abbrev pub is_quiet_for : ℕ → List HubCall → Bool
is_quiet_for x h = is_quiet_at (place x) h

-- both messages were given whole, once all has arrived and nothing waits
abbrev pub WholeOf : HubConfig → ℕ → List HubCall → Type 0
WholeOf c x h =
    let l : Line = line (place x) (world c h) in
    is_quiet_for x h ≡ true → AllArrived (account_of c l) → GivenWhole c.filter (account_of c l)
