-- The world after the calls of a hub: one fold over its history. The view of an exchange is a part of it.
use Rattle.std.specs.Prelude.{ℕ, suc, true, false, List, [], ◌∷◌, ◌++◌, take, map, Option, Some, None}
use Rattle.filter_model.specs.View.{ViewEntry, Bytes, End, Lost, Tick, Starved, Given}
use Rattle.filter_model.specs.declared.calls.Side.{Side}
use Rattle.filter_model.specs.declared.calls.Side.TheVariants.{Client, Upstream}
use Rattle.filter_model.specs.declared.calls.Taken.{Taken}
use Rattle.filter_model.specs.declared.calls.Taken.TheVariants.{Piece, Nothing, Done, Abort, Gone}
use Rattle.hub_model.specs.HubCalls.{HubCall, HubConfig, Opened, NotOpened, Fed, Ended, PortLost, Ticked, Took, Gave, Failed, place, side_of, port_of}
use Rattle.hub_model.specs.World.{Line, World, start, line, put}
use Rattle.hub_model.specs.Meeting.{each, meet, with_stream, with_end, can_begin}
use Rattle.hub_model.specs.Hearing.{came_all, broke, hear}
use Rattle.hub_model.specs.Sending.{gave}

-- An exchange's port

-- a port that answered its last, or was lost
abbrev pub closed_for : Side → Line → Line
closed_for Client l = record l { client = true }
closed_for Upstream l = record l { upstream = true }

abbrev pub close : Side → ℕ → World → World
close s k w = put k (closed_for s (line k w)) w

abbrev pub took : HubConfig → Side → ℕ → Taken → World → World
took c s k (Piece bytes) w = meet c k (Given s bytes) w
took c s k Nothing w = w
took c s k Done w = close s k w
took c s k Abort w = close s k w
took c s k Gone w = w

-- All calls

-- a new exchange has met all ticks
abbrev pub new_line : World → Line
new_line w = record { view = map Tick w.ticks; stream = None; heard = []; client = false; upstream = false }

abbrev pub opened : World → World
opened w = record w { lines = w.lines ++ new_line w ∷ [] }

abbrev pub ticked : HubConfig → ℕ → World → World
ticked c now w = each (λ k. meet c k (Tick now)) (record w { ticks = now ∷ w.ticks })

-- on a side of an exchange, or else
abbrev pub happens_at : HubConfig → HubCall → Option (Side × ℕ) → World → World
happens_at c (Opened x) p w = opened w
happens_at c (NotOpened fault) p w = w
happens_at c (Ticked now) p w = ticked c now w
happens_at c (Gave xs t) p w = gave c xs t w
happens_at c (Fed port bytes n) (Some p) w = meet c p.1 (Bytes p.0 (take n bytes)) w
happens_at c (Ended port) (Some p) w = meet c p.1 (End p.0) w
happens_at c (PortLost port how) (Some p) w = close p.0 p.1 (meet c p.1 (Lost p.0 how) w)
happens_at c (Took port t) (Some p) w = took c p.0 p.1 t w
happens_at c (Failed port) (Some p) w = meet c p.1 Starved w
happens_at c (Fed port bytes n) None w = came_all c (take n bytes) w
happens_at c (Ended port) None w = broke c w
happens_at c (PortLost port how) None w = broke c w
happens_at c (Took port t) None w = w
happens_at c (Failed port) None w = broke c w

abbrev pub counted : World → World
counted w = record w { calls = suc w.calls }

unfoldable pub happens : HubConfig → HubCall → World → World
happens c x w = counted (happens_at c x (side_of (port_of x)) w)

-- newest call first
unfoldable pub world : HubConfig → List HubCall → World
world c [] = start
world c (x ∷ h) = happens c x (world c h)

-- the view of an exchange, newest entry first
abbrev pub view : HubConfig → ℕ → List HubCall → List ViewEntry
view c x h = (line (place x) (world c h)).view

-- An `unfolding` line that names this opens the world, so that examples compute.
unfoldable pub world_rules : Unit {0}
unfolding start can_begin with_stream with_end meet hear came_all broke gave happens world
world_rules = tt
