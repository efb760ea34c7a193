-- The calls of a hub with their answers.
use Rattle.std.specs.Prelude.{ℕ, suc, zero, List, Option, Some, None}
use Rattle.filter_model.specs.Config.{FilterConfig}
use Rattle.filter_model.specs.declared.calls.Side.{Side}
use Rattle.filter_model.specs.declared.calls.Side.TheVariants.{Client, Upstream}
use Rattle.filter_model.specs.declared.calls.Loss.{Loss}
use Rattle.filter_model.specs.declared.calls.Taken.{Taken}
use Rattle.hub_model.specs.declared.ports.PortName.{PortName}
use Rattle.hub_model.specs.declared.ports.PortName.TheVariants as port
use Rattle.hub_model.specs.declared.ports.OpenFault.{OpenFault}

pub record HubConfig : Type 0 where
  pub filter : FilterConfig  -- of each exchange
  pub authority : List ℕ  -- the `:authority` of the processor's streams
  pub max_exchanges : ℕ  -- how many are live at a time
  pub max_ended : ℕ  -- how many streams that ended here are kept until the processor ends them; the product has 64
  pub max_unsent : ℕ  -- with so many streams that are over but whose head, end or reset waits, none is opened; the product has 256

-- What is handed to the session before bytes are taken from it, each on a stream: the block of the head, or bytes of asks
pub data Handing : Type 0 where
  HandsHead : ℕ → List ℕ → Handing
  HandsData : ℕ → List ℕ → Handing

pub data HubCall : Type 0 where
  Opened : ℕ → HubCall  -- a new exchange, by its number
  NotOpened : OpenFault → HubCall
  Fed : PortName → List ℕ → ℕ → HubCall  -- the bytes that came, and how many of them were taken
  Ended : PortName → HubCall
  PortLost : PortName → Loss → HubCall
  Ticked : ℕ → HubCall  -- in milliseconds
  Took : PortName → Taken → HubCall  -- on an exchange's port
  Gave : List Handing → Taken → HubCall  -- `take` on the processor's port
  Failed : PortName → HubCall  -- a call on this port that answered want of memory

-- Exchange k stands at place k - 1. The number 0 stands nowhere: no more than 2^32 - 1 exchanges are ever opened.
abbrev pub place : ℕ → ℕ
place zero = 4294967296
place (suc k) = k

-- a side of an exchange, by its place; the processor's port has neither
abbrev pub side_of : PortName → Option (Side × ℕ)
side_of (port.Client x) = Some (Client, place x)
side_of (port.Upstream x) = Some (Upstream, place x)
side_of port.Processor = None

abbrev pub port_of : HubCall → PortName
port_of (Fed p bytes n) = p
port_of (Ended p) = p
port_of (PortLost p how) = p
port_of (Took p t) = p
port_of (Failed p) = p
port_of _ = port.Processor
