-- Configurations, calls and frames, for the examples.
use Rattle.std.specs.Prelude.{ℕ, Bool, true, false, List, [], ◌∷◌, ◌++◌, length, Option, Some, None, codes, map, reverse}
use Rattle.std.specs.Fmt.{digits}
use Rattle.ext_msgs.specs.declared.modes.BodyMode.TheVariants.{NoAsk}
use Rattle.ext_msgs.specs.MessageFault.{first_fault}
use Rattle.pb_wire.specs.Reading as reading
use Rattle.pb_wire.specs.Walk as walk
use Rattle.pb_wire.specs.Cursor as cursor
use Rattle.pb_wire.specs.Canonical as canonical
use Rattle.hpack_prim.specs.Integers.{groups_at, int_at}
use Rattle.grpc_call.specs.Blocks as blocks
use Rattle.grpc_call.specs.Framed as framed
use Rattle.header_mutation.specs.Mutated.{mutation_rules}
use Rattle.http_model.specs.Reads.{read_rules}
use Rattle.http_model.specs.Wire.{write_rules}
use Rattle.h2_model.specs.Queue.{flow}
use Rattle.filter_model.specs.Step.{rules}
use Rattle.http_model.specs.declared.types.Direction.TheVariants.{Request}
use Rattle.filter_model.specs.Account.{Fate, Live, Left, Replied, Aborted}
use Rattle.filter_model.specs.View.{ViewEntry, Bytes, End, Lost, Answered, TooLong, Closed, NoStream, Tick, Starved, Sent, Given}
use Rattle.filter_model.specs.declared.calls.Taken.TheVariants.{Piece}
use Rattle.filter_examples.specs.Setting.{config, allowing, small, wire}
use Rattle.h2_model_examples.specs.Setting as session
use Rattle.hub_model.specs.HubCalls.{HubCall, HubConfig, Handing, HandsHead, HandsData, Opened, Fed, Gave, place}
use Rattle.hub_model.specs.World.{account_of, line}
use Rattle.hub_model.specs.Sending.{asks_of, handed_over}
use Rattle.hub_model.specs.Happens.{view, world, world_rules}
use Rattle.hub_model.specs.declared.ports.PortName.TheVariants as port

-- a proof that computes with all these definitions names this one
unfoldable pub hub_rules : Unit {0}
unfolding digits first_fault reading.groups_at reading.tag_of reading.content_at reading.entry_at cursor.next_at walk.placed_within walk.fault_within walk.placed walk.wire_fault walk.entries canonical.groups canonical.shortest canonical.number_record canonical.bytes_record canonical.content_record canonical.spelling groups_at int_at blocks.number_in blocks.block_of framed.first framed.framed mutation_rules read_rules write_rules rules session.rules world_rules
hub_rules = tt

-- the request headers are asked; heads come in one piece
abbrev pub hub : HubConfig
hub = record {
  filter = record (config NoAsk) { course = record small { piece = 100 } };
  authority = codes "p";
  max_exchanges = 64;
  max_ended = 64;
  max_unsent = 256;
}

abbrev pub allowing_hub : HubConfig
allowing_hub = record hub { filter = allowing hub.filter }

-- Calls

abbrev pub get : List ℕ
get = codes "GET / HTTP/1.1\r\nHost: a\r\n\r\n"

abbrev pub client_sends : ℕ → HubCall
client_sends x = Fed (port.Client x) get (length get)

abbrev pub processor_sends : List ℕ → HubCall
processor_sends bytes = Fed port.Processor bytes (length bytes)

-- a head, whose block doesn't matter here, and all asks of exchange x, on a stream
abbrev pub on_stream : HubConfig → List HubCall → ℕ → ℕ → List Handing
on_stream c h x id = HandsHead id [] ∷ HandsData id (asks_of c (line (place x) (world c h))) ∷ []

-- all of it is handed over, and all bytes that wait are given
abbrev pub gives_all : HubConfig → List Handing → List HubCall → HubCall
gives_all c xs h = Gave xs (Piece (flow (handed_over c xs (world c h).session).waiting))

-- Frames of the processor

abbrev pub frame : ℕ → ℕ → ℕ → List ℕ → List ℕ
frame kind flags id payload = 0 ∷ 0 ∷ length payload ∷ kind ∷ flags ∷ 0 ∷ 0 ∷ 0 ∷ id ∷ payload

abbrev pub settings : List ℕ → List ℕ
settings payload = frame 4 0 0 payload

-- :status 200
abbrev pub head : ℕ → List ℕ
head id = frame 1 4 id (136 ∷ [])

-- one message with the answer that leaves the request headers as they are
abbrev pub answer : ℕ → List ℕ
answer id = frame 0 0 id (0 ∷ 0 ∷ 0 ∷ 0 ∷ 2 ∷ 10 ∷ 0 ∷ [])

-- What is compared

-- an entry by its kind
abbrev pub kind : ViewEntry → ℕ
kind (Bytes s bytes) = 0
kind (End s) = 1
kind (Lost s how) = 2
kind (Answered x) = 3
kind TooLong = 4
kind (Closed true) = 5
kind (Closed false) = 6
kind NoStream = 7
kind (Tick n) = 8
kind Starved = 9
kind Sent = 10
kind (Given s bytes) = 11

-- the kinds of an exchange's entries, oldest first
abbrev pub kinds : HubConfig → ℕ → List HubCall → List ℕ
kinds c x h = reverse (map kind (view c x h))

-- what may go up by now of an exchange
abbrev pub goes_up : HubConfig → ℕ → List HubCall → List ℕ
goes_up c x h = wire c.filter Request (account_of c (line (place x) (world c h)))

-- how an exchange stands: it lives, its client left, it was replied to, it was aborted
abbrev pub fate_kind : Fate → ℕ
fate_kind Live = 0
fate_kind Left = 1
fate_kind (Replied bytes) = 2
fate_kind Aborted = 3

abbrev pub fate : HubConfig → ℕ → List HubCall → ℕ
fate c x h = fate_kind (account_of c (line (place x) (world c h))).fate
