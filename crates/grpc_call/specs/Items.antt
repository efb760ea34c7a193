-- What the stream of a call brings, by the whole list of its events.
use Rattle.std.specs.Prelude.{ℕ, ◌≡◌, ◌==◌, Bool, true, false, ◌&&◌, not, List, [], ◌∷◌, ◌++◌, take, ◌⊎◌, Option, Some, None, Result, Ok, Err, if◌then◌else◌}
use Rattle.std.specs.Prelude.{map}
use Rattle.h2_model.specs.declared.answers.Event.{Event}
use Rattle.h2_model.specs.declared.answers.Event.TheVariants as event
use Rattle.grpc_call.specs.declared.fault.CallFault.{CallFault}
use Rattle.grpc_call.specs.declared.fault.CallFault.TheVariants.{TooLong}
use Rattle.grpc_call.specs.declared.fault.CallFault.TheVariants as fault
use Rattle.grpc_call.specs.declared.heads.Block.{Block}
use Rattle.grpc_call.specs.declared.heads.Block.TheVariants.{Skips, Begins, Ends, Refuses}
use Rattle.grpc_call.specs.Framed.{Framed, framed}
use Rattle.grpc_call.specs.Blocks.{block_of, is_some_byte}
use Rattle.grpc_call.specs.Reading.{Response}

-- a message, one that is too long, or the end of the stream: true where the call ended well
pub data Item : Type 0 where
  Message : List ℕ → Item
  LongMessage : ℕ → Item
  Closed : Bool → Item

-- How a stream ends: with a status, or with anything else.
pub data Ending : Type 0 where
  Status : ℕ → Ending
  Failed : Ending

-- what was heard of a stream: whether its head came, its joined DATA, and how it ended
pub record Heard : Type 0 where
  pub headed : Bool
  pub content : List ℕ
  pub ending : Option Ending

abbrev pub nothing_heard : Heard
nothing_heard = record { headed = false; content = []; ending = None }

-- whether bytes stand behind the last whole message counts where the items are read off
abbrev pub with_block : Block → Heard → Heard
with_block Skips h = h
with_block Begins h = record h { headed = true }
with_block (Ends status) h = record h { ending = Some (Status status) }
with_block (Refuses fault) h = record h { ending = Some Failed }

-- DATA before the head ends the stream, and so does DATA with END_STREAM
abbrev pub with_data : List ℕ → Bool → Heard → Heard
with_data bytes last h =
    record h {
      content = if h.headed then h.content ++ bytes else h.content;
      ending = if h.headed && not last then h.ending else Some Failed;
    }

abbrev pub with_event : Event → Heard → Heard
with_event event.Nothing h = h
with_event (event.Head id fields last) h = with_block (block_of h.headed false fields last) h
with_event (event.Data id bytes last) h = with_data bytes last h
with_event (event.Reset id code) h = record h { ending = Some Failed }
with_event (event.GoAway last code) h = h

-- nothing is heard behind the end
abbrev pub unless_over : Option Ending → Event → Heard → Heard
unless_over (Some ending) e h = h
unless_over None e h = with_event e h

-- the events of the call's stream, newest first
abbrev pub heard : List Event → Heard
heard [] = nothing_heard
heard (e ∷ events) = unless_over (heard events).ending e (heard events)

abbrev pub closing : Option Ending → List ℕ → List Item
closing None rest = []
closing (Some (Status status)) rest = Closed ((status == 0) && not (is_some_byte rest)) ∷ []
closing (Some Failed) rest = Closed false ∷ []

-- a fault of the messages comes before any end behind them
abbrev pub last_items : Option CallFault → Option Ending → List ℕ → List Item
last_items (Some (TooLong size)) ending rest = LongMessage size ∷ []
last_items (Some other) ending rest = Closed false ∷ []
last_items None ending rest = closing ending rest

abbrev pub items_of : Framed → Option Ending → List Item
items_of f ending = map Message f.messages ++ last_items f.fault ending f.rest

-- What the stream of a call brings: its whole messages, then one too long or the end, and nothing behind either.
abbrev pub items : ℕ → List Event → List Item
items limit events = items_of (framed limit (heard events).content) (heard events).ending

-- a reader of a stream that goes on
pub record StandsFor (r : Response) (events : List Event) : Type 0 where
  pub headed : r.headed ≡ (heard events).headed
  pub rest : r.rest ≡ (framed r.limit (heard events).content).rest
  pub right : (framed r.limit (heard events).content).fault ≡ None
  pub goes_on : (heard events).ending ≡ None

-- what a fault of a reader tells
abbrev pub told_of : CallFault → Item
told_of (TooLong size) = LongMessage size
told_of other = Closed false

-- the stream is closed, or a message was at fault
abbrev pub IsOver : ℕ → List Event → Type 0
IsOver limit events = (((heard events).ending ≡ None) → ⊥) ⊎ (((framed limit (heard events).content).fault ≡ None) → ⊥)

-- what a block tells
abbrev pub HeadTold : Response → List Event → Event → Result (Option ℕ) CallFault → Response → Type 0
HeadTold r events e (Ok None) new = StandsFor new (e ∷ events) × (items r.limit (e ∷ events) ≡ items r.limit events)
HeadTold r events e (Ok (Some status)) new = items r.limit (e ∷ events) ≡ items r.limit events ++ (Closed (status == 0) ∷ [])
HeadTold r events e (Err fault) new = items r.limit (e ∷ events) ≡ items r.limit events ++ (Closed false ∷ [])

-- What DATA tells: nothing and the next message by bytes that didn't end the stream, a fault by all of them.
abbrev pub DataTold : Response → List Event → ℕ → List ℕ → Bool → Result (Option (List ℕ × ℕ)) CallFault → Response → Type 0
DataTold r events id bytes last (Ok None) new =
    (last ≡ false) × StandsFor new (event.Data id bytes false ∷ events) × (items r.limit (event.Data id bytes false ∷ events) ≡ items r.limit events)
DataTold r events id bytes last (Ok (Some (message, used))) new =
    StandsFor new (event.Data id (take used bytes) false ∷ events)
    × (items r.limit (event.Data id (take used bytes) false ∷ events) ≡ items r.limit events ++ (Message message ∷ []))
DataTold r events id bytes last (Err fault.Memory) new = StandsFor new events
DataTold r events id bytes last (Err fault) new = items r.limit (event.Data id bytes last ∷ events) ≡ items r.limit events ++ (told_of fault ∷ [])
