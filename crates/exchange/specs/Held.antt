-- How much an exchange keeps, list by list.
use Rattle.std.specs.Prelude.{ℕ, ◌+◌, List, [], ◌∷◌, ◌++◌, flat_map, option_to_list, Option, Some, None}
use Rattle.ext_msgs.specs.declared.ask.Ask.{Ask}
use Rattle.ext_msgs.specs.declared.ask.Ask.TheVariants as ask
use Rattle.ext_msgs.specs.declared.lists.Field.{Field}
use Rattle.http_model.specs.declared.types.Direction.{Direction}
use Rattle.http_model.specs.declared.types.Direction.TheVariants.{Request, Response}
use Rattle.http_model.specs.declared.types.Out.{Out}
use Rattle.http_model.specs.declared.types.Out.TheVariants as part
use Rattle.filter_model.specs.Held.{Kept, held}
use Rattle.body_hold.specs.Held as hold
use Rattle.half_machine.specs.Beside.{ask_size, held_beside}
use Rattle.h1_message.specs.Stages.{held_at}
use Rattle.h1_message.specs.declared.stage.Stage.{Stage}
use Rattle.h1_message.specs.declared.stage.Stage.TheVariants as stage
use Rattle.h1_read.specs.Remaining.{kept_bytes}
use Rattle.h1_outlet.specs.Outlets as outlet
use Rattle.filter_model.specs.InTurn.{asks_in}
use Rattle.exchange.specs.declared.exchange.Exchange.{Exchange}
use Rattle.exchange.specs.declared.flow.Flow.{Flow}

-- of a head, a chunk's line or trailers that aren't whole
abbrev pub unread_at : Stage → List ℕ
unread_at (stage.Unbegun d to_head) = []
unread_at (stage.Head h) = h.so_far
unread_at (stage.NoHead e) = []
unread_at (stage.Body n rest) = kept_bytes rest
unread_at (stage.NoBody e) = []
unread_at stage.Whole = []

-- the part that was put last, as it waits to be written

abbrev pub fields_put : Out → List (List Field)
fields_put (part.Head fields framing) = fields ∷ []
fields_put (part.Data bytes) = []
fields_put (part.Trailers fields) = fields ∷ []
fields_put part.End = []
fields_put part.Nothing = []

abbrev pub bytes_put : Out → List (List ℕ)
bytes_put (part.Head fields framing) = []
bytes_put (part.Data bytes) = bytes ∷ []
bytes_put (part.Trailers fields) = []
bytes_put part.End = []
bytes_put part.Nothing = []

-- asks

abbrev pub fields_in : Ask → List (List Field)
fields_in (ask.RequestHeaders fields last) = fields ∷ []
fields_in (ask.ResponseHeaders fields last) = fields ∷ []
fields_in (ask.RequestBody bytes last) = []
fields_in (ask.ResponseBody bytes last) = []
fields_in (ask.RequestTrailers fields) = fields ∷ []
fields_in (ask.ResponseTrailers fields) = fields ∷ []

abbrev pub piece_in : Ask → List (List ℕ)
piece_in (ask.RequestHeaders fields last) = []
piece_in (ask.ResponseHeaders fields last) = []
piece_in (ask.RequestBody bytes last) = bytes ∷ []
piece_in (ask.ResponseBody bytes last) = bytes ∷ []
piece_in (ask.RequestTrailers fields) = []
piece_in (ask.ResponseTrailers fields) = []

-- the one that was handed out, if it is of this direction
abbrev pub waiting_in : Direction → Option Ask → List Ask
waiting_in d None = []
waiting_in d (Some x) = asks_in d (x ∷ [])

-- the lists of a direction: of its reader, of its half, of the ask that was handed out, and of its outlet
abbrev pub kept_of : Direction → Option Ask → Flow → Kept
kept_of d x f = record {
  unread = unread_at f.reader.stage;
  heads = option_to_list f.half.head ++ f.half.trailers ∷ [] ++ flat_map fields_in (f.half.ready ++ waiting_in d x) ++ fields_put f.outlet.next;
  hand = f.half.hold.hand;
  lent = f.half.hold.lent;
  asks = flat_map piece_in (f.half.ready ++ waiting_in d x);
  out = f.half.hold.out ∷ f.outlet.going.left ∷ f.outlet.reply ∷ bytes_put f.outlet.next;
}

abbrev pub held_by : Exchange → ℕ
held_by x = held (kept_of Request x.ready x.request) (kept_of Response x.ready x.response) []

-- The same by parts

abbrev pub ready_size : Option Ask → ℕ
ready_size (Some x) = ask_size x
ready_size None = 0

abbrev pub flow_size : Flow → ℕ
flow_size f = held_at f.reader.stage + hold.held f.half.hold + held_beside f.half + outlet.held f.outlet
