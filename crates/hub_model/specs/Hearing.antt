-- What the processor's bytes come to: what each stream brings is for the exchange whose stream it is.
use Rattle.std.specs.Prelude.{ℕ, Bool, true, false, not, ◌&&◌, List, [], ◌∷◌, length, drop, map, Option, Some, None, ◌==◌}
use Rattle.std.specs.Result.{result_ok}
use Rattle.ext_msgs.specs.Messages.{answer_of}
use Rattle.h2_model.specs.declared.answers.Event.{Event}
use Rattle.h2_model.specs.declared.answers.Event.TheVariants as event
use Rattle.h2_model.specs.Account.{Account}
use Rattle.h2_model.specs.History.{is_violated, with_byte}
use Rattle.h2_model.specs.Log.{stream_of_event}
use Rattle.h2_model.specs.Streams.{is_live}
use Rattle.grpc_call.specs.Items.{Item, items}
use Rattle.grpc_call.specs.Items as item
use Rattle.filter_model.specs.View.{ViewEntry, Answered, TooLong, Closed}
use Rattle.hub_model.specs.HubCalls.{HubConfig}
use Rattle.hub_model.specs.World.{Line, World, is_over, line, put}
use Rattle.hub_model.specs.Meeting.{cancel, each, meet_all}

-- Items

abbrev pub entry_of : Item → ViewEntry
entry_of (item.Message bytes) = Answered (result_ok (answer_of bytes))
entry_of (item.LongMessage size) = TooLong
entry_of (item.Closed clean) = Closed clean

abbrev pub items_of : HubConfig → Line → List Item
items_of c l = items c.filter.course.answer_limit l.heard

abbrev pub with_heard : Event → Line → Line
with_heard e l = record l { heard = e ∷ l.heard }

-- the items by which a stream grows
abbrev pub grown : HubConfig → Event → Line → List Item
grown c e l = drop (length (items_of c l)) (items_of c (with_heard e l))

-- each of them is an entry
unfoldable pub hear : HubConfig → Event → ℕ → World → World
hear c e k w = meet_all c k (map entry_of (grown c e (line k w))) (put k (with_heard e (line k w)) w)

-- One event

abbrev pub is_on : ℕ → Option ℕ → Bool
is_on id None = false
is_on id (Some n) = n == id

abbrev pub hear_if : HubConfig → Event → ℕ → World → Bool → World
hear_if c e k w true = hear c e k w
hear_if c e k w false = w

-- at a place, where the event is of its stream
abbrev pub tell_at : HubConfig → Event → ℕ → World → World
tell_at c e k w = hear_if c e k w (is_on (stream_of_event e) (line k w).stream)

abbrev pub tell : HubConfig → Event → World → World
tell c e w = each (tell_at c e) w

abbrev pub tell_all : HubConfig → List Event → World → World
tell_all c [] w = w
tell_all c (e ∷ es) w = tell_all c es (tell c e w)

-- The end of the connection closes each stream that lives, as a reset does

abbrev pub is_live_on : Option ℕ → Account → Bool
is_live_on None a = false
is_live_on (Some id) a = is_live id a.log

abbrev pub reset_of : Option ℕ → Event
reset_of None = event.Nothing
reset_of (Some id) = event.Reset id cancel

abbrev pub close_at : HubConfig → ℕ → World → World
close_at c k w = hear_if c (reset_of (line k w).stream) k w (is_live_on (line k w).stream w.session)

abbrev pub close_all : HubConfig → World → World
close_all c w = each (close_at c) w

abbrev pub close_if : HubConfig → World → Bool → World
close_if c w true = close_all c w
close_if c w false = w

-- Bytes, one by one

-- the session with its events taken off
abbrev pub told : Account → Account
told a = record a { unreported = [] }

-- this byte is where the session finds a connection error
abbrev pub is_fatal : ℕ → Account → Bool
is_fatal b a = is_violated (with_byte b a) && not (is_violated a)

-- one more byte: the events that it completes, or a connection error
abbrev pub came : HubConfig → ℕ → World → World
came c b w =
    let a : Account = with_byte b w.session in
    close_if c (tell_all c a.unreported (record w { session = told a })) (is_fatal b w.session)

unfoldable pub came_all : HubConfig → List ℕ → World → World
came_all c [] w = w
came_all c (b ∷ bytes) w = came_all c bytes (came c b w)

-- The link ended or was lost, which counts as one end of the connection

unfoldable pub broke : HubConfig → World → World
broke c w = close_if c (record w { broken = true }) (not (is_over w))
