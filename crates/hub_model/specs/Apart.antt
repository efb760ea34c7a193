-- Which bytes of the processor are nothing to an exchange.
use Rattle.std.specs.Prelude.{ℕ, Bool, false, ◌||◌, List, [], ◌∷◌, Option}
use Rattle.std.specs.List.{list_any}
use Rattle.h2_model.specs.History.{with_byte}
use Rattle.h2_model.specs.Log.{stream_of_event}
use Rattle.hub_model.specs.HubCalls.{HubConfig}
use Rattle.hub_model.specs.World.{World}
use Rattle.hub_model.specs.Hearing.{came, is_fatal, is_on}

-- whether bytes bring an event on this stream, or the end of the connection
abbrev pub brings : HubConfig → Option ℕ → List ℕ → World → Bool
brings c s [] w = false
brings c s (b ∷ bytes) w =
    list_any (λ e. is_on (stream_of_event e) s) (with_byte b w.session).unreported
    || (is_fatal b w.session || brings c s bytes (came c b w))
