-- What the parts of a step make of an exchange.
use Rattle.std.specs.Prelude.{ℕ, ◌+◌, Bool, true, false, ◌||◌, ◌++◌, Some, if◌then◌else◌, nat_lt}
use Rattle.http_model.specs.declared.types.Direction.{Direction}
use Rattle.http_model.specs.declared.types.Direction.TheVariants.{Request, Response}
use Rattle.exchange.specs.Order.{so_many}
use Rattle.exchange.specs.Stands.{in_64}
use Rattle.exchange.specs.declared.fate.Fate.{Fate}
use Rattle.exchange.specs.declared.fate.Fate.TheVariants as fate
use Rattle.exchange.specs.declared.fate.GivenWhole.{GivenWhole}
use Rattle.exchange.specs.declared.flow.Flow.{Flow}
use Rattle.exchange.specs.declared.exchange.Exchange.{Exchange}

abbrev pub is_live_in : Fate → Bool
is_live_in fate.Live = true
is_live_in fate.Left = false
is_live_in (fate.Replied given) = false
is_live_in (fate.Aborted given) = false

-- a reply with this status, or an abort where the response's head can go
abbrev pub replied_in : ℕ → Bool → GivenWhole → Exchange → Exchange
replied_in status true given x = record x { fate = fate.Aborted given }
replied_in status false given x = record x { fate = fate.Replied given; waiting = Some status }

abbrev pub timed : Bool → Exchange → Flow → Flow
timed idle x f = record f { deadline = if idle then in_64 (x.clock + x.settings.timeout_ms) else f.deadline }

-- so many asks of a direction were made, by which its timer starts where none was out
abbrev pub noted : Direction → ℕ → Exchange → Exchange
noted d made x = record x {
  order = x.order ++ so_many made d;
  stream = record x.stream { asked = x.stream.asked || nat_lt 0 made };
}

abbrev pub request_noted : ℕ → Bool → Exchange → Exchange
request_noted made idle x = record (noted Request made x) { request = timed idle x x.request }

abbrev pub response_noted : ℕ → Bool → Exchange → Exchange
response_noted made idle x = record (noted Response made x) { response = timed idle x x.response }
