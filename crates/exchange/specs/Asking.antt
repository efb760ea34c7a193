-- What the processor's stream is given, step by step.
use Rattle.std.specs.Prelude.{ℕ, ◌-◌, ◌≡◌, ◌<◌, true, List, ◌∷◌, length, drop, filter_map, Option, Some, None, slice_get}
use Rattle.ext_msgs.specs.declared.ask.Ask.{Ask}
use Rattle.http_model.specs.declared.types.Direction.{Direction}
use Rattle.filter_model.specs.Config.{FilterConfig}
use Rattle.filter_model.specs.Account.{unsent}
use Rattle.filter_model.specs.Right.{Call, Nexted, account, ask_given}
use Rattle.filter_model.specs.Step.{is_live}
use Rattle.filter_model.specs.declared.calls.Next.TheVariants as next
use Rattle.exchange.specs.declared.exchange.Exchange.{Exchange}

-- the oldest ask that wasn't given, where there is one
abbrev pub next_made : FilterConfig → List Call → Option Ask
next_made c h = slice_get (account c h).made (length (filter_map ask_given h))

-- with the bytes of an ask given, where there are some
abbrev pub asked_by : Option (List ℕ) → List Call → List Call
asked_by None h = h
asked_by (Some bytes) h = Nexted (next.Ask bytes) ∷ h

-- one of the asks that were given waits no more to be sent
abbrev pub marked_sent : Exchange → Exchange
marked_sent x = record x { order = drop 1 x.order; unsent = x.unsent - 1 }

-- of an exchange that lives, the oldest ask not yet sent was given, and is of this direction
pub record Sends (d : Direction) (c : FilterConfig) (h : List Call) : Type 0 where
  pub live : is_live (account c h).fate ≡ true
  pub given : (account c h).sent < length (filter_map ask_given h)
  pub oldest : unsent (account c h) ≡ Some d
