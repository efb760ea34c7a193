-- What the history of an exchange is sure of.
use Rattle.std.proofs.Common.{arith}
use Rattle.std.specs.Prelude.{ℕ, ◌≤◌, List, ◌∷◌, length, filter_map}
use Rattle.filter_model.specs.Config.{FilterConfig}
use Rattle.filter_model.specs.Right.{Call, IsHistory, MayCome, Nexted, account, ask_given}
use Rattle.filter_model.specs.declared.calls.Event.TheVariants as event
use Rattle.filter_model.specs.declared.calls.Next.TheVariants as next
use Rattle.exchange.specs.Stands.{IsAfter}
use Rattle.exchange.specs.declared.exchange.Exchange.{Exchange}

pub history_of : (c : FilterConfig) (h : List Call) (x : Exchange) → IsAfter c h x → IsHistory c h
history_of c h x s = s.right

-- no ask was sent that wasn't given
sent_within : (c : FilterConfig) (h : List Call) (x : Exchange) → IsAfter c h x → (account c h).sent ≤ length (filter_map ask_given h)
sent_within c h x s = let e = s.ties.unsent in omega (arith, e)

-- an ask that was given may be sent
pub may_sent : (c : FilterConfig) (h : List Call) (bytes : List ℕ) (x : Exchange) → IsAfter c h x → MayCome c (Nexted (next.Ask bytes) ∷ h) event.Sent
may_sent c h bytes x a = let l = sent_within c h x a in omega (arith, l)
