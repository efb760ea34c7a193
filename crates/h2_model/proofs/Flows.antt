-- The bytes that wait, and the bytes that come.
use Rattle.std.proofs.Common.{◌≡◌, ℕ, ◌-◌, Bool, true, false, List, [], ◌∷◌, ◌++◌, length, drop, sym, refl, nat_lt, ◌==◌, if◌then◌else◌, arith}
use Rattle.std.proofs.lemmas.Grind.{common_steps}
use Rattle.std.proofs.lemmas.List.{drop-append-le}
use Rattle.std.proofs.Math.Seq.{drop-append-add}
use Rattle.h2_model.specs.Log.{Log}
use Rattle.h2_model.specs.Streams.{is_opened, is_reset, is_ended_by_peer, is_ended_here, is_live, state_by, state_of, is_live_state}
use Rattle.h2_model.specs.Queue.{Waiting, flow, behind}
use Rattle.h2_model.specs.Account.{Account}
use Rattle.h2_model.specs.History.{Call, Take, account, called, with_byte, with_bytes}
use Rattle.std.specs.Prelude.{not, ◌&&◌}

step-flow : (n : ℕ) (w : Waiting) (queue later : List Waiting) → flow later ≡ drop (n - length w.left) (flow queue)
    → flow (if n == 0 then w ∷ queue else if nat_lt n (length w.left) then record w { left = drop n w.left; fixed = true } ∷ queue else later) ≡ drop n (w.left ++ flow queue)
step-flow n w queue later h = grind (arith, common_steps, h, drop-append-le n w.left (flow queue), drop-append-add w.left (flow queue) (n - length w.left))

drop-nothing : {A : Type 0} (n : ℕ) → drop {A = A} n [] ≡ []
drop-nothing n = grind (arith, common_steps)

flow-behind : (n : ℕ) (queue : List Waiting) → flow (behind n queue) ≡ drop n (flow queue)
flow-behind n [] = sym (drop-nothing n)
flow-behind n (w ∷ queue) = step-flow n w queue (behind (n - length w.left) queue) (flow-behind (n - length w.left) queue)

pub flow-taken : (client : Bool) (h : List Call) (n : ℕ) → flow (account client (Take n ∷ h)).waiting ≡ drop n (flow (account client h).waiting)
unfolding account called
flow-taken client h n = flow-behind n (account client h).waiting

pub in-pieces : (xs ys : List ℕ) (a : Account) → with_bytes (xs ++ ys) a ≡ with_bytes ys (with_bytes xs a)
in-pieces [] ys a = refl
in-pieces (x ∷ xs) ys a = in-pieces xs ys (with_byte x a)

live-by : (o r p h : Bool) → (o && not r && not (p && h)) ≡ is_live_state (state_by o r p h)
live-by false r p h = refl
live-by true true p h = refl
live-by true false true true = refl
live-by true false true false = refl
live-by true false false true = refl
live-by true false false false = refl

pub live-state : (id : ℕ) (log : Log) → is_live id log ≡ is_live_state (state_of id log)
unfolding state_of
live-state id log = live-by (is_opened id log) (is_reset id log) (is_ended_by_peer id log) (is_ended_here id log)
