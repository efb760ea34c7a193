-- What a call may hand over is within the windows.
use Rattle.std.proofs.Common.{arith, ◌≤◌, ◌<◌}
use Rattle.std.specs.Prelude.{ℕ, Bool, true, false, List, [], ◌∷◌, length, min, ℤ, pos, negsuc, ◌≤ℤ◌}
use Rattle.std.proofs.lemmas.Int.{ints}
use Rattle.h2_model.specs.Account.{Account}
use Rattle.h2_model.specs.Calls.{positive_part, sendable}
use Rattle.h2_model.specs.History.{called}
use Rattle.h2_model.specs.Windows.{connection_window, stream_window}
use Rattle.filter_model.specs.declared.calls.Taken.{Taken}
use Rattle.hub_model.specs.HubCalls.{HubCall, HubConfig, Handing, HandsHead, HandsData, Gave}
use Rattle.hub_model.specs.World.{World, is_over}
use Rattle.hub_model.specs.Sending.{session_call}
use Rattle.hub_model.specs.Happens.{world}
use Rattle.hub_model.specs.Allowed.{IsHubHistory, MayHand, MayHandAll, MayHandIf}
use Rattle.hub_laws.specs.Windows.{AllWithin, IsWithinWindows}

within : (n : ℕ) (w : ℤ) → 0 < n → n ≤ positive_part w → pos n ≤ℤ w
within n (pos m) s h = omega (arith, ints)
within n (negsuc m) s h = absurd (none s h)
  where
    none : 0 < n → n ≤ 0 → ⊥
    none s h = omega arith

fits : (n a b : ℕ) → n ≤ min (min n 16384) (min a b) → (n ≤ a) × (n ≤ b)
fits n a b h = (omega arith, omega arith)

one : (c : HubConfig) (w : World) (x : Handing) (a : Account) → MayHand c w x a → IsWithinWindows x a
unfolding sendable
one c w (HandsHead id block) a h = tt
one c w (HandsData id bytes) a h =
    let f = fits (length bytes) (positive_part (connection_window a)) (positive_part (stream_window id a)) h.fits in
    record { connection = within (length bytes) (connection_window a) h.some f.0; stream = within (length bytes) (stream_window id a) h.some f.1 }

all : (c : HubConfig) (w : World) (xs : List Handing) (a : Account) → MayHandAll c w xs a → AllWithin c xs a
all c w [] a h = tt
all c w (x ∷ xs) a h = (one c w x a h.0, all c w xs (called (session_call c x) a) h.1)

by_over : (c : HubConfig) (w : World) (xs : List Handing) (b : Bool) → MayHandIf c w xs b → AllWithin c xs w.session
by_over c w [] true h = tt
by_over c w (x ∷ xs) true h = absurd cc
by_over c w xs false h = all c w xs w.session h

pub windows_kept : (c : HubConfig) (xs : List Handing) (t : Taken) (h : List HubCall) → IsHubHistory c (Gave xs t ∷ h) → AllWithin c xs (world c h).session
windows_kept c xs t h m = by_over c (world c h) xs (is_over (world c h)) m.1.0
