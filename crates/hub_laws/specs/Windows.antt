-- DATA and the windows of flow control.
use Rattle.std.specs.Prelude.{ℕ, List, [], ◌∷◌, length, pos, ◌≤ℤ◌}
use Rattle.h2_model.specs.Account.{Account}
use Rattle.h2_model.specs.History.{called}
use Rattle.h2_model.specs.Windows.{connection_window, stream_window}
use Rattle.hub_model.specs.HubCalls.{HubConfig, Handing, HandsHead, HandsData}
use Rattle.hub_model.specs.Sending.{session_call}

-- the connection's window and the stream's let all of these bytes go
pub record FitsWindows (id : ℕ) (bytes : List ℕ) (a : Account) : Type 0 where
  pub connection : pos (length bytes) ≤ℤ connection_window a
  pub stream : pos (length bytes) ≤ℤ stream_window id a

abbrev pub IsWithinWindows : Handing → Account → Type 0
IsWithinWindows (HandsHead id block) a = Unit {0}
IsWithinWindows (HandsData id bytes) a = FitsWindows id bytes a

-- each piece of what is handed over in turn
abbrev pub AllWithin : HubConfig → List Handing → Account → Type 0
AllWithin c [] a = Unit {0}
AllWithin c (x ∷ xs) a = IsWithinWindows x a × AllWithin c xs (called (session_call c x) a)
