-- What holds of every account that calls lead to.
use Rattle.std.specs.Prelude.{ℕ, ◌+◌, ◌≡◌, ◌≤◌, ◌<◌, Bool, true, false, ◌&&◌, ◌||◌, ◌==◌, List, [], ◌∷◌, All}
use Rattle.h2_frames.specs.declared.frame.Frame.TheVariants as frame
use Rattle.h2_model.specs.Log.{LogEntry, Log, Owed, stream_of, total}
use Rattle.h2_model.specs.Streams.{opened, is_opened, is_live, is_reset, is_ended_by_peer, is_ended_here, heads_got}
use Rattle.h2_model.specs.Queue.{Waiting, is_free, has_bytes}
use Rattle.h2_model.specs.Account.{Account}
use Rattle.h2_model.specs.Windows.{increment, data_sent, data_received, increment_given, increment_owed}
use Rattle.h2_model.specs.History.{frame_in}

-- newest first, each number is above those before it, and none is 0
abbrev pub Descends : List ℕ → Type 0
Descends [] = Unit {0}
Descends (n ∷ ns) = (0 < n) × All (λ m. m < n) ns × Descends ns

-- nothing is known of a stream that was never opened
pub record Untouched (id : ℕ) (a : Account) : Type 0 where
  pub reset : is_reset id a.log ≡ false
  pub peer_ended : is_ended_by_peer id a.log ≡ false
  pub here_ended : is_ended_here id a.log ≡ false
  pub heads : heads_got id a.log ≡ []
  pub increments : total (increment id) a.log ≡ 0
  pub sent : data_sent id a ≡ 0
  pub received : total (data_received id) a.log ≡ 0
  pub given : total (increment_given id) a.log ≡ 0
  pub owed : total (increment_owed id) a.log ≡ 0

-- bytes of a stream that was reset
abbrev pub is_lost : Log → Waiting → Bool
is_lost log w = is_free w && has_bytes w.frame && is_reset (stream_of w.frame) log

abbrev pub is_lost_entry : Log → LogEntry → Bool
is_lost_entry log e = has_bytes (frame_in e) && is_reset (stream_of (frame_in e)) log

abbrev pub is_of_opened : Log → ℕ → Bool
is_of_opened log id = (id == 0) || is_opened id log

abbrev pub is_update_owed : LogEntry → Bool
is_update_owed (Owed (frame.Window id n)) = true
is_update_owed _ = false

-- the increments that wait for a stream, or for the connection
abbrev pub update_of : ℕ → Waiting → ℕ
update_of id w = increment_owed id (Owed w.frame)

abbrev pub updates_in : ℕ → List Waiting → ℕ
updates_in id [] = 0
updates_in id (w ∷ queue) = update_of id w + updates_in id queue

pub record Valid (a : Account) : Type 0 where
  pub descends : Descends (opened a.log)
  pub untouched : (id : ℕ) → 0 < id → is_opened id a.log ≡ false → Untouched id a
  pub waiting : All (λ w. is_of_opened a.log (stream_of w.frame) ≡ true) a.waiting
  pub held : All (λ e. is_of_opened a.log (stream_of (frame_in e)) ≡ true) a.held
  -- what a reset drops is gone
  pub waiting_kept : All (λ w. is_lost a.log w ≡ false) a.waiting
  pub held_kept : All (λ e. is_lost_entry a.log e ≡ false) a.held
  pub held_owed : All (λ e. is_update_owed e ≡ false) a.held
  -- the peer kept to the windows
  pub received : total (data_received 0) a.log ≤ 65535 + total (increment_given 0) a.log
  pub received_on : (id : ℕ) → is_live id a.log ≡ true → total (data_received id) a.log ≤ 65535 + total (increment_given id) a.log
  -- no more is given back than came
  pub updates : (id : ℕ) → total (increment_given id) a.log + updates_in id a.waiting ≤ total (increment_owed id) a.log
  pub returned : (id : ℕ) → total (increment_owed id) a.log ≤ total (data_received id) a.log
