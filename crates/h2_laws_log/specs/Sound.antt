-- What holds of every account beside `Valid`: the laws of `head`, of `take` and of connection errors need it.
use Rattle.std.specs.Prelude.{◌≡◌, Bool, true, false, not, [], None, All}
use Rattle.h2_frames.specs.declared.frame.Frame.TheVariants as frame
use Rattle.h2_model.specs.Log.{LogEntry, Log, Handed, Owed, is_empty, violation}
use Rattle.h2_model.specs.Streams.{is_reset}
use Rattle.h2_model.specs.Queue.{Waiting}
use Rattle.h2_model.specs.Account.{Account}

abbrev pub has_left : Waiting → Bool
has_left w = not (is_empty w.left)

-- What is held on a headless stream: DATA and resets that were handed over, and resets that are owed; their stream is
-- reset already, since its fault was reported.
abbrev pub may_be_held : Log → LogEntry → Bool
may_be_held log (Handed (frame.Data id bytes last size)) = true
may_be_held log (Handed (frame.Reset id code)) = true
may_be_held log (Owed (frame.Reset id code)) = is_reset id log
may_be_held log e = false

pub record CallsSound (a : Account) : Type 0 where
  pub left : All (λ w. has_left w ≡ true) a.waiting
  pub holds : All (λ e. may_be_held a.log e ≡ true) a.held
  pub lost : violation a.log ≡ None → a.lost ≡ []  -- only a connection error loses DATA
