-- How a session begins.
use Rattle.std.proofs.Common.{◌≡◌, ℕ, Bool, true, false, not, [], ◌∷◌, refl, All, le_refl, arith}
use Rattle.std.proofs.lemmas.List.Elements.{All-nil, All-cons}
use Rattle.h2_model.specs.Log.{stream_of, is_empty}
use Rattle.h2_model.specs.Streams.{opened}
use Rattle.h2_model.specs.Queue.{Waiting}
use Rattle.h2_model.specs.Account.{is_headless}
use Rattle.h2_model.specs.Windows.{connection_window, window_from}
use Rattle.h2_model.specs.History.{start, own_settings, first_bytes, frame_in}
use Rattle.h2_model.specs.State.{seen, streams}
use Rattle.h2_model.specs.Valid.{Valid, is_lost, is_lost_entry, is_of_opened, is_update_owed}
use Rattle.h2_laws_log.specs.Sound.{CallsSound, has_left, may_be_held}
use Rattle.h2_laws_log.specs.Calling.{starting}

pub start-seen : (client : Bool) → seen (start client) ≡ starting client
unfolding seen start starting streams connection_window window_from
start-seen client = refl

pub start-valid : (client : Bool) → Valid (start client)
unfolding start
start-valid client = record {
  descends = tt;
  untouched = λ n l o. record {
    reset = refl;
    peer_ended = refl;
    here_ended = refl;
    heads = refl;
    increments = refl;
    sent = refl;
    received = refl;
    given = refl;
    owed = refl;
  };
  waiting = one (λ w. is_of_opened (start client).log (stream_of w.frame) ≡ true) refl;
  held = All-nil (λ e. is_of_opened (start client).log (stream_of (frame_in e)) ≡ true);
  waiting_kept = one (λ w. is_lost (start client).log w ≡ false) refl;
  held_kept = All-nil (λ e. is_lost_entry (start client).log e ≡ false);
  held_owed = All-nil (λ e. is_update_owed e ≡ false);
  received = omega arith;
  received_on = λ n l. omega arith;
  returned = λ n. le_refl 0;
  updates = λ n. le_refl 0;
}
  where
    one : (P : Waiting → Type 0) → P (record { frame = own_settings client; left = first_bytes client; fixed = false })
        → All P (record { frame = own_settings client; left = first_bytes client; fixed = false } ∷ [])
    one P p = All-cons P (record { frame = own_settings client; left = first_bytes client; fixed = false }) [] p (All-nil P)

pub start-sound : (client : Bool) → CallsSound (start client)
unfolding start
start-sound client = record {
  left = All-cons (λ w. has_left w ≡ true)
      (record { frame = own_settings client; left = first_bytes client; fixed = false }) [] (some client)
      (All-nil (λ w. has_left w ≡ true));
  holds = All-nil (λ e. may_be_held (start client).log e ≡ true);
  lost = λ n. refl;
}
  where
    some : (c : Bool) → not (is_empty (first_bytes c)) ≡ true
    some true = refl
    some false = refl

pub start-headless : (client : Bool) (k : ℕ) → is_headless (start client) k ≡ false
unfolding start
start-headless true k = refl
start-headless false k = refl

pub start-opened : (client : Bool) → opened (start client).log ≡ []
unfolding start
start-opened client = refl
