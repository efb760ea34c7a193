-- A reset is handed over: the bytes of its stream are dropped, and give their part of the connection's window back.
use Rattle.std.proofs.Common.{◌≡◌, ℕ, ◌+◌, ◌<◌, Bool, true, false, not, ◌&&◌, ◌||◌, ◌==◌, List, ◌∷◌, refl, sym, ◌∙◌, ap, subst, All, arith, None, pos, ◌+ℤ◌, le_refl}
use borrow.Author.Tests.{not-true}
use Rattle.std.proofs.lemmas.List.Elements.{All-filter, filter_passes}
use Rattle.h2_frames.specs.declared.frame.Frame.{Frame}
use Rattle.h2_frames.specs.declared.frame.Frame.TheVariants as frame
use Rattle.h2_model.specs.Log.{LogEntry, Handed, stream_of, total}
use Rattle.h2_model.specs.Streams.{is_opened, is_reset, is_ended_by_peer, is_ended_here}
use Rattle.h2_model.specs.Queue.{Waiting, queued, is_free, has_bytes}
use Rattle.h2_model.specs.Account.{Account, is_headless}
use Rattle.h2_model.specs.Windows.{held_data, data_sent, data_given, increment_given, connection_window}
use Rattle.h2_model.specs.History.{frame_in, handed}
use Rattle.h2_model.specs.State.{seen, streams, live}
use Rattle.h2_model.specs.Moves.{adjust, adjusted, handing, sending, resetting, kept_waiting, kept_held, is_dropped, is_dropped_entry, dropped_bytes}
use Rattle.h2_model.specs.Valid.{Valid, is_lost, is_lost_entry, is_of_opened, is_update_owed}
use Rattle.h2_model.proofs.Lives.{bound}
use Rattle.h2_laws_log.proofs.Lists.{all-both, same-number, number-swapped, other-number, not-zero, both-right}
use Rattle.h2_laws_log.proofs.Queues.{other-data, kept-queue, kept-held-data, updates-kept, queued-split, held-split, entry_data}
use Rattle.h2_laws_log.proofs.Same.{Same, over-live, one-moved, window-more}
use Rattle.h2_laws_log.proofs.Valids.{valid-moved, others-untouched}
use Rattle.h2_laws_log.proofs.Hand.{now-dropped, noted-reset, sunk, queue_by, held_by, handed-is, handing-is, sunk-data, sunk-updates, all-queue-by, all-held-by, opened-known, fixed-kept}

still-live : (o x r p : Bool) → (o && not (x || r) && p) ≡ true → (o && not r && p) ≡ true
still-live true false r p e = e
still-live true true r p e = absurd cc
still-live false x r p e = absurd cc

none-live : (o r p : Bool) → (o && not (true || r) && p) ≡ false
none-live true r p = refl
none-live false r p = refl

other-entry : (n id : ℕ) → (n == 0) ≡ false → (n == id) ≡ false → (e : LogEntry) → (stream_of (frame_in e) == id) ≡ true
    → entry_data n e ≡ 0
other-entry n id z o (Handed f) e = other-data n f z (other-number (stream_of f) n id e o)
other-entry n id z o e i = refl

kept-is : (x y r s t : Bool) → s ≡ t → (x && y && r) ≡ false → not (x && y && t) ≡ true → (x && y && (s || r)) ≡ false
kept-is x y r s t e h k = not-true (x && y && (s || r)) (now-dropped x y r s t e h ∙ k)

module _ (id code : ℕ) (c : Bool) (a : Account) (v : Valid a) where
  abbrev end : Frame
  end = frame.Reset id code

  abbrev waiting : List Waiting
  waiting = kept_waiting id a.waiting

  abbrev held : List LogEntry
  held = kept_held id a.held

  abbrev after : Account
  after = sunk c end (record a { log = Handed end ∷ a.log; waiting = waiting; held = held })

  sent-after : (n : ℕ) → data_sent n after
      ≡ total (data_given n) a.log + queued n waiting + held_data n held + held_data n a.lost
  sent-after n = omega (arith, sunk-data n c end waiting held)

  others : (n : ℕ) → 0 < n → (n == id) ≡ false → Same n a after
  others n p e = record {
    opened = refl;
    reset = rw other refl;
    peer_ended = refl;
    here_ended = refl;
    heads = refl;
    increments = refl;
    sent = omega (
      arith,
      sent-after n,
      kept-queue n (is_dropped id)
          (λ w d. other-data n w.frame (not-zero n p)
          (other-number (stream_of w.frame) n id
          (both-right (is_free w && has_bytes w.frame) (stream_of w.frame == id) d) e)) a.waiting,
      kept-held-data n (is_dropped_entry id)
          (λ x d. other-entry n id (not-zero n p) e x
          (both-right (has_bytes (frame_in x)) (stream_of (frame_in x) == id) d)) a.held,
    );
    received = refl;
    given = refl;
    owed = refl;
  }
    where
      other : (id == n) ≡ false
      other = number-swapped id n ∙ e

  own : live id after ≡ bound (live id a) (adjust id (λ t. None))
  unfolding live
  own = rw (
    same-number id,
    none-live (is_opened id a.log) (is_reset id a.log)
        (not (is_ended_by_peer id a.log && is_ended_here id a.log)),
  )
      (over-live id a)

  streams-after : streams after ≡ adjusted id (λ t. None) (streams a)
  streams-after = one-moved a after id (λ t. None) v refl others own

  window-after : connection_window after ≡ connection_window a +ℤ pos (dropped_bytes id (seen a))
  unfolding seen
  window-after = window-more a after (dropped_bytes id (seen a)) refl
      (omega (arith, sent-after 0, queued-split 0 (is_dropped id) a.waiting, held-split 0 (is_dropped_entry id) a.held))

  seen-after : seen after ≡ record (sending end (seen a)) { waiting = queue_by c end waiting; held = held_by c end held }
  unfolding seen sending resetting
  seen-after = λ i. record (seen a) {
    window = window-after i;
    streams = streams-after i;
    waiting = queue_by c end waiting;
    held = held_by c end held;
  }

  valid-after : is_opened id a.log ≡ true → Valid after
  valid-after o = valid-moved a after v (record {
    opened = refl;
    untouched = others-untouched a after id known others;
    lives = λ n. still-live (is_opened n a.log) (id == n) (is_reset n a.log)
        (not (is_ended_by_peer n a.log && is_ended_here n a.log));
    received = λ n. refl;
    given = λ n. le_refl (total (increment_given n) a.log);
    owed = λ n. refl;
    waiting = all-queue-by (λ w. is_of_opened a.log (stream_of w.frame) ≡ true) (λ w h. h) c end waiting known
        (All-filter (λ w. not (is_dropped id w)) (λ w. is_of_opened a.log (stream_of w.frame) ≡ true) a.waiting v.waiting);
    held = all-held-by (λ e. is_of_opened a.log (stream_of (frame_in e)) ≡ true) c end held known
        (All-filter (λ e. not (is_dropped_entry id e))
        (λ e. is_of_opened a.log (stream_of (frame_in e)) ≡ true) a.held v.held);
    waiting_kept = all-queue-by (λ w. is_lost after.log w ≡ false) (fixed-kept after.log) c end waiting refl kept;
    held_kept = all-held-by (λ e. is_lost_entry after.log e ≡ false) c end held refl kept-entries;
    held_owed = all-held-by (λ e. is_update_owed e ≡ false) c end held refl
        (All-filter (λ e. not (is_dropped_entry id e)) (λ e. is_update_owed e ≡ false) a.held v.held_owed);
    updates = λ n. omega (
      arith,
      v.updates n,
      sunk-updates n c end waiting refl,
      updates-kept n
          (λ w. not (is_dropped id w)) a.waiting,
    );
  })
    where
      known : is_of_opened a.log id ≡ true
      known = opened-known id a.log o

      kept : All (λ w. is_lost (Handed end ∷ a.log) w ≡ false) waiting
      kept = all-both (λ w. is_lost a.log w ≡ false) (λ w. not (is_dropped id w) ≡ true)
          (λ w. is_lost (Handed end ∷ a.log) w ≡ false)
          (λ w h k. kept-is (is_free w) (has_bytes w.frame) (is_reset (stream_of w.frame) a.log) (id == stream_of w.frame)
          (stream_of w.frame == id) (number-swapped id (stream_of w.frame)) h k) waiting
          (All-filter (λ w. not (is_dropped id w)) (λ w. is_lost a.log w ≡ false) a.waiting v.waiting_kept)
          (filter_passes (λ w. not (is_dropped id w)) a.waiting)

      kept-entries : All (λ e. is_lost_entry (Handed end ∷ a.log) e ≡ false) held
      kept-entries = all-both (λ e. is_lost_entry a.log e ≡ false) (λ e. not (is_dropped_entry id e) ≡ true)
          (λ e. is_lost_entry (Handed end ∷ a.log) e ≡ false)
          (λ e h k. kept-is true (has_bytes (frame_in e)) (is_reset (stream_of (frame_in e)) a.log)
          (id == stream_of (frame_in e)) (stream_of (frame_in e) == id)
          (number-swapped id (stream_of (frame_in e))) h k) held
          (All-filter (λ e. not (is_dropped_entry id e)) (λ e. is_lost_entry a.log e ≡ false) a.held v.held_kept)
          (filter_passes (λ e. not (is_dropped_entry id e)) a.held)

-- what is kept, after a reset was handed over
pub reset-seen : (id code : ℕ) (a : Account) → Valid a → seen (handed (frame.Reset id code) a)
    ≡ handing (is_headless a id) (frame.Reset id code) (seen a)
unfolding seen sending resetting
reset-seen id code a v =
    ap seen (handed-is (frame.Reset id code) a
    ∙ ap (sunk (is_headless a id) (frame.Reset id code)) (noted-reset id code a v))
    ∙ seen-after id code (is_headless a id) a v
    ∙ sym (handing-is (is_headless a id) (frame.Reset id code) a)

pub reset-valid : (id code : ℕ) (a : Account) → Valid a → is_opened id a.log ≡ true → Valid (handed (frame.Reset id code) a)
reset-valid id code a v o =
    subst Valid (sym (handed-is (frame.Reset id code) a
    ∙ ap (sunk (is_headless a id) (frame.Reset id code)) (noted-reset id code a v)))
    (valid-after id code (is_headless a id) a v o)
