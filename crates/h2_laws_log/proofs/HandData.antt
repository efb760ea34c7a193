-- DATA is handed over on a live stream.
use Rattle.std.proofs.Common.{◌≡◌, ℕ, ◌+◌, ◌<◌, Bool, true, false, not, ◌&&◌, ◌||◌, ◌==◌, List, ◌∷◌, length, refl, sym, ◌∙◌, ap, subst, if◌then◌else◌, arith, pos, ◌-ℤ◌, le_refl}
use Rattle.ext_msgs.specs.declared.lists.Field.{Field}
use Rattle.h2_frames.specs.declared.frame.Frame.{Frame}
use Rattle.h2_frames.specs.declared.frame.Frame.TheVariants as frame
use Rattle.h2_model.specs.Log.{Handed, stream_of, total, is_empty}
use Rattle.h2_model.specs.Streams.{is_opened, is_live, is_reset, is_ended_by_peer, is_ended_here, heads_got}
use Rattle.h2_model.specs.Queue.{data_in}
use Rattle.h2_model.specs.Account.{Account, is_headless}
use Rattle.h2_model.specs.Windows.{data_sent, increment, data_received, increment_given, increment_owed, connection_window}
use Rattle.h2_model.specs.History.{frame_in, handed}
use Rattle.h2_model.specs.State.{seen, streams, live}
use Rattle.h2_model.specs.Moves.{adjust, adjusted, with_sent, handing, sending}
use Rattle.h2_model.specs.Valid.{Valid, is_lost, is_lost_entry, is_of_opened, is_update_owed}
use Rattle.h2_model.proofs.Lives.{bound}
use Rattle.h2_laws_log.proofs.Lists.{same-number, number-swapped, less-more, and-not, not-zero}
use Rattle.h2_laws_log.proofs.Queues.{other-data}
use Rattle.h2_laws_log.proofs.Same.{Same, live_by, live-is, one-moved, window-less}
use Rattle.h2_laws_log.proofs.Valids.{valid-moved, others-untouched}
use Rattle.h2_laws_log.proofs.Hand.{handing-is, handed-plain, sunk, sunk-updates, queue_by, held_by, sunk-data, all-queue-by, all-held-by, live-not-reset, opened-known, fixed-kept}
use Rattle.h2_laws_log.proofs.Brings.{live-opened}

-- the stream that ends here, or has DATA more
own-sent : (id n : ℕ) (o r p h last : Bool) (heads : List (List Field)) (inc sent rec giv owe : ℕ)
    → live_by id o r p (last || h) heads inc (sent + n) rec giv owe
    ≡ bound (live_by id o r p h heads inc sent rec giv owe) (adjust id (with_sent last n))
own-sent id n false r p h last heads inc sent rec giv owe = refl
own-sent id n true true p h last heads inc sent rec giv owe = refl
own-sent id n true false true true true heads inc sent rec giv owe = refl
own-sent id n true false true true false heads inc sent rec giv owe = refl
own-sent id n true false true false true heads inc sent rec giv owe = rw (same-number id) refl
own-sent id n true false true false false heads inc sent rec giv owe = rw (same-number id, less-more inc sent n) refl
own-sent id n true false false h last heads inc sent rec giv owe = rw (same-number id, less-more inc sent n) refl

pub still-live : (o r p x h : Bool) → (o && not r && not (p && (x || h))) ≡ true → (o && not r && not (p && h)) ≡ true
still-live true false true false h e = e
still-live true false true true h e = absurd cc
still-live true false false x h e = refl
still-live true true p x h e = absurd cc
still-live false r p x h e = absurd cc

module _ (id : ℕ) (bytes : List ℕ) (last : Bool) (size : ℕ) (c : Bool) (a : Account) (v : Valid a) where
  abbrev piece : Frame
  piece = frame.Data id bytes last size

  abbrev after : Account
  after = sunk c piece (record a { log = Handed piece ∷ a.log })

  sent-after : (n : ℕ) → data_sent n after ≡ data_sent n a + data_in n piece
  sent-after n = omega (arith, sunk-data n c piece a.waiting a.held)

  others : (n : ℕ) → 0 < n → (n == id) ≡ false → Same n a after
  others n p e = record {
    opened = refl;
    reset = refl;
    peer_ended = refl;
    here_ended = rw (other) refl;
    heads = refl;
    increments = refl;
    sent = let none : data_in n piece ≡ 0 = other-data n piece (not-zero n p) other in omega (arith, sent-after n);
    received = refl;
    given = refl;
    owed = refl;
  }
    where
      other : (id == n) ≡ false
      other = number-swapped id n ∙ e

  own-data : data_in id piece ≡ length bytes
  own-data = by (id == 0)
    where
      by : (z : Bool) → (if z || (id == id) then length bytes else 0) ≡ length bytes
      by true = refl
      by false = rw (same-number id) refl

  own : live id after ≡ bound (live id a) (adjust id (with_sent last (length bytes)))
  own =
      live-is id after
      ∙ (λ i. live_by id (is_opened id a.log) (is_reset id a.log) (is_ended_by_peer id a.log) (ends i) (heads_got id a.log)
      (total (increment id) a.log) (more i) (total (data_received id) a.log) (total (increment_given id) a.log)
      (total (increment_owed id) a.log))
      ∙ own-sent id (length bytes) (is_opened id a.log) (is_reset id a.log) (is_ended_by_peer id a.log)
      (is_ended_here id a.log) last (heads_got id a.log) (total (increment id) a.log) (data_sent id a)
      (total (data_received id) a.log) (total (increment_given id) a.log) (total (increment_owed id) a.log)
      ∙ ap (λ o. bound o (adjust id (with_sent last (length bytes)))) (sym (live-is id a))
    where
      ends : (((id == id) && last) || is_ended_here id a.log) ≡ (last || is_ended_here id a.log)
      ends = ap (λ x. (x && last) || is_ended_here id a.log) (same-number id)

      more : data_sent id after ≡ data_sent id a + length bytes
      more = sent-after id ∙ ap (λ k. data_sent id a + k) own-data

  streams-after : streams after ≡ adjusted id (with_sent last (length bytes)) (streams a)
  streams-after = one-moved a after id (with_sent last (length bytes)) v refl others own

  window-after : connection_window after ≡ connection_window a -ℤ pos (length bytes)
  window-after = window-less a after (length bytes) refl (sent-after 0)

  seen-after : seen after
      ≡ record (sending piece (seen a)) { waiting = queue_by c piece a.waiting; held = held_by c piece a.held }
  unfolding seen sending
  seen-after = λ i. record (seen a) {
    window = window-after i;
    streams = streams-after i;
    waiting = queue_by c piece a.waiting;
    held = held_by c piece a.held;
  }

  valid-after : is_live id a.log ≡ true → Valid after
  valid-after l = valid-moved a after v (record {
    opened = refl;
    untouched = others-untouched a after id known others;
    lives = λ n. still-live (is_opened n a.log) (is_reset n a.log) (is_ended_by_peer n a.log) ((id == n) && last)
        (is_ended_here n a.log);
    received = λ n. refl;
    given = λ n. le_refl (total (increment_given n) a.log);
    owed = λ n. refl;
    waiting = all-queue-by (λ w. is_of_opened a.log (stream_of w.frame) ≡ true)
        (λ w h. h) c piece a.waiting known v.waiting;
    held = all-held-by (λ e. is_of_opened a.log (stream_of (frame_in e)) ≡ true) c piece a.held known v.held;
    waiting_kept = all-queue-by (λ w. is_lost a.log w ≡ false) (fixed-kept a.log) c piece a.waiting lasts v.waiting_kept;
    held_kept = all-held-by (λ e. is_lost_entry a.log e ≡ false) c piece a.held lasts v.held_kept;
    held_owed = all-held-by (λ e. is_update_owed e ≡ false) c piece a.held refl v.held_owed;
    updates = λ n. omega (arith, v.updates n, sunk-updates n c piece a.waiting refl);
  })
    where
      known : is_of_opened a.log id ≡ true
      known = opened-known id a.log (live-opened id a.log l)

      lasts : (not (is_empty bytes) && is_reset id a.log) ≡ false
      lasts = rw (live-not-reset id a.log l) (and-not (not (is_empty bytes)))

-- what is kept, after DATA was handed over on a live stream
pub data-seen : (id : ℕ) (bytes : List ℕ) (last : Bool) (size : ℕ) (a : Account) → Valid a
    → seen (handed (frame.Data id bytes last size) a) ≡ handing (is_headless a id) (frame.Data id bytes last size) (seen a)
unfolding seen sending
data-seen id bytes last size a v =
    ap seen (handed-plain (frame.Data id bytes last size) a v refl)
    ∙ seen-after id bytes last size (is_headless a id) a v
    ∙ sym (handing-is (is_headless a id) (frame.Data id bytes last size) a)

pub data-valid : (id : ℕ) (bytes : List ℕ) (last : Bool) (size : ℕ) (a : Account) → Valid a → is_live id a.log ≡ true
    → Valid (handed (frame.Data id bytes last size) a)
data-valid id bytes last size a v l =
    subst Valid (sym (handed-plain (frame.Data id bytes last size) a v refl))
    (valid-after id bytes last size (is_headless a id) a v l)
