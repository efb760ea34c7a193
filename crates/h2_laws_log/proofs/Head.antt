-- HEADERS are handed over, and behind them goes what was held for their stream.
use Rattle.std.proofs.Common.{◌≡◌, ℕ, ◌<◌, Bool, true, false, not, ◌&&◌, ◌||◌, ◌==◌, List, ◌∷◌, refl, sym, ◌∙◌, ap, subst, if◌then◌else◌, filter, All, arith, le_refl}
use Rattle.std.proofs.lemmas.List.Elements.{All-filter, All-weaker}
use Rattle.ext_msgs.specs.declared.lists.Field.{Field}
use Rattle.h2_frames.specs.declared.frame.Frame.{Frame}
use Rattle.h2_frames.specs.declared.frame.Frame.TheVariants as frame
use Rattle.h2_model.specs.Log.{LogEntry, Handed, stream_of, total}
use Rattle.h2_model.specs.Streams.{opened, is_opened, is_reset, is_ended_by_peer, is_ended_here, heads_got, has_head}
use Rattle.h2_model.specs.Queue.{fresh, entered}
use Rattle.h2_model.specs.Account.{Account, is_headless}
use Rattle.h2_model.specs.Windows.{data_sent, increment, data_received, increment_given, increment_owed, connection_window}
use Rattle.h2_model.specs.History.{frame_in, is_of, headed, released}
use Rattle.h2_model.specs.State.{seen, streams, live}
use Rattle.h2_model.specs.Moves.{adjust, adjusted, with_block_sent, sending}
use Rattle.h2_model.specs.Valid.{Valid, is_lost, is_lost_entry, is_of_opened, is_update_owed}
use Rattle.h2_model.proofs.Lives.{bound}
use Rattle.h2_laws_log.specs.Sound.{may_be_held}
use Rattle.h2_laws_log.specs.Calling.{all_entered, heading}
use Rattle.h2_laws_log.proofs.Lists.{same-number, number-swapped, and-not}
use Rattle.h2_laws_log.proofs.Queues.{queued-entered, updates-entered, held-split, all-entered}
use Rattle.h2_laws_log.proofs.Same.{Same, live_by, live-is, one-moved}
use Rattle.h2_laws_log.proofs.Valids.{valid-moved, others-untouched}
use Rattle.h2_laws_log.proofs.Hand.{noted-handed, fixed-kept, opened-known}
use Rattle.h2_laws_log.proofs.HandData.{still-live}
use Rattle.h2_laws_log.proofs.Release.{log_after, all-held-still, released-is, after-same, after-seen, after-valid, entered-data, entered-updates, all-all-entered, fresh-kept}
use Rattle.h2_laws_log.proofs.Receives.{window-stays}

own-ended : (id : ℕ) (o r p h last : Bool) (heads : List (List Field)) (inc sent rec giv owe : ℕ)
    → live_by id o r p (last || h) heads inc sent rec giv owe
    ≡ bound (live_by id o r p h heads inc sent rec giv owe) (adjust id (with_block_sent last))
own-ended id false r p h last heads inc sent rec giv owe = refl
own-ended id true true p h last heads inc sent rec giv owe = refl
own-ended id true false true true true heads inc sent rec giv owe = refl
own-ended id true false true true false heads inc sent rec giv owe = refl
own-ended id true false true false true heads inc sent rec giv owe = rw (same-number id) refl
own-ended id true false true false false heads inc sent rec giv owe = rw (same-number id) refl
own-ended id true false false h last heads inc sent rec giv owe = rw (same-number id) refl

module _ (id : ℕ) (block : List ℕ) (last ends : Bool) (a : Account) (v : Valid a)
    (t : All (λ e. may_be_held a.log e ≡ true) a.held) where
  abbrev head : Frame
  head = frame.Headers id block last ends

  abbrev out : List LogEntry
  out = filter (is_of id) a.held

  abbrev rest : List LogEntry
  rest = filter (λ e. not (is_of id e)) a.held

  -- before the resets that were held are noted again
  abbrev after : Account
  after = record a { log = Handed head ∷ a.log; waiting = all_entered out (entered head a.waiting); held = rest }

  holds-out : All (λ e. may_be_held a.log e ≡ true) out
  holds-out = All-filter (is_of id) (λ e. may_be_held a.log e ≡ true) a.held t

  holds-after : All (λ e. may_be_held (Handed head ∷ a.log) e ≡ true) out
  holds-after = all-held-still a.log (Handed head ∷ a.log) out (λ k r. r) holds-out

  kept-out : All (λ e. is_lost_entry a.log e ≡ false) out
  kept-out = All-filter (is_of id) (λ e. is_lost_entry a.log e ≡ false) a.held v.held_kept

  kept-rest : All (λ e. is_lost_entry a.log e ≡ false) rest
  kept-rest = All-filter (λ e. not (is_of id e)) (λ e. is_lost_entry a.log e ≡ false) a.held v.held_kept

  kept-waiting-after : All (λ w. is_lost a.log w ≡ false) (entered head a.waiting)
  kept-waiting-after = all-entered (λ w. is_lost a.log w ≡ false) (fixed-kept a.log) head a.waiting refl v.waiting_kept

  pub headed-is : headed id head a ≡ record after { log = log_after out after.log }
  headed-is =
      ap (λ b. released (filter (is_of id) b.held)
      (record b { waiting = entered head b.waiting; held = filter (λ e. not (is_of id e)) b.held }))
      (noted-handed head a v refl)
      ∙ released-is out (record a { log = Handed head ∷ a.log; waiting = entered head a.waiting; held = rest }) (record {
        waiting = kept-waiting-after;
        others = kept-rest;
        kept = kept-out;
        holds = holds-after;
      })

  sent-after : (n : ℕ) → data_sent n after ≡ data_sent n a
  sent-after n =
      omega (
        arith,
        entered-data n a.log out
            (entered head a.waiting) holds-out,
        queued-entered n head a.waiting,
        held-split n (is_of id) a.held,
      )

  others : (n : ℕ) → 0 < n → (n == id) ≡ false → Same n a after
  others n p e = record {
    opened = refl;
    reset = refl;
    peer_ended = refl;
    here_ended = rw (number-swapped id n, e) refl;
    heads = refl;
    increments = refl;
    sent = sent-after n;
    received = refl;
    given = refl;
    owed = refl;
  }

  own : live id after ≡ bound (live id a) (adjust id (with_block_sent last))
  own =
      live-is id after
      ∙ (λ i. live_by id (is_opened id a.log) (is_reset id a.log) (is_ended_by_peer id a.log) (ended i) (heads_got id a.log)
      (total (increment id) a.log) (sent-after id i) (total (data_received id) a.log) (total (increment_given id) a.log)
      (total (increment_owed id) a.log))
      ∙ own-ended id (is_opened id a.log) (is_reset id a.log) (is_ended_by_peer id a.log) (is_ended_here id a.log) last
      (heads_got id a.log) (total (increment id) a.log) (data_sent id a) (total (data_received id) a.log)
      (total (increment_given id) a.log) (total (increment_owed id) a.log)
      ∙ ap (λ o. bound o (adjust id (with_block_sent last))) (sym (live-is id a))
    where
      ended : (((id == id) && last) || is_ended_here id a.log) ≡ (last || is_ended_here id a.log)
      ended = ap (λ x. (x && last) || is_ended_here id a.log) (same-number id)

  streams-after : streams after ≡ adjusted id (with_block_sent last) (streams a)
  streams-after = one-moved a after id (with_block_sent last) v refl others own

  window-after : connection_window after ≡ connection_window a
  window-after = window-stays a after refl (sent-after 0)

  seen-after : seen after ≡ heading id head (seen a)
  unfolding seen sending heading
  seen-after = λ i. record (seen a) {
    known = (seen a).limit;
    window = window-after i;
    streams = streams-after i;
    waiting = all_entered out (entered head a.waiting);
    held = rest;
  }

  valid-after : is_opened id a.log ≡ true → Valid after
  valid-after o = valid-moved a after v (record {
    opened = refl;
    untouched = others-untouched a after id known others;
    lives = λ n. still-live (is_opened n a.log) (is_reset n a.log) (is_ended_by_peer n a.log) ((id == n) && last)
        (is_ended_here n a.log);
    received = λ n. refl;
    given = λ n. le_refl (total (increment_given n) a.log);
    owed = λ n. refl;
    waiting = all-all-entered (λ w. is_of_opened a.log (stream_of w.frame) ≡ true) (λ w h. h) out (entered head a.waiting)
        (All-filter (is_of id) (λ e. is_of_opened a.log (stream_of (frame_in e)) ≡ true) a.held v.held)
        (all-entered (λ w. is_of_opened a.log (stream_of w.frame) ≡ true) (λ w h. h) head a.waiting known v.waiting);
    held = All-filter (λ e. not (is_of id e)) (λ e. is_of_opened a.log (stream_of (frame_in e)) ≡ true) a.held v.held;
    waiting_kept = all-all-entered (λ w. is_lost a.log w ≡ false) (fixed-kept a.log) out (entered head a.waiting)
        (All-weaker (λ e. is_lost_entry a.log e ≡ false) (λ e. is_lost a.log (fresh (frame_in e)) ≡ false)
        (fresh-kept a.log) out kept-out) kept-waiting-after;
    held_kept = kept-rest;
    held_owed = All-filter (λ e. not (is_of id e)) (λ e. is_update_owed e ≡ false) a.held v.held_owed;
    updates = λ n. omega (
      arith,
      v.updates n,
      entered-updates n a.log out
          (entered head a.waiting) holds-out,
      updates-entered n head a.waiting,
    );
  })
    where
      known : is_of_opened a.log id ≡ true
      known = opened-known id a.log o

  pub head-seen : seen (headed id head a) ≡ heading id head (seen a)
  head-seen = ap seen headed-is ∙ after-seen out after holds-after ∙ seen-after

  pub head-valid : is_opened id a.log ≡ true → Valid (headed id head a)
  head-valid o = subst Valid (sym headed-is) (after-valid out after holds-after (valid-after o))

  pub head-opened : opened (headed id head a).log ≡ opened a.log
  head-opened = ap (λ b. opened b.log) headed-is ∙ after-same opened (λ k code log r. refl) out after.log holds-after

  pub head-headless : (k : ℕ) → is_headless (headed id head a) k ≡ (if id == k then false else is_headless a k)
  head-headless k =
      ap (λ b. is_headless b k) headed-is
      ∙ after-same (λ log. a.client && is_opened k log && not (has_head k log))
      (λ n code log r. refl) out after.log holds-after
      ∙ by (id == k)
    where
      by : (c : Bool) → (a.client && is_opened k a.log && not (c || has_head k a.log))
          ≡ (if c then false else a.client && is_opened k a.log && not (has_head k a.log))
      by true = and-not (a.client && is_opened k a.log)
      by false = refl
