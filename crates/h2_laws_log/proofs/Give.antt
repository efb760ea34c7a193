-- The last byte of the first frame was given, or some of its bytes.
use Rattle.std.proofs.Common.{◌≡◌, ℕ, zero, suc, ◌+◌, ◌-◌, ◌<◌, ◌≤◌, Bool, true, false, not, ◌&&◌, ◌==◌, List, ◌∷◌, drop, refl, sym, ◌∙◌, ap, arith, le_refl}
use Rattle.std.proofs.lemmas.List.Elements.{All-head, All-tail, All-cons}
use Rattle.std.proofs.lemmas.List.Sums.{sum_by-cons}
use Rattle.std.proofs.Math.Dec.{eqb-suc-zero}
use Rattle.ext_msgs.specs.declared.lists.Field.{Field}
use Rattle.h2_frames.specs.declared.frame.Frame.{Frame}
use Rattle.h2_frames.specs.declared.frame.Frame.TheVariants as frame
use Rattle.h2_model.specs.declared.stream.Stream.{Stream}
use Rattle.h2_model.specs.Log.{Given, Owed, stream_of, total}
use Rattle.h2_model.specs.Streams.{is_opened, is_reset, is_ended_by_peer, is_ended_here, heads_got}
use Rattle.h2_model.specs.Queue.{Waiting, data_in}
use Rattle.h2_model.specs.Account.{Account}
use Rattle.h2_model.specs.Windows.{data_sent, data_given, increment, data_received, increment_given, increment_owed, connection_window, receiving_window}
use Rattle.h2_model.specs.State.{seen, streams, live}
use Rattle.h2_model.specs.Moves.{adjust, adjusted, with_room, giving}
use Rattle.h2_model.specs.Valid.{Valid, is_lost, is_of_opened}
use Rattle.h2_model.proofs.Lives.{bound}
use Rattle.h2_laws_log.proofs.Lists.{same-number, number-swapped, not-zero}
use Rattle.h2_laws_log.proofs.Queues.{queued-cons}
use Rattle.h2_laws_log.proofs.Same.{Same, same-untouched, live_by, live-is, one-moved, none-moved}
use Rattle.h2_laws_log.proofs.Valids.{valid-moved, others-untouched}
use Rattle.h2_laws_log.proofs.Hand.{fixed-kept}
use Rattle.h2_laws_log.proofs.Receives.{window-stays}

-- DATA counts as before, waiting or given
given-data : (n : ℕ) (f : Frame) → data_given n (Given f) ≡ data_in n f
given-data n (frame.Data id bytes last size) = refl
given-data n f = refl

-- and increments as they were owed
given-update : (n : ℕ) (f : Frame) → increment_given n (Given f) ≡ increment_owed n (Owed f)
given-update n (frame.Window id k) = refl
given-update n f = refl

-- only an update widens a receiving window, that of its stream
other-room : (n : ℕ) (f : Frame) → (stream_of f == n) ≡ false → increment_given n (Given f) ≡ 0
other-room n (frame.Window id k) e = rw e refl
other-room n f e = refl

abbrev is_update : Frame → Bool
is_update (frame.Window id k) = true
is_update f = false

no-room : (n : ℕ) (f : Frame) → is_update f ≡ false → increment_given n (Given f) ≡ 0
no-room n (frame.Window id k) e = absurd cc
no-room n f e = refl

own-room : (id k : ℕ) (o r p h : Bool) (heads : List (List Field)) (inc sent rec giv owe : ℕ)
    → ((o && not r && not (p && h)) ≡ true → rec ≤ 65535 + giv)
    → live_by id o r p h heads inc sent rec (k + giv) owe
    ≡ bound (live_by id o r p h heads inc sent rec giv owe) (adjust id (with_room k))
own-room id k false r p h heads inc sent rec giv owe l = refl
own-room id k true true p h heads inc sent rec giv owe l = refl
own-room id k true false true true heads inc sent rec giv owe l = refl
own-room id k true false true false heads inc sent rec giv owe l =
    let wide : 65535 + (k + giv) - rec ≡ (65535 + giv - rec) + k = let w : rec ≤ 65535 + giv = l refl in omega arith in
    rw (same-number id, wide) refl
own-room id k true false false h heads inc sent rec giv owe l =
    let wide : 65535 + (k + giv) - rec ≡ (65535 + giv - rec) + k = let w : rec ≤ 65535 + giv = l refl in omega arith in
    rw (same-number id, wide) refl

module _ (w : Waiting) (queue : List Waiting) (a : Account) (v : Valid (record a { waiting = w ∷ queue })) where
  abbrev before : Account
  before = record a { waiting = w ∷ queue }

  abbrev after : Account
  after = record a { log = Given w.frame ∷ a.log; waiting = queue }

  sent-after : (n : ℕ) → data_sent n after ≡ data_sent n before
  sent-after n =
      omega (arith, sum_by-cons (data_given n) (Given w.frame) a.log, given-data n w.frame, queued-cons n w queue)

  room-after : (n : ℕ) → total (increment_given n) after.log
      ≡ increment_given n (Given w.frame) + total (increment_given n) a.log
  room-after n = sum_by-cons (increment_given n) (Given w.frame) a.log

  no-room-after : (n : ℕ) → increment_given n (Given w.frame) ≡ 0 → total (increment_given n) after.log
      ≡ total (increment_given n) a.log
  no-room-after n e = omega (arith, room-after n, e)

  same-but : (n : ℕ) → increment_given n (Given w.frame) ≡ 0 → Same n before after
  same-but n e = record {
    opened = refl;
    reset = refl;
    peer_ended = refl;
    here_ended = refl;
    heads = refl;
    increments = refl;
    sent = sent-after n;
    received = refl;
    given = no-room-after n e;
    owed = refl;
  }

  others : (n : ℕ) → 0 < n → (n == stream_of w.frame) ≡ false → Same n before after
  others n p e = same-but n (other-room n w.frame (number-swapped (stream_of w.frame) n ∙ e))

  window-after : connection_window after ≡ connection_window before
  window-after = window-stays before after refl (sent-after 0)

  pub gave-valid : Valid after
  gave-valid = valid-moved before after v (record {
    opened = refl;
    untouched = others-untouched before after (stream_of w.frame)
        (All-head (λ x. is_of_opened a.log (stream_of x.frame) ≡ true) w queue v.waiting) others;
    lives = λ n l. l;
    received = λ n. refl;
    given = λ n. omega (arith, room-after n);
    owed = λ n. refl;
    waiting = All-tail (λ x. is_of_opened a.log (stream_of x.frame) ≡ true) w queue v.waiting;
    held = v.held;
    waiting_kept = All-tail (λ x. is_lost a.log x ≡ false) w queue v.waiting_kept;
    held_kept = v.held_kept;
    held_owed = v.held_owed;
    updates = λ n. omega (arith, v.updates n, room-after n, given-update n w.frame);
  })

  seen-by : (s : List Stream) (r : ℕ) → streams after ≡ s → receiving_window 0 after.log ≡ r → seen after
      ≡ record (seen before) { receive = r; streams = s; waiting = queue }
  unfolding seen
  seen-by s r e f = λ i. record (seen before) { window = window-after i; receive = f i; streams = e i; waiting = queue }

  plain-seen : is_update w.frame ≡ false → seen after ≡ record (seen before) { waiting = queue }
  unfolding seen
  plain-seen u = seen-by (streams before) (receiving_window 0 a.log)
      (none-moved before after v refl (λ n p. same-but n (no-room n w.frame u)))
      (ap (λ g. 65535 + g - total (data_received 0) a.log) (no-room-after 0 (no-room 0 w.frame u)))

  connection-seen : (k : ℕ) → w.frame ≡ frame.Window 0 k → seen after
      ≡ record (seen before) { receive = receiving_window 0 a.log + k; waiting = queue }
  unfolding seen
  connection-seen k e = seen-by (streams before) (receiving_window 0 a.log + k)
      (none-moved before after v refl (λ n p. others n p (ap (λ f. n == stream_of f) e ∙ not-zero n p)))
      (let wide : total (data_received 0) a.log ≤ 65535 + total (increment_given 0) a.log = v.received in
      let more : increment_given 0 (Given w.frame) ≡ k = ap (λ f. increment_given 0 (Given f)) e in
      omega (arith, room-after 0, more, wide))

  stream-seen : (id k : ℕ) → w.frame ≡ frame.Window (suc id) k → seen after
      ≡ record (seen before) { streams = adjusted (suc id) (with_room k) (streams before); waiting = queue }
  unfolding seen
  stream-seen id k e = seen-by (adjusted (suc id) (with_room k) (streams before)) (receiving_window 0 a.log)
      (one-moved before after (suc id) (with_room k) v refl (λ n p x. others n p (ap (λ f. n == stream_of f) e ∙ x)) own)
      (ap (λ g. 65535 + g - total (data_received 0) a.log)
      (no-room-after 0 (other-room 0 w.frame (ap (λ f. stream_of f == 0) e ∙ eqb-suc-zero id))))
    where
      more : total (increment_given (suc id)) after.log ≡ k + total (increment_given (suc id)) a.log
      more = room-after (suc id) ∙ ap (λ f. increment_given (suc id) (Given f) + total (increment_given (suc id)) a.log) e
          ∙ rw (same-number (suc id)) refl

      own : live (suc id) after ≡ bound (live (suc id) before) (adjust (suc id) (with_room k))
      own =
          live-is (suc id) after
          ∙ (λ i. live_by (suc id) (is_opened (suc id) a.log) (is_reset (suc id) a.log) (is_ended_by_peer (suc id) a.log)
          (is_ended_here (suc id) a.log) (heads_got (suc id) a.log) (total (increment (suc id)) a.log)
          (sent-after (suc id) i) (total (data_received (suc id)) a.log) (more i)
          (total (increment_owed (suc id)) a.log))
          ∙ own-room (suc id) k (is_opened (suc id) a.log) (is_reset (suc id) a.log) (is_ended_by_peer (suc id) a.log)
          (is_ended_here (suc id) a.log) (heads_got (suc id) a.log) (total (increment (suc id)) a.log)
          (data_sent (suc id) before) (total (data_received (suc id)) a.log) (total (increment_given (suc id)) a.log)
          (total (increment_owed (suc id)) a.log) (v.received_on (suc id))
          ∙ ap (λ o. bound o (adjust (suc id) (with_room k))) (sym (live-is (suc id) before))

  by-frame : (f : Frame) → w.frame ≡ f → seen after ≡ record (giving f (seen before)) { waiting = queue }
  unfolding seen giving
  by-frame (frame.Window zero k) e = connection-seen k e
  by-frame (frame.Window (suc id) k) e = stream-seen id k e
  by-frame f e = plain-seen (ap is_update e)

  pub gave-seen : seen after ≡ record (giving w.frame (seen before)) { waiting = queue }
  gave-seen = by-frame w.frame refl

-- Some bytes of the first frame were given

abbrev pub begun : ℕ → Waiting → Waiting
begun n w = record w { left = drop n w.left; fixed = true }

begun-same : (n : ℕ) (w : Waiting) (queue : List Waiting) (a : Account) (k : ℕ)
    → Same k (record a { waiting = w ∷ queue }) (record a { waiting = begun n w ∷ queue })
begun-same n w queue a k = record {
  opened = refl;
  reset = refl;
  peer_ended = refl;
  here_ended = refl;
  heads = refl;
  increments = refl;
  sent = omega (arith, queued-cons k w queue, queued-cons k (begun n w) queue);
  received = refl;
  given = refl;
  owed = refl;
}

pub begun-seen : (n : ℕ) (w : Waiting) (queue : List Waiting) (a : Account) → Valid (record a { waiting = w ∷ queue })
    → seen (record a { waiting = begun n w ∷ queue })
    ≡ record (seen (record a { waiting = w ∷ queue })) { waiting = begun n w ∷ queue }
unfolding seen
begun-seen n w queue a v =
    let x : Account = record a { waiting = w ∷ queue } in
    let y : Account = record a { waiting = begun n w ∷ queue } in
    let s : streams y ≡ streams x = none-moved x y v refl (λ k p. begun-same n w queue a k) in
    let t : connection_window y ≡ connection_window x = window-stays x y refl ((begun-same n w queue a 0).sent) in
    λ i. record (seen x) { window = t i; streams = s i; waiting = begun n w ∷ queue }

pub begun-valid : (n : ℕ) (w : Waiting) (queue : List Waiting) (a : Account) → Valid (record a { waiting = w ∷ queue })
    → Valid (record a { waiting = begun n w ∷ queue })
begun-valid n w queue a v =
    valid-moved (record a { waiting = w ∷ queue }) (record a { waiting = begun n w ∷ queue }) v (record {
      opened = refl;
      untouched = λ k l o u. same-untouched k (record a { waiting = w ∷ queue }) (record a { waiting = begun n w ∷ queue })
          (begun-same n w queue a k) u;
      lives = λ k l. l;
      received = λ k. refl;
      given = λ k. le_refl (total (increment_given k) a.log);
      owed = λ k. refl;
      waiting = All-cons (λ x. is_of_opened a.log (stream_of x.frame) ≡ true) (begun n w) queue
          (All-head (λ x. is_of_opened a.log (stream_of x.frame) ≡ true) w queue v.waiting)
          (All-tail (λ x. is_of_opened a.log (stream_of x.frame) ≡ true) w queue v.waiting);
      held = v.held;
      waiting_kept = All-cons (λ x. is_lost a.log x ≡ false) (begun n w) queue
          (fixed-kept a.log w (All-head (λ x. is_lost a.log x ≡ false) w queue v.waiting_kept))
          (All-tail (λ x. is_lost a.log x ≡ false) w queue v.waiting_kept);
      held_kept = v.held_kept;
      held_owed = v.held_owed;
      updates = v.updates;
    })
