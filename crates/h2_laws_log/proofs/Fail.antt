-- A connection error: the windows stay as they are, since DATA that is dropped still counts.
use Rattle.std.proofs.Common.{◌≡◌, ℕ, true, false, not, List, [], ◌∷◌, ◌++◌, refl, ap, filter, map, All, arith, Some, None, le_refl}
use Rattle.std.proofs.lemmas.List.Elements.{All-nil, All-cons, All-append, All-filter}
use Rattle.h2_frames.specs.declared.frame.Frame.{Frame}
use Rattle.h2_frames.specs.declared.frame.Frame.TheVariants as frame
use Rattle.h2_model.specs.Log.{Handed, stream_of, total, violation}
use Rattle.h2_model.specs.Streams.{opened}
use Rattle.h2_model.specs.Queue.{Waiting, fresh, queued, is_free_content}
use Rattle.h2_model.specs.Account.{Account, is_headless}
use Rattle.h2_model.specs.Windows.{held_data, data_sent, increment_given, connection_window}
use Rattle.h2_model.specs.History.{frame_in, violated, last_of_peer}
use Rattle.h2_model.specs.State.{seen, streams}
use Rattle.h2_model.specs.Valid.{Valid, is_lost, is_lost_entry, is_of_opened, is_update_owed}
use Rattle.h2_laws_log.specs.Sound.{CallsSound, has_left, may_be_held}
use Rattle.h2_laws_log.specs.Calling.{failing}
use Rattle.h2_laws_log.proofs.Queues.{queued-cons, queued-append, queued-split, held-append, updates-append, updates-kept}
use Rattle.h2_laws_log.proofs.Same.{Same, same-untouched, none-moved}
use Rattle.h2_laws_log.proofs.Valids.{valid-moved}
use Rattle.h2_laws_log.proofs.Sounds.{fresh-left}
use Rattle.h2_laws_log.proofs.Receives.{window-stays}

dropped-data : (n : ℕ) (queue : List Waiting) → held_data n (map (λ w. Handed w.frame) queue) ≡ queued n queue
dropped-data n [] = refl
dropped-data n (w ∷ queue) = omega (arith, queued-cons n w queue, dropped-data n queue)

module _ (code : ℕ) (a : Account) (v : Valid a) (s : CallsSound a) (e : violation a.log ≡ None) where
  abbrev goaway : Frame
  goaway = frame.GoAway (last_of_peer a) code

  sent-after : (n : ℕ) → data_sent n (violated code a) ≡ data_sent n a
  sent-after n =
      let none : held_data n a.lost ≡ 0 = ap (held_data n) (s.lost e) in
      omega (
        arith,
        none,
        queued-append n (filter (λ w. not (is_free_content w)) a.waiting) (fresh goaway ∷ []),
        queued-cons n (fresh goaway) [],
        held-append n a.held (map (λ w. Handed w.frame) (filter is_free_content a.waiting)),
        dropped-data n (filter is_free_content a.waiting),
        queued-split n is_free_content a.waiting,
      )

  same-after : (n : ℕ) → Same n a (violated code a)
  same-after n = record {
    opened = refl;
    reset = refl;
    peer_ended = refl;
    here_ended = refl;
    heads = refl;
    increments = refl;
    sent = sent-after n;
    received = refl;
    given = refl;
    owed = refl;
  }

  pub fail-seen : seen (violated code a) ≡ failing (last_of_peer a) code (seen a)
  unfolding seen failing
  fail-seen =
      let s : streams (violated code a) ≡ streams a = none-moved a (violated code a) v refl (λ n p. same-after n) in
      let w : connection_window (violated code a) ≡ connection_window a =
      window-stays a (violated code a) refl (sent-after 0) in
      λ i. record (seen a) {
        violation = Some code;
        window = w i;
        streams = s i;
        waiting = filter (λ w. not (is_free_content w)) a.waiting ++ fresh goaway ∷ [];
        held = [];
      }

  pub fail-valid : Valid (violated code a)
  fail-valid = valid-moved a (violated code a) v (record {
    opened = refl;
    untouched = λ n l o u. same-untouched n a (violated code a) (same-after n) u;
    lives = λ n l. l;
    received = λ n. refl;
    given = λ n. le_refl (total (increment_given n) a.log);
    owed = λ n. refl;
    waiting = behind-goaway (λ w. is_of_opened a.log (stream_of w.frame) ≡ true) refl v.waiting;
    held = All-nil (λ x. is_of_opened a.log (stream_of (frame_in x)) ≡ true);
    waiting_kept = behind-goaway (λ w. is_lost a.log w ≡ false) refl v.waiting_kept;
    held_kept = All-nil (λ x. is_lost_entry a.log x ≡ false);
    held_owed = All-nil (λ x. is_update_owed x ≡ false);
    updates = λ n. omega (
      arith,
      v.updates n,
      updates-append n (filter (λ w. not (is_free_content w)) a.waiting)
          (fresh goaway ∷ []),
      updates-kept n (λ w. not (is_free_content w)) a.waiting,
    );
  })
    where
      behind-goaway : (P : Waiting → Type 0) → P (fresh goaway) → All P a.waiting
          → All P (filter (λ w. not (is_free_content w)) a.waiting ++ fresh goaway ∷ [])
      behind-goaway P p h =
          All-append P (filter (λ w. not (is_free_content w)) a.waiting) (fresh goaway ∷ [])
          (All-filter (λ w. not (is_free_content w)) P a.waiting h) (All-cons P (fresh goaway) [] p (All-nil P))

pub fail-sound : (code : ℕ) (a : Account) → CallsSound a → CallsSound (violated code a)
fail-sound code a s =
    let goaway : Waiting = fresh (frame.GoAway (last_of_peer a) code) in
    record {
      left = All-append (λ w. has_left w ≡ true) (filter (λ w. not (is_free_content w)) a.waiting) (goaway ∷ [])
          (All-filter (λ w. not (is_free_content w)) (λ w. has_left w ≡ true) a.waiting s.left)
          (All-cons (λ w. has_left w ≡ true) goaway [] (fresh-left goaway.frame) (All-nil (λ w. has_left w ≡ true)));
      holds = All-nil (λ x. may_be_held (violated code a).log x ≡ true);
      lost = λ n. absurd cc;
    }

pub fail-opened : (code : ℕ) (a : Account) → opened (violated code a).log ≡ opened a.log
fail-opened code a = refl

pub fail-headless : (code : ℕ) (a : Account) (k : ℕ) → is_headless (violated code a) k ≡ is_headless a k
fail-headless code a k = refl
