-- Bytes are taken.
use Rattle.std.proofs.Common.{◌≡◌, ℕ, zero, suc, ◌+◌, ◌-◌, ◌≤◌, Bool, true, false, not, ◌&&◌, ◌==◌, List, [], ◌∷◌, length, refl, sym, ◌∙◌, ap, if◌then◌else◌, All, arith, nat_lt, eqb-true, ltb-false, true≢false, sum_by}
use Rattle.std.proofs.lemmas.List.Elements.{All-head, All-tail}
use Rattle.std.proofs.lemmas.List.Sums.{sum_by-cons}
use Rattle.h2_frames.specs.declared.frame.Frame.{Frame}
use Rattle.h2_frames.specs.declared.frame.Frame.TheVariants as frame
use Rattle.h2_model.specs.Log.{Log, Given, is_empty}
use Rattle.h2_model.specs.Streams.{opened, is_opened, has_head}
use Rattle.h2_model.specs.Queue.{Waiting, queued, data_in, behind, whole_within}
use Rattle.h2_model.specs.Account.{Account, is_headless}
use Rattle.h2_model.specs.History.{given, called, Take}
use Rattle.h2_model.specs.State.{State, seen}
use Rattle.h2_model.specs.Moves.{giving, giving_all}
use Rattle.h2_model.specs.Valid.{Valid}
use Rattle.h2_laws_log.specs.Sound.{CallsSound, has_left}
use Rattle.h2_laws_log.specs.Calling.{taking}
use Rattle.h2_laws_log.proofs.Queues.{queued-cons}
use Rattle.h2_laws_log.proofs.Give.{gave-seen, gave-valid, begun, begun-seen, begun-valid}

-- a frame that waits has bytes left, so no bytes make none whole
some-left : (n : ℕ) (w : Waiting) → has_left w ≡ true → (n == 0) ≡ true → nat_lt n (length w.left) ≡ false → ⊥
some-left n w h z l = by w.left h (ltb-false n (length w.left) l)
  where
    none : n ≡ 0
    none = eqb-true n 0 z

    by : (xs : List ℕ) → not (is_empty xs) ≡ true → length xs ≤ n → ⊥
    by [] h l = true≢false (sym h)
    by (x ∷ xs) h l = omega (arith, none)

giving-queue : (f : Frame) (queue : List Waiting) (s : State) → giving f (record s { waiting = queue })
    ≡ record (giving f s) { waiting = queue }
unfolding giving
giving-queue (frame.Window zero k) queue s = refl
giving-queue (frame.Window (suc id) k) queue s = refl
giving-queue f queue s = refl

giving-all-queue : (frames : List Frame) (queue : List Waiting) (s : State)
    → giving_all frames (record s { waiting = queue }) ≡ record (giving_all frames s) { waiting = queue }
giving-all-queue [] queue s = refl
giving-all-queue (f ∷ frames) queue s = ap (giving_all frames) (giving-queue f queue s)
    ∙ giving-all-queue frames queue (giving f s)

-- the first frame is given whole, or begun, or no byte is

pub taken-seen : (n : ℕ) (queue : List Waiting) (a : Account) → Valid (record a { waiting = queue })
    → All (λ w. has_left w ≡ true) queue
    → seen (record a { log = given (whole_within n queue) a.log; waiting = behind n queue })
    ≡ record (giving_all (whole_within n queue) (seen (record a { waiting = queue }))) { waiting = behind n queue }
unfolding seen
taken-seen n [] a v h = refl
taken-seen n (w ∷ queue) a v h =
    by (n == 0) refl (nat_lt n (length w.left)) refl
    (taken-seen (n - length w.left) queue (record a { log = Given w.frame ∷ a.log }) (gave-valid w queue a v)
    (All-tail (λ x. has_left x ≡ true) w queue h))
  where
    by : (z : Bool) → (n == 0) ≡ z → (c : Bool) → nat_lt n (length w.left) ≡ c
        → seen (record a {
          log = given (whole_within (n - length w.left) queue) (Given w.frame ∷ a.log);
          waiting = behind (n - length w.left) queue;
        })
        ≡ record (giving_all (whole_within (n - length w.left) queue)
        (seen (record a { log = Given w.frame ∷ a.log; waiting = queue }))) {
          waiting = behind (n - length w.left) queue;
        }
        → seen (record a {
          log = given (if c then [] else w.frame ∷ whole_within (n - length w.left) queue) a.log;
          waiting = if z then w ∷ queue else if c then begun n w ∷ queue else behind (n - length w.left) queue;
        })
        ≡ record (giving_all (if c then [] else w.frame ∷ whole_within (n - length w.left) queue)
        (seen (record a { waiting = w ∷ queue }))) {
          waiting = if z then w ∷ queue else if c then begun n w ∷ queue else behind (n - length w.left) queue;
        }
    by true z true l ih = refl
    by true z false l ih = absurd (some-left n w (All-head (λ x. has_left x ≡ true) w queue h) z l)
    by false z true l ih = begun-seen n w queue a v
    by false z false l ih =
        ih ∙ ap (λ (s : State). record s { waiting = behind (n - length w.left) queue })
        (ap (giving_all (whole_within (n - length w.left) queue)) (gave-seen w queue a v)
        ∙ giving-all-queue (whole_within (n - length w.left) queue) queue
        (giving w.frame (seen (record a { waiting = w ∷ queue }))))

pub taken-valid : (n : ℕ) (queue : List Waiting) (a : Account) → Valid (record a { waiting = queue })
    → All (λ w. has_left w ≡ true) queue
    → Valid (record a { log = given (whole_within n queue) a.log; waiting = behind n queue })
taken-valid n [] a v h = v
taken-valid n (w ∷ queue) a v h =
    by (n == 0) refl (nat_lt n (length w.left)) refl
    (taken-valid (n - length w.left) queue (record a { log = Given w.frame ∷ a.log }) (gave-valid w queue a v)
    (All-tail (λ x. has_left x ≡ true) w queue h))
  where
    by : (z : Bool) → (n == 0) ≡ z → (c : Bool) → nat_lt n (length w.left) ≡ c
        → Valid (record a {
          log = given (whole_within (n - length w.left) queue) (Given w.frame ∷ a.log);
          waiting = behind (n - length w.left) queue;
        })
        → Valid (record a {
          log = given (if c then [] else w.frame ∷ whole_within (n - length w.left) queue) a.log;
          waiting = if z then w ∷ queue else if c then begun n w ∷ queue else behind (n - length w.left) queue;
        })
    by true z true l ih = v
    by true z false l ih = absurd (some-left n w (All-head (λ x. has_left x ≡ true) w queue h) z l)
    by false z true l ih = begun-valid n w queue a v
    by false z false l ih = ih

-- given and waiting DATA together don't change
pub data-conserved : (k n : ℕ) (queue : List Waiting) → All (λ w. has_left w ≡ true) queue
    → sum_by (data_in k) (whole_within n queue) + queued k (behind n queue) ≡ queued k queue
data-conserved k n [] h = refl
data-conserved k n (w ∷ queue) h =
    by (n == 0) refl (nat_lt n (length w.left)) refl
    (data-conserved k (n - length w.left) queue (All-tail (λ x. has_left x ≡ true) w queue h))
  where
    by : (z : Bool) → (n == 0) ≡ z → (c : Bool) → nat_lt n (length w.left) ≡ c
        → sum_by (data_in k) (whole_within (n - length w.left) queue) + queued k (behind (n - length w.left) queue)
        ≡ queued k queue
        → sum_by (data_in k) (if c then [] else w.frame ∷ whole_within (n - length w.left) queue) + queued k
        (if z then w ∷ queue else if c then begun n w ∷ queue else behind (n - length w.left) queue)
        ≡ queued k (w ∷ queue)
    by true z true l ih = omega arith
    by true z false l ih = absurd (some-left n w (All-head (λ x. has_left x ≡ true) w queue h) z l)
    by false z true l ih = omega (arith, queued-cons k (begun n w) queue, queued-cons k w queue)
    by false z false l ih =
        omega (arith, ih, sum_by-cons (data_in k) w.frame (whole_within (n - length w.left) queue), queued-cons k w queue)

-- what is kept, after n bytes were taken
pub take-seen : (n : ℕ) (a : Account) → Valid a → CallsSound a
    → seen (called (Take n) a) ≡ taking n (seen a)
unfolding called taking seen
take-seen n a v s = taken-seen n a.waiting a v s.left

pub take-valid : (n : ℕ) (a : Account) → Valid a → CallsSound a → Valid (called (Take n) a)
unfolding called
take-valid n a v s = taken-valid n a.waiting a v s.left

-- What stays

pub given-same : {A : Type 0} (g : Log → A) → ((f : Frame) (log : Log) → g (Given f ∷ log) ≡ g log)
    → (frames : List Frame) (log : Log) → g (given frames log) ≡ g log
given-same g same [] log = refl
given-same g same (f ∷ frames) log = given-same g same frames (Given f ∷ log) ∙ same f log

pub take-opened : (n : ℕ) (a : Account) → opened (called (Take n) a).log ≡ opened a.log
unfolding called
take-opened n a = given-same opened (λ f log. refl) (whole_within n a.waiting) a.log

pub take-headless : (n : ℕ) (a : Account) (k : ℕ) → is_headless (called (Take n) a) k ≡ is_headless a k
unfolding called
take-headless n a k =
    given-same (λ log. a.client && is_opened k log && not (has_head k log)) (λ f log. refl) (whole_within n a.waiting) a.log
