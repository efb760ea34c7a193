-- The calls that hand frames over: after a violation they change nothing.
use Rattle.std.proofs.Common.{◌≡◌, ℕ, Bool, true, false, not, ◌&&◌, ◌==◌, List, [], ◌∷◌, length, drop, refl, subst, if◌then◌else◌, Some, find, reverse, ⊎_elim}
use Rattle.ext_msgs.specs.declared.lists.Field.{Field}
use Rattle.h2_frames.specs.declared.frame.Frame.{Frame}
use Rattle.h2_frames.specs.declared.frame.Frame.TheVariants as frame
use Rattle.h2_model.specs.Log.{is_empty}
use Rattle.h2_model.specs.Streams.{opened, is_opened, is_live, is_ended_here, has_head}
use Rattle.h2_model.specs.Account.{Account, is_headless}
use Rattle.h2_model.specs.Windows.{connection_window, window_from}
use Rattle.h2_model.specs.History.{handed, headed, answered, is_violated, unless_violated, called, Send, Finish, Reset, Head}
use Rattle.h2_model.specs.Calls.{MayHead}
use Rattle.h2_model.specs.State.{State, seen, streams, live, stream_of_log}
use Rattle.h2_model.specs.Moves.{handing}
use Rattle.h2_model.specs.Valid.{Valid}
use Rattle.h2_laws_log.specs.Sound.{CallsSound}
use Rattle.h2_laws_log.specs.Calling.{heading}
use Rattle.h2_laws_log.proofs.Lists.{both-left, both-right}
use Rattle.h2_laws_log.proofs.Same.{Same, same-untouched}
use Rattle.h2_laws_log.proofs.Hand.{opened-stays, headless-stays}
use Rattle.h2_laws_log.proofs.HandData.{data-seen, data-valid}
use Rattle.h2_laws_log.proofs.HandReset.{reset-seen, reset-valid}
use Rattle.h2_laws_log.proofs.Head.{head-seen, head-valid, head-opened, head-headless}
use Rattle.h2_laws_log.proofs.Sounds.{handed-sound, headed-sound}
use Rattle.h2_laws_log.proofs.Brings.{live-opened}

-- What a call leaves

pub unless-seen : (a b : Account) (s : State) → seen b ≡ s → seen (unless_violated a b)
    ≡ (if is_violated a then seen a else s)
unless-seen a b s e = by (is_violated a)
  where
    by : (c : Bool) → seen (if c then a else b) ≡ (if c then seen a else s)
    by true = refl
    by false = e

pub unless-keeps : (P : Account → Type 0) (a b : Account) → P a → P b → P (unless_violated a b)
unless-keeps P a b p q = by (is_violated a)
  where
    by : (c : Bool) → P (if c then a else b)
    by true = p
    by false = q

-- `send` of no bytes does nothing
pub empty-seen : (c : Bool) (a b : Account) (s : State) → seen b ≡ s → seen (if c then a else b) ≡ (if c then seen a else s)
empty-seen true a b s e = refl
empty-seen false a b s e = e

pub empty-keeps : (P : Account → Type 0) (c : Bool) (a b : Account) → P a → P b → P (if c then a else b)
empty-keeps P true a b p q = p
empty-keeps P false a b p q = q

-- send

pub send-seen : (id : ℕ) (bytes : List ℕ) (a : Account) → Valid a
    → seen (called (Send id bytes) a)
    ≡ (if is_empty bytes then seen a else if is_violated a then seen a else handing (is_headless a id)
    (frame.Data id bytes false (length bytes)) (seen a))
unfolding called
send-seen id bytes a v =
    let f : Frame = frame.Data id bytes false (length bytes) in
    empty-seen (is_empty bytes) a (unless_violated a (handed f a))
    (if is_violated a then seen a else handing (is_headless a id) f (seen a))
    (unless-seen a (handed f a) (handing (is_headless a id) f (seen a)) (data-seen id bytes false (length bytes) a v))

pub send-keeps : (P : Account → Type 0) (id : ℕ) (bytes : List ℕ) (a : Account) → P a
    → P (handed (frame.Data id bytes false (length bytes)) a) → P (called (Send id bytes) a)
unfolding called
send-keeps P id bytes a p q =
    let b : Account = handed (frame.Data id bytes false (length bytes)) a in
    empty-keeps P (is_empty bytes) a (unless_violated a b) p (unless-keeps P a b p q)

pub send-valid : (id : ℕ) (bytes : List ℕ) (a : Account) → Valid a → is_live id a.log ≡ true
    → Valid (called (Send id bytes) a)
send-valid id bytes a v l = send-keeps Valid id bytes a v (data-valid id bytes false (length bytes) a v l)

pub send-sound : (id : ℕ) (bytes : List ℕ) (a : Account) → CallsSound a → CallsSound (called (Send id bytes) a)
send-sound id bytes a s = send-keeps CallsSound id bytes a s (handed-sound (frame.Data id bytes false (length bytes)) a refl s)

pub send-opened : (id : ℕ) (bytes : List ℕ) (a : Account) → opened (called (Send id bytes) a).log ≡ opened a.log
send-opened id bytes a =
    send-keeps (λ b. opened b.log ≡ opened a.log) id bytes a refl
    (opened-stays (frame.Data id bytes false (length bytes)) a)

pub send-headless : (id : ℕ) (bytes : List ℕ) (a : Account) (k : ℕ) → is_headless (called (Send id bytes) a) k
    ≡ is_headless a k
send-headless id bytes a k =
    send-keeps (λ b. is_headless b k ≡ is_headless a k) id bytes a refl
    (headless-stays (frame.Data id bytes false (length bytes)) a k refl)

-- finish

pub finish-seen : (id : ℕ) (a : Account) → Valid a
    → seen (called (Finish id) a)
    ≡ (if is_violated a then seen a else handing (is_headless a id) (frame.Data id [] true 0) (seen a))
unfolding called
finish-seen id a v = unless-seen a (handed (frame.Data id [] true 0) a)
    (handing (is_headless a id) (frame.Data id [] true 0) (seen a)) (data-seen id [] true 0 a v)

pub finish-keeps : (P : Account → Type 0) (id : ℕ) (a : Account) → P a → P (handed (frame.Data id [] true 0) a)
    → P (called (Finish id) a)
unfolding called
finish-keeps P id a p q = unless-keeps P a (handed (frame.Data id [] true 0) a) p q

pub finish-valid : (id : ℕ) (a : Account) → Valid a → is_live id a.log ≡ true → Valid (called (Finish id) a)
finish-valid id a v l = finish-keeps Valid id a v (data-valid id [] true 0 a v l)

pub finish-sound : (id : ℕ) (a : Account) → CallsSound a → CallsSound (called (Finish id) a)
finish-sound id a s = finish-keeps CallsSound id a s (handed-sound (frame.Data id [] true 0) a refl s)

pub finish-opened : (id : ℕ) (a : Account) → opened (called (Finish id) a).log ≡ opened a.log
finish-opened id a = finish-keeps (λ b. opened b.log ≡ opened a.log) id a refl (opened-stays (frame.Data id [] true 0) a)

pub finish-headless : (id : ℕ) (a : Account) (k : ℕ) → is_headless (called (Finish id) a) k ≡ is_headless a k
finish-headless id a k =
    finish-keeps (λ b. is_headless b k ≡ is_headless a k) id a refl (headless-stays (frame.Data id [] true 0) a k refl)

-- reset

pub reset-call-seen : (id code : ℕ) (a : Account) → Valid a
    → seen (called (Reset id code) a)
    ≡ (if is_violated a then seen a else handing (is_headless a id) (frame.Reset id code) (seen a))
unfolding called
reset-call-seen id code a v =
    unless-seen a (handed (frame.Reset id code) a) (handing (is_headless a id) (frame.Reset id code) (seen a))
    (reset-seen id code a v)

pub reset-keeps : (P : Account → Type 0) (id code : ℕ) (a : Account) → P a → P (handed (frame.Reset id code) a)
    → P (called (Reset id code) a)
unfolding called
reset-keeps P id code a p q = unless-keeps P a (handed (frame.Reset id code) a) p q

pub reset-call-valid : (id code : ℕ) (a : Account) → Valid a → is_live id a.log ≡ true → Valid (called (Reset id code) a)
reset-call-valid id code a v l = reset-keeps Valid id code a v (reset-valid id code a v (live-opened id a.log l))

pub reset-call-sound : (id code : ℕ) (a : Account) → CallsSound a → CallsSound (called (Reset id code) a)
reset-call-sound id code a s = reset-keeps CallsSound id code a s (handed-sound (frame.Reset id code) a refl s)

pub reset-opened : (id code : ℕ) (a : Account) → opened (called (Reset id code) a).log ≡ opened a.log
reset-opened id code a =
    reset-keeps (λ b. opened b.log ≡ opened a.log) id code a refl (opened-stays (frame.Reset id code) a)

pub reset-headless : (id code : ℕ) (a : Account) (k : ℕ) → is_headless (called (Reset id code) a) k ≡ is_headless a k
reset-headless id code a k =
    reset-keeps (λ b. is_headless b k ≡ is_headless a k) id code a refl (headless-stays (frame.Reset id code) a k refl)

-- head

pub found-passes : (p : ℕ → Bool) (xs : List ℕ) (n : ℕ) → find p xs ≡ Some n → p n ≡ true
found-passes p [] n e = absurd cc
found-passes p (x ∷ xs) n e = by (p x) refl (found-passes p xs n) e
  where
    by : (c : Bool) → p x ≡ c → (find p xs ≡ Some n → p n ≡ true) → (if c then Some x else find p xs) ≡ Some n → p n ≡ true
    by true t ih e = let same : x ≡ n = cc in subst (λ m. p m ≡ true) same t
    by false t ih e = ih e

-- a head is handed over on an opened stream alone
pub may-head-opened : (id : ℕ) (a : Account) → MayHead id a → is_opened id a.log ≡ true
may-head-opened id a m = ⊎_elim
    (λ e. both-right a.client (is_opened id a.log)
    (both-left (a.client && is_opened id a.log) (not (has_head id a.log))
    (found-passes (λ n. is_headless a n) (reverse (opened a.log)) id e)))
    (λ o. live-opened id a.log (both-left (is_live id a.log) (not (is_ended_here id a.log)) o.1)) m

pub head-call-seen : (id : ℕ) (fields : List Field) (block : List ℕ) (last : Bool) (a : Account) → Valid a → CallsSound a
    → seen (called (Head id fields block last) a)
    ≡ (if is_violated a then seen a else heading id (frame.Headers id block last true) (seen a))
unfolding called
head-call-seen id fields block last a v s =
    unless-seen a (headed id (frame.Headers id block last true) a) (heading id (frame.Headers id block last true) (seen a))
    (head-seen id block last true a v s.holds)

pub head-keeps : (P : Account → Type 0) (id : ℕ) (fields : List Field) (block : List ℕ) (last : Bool) (a : Account) → P a
    → P (headed id (frame.Headers id block last true) a) → P (called (Head id fields block last) a)
unfolding called
head-keeps P id fields block last a p q = unless-keeps P a (headed id (frame.Headers id block last true) a) p q

pub head-call-valid : (id : ℕ) (fields : List Field) (block : List ℕ) (last : Bool) (a : Account) → Valid a → CallsSound a
    → is_opened id a.log ≡ true
    → Valid (called (Head id fields block last) a)
head-call-valid id fields block last a v s o =
    head-keeps Valid id fields block last a v (head-valid id block last true a v s.holds o)

pub head-call-sound : (id : ℕ) (fields : List Field) (block : List ℕ) (last : Bool) (a : Account) → Valid a → CallsSound a
    → CallsSound (called (Head id fields block last) a)
head-call-sound id fields block last a v s =
    head-keeps CallsSound id fields block last a s (headed-sound id block last true a v s)

pub head-call-opened : (id : ℕ) (fields : List Field) (block : List ℕ) (last : Bool) (a : Account) → Valid a → CallsSound a
    → opened (called (Head id fields block last) a).log ≡ opened a.log
head-call-opened id fields block last a v s =
    head-keeps (λ b. opened b.log ≡ opened a.log) id fields block last a refl (head-opened id block last true a v s.holds)

pub head-call-headless : (id : ℕ) (fields : List Field) (block : List ℕ) (last : Bool) (a : Account) (k : ℕ) → Valid a
    → CallsSound a
    → is_headless (called (Head id fields block last) a) k
    ≡ (if is_violated a then is_headless a k else if id == k then false else is_headless a k)
unfolding called
head-call-headless id fields block last a k v s =
    by (is_violated a) (headed id (frame.Headers id block last true) a) (head-headless id block last true a v s.holds k)
  where
    by : (c : Bool) (b : Account) → is_headless b k ≡ (if id == k then false else is_headless a k)
        → is_headless (if c then a else b) k ≡ (if c then is_headless a k else if id == k then false else is_headless a k)
    by true b e = refl
    by false b e = e

-- What `feed` reported is told

pub answered-seen : (a : Account) → seen (answered a) ≡ record (seen a) { unreported = drop 1 (seen a).unreported }
unfolding seen streams live stream_of_log connection_window window_from
answered-seen a = refl

pub answered-same : (a : Account) (n : ℕ) → Same n a (answered a)
answered-same a n = record {
  opened = refl;
  reset = refl;
  peer_ended = refl;
  here_ended = refl;
  heads = refl;
  increments = refl;
  sent = refl;
  received = refl;
  given = refl;
  owed = refl;
}

pub answered-valid : (a : Account) → Valid a → Valid (answered a)
answered-valid a v = record {
  descends = v.descends;
  untouched = λ n l o. same-untouched n a (answered a) (answered-same a n) (v.untouched n l o);
  waiting = v.waiting;
  held = v.held;
  waiting_kept = v.waiting_kept;
  held_kept = v.held_kept;
  held_owed = v.held_owed;
  received = v.received;
  received_on = v.received_on;
  returned = v.returned;
  updates = v.updates;
}

pub answered-sound : (a : Account) → CallsSound a → CallsSound (answered a)
answered-sound a s = record { left = s.left; holds = s.holds; lost = s.lost }
