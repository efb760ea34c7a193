-- A stream is opened: how what is kept changes, and that the account stays valid.
use Rattle.std.proofs.Common.{◌≡◌, ℕ, suc, ◌+◌, ◌≤◌, ◌<◌, Bool, true, false, List, [], ◌∷◌, ◌++◌, Some, None, refl, sym, ◌∙◌, ap, subst, if◌then◌else◌, ◌==◌, ◌&&◌, ◌||◌, not, filter, length, map, reverse, arith, All}
use Rattle.std.specs.List.{list_any, cons_option}
use Rattle.std.proofs.lemmas.Bool.{eqb-true, eq-eqb, ne_eqb, or_parts, or_right}
use Rattle.std.proofs.lemmas.List.{reverse-append, length-reverse, append-nil}
use Rattle.std.proofs.lemmas.List.Elements.{All-nil, All-cons, All-weaker, filter_map-append, filter-append}
use Rattle.std.proofs.lemmas.List.Sorted.{list_any-IsPermutation, IsPermutation-reverse}
use Rattle.h2_frames.specs.declared.frame.Frame.{Frame}
use Rattle.h2_frames.specs.declared.frame.Frame.TheVariants as frame
use Rattle.h2_model.specs.Codes.{refused_stream}
use Rattle.h2_model.specs.Log.{LogEntry, Log, Opened, stream_of, total}
use Rattle.h2_model.specs.Streams.{opened, is_opened, greatest, is_live, live_streams, is_reset, is_ended_by_peer, is_ended_here}
use Rattle.h2_model.specs.Blocks.{open_block}
use Rattle.h2_model.specs.Account.{Account, is_headless}
use Rattle.h2_model.specs.Windows.{increment, data_given, data_received, increment_given, increment_owed}
use Rattle.h2_model.specs.History.{noted, frame_in, opened_by}
use Rattle.h2_model.specs.State.{State, seen, live, live_among, streams, stream_of_log}
use Rattle.h2_model.specs.Moves.{opening, new_stream, owing_frame}
use Rattle.h2_model.specs.Valid.{Valid, Untouched, is_of_opened}
use Rattle.h2_laws_log.specs.Steps.{opening_by}
use Rattle.h2_laws_log.proofs.Lives.{Same, SameSums, same-live, same-untouched}
use Rattle.h2_laws_log.proofs.Entries.{with_entry, noted-is, same-sums, nothing-more}
use Rattle.h2_laws_log.proofs.Receives.{window-stays, receive-stays, unreturned-stays, with-parts}
use Rattle.h2_laws_log.proofs.Owes.{owes, owes-valid, owing-stays}
use Rattle.h2_laws_log.proofs.Lists.{number-swapped}

-- The live streams and their numbers

pub live-numbers : (ids : List ℕ) (a : Account) → map (λ s. s.id) (live_among ids a) ≡ filter (λ id. is_live id a.log) ids
unfolding live stream_of_log
live-numbers [] a = refl
live-numbers (id ∷ ids) a = by (is_live id a.log) (live-numbers ids a)
  where
    by : (x : Bool) → map (λ s. s.id) (live_among ids a) ≡ filter (λ id. is_live id a.log) ids
        → map (λ s. s.id) (cons_option (if x then Some (stream_of_log id a) else None) (live_among ids a)) ≡ (if x then id ∷ filter (λ id. is_live id a.log) ids else filter (λ id. is_live id a.log) ids)
    by true ih = ap (λ ns. id ∷ ns) ih
    by false ih = ih

pub reverse-cons : {A : Type 0} (x : A) (xs : List A) → reverse (x ∷ xs) ≡ reverse xs ++ x ∷ []
reverse-cons x xs = reverse-append (x ∷ []) xs

pub filter-reverse : {A : Type 0} (p : A → Bool) (xs : List A) → filter p (reverse xs) ≡ reverse (filter p xs)
filter-reverse p [] = refl
filter-reverse p (x ∷ xs) =
    ap (filter p) (reverse-cons x xs) ∙ filter-append p (reverse xs) (x ∷ []) ∙ ap (λ ys. ys ++ filter p (x ∷ [])) (filter-reverse p xs) ∙ by (p x)
  where
    by : (b : Bool) → reverse (filter p xs) ++ (if b then x ∷ [] else []) ≡ reverse (if b then x ∷ filter p xs else filter p xs)
    by true = sym (reverse-cons x (filter p xs))
    by false = append-nil (reverse (filter p xs))

-- the live streams stand in the order in which they were opened
pub stream-numbers : (a : Account) → map (λ s. s.id) (streams a) ≡ reverse (live_streams a.log)
unfolding streams
stream-numbers a = live-numbers (reverse (opened a.log)) a ∙ filter-reverse (λ id. is_live id a.log) (opened a.log)

length-map : {A B : Type 0} (f : A → B) (xs : List A) → length (map f xs) ≡ length xs
length-map f [] = refl
length-map f (x ∷ xs) = ap (λ n. suc n) (length-map f xs)

pub streams-count : (a : Account) → length (streams a) ≡ length (live_streams a.log)
streams-count a = sym (length-map (λ s. s.id) (streams a)) ∙ ap length (stream-numbers a) ∙ length-reverse (live_streams a.log)

-- A new number

pub greatest-all : (k : ℕ) (ns : List ℕ) → greatest ns < k → All (λ m. m < k) ns
greatest-all k [] l = All-nil (λ m. m < k)
greatest-all k (n ∷ ns) l = All-cons (λ m. m < k) n ns (omega arith) (greatest-all k ns (omega arith))

greatest-other : (k : ℕ) (ns : List ℕ) → greatest ns < k → list_any (λ n. n == k) ns ≡ false
greatest-other k [] l = refl
greatest-other k (n ∷ ns) l =
    let e : (n == k) ≡ false = ne_eqb n k (λ z. omega (arith, z)) in
    rw e (greatest-other k ns (omega arith))

pub above-unopened : (k : ℕ) (a : Account) → greatest (opened a.log) < k → is_opened k a.log ≡ false
above-unopened k a l = greatest-other k (opened a.log) l

-- an opening says nothing of other streams
opens-others : (k : ℕ) (a : Account) (id : ℕ) → (k == id) ≡ false → Same id a (with_entry (Opened k) a a.waiting a.held)
opens-others k a id s = record {
  sums = same-sums id (Opened k) a a.waiting a.held (record { increments = refl; sent = refl; received = refl; given = refl; owed = refl }) refl refl;
  marks = record { opened = rw s refl; reset = refl; peer_ended = refl; here_ended = refl; heads = refl };
}

opened-at : (k : ℕ) (a : Account) → is_opened k (Opened k ∷ a.log) ≡ true
opened-at k a = rw (eq-eqb k k refl) refl

new-live : (k : ℕ) (a : Account) → Untouched k a → live k (with_entry (Opened k) a a.waiting a.held) ≡ Some (new_stream k)
unfolding live stream_of_log
new-live k a u =
    let e : LogEntry = Opened k in
    rw (
      eq-eqb k k refl,
      u.reset,
      u.peer_ended,
      u.here_ended,
      u.heads,
      nothing-more (increment k) e a.log refl,
      u.increments,
      nothing-more (data_given k) e a.log refl,
      u.sent,
      nothing-more (data_received k) e a.log refl,
      u.received,
      nothing-more (increment_given k) e a.log refl,
      u.given,
      nothing-more (increment_owed k) e a.log refl,
      u.owed,
    ) refl

among-apart : (k : ℕ) (a b : Account) (ids : List ℕ) → list_any (λ n. n == k) ids ≡ false → ((id : ℕ) → (id == k) ≡ false → live id b ≡ live id a) → live_among ids b ≡ live_among ids a
among-apart k a b [] n e = refl
among-apart k a b (id ∷ ids) n e =
    let parts : ((id == k) ≡ false) × (list_any (λ n. n == k) ids ≡ false) = or_parts _ _ n in
    ap (λ o. cons_option o (live_among ids b)) (e id parts.0) ∙ ap (cons_option (live id a)) (among-apart k a b ids parts.1 e)

opens-streams : (k : ℕ) (a : Account) → Valid a → 0 < k → is_opened k a.log ≡ false
    → streams (with_entry (Opened k) a a.waiting a.held) ≡ streams a ++ new_stream k ∷ []
unfolding streams
opens-streams k a v p u =
    let b : Account = with_entry (Opened k) a a.waiting a.held in
    let ids : List ℕ = reverse (opened a.log) in
    let apart : list_any (λ n. n == k) ids ≡ false = sym (list_any-IsPermutation (λ n. n == k) (opened a.log) ids (IsPermutation-reverse (opened a.log))) ∙ u in
    ap (λ ns. live_among ns b) (reverse-cons k (opened a.log))
    ∙ filter_map-append (λ id. live id b) ids (k ∷ [])
    ∙ ap (λ xs. xs ++ live_among (k ∷ []) b) (among-apart k a b ids apart (λ id n. same-live id a b (opens-others k a id (number-swapped k id ∙ n))))
    ∙ ap (λ o. live_among ids a ++ cons_option o []) (new-live k a (v.untouched k p u))

opens-entry : (k : ℕ) (a : Account) → Valid a → 0 < k → is_opened k a.log ≡ false → seen (with_entry (Opened k) a a.waiting a.held) ≡ opening k (seen a)
unfolding seen opening
opens-entry k a v p u =
    let b : Account = with_entry (Opened k) a a.waiting a.held in
    let sums : SameSums 0 a b = same-sums 0 (Opened k) a a.waiting a.held (record { increments = refl; sent = refl; received = refl; given = refl; owed = refl }) refl refl in
    with-parts (seen b) (window-stays a b sums.increments sums.sent) (receive-stays a b sums) (unreturned-stays a b sums) (opens-streams k a v p u)

-- what is kept after a stream was opened, whose number is above all others
pub opens : (k : ℕ) (a : Account) → Valid a → greatest (opened a.log) < k → seen (noted (Opened k) a) ≡ opening k (seen a)
opens k a v l = ap seen (noted-is (Opened k) a v) ∙ opens-entry k a v (omega arith) (above-unopened k a l)

-- The account stays valid

more-opened : (k id : ℕ) (log : Log) → is_of_opened log id ≡ true → is_of_opened (Opened k ∷ log) id ≡ true
more-opened k id log h = by (id == 0) (k == id) (is_opened id log) h
  where
    by : (z x o : Bool) → (z || o) ≡ true → (z || (x || o)) ≡ true
    by true x o h = refl
    by false true o h = refl
    by false false o h = h

was-live-before : (k id : ℕ) (log : Log) → (k == id) ≡ false → is_live id (Opened k ∷ log) ≡ true → is_live id log ≡ true
was-live-before k id log s l = subst (λ (x : Bool). ((x || is_opened id log) && not (is_reset id log) && not (is_ended_by_peer id log && is_ended_here id log)) ≡ true) s l

valid-entry : (k : ℕ) (a : Account) → Valid a → greatest (opened a.log) < k → Valid (with_entry (Opened k) a a.waiting a.held)
valid-entry k a v l =
    let e : LogEntry = Opened k in
    let u : Untouched k a = v.untouched k (omega arith) (above-unopened k a l) in
    record {
      descends = (omega arith, greatest-all k (opened a.log) l, v.descends);
      untouched = λ id p o.
          let parts : ((k == id) ≡ false) × (is_opened id a.log ≡ false) = or_parts _ _ o in
          same-untouched id a (with_entry e a a.waiting a.held) (opens-others k a id parts.0) (v.untouched id p parts.1);
      waiting = All-weaker (λ w. is_of_opened a.log (stream_of w.frame) ≡ true) (λ w. is_of_opened (e ∷ a.log) (stream_of w.frame) ≡ true) (λ w. more-opened k (stream_of w.frame) a.log) a.waiting v.waiting;
      held = All-weaker (λ h. is_of_opened a.log (stream_of (frame_in h)) ≡ true) (λ h. is_of_opened (e ∷ a.log) (stream_of (frame_in h)) ≡ true) (λ h. more-opened k (stream_of (frame_in h)) a.log) a.held v.held;
      waiting_kept = v.waiting_kept;
      held_kept = v.held_kept;
      held_owed = v.held_owed;
      received = rw (nothing-more (data_received 0) e a.log refl, nothing-more (increment_given 0) e a.log refl) v.received;
      received_on = λ id m. rw (nothing-more (data_received id) e a.log refl, nothing-more (increment_given id) e a.log refl) (on id (k == id) refl m (u.received));
      updates = λ id. rw (nothing-more (increment_given id) e a.log refl, nothing-more (increment_owed id) e a.log refl) (v.updates id);
      returned = λ id. rw (nothing-more (increment_owed id) e a.log refl, nothing-more (data_received id) e a.log refl) (v.returned id);
    }
  where
    on : (id : ℕ) (same : Bool) → (k == id) ≡ same → is_live id (Opened k ∷ a.log) ≡ true → total (data_received k) a.log ≡ 0
        → total (data_received id) a.log ≤ 65535 + total (increment_given id) a.log
    on id true s m z = let r : total (data_received id) a.log ≡ 0 = subst (λ (n : ℕ). total (data_received n) a.log ≡ 0) (eqb-true k id s) z in rw r (omega arith)
    on id false s m z = v.received_on id (was-live-before k id a.log s m)

pub opens-valid : (k : ℕ) (a : Account) → Valid a → greatest (opened a.log) < k → Valid (noted (Opened k) a)
opens-valid k a v l = subst (λ b. Valid b) (sym (noted-is (Opened k) a v)) (valid-entry k a v l)

-- HEADERS of the peer

-- what HEADERS leave of an account before they count
pub record Begun (id : ℕ) (a b : Account) (s : State) : Type 0 where
  pub state : seen b ≡ s
  pub valid : Valid b
  pub opened : is_opened id b.log ≡ true
  pub block : open_block b.log ≡ open_block a.log

opened-noted : (id : ℕ) (a : Account) → is_opened id (noted (Opened id) a).log ≡ true
unfolding noted
opened-noted id a = opened-at id a

block-noted : (id : ℕ) (a : Account) → open_block (noted (Opened id) a).log ≡ open_block a.log
unfolding noted
block-noted id a = refl

headed-noted : (id : ℕ) (a : Account) → a.client ≡ false → (n : ℕ) → is_headless (noted (Opened id) a) n ≡ false
unfolding noted
headed-noted id a c n = rw c refl

nothing-owed : (n m : ℕ) → n ≤ m → 0 + n ≤ m
nothing-owed n m l = omega arith

pub opens-by : (known full : Bool) (id : ℕ) (a : Account) → Valid a → is_opened id a.log ≡ known
    → (known ≡ false → (a.client ≡ false) × (greatest (opened a.log) < id)) → Begun id a (opened_by known full id a) (opening_by known full id (seen a))
opens-by true full id a v k m = record { state = refl; valid = v; opened = k; block = refl }
opens-by false false id a v k m = record { state = opens id a v (m refl).1; valid = opens-valid id a v (m refl).1; opened = opened-noted id a; block = block-noted id a }
opens-by false true id a v k m =
    let b : Account = noted (Opened id) a in
    let f : Frame = frame.Reset id refused_stream in
    let vb : Valid b = opens-valid id a v (m refl).1 in
    let h : is_headless b id ≡ false = headed-noted id a (m refl).0 id in
    record {
      state = owes f b vb refl ∙ ap (λ x. owing_frame x f (seen b)) h ∙ ap (owing_frame false f) (opens id a v (m refl).1);
      valid = owes-valid f b vb (record { no_data = refl; stream = or_right (id == 0) (is_opened id b.log) (opened-noted id a); headed = λ x. refl }) (λ n. nothing-owed (total (increment_owed n) b.log) (total (data_received n) b.log) (vb.returned n));
      opened = rw (owing-stays f b).opened (opened-noted id a);
      block = (owing-stays f b).block ∙ block-noted id a;
    }
