-- `head` leaves what the account after it says.
use Rattle.std.proofs.Common.{◌≡◌, ℕ, ◌+◌, ◌*◌, ◌≤◌, ◌%◌, Bool, true, false, not, ◌&&◌, ◌==◌, List, [], ◌∷◌, length, filter, Some, None, refl, sym, ◌∙◌, ap, subst, if◌then◌else◌, is_some, All, arith, nat_le, nat_lt, eqb-true, true≢false, ⊎_elim}
use Rattle.std.specs.List.{list_any}
use Rattle.std.proofs.lemmas.Bool.Decides.{nat_tests}
use Rattle.std.proofs.lemmas.List.Elements.{All-head, All-tail, All-weaker}
use Rattle.ext_msgs.specs.declared.lists.Field.{Field}
use Rattle.h2_frames.specs.declared.frame.Frame.{Frame}
use Rattle.h2_frames.specs.declared.frame.Frame.TheVariants as frame
use Rattle.h2_model.specs.Log.{LogEntry, violation, stream_of}
use Rattle.h2_model.specs.Streams.{opened, is_opened}
use Rattle.h2_model.specs.Blocks.{open_block}
use Rattle.h2_model.specs.Queue.{Waiting, entered}
use Rattle.h2_model.specs.Account.{Account, is_headless}
use Rattle.h2_model.specs.Calls.{MayHead, next_head}
use Rattle.h2_model.specs.History.{called, Head, headed, frame_in, is_of, is_violated, next_number}
use Rattle.h2_model.specs.State.{State, seen}
use Rattle.h2_model.specs.Moves.{sending, queueing}
use Rattle.h2_laws_log.specs.Becomes.{Becomes}
use Rattle.h2_laws_log.specs.Calling.{heading, all_entered}
use Rattle.h2_laws_log.proofs.Lists.{drops-none}
use Rattle.h2_laws_log.proofs.Head.{headed-is}
use Rattle.h2_laws_log.proofs.Unless.{may-head-opened, head-keeps, head-call-seen, head-call-valid, head-call-sound, head-call-opened, head-call-headless}
use Rattle.h2_laws_log.specs.Rooms.{Counted}
use Rattle.h2_model.specs.Numbers.{is_within}
use Rattle.h2_laws_log.proofs.RoomCalls.{headed-counted}
use Rattle.h2_laws_kept.specs.Kept.{Kept, IsBeside, lacks_head}
use Rattle.h2_laws_kept.specs.Rooms.{KeepsCapacity, HasSpare}
use Rattle.h2_laws_kept.specs.StandsFor.{AreBelow, IsSound, Lacks, Holds}
use Rattle.h2_laws_kept.proofs.Sums.{length-entered, length-filtered, length-moved}
use Rattle.h2_laws_kept.proofs.Lowest.{found-lowest}
use Rattle.h2_laws_kept.proofs.Heading.{headed-heads, headed-same}
use Rattle.h2_laws_kept.proofs.Holding.{Leaves, SparesTable, moving, block-opened, numbers-kept, lacks-kept, lacks-head, violation-kept}
use Rattle.h2_laws_kept.proofs.Roominess.{Comes, spare-roomy}
use Rattle.h2_laws_kept.proofs.Handing.{Alike, same-alike, leaves}

-- After a violation

pub head-idle : (id : ℕ) (fields : List Field) (block : List ℕ) (last : Bool) (a : Account) → is_violated a ≡ true
    → called (Head id fields block last) a ≡ a
unfolding called
head-idle id fields block last a e = rw e refl

-- What the call leaves of the account

headed-alike : (id : ℕ) (block : List ℕ) (last : Bool) (a : Account) → IsSound a → is_opened id a.log ≡ true
    → Alike a (headed id (frame.Headers id block last true) a)
headed-alike id block last a s o = record {
  client = by;
  block = headed-same id block last true a s.valid s.calls o s.heads open_block (λ f log. refl) (λ f log. refl);
  violation = headed-same id block last true a s.valid s.calls o s.heads violation (λ f log. refl) (λ f log. refl);
  heads = headed-heads id block last true a s.valid s.calls o s.heads;
}
  where
    by : (headed id (frame.Headers id block last true) a).client ≡ a.client
    by = ap (λ b. b.client) (headed-is id block last true a s.valid s.calls.holds)

head-leaves : (id : ℕ) (fields : List Field) (block : List ℕ) (last : Bool) (a : Account) → IsSound a → is_opened id a.log ≡ true
    → Leaves a (called (Head id fields block last) a)
head-leaves id fields block last a s o =
    leaves (Head id fields block last) a s refl
    (head-keeps Counted id fields block last a s.counted (headed-counted id id block last true a s.counted))
    (head-keeps (Alike a) id fields block last a (same-alike a s.heads) (headed-alike id block last a s o))

head-becomes : (id : ℕ) (fields : List Field) (block : List ℕ) (last : Bool) (a : Account) → IsSound a → is_opened id a.log ≡ true
    → is_violated a ≡ false
    → Becomes (called (Head id fields block last) a) (opened a.log) (λ m. if id == m then false else is_headless a m)
    (heading id (frame.Headers id block last true) (seen a))
head-becomes id fields block last a s o n = record {
  state = head-call-seen id fields block last a s.valid s.calls ∙ rw n refl;
  valid = head-call-valid id fields block last a s.valid s.calls o;
  sound = head-call-sound id fields block last a s.valid s.calls;
  numbers = head-call-opened id fields block last a s.valid s.calls;
  headless = λ m. head-call-headless id fields block last a m s.valid s.calls ∙ rw n refl;
}

-- The first block is one of the lowest stream without a head

all-three : (x y z : Bool) → (x && y && z) ≡ true → (x ≡ true) × (y ≡ true) × (z ≡ true)
all-three true true true e = (refl, refl, refl)
all-three true true false e = absurd cc
all-three true false z e = absurd cc
all-three false y z e = absurd cc

pub first-headless : (k : Kept) (a : Account) → Holds k a → (id : ℕ) → MayHead id a → is_headless a id ≡ true
    → id ≡ k.headless
first-headless k a h id may l = ⊎_elim lowest (λ o. absurd (true≢false (sym l ∙ o.0))) may
  where
    parts : (k.client ≡ true) × (nat_le k.headless id ≡ true) × (is_opened id a.log ≡ true)
    parts = all-three k.client (nat_le k.headless id) (is_opened id a.log) (sym (h.streams.headless id) ∙ l)

    known : ((id % 2 == 1) ≡ true) × (nat_lt id k.numbers.next ≡ true) × (not (list_any (is_within id) k.numbers.gaps) ≡ true)
    known = all-three (id % 2 == 1) (nat_lt id k.numbers.next) (not (list_any (is_within id) k.numbers.gaps)) (h.streams.known.known id ∙ parts.2)

    there : is_opened k.headless a.log ≡ true
    there =
        sym (h.streams.known.known k.headless)
        ∙ rw (h.streams.odd, h.streams.whole parts.0) (by (nat_lt k.headless k.numbers.next) refl)
      where
        by : (c : Bool) → nat_lt k.headless k.numbers.next ≡ c → (true && c && true) ≡ true
        by true e = refl
        by false e = absurd (grind (arith, nat_tests, parts.1, known.1, e))

    lacks : is_headless a k.headless ≡ true
    lacks = h.streams.headless k.headless ∙ rw (parts.0, there) (by (nat_le k.headless k.headless) refl)
      where
        by : (c : Bool) → nat_le k.headless k.headless ≡ c → (true && c && true) ≡ true
        by true e = refl
        by false e = absurd (grind (arith, nat_tests, e))

    lowest : next_head a ≡ Some id → id ≡ k.headless
    lowest e =
        let low : id ≤ k.headless = found-lowest (λ n. is_headless a n) id k.headless (opened a.log) h.sound.valid.descends e there lacks in
        grind (arith, nat_tests, low, parts.1)

-- Behind it the next one lacks a head, for numbers are odd

next-odd : (c s x y : Bool) (id m : ℕ) → (id == m) ≡ s → nat_le id m ≡ x → nat_le (id + 2) m ≡ y → id % 2 ≡ 1 → m % 2 ≡ 1
    → (if s then false else c && x && true) ≡ (c && y && true)
next-odd false true x y id m es ex ey oi om = refl
next-odd false false x y id m es ex ey oi om = refl
next-odd true true x false id m es ex ey oi om = refl
next-odd true true x true id m es ex ey oi om = absurd (grind (arith, nat_tests, es, ey))
next-odd true false true true id m es ex ey oi om = refl
next-odd true false false false id m es ex ey oi om = refl
next-odd true false true false id m es ex ey oi om = absurd (grind (arith, nat_tests, es, ex, ey, oi, om))
next-odd true false false true id m es ex ey oi om = absurd (grind (arith, nat_tests, ex, ey))

opened-odd : (k : Kept) (a : Account) → Holds k a → (m : ℕ) → is_opened m a.log ≡ true
    → ((m % 2 == 1) ≡ true) × (nat_lt m k.numbers.next ≡ true) × (not (list_any (is_within m) k.numbers.gaps) ≡ true)
opened-odd k a h m o =
    all-three (m % 2 == 1) (nat_lt m k.numbers.next) (not (list_any (is_within m) k.numbers.gaps)) (h.streams.known.known m ∙ o)

module _ (k l : Kept) (a b : Account) (h : Holds k a) (id : ℕ) (lacking : is_headless a id ≡ true) (first : id ≡ k.headless) where
  next-lacks : (m : ℕ) → (if id == m then false else is_headless a m) ≡ (k.client && nat_le (id + 2) m && is_opened m a.log)
  next-lacks m =
      ap (λ z. if id == m then false else z)
      (h.streams.headless m ∙ ap (λ n. k.client && nat_le n m && is_opened m a.log) (sym first)) ∙ by (is_opened m a.log) refl
    where
      none : (c s x y : Bool) → (if s then false else c && x && false) ≡ (c && y && false)
      none true true x true = refl
      none true true x false = refl
      none true false true true = refl
      none true false true false = refl
      none true false false true = refl
      none true false false false = refl
      none false true x y = refl
      none false false x y = refl

      by : (o : Bool) → is_opened m a.log ≡ o
          → (if id == m then false else k.client && nat_le id m && o) ≡ (k.client && nat_le (id + 2) m && o)
      by true o = next-odd k.client (id == m) (nat_le id m) (nat_le (id + 2) m) id m refl refl refl
          (ap (λ n. n % 2) first ∙ h.streams.odd) (eqb-true (m % 2) 1 (opened-odd k a h m o).0)
      by false o = none k.client (id == m) (nat_le id m) (nat_le (id + 2) m)

  parts : (k.client ≡ true) × (nat_le k.headless id ≡ true) × (is_opened id a.log ≡ true)
  parts = all-three k.client (nat_le k.headless id) (is_opened id a.log) (sym (h.streams.headless id) ∙ lacking)

  first-lacks : IsBeside k l → l.numbers ≡ k.numbers → l.headless ≡ id + 2 → opened b.log ≡ opened a.log
      → ((m : ℕ) → is_headless b m ≡ (if id == m then false else is_headless a m)) → Lacks l b
  first-lacks s n e o t = record {
    known = numbers-kept k l a b n o h.streams.known;
    gaps = subst AreBelow (sym n) h.streams.gaps;
    headless = λ m. t m ∙ next-lacks m
        ∙ (λ i. sym s.client i && nat_le (sym e i) m && list_any (λ z. z == m) (sym o i));
    odd = rw e odd;
    within = λ c. rw (e, n) (below (h.streams.count parts.0));
    whole = λ c. ap (λ z. z.gaps) n ∙ h.streams.whole parts.0;
    count = λ c. ap (λ z. z.next) n ∙ h.streams.count parts.0 ∙ numbered;
  }
    where
      odd_id : id % 2 ≡ 1
      odd_id = ap (λ z. z % 2) first ∙ h.streams.odd

      odd : (id + 2) % 2 ≡ 1
      odd = grind (arith, odd_id)

      below : k.numbers.next ≡ 2 * length (opened a.log) + 1 → id + 2 ≤ k.numbers.next
      below q = grind (arith, nat_tests, odd_id, q, (opened-odd k a h id parts.2).1)

      numbered : next_number a ≡ next_number b
      numbered = rw o refl

-- Where a stream has a head nothing is held for it

heading-plain : (id : ℕ) (block : List ℕ) (last ends : Bool) (s : State) → All (λ e. is_of id e ≡ false) s.held
    → heading id (frame.Headers id block last ends) s
    ≡ queueing (frame.Headers id block last ends) (sending (frame.Headers id block last ends) s)
unfolding heading sending
heading-plain id block last ends s h = λ i. record (queueing f (sending f s)) {
  waiting = all_entered (none s.held h i) (entered f s.waiting);
  held = drops-none (is_of id) s.held h i;
}
  where
    f : Frame
    f = frame.Headers id block last ends

    none : (xs : List LogEntry) → All (λ e. is_of id e ≡ false) xs → filter (is_of id) xs ≡ []
    none [] g = refl
    none (x ∷ xs) g = rw (All-head (λ e. is_of id e ≡ false) x xs g) (none xs (All-tail (λ e. is_of id e ≡ false) x xs g))

seen-held : (a : Account) → (seen a).held ≡ a.held
unfolding seen
seen-held a = refl

none-held : (k : Kept) (a : Account) → Holds k a → (id : ℕ) → is_headless a id ≡ false → All (λ e. is_of id e ≡ false) k.state.held
none-held k a h id n =
    subst (All (λ e. is_of id e ≡ false)) (sym (ap (λ s. s.held) h.state ∙ seen-held a))
    (All-weaker (λ e. is_headless a (stream_of (frame_in e)) ≡ true) (λ e. is_of id e ≡ false) other a.held h.sound.heads.held)
  where
    other : (e : LogEntry) → is_headless a (stream_of (frame_in e)) ≡ true → is_of id e ≡ false
    other e l = by (stream_of (frame_in e) == id) refl
      where
        by : (c : Bool) → (stream_of (frame_in e) == id) ≡ c → (stream_of (frame_in e) == id) ≡ false
        by true q = absurd (true≢false (sym l ∙ ap (is_headless a) (eqb-true (stream_of (frame_in e)) id q) ∙ n))
        by false q = q

heading-spares : (id : ℕ) (block : List ℕ) (last ends : Bool) → SparesTable (heading id (frame.Headers id block last ends))
unfolding heading sending
heading-spares id block last ends t s = refl

-- The queues

pub length-all-entered : (held : List LogEntry) (queue : List Waiting) → length (all_entered held queue) ≡ length held + length queue
length-all-entered [] queue = omega arith
length-all-entered (e ∷ held) queue = omega (arith, length-all-entered held (entered (frame_in e) queue), length-entered (frame_in e) queue)

heading-comes : (id : ℕ) (block : List ℕ) (last ends : Bool) (s : State)
    → Comes (length s.held + 1) s (heading id (frame.Headers id block last ends) s)
unfolding heading sending
heading-comes id block last ends s = record {
  queued = omega (
    arith,
    length-all-entered (filter (is_of id) s.held) (entered f s.waiting),
    length-filtered (is_of id) s.held,
    length-entered f s.waiting,
  );
  kept = omega (arith, length-filtered (λ e. not (is_of id e)) s.held);
  streams = length-moved _ s.streams;
}
  where
    f : Frame
    f = frame.Headers id block last ends

-- The call

module _ (k l : Kept) (id : ℕ) (fields : List Field) (block : List ℕ) (last : Bool) (a : Account) (h : Holds k a) (m : MayHead id a)
    (u : k.state.violation ≡ None) where
  abbrev f : Frame
  f = frame.Headers id block last true

  abbrev b : Account
  b = called (Head id fields block last) a

  o : is_opened id a.log ≡ true
  o = may-head-opened id a m

  sound : is_violated a ≡ false
  sound = ap is_some (sym (violation-kept k a h) ∙ u)

  begins : Becomes b (opened a.log) (λ n. if id == n then false else is_headless a n) (heading id f (seen a))
  begins = head-becomes id fields block last a h.sound o sound

  -- a block behind the first one leaves all that lack a head
  same-lacks : is_headless a id ≡ false → (n : ℕ) → is_headless b n ≡ is_headless a n
  same-lacks e n = begins.headless n ∙ by (id == n) refl
    where
      by : (c : Bool) → (id == n) ≡ c → (if c then false else is_headless a n) ≡ is_headless a n
      by true q = sym e ∙ ap (is_headless a) (eqb-true id n q)
      by false q = refl

  heads-kept : IsBeside k l → l.numbers ≡ k.numbers → l.headless ≡ (if lacks_head id k then id + 2 else k.headless) → Lacks l b
  heads-kept s n e = by (is_headless a id) refl
    where
      here : l.headless ≡ (if is_headless a id then id + 2 else k.headless)
      here = e ∙ ap (λ c. if c then id + 2 else k.headless) (lacks-head k a h id)

      by : (c : Bool) → is_headless a id ≡ c → Lacks l b
      by true q = first-lacks k l a b h id q (first-headless k a h id m q) s n (here ∙ rw q refl) begins.numbers begins.headless
      by false q = lacks-kept k l a b (record {
        client = s.client;
        streams = s.streams;
        greeted = s.greeted;
        reader = s.reader;
        numbers = n;
        headless = here ∙ rw q refl;
        fault = s.fault;
        entries = s.entries;
      }) begins.numbers (same-lacks q) h.streams

  becomes-heading : l.state ≡ (if lacks_head id k then heading id f k.state else queueing f (sending f k.state))
      → l.state ≡ heading id f k.state
  becomes-heading e = e ∙ ap (λ c. if c then heading id f k.state else queueing f (sending f k.state)) (lacks-head k a h id)
      ∙ by (is_headless a id) refl
    where
      by : (c : Bool) → is_headless a id ≡ c
          → (if c then heading id f k.state else queueing f (sending f k.state)) ≡ heading id f k.state
      by true q = refl
      by false q = sym (heading-plain id block last true k.state (none-held k a h id q))

  pub head-held : HasSpare (length k.state.held + 1) k → KeepsCapacity k l → IsBeside k l → l.numbers ≡ k.numbers
      → l.headless ≡ (if lacks_head id k then id + 2 else k.headless)
      → l.state ≡ (if lacks_head id k then heading id f k.state else queueing f (sending f k.state))
      → Holds l b
  head-held p c s n d e =
      let q : l.state ≡ heading id f k.state = becomes-heading e in
      let v : Leaves a b = head-leaves id fields block last a h.sound o in
      moving k l a b (opened a.log) _ (heading id f) (heading-spares id block last true) h begins q s v
      (block-opened a b begins.numbers v.block h.sound.block) (heads-kept s n d)
      (spare-roomy (length k.state.held + 1) k l h.room
      (subst (Comes (length k.state.held + 1) k.state) (sym q) (heading-comes id block last true k.state)) p s.client s.streams c)
