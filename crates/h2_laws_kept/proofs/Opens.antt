-- `open` leaves what the account after it says, and what it tests is what the account allows.
use Rattle.std.proofs.Common.{◌≡◌, ℕ, ◌+◌, ◌-◌, ◌*◌, ◌≤◌, ◌<◌, ◌%◌, max, Bool, true, false, not, ◌&&◌, ◌||◌, ◌==◌, List, [], ◌∷◌, length, reverse, Some, None, refl, sym, ◌∙◌, ap, subst, if◌then◌else◌, All, arith, nat_le, nat_lt, eqb-true, slice_index_or}
use Rattle.std.specs.List.{cons_option}
use Rattle.std.proofs.lemmas.Bool.Decides.{nat_tests}
use Rattle.std.proofs.lemmas.List.Elements.{All-head, All-tail, All-nil, All-cons, All-append, filter_map-append}
use Rattle.std.proofs.lemmas.List.Sums.{sum_by-cons, sum_by-append}
use Rattle.h2_model.specs.declared.stream.Stream.{Stream}
use Rattle.h2_model.specs.Log.{Opened}
use Rattle.h2_model.specs.Streams.{opened, is_opened, greatest, is_live, live_streams, has_head}
use Rattle.h2_model.specs.Blocks.{open_block}
use Rattle.h2_model.specs.Account.{Account, is_headless}
use Rattle.h2_model.specs.Calls.{can_open, kept_streams}
use Rattle.h2_model.specs.History.{called, Open, noted, next_number}
use Rattle.h2_model.specs.State.{seen, live, live_among, streams, stream_of_log}
use Rattle.h2_model.specs.Moves.{opening, new_stream}
use Rattle.h2_laws_log.specs.Steps.{is_block_opened}
use Rattle.h2_laws_log.proofs.Opens.{opens, opens-valid, above-unopened, streams-count, reverse-cons, greatest-all}
use Rattle.h2_laws_log.proofs.Arrives.{opens-sound}
use Rattle.h2_laws_log.specs.Becomes.{Becomes}
use Rattle.h2_laws_log.proofs.Arrivals.{open-sound}
use Rattle.h2_laws_log.specs.Rooms.{credit, credits, closings_waiting, closings_held}
use Rattle.h2_laws_log.proofs.RoomCalls.{noted-counted}
use Rattle.h2_laws_log.proofs.Room.{closings-room, streams-kept}
use Rattle.h2_model.specs.Numbers.{Numbers}
use Rattle.h2_model.specs.Known.{HasOpened}
use Rattle.h2_laws_kept.specs.Kept.{Kept, IsBeside}
use Rattle.h2_laws_kept.specs.Rooms.{IsRoomy, KeepsCapacity}
use Rattle.h2_laws_kept.specs.StandsFor.{AreBelow, IsSound, Lacks, Holds}
use Rattle.h2_laws_kept.proofs.Heading.{open-heads}
use Rattle.h2_laws_kept.proofs.Holding.{Leaves, SparesTable, moving}
use Rattle.h2_laws_kept.proofs.Handing.{leaves}

-- Numbers

pub above-last : (n g : ℕ) → 1 ≤ n → (if n == 1 then 0 else n - 2) ≡ g → g < n
above-last n g l e = by (n == 1) refl e
  where
    by : (c : Bool) → (n == 1) ≡ c → (if c then 0 else n - 2) ≡ g → g < n
    by true q e = omega (arith, l, e)
    by false q e = grind (arith, nat_tests, l, e, q)

pub new-last : (n g : ℕ) → g < n → (if n + 2 == 1 then 0 else n + 2 - 2) ≡ max n g
new-last n g l = by (n + 2 == 1) refl
  where
    by : (c : Bool) → (n + 2 == 1) ≡ c → (if c then 0 else n + 2 - 2) ≡ max n g
    by true q = absurd (grind (arith, nat_tests, q))
    by false q = omega (arith, l)

new-known : (o x y s : Bool) (n id : ℕ) → (id % 2 == 1) ≡ o → nat_lt id (n + 2) ≡ x → nat_lt id n ≡ y → (n == id) ≡ s → n % 2 ≡ 1
    → (o && x && true) ≡ (s || (o && y && true))
new-known true true true true n id eo ex ey es on = refl
new-known true true true false n id eo ex ey es on = refl
new-known true true false true n id eo ex ey es on = refl
new-known true true false false n id eo ex ey es on = absurd (grind (arith, nat_tests, eo, ex, ey, es, on))
new-known true false true s n id eo ex ey es on = absurd (grind (arith, nat_tests, ex, ey))
new-known true false false true n id eo ex ey es on = absurd (grind (arith, nat_tests, ex, es))
new-known true false false false n id eo ex ey es on = refl
new-known false true y true n id eo ex ey es on = absurd (odd-same n id eo es on)
  where
    odd-same : (n id : ℕ) → (id % 2 == 1) ≡ false → (n == id) ≡ true → n % 2 ≡ 1 → ⊥
    odd-same n id eo es on = grind (arith, nat_tests, eo, es, on)
new-known false false y true n id eo ex ey es on = absurd (grind (arith, nat_tests, ex, es))
new-known false true y false n id eo ex ey es on = refl
new-known false false y false n id eo ex ey es on = refl

pub new-above : (o x y : Bool) (n g id : ℕ) → (id % 2 == 1) ≡ o → nat_le (n + 2) id ≡ x → nat_lt (max n g) id ≡ y → n % 2 ≡ 1 → g < n
    → (o && x) ≡ (o && y)
new-above false x y n g id eo ex ey on l = refl
new-above true true true n g id eo ex ey on l = refl
new-above true false false n g id eo ex ey on l = refl
new-above true true false n g id eo ex ey on l = absurd (grind (arith, nat_tests, ex, ey, l))
new-above true false true n g id eo ex ey on l = absurd (grind (arith, nat_tests, eo, ex, ey, on, l))

-- all odd numbers below the next were opened
abbrev whole_below : ℕ → Numbers
whole_below n = record { next = n; gaps = [] }

numbers-whole : (m : Numbers) → m.gaps ≡ [] → m ≡ whole_below m.next
numbers-whole m e = λ i. record { next = m.next; gaps = e i }

opens-known : (n : ℕ) (a : Account) → n % 2 ≡ 1 → greatest (opened a.log) < n → HasOpened (whole_below n) a
    → HasOpened (whole_below (n + 2)) (noted (Opened n) a)
unfolding noted
opens-known n a on l h = record {
  known = λ id. new-known (id % 2 == 1) (nat_lt id (n + 2)) (nat_lt id n) (n == id) n id refl refl refl refl on
      ∙ ap (λ z. (n == id) || z) (h.known id);
  above = λ id. new-above (id % 2 == 1) (nat_le (n + 2) id) (nat_lt (max n (greatest (opened a.log))) id) n
      (greatest (opened a.log)) id refl refl refl on l;
  last = new-last n (greatest (opened a.log)) l;
}

module _ (k : Kept) (a : Account) (h : Holds k a) (c : a.client ≡ true) where
  here : k.client ≡ true
  here = h.role ∙ c

  abbrev n : ℕ
  n = next_number a

  pub next-is : k.numbers.next ≡ n
  next-is = h.streams.count here

  numbers-are : k.numbers ≡ whole_below n
  numbers-are = numbers-whole k.numbers (h.streams.whole here) ∙ ap whole_below next-is

  knows : HasOpened (whole_below n) a
  knows = subst (λ m. HasOpened m a) numbers-are h.streams.known

  odd : n % 2 ≡ 1
  odd = grind arith

  pub next-above : greatest (opened a.log) < n
  next-above = above-last n (greatest (opened a.log)) (omega arith) knows.last

-- Live streams are below

pub among-below : (top : ℕ) (ns : List ℕ) (a : Account) → All (λ m. m < top) ns → All (λ s. s.id < top) (live_among (reverse ns) a)
unfolding live stream_of_log
among-below top [] a h = All-nil (λ s. s.id < top)
among-below top (m ∷ ns) a h =
    subst (λ ids. All (λ s. s.id < top) (live_among ids a)) (sym (reverse-cons m ns))
    (subst (All (λ s. s.id < top)) (sym (filter_map-append (λ id. live id a) (reverse ns) (m ∷ [])))
    (All-append (λ s. s.id < top) (live_among (reverse ns) a) (live_among (m ∷ []) a)
    (among-below top ns a (All-tail (λ x. x < top) m ns h)) (by (is_live m a.log))))
  where
    by : (c : Bool) → All (λ s. s.id < top) (cons_option (if c then Some (stream_of_log m a) else None) [])
    by true = All-cons (λ s. s.id < top) (stream_of_log m a) [] (All-head (λ x. x < top) m ns h) (All-nil (λ s. s.id < top))
    by false = All-nil (λ s. s.id < top)

seen-streams : (a : Account) → (seen a).streams ≡ streams a
unfolding seen
seen-streams a = refl

log-below : (a : Account) → greatest (opened a.log) < next_number a → All (λ s. s.id < next_number a) (streams a)
unfolding streams
log-below a l = among-below (next_number a) (opened a.log) a (greatest-all (next_number a) (opened a.log) l)

pub streams-below : (k : Kept) (a : Account) → Holds k a → a.client ≡ true → (i : ℕ) (d : Stream) → i < length k.state.streams
    → (slice_index_or k.state.streams i d).id < k.numbers.next
streams-below k a h c = subst (λ top. All (λ s. s.id < top) k.state.streams) (sym (next-is k a h c))
    (subst (All (λ s. s.id < next_number a)) (sym (ap (λ s. s.streams) h.state ∙ seen-streams a))
    (log-below a (next-above k a h c)))

-- What the test reads

pub can-open-is : (k : Kept) (a : Account) → Holds k a → a.client ≡ true
    → can_open a ≡ (nat_lt (length k.state.streams) k.state.most && nat_lt k.numbers.next 2147483648 && not k.state.goaway)
unfolding can_open seen
can-open-is k a h c = λ i. nat_lt (counted i) ((sym h.state i).most) && nat_lt (sym (next-is k a h c) i) 2147483648
    && not (sym h.state i).goaway
  where
    counted : length (live_streams a.log) ≡ length k.state.streams
    counted = sym (streams-count a) ∙ ap (λ s. length s.streams) (sym h.state)

-- Room

state-closings : (k : Kept) (a : Account) → Holds k a
    → closings_waiting k.state.waiting + closings_held k.state.held + credits k.state.streams ≤ 2 * length (kept_streams a)
unfolding seen
state-closings k a h = rw h.state (closings-room a h.sound.valid h.sound.counted)

state-kept : (k : Kept) (a : Account) → Holds k a → length k.state.streams ≤ length (kept_streams a)
unfolding seen
state-kept k a h = rw h.state (streams-kept a)

pub table-room-there : (k : Kept) (a : Account) → Holds k a → a.client ≡ true → length (kept_streams a) < k.streams
    → 0 < k.table_room
table-room-there k a h c l = omega (arith, l, state-kept k a h, h.room.table (h.role ∙ c))

opening-roomy : (k l : Kept) (a : Account) (n : ℕ) → Holds k a → a.client ≡ true → length (kept_streams a) < k.streams
    → l.client ≡ k.client → l.streams ≡ k.streams → l.state ≡ opening n k.state → KeepsCapacity k l → IsRoomy l
unfolding opening
opening-roomy k l a n h c m s same e q = record {
  queue = omega (arith, credits_more, waiting, r.reserve here, state-closings k a h, m, q.queue);
  held = λ d. omega (arith, credits_more, held, r.held_reserve here, state-closings k a h, m, q.held);
  reserve = λ d. rw (same, closings) (omega (arith, r.reserve here, waiting, q.queue));
  held_reserve = λ d. rw (same, closings_kept) (omega (arith, r.held_reserve here, held, q.held));
  table = λ d. rw same (omega (arith, r.table here, q.table));
}
  where
    r : IsRoomy k
    r = h.room

    here : k.client ≡ true
    here = h.role ∙ c

    credits_more : credits l.state.streams ≡ credits k.state.streams + 2
    credits_more =
        ap (λ t. credits t.streams) e ∙ sum_by-append credit k.state.streams (new_stream n ∷ [])
        ∙ ap (λ z. credits k.state.streams + z) (sum_by-cons credit (new_stream n) [])

    waiting : length l.state.waiting ≡ length k.state.waiting
    waiting = ap (λ t. length t.waiting) e

    held : length l.state.held ≡ length k.state.held
    held = ap (λ t. length t.held) e

    closings : closings_waiting l.state.waiting ≡ closings_waiting k.state.waiting
    closings = ap (λ t. closings_waiting t.waiting) e

    closings_kept : closings_held l.state.held ≡ closings_held k.state.held
    closings_kept = ap (λ t. closings_held t.held) e

-- The call

open-leaves : (a : Account) → IsSound a → Leaves a (called Open a)
unfolding called noted
open-leaves a s = leaves Open a s refl (noted-counted (Opened (next_number a)) a s.counted)
    (record { client = refl; block = refl; violation = refl; heads = open-heads a s.heads })

open-becomes : (a : Account) → IsSound a → greatest (opened a.log) < next_number a
    → Becomes (called Open a) (next_number a ∷ opened a.log) (is_headless (called Open a)) (opening (next_number a) (seen a))
unfolding called noted
open-becomes a s l = record {
  state = opens (next_number a) a s.valid l;
  valid = opens-valid (next_number a) a s.valid l;
  sound = open-sound a s.calls;
  numbers = refl;
  headless = λ m. refl;
}

open-block : (a : Account) → IsSound a → greatest (opened a.log) < next_number a
    → is_block_opened (called Open a) (open_block (called Open a).log) ≡ true
unfolding called
open-block a s l = (opens-sound (next_number a) a (record { valid = s.valid; block = s.block }) l).block

opening-spares : (id : ℕ) → SparesTable (opening id)
unfolding opening
opening-spares id t s = refl

-- the new stream lacks a head
open-lacks : (k l : Kept) (a : Account) → Holds k a → a.client ≡ true → IsBeside k l → l.headless ≡ k.headless
    → l.numbers ≡ record k.numbers { next = k.numbers.next + 2 } → Lacks l (called Open a)
unfolding called noted
open-lacks k l a h c s e g = record {
  known = subst (λ m. HasOpened m (noted (Opened n) a)) (sym numbers)
      (opens-known n a (odd k a h c) (next-above k a h c) (knows k a h c));
  gaps = subst AreBelow (sym numbers) (All-nil (λ gap. gap.last < n + 2));
  headless = λ m. lacks m (n == m) refl;
  odd = ap (λ z. z % 2) e ∙ h.streams.odd;
  within = λ d. rw (e, numbers) (omega (arith, h.streams.within here, next-is k a h c));
  whole = λ d. ap (λ z. z.gaps) numbers;
  count = λ d. ap (λ z. z.next) numbers ∙ omega arith;
}
  where
    n : ℕ
    n = next_number a

    here : k.client ≡ true
    here = h.role ∙ c

    numbers : l.numbers ≡ whole_below (n + 2)
    numbers = g ∙ (λ i. record (numbers-are k a h c i) { next = (numbers-are k a h c i).next + 2 })

    client : a.client ≡ l.client
    client = sym h.role ∙ sym s.client

    lacks : (m : ℕ) (x : Bool) → (n == m) ≡ x
        → (a.client && (x || is_opened m a.log) && not (has_head m a.log))
        ≡ (l.client && nat_le l.headless m && (x || is_opened m a.log))
    lacks m false q = h.streams.headless m ∙ (λ i. sym s.client i && nat_le (sym e i) m && is_opened m a.log)
    lacks m true q = rw (c, s.client, here, none, e) (by (nat_le k.headless m) refl)
      where
        same : n ≡ m
        same = eqb-true n m q

        none : has_head m a.log ≡ false
        none = subst (λ z. has_head z a.log ≡ false) same (h.sound.heads.opened n (above-unopened n a (next-above k a h c)))

        by : (z : Bool) → nat_le k.headless m ≡ z → true ≡ (true && z && true)
        by true r = refl
        by false r = absurd (grind (arith, nat_tests, r, h.streams.within here, next-is k a h c, same))

pub open-held : (k l : Kept) (a : Account) → Holds k a → a.client ≡ true → length (kept_streams a) < k.streams → IsBeside k l
    → l.headless ≡ k.headless → l.numbers ≡ record k.numbers { next = k.numbers.next + 2 }
    → l.state ≡ opening k.numbers.next k.state → KeepsCapacity k l → Holds l (called Open a)
open-held k l a h c m s e g t q =
    moving k l a (called Open a) _ _ (opening (next_number a)) (opening-spares (next_number a)) h
    (open-becomes a h.sound (next-above k a h c)) (t ∙ (λ i. opening (next-is k a h c i) k.state)) s
    (open-leaves a h.sound) (open-block a h.sound (next-above k a h c)) (open-lacks k l a h c s e g)
    (opening-roomy k l a k.numbers.next h c m s.client s.streams t q)
