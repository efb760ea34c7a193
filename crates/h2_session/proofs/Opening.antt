-- HEADERS may open a stream: what a session keeps of its streams then.
use Rattle.std.proofs.Common.{◌≡◌, ℕ, ◌+◌, ◌-◌, ◌≤◌, ◌<◌, ◌%◌, max, Bool, true, false, not, ◌&&◌, ◌||◌, ◌==◌, List, [], ◌∷◌, ◌++◌, length, refl, sym, ◌∙◌, ap, subst, if◌then◌else◌, All, arith, nat_le, nat_lt, true≢false, eqb-true}
use Rattle.std.specs.List.{list_any}
use Rattle.std.proofs.lemmas.Bool.Decides.{nat_tests}
use Rattle.std.proofs.lemmas.List.Elements.{All-head, All-tail, All-nil, All-cons, All-append, All-weaker}
use Rattle.h2_frames.specs.declared.frame.Frame.{Frame}
use Rattle.h2_frames.specs.declared.frame.Frame.TheVariants as frame
use Rattle.h2_model.specs.Codes.{refused_stream}
use Rattle.h2_model.specs.Log.{Opened, Owed}
use Rattle.h2_model.specs.Streams.{opened, is_opened, greatest, live_streams, has_head}
use Rattle.h2_model.specs.Account.{Account, is_headless}
use Rattle.h2_model.specs.History.{noted, hold, queue_with, owing, opened_by, with_opening}
use Rattle.h2_model.specs.Violations.{may_open}
use Rattle.h2_model.specs.State.{seen, streams}
use Rattle.h2_laws_log.proofs.Arrives.{Accepted, one-of}
use Rattle.h2_model.specs.Known.{HasOpened}
use Rattle.h2_model.specs.Numbers.{Numbers, gaps_before, has, is_within, may_have, with_number}
use Rattle.h2_model.specs.declared.gap.Gap.{Gap}
use Rattle.h2_laws_kept.specs.Kept.{Kept}
use Rattle.h2_laws_kept.specs.StandsFor.{AreBelow, Lacks}
use Rattle.h2_laws_kept.proofs.Holding.{lacks-as}
use Rattle.h2_laws_kept.proofs.Opens.{among-below, new-above, new-last}
use Rattle.h2_session.specs.Arrivals.{CanOpen, numbers_with}
use Rattle.h2_session.proofs.Judged.{seen-streams}
use Rattle.h2_laws_log.proofs.Opens.{greatest-all}

-- A number is opened, and those before it are passed over

within-below : (k next : ℕ) (gaps : List Gap) → All (λ gap. gap.last < next) gaps → list_any (is_within k) gaps ≡ true → k < next
within-below k next [] h e = absurd (true≢false (sym e))
within-below k next (gap ∷ gaps) h e =
    by (nat_le gap.first k) (nat_le k gap.last) refl (All-head (λ g. g.last < next) gap gaps h)
    (within-below k next gaps (All-tail (λ g. g.last < next) gap gaps h)) e
  where
    by : (x y : Bool) → nat_le k gap.last ≡ y → gap.last < next → (list_any (is_within k) gaps ≡ true → k < next)
        → ((x && y) || list_any (is_within k) gaps) ≡ true → k < next
    by true true q l ih e = grind (arith, nat_tests, q, l)
    by true false q l ih e = ih e
    by false y q l ih e = ih e

any-behind : (p : Gap → Bool) (xs : List Gap) (x : Gap) → list_any p (xs ++ x ∷ []) ≡ (list_any p xs || p x)
any-behind p [] x = by (p x)
  where
    by : (c : Bool) → (c || false) ≡ c
    by true = refl
    by false = refl
any-behind p (y ∷ xs) x = by (p y) (any-behind p xs x)
  where
    by : (c : Bool) → list_any p (xs ++ x ∷ []) ≡ (list_any p xs || p x) → (c || list_any p (xs ++ x ∷ [])) ≡ ((c || list_any p xs) || p x)
    by true ih = refl
    by false ih = ih

-- of the numbers from the next one on, the opened one alone
only-new : (o x v w s : Bool) (k next id : ℕ) → (k % 2 == 1) ≡ o → nat_lt k (id + 2) ≡ x → nat_le k (id - 2) ≡ v → nat_lt next id ≡ w
    → (id == k) ≡ s → next ≤ k → next ≤ id → id % 2 ≡ 1 → (o && x && not (w && v)) ≡ s
only-new true true true true true k next id eo ex ev ew es lk li oi = absurd (grind (arith, nat_tests, ev, es, oi))
only-new true true true false true k next id eo ex ev ew es lk li oi = refl
only-new true true false w true k next id eo ex ev ew es lk li oi = by w
  where
    by : (c : Bool) → not (c && false) ≡ true
    by true = refl
    by false = refl
only-new true false v w true k next id eo ex ev ew es lk li oi = absurd (grind (arith, nat_tests, ex, es))
only-new false x v w true k next id eo ex ev ew es lk li oi = absurd (grind (arith, nat_tests, eo, es, oi))
only-new true true true true false k next id eo ex ev ew es lk li oi = refl
only-new true true true false false k next id eo ex ev ew es lk li oi = absurd (grind (arith, nat_tests, eo, ev, ew, es, lk, li, oi))
only-new true true false w false k next id eo ex ev ew es lk li oi = absurd (grind (arith, nat_tests, eo, ex, ev, es, lk, li, oi))
only-new true false v w false k next id eo ex ev ew es lk li oi = refl
only-new false x v w false k next id eo ex ev ew es lk li oi = refl

-- whether a number is opened then
new-has : (n : Numbers) (id k : ℕ) → AreBelow n → id % 2 ≡ 1 → n.next ≤ id → has k (with_number id n) ≡ ((id == k) || has k n)
new-has n id k b o l = by (nat_lt k n.next) refl
  where
    odd : Bool
    odd = k % 2 == 1

    gap : Gap
    gap = record { first = n.next; last = id - 2 }

    passed : list_any (is_within k) (gaps_before id n) ≡ (list_any (is_within k) n.gaps || (nat_lt n.next id && is_within k gap))
    passed = by (nat_lt n.next id)
      where
        by : (w : Bool) → list_any (is_within k) (if w then n.gaps ++ gap ∷ [] else n.gaps) ≡ (list_any (is_within k) n.gaps || (w && is_within k gap))
        by true = any-behind (is_within k) n.gaps gap
        by false = or-false (list_any (is_within k) n.gaps)
          where
            or-false : (c : Bool) → c ≡ (c || false)
            or-false true = refl
            or-false false = refl

    below : (s x u v : Bool) → (id == k) ≡ s → nat_lt k (id + 2) ≡ x → nat_le n.next k ≡ u → k < n.next
        → (odd && x && not (list_any (is_within k) n.gaps || (nat_lt n.next id && (u && v)))) ≡ (s || (odd && true && not (list_any (is_within k) n.gaps)))
    below true x u v es ex eu lk = absurd (grind (arith, nat_tests, es, lk, l))
    below false false u v es ex eu lk = absurd (grind (arith, nat_tests, ex, lk, l))
    below false true true v es ex eu lk = absurd (grind (arith, nat_tests, eu, lk))
    below false true false v es ex eu lk = ap (λ c. odd && true && not c) (plain (list_any (is_within k) n.gaps) (nat_lt n.next id))
      where
        plain : (g w : Bool) → (g || (w && false)) ≡ g
        plain true w = refl
        plain false true = refl
        plain false false = refl

    above : (g u : Bool) → list_any (is_within k) n.gaps ≡ g → nat_le n.next k ≡ u → n.next ≤ k
        → (odd && nat_lt k (id + 2) && not (g || (nat_lt n.next id && (u && nat_le k (id - 2))))) ≡ ((id == k) || (odd && false && not g))
    above true u eg eu lk = absurd (omega (arith, within-below k n.next n.gaps b eg, lk))
    above false false eg eu lk = absurd (grind (arith, nat_tests, eu, lk))
    above false true eg eu lk =
        only-new odd (nat_lt k (id + 2)) (nat_le k (id - 2)) (nat_lt n.next id) (id == k) k n.next id refl refl refl refl refl lk l o
        ∙ right (id == k) odd
      where
        right : (s o : Bool) → s ≡ (s || (o && false && true))
        right true o = refl
        right false true = refl
        right false false = refl

    by : (y : Bool) → nat_lt k n.next ≡ y → has k (with_number id n) ≡ ((id == k) || (odd && nat_lt k n.next && not (list_any (is_within k) n.gaps)))
    by true e = rw (passed, e) (below (id == k) (nat_lt k (id + 2)) (nat_le n.next k) (nat_le k (id - 2)) refl refl refl (grind (arith, nat_tests, e)))
    by false e = rw (passed, e) (above (list_any (is_within k) n.gaps) (nat_le n.next k) refl refl (grind (arith, nat_tests, e)))

-- the opened number is above all others
last-below : (next g id : ℕ) → (if next == 1 then 0 else next - 2) ≡ g → next ≤ id → id % 2 ≡ 1 → g < id
last-below next g id e l o = by (next == 1) refl e
  where
    by : (c : Bool) → (next == 1) ≡ c → (if c then 0 else next - 2) ≡ g → g < id
    by true q e = omega (arith, e, o)
    by false q e = grind (arith, e, o, l)

may-have-parts : (next id : ℕ) → ((id % 2 == 1) && nat_le next id) ≡ true → (id % 2 ≡ 1) × (next ≤ id)
may-have-parts next id e = by (id % 2 == 1) (nat_le next id) refl refl e
  where
    by : (o l : Bool) → (id % 2 == 1) ≡ o → nat_le next id ≡ l → (o && l) ≡ true → (id % 2 ≡ 1) × (next ≤ id)
    by true true q r e = (eqb-true (id % 2) 1 q, grind (arith, nat_tests, r))
    by true false q r e = absurd (true≢false (sym e))
    by false l q r e = absurd (true≢false (sym e))

new-opened : (n : Numbers) (a b : Account) (id : ℕ) → HasOpened n a → AreBelow n → may_have id n ≡ true → opened b.log ≡ id ∷ opened a.log
    → HasOpened (with_number id n) b
new-opened n a b id h s m e = record {
  known = λ k. new-has n id k s p.0 p.1 ∙ ap (λ c. (id == k) || c) (h.known k) ∙ sym (ap (list_any (λ x. x == k)) e);
  above = λ k. new-above (k % 2 == 1) (nat_le (id + 2) k) (nat_lt (max id (greatest (opened a.log))) k) id (greatest (opened a.log)) k refl refl refl p.0 l
      ∙ sym (ap (λ ids. (k % 2 == 1) && nat_lt (greatest ids) k) e);
  last = new-last id (greatest (opened a.log)) l ∙ sym (ap greatest e);
}
  where
    p : (id % 2 ≡ 1) × (n.next ≤ id)
    p = may-have-parts n.next id m

    l : greatest (opened a.log) < id
    l = last-below n.next (greatest (opened a.log)) id h.last p.1 p.0

new-gaps : (n : Numbers) (id : ℕ) → AreBelow n → may_have id n ≡ true → AreBelow (with_number id n)
new-gaps n id b m = by (nat_lt n.next id)
  where
    p : (id % 2 ≡ 1) × (n.next ≤ id)
    p = may-have-parts n.next id m

    old : All (λ gap. gap.last < id + 2) n.gaps
    old = All-weaker (λ gap. gap.last < n.next) (λ gap. gap.last < id + 2) (λ gap l. omega (arith, l, p.1)) n.gaps b

    by : (w : Bool) → All (λ gap. gap.last < id + 2) (if w then n.gaps ++ record { first = n.next; last = id - 2 } ∷ [] else n.gaps)
    by true = All-append (λ gap. gap.last < id + 2) n.gaps _ old
        (All-cons (λ gap. gap.last < id + 2) (record { first = n.next; last = id - 2 }) [] (omega arith) (All-nil (λ gap. gap.last < id + 2)))
    by false = old

-- What opens

parts : (c o l : Bool) → (not c && o && l) ≡ true → (c ≡ false) × ((o && l) ≡ true)
parts true o l e = absurd (true≢false (sym e))
parts false o l e = (refl, e)

pub can-open : (k : Kept) (a : Account) (f : Frame) → k.state ≡ record (seen a) { table = k.state.table } → k.client ≡ a.client → Lacks k a
    → Accepted a f → CanOpen f k
unfolding streams
can-open k a (frame.Headers id part last ends) e c h x = λ u.
    let o : is_opened id a.log ≡ false = sym (h.known.known id) ∙ u in
    let p = parts a.client ((id % 2) == 1) (nat_lt (greatest (opened a.log)) id) (one-of (is_opened id a.log) (may_open a id) x.on_opened o) in
    let m : may_have id k.numbers ≡ true = h.known.above id ∙ p.1 in
    let n = may-have-parts k.numbers.next id m in (
      c ∙ p.0,
      m,
      subst (All (λ s. s.id < id)) (sym (seen-streams k.state a e))
          (among-below id (opened a.log) a (greatest-all id (opened a.log) (last-below k.numbers.next _ id h.known.last n.1 n.0))),
    )
can-open k a f e c h x = tt

-- What is kept of the streams

opens-log : (full : Bool) (id : ℕ) (a : Account) → (opened (opened_by false full id a).log ≡ id ∷ opened a.log) × ((opened_by false full id a).client ≡ a.client)
unfolding owing noted
opens-log false id a = (refl, refl)
opens-log true id a = by (is_headless (noted (Opened id) a) id)
  where
    by : (c : Bool) → let b : Account = if c then hold (Owed (frame.Reset id refused_stream)) (noted (Opened id) a) else queue_with
        (frame.Reset id refused_stream) (noted (Owed (frame.Reset id refused_stream)) (noted (Opened id) a)) in
        (opened b.log ≡ id ∷ opened a.log) × (b.client ≡ a.client)
    by true = (refl, refl)
    by false = (refl, refl)

pub opening-client : (f : Frame) (a : Account) → (with_opening f a).client ≡ a.client
opening-client (frame.Headers id part last ends) a = by (is_opened id a.log)
  where
    by : (x : Bool) → (opened_by x (nat_le 256 (length (live_streams a.log))) id a).client ≡ a.client
    by true = refl
    by false = (opens-log (nat_le 256 (length (live_streams a.log))) id a).1
opening-client f a = refl

no-client : (c x y : Bool) → c ≡ false → (c && x && y) ≡ false
no-client c x y e = rw e refl

pub opening-lacks : (k l : Kept) (a : Account) (f : Frame) → k.client ≡ a.client → Lacks k a → CanOpen f k → l.client ≡ k.client
    → l.numbers ≡ numbers_with f k.numbers → l.headless ≡ k.headless → Lacks l (with_opening f a)
opening-lacks k l a (frame.Headers id part last ends) r h can c n e = by (is_opened id a.log) refl
  where
    full : Bool
    full = nat_le 256 (length (live_streams a.log))

    by : (x : Bool) → is_opened id a.log ≡ x → Lacks l (opened_by x full id a)
    by true o = lacks-as k l a a c (n ∙ rw (h.known.known id ∙ o) refl) e refl (λ m. refl) h
    by false o =
        let u : has id k.numbers ≡ false = h.known.known id ∙ o in
        let p = can u in
        let new : l.numbers ≡ with_number id k.numbers = n ∙ rw u refl in
        let b : Account = opened_by false full id a in
        let server : b.client ≡ false = (opens-log full id a).1 ∙ sym r ∙ p.0 in
        record {
          known = subst (λ m. HasOpened m b) (sym new) (new-opened k.numbers a b id h.known h.gaps p.1 (opens-log full id a).0);
          gaps = subst AreBelow (sym new) (new-gaps k.numbers id h.gaps p.1);
          headless = λ m. no-client b.client (is_opened m b.log) (not (has_head m b.log)) server
              ∙ sym (no-client l.client (nat_le l.headless m) (is_opened m b.log) (c ∙ p.0));
          odd = ap (λ z. z % 2) e ∙ h.odd;
          within = λ d. absurd (true≢false (sym d ∙ c ∙ p.0));
          whole = λ d. absurd (true≢false (sym d ∙ c ∙ p.0));
          count = λ d. absurd (true≢false (sym d ∙ c ∙ p.0));
        }
opening-lacks k l a f r h can c n e = lacks-as k l a a c n e refl (λ m. refl) h
