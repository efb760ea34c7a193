-- Accounts that the same parts hold agree on what calls ask: on live streams, on the next head and on the streams that are kept.
use Rattle.std.proofs.Common.{◌≡◌, ℕ, ◌≤◌, ◌<◌, Bool, true, false, not, ◌&&◌, ◌||◌, ◌==◌, List, [], ◌∷◌, filter, reverse, Option, Some, None, refl, sym, ◌∙◌, ap, subst, if◌then◌else◌, is_some, All, arith, eqb-true, true≢false, ⊎_elim, inl, inr}
use Rattle.std.specs.List.{list_any}
use Rattle.std.proofs.lemmas.Bool.{cases_lt}
use Rattle.std.proofs.lemmas.Bool.Decides.{nat_tests}
use Rattle.std.proofs.lemmas.List.Elements.{All-head, All-tail}
use Rattle.h2_model.specs.declared.stream.Stream.{Stream}
use Rattle.h2_model.specs.Streams.{opened, is_opened, is_live, is_ended_here}
use Rattle.h2_model.specs.Account.{Account, is_headless}
use Rattle.h2_model.specs.Calls.{MayHead, next_head, is_open_here, kept_streams, waits}
use Rattle.h2_model.specs.State.{seen, live, stream_of_log, found}
use Rattle.h2_model.specs.Valid.{Descends}
use Rattle.h2_model.proofs.Lives.{found-live}
use Rattle.h2_laws_log.proofs.Lists.{both-left, both-right, same-number}
use Rattle.h2_laws_kept.specs.Kept.{Kept, lacks_head}
use Rattle.h2_laws_kept.specs.StandsFor.{Holds}
use Rattle.h2_laws_kept.proofs.Holding.{lacks-head}
use Rattle.h2_laws_kept.proofs.Heads.{first-headless}
use Rattle.h2_laws_kept.proofs.Lowest.{found-some}
use Rattle.h2_laws_kept.proofs.Answers.{waits-is}
use Rattle.h2_laws_log.proofs.Unless.{found-passes}

-- Live streams

pub found-is : (k : Kept) (a : Account) → Holds k a → (id : ℕ) → found id k.state.streams ≡ live id a
unfolding seen
found-is k a h id = ap (λ s. found id s.streams) h.state ∙ found-live id a

some-live : (id : ℕ) (a : Account) → is_some (live id a) ≡ is_live id a.log
unfolding live
some-live id a = by (is_live id a.log)
  where
    by : (c : Bool) → is_some (if c then Some (stream_of_log id a) else None) ≡ c
    by true = refl
    by false = refl

abbrev is_open : Option Stream → Bool
is_open None = false
is_open (Some t) = not t.here_ended

open-live : (id : ℕ) (a : Account) → is_open (live id a) ≡ is_open_here id a
unfolding live stream_of_log
open-live id a = by (is_live id a.log)
  where
    by : (c : Bool) → is_open (if c then Some (stream_of_log id a) else None) ≡ (c && not (is_ended_here id a.log))
    by true = refl
    by false = refl

pub live-same : (k : Kept) (a b : Account) → Holds k a → Holds k b → (id : ℕ) → is_live id b.log ≡ is_live id a.log
live-same k a b h g id =
    sym (some-live id b) ∙ ap (λ (o : Option Stream). is_some o) (sym (found-is k b g id) ∙ found-is k a h id) ∙ some-live id a

pub open-same : (k : Kept) (a b : Account) → Holds k a → Holds k b → (id : ℕ) → is_open_here id b ≡ is_open_here id a
open-same k a b h g id =
    sym (open-live id b) ∙ ap is_open (sym (found-is k b g id) ∙ found-is k a h id) ∙ open-live id a

-- Heads

headless-same : (k : Kept) (a b : Account) → Holds k a → Holds k b → (id : ℕ) → is_headless b id ≡ is_headless a id
headless-same k a b h g id = sym (lacks-head k b g id) ∙ lacks-head k a h id

headless-opened : (a : Account) (id : ℕ) → is_headless a id ≡ true → is_opened id a.log ≡ true
headless-opened a id l = both-right a.client (is_opened id a.log) (both-left (a.client && is_opened id a.log) _ l)

first-found : (k : Kept) (b : Account) → Holds k b → (id : ℕ) → id ≡ k.headless → is_headless b id ≡ true → next_head b ≡ Some id
first-found k b g id first l = by (next_head b) refl
  where
    by : (o : Option ℕ) → next_head b ≡ o → next_head b ≡ Some id
    by None e = absurd (found-some (λ n. is_headless b n) id (opened b.log) (headless-opened b id l) l e)
    by (Some n) e =
        let lacking : is_headless b n ≡ true = found-passes (λ m. is_headless b m) (reverse (opened b.log)) n e in
        let same : n ≡ id = first-headless k b g n (inl e) lacking ∙ sym first in
        e ∙ ap (λ (m : ℕ). Some m) same

-- a head may be handed over exactly where it is the next one, or where the stream has its head and is open on this side
pub may-head-first : (k : Kept) (a : Account) → Holds k a → (id : ℕ) → lacks_head id k ≡ true → (k.headless == id) ≡ true → MayHead id a
may-head-first k a h id l e = inl (first-found k a h id (sym (eqb-true k.headless id e)) (sym (lacks-head k a h id) ∙ l))

pub first-of-all : (k : Kept) (a : Account) → Holds k a → (id : ℕ) → lacks_head id k ≡ true → MayHead id a → (k.headless == id) ≡ true
first-of-all k a h id l m = ap (λ n. n == id) (sym (first-headless k a h id m (sym (lacks-head k a h id) ∙ l))) ∙ same-number id

pub open-behind-head : (k : Kept) (a : Account) → Holds k a → (id : ℕ) → lacks_head id k ≡ false → MayHead id a → is_open_here id a ≡ true
open-behind-head k a h id l (inl e) =
    absurd (true≢false (sym (found-passes (λ n. is_headless a n) (reverse (opened a.log)) id e) ∙ sym (lacks-head k a h id) ∙ l))
open-behind-head k a h id l (inr o) = o.1

pub head-same : (k : Kept) (a b : Account) → Holds k a → Holds k b → (id : ℕ) → MayHead id a → MayHead id b
head-same k a b h g id m = ⊎_elim first later m
  where
    first : next_head a ≡ Some id → MayHead id b
    first e =
        let lacking : is_headless a id ≡ true = found-passes (λ n. is_headless a n) (reverse (opened a.log)) id e in
        inl (first-found k b g id (first-headless k a h id (inl e) lacking) (headless-same k a b h g id ∙ lacking))

    later : (is_headless a id ≡ false) × (is_open_here id a ≡ true) → MayHead id b
    later o = inr (headless-same k a b h g id ∙ o.0, open-same k a b h g id ∙ o.1)

-- The streams that were opened, where numbers descend

above : (x : ℕ) (xs : List ℕ) → All (λ m. m < x) xs → (y : ℕ) → x ≤ y → list_any (λ m. m == y) xs ≡ false
above x [] h y l = refl
above x (z ∷ xs) h y l = by (z == y) refl (above x xs (All-tail (λ m. m < x) z xs h) y l)
  where
    low : z < x
    low = All-head (λ m. m < x) z xs h

    by : (c : Bool) → (z == y) ≡ c → list_any (λ m. m == y) xs ≡ false → (c || list_any (λ m. m == y) xs) ≡ false
    by true e ih = absurd (grind (arith, nat_tests, low, l, e))
    by false e ih = ih

abbrev has_same : List ℕ → List ℕ → Type 0
has_same xs ys = (id : ℕ) → list_any (λ m. m == id) xs ≡ list_any (λ m. m == id) ys

-- the first of one is no higher than the first of the other
no-higher : (x y : ℕ) (xs ys : List ℕ) → Descends (y ∷ ys) → has_same (x ∷ xs) (y ∷ ys) → x ≤ y
no-higher x y xs ys d e = ⊎_elim (λ l. absurd (true≢false (sym there ∙ by l))) (λ l. l) (cases_lt y x)
  where
    there : list_any (λ m. m == x) (y ∷ ys) ≡ true
    there = sym (e x) ∙ ap (λ c. c || list_any (λ m. m == x) xs) (same-number x)

    by : y < x → list_any (λ m. m == x) (y ∷ ys) ≡ false
    by l =
        let other : (y == x) ≡ false = less-differs y x l in
        rw other (above y ys d.1 x (omega arith))
      where
        less-differs : (m n : ℕ) → m < n → (m == n) ≡ false
        less-differs m n q = grind (arith, nat_tests, q)

rest-same : (x : ℕ) (xs ys : List ℕ) → Descends (x ∷ xs) → Descends (x ∷ ys) → has_same (x ∷ xs) (x ∷ ys) → has_same xs ys
rest-same x xs ys d f e id = by (x == id) refl (e id)
  where
    by : (c : Bool) → (x == id) ≡ c → (c || list_any (λ m. m == id) xs) ≡ (c || list_any (λ m. m == id) ys)
        → list_any (λ m. m == id) xs ≡ list_any (λ m. m == id) ys
    by true q s =
        let same : x ≡ id = eqb-true x id q in
        let low : x ≤ id = omega arith in
        above x xs d.1 id low ∙ sym (above x ys f.1 id low)
    by false q s = s

same-numbers : (xs ys : List ℕ) → Descends xs → Descends ys → has_same xs ys → xs ≡ ys
same-numbers [] [] d f e = refl
same-numbers [] (y ∷ ys) d f e = absurd (true≢false (sym (ap (λ c. c || list_any (λ m. m == y) ys) (same-number y)) ∙ sym (e y)))
same-numbers (x ∷ xs) [] d f e = absurd (true≢false (sym (ap (λ c. c || list_any (λ m. m == x) xs) (same-number x)) ∙ e x))
same-numbers (x ∷ xs) (y ∷ ys) d f e =
    let low : x ≤ y = no-higher x y xs ys f e in
    let high : y ≤ x = no-higher y x ys xs d (λ id. sym (e id)) in
    let same : y ≡ x = omega arith in
    let f' : Descends (x ∷ ys) = subst (λ z. Descends (z ∷ ys)) same f in
    let e' : has_same (x ∷ xs) (x ∷ ys) = subst (λ z. has_same (x ∷ xs) (z ∷ ys)) same e in
    ap (λ zs. x ∷ zs) (same-numbers xs ys d.2 f'.2 (rest-same x xs ys d f' e')) ∙ ap (λ z. z ∷ ys) (sym same)

opened-same : (k : Kept) (a b : Account) → Holds k a → Holds k b → opened b.log ≡ opened a.log
opened-same k a b h g = same-numbers (opened b.log) (opened a.log) g.sound.valid.descends h.sound.valid.descends
    (λ id. sym (g.streams.known.known id) ∙ h.streams.known.known id)

waits-same : (k : Kept) (a b : Account) → Holds k a → Holds k b → (id : ℕ) → waits id b ≡ waits id a
waits-same k a b h g id = waits-is k b g id ∙ sym (waits-is k a h id)

pub kept-same : (k : Kept) (a b : Account) → Holds k a → Holds k b → kept_streams b ≡ kept_streams a
kept-same k a b h g = λ i. filter
    (λ id. live-same k a b h g id i || headless-same k a b h g id i || waits-same k a b h g id i) (opened-same k a b h g i)
