-- The live streams as a list: how one that changes moves it, and how a stream is looked up.
use Rattle.std.proofs.Common.{◌≡◌, ℕ, Bool, true, false, List, [], ◌∷◌, Option, Some, None, refl, sym, ◌∙◌, ap, if◌then◌else◌, ◌==◌, ◌&&◌, ◌||◌, not, reverse, subst}
use Rattle.std.specs.List.{list_any, filter_map, cons_option}
use Rattle.std.proofs.lemmas.Bool.{eqb-true}
use Rattle.std.proofs.lemmas.List.Sorted.{list_any-IsPermutation, IsPermutation-reverse}
use Rattle.h2_model.specs.declared.stream.Stream.{Stream}
use Rattle.h2_model.specs.Streams.{opened, is_opened, is_live, is_reset, is_ended_by_peer, is_ended_here}
use Rattle.h2_model.specs.Account.{Account}
use Rattle.h2_model.specs.State.{found, live, live_among, streams, stream_of_log}

abbrev pub bound : {A B : Type 0} → Option A → (A → Option B) → Option B
bound None f = None
bound (Some x) f = f x

bound-first : {A B : Type 0} (o : Option A) (g : A → Option B) (xs : List A) → cons_option (bound o g) (filter_map g xs) ≡ filter_map g (cons_option o xs)
bound-first None g xs = refl
bound-first (Some x) g xs = refl

pub among-adjusted : (a b : Account) (g : Stream → Option Stream) (ids : List ℕ)
    → ((id : ℕ) → live id b ≡ bound (live id a) g) → live_among ids b ≡ filter_map g (live_among ids a)
among-adjusted a b g [] e = refl
among-adjusted a b g (id ∷ ids) e =
    ap (λ o. cons_option o (live_among ids b)) (e id) ∙ ap (cons_option (bound (live id a) g)) (among-adjusted a b g ids e)
    ∙ bound-first (live id a) g (live_among ids a)

-- a move that opens none, and changes each live stream by g
pub streams-moved : (a b : Account) (g : Stream → Option Stream) → opened b.log ≡ opened a.log
    → ((id : ℕ) → live id b ≡ bound (live id a) g) → streams b ≡ filter_map g (streams a)
unfolding streams
streams-moved a b g o e = ap (λ ids. live_among (reverse ids) b) o ∙ among-adjusted a b g (reverse (opened a.log)) e

pub among-same : (a b : Account) (ids : List ℕ) → ((id : ℕ) → live id b ≡ live id a) → live_among ids b ≡ live_among ids a
among-same a b [] e = refl
among-same a b (id ∷ ids) e = ap (λ o. cons_option o (live_among ids b)) (e id) ∙ ap (cons_option (live id a)) (among-same a b ids e)

pub streams-same : (a b : Account) → opened b.log ≡ opened a.log → ((id : ℕ) → live id b ≡ live id a) → streams b ≡ streams a
unfolding streams
streams-same a b o e = ap (λ ids. live_among (reverse ids) b) o ∙ among-same a b (reverse (opened a.log)) e

-- A stream is looked up by its number

is-live : (id : ℕ) (a : Account) → is_live id a.log ≡ true → live id a ≡ Some (stream_of_log id a)
unfolding live
is-live id a l = rw l refl

isnt-live : (id : ℕ) (a : Account) → is_live id a.log ≡ false → live id a ≡ None
unfolding live
isnt-live id a l = rw l refl

-- a live stream has its number
found-first : (id n : ℕ) (a : Account) (later : List Stream) → found id (stream_of_log n a ∷ later) ≡ (if n == id then Some (stream_of_log n a) else found id later)
unfolding stream_of_log
found-first id n a later = refl

either-none : {A : Type 0} (c : Bool) (o : Option A) → o ≡ None → (if c then o else None) ≡ o
either-none true o e = refl
either-none false o e = sym e

same-live : (id n : ℕ) (a : Account) (o : Option Stream) → (n == id) ≡ true → live n a ≡ o → live id a ≡ o
same-live id n a o s e = subst (λ k. live k a ≡ o) (eqb-true n id s) e

-- what is looked up among some numbers is the live stream, where its number is one of them
pub looked : (id : ℕ) (ids : List ℕ) (a : Account) → found id (live_among ids a) ≡ (if list_any (λ n. n == id) ids then live id a else None)
looked id [] a = refl
looked id (n ∷ ids) a = by (looked id ids a) (n == id) refl (is_live n a.log) refl
  where
    by : found id (live_among ids a) ≡ (if list_any (λ m. m == id) ids then live id a else None)
        → (same : Bool) → (n == id) ≡ same → (alive : Bool) → is_live n a.log ≡ alive
        → found id (cons_option (live n a) (live_among ids a)) ≡ (if (n == id) || list_any (λ m. m == id) ids then live id a else None)
    by ih true s true l = rw (is-live n a l) (found-first id n a (live_among ids a) ∙ rw s (sym (same-live id n a _ s (is-live n a l))))
    by ih true s false l =
        let none : live id a ≡ None = same-live id n a None s (isnt-live n a l) in
        rw (isnt-live n a l) (rw s (ih ∙ either-none (list_any (λ m. m == id) ids) (live id a) none))
    by ih false s true l = rw (is-live n a l) (found-first id n a (live_among ids a) ∙ rw s ih)
    by ih false s false l = rw (isnt-live n a l) (rw s ih)

pub not-opened : (id : ℕ) (a : Account) → is_opened id a.log ≡ false → live id a ≡ None
not-opened id a e = isnt-live id a (by (is_opened id a.log) e)
  where
    by : (o : Bool) → o ≡ false → (o && not (is_reset id a.log) && not (is_ended_by_peer id a.log && is_ended_here id a.log)) ≡ false
    by false e = refl
    by true e = absurd cc

-- a number is looked up among the live streams
pub found-live : (id : ℕ) (a : Account) → found id (streams a) ≡ live id a
unfolding streams
found-live id a =
    looked id (reverse (opened a.log)) a
    ∙ ap (λ o. if o then live id a else None) (sym (list_any-IsPermutation (λ n. n == id) (opened a.log) (reverse (opened a.log)) (IsPermutation-reverse (opened a.log))))
    ∙ by (is_opened id a.log) refl
  where
    by : (o : Bool) → is_opened id a.log ≡ o → (if o then live id a else None) ≡ live id a
    by true e = refl
    by false e = sym (not-opened id a e)
