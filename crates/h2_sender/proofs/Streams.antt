-- Where a stream stands among the shares, and what its share is.
use Rattle.std.proofs.Common.{arith, ◌≡◌, ◌≤◌, ◌<◌, ◌+◌, ℕ, zero, suc, Bool, true, false, Option, Some, List, [], ◌∷◌, length, nat_lt, slice_index_or, slice_set, cond, ◌==◌, refl, ap, subst}
use Rattle.std.specs.List.{insert, remove, sum_by}
use Rattle.std.specs.List.Sorted.{IsPartitionedBy}
use Rattle.std.specs.Option.{OnSome}
use Rattle.std.proofs.lemmas.Bool.{eqb-true}
use Rattle.std.proofs.lemmas.Grind.{common_steps}
use Rattle.std.proofs.lemmas.List.Sums.{sum_by-cons, sum_by-set, sum_by-remove}
use Rattle.h2_sender.specs.declared.shares.Share.{Share}
use Rattle.h2_sender.specs.Shares.{AreAbove, AreInOrder, IsAt, IsGap, all_frames}

-- Where a stream stands

differs : (a b : ℕ) → a < b → (a == b) ≡ false
differs a b l = grind (arith, common_steps, l)

differs' : (a b : ℕ) → b < a → (a == b) ≡ false
differs' a b l = grind (arith, common_steps, l)

same : (a b : ℕ) → a ≡ b → (a == b) ≡ true
same a b e = grind (arith, common_steps, e)

pub is_below : (a b : ℕ) → nat_lt a b ≡ true → a < b
is_below a b e = grind (arith, common_steps, e)

pub isnt_below : (a b : ℕ) → nat_lt a b ≡ false → b ≤ a
isnt_below a b e = grind (arith, common_steps, e)

pub strictly : (a b : ℕ) → b ≤ a → (a ≡ b → ⊥) → b < a
strictly a b l h = by (a == b) refl
  where
    by : (c : Bool) → (a == b) ≡ c → b < a
    by true e = absurd (h (eqb-true a b e))
    by false e = grind (arith, common_steps, e, l)

above_at : (n : ℕ) (shares : List Share) (j : ℕ) (d : Share) → AreAbove n shares → j < length shares → n < (slice_index_or shares j d).stream
above_at n [] j d a l = absurd (omega (arith, l))
above_at n (s ∷ shares) zero d a l = a.0
above_at n (s ∷ shares) (suc j) d a l = above_at n shares j d a.1 (omega (arith, l))

-- no stream below a number stands behind one that isn't
pub parted : (id : ℕ) (shares : List Share) → AreInOrder shares → IsPartitionedBy (λ s. nat_lt s.stream id) shares
parted id [] o i j d l m e = absurd (omega (arith, m))
parted id (s ∷ shares) o zero zero d l m e = e
parted id (s ∷ shares) o zero (suc j) d l m e =
    let up : s.stream < (slice_index_or shares j d).stream = above_at s.stream shares j d o.1 (omega (arith, m)) in
    let here : (slice_index_or shares j d).stream < id = is_below _ id e in
    grind (arith, common_steps, up, here)
parted id (s ∷ shares) o (suc i) zero d l m e = absurd (omega (arith, l))
parted id (s ∷ shares) o (suc i) (suc j) d l m e = parted id shares o.2 i j d (omega (arith, l)) (omega (arith, m)) e

pub at_place : (id n : ℕ) (shares : List Share) → n < length shares → ((k : ℕ) (d : Share) → k < n → (slice_index_or shares k d).stream < id)
    → ((d : Share) → (slice_index_or shares n d).stream ≡ id) → IsAt id n shares
at_place id n [] l below own = absurd (omega (arith, l))
at_place id zero (s ∷ shares) l below own = own s
at_place id (suc n) (s ∷ shares) l below own =
    (below zero s (omega arith), at_place id n shares (omega (arith, l)) (λ k d m. below (suc k) d (omega (arith, m))) own)

pub gap_place : (id n : ℕ) (shares : List Share) → n ≤ length shares → ((k : ℕ) (d : Share) → k < n → (slice_index_or shares k d).stream < id)
    → ((d : Share) → n < length shares → id < (slice_index_or shares n d).stream) → IsGap id n shares
gap_place id zero [] l below above = tt
gap_place id (suc n) [] l below above = absurd (omega (arith, l))
gap_place id zero (s ∷ shares) l below above = above s (omega arith)
gap_place id (suc n) (s ∷ shares) l below above =
    (below zero s (omega arith), gap_place id n shares (omega (arith, l)) (λ k d m. below (suc k) d (omega (arith, m))) (λ d m. above d (omega (arith, m))))

pub at_within : (id n : ℕ) (shares : List Share) → IsAt id n shares → n < length shares
at_within id n [] a = absurd a
at_within id zero (s ∷ shares) a = omega arith
at_within id (suc n) (s ∷ shares) a = let rest = at_within id n shares a.1 in omega arith

pub gap_within : (id n : ℕ) (shares : List Share) → IsGap id n shares → n ≤ length shares
gap_within id zero shares g = omega arith
gap_within id (suc n) [] g = absurd g
gap_within id (suc n) (s ∷ shares) g = let rest = gap_within id n shares g.1 in omega arith

pub its_stream : (id n : ℕ) (shares : List Share) (d : Share) → IsAt id n shares → (slice_index_or shares n d).stream ≡ id
its_stream id n [] d a = absurd a
its_stream id zero (s ∷ shares) d a = a
its_stream id (suc n) (s ∷ shares) d a = its_stream id n shares d a.1

-- What is counted for a stream is in its share

abbrev part : (Share → ℕ) → ℕ → Share → ℕ
part f id s = cond (s.stream == id) (f s) 0

none_above : (f : Share → ℕ) (id n : ℕ) (shares : List Share) → AreAbove n shares → id ≤ n → sum_by (part f id) shares ≡ 0
none_above f id n [] a l = refl
none_above f id n (s ∷ shares) a l =
    let apart : (s.stream == id) ≡ false = differs' s.stream id (omega (arith, a.0, l)) in
    let rest : sum_by (part f id) shares ≡ 0 = none_above f id n shares a.1 l in
    let here : part f id s ≡ 0 = rw apart refl in
    let whole = sum_by-cons (part f id) s shares in
    omega arith

pub share_at : (f : Share → ℕ) (id n : ℕ) (shares : List Share) (d : Share) → AreInOrder shares → IsAt id n shares → sum_by (part f id) shares ≡ f (slice_index_or shares n d)
share_at f id n [] d o a = absurd a
share_at f id zero (s ∷ shares) d o a =
    let rest : sum_by (part f id) shares ≡ 0 = none_above f id s.stream shares o.1 (omega (arith, a)) in
    let here : part f id s ≡ f s = rw (same s.stream id a) refl in
    let whole = sum_by-cons (part f id) s shares in
    omega arith
share_at f id (suc n) (s ∷ shares) d o a =
    let rest : sum_by (part f id) shares ≡ f (slice_index_or shares n d) = share_at f id n shares d o.2 a.1 in
    let here : part f id s ≡ 0 = rw (differs s.stream id a.0) refl in
    let whole = sum_by-cons (part f id) s shares in
    omega arith

pub no_share : (f : Share → ℕ) (id n : ℕ) (shares : List Share) → AreInOrder shares → IsGap id n shares → sum_by (part f id) shares ≡ 0
no_share f id zero [] o g = refl
no_share f id (suc n) [] o g = absurd g
no_share f id zero (s ∷ shares) o g =
    let rest : sum_by (part f id) shares ≡ 0 = none_above f id s.stream shares o.1 (omega (arith, g)) in
    let here : part f id s ≡ 0 = rw (differs' s.stream id g) refl in
    let whole = sum_by-cons (part f id) s shares in
    omega arith
no_share f id (suc n) (s ∷ shares) o g =
    let rest : sum_by (part f id) shares ≡ 0 = no_share f id n shares o.2 g.1 in
    let here : part f id s ≡ 0 = rw (differs s.stream id g.0) refl in
    let whole = sum_by-cons (part f id) s shares in
    omega arith

-- How a share's change counts

pub set_more : (f : Share → ℕ) (id n at k : ℕ) (x d : Share) (shares : List Share) → IsAt id at shares → x.stream ≡ id → f x ≡ f (slice_index_or shares at d) + k
    → sum_by (part f n) (slice_set shares at x) ≡ sum_by (part f n) shares + cond (id == n) k 0
set_more f id n at k x d shares a e g =
    let set : sum_by (part f n) (slice_set shares at x) + part f n (slice_index_or shares at d) ≡ sum_by (part f n) shares + part f n x = sum_by-set (part f n) shares at x d (at_within id at shares a) in
    let new : part f n x ≡ cond (id == n) (f x) 0 = ap (λ i. cond (i == n) (f x) 0) e in
    let old : part f n (slice_index_or shares at d) ≡ cond (id == n) (f (slice_index_or shares at d)) 0 = ap (λ i. cond (i == n) (f (slice_index_or shares at d)) 0) (its_stream id at shares d a) in
    let more : cond (id == n) (f x) 0 ≡ cond (id == n) (f (slice_index_or shares at d)) 0 + cond (id == n) k 0 = by (id == n) in
    omega arith
  where
    by : (c : Bool) → cond c (f x) 0 ≡ cond c (f (slice_index_or shares at d)) 0 + cond c k 0
    by true = g
    by false = omega arith

pub set_less : (f : Share → ℕ) (id n at k : ℕ) (x d : Share) (shares : List Share) → IsAt id at shares → x.stream ≡ id → f x + k ≡ f (slice_index_or shares at d)
    → sum_by (part f n) (slice_set shares at x) + cond (id == n) k 0 ≡ sum_by (part f n) shares
set_less f id n at k x d shares a e g =
    let set : sum_by (part f n) (slice_set shares at x) + part f n (slice_index_or shares at d) ≡ sum_by (part f n) shares + part f n x = sum_by-set (part f n) shares at x d (at_within id at shares a) in
    let new : part f n x ≡ cond (id == n) (f x) 0 = ap (λ i. cond (i == n) (f x) 0) e in
    let old : part f n (slice_index_or shares at d) ≡ cond (id == n) (f (slice_index_or shares at d)) 0 = ap (λ i. cond (i == n) (f (slice_index_or shares at d)) 0) (its_stream id at shares d a) in
    let less : cond (id == n) (f x) 0 + cond (id == n) k 0 ≡ cond (id == n) (f (slice_index_or shares at d)) 0 = by (id == n) in
    omega arith
  where
    by : (c : Bool) → cond c (f x) 0 + cond c k 0 ≡ cond c (f (slice_index_or shares at d)) 0
    by true = g
    by false = omega arith

pub remove_less : (f : Share → ℕ) (id n at k : ℕ) (d : Share) (shares : List Share) → IsAt id at shares → k ≡ f (slice_index_or shares at d)
    → sum_by (part f n) (remove shares at) + cond (id == n) k 0 ≡ sum_by (part f n) shares
remove_less f id n at k d shares a g =
    let gone : sum_by (part f n) (remove shares at) + part f n (slice_index_or shares at d) ≡ sum_by (part f n) shares = sum_by-remove (part f n) shares at d (at_within id at shares a) in
    let old : part f n (slice_index_or shares at d) ≡ cond (id == n) (f (slice_index_or shares at d)) 0 = ap (λ i. cond (i == n) (f (slice_index_or shares at d)) 0) (its_stream id at shares d a) in
    let same : cond (id == n) k 0 ≡ cond (id == n) (f (slice_index_or shares at d)) 0 = ap (λ m. cond (id == n) m 0) g in
    omega arith

pub nothing_less : (c : Bool) (a k : ℕ) → k ≡ 0 → a + cond c k 0 ≡ a
nothing_less true a k e = omega arith
nothing_less false a k e = omega arith

-- an answer that is there tells what it left
pub gone_is : {X P : Type 0} (r : Option X) (x : X) → r ≡ Some x → OnSome r P → P
gone_is {X} {P} r x e h = subst (λ o. OnSome o P) e h

-- The order stays

above_more : (m n : ℕ) (shares : List Share) → AreAbove n shares → m ≤ n → AreAbove m shares
above_more m n [] a l = tt
above_more m n (s ∷ shares) a l = (omega (arith, a.0, l), above_more m n shares a.1 l)

above_insert : (m id n : ℕ) (x : Share) (shares : List Share) → AreAbove m shares → m < x.stream → AreAbove m (insert shares n x)
above_insert m id zero x shares a l = (l, a)
above_insert m id (suc n) x [] a l = (l, tt)
above_insert m id (suc n) x (s ∷ shares) a l = (a.0, above_insert m id n x shares a.1 l)

pub order_insert : (id n : ℕ) (x : Share) (shares : List Share) → AreInOrder shares → IsGap id n shares → x.stream ≡ id → 0 < x.frames → AreInOrder (insert shares n x)
order_insert id zero x [] o g e p = (p, tt, tt)
order_insert id (suc n) x [] o g e p = absurd g
order_insert id zero x (s ∷ shares) o g e p =
    let near : x.stream < s.stream = omega (arith, g, e) in
    (p, (near, above_more x.stream s.stream shares o.1 (omega arith)), o)
order_insert id (suc n) x (s ∷ shares) o g e p =
    (o.0, above_insert s.stream id n x shares o.1 (omega (arith, g.0, e)), order_insert id n x shares o.2 g.1 e p)

above_set : (m n : ℕ) (x : Share) (shares : List Share) → AreAbove m shares → m < x.stream → AreAbove m (slice_set shares n x)
above_set m n x [] a l = tt
above_set m zero x (s ∷ shares) a l = (l, a.1)
above_set m (suc n) x (s ∷ shares) a l = (a.0, above_set m n x shares a.1 l)

pub order_set : (id n : ℕ) (x : Share) (shares : List Share) → AreInOrder shares → IsAt id n shares → x.stream ≡ id → 0 < x.frames → AreInOrder (slice_set shares n x)
order_set id n x [] o a e p = absurd a
order_set id zero x (s ∷ shares) o a e p = (p, above_more x.stream s.stream shares o.1 (omega (arith, a, e)), o.2)
order_set id (suc n) x (s ∷ shares) o a e p =
    (o.0, above_set s.stream n x shares o.1 (omega (arith, a.0, e)), order_set id n x shares o.2 a.1 e p)

above_remove : (m n : ℕ) (shares : List Share) → AreAbove m shares → AreAbove m (remove shares n)
above_remove m zero [] a = tt
above_remove m (suc n) [] a = tt
above_remove m zero (s ∷ shares) a = a.1
above_remove m (suc n) (s ∷ shares) a = (a.0, above_remove m n shares a.1)

pub order_remove : (n : ℕ) (shares : List Share) → AreInOrder shares → AreInOrder (remove shares n)
order_remove zero [] o = tt
order_remove (suc n) [] o = tt
order_remove zero (s ∷ shares) o = o.2
order_remove (suc n) (s ∷ shares) o = (o.0, above_remove s.stream n shares o.1, order_remove n shares o.2)

-- no more streams than frames
pub few : (shares : List Share) → AreInOrder shares → length shares ≤ all_frames shares
few [] o = omega arith
few (s ∷ shares) o =
    let rest = few shares o.2 in
    let whole = sum_by-cons (λ (x : Share). x.frames) s shares in
    let here : 0 < s.frames = o.0 in
    omega arith
