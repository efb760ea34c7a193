-- Where a number stands in a table.
use Rattle.std.proofs.Common.{◌≡◌, ℕ, ◌+◌, ◌≤◌, ◌<◌, Bool, true, false, nat_lt, List, [], ◌∷◌, ◌++◌, length, slice_index_or, Option, Some, None, suc, subst, refl, ap, ◌==◌, sym, ◌∙◌, take, drop, option_to_list, All, IfSome, if◌then◌else◌, arith}
use Rattle.std.specs.List.{cons_option}
use Rattle.std.proofs.lemmas.List.{get_or-take, get_or-drop, take-append-drop}
use Rattle.std.proofs.Math.Seq.{drop-cons}
use Rattle.std.specs.List.Sorted.{IsPartitionedBy}
use Rattle.std.proofs.lemmas.Bool.{eqb-true}
use Rattle.std.proofs.lemmas.List.Elements.{All-head, All-tail}
use Rattle.std.proofs.lemmas.Grind.{common_steps}
use Rattle.h2_model.specs.declared.stream.Stream.{Stream}
use Rattle.h2_model.specs.State.{found}
use Rattle.h2_model.specs.Moves.{adjusted}
use Rattle.h2_streams.specs.Tables.{Ascends, Apart, HasCreditInRange}

pub is_below : (a b : ℕ) → nat_lt a b ≡ true → a < b
is_below a b e = grind (arith, common_steps, e)

pub isnt_below : (a b : ℕ) → nat_lt a b ≡ false → b ≤ a
isnt_below a b e = grind (arith, common_steps, e)

below : (a b c : ℕ) → a ≤ b → nat_lt b c ≡ true → nat_lt a c ≡ true
below a b c l e = grind (arith, common_steps, l, e)

rises : (streams : List Stream) (i j : ℕ) (d : Stream) → Ascends streams → i ≤ j → j < length streams → (slice_index_or streams i d).id ≤ (slice_index_or streams j d).id
rises streams i j d up l m = by (nat_lt i j) refl
  where
    by : (c : Bool) → nat_lt i j ≡ c → (slice_index_or streams i d).id ≤ (slice_index_or streams j d).id
    by true e = let h : (slice_index_or streams i d).id < (slice_index_or streams j d).id = up i j d (is_below i j e) m in omega arith
    by false e = let same : i ≡ j = let h : j ≤ i = isnt_below i j e in omega arith in subst (λ k. (slice_index_or streams i d).id ≤ (slice_index_or streams k d).id) same (omega arith)

-- No stream of a list has a number

pub apart : (id : ℕ) (streams : List Stream) → ((k : ℕ) (d : Stream) → k < length streams → ((slice_index_or streams k d).id == id) ≡ false) → Apart id streams
apart id [] e = tt
apart id (s ∷ streams) e = (e 0 s (omega arith), apart id streams (λ k d l. e (suc k) d (omega (arith, l))))

pub found-apart : (id : ℕ) (front back : List Stream) → Apart id front → found id (front ++ back) ≡ found id back
found-apart id [] back a = refl
found-apart id (s ∷ front) back a = rw a.0 (found-apart id front back a.1)

pub found-none : (id : ℕ) (streams : List Stream) → Apart id streams → found id streams ≡ None
found-none id [] a = refl
found-none id (s ∷ streams) a = rw a.0 (found-none id streams a.1)

pub adjusted-apart : (id : ℕ) (f : Stream → Option Stream) (streams : List Stream) → Apart id streams → adjusted id f streams ≡ streams
adjusted-apart id f [] a = refl
adjusted-apart id f (s ∷ streams) a = rw a.0 (ap (λ xs. s ∷ xs) (adjusted-apart id f streams a.1))

adjusted-behind : (id : ℕ) (f : Stream → Option Stream) (front back : List Stream) → Apart id front → adjusted id f (front ++ back) ≡ front ++ adjusted id f back
adjusted-behind id f [] back a = refl
adjusted-behind id f (s ∷ front) back a = rw a.0 (ap (λ xs. s ∷ xs) (adjusted-behind id f front back a.1))

differs : (a b : ℕ) → a < b → (a == b) ≡ false
differs a b l = grind (arith, common_steps, l)

differs' : (a b : ℕ) → b < a → (a == b) ≡ false
differs' a b l = grind (arith, common_steps, l)

beyond : (id a b : ℕ) → (a == id) ≡ false → id ≤ a → a ≤ b → id < b
beyond id a b e l m = grind (arith, common_steps, e, l, m)

-- a number that isn't where it would stand doesn't stand anywhere
pub absent : (streams : List Stream) (id at : ℕ) → Ascends streams
    → ((k : ℕ) (d : Stream) → k < at → (slice_index_or streams k d).id < id)
    → ((k : ℕ) (d : Stream) → at ≤ k → k < length streams → id ≤ (slice_index_or streams k d).id)
    → ((d : Stream) → at < length streams → ((slice_index_or streams at d).id == id) ≡ false) → Apart id streams
absent streams id at up lower higher not_here = apart id streams (λ k d l. by k d l (nat_lt k at) refl)
  where
    by : (k : ℕ) (d : Stream) → k < length streams → (c : Bool) → nat_lt k at ≡ c → ((slice_index_or streams k d).id == id) ≡ false
    by k d l true e = differs _ id (lower k d (is_below k at e))
    by k d l false e =
        let far : at ≤ k = isnt_below k at e in
        let here : at < length streams = omega (arith, l, far) in
        let no : ((slice_index_or streams at d).id == id) ≡ false = not_here d here in
        let low : id ≤ (slice_index_or streams at d).id = higher at d (omega arith) here in
        let up_to : (slice_index_or streams at d).id ≤ (slice_index_or streams k d).id = rises streams at k d up far l in
        differs' _ id (beyond id _ _ no low up_to)

-- where a number stands, no other stream has it
pub front-apart : (streams : List Stream) (id at : ℕ) → Ascends streams → at < length streams → ((d : Stream) → (slice_index_or streams at d).id ≡ id) → Apart id (take at streams)
front-apart streams id at up l own = apart id (take at streams) (λ k d m.
    let near : k < at = short k m in
    subst (λ s. (s.id == id) ≡ false) (sym (get_or-take at streams k d near))
    (differs _ id (subst (λ n. (slice_index_or streams k d).id < n) (own d) (up k at d near l))))
  where
    short : (k : ℕ) → k < length (take at streams) → k < at
    short k m = grind (arith, common_steps, m)

pub back-apart : (streams : List Stream) (id at : ℕ) → Ascends streams → at < length streams → ((d : Stream) → (slice_index_or streams at d).id ≡ id) → Apart id (drop (suc at) streams)
back-apart streams id at up l own = apart id (drop (suc at) streams) (λ k d m.
    let far : suc at + k < length streams = within k m in
    subst (λ s. (s.id == id) ≡ false) (sym (get_or-drop (suc at) streams k d))
    (differs' _ id (subst (λ n. n < (slice_index_or streams (suc at + k) d).id) (own d) (up at (suc at + k) d (omega arith) far))))
  where
    within : (k : ℕ) → k < length (drop (suc at) streams) → suc at + k < length streams
    within k m = grind (arith, common_steps, m)

parts : (streams : List Stream) (at : ℕ) (d : Stream) → at < length streams → streams ≡ take at streams ++ slice_index_or streams at d ∷ drop (suc at) streams
parts streams at d l = sym (take-append-drop at streams) ∙ ap (λ xs. take at streams ++ xs) (drop-cons streams at d l)

same : (a id : ℕ) → a ≡ id → (a == id) ≡ true
same a id e = grind (arith, common_steps, e)

-- the stream that has a number is found
pub found-here : (streams : List Stream) (id at : ℕ) → Ascends streams → at < length streams → ((d : Stream) → (slice_index_or streams at d).id ≡ id)
    → (d : Stream) → found id streams ≡ Some (slice_index_or streams at d)
found-here streams id at up l own d =
    ap (found id) (parts streams at d l)
    ∙ found-apart id (take at streams) (slice_index_or streams at d ∷ drop (suc at) streams) (front-apart streams id at up l own)
    ∙ rw (same _ id (own d)) refl

-- and is the one that changes
pub adjusted-here : (streams : List Stream) (id at : ℕ) (f : Stream → Option Stream) → Ascends streams → at < length streams → ((d : Stream) → (slice_index_or streams at d).id ≡ id)
    → (d : Stream) → adjusted id f streams ≡ take at streams ++ (option_to_list (f (slice_index_or streams at d)) ++ drop (suc at) streams)
adjusted-here streams id at f up l own d =
    ap (adjusted id f) (parts streams at d l)
    ∙ adjusted-behind id f (take at streams) (slice_index_or streams at d ∷ drop (suc at) streams) (front-apart streams id at up l own)
    ∙ ap (λ xs. take at streams ++ xs) (rw (same _ id (own d)) (first (f (slice_index_or streams at d)) (adjusted-apart id f (drop (suc at) streams) (back-apart streams id at up l own))))
  where
    first : (o : Option Stream) {xs : List Stream} → xs ≡ drop (suc at) streams → cons_option o xs ≡ option_to_list o ++ drop (suc at) streams
    first None e = e
    first (Some x) e = ap (λ ys. x ∷ ys) e

-- no stream below a number stands behind one that isn't
pub parted : (streams : List Stream) (id : ℕ) → Ascends streams → IsPartitionedBy (λ s. nat_lt s.id id) streams
parted streams id up i j d l m e = below _ _ id (rises streams i j d up l m) e

pub unequal : (a b : ℕ) → (a ≡ b → ⊥) → (a == b) ≡ false
unequal a b h = by (a == b) refl
  where
    by : (c : Bool) → (a == b) ≡ c → (a == b) ≡ false
    by true e = absurd (h (eqb-true a b e))
    by false e = e

-- what is true of each stream is true of the one that is found
pub found-range : (id : ℕ) (streams : List Stream) → All HasCreditInRange streams → IfSome (found id streams) HasCreditInRange
found-range id [] r = tt
found-range id (s ∷ streams) r = by (s.id == id) (All-head HasCreditInRange s streams r) (found-range id streams (All-tail HasCreditInRange s streams r))
  where
    by : (c : Bool) → HasCreditInRange s → IfSome (found id streams) HasCreditInRange → IfSome (if c then Some s else found id streams) HasCreditInRange
    by true here behind = here
    by false here behind = behind
