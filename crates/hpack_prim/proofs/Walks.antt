-- Walks along bits.
use Rattle.std.proofs.Common.{◌≡◌, ℕ, ◌+◌, ◌-◌, ◌*◌, ◌<◌, ◌≤◌, true, false, nat_lt, List, [], ◌∷◌, ◌++◌, refl, ap, ap₂, sym, ◌∙◌, arith, Option, Some, None, cond, ◌⊎◌, inl, inr}
use borrow.Author.Tests.{ltb-true, ltb-false}
use Rattle.std.specs.List.{list_all}
use Rattle.hpack_prim.specs.Huffman.{word, walk, walk_of, counts, symbol, named, symbol_at}
use Rattle.hpack_prim.proofs.Codes.{total, word_walks, word_long, rank_walks, counts_sum, both}

-- each is 0 or 1
abbrev pub IsBits : List ℕ → Type 0
IsBits [] = Unit {0}
IsBits (b ∷ bs) = (b < 2) × IsBits bs

abbrev pub behind : List ℕ → Option (ℕ × List ℕ) → Option (ℕ × List ℕ)
behind v None = None
behind v (Some (k, r)) = Some (k, r ++ v)

-- bits behind a word change nothing
pub walk_more : (cs : List ℕ) (rank gap : ℕ) (u v : List ℕ) (k : ℕ) (r : List ℕ) → walk cs rank gap u ≡ Some (k, r) → walk cs rank gap (u ++ v) ≡ Some (k, r ++ v)
unfolding walk
walk_more [] rank gap u v k r e = cc
walk_more (c ∷ cs) rank gap [] v k r e = cc
walk_more (c ∷ cs) rank gap (b ∷ u) v k r e =
    (elim (nat_lt (2 * gap + b) c) as (λ t. cond t (Some (rank + (2 * gap + b), u)) (walk cs (rank + c) (2 * gap + b - c) u) ≡ Some (k, r)
    → cond t (Some (rank + (2 * gap + b), u ++ v)) (walk cs (rank + c) (2 * gap + b - c) (u ++ v)) ≡ Some (k, r ++ v)) [
      | true ↦ λ f. ap (behind v) f
      | false ↦ λ f. walk_more cs (rank + c) (2 * gap + b - c) u v k r f
    ]) e

-- the first length of a walk: its word ends here, or the walk goes on
pub record Here (c rank gap b : ℕ) (u : List ℕ) (k : ℕ) (r : List ℕ) : Type 0 where
  pub less : 2 * gap + b < c
  pub rank_is : rank + (2 * gap + b) ≡ k
  pub rest_is : u ≡ r

pub record On (c : ℕ) (cs : List ℕ) (rank gap b : ℕ) (u : List ℕ) (k : ℕ) (r : List ℕ) : Type 0 where
  pub more : c ≤ 2 * gap + b
  pub walked : walk cs (rank + c) (2 * gap + b - c) u ≡ Some (k, r)

abbrev pub rank_in : Option (ℕ × List ℕ) → ℕ
rank_in None = 0
rank_in (Some p) = p.0

abbrev rest_in : Option (ℕ × List ℕ) → List ℕ
rest_in None = []
rest_in (Some p) = p.1

pub first : (c : ℕ) (cs : List ℕ) (rank gap b : ℕ) (u : List ℕ) (k : ℕ) (r : List ℕ) → walk (c ∷ cs) rank gap (b ∷ u) ≡ Some (k, r) → Here c rank gap b u k r ⊎ On c cs rank gap b u k r
unfolding walk
first c cs rank gap b u k r e =
    (elim (nat_lt (2 * gap + b) c) as (λ t. nat_lt (2 * gap + b) c ≡ t → cond t (Some (rank + (2 * gap + b), u)) (walk cs (rank + c) (2 * gap + b - c) u) ≡ Some (k, r) → Here c rank gap b u k r ⊎ On c cs rank gap b u k r) [
      | true ↦ λ t f. inl (record { less = ltb-true _ _ t; rank_is = ap rank_in f; rest_is = ap rest_in f })
      | false ↦ λ t f. inr (record { more = ltb-false _ _ t; walked = f })
    ]) refl e

pub record Ranked (cs : List ℕ) (rank k : ℕ) : Type 0 where
  pub low : rank ≤ k
  pub high : k < rank + total cs

pub walk_rank : (cs : List ℕ) (rank gap : ℕ) (u : List ℕ) (k : ℕ) (r : List ℕ) → walk cs rank gap u ≡ Some (k, r) → Ranked cs rank k
unfolding walk
walk_rank [] rank gap u k r e = cc
walk_rank (c ∷ cs) rank gap [] k r e = cc
walk_rank (c ∷ cs) rank gap (b ∷ u) k r e = elim (first c cs rank gap b u k r e) [
  | inl h ↦ record { low = omega (arith, h.rank_is, h.less); high = omega (arith, h.rank_is, h.less) }
  | inr o ↦ let i = walk_rank cs (rank + c) (2 * gap + b - c) u k r o.walked in record { low = omega (arith, i.low); high = omega (arith, i.high) }
]

-- what walks to a rank
pub record Same (g h : ℕ) (u w r : List ℕ) : Type 0 where
  pub gaps : g ≡ h
  pub bits_are : u ≡ w ++ r

pub walk_same : (cs : List ℕ) (rank g h : ℕ) (u w : List ℕ) (k : ℕ) (r : List ℕ) → walk cs rank g u ≡ Some (k, r) → walk cs rank h w ≡ Some (k, []) → IsBits u → IsBits w → Same g h u w r
unfolding walk
walk_same [] rank g h u w k r e f x y = cc
walk_same (c ∷ cs) rank g h [] w k r e f x y = cc
walk_same (c ∷ cs) rank g h (b ∷ u) [] k r e f x y = cc
walk_same (c ∷ cs) rank g h (b ∷ u) (d ∷ w) k r e f x y = elim (first c cs rank g b u k r e) [
  | inl p ↦ elim (first c cs rank h d w k [] f) [
    | inl q ↦ let bb : b < 2 = x.0 in let dd : d < 2 = y.0 in
        let ge : g ≡ h = omega (arith, p.rank_is, q.rank_is) in
        let be : b ≡ d = omega (arith, p.rank_is, q.rank_is) in
        record { gaps = ge; bits_are = ap₂ ◌∷◌ be (p.rest_is ∙ ap (λ (v : List ℕ). v ++ r) (sym q.rest_is)) }
    | inr q ↦ absurd (omega (arith, p.rank_is, p.less, (walk_rank cs (rank + c) (2 * h + d - c) w k [] q.walked).low))
  ]
  | inr p ↦ elim (first c cs rank h d w k [] f) [
    | inl q ↦ absurd (omega (arith, q.rank_is, q.less, (walk_rank cs (rank + c) (2 * g + b - c) u k r p.walked).low))
    | inr q ↦ let i = walk_same cs (rank + c) (2 * g + b - c) (2 * h + d - c) u w k r p.walked q.walked x.1 y.1 in
        let bb : b < 2 = x.0 in let dd : d < 2 = y.0 in
        let ge : g ≡ h = omega (arith, i.gaps, p.more, q.more) in
        let be : b ≡ d = omega (arith, i.gaps, p.more, q.more) in
        record { gaps = ge; bits_are = ap₂ ◌∷◌ be i.bits_are }
  ]
]

binary : (bs : List ℕ) → list_all (λ b. nat_lt b 2) bs ≡ true → IsBits bs
binary [] h = tt
binary (b ∷ bs) h = let p = both _ _ h in (ltb-true b 2 p.0, binary bs p.1)

-- what the walk finds is there
pub record Found (bs : List ℕ) (s : ℕ) (r : List ℕ) : Type 0 where
  pub word_is : bs ≡ word s ++ r
  pub symbol : s < 257

pub walk_found : (bs : List ℕ) (k : ℕ) (r : List ℕ) → IsBits bs → walk_of bs ≡ Some (k, r) → Found bs (symbol k) r
unfolding walk_of
walk_found bs k r x e =
    let h = walk_rank counts 0 0 bs k r e in
    let w = rank_walks k (omega (arith, h.high, counts_sum)) in
    record { word_is = (walk_same counts 0 0 0 bs (word (symbol k)) k r e w.0 x (binary _ (word_long _ w.1).binary)).bits_are; symbol = w.1 }

walk_of_more : (u v : List ℕ) (k : ℕ) (r : List ℕ) → walk_of u ≡ Some (k, r) → walk_of (u ++ v) ≡ Some (k, r ++ v)
unfolding walk_of
walk_of_more u v k r e = walk_more counts 0 0 u v k r e

-- what is there is found
pub walk_finds : (bs : List ℕ) (s : ℕ) (r : List ℕ) → s < 257 → bs ≡ word s ++ r → symbol_at bs ≡ Some (s, r)
unfolding symbol_at
walk_finds bs s r less e =
    let w = word_walks s less in
    ap symbol_at e ∙ ap named (walk_of_more (word s) r w.0 [] w.1.walked) ∙ ap (λ (x : ℕ). Some (x, r)) w.1.symbol

pub none_there : (bs : List ℕ) → symbol_at bs ≡ None → (s : ℕ) (r : List ℕ) → s < 257 → bs ≡ word s ++ r → ⊥
none_there bs e s r less f = let g = walk_finds bs s r less f in let h : symbol_at bs ≡ Some (s, r) = g in let k : symbol_at bs ≡ None = e in (cc)

found_in : (bs : List ℕ) (s : ℕ) (r : List ℕ) → IsBits bs → (w : Option (ℕ × List ℕ)) → walk_of bs ≡ w → named w ≡ Some (s, r) → Found bs s r
found_in bs s r x None e f = (cc)
found_in bs s r x (Some (k, q)) e f =
    let h = walk_found bs k q x e in
    let se : symbol k ≡ s = ap rank_in f in
    let qe : q ≡ r = ap rest_in f in
    record { word_is = h.word_is ∙ rw (se, qe) refl; symbol = rw (← se) h.symbol }

pub symbol_found : (bs : List ℕ) (s : ℕ) (r : List ℕ) → IsBits bs → symbol_at bs ≡ Some (s, r) → Found bs s r
unfolding symbol_at
symbol_found bs s r x e = found_in bs s r x (walk_of bs) refl e

-- no word begins another
pub one_word : (s t : ℕ) (x y : List ℕ) → s < 257 → t < 257 → word s ++ x ≡ word t ++ y → (s ≡ t) × (x ≡ y)
one_word s t x y a b e =
    let f : Some (s, x) ≡ Some (t, y) = sym (walk_finds (word s ++ x) s x a refl) ∙ walk_finds (word s ++ x) t y b e in
    (ap rank_in f, ap rest_in f)

named_more : (u v : List ℕ) (s : ℕ) (r : List ℕ) (w : Option (ℕ × List ℕ)) → walk_of u ≡ w → named w ≡ Some (s, r) → named (walk_of (u ++ v)) ≡ Some (s, r ++ v)
named_more u v s r None e f = (cc)
named_more u v s r (Some (k, q)) e f =
    let same : symbol k ≡ s = ap rank_in f in
    let rest : q ≡ r = ap rest_in f in
    ap named (walk_of_more u v k q e) ∙ rw (same, rest) refl

-- bits behind the code change nothing
pub symbol_more : (u v : List ℕ) (s : ℕ) (r : List ℕ) → symbol_at u ≡ Some (s, r) → symbol_at (u ++ v) ≡ Some (s, r ++ v)
unfolding symbol_at
symbol_more u v s r e = named_more u v s r (walk_of u) refl e
