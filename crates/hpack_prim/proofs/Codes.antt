-- The table, checked word by word.
use Rattle.std.proofs.Common.{◌≡◌, ℕ, zero, suc, ◌+◌, ◌<◌, ◌≤◌, Bool, true, false, ◌&&◌, nat_eq, nat_le, nat_lt, List, [], ◌∷◌, length, refl, ap, sym, ◌∙◌, Option, Some, None}
use Rattle.std.specs.List.{list_all}
use Rattle.std.proofs.lemmas.Bool.Decides.{Decides-below_and}
use borrow.Author.Tests.{leb-true, ltb-true, eqb-true}
use Rattle.hpack_prim.specs.Huffman.{bits, rows, word_in, word, walk, walk_of, symbol, counts, in_order}

-- a walk along the word of a symbol ends behind it, at a rank
abbrev ends : (ℕ → Bool) → Option (ℕ × List ℕ) → Bool
ends p None = false
ends p (Some (rank, [])) = p rank
ends p (Some (rank, b ∷ bs)) = false

abbrev word_fits : ℕ → Bool
word_fits s = ends (λ rank. nat_eq (symbol rank) s) (walk_of (word s)) && (nat_le 5 (length (word s)) && list_all (λ b. nat_lt b 2) (word s))

abbrev words_fit : ℕ → Bool
words_fit zero = true
words_fit (suc n) = word_fits n && words_fit n

words_checked : words_fit 257 ≡ true
unfolding bits rows word_in word walk walk_of symbol counts in_order
words_checked = refl

abbrev rank_fits : ℕ → Bool
rank_fits k = ends (nat_eq k) (walk_of (word (symbol k))) && nat_lt (symbol k) 257

abbrev ranks_fit : ℕ → Bool
ranks_fit zero = true
ranks_fit (suc n) = rank_fits n && ranks_fit n

ranks_checked : ranks_fit 257 ≡ true
unfolding bits rows word_in word walk walk_of symbol counts in_order
ranks_checked = refl

-- an all-test holds at each number below
pub below : (p f : ℕ → Bool) → f 0 ≡ true → ((n : ℕ) → f (suc n) ≡ (p n && f n)) → (n : ℕ) → f n ≡ true → (k : ℕ) → k < n → p k ≡ true
below p f none more n h k less = (Decides-below_and p (λ k. p k ≡ true) f (λ k. ((λ e. e), (λ e. e))) none more n).0 h k less

pub both : (p q : Bool) → (p && q) ≡ true → (p ≡ true) × (q ≡ true)
both true true h = (refl, refl)
both true false h = (cc)
both false q h = (cc)

ends_at : (p : ℕ → Bool) (w : Option (ℕ × List ℕ)) → ends p w ≡ true → (rank : ℕ) × (w ≡ Some (rank, [])) × (p rank ≡ true)
ends_at p None h = (cc)
ends_at p (Some (rank, [])) h = (rank, refl, h)
ends_at p (Some (rank, b ∷ bs)) h = (cc)

-- a walk along a symbol's word finds the symbol
pub record Walked (s rank : ℕ) : Type 0 where
  pub walked : walk_of (word s) ≡ Some (rank, [])
  pub symbol : symbol rank ≡ s

pub word_walks : (s : ℕ) → s < 257 → (rank : ℕ) × Walked s rank
word_walks s less =
    let h = both _ _ (below word_fits words_fit refl (λ n. refl) 257 words_checked s less) in
    let e = ends_at (λ rank. nat_eq (symbol rank) s) (walk_of (word s)) h.0 in
    (e.0, record { walked = e.1; symbol = eqb-true _ _ e.2 })

-- a word has five bits or more
pub record Long (s : ℕ) : Type 0 where
  pub long : 5 ≤ length (word s)
  pub binary : list_all (λ b. nat_lt b 2) (word s) ≡ true

pub word_long : (s : ℕ) → s < 257 → Long s
word_long s less =
    let h = both _ _ (both _ _ (below word_fits words_fit refl (λ n. refl) 257 words_checked s less)).1 in
    record { long = leb-true 5 _ h.0; binary = h.1 }

pub rank_walks : (k : ℕ) → k < 257 → (walk_of (word (symbol k)) ≡ Some (k, [])) × (symbol k < 257)
rank_walks k less =
    let h = both _ _ (below rank_fits ranks_fit refl (λ n. refl) 257 ranks_checked k less) in
    let e = ends_at (nat_eq k) (walk_of (word (symbol k))) h.0 in
    (e.1 ∙ ap (λ (r : ℕ). Some (r, [])) (sym (eqb-true k e.0 e.2)), ltb-true _ 257 h.1)

abbrev pub total : List ℕ → ℕ
total [] = 0
total (c ∷ cs) = c + total cs

pub counts_sum : total counts ≡ 257
unfolding counts
counts_sum = refl
