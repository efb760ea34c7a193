-- Which gap may have a number.
use Rattle.std.proofs.Common.{◌≡◌, ℕ, ◌≤◌, ◌<◌, Bool, true, false, nat_le, nat_lt, ◌||◌, List, [], ◌∷◌, length, slice_index_or, zero, suc, refl, subst, ◌∙◌, arith}
use Rattle.std.specs.List.{list_any}
use Rattle.std.specs.List.Sorted.{IsPartitionedBy}
use Rattle.std.proofs.lemmas.List.{get_or_default}
use Rattle.std.proofs.lemmas.List.Elements.{All-get_or}
use Rattle.std.proofs.lemmas.Grind.{common_steps}
use Rattle.h2_model.specs.declared.gap.Gap.{Gap}
use Rattle.h2_model.specs.Numbers.{is_within}
use Rattle.h2_streams.specs.Gaps.{Ascends}
use Rattle.h2_streams.proofs.Places.{is_below, isnt_below}

-- a test that one element at most passes
none : (p : Gap → Bool) (gaps : List Gap) → ((k : ℕ) (d : Gap) → k < length gaps → p (slice_index_or gaps k d) ≡ false) → list_any p gaps ≡ false
none p [] h = refl
none p (g ∷ gaps) h = rw (h 0 g (omega arith)) (none p gaps (λ k d l. h (suc k) d (omega (arith, l))))

one : (p : Gap → Bool) (gaps : List Gap) (at : ℕ) (d : Gap) → at < length gaps
    → ((k : ℕ) (d : Gap) → k < at → p (slice_index_or gaps k d) ≡ false)
    → ((k : ℕ) (d : Gap) → at < k → k < length gaps → p (slice_index_or gaps k d) ≡ false)
    → list_any p gaps ≡ p (slice_index_or gaps at d)
one p [] at d l lower higher = absurd (omega (arith, l))
one p (g ∷ gaps) zero d l lower higher =
    last (p g) (none p gaps (λ k d m. higher (suc k) d (omega arith) (omega (arith, m))))
  where
    last : (c : Bool) → list_any p gaps ≡ false → (c || list_any p gaps) ≡ c
    last true e = refl
    last false e = e
one p (g ∷ gaps) (suc at) d l lower higher =
    rw (lower 0 g (omega arith)) (one p gaps at d (omega (arith, l)) (λ k d m. lower (suc k) d (omega (arith, m))) (λ k d m n. higher (suc k) d (omega (arith, m)) (omega (arith, n))))

-- a number isn't in a gap that ends below it, or begins above it
ends_below : (id : ℕ) (g : Gap) → g.last < id → is_within id g ≡ false
ends_below id g l = grind (arith, common_steps, l)

begins_above : (id : ℕ) (g : Gap) → id < g.first → is_within id g ≡ false
begins_above id g l = grind (arith, common_steps, l)

begins_there : (id : ℕ) (g : Gap) → id ≤ g.last → is_within id g ≡ nat_le g.first id
begins_there id g l = grind (arith, common_steps, l)

-- ends rise as gaps do
pub parted : (gaps : List Gap) (id : ℕ) → Ascends gaps → IsPartitionedBy (λ g. nat_lt g.last id) gaps
parted gaps id up i j d l m e = below (rises i j d l m) e
  where
    below : {a b : ℕ} → a ≤ b → nat_lt b id ≡ true → nat_lt a id ≡ true
    below l e = grind (arith, common_steps, l, e)

    rises : (i j : ℕ) (d : Gap) → i ≤ j → j < length gaps → (slice_index_or gaps i d).last ≤ (slice_index_or gaps j d).last
    rises i j d l m = by (nat_lt i j) refl where
      by : (c : Bool) → nat_lt i j ≡ c → (slice_index_or gaps i d).last ≤ (slice_index_or gaps j d).last
      by true e =
          let next : (slice_index_or gaps i d).last < (slice_index_or gaps j d).first = up.order i j d (is_below i j e) m in
          let own : (slice_index_or gaps j d).first ≤ (slice_index_or gaps j d).last = All-get_or (λ g. g.first ≤ g.last) gaps j d m up.each in
          omega arith
      by false e =
          let back : j ≤ i = isnt_below i j e in
          let same : i ≡ j = omega arith in
          subst (λ k. (slice_index_or gaps i d).last ≤ (slice_index_or gaps k d).last) same (omega arith)

-- where all gaps end below a number, none has it
pub all_below : (gaps : List Gap) (id at : ℕ) → ((k : ℕ) (d : Gap) → k < at → (slice_index_or gaps k d).last < id) → length gaps ≤ at
    → list_any (is_within id) gaps ≡ false
all_below gaps id at lower l = none (is_within id) gaps (λ k d m. ends_below id _ (lower k d (omega arith)))

-- and otherwise the first that doesn't is the one
pub first_not_below : (gaps : List Gap) (id at : ℕ) (d : Gap) → Ascends gaps → at < length gaps
    → ((k : ℕ) (d : Gap) → k < at → (slice_index_or gaps k d).last < id)
    → id ≤ (slice_index_or gaps at d).last
    → list_any (is_within id) gaps ≡ nat_le (slice_index_or gaps at d).first id
first_not_below gaps id at d up l lower here =
    one (is_within id) gaps at d l (λ k d m. ends_below id _ (lower k d m)) (λ k e m n. begins_above id _ (above k e m n))
    ∙ begins_there id (slice_index_or gaps at d) here
  where
    above : (k : ℕ) (e : Gap) → at < k → k < length gaps → id < (slice_index_or gaps k e).first
    above k e m n =
        let next : (slice_index_or gaps at d).last < (slice_index_or gaps k d).first = up.order at k d m n in
        let far : id < (slice_index_or gaps k d).first = omega arith in
        subst (λ g. id < g.first) (get_or_default gaps k d e n) far
