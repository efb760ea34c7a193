-- What the reading of an integer says of its bytes.
use Rattle.std.proofs.Common.{◌≡◌, ℕ, zero, suc, ◌+◌, ◌-◌, ◌*◌, ◌/◌, ◌%◌, ◌^◌, ◌<◌, ◌≤◌, Bool, true, false, nat_lt, List, [], ◌∷◌, ◌++◌, length, refl, ap, sym, ◌∙◌, arith, lt-ltb, le-ltb, ◌⊎◌, inl, inr, Ok, Err, Result, cond, subst}
use borrow.Author.Tests.{ltb-true, ltb-false}
use Rattle.std.proofs.lemmas.Nat.{pow_pos, mod_below}
use Rattle.hpack_prim.specs.declared.fault.PrimFault.{PrimFault}
use Rattle.hpack_prim.specs.declared.fault.PrimFault.TheVariants.{TooLarge}
use Rattle.hpack_prim.proofs.IntegerLemmas.{groups_more, shortest_last, shortest_more, int_last, int_more, five, below_or_not}
use Rattle.hpack_prim.specs.Integers.{IsGroups, IsInt, AreBytes, Spelled, groups_at, int_at, shortest, int}

-- what a reading of groups found: their spelling, and what is behind it
pub record Grouped (left value weight at : ℕ) (bytes : List ℕ) (n next : ℕ) : Type 0 where
  pub spelling : List ℕ
  pub rest : List ℕ
  pub more : ℕ
  pub whole : bytes ≡ spelling ++ rest
  pub groups : IsGroups spelling more
  pub number : n ≡ value + weight * more
  pub bound : n < 2 ^ 32
  pub few : length spelling ≤ left
  pub place : next ≡ at + length spelling

abbrev fst_in : Result (ℕ × ℕ) PrimFault → ℕ
fst_in (Ok p) = p.0
fst_in (Err e) = 0

abbrev snd_in : Result (ℕ × ℕ) PrimFault → ℕ
snd_in (Ok p) = p.1
snd_in (Err e) = 0

cons_groups : (b high : ℕ) (s : List ℕ) → 128 ≤ b → b < 256 → IsGroups s high → IsGroups (b ∷ s) (b - 128 + 128 * high)
cons_groups b high [] large byte g = absurd g
cons_groups b high (c ∷ s) large byte g = (large, byte, high, omega arith, g)

-- one group, by where its tests lead
one : (left value weight at b : ℕ) (bs : List ℕ) (t u : Bool) (n next : ℕ) → nat_lt (value + weight * (b % 128)) (2 ^ 32) ≡ t → nat_lt b 128 ≡ u
    → cond t (cond u (Ok (value + weight * (b % 128), at + 1)) (groups_at left (value + weight * (b % 128)) (weight * 128) (at + 1) bs)) (Err (TooLarge at)) ≡ Ok (n, next)
    → ((n ≡ value + weight * (b % 128)) × (next ≡ at + 1) × (b < 128) × (n < 2 ^ 32)) ⊎ ((128 ≤ b) × (groups_at left (value + weight * (b % 128)) (weight * 128) (at + 1) bs ≡ Ok (n, next)))
one left value weight at b bs true true n next s e f = inl (sym (ap fst_in f), sym (ap snd_in f), ltb-true _ _ e, (let h : value + weight * (b % 128) ≡ n = ap fst_in f in let k = ltb-true _ _ s in omega arith))
one left value weight at b bs true false n next s e f = inr (ltb-false _ _ e, f)
one left value weight at b bs false u n next s e f = cc

spread : (v w x m : ℕ) → (v + w * x) + w * 128 * m ≡ v + w * (x + 128 * m)
spread v w x m = omega arith

pub grouped : (left value weight at : ℕ) (bytes : List ℕ) (n next : ℕ) → AreBytes bytes → groups_at left value weight at bytes ≡ Ok (n, next) → Grouped left value weight at bytes n next
unfolding groups_at
grouped left value weight at [] n next a e = cc
grouped zero value weight at (b ∷ bs) n next a e = cc
grouped (suc left) value weight at (b ∷ bs) n next a e = elim (one left value weight at b bs _ _ n next refl refl e) [
  | inl p ↦ let small = p.2 in let m : b % 128 ≡ b = omega arith in record {
    spelling = b ∷ [];
    rest = bs;
    more = b;
    whole = refl;
    groups = (p.2, refl);
    number = p.0 ∙ ap (λ (x : ℕ). value + weight * x) m;
    bound = p.3;
    few = omega arith;
    place = p.1;
  }
  | inr p ↦ let byte = a.0 in let i = grouped left (value + weight * (b % 128)) (weight * 128) (at + 1) bs n next a.1 p.1 in record {
    spelling = b ∷ i.spelling;
    rest = i.rest;
    more = b - 128 + 128 * i.more;
    whole = ap (λ (v : List ℕ). b ∷ v) i.whole;
    groups = cons_groups b i.more i.spelling p.0 a.0 i.groups;
    number = i.number ∙ spread value weight (b % 128) i.more ∙ ap (λ (x : ℕ). value + weight * (x + 128 * i.more)) (let m : b % 128 ≡ b - 128 = omega arith in m);
    bound = i.bound;
    few = omega (arith, i.few);
    place = omega (arith, i.place);
  }
]

-- ---- what is spelled so is read so

-- the parts of a spelling of groups
abbrev pub GroupsAt : List ℕ → ℕ → Type 0
GroupsAt [] n = ⊥
GroupsAt (b ∷ s) n = ((b < 128) × (s ≡ []) × (n ≡ b)) ⊎ ((128 ≤ b) × (b < 256) × (high : ℕ) × (n + 128 ≡ b + 128 * high) × IsGroups s high)

parts : (s : List ℕ) (n : ℕ) → IsGroups s n → GroupsAt s n
parts [] n g = g
parts (b ∷ []) n g = inl (g.0, refl, g.1)
parts (b ∷ c ∷ s) n g = inr g

groups_stop : (left value weight at b : ℕ) (bs : List ℕ) → value + weight * (b % 128) < 2 ^ 32 → b < 128 → groups_at (suc left) value weight at (b ∷ bs) ≡ Ok (value + weight * (b % 128), at + 1)
unfolding groups_at
groups_stop left value weight at b bs fits small = rw (lt-ltb (value + weight * (b % 128)) (2 ^ 32) fits, lt-ltb b 128 small) refl

pub regrouped : (left value weight at : ℕ) (s rest : List ℕ) (more : ℕ) → IsGroups s more → length s ≤ left → value + weight * more < 2 ^ 32
    → groups_at left value weight at (s ++ rest) ≡ Ok (value + weight * more, at + length s)
regrouped left value weight at [] rest more g few fits = absurd g
regrouped zero value weight at (b ∷ s) rest more g few fits = absurd (omega arith)
regrouped (suc left) value weight at (b ∷ s) rest more g few fits = elim (parts (b ∷ s) more g) [
  | inl p ↦ let m : b % 128 ≡ more = let h = p.0 in let k = p.2 in omega arith in
      let f : value + weight * (b % 128) < 2 ^ 32 = rw m fits in
      groups_stop left value weight at b (s ++ rest) f p.0 ∙ ap (λ (x : ℕ). Ok (value + weight * x, at + 1)) m ∙ ap (λ (x : ℕ). Ok (value + weight * more, at + x)) (let l : 1 ≡ suc (length s) = let z : length s ≡ 0 = ap length p.1 in omega arith in l)
  | inr p ↦ let m : more ≡ b % 128 + 128 * p.2 = let h = p.0 in let j = p.1 in let k = p.3 in omega arith in
      let e : value + weight * more ≡ (value + weight * (b % 128)) + weight * 128 * p.2 = ap (λ (x : ℕ). value + weight * x) m ∙ sym (spread value weight (b % 128) p.2) in
      let f : value + weight * (b % 128) < 2 ^ 32 = omega arith in
      groups_more left value weight at b (s ++ rest) f p.0
      ∙ regrouped left (value + weight * (b % 128)) (weight * 128) (at + 1) s rest p.2 p.4 (omega arith) (let h : value + weight * (b % 128) + weight * 128 * p.2 < 2 ^ 32 = omega arith in h)
      ∙ ap (λ (x : ℕ). Ok (x, at + 1 + length s)) (sym e) ∙ ap (λ (x : ℕ). Ok (value + weight * more, x)) (let l : at + 1 + length s ≡ at + suc (length s) = omega arith in l)
]

-- ---- whole integers

full_then : (prefix b n more : ℕ) (s : List ℕ) → 2 ^ prefix ≤ b % 2 ^ prefix + 1 → 0 < 2 ^ prefix → length s ≤ 5 → n < 2 ^ 32 → n ≡ 2 ^ prefix - 1 + more → IsGroups s more → IsInt prefix (b ∷ s) n
full_then prefix b n more [] full some few fits e g = absurd g
full_then prefix b n more (c ∷ s) full some few fits e g =
    let p : ℕ = 2 ^ prefix in let r : b % p < p = mod_below b p some in
    ((let h : b % p + 1 ≡ p = omega arith in h), few, fits, more, (let h : n + 1 ≡ p + more = omega arith in h), g)

int_from : (prefix at b : ℕ) (bs : List ℕ) (t : Bool) (n next : ℕ) → AreBytes (b ∷ bs) → 0 < 2 ^ prefix → nat_lt (b % 2 ^ prefix + 1) (2 ^ prefix) ≡ t
    → cond t (Ok (b % 2 ^ prefix, at + 1)) (groups_at 5 (2 ^ prefix - 1) 1 (at + 1) bs) ≡ Ok (n, next) → Spelled prefix at (b ∷ bs) n next
int_from prefix at b bs true n next a some t e = record { spelling = b ∷ []; rest = bs; whole = refl; int = (ltb-true _ _ t, sym (ap fst_in e)); place = sym (ap snd_in e) }
int_from prefix at b bs false n next a some t e =
    let g = grouped 5 (2 ^ prefix - 1) 1 (at + 1) bs n next a.1 e in
    record {
      spelling = b ∷ g.spelling;
      rest = g.rest;
      whole = ap (λ (v : List ℕ). b ∷ v) g.whole;
      int = full_then prefix b n g.more g.spelling (ltb-false _ _ t) some g.few g.bound (let h = g.number in omega arith) g.groups;
      place = omega (arith, g.place);
    }

-- what is read is spelled so
pub int_found : (prefix at : ℕ) (bytes : List ℕ) (n next : ℕ) → AreBytes bytes → int_at prefix at bytes ≡ Ok (n, next) → Spelled prefix at bytes n next
unfolding int_at
int_found prefix at [] n next a e = cc
int_found prefix at (b ∷ bs) n next a e = int_from prefix at b bs _ n next a (pow_pos prefix) refl e

int_stop : (prefix at b : ℕ) (bs : List ℕ) → b % 2 ^ prefix + 1 < 2 ^ prefix → int_at prefix at (b ∷ bs) ≡ Ok (b % 2 ^ prefix, at + 1)
unfolding int_at
int_stop prefix at b bs small = rw (lt-ltb (b % 2 ^ prefix + 1) (2 ^ prefix) small) refl

int_on : (prefix at b : ℕ) (bs : List ℕ) → 2 ^ prefix ≤ b % 2 ^ prefix + 1 → int_at prefix at (b ∷ bs) ≡ groups_at 5 (2 ^ prefix - 1) 1 (at + 1) bs
unfolding int_at
int_on prefix at b bs full = rw (le-ltb (b % 2 ^ prefix + 1) (2 ^ prefix) full) refl

-- what is spelled so is read
pub int_only : (prefix at : ℕ) (s rest : List ℕ) (n : ℕ) → IsInt prefix s n → int_at prefix at (s ++ rest) ≡ Ok (n, at + length s)
int_only prefix at [] rest n i = absurd i
int_only prefix at (b ∷ []) rest n i = int_stop prefix at b rest i.0 ∙ ap (λ (x : ℕ). Ok (x, at + 1)) (sym i.1)
int_only prefix at (b ∷ c ∷ s) rest n i =
    let some = pow_pos prefix in
    let e : 2 ^ prefix - 1 + 1 * i.3 ≡ n = let h = i.4 in omega arith in
    int_on prefix at b ((c ∷ s) ++ rest) (let h = i.0 in omega arith)
    ∙ regrouped 5 (2 ^ prefix - 1) 1 (at + 1) (c ∷ s) rest i.3 i.5 i.1 (let h = i.2 in omega arith) ∙ ap (λ (x : ℕ). Ok (x, at + 1 + length (c ∷ s))) e
    ∙ ap (λ (x : ℕ). Ok (n, x)) (let l : at + 1 + length (c ∷ s) ≡ at + length (b ∷ c ∷ s) = omega arith in l)

-- ---- what is written is a spelling

small_or_not : (n : ℕ) → (n < 128) ⊎ (128 ≤ n)
small_or_not n = grind arith

shortest_is : (k n : ℕ) → n ≤ k → IsGroups (shortest n) n
shortest_is zero n le = subst (λ (s : List ℕ). IsGroups s n) (sym (shortest_last n (omega arith))) (omega arith, refl)
shortest_is (suc k) n le = elim (small_or_not n) [
  | inl small ↦ subst (λ (s : List ℕ). IsGroups s n) (sym (shortest_last n small)) (small, refl)
  | inr large ↦ let i = shortest_is k (n / 128) (omega arith) in
      let e : n % 128 + 128 - 128 + 128 * (n / 128) ≡ n = omega arith in
      subst (λ (s : List ℕ). IsGroups s n) (sym (shortest_more n large)) (subst (λ (m : ℕ). IsGroups ((n % 128 + 128) ∷ shortest (n / 128)) m) e (cons_groups (n % 128 + 128) (n / 128) (shortest (n / 128)) (omega arith) (omega arith) i))
]

low_bits : (prefix first n : ℕ) → 1 ≤ prefix → prefix ≤ 8 → first % 2 ^ prefix ≡ 0 → n < 2 ^ prefix → (first + n) % 2 ^ prefix ≡ n
low_bits zero first n low high free small = absurd (omega arith)
low_bits (suc zero) first n low high free small = omega arith
low_bits (suc (suc zero)) first n low high free small = omega arith
low_bits (suc (suc (suc zero))) first n low high free small = omega arith
low_bits (suc (suc (suc (suc zero)))) first n low high free small = omega arith
low_bits (suc (suc (suc (suc (suc zero))))) first n low high free small = omega arith
low_bits (suc (suc (suc (suc (suc (suc zero)))))) first n low high free small = omega arith
low_bits (suc (suc (suc (suc (suc (suc (suc zero))))))) first n low high free small = omega arith
low_bits (suc (suc (suc (suc (suc (suc (suc (suc zero)))))))) first n low high free small = omega arith
low_bits (suc (suc (suc (suc (suc (suc (suc (suc (suc prefix))))))))) first n low high free small = absurd (omega arith)

pub int_is : (prefix first n : ℕ) → 1 ≤ prefix → prefix ≤ 8 → first % 2 ^ prefix ≡ 0 → n < 2 ^ 32 → IsInt prefix (int prefix first n) n
int_is prefix first n low high free fits =
    let p : ℕ = 2 ^ prefix in let some = pow_pos prefix in
    elim (below_or_not (n + 1) p) [
      | inl small ↦ let m = low_bits prefix first n low high free (omega arith) in
          subst (λ (s : List ℕ). IsInt prefix s n) (sym (int_last prefix first n (p - 1) (omega arith) (omega arith))) ((let h : (first + n) % p + 1 < p = omega arith in h), sym m)
      | inr large ↦ let m = low_bits prefix first (p - 1) low high free (omega arith) in
          let few = five (n - (p - 1)) (omega arith) in
          subst (λ (s : List ℕ). IsInt prefix s n) (sym (int_more prefix first n (p - 1) (omega arith) (omega arith)))
          (full_then prefix (first + (p - 1)) n (n - (p - 1)) (shortest (n - (p - 1))) (omega arith) some few fits (omega arith) (shortest_is (n - (p - 1)) (n - (p - 1)) (let z : n - (p - 1) ≤ n - (p - 1) = omega arith in z)))
    ]
