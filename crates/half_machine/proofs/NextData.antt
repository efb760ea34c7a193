-- The bytes that a body goes on with: the next piece that isn't empty, and behind all pieces the bytes that pass.
use Rattle.std.proofs.Common.{inl, inr, refl, sym, ◌∙◌, ap, subst, arith, rules, append-nil, length-append}
use Rattle.std.proofs.lemmas.List.{append_assoc, take_at}
use Rattle.std.proofs.lemmas.Grind.{flat_map-append}
use Rattle.std.specs.Prelude.{ℕ, ◌≡◌, ◌⊎◌, ◌+◌, ◌-◌, ◌<◌, ◌≤◌, Bool, true, false, List, [], ◌∷◌, ◌++◌, length, take, drop, flat_map, nat_lt}
use Rattle.filter_model.specs.Half.{IsNextData}
use Rattle.half_machine.specs.Pieces.{OfPieces, lengths_of}

abbrev pub joined : List (List ℕ) → List ℕ
joined ps = flat_map (λ p. p) ps

clash : true ≡ false → ⊥
clash e = cc

not_below : (n m : ℕ) → m ≤ n → nat_lt n m ≡ false
not_below n m e = search rules

below : (n m : ℕ) → n < m → nat_lt n m ≡ true
below n m e = search rules

abbrev Next : ℕ → List ℕ → List (List ℕ) → List ℕ → ℕ → List ℕ → Bool → Type 0
Next max p ps passing n b q = elim q [ true ↦ b ≡ drop n p | false ↦ IsNextData max ps passing (n - length p) b ]

behind : (max : ℕ) (p : List ℕ) (ps : List (List ℕ)) (passing : List ℕ) (n : ℕ) (b : List ℕ) → length p ≤ n → IsNextData max ps passing (n - length p) b → IsNextData max (p ∷ ps) passing n b
behind max p ps passing n b l k = by (nat_lt n (length p)) refl
  where
    by : (q : Bool) → nat_lt n (length p) ≡ q → Next max p ps passing n b q
    by true e = absurd (clash (sym e ∙ not_below n (length p) l))
    by false e = k

within : (max : ℕ) (p : List ℕ) (ps : List (List ℕ)) (passing : List ℕ) (n : ℕ) (b : List ℕ) → n < length p → b ≡ drop n p → IsNextData max (p ∷ ps) passing n b
within max p ps passing n b l k = by (nat_lt n (length p)) refl
  where
    by : (q : Bool) → nat_lt n (length p) ≡ q → Next max p ps passing n b q
    by true e = k
    by false e = absurd (clash (sym (below n (length p) l) ∙ e))

-- Behind pieces that were handed out

pub behind_gone : (max : ℕ) (gone left : List (List ℕ)) (passing b : List ℕ) → IsNextData max left passing 0 b → IsNextData max (gone ++ left) passing (length (joined gone)) b
behind_gone max [] left passing b k = k
behind_gone max (p ∷ gone) left passing b k =
    let n : length (joined (p ∷ gone)) ≡ length p + length (joined gone) = length-append p (joined gone) in
    let m : length (joined (p ∷ gone)) - length p ≡ length (joined gone) = omega arith in
    behind max p (gone ++ left) passing (length (joined (p ∷ gone))) b (omega arith)
    (subst (λ i. IsNextData max (gone ++ left) passing i b) (sym m) (behind_gone max gone left passing b k))

-- A whole piece

pub whole_piece : (max : ℕ) (left : List (List ℕ)) (passing : List ℕ) (k : ℕ) (ns : List ℕ) → lengths_of left ≡ k ∷ ns → (b rest : List ℕ) → b ≡ take k (joined left ++ rest)
    → IsNextData max left passing 0 b
whole_piece max [] passing k ns e b rest f = absurd cc
whole_piece max ([] ∷ ps) passing k ns e b rest f = whole_piece max ps passing k ns e b rest f
whole_piece max ((a ∷ q) ∷ ps) passing k ns e b rest f =
    let n : length (a ∷ q) ≡ k = ap (λ l. elim l [ [] ↦ 0 | h ∷ t ↦ h ]) e in
    within max (a ∷ q) ps passing 0 b (omega arith) (f ∙ ap (take k) (append_assoc (a ∷ q) (joined ps) rest) ∙ take_at (a ∷ q) (joined ps ++ rest) k n)

-- Bytes that pass

pub behind_all : (max : ℕ) (pieces : List (List ℕ)) (passing : List ℕ) (n : ℕ) (b : List ℕ) → length (joined pieces) ≤ n → IsNextData max [] passing (n - length (joined pieces)) b
    → IsNextData max pieces passing n b
behind_all max [] passing n b l k = subst (λ i. IsNextData max [] passing i b) (minus_none n) k
  where
    minus_none : (n : ℕ) → n - 0 ≡ n
    minus_none n = omega arith
behind_all max (p ∷ ps) passing n b l k =
    let i : length (joined (p ∷ ps)) ≡ length p + length (joined ps) = length-append p (joined ps) in
    let m : n - length (joined (p ∷ ps)) ≡ (n - length p) - length (joined ps) = omega arith in
    behind max p ps passing n b (omega arith)
    (behind_all max ps passing (n - length p) b (omega arith) (subst (λ i. IsNextData max [] passing i b) m k))

-- The lengths of the pieces that are left

pub none_left : (left : List (List ℕ)) → lengths_of left ≡ [] → joined left ≡ []
none_left [] e = refl
none_left ([] ∷ ps) e = none_left ps e
none_left ((a ∷ q) ∷ ps) e = absurd cc

pub first_within : (left : List (List ℕ)) (k : ℕ) (ns : List ℕ) → lengths_of left ≡ k ∷ ns → (1 ≤ k) × (k ≤ length (joined left))
first_within [] k ns e = absurd cc
first_within ([] ∷ ps) k ns e = first_within ps k ns e
first_within ((a ∷ q) ∷ ps) k ns e =
    let n : length (a ∷ q) ≡ k = ap (λ l. elim l [ [] ↦ 0 | h ∷ t ↦ h ]) e in
    let m : length (joined ((a ∷ q) ∷ ps)) ≡ length (a ∷ q) + length (joined ps) = length-append (a ∷ q) (joined ps) in
    (omega arith, omega arith)

pub record FirstOf (left : List (List ℕ)) (k : ℕ) (ns : List ℕ) : Type 0 where
  pub first : List (List ℕ)
  pub more : List (List ℕ)
  pub whole : left ≡ first ++ more
  pub size : length (joined first) ≡ k
  pub lengths : lengths_of more ≡ ns

pub first_of : (left : List (List ℕ)) (k : ℕ) (ns : List ℕ) → lengths_of left ≡ k ∷ ns → FirstOf left k ns
first_of [] k ns e = absurd cc
first_of ([] ∷ ps) k ns e =
    let f : FirstOf ps k ns = first_of ps k ns e in
    record { first = [] ∷ f.first; more = f.more; whole = ap (λ l. [] ∷ l) f.whole; size = f.size; lengths = f.lengths }
first_of ((a ∷ q) ∷ ps) k ns e = record {
  first = (a ∷ q) ∷ [];
  more = ps;
  whole = refl;
  size = ap length (append-nil (a ∷ q)) ∙ ap (λ l. elim l [ [] ↦ 0 | h ∷ t ↦ h ]) e;
  lengths = ap (drop 1) e;
}

-- Pieces that are left, with one less or bytes behind them handed out

pub pieces_out : (x : List ℕ) (pieces : List (List ℕ)) (handed : ℕ) → x ≡ [] → OfPieces x pieces handed → length (joined pieces) ≤ handed
pieces_out x pieces handed e s =
    let n : length (joined pieces) ≡ length (joined s.gone) + length (joined s.left) =
    ap (λ l. length (joined l)) s.whole ∙ ap length (flat_map-append (λ p. p) s.gone s.left) ∙ length-append (joined s.gone) (joined s.left) in
    let z : length (joined s.left) ≡ 0 = ap length (none_left s.left (sym s.lengths ∙ e)) in
    let l = s.least in
    omega arith

pub at_end : (x : List ℕ) (pieces : List (List ℕ)) (handed k : ℕ) (ns : List ℕ) → x ≡ k ∷ ns → (s : OfPieces x pieces handed) → handed ≡ length (joined s.gone)
at_end x pieces handed k ns e s = by s.ends
  where
    by : (x ≡ []) ⊎ (handed ≡ length (joined s.gone)) → handed ≡ length (joined s.gone)
    by (inl f) = absurd (differs (sym e ∙ f))
      where
        differs : k ∷ ns ≡ [] → ⊥
        differs e = cc
    by (inr f) = f

pub passed_pieces : (pieces : List (List ℕ)) (handed n : ℕ) → OfPieces [] pieces handed → OfPieces [] pieces (handed + n)
passed_pieces pieces handed n s =
    let l = s.least in
    record { gone = s.gone; left = s.left; whole = s.whole; lengths = s.lengths; least = omega arith; ends = inl refl }

pub piece_gone : (k : ℕ) (ns : List ℕ) (pieces : List (List ℕ)) (handed : ℕ) → OfPieces (k ∷ ns) pieces handed → OfPieces ns pieces (handed + k)
piece_gone k ns pieces handed s =
    let f : FirstOf s.left k ns = first_of s.left k ns (sym s.lengths) in
    let n : length (joined (s.gone ++ f.first)) ≡ length (joined s.gone) + length (joined f.first) =
    ap length (flat_map-append (λ p. p) s.gone f.first) ∙ length-append (joined s.gone) (joined f.first) in
    let h : handed ≡ length (joined s.gone) = at_end (k ∷ ns) pieces handed k ns refl s in
    let z : length (joined f.first) ≡ k = f.size in
    record {
      gone = s.gone ++ f.first;
      left = f.more;
      whole = s.whole ∙ ap (λ l. s.gone ++ l) f.whole ∙ sym (append_assoc s.gone f.first f.more);
      lengths = sym f.lengths;
      least = omega arith;
      ends = inr (omega arith);
    }
