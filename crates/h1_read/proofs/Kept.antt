-- Reading what was kept and what came, for a reader that looks no further than what it reads.
use Rattle.std.proofs.Common.{sym, ◌∙◌, ap, subst, refl, arith, append_assoc, length-append, length-take, take_all, inl, inr}
use Rattle.std.proofs.Math.Seq.{take-append-add}
use Rattle.std.proofs.lemmas.List.{append_cancel_right, drop-append-le, take-append-le, take-append-drop}
use Rattle.std.specs.Prelude.{ℕ, ◌≡◌, ◌⊎◌, ◌+◌, ◌-◌, ◌<◌, ◌≤◌, min, List, [], ◌∷◌, ◌++◌, length, take, drop}
use Rattle.http_model.specs.Reading.{Reading, Whole, Partial, Bad, Fault, limited, Stays}
use Rattle.http_model.proofs.Stable.{IsStable}
use Rattle.h1_read.proofs.ByLimit.{limited_short, limited_long, at_limit, below_or_not}
use Rattle.h1_read.proofs.BodyMoves.{split_past}

-- what it finds depends on the bytes of it alone
abbrev pub IsLocal : {A : Type 0} → (List ℕ → Reading A) → Type 0
IsLocal {A} read = (xs ys zs : List ℕ) (a : A) → read (xs ++ ys) ≡ Whole a ys → read (xs ++ zs) ≡ Whole a zs

-- Lists

take_past : (n : ℕ) (xs zs : List ℕ) → length xs ≤ n → take n (xs ++ zs) ≡ xs ++ take (n - length xs) zs
take_past n xs zs h =
    ap (λ m. take m (xs ++ zs)) (split_past n (length xs) h) ∙ take-append-add xs zs (n - length xs)

drop_front : (xs zs : List ℕ) (k : ℕ) → drop (length xs + k) (xs ++ zs) ≡ drop k zs
drop_front [] zs k = ap (λ n. drop n zs) (plus k)
  where
    plus : (k : ℕ) → 0 + k ≡ k
    plus k = omega arith
drop_front (x ∷ xs) zs k = ap (λ n. drop n (x ∷ (xs ++ zs))) (plus (length xs) k) ∙ drop_front xs zs k
  where
    plus : (n k : ℕ) → ℕ.suc n + k ≡ ℕ.suc (n + k)
    plus n k = omega arith

drop_past : (n : ℕ) (xs zs : List ℕ) → length xs ≤ n → drop n (xs ++ zs) ≡ drop (n - length xs) zs
drop_past n xs zs h = ap (λ m. drop m (xs ++ zs)) (split_past n (length xs) h) ∙ drop_front xs zs (n - length xs)

-- Limits

-- whatever follows, it is found in the first n bytes
pub record Found {A : Type 0} (n : ℕ) (read : List ℕ → Reading A) (xs : List ℕ) (a : A) : Type 0 where
  pub short : length xs ≤ n
  pub always : (zs : List ℕ) → read (xs ++ zs) ≡ Whole a zs

pub found_within : {A : Type 0} (n : ℕ) (long : Fault) (read : List ℕ → Reading A) (xs zs : List ℕ) (a : A) → Found n read xs a
    → limited n long read (xs ++ zs) ≡ Whole a zs
found_within {A} n long read xs zs a f = by (below_or_not n (length (xs ++ zs)))
  where
    by : (length (xs ++ zs) < n) ⊎ (n ≤ length (xs ++ zs)) → limited n long read (xs ++ zs) ≡ Whole a zs
    by (inl h) = limited_short n long read (xs ++ zs) h ∙ f.always zs
    by (inr h) =
        limited_long n long read (xs ++ zs) h
        ∙ ap (at_limit long (drop n (xs ++ zs))) (ap read (take_past n xs zs f.short) ∙ f.always (take (n - length xs) zs))
        ∙ ap (λ l. Whole a (take (n - length xs) zs ++ l)) (drop_past n xs zs f.short)
        ∙ ap (Whole a) (take-append-drop (n - length xs) zs)

pub limited_local : {A : Type 0} (n : ℕ) (long : Fault) (read : List ℕ → Reading A) → IsLocal read → IsLocal (limited n long read)
limited_local {A} n long read front xs ys zs a e = found_within n long read xs zs a (by (below_or_not n (length (xs ++ ys))))
  where
    in_front : (b : A) (r : List ℕ) → read (take n (xs ++ ys)) ≡ Whole b r → ◌≡◌ {A = Reading A} (Whole b (r ++ drop n (xs ++ ys))) (Whole a ys)
        → Found n read xs a
    in_front b r g h =
        let same : b ≡ a = cc in
        let rest : r ++ drop n (xs ++ ys) ≡ ys = cc in
        let whole : take n (xs ++ ys) ++ drop n (xs ++ ys) ≡ (xs ++ r) ++ drop n (xs ++ ys) =
        take-append-drop n (xs ++ ys) ∙ ap (λ l. xs ++ l) (sym rest) ∙ sym (append_assoc xs r (drop n (xs ++ ys))) in
        let taken : take n (xs ++ ys) ≡ xs ++ r = append_cancel_right (take n (xs ++ ys)) (xs ++ r) (drop n (xs ++ ys)) whole in
        record {
          short = omega (arith, ap length taken, length-take n (xs ++ ys), length-append xs r);
          always = λ others. front xs r others a (ap read (sym taken) ∙ g ∙ ap (λ c. Whole c r) same);
        }

    long_by : (r : Reading A) → read (take n (xs ++ ys)) ≡ r → at_limit long (drop n (xs ++ ys)) r ≡ Whole a ys → Found n read xs a
    long_by (Whole b r) g h = in_front b r g h
    long_by Partial g h = absurd cc
    long_by (Bad f) g h = absurd cc

    by : (length (xs ++ ys) < n) ⊎ (n ≤ length (xs ++ ys)) → Found n read xs a
    by (inl h) = record {
      short = omega (arith, h, length-append xs ys);
      always = λ others. front xs ys others a (sym (limited_short n long read (xs ++ ys) h) ∙ e);
    }
    by (inr h) = long_by (read (take n (xs ++ ys))) refl (sym (limited_long n long read (xs ++ ys) h) ∙ e)

pub partial_short : {A : Type 0} (n : ℕ) (long : Fault) (read : List ℕ → Reading A) (bytes : List ℕ) → limited n long read bytes ≡ Partial → length bytes < n
partial_short {A} n long read bytes e = by (below_or_not n (length bytes))
  where
    never : (r : Reading A) → at_limit long (drop n bytes) r ≡ Partial → ⊥
    never (Whole a rest) e = cc
    never Partial e = cc
    never (Bad f) e = cc

    by : (length bytes < n) ⊎ (n ≤ length bytes) → length bytes < n
    by (inl h) = h
    by (inr h) = absurd (never (read (take n bytes)) (sym (limited_long n long read bytes h) ∙ e))

-- What was kept, and a part of what came

joined : (kept bytes : List ℕ) (k : ℕ) → (kept ++ take k bytes) ++ drop k bytes ≡ kept ++ bytes
joined kept bytes k = append_assoc kept (take k bytes) (drop k bytes) ∙ ap (λ l. kept ++ l) (take-append-drop k bytes)

-- it isn't found in what was kept
pub found_behind : {A : Type 0} (read : List ℕ → Reading A) → IsLocal read → (kept part : List ℕ) (used : ℕ) (a : A) → read kept ≡ Partial
    → used ≤ length (kept ++ part) → read (kept ++ part) ≡ Whole a (drop used (kept ++ part)) → length kept ≤ used
found_behind {A} read front kept part used a none inside e = by (below_or_not (length kept) used)
  where
    apart : ◌≡◌ {A = Reading A} Partial (Whole a (drop used kept)) → ⊥
    apart e = cc

    sooner : used < length kept → read (take used kept ++ (drop used kept ++ part)) ≡ Whole a (drop used kept ++ part)
    sooner h =
        ap read (sym (append_assoc (take used kept) (drop used kept) part) ∙ ap (λ l. l ++ part) (take-append-drop used kept))
        ∙ e ∙ ap (Whole a) (drop-append-le used kept part (omega (arith, h)))

    by : (used < length kept) ⊎ (length kept ≤ used) → length kept ≤ used
    by (inl h) =
        let again : read (take used kept ++ drop used kept) ≡ Whole a (drop used kept) =
        front (take used kept) (drop used kept ++ part) (drop used kept) a (sooner h) in
        absurd (apart (sym none ∙ ap read (sym (take-append-drop used kept)) ∙ again))
    by (inr h) = h

-- found in a part, it is found in all
pub found_in_all : {A : Type 0} (read : List ℕ → Reading A) → IsStable read → (kept bytes : List ℕ) (k used : ℕ) (a : A)
    → length kept ≤ used → used ≤ length (kept ++ take k bytes)
    → read (kept ++ take k bytes) ≡ Whole a (drop used (kept ++ take k bytes)) → read (kept ++ bytes) ≡ Whole a (drop (used - length kept) bytes)
found_in_all read stays kept bytes k used a h inside e =
    ap read (sym (joined kept bytes k))
    ∙ subst (λ r. Stays r (drop k bytes) (read ((kept ++ take k bytes) ++ drop k bytes))) e (stays (kept ++ take k bytes) (drop k bytes))
    ∙ ap (Whole a) (sym (drop-append-le used (kept ++ take k bytes) (drop k bytes) inside) ∙ ap (drop used) (joined kept bytes k) ∙ drop_past used kept bytes h)

pub bad_in_all : {A : Type 0} (read : List ℕ → Reading A) → IsStable read → (kept bytes : List ℕ) (k : ℕ) (f : Fault)
    → read (kept ++ take k bytes) ≡ Bad f → read (kept ++ bytes) ≡ Bad f
bad_in_all read stays kept bytes k f e =
    ap read (sym (joined kept bytes k))
    ∙ subst (λ r. Stays r (drop k bytes) (read ((kept ++ take k bytes) ++ drop k bytes))) e (stays (kept ++ take k bytes) (drop k bytes))

-- what is short of the limit has all that came
pub all_came : (n k : ℕ) (kept bytes : List ℕ) → length (kept ++ take k bytes) < n → k ≡ min (length bytes) (n - length kept) → take k bytes ≡ bytes
all_came n k kept bytes h e = take_all k bytes (omega (arith, h, e, length-append kept (take k bytes), length-take k bytes))

-- and back to what was kept
pub front_back : (kept part now : List ℕ) (n : ℕ) → now ≡ kept ++ part → n ≡ length kept → take n now ≡ kept
front_back kept part now n e h =
    ap (take n) e ∙ ap (λ k. take k (kept ++ part)) h ∙ take-append-le (length kept) kept part (omega arith) ∙ take_all (length kept) kept (omega arith)
