-- A number of digits that is cut off at 2^63, which no length reaches.
use Rattle.std.proofs.Common.{◌≡◌, ℕ, suc, ◌+◌, ◌-◌, ◌*◌, ◌^◌, ◌<◌, ◌≤◌, ◌&&◌, ◌==◌, nat_lt, min, Bool, true, false, not, List, [], ◌∷◌, ◌++◌, length, get_or, take, fold, refl, ap, sym, ◌∙◌, arith, add-one, Option, Some, None, if◌then◌else◌}
use Rattle.std.specs.List.{list_all}
use Rattle.std.specs.Char.{is_ascii_digit}
use Rattle.std.proofs.Math.Seq.{take-suc}
use Rattle.std.proofs.lemmas.List.{take_all}
use Rattle.std.proofs.lemmas.List.Folds.{list_all_more, list_all_at}
use Rattle.std.proofs.lemmas.Bool.Decides.{nat_tests}
use Rattle.http_model.specs.Bytes.{is_empty, decimal_value}
use Rattle.http_model.specs.Heads.{is_length, length_by}
use Rattle.http_model.specs.declared.types.Length.{Length}
use Rattle.http_model.specs.declared.types.Length.TheVariants.{Known}
use Rattle.h1_read.specs.Lengths.{length_value, is_that_length}
use Rattle.h1_read.proofs.HeadLaw.{some_byte}

abbrev add_digit : ℕ → ℕ → ℕ
add_digit n d = 10 * n + (d - 48)

fold_more : (n : ℕ) (digits : List ℕ) (d : ℕ) → fold add_digit n (digits ++ d ∷ []) ≡ add_digit (fold add_digit n digits) d
fold_more n [] d = refl
fold_more n (x ∷ digits) d = fold_more (add_digit n x) digits d

value_more : (digits : List ℕ) (i : ℕ) → i < length digits → decimal_value (take (suc i) digits) ≡ add_digit (decimal_value (take i digits)) (get_or digits i 0)
value_more digits i h = ap decimal_value (take-suc digits i 0 h) ∙ fold_more 0 (take i digits) (get_or digits i 0)

-- the number of the digits so far, or 2^63
pub capped_more : (digits : List ℕ) (i n : ℕ) → i < length digits → n ≡ min (decimal_value (take i digits)) (2 ^ 63)
    → min (n * 10 + (get_or digits i 0 - 48)) (2 ^ 63) ≡ min (decimal_value (take (i + 1) digits)) (2 ^ 63)
capped_more digits i n h e =
    let more : decimal_value (take (i + 1) digits) ≡ 10 * decimal_value (take i digits) + (get_or digits i 0 - 48) = rw add-one (value_more digits i h) in
    omega arith

pub digits_more : (digits : List ℕ) (i : ℕ) → i < length digits → list_all is_ascii_digit (take i digits) ≡ true → is_ascii_digit (get_or digits i 0) ≡ true
    → list_all is_ascii_digit (take (i + 1) digits) ≡ true
digits_more digits i h e f = list_all_more is_ascii_digit digits i 0 h ∙ ap (λ t. t && is_ascii_digit (get_or digits i 0)) e ∙ f

-- by its three tests
by_tests : (value : List ℕ) (x y z : Bool) → not (is_empty value) ≡ x → list_all is_ascii_digit value ≡ y → nat_lt (decimal_value value) (2 ^ 63) ≡ z
    → length_value value ≡ (if x && y && z then Some (decimal_value value) else None)
unfolding length_value
by_tests value x y z e f g = λ i. if e i && f i && g i then Some (decimal_value value) else None

pub value_read : (value : List ℕ) (n i : ℕ) → 0 < length value → length value ≤ i → list_all is_ascii_digit (take i value) ≡ true
    → n ≡ min (decimal_value (take i value)) (2 ^ 63) → n < 2 ^ 63 → length_value value ≡ Some n
value_read value n i some past e f small =
    let whole : take i value ≡ value = take_all i value past in
    let same : n ≡ min (decimal_value value) (2 ^ 63) = f ∙ ap (λ s. min (decimal_value s) (2 ^ 63)) whole in
    let number : decimal_value value ≡ n = omega arith in
    let below : nat_lt (decimal_value value) (2 ^ 63) ≡ true = grind (arith, nat_tests, number, small) in
    by_tests value true true true (some_byte value some) (ap (list_all is_ascii_digit) (sym whole) ∙ e) below ∙ ap Some number

pub value_long : (value : List ℕ) (n i : ℕ) → length value ≤ i → n ≡ min (decimal_value (take i value)) (2 ^ 63) → 2 ^ 63 ≤ n → length_value value ≡ None
value_long value n i past f large =
    let whole : take i value ≡ value = take_all i value past in
    let same : n ≡ min (decimal_value value) (2 ^ 63) = f ∙ ap (λ s. min (decimal_value s) (2 ^ 63)) whole in
    let number : 2 ^ 63 ≤ decimal_value value = omega arith in
    let past_it : nat_lt (decimal_value value) (2 ^ 63) ≡ false = grind (arith, nat_tests, number) in
    by_tests value (not (is_empty value)) (list_all is_ascii_digit value) false refl refl past_it ∙ never (not (is_empty value) && list_all is_ascii_digit value)
  where
    never : (x : Bool) → (if x && false then Some (decimal_value value) else None) ≡ None
    never true = refl
    never false = refl

pub value_other : (value : List ℕ) (i : ℕ) → i < length value → is_ascii_digit (get_or value i 0) ≡ false → length_value value ≡ None
value_other value i h e =
    by_tests value (not (is_empty value)) false (nat_lt (decimal_value value) (2 ^ 63)) refl (list_all_at is_ascii_digit value i 0 h e) refl
    ∙ never (not (is_empty value)) (nat_lt (decimal_value value) (2 ^ 63))
  where
    never : (x z : Bool) → (if x && false && z then Some (decimal_value value) else None) ≡ None
    never true z = refl
    never false z = refl

pub value_empty : (value : List ℕ) → length value ≡ 0 → length_value value ≡ None
unfolding length_value
value_empty [] e = refl
value_empty (b ∷ value) e = absurd (omega arith)

-- a length of some number

test_by : (value : List ℕ) (o : Option ℕ) → length_value value ≡ o → (n : ℕ) → is_that_length n value ≡ elim o [ Some m ↦ m == n | None ↦ false ]
unfolding length_value is_that_length
test_by value o e n = by (is_length value) refl ∙ ap (λ p. elim p [ Some m ↦ m == n | None ↦ false ]) e
  where
    by : (t : Bool) → is_length value ≡ t → (t && decimal_value value == n) ≡ elim (if t then Some (decimal_value value) else None) [ Some m ↦ m == n | None ↦ false ]
    by true f = refl
    by false f = refl

pub test_some : (value : List ℕ) (m n : ℕ) → length_value value ≡ Some m → is_that_length n value ≡ (m == n)
test_some value m n e = test_by value (Some m) e n

pub test_none : (value : List ℕ) (n : ℕ) → length_value value ≡ None → is_that_length n value ≡ false
test_none value n e = test_by value None e n

-- by a length and others

same_some : (m n : ℕ) → ◌≡◌ {A = Option ℕ} (Some m) (Some n) → m ≡ n
same_some m n e = cc

is_some_length : (value : List ℕ) (n : ℕ) → length_value value ≡ Some n → (is_length value ≡ true) × (decimal_value value ≡ n)
unfolding length_value
is_some_length value n e = by (is_length value) refl e
  where
    by : (t : Bool) → is_length value ≡ t → ◌≡◌ {A = Option ℕ} (if t then Some (decimal_value value) else None) (Some n) → (is_length value ≡ true) × (decimal_value value ≡ n)
    by true f g = (f, same_some (decimal_value value) n g)
    by false f g = absurd cc

is_no_length : (value : List ℕ) → length_value value ≡ None → is_length value ≡ false
unfolding length_value
is_no_length value e = by (is_length value) refl e
  where
    by : (t : Bool) → is_length value ≡ t → ◌≡◌ {A = Option ℕ} (if t then Some (decimal_value value) else None) None → is_length value ≡ false
    by true f g = absurd cc
    by false f g = f

abbrev same_length : ℕ → List ℕ → Bool
same_length m v = is_length v && decimal_value v == m

each_same : (m n : ℕ) (others : List (List ℕ)) → m ≡ n → list_all (same_length m) others ≡ list_all (is_that_length n) others
unfolding is_that_length
each_same m n others e = ap (λ k. list_all (λ v. is_length v && decimal_value v == k) others) e

abbrev chosen : Bool → ℕ → Option Length
chosen t m = if t then Some (Known m) else None

pub by_none : (value : List ℕ) (others : List (List ℕ)) → length_value value ≡ None → length_by value others ≡ None
by_none value others e = ap (λ t. chosen (t && list_all (same_length (decimal_value value)) others) (decimal_value value)) (is_no_length value e)

by_test : (value : List ℕ) (others : List (List ℕ)) (n : ℕ) (t : Bool) → length_value value ≡ Some n → list_all (is_that_length n) others ≡ t → length_by value others ≡ chosen t n
by_test value others n t e f =
    let w = is_some_length value n e in
    ap (λ x. chosen (x && list_all (same_length (decimal_value value)) others) (decimal_value value)) w.0
    ∙ ap (λ x. chosen x (decimal_value value)) (each_same (decimal_value value) n others w.1 ∙ f)
    ∙ ap (chosen t) w.1

pub by_other : (value : List ℕ) (others : List (List ℕ)) (n : ℕ) → length_value value ≡ Some n → list_all (is_that_length n) others ≡ false → length_by value others ≡ None
by_other value others n e f = by_test value others n false e f

pub by_each : (value : List ℕ) (others : List (List ℕ)) (n : ℕ) → length_value value ≡ Some n → list_all (is_that_length n) others ≡ true → length_by value others ≡ Some (Known n)
by_each value others n e f = by_test value others n true e f
