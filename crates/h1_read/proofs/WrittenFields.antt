-- What the fields of a written head say when they are read.
use Rattle.std.proofs.Common.{sym, ◌∙◌, ap, refl, arith, eqb-true, leb-true, lt-ltb}
use Rattle.std.proofs.lemmas.Fmt.{decimal_nonempty, digits_decimal, digits_value-decimal}
use Rattle.std.proofs.lemmas.Str.Parse.{IsNumeralModel, numerals_by_fold, tells_all_ascii_digits}
use Rattle.std.specs.Prelude.{ℕ, ◌≡◌, ◌+◌, ◌-◌, ◌*◌, ◌^◌, ◌<◌, Bool, true, false, not, ◌&&◌, ◌||◌, if◌then◌else◌, List, [], ◌∷◌, ◌++◌, map, filter, flat_map, fold, ◌==◌, nat_lt, nat_le, Option, Some, None, codes, bytes_eq, decimal}
use Rattle.std.specs.List.{list_all, AllByRecursion, cons_option}
use Rattle.std.specs.Str.{all_ascii_digits}
use Rattle.std.specs.Char.{is_ascii_digit}
use Rattle.ext_msgs.specs.declared.lists.Field.{Field}
use Rattle.http_model.specs.Bytes.{is_empty, is_blank, is_one_of, lower, list_items, trim_start, trim_end, trim, decimal_value, field, is_named, values_of, without, owned_names}
use Rattle.http_model.specs.Heads.{stated_length, length_of, length_by, one_length, is_shown, connection_options, shown_fields, unstated_length}
use Rattle.http_model.specs.declared.types.Direction.{Direction}
use Rattle.http_model.specs.declared.types.Framing.{Framing}
use Rattle.http_model.specs.declared.types.Framing.TheVariants as framing
use Rattle.http_model.specs.declared.types.Length.{Length}
use Rattle.http_model.specs.declared.types.Length.TheVariants as length
use Rattle.h1_read.specs.Written.{given, is_writable, is_other, is_high, Fits, framing_fields, given_length}
use Rattle.h1_read.proofs.HeadLaw.{and_first, and_second, and_both, some_byte}

-- Blanks

abbrev has_no_blank : List ℕ → Bool
has_no_blank bytes = list_all (λ b. not (is_blank b)) bytes

end_kept : (v : List ℕ) → has_no_blank v ≡ true → trim_end v ≡ v
end_kept [] e = refl
end_kept (b ∷ v) e = by (is_blank b) (and_first (not (is_blank b)) (has_no_blank v) e) ∙ ap (λ l. b ∷ l) (end_kept v (and_second (not (is_blank b)) (has_no_blank v) e))
  where
    by : (c : Bool) → not c ≡ true → (if c && is_empty (trim_end v) then [] else b ∷ trim_end v) ≡ b ∷ trim_end v
    by true e = absurd cc
    by false e = refl

start_kept : (v : List ℕ) → has_no_blank v ≡ true → trim_start v ≡ v
start_kept [] e = refl
start_kept (b ∷ v) e = by (is_blank b) (and_first (not (is_blank b)) (has_no_blank v) e)
  where
    by : (c : Bool) → not c ≡ true → (if c then trim_start v else b ∷ v) ≡ b ∷ v
    by true e = absurd cc
    by false e = refl

pub trim_kept : (v : List ℕ) → has_no_blank v ≡ true → trim v ≡ v
trim_kept v e = ap trim_end (start_kept v e) ∙ end_kept v e

pub weaker : (p q : ℕ → Bool) → ((b : ℕ) → p b ≡ true → q b ≡ true) → (v : List ℕ) → list_all p v ≡ true → list_all q v ≡ true
weaker p q k [] e = refl
weaker p q k (b ∷ v) e = and_both (q b) (list_all q v) (k b (and_first (p b) (list_all p v) e)) (weaker p q k v (and_second (p b) (list_all p v) e))

high_no_blank : (b : ℕ) → nat_lt 32 b ≡ true → not (is_blank b) ≡ true
high_no_blank b e = by (b == 32) refl (b == 9) refl
  where
    by : (x : Bool) → (b == 32) ≡ x → (y : Bool) → (b == 9) ≡ y → not (x || y) ≡ true
    by true f y g = absurd (apart (sym e ∙ ap (nat_lt 32) (eqb-true b 32 f)))
      where
        apart : ◌≡◌ {A = Bool} true false → ⊥
        apart e = cc
    by false f true g = absurd (apart (sym e ∙ ap (nat_lt 32) (eqb-true b 9 g)))
      where
        apart : ◌≡◌ {A = Bool} true false → ⊥
        apart e = cc
    by false f false g = refl

pub high_kept : (v : List ℕ) → is_high v ≡ true → trim v ≡ v
high_kept v e = trim_kept v (weaker (nat_lt 32) (λ b. not (is_blank b)) high_no_blank v e)

-- Numbers

numerals : IsNumeralModel (λ ds. all_ascii_digits ds ≡ true) decimal_value
numerals = numerals_by_fold (λ ds. all_ascii_digits ds ≡ true) tells_all_ascii_digits (λ n ds. fold (λ m d. 10 * m + (d - 48)) n ds)
    (record { empty = λ n. refl; more = λ n c cs h. ap (λ m. fold (λ k d. 10 * k + (d - 48)) m cs) (same n c) })
  where
    same : (n c : ℕ) → 10 * n + (c - 48) ≡ n * 10 + (c - 48)
    same n c = omega arith

pub decimal_back : (n : ℕ) → n < 2 ^ 64 → decimal_value (decimal n) ≡ n
decimal_back n h = digits_value-decimal numerals n h

pub decimal_digits : (n : ℕ) → n < 2 ^ 64 → list_all is_ascii_digit (decimal n) ≡ true
decimal_digits n h = digits_decimal numerals n h

-- Names

abbrev pub hidden_names : List (List ℕ)
hidden_names = owned_names ++ codes "close" ∷ []

-- a field of the message itself
pub record Own (f : Field) : Type 0 where
  pub not_host : bytes_eq f.name (codes "host") ≡ false
  pub not_hidden : is_one_of hidden_names f.name ≡ false

abbrev pub Owns : List Field → Type 0
Owns fields = AllByRecursion Own fields

negated : (c : Bool) → not c ≡ true → c ≡ false
negated true e = absurd cc
negated false e = refl

pub others_own : (fields : List Field) → list_all is_other fields ≡ true → Owns (map given fields)
others_own [] e = tt
others_own (f ∷ fields) e =
    let this = and_second (is_writable f) (not (bytes_eq f.name (codes "host")) && not (is_one_of hidden_names f.name)) (and_first (is_other f) (list_all is_other fields) e) in (
      record {
        not_host = negated (bytes_eq f.name (codes "host")) (and_first (not (bytes_eq f.name (codes "host"))) (not (is_one_of hidden_names f.name)) this);
        not_hidden = negated (is_one_of hidden_names f.name) (and_second (not (bytes_eq f.name (codes "host"))) (not (is_one_of hidden_names f.name)) this);
      },
      others_own fields (and_second (is_other f) (list_all is_other fields) e),
    )

pub others_writable : (fields : List Field) → list_all is_other fields ≡ true → list_all is_writable fields ≡ true
others_writable [] e = refl
others_writable (f ∷ fields) e =
    and_both (is_writable f) (list_all is_writable fields)
    (and_first (is_writable f) (not (bytes_eq f.name (codes "host")) && not (is_one_of hidden_names f.name)) (and_first (is_other f) (list_all is_other fields) e))
    (others_writable fields (and_second (is_other f) (list_all is_other fields) e))

-- a name among others that none of them is
none_of : (names : List (List ℕ)) (n : List ℕ) → is_one_of names n ≡ false → AllByRecursion (λ m. bytes_eq n m ≡ false) names
none_of [] n e = tt
none_of (m ∷ names) n e = by (bytes_eq n m) (is_one_of names n) refl refl (none_of names n) e
  where
    by : (x y : Bool) → bytes_eq n m ≡ x → is_one_of names n ≡ y → (is_one_of names n ≡ false → AllByRecursion (λ k. bytes_eq n k ≡ false) names)
        → (x || y) ≡ false → (bytes_eq n m ≡ false) × AllByRecursion (λ k. bytes_eq n k ≡ false) names
    by true y f g k e = absurd cc
    by false true f g k e = absurd cc
    by false false f g k e = (f, k g)

abbrev Unnamed : List ℕ → List Field → Type 0
Unnamed name fields = AllByRecursion (λ (f : Field). bytes_eq f.name name ≡ false) fields

-- the values of a name that none has
values_none : (name : List ℕ) (fields more : List Field) → Unnamed name fields → values_of name (fields ++ more) ≡ values_of name more
values_none name [] more x = refl
values_none name (f ∷ fields) more x =
    ap (λ c. cons_option (if c then Some f.value else None) (values_of name (fields ++ more))) x.0 ∙ values_none name fields more x.1

unnamed : (fields : List Field) → Owns fields → (name : List ℕ) → ((f : Field) → Own f → bytes_eq f.name name ≡ false) → Unnamed name fields
unnamed [] x name k = tt
unnamed (f ∷ fields) x name k = (k f x.0, unnamed fields x.1 name k)

hidden : (f : Field) → Own f → AllByRecursion (λ m. bytes_eq f.name m ≡ false) hidden_names
hidden f x = none_of hidden_names f.name x.not_hidden

-- the names that count for the length and the connection
pub no_length : (fields : List Field) → Owns fields → Unnamed (codes "content-length") fields
no_length fields x = unnamed fields x (codes "content-length") (λ f o. (hidden f o).0)

pub no_coding : (fields : List Field) → Owns fields → Unnamed (codes "transfer-encoding") fields
no_coding fields x = unnamed fields x (codes "transfer-encoding") (λ f o. (hidden f o).1.0)

pub no_connection : (fields : List Field) → Owns fields → Unnamed (codes "connection") fields
no_connection fields x = unnamed fields x (codes "connection") (λ f o. (hidden f o).1.1.0)

pub no_expectation : (fields : List Field) → Owns fields → Unnamed (codes "expect") fields
no_expectation fields x = unnamed fields x (codes "expect") (λ f o. (hidden f o).1.1.1.1.1.1.1.1.0)

pub no_host : (fields : List Field) → Owns fields → Unnamed (codes "host") fields
no_host fields x = unnamed fields x (codes "host") (λ f o. o.not_host)

-- The fields behind the first line, as they are read

abbrev pub behind_fields : Framing → List Field
behind_fields f = framing_fields f ++ field (codes "connection") (codes "close") ∷ []

decimal_kept : (n : ℕ) → n < 2 ^ 64 → trim (decimal n) ≡ decimal n
decimal_kept n h = trim_kept (decimal n) (weaker is_ascii_digit (λ b. not (is_blank b)) digit_no_blank (decimal n) (decimal_digits n h))
  where
    digit_no_blank : (b : ℕ) → is_ascii_digit b ≡ true → not (is_blank b) ≡ true
    digit_no_blank b e = high_no_blank b (lt-ltb 32 b (omega (arith, leb-true 48 b (and_first (nat_le 48 b) (nat_le b 57) e))))

pub behind_given : (f : Framing) → Fits f → map given (behind_fields f) ≡ behind_fields f
behind_given framing.NoField h = refl
behind_given (framing.Length n) h = ap (λ v. field (codes "content-length") v ∷ field (codes "connection") (codes "close") ∷ []) (decimal_kept n h)
behind_given framing.Chunked h = refl

pub map-append : {A B : Type 0} (f : A → B) (xs ys : List A) → map f (xs ++ ys) ≡ map f xs ++ map f ys
map-append f [] ys = refl
map-append f (x ∷ xs) ys = ap (λ l. f x ∷ l) (map-append f xs ys)

module _ (own : List Field) (x : Owns own) where
  pub codings : (f : Framing) → values_of (codes "transfer-encoding") (own ++ behind_fields f) ≡ values_of (codes "transfer-encoding") (behind_fields f)
  codings f = values_none (codes "transfer-encoding") own (behind_fields f) (no_coding own x)

  pub lengths : (f : Framing) → values_of (codes "content-length") (own ++ behind_fields f) ≡ values_of (codes "content-length") (behind_fields f)
  lengths f = values_none (codes "content-length") own (behind_fields f) (no_length own x)

  pub connections : (f : Framing) → values_of (codes "connection") (own ++ behind_fields f) ≡ codes "close" ∷ []
  connections f = values_none (codes "connection") own (behind_fields f) (no_connection own x) ∙ by f
    where
      by : (f : Framing) → values_of (codes "connection") (behind_fields f) ≡ codes "close" ∷ []
      by framing.NoField = refl
      by (framing.Length n) = refl
      by framing.Chunked = refl

  pub expectations : (f : Framing) → values_of (codes "expect") (own ++ behind_fields f) ≡ []
  expectations f = values_none (codes "expect") own (behind_fields f) (no_expectation own x) ∙ by f
    where
      by : (f : Framing) → values_of (codes "expect") (behind_fields f) ≡ []
      by framing.NoField = refl
      by (framing.Length n) = refl
      by framing.Chunked = refl

  pub hosts : (f : Framing) → values_of (codes "host") (own ++ behind_fields f) ≡ []
  hosts f = values_none (codes "host") own (behind_fields f) (no_host own x) ∙ by f
    where
      by : (f : Framing) → values_of (codes "host") (behind_fields f) ≡ []
      by framing.NoField = refl
      by (framing.Length n) = refl
      by framing.Chunked = refl

-- The fields that are shown

kept_all : (p : Field → Bool) (xs ys : List Field) → AllByRecursion (λ (f : Field). p f ≡ true) xs → filter p (xs ++ ys) ≡ xs ++ filter p ys
kept_all p [] ys x = refl
kept_all p (f ∷ xs) ys x = rw (x.0, filter) (ap (λ l. f ∷ l) (kept_all p xs ys x.1))

own_shown : (own : List Field) → Owns own → AllByRecursion (λ (f : Field). is_shown hidden_names f ≡ true) own
own_shown [] x = tt
own_shown (f ∷ own) x = (by (is_named (codes "content-length") f) (is_one_of hidden_names f.name) x.0.not_hidden, own_shown own x.1)
  where
    by : (a b : Bool) → b ≡ false → (a || not b) ≡ true
    by true b e = refl
    by false true e = absurd cc
    by false false e = refl

one_length_own : (own ys : List Field) → Unnamed (codes "content-length") own → one_length (own ++ ys) ≡ own ++ one_length ys
one_length_own [] ys x = refl
one_length_own (f ∷ own) ys x =
    ap (λ c. f ∷ (if c then without (codes "content-length" ∷ []) (own ++ ys) else one_length (own ++ ys))) x.0 ∙ ap (λ l. f ∷ l) (one_length_own own ys x.1)

module _ (own : List Field) (x : Owns own) (f : Framing) where
  options : connection_options (own ++ behind_fields f) ≡ codes "close" ∷ []
  options = ap (flat_map (λ value. map lower (list_items value))) (connections own x f)

  filtered : filter (is_shown hidden_names) (own ++ behind_fields f) ≡ own ++ given_length f
  filtered = kept_all (is_shown hidden_names) own (behind_fields f) (own_shown own x) ∙ ap (λ l. own ++ l) (by f)
    where
      by : (f : Framing) → filter (is_shown hidden_names) (behind_fields f) ≡ given_length f
      by framing.NoField = refl
      by (framing.Length n) = refl
      by framing.Chunked = refl

  one : one_length (own ++ given_length f) ≡ own ++ given_length f
  one = one_length_own own (given_length f) (no_length own x) ∙ ap (λ l. own ++ l) (by f)
    where
      by : (f : Framing) → one_length (given_length f) ≡ given_length f
      by framing.NoField = refl
      by (framing.Length n) = refl
      by framing.Chunked = refl

  pub response_shown : shown_fields (own ++ behind_fields f) ≡ own ++ given_length f
  unfolding shown_fields
  response_shown =
      ap (λ o. one_length (filter (is_shown (owned_names ++ o)) (own ++ behind_fields f))) options ∙ ap one_length filtered ∙ one

  pub request_shown : (host : List ℕ) → without (codes "host" ∷ []) (shown_fields (field (codes "host") host ∷ (own ++ behind_fields f))) ≡ own ++ given_length f
  unfolding shown_fields
  request_shown host =
      ap (λ o. without (codes "host" ∷ []) (one_length (filter (is_shown (owned_names ++ o)) (field (codes "host") host ∷ (own ++ behind_fields f))))) options
      ∙ ap (λ l. without (codes "host" ∷ []) l) (ap one_length filtered ∙ one)
      ∙ kept_all (λ (g : Field). not (is_one_of (codes "host" ∷ []) g.name)) own (given_length f) (no_hosts own x)
      ∙ ap (λ l. own ++ l) (by f)
    where
      no_hosts : (fields : List Field) → Owns fields → AllByRecursion (λ (g : Field). not (is_one_of (codes "host" ∷ []) g.name) ≡ true) fields
      no_hosts [] y = tt
      no_hosts (g ∷ fields) y = (ap (λ c. not (c || false)) y.0.not_host, no_hosts fields y.1)

      by : (f : Framing) → without (codes "host" ∷ []) (given_length f) ≡ given_length f
      by framing.NoField = refl
      by (framing.Length n) = refl
      by framing.Chunked = refl

-- The length

abbrev pub framed_length : Direction → Framing → Option Length
framed_length d framing.NoField = Some (unstated_length d)
framed_length d (framing.Length n) = if nat_lt n (2 ^ 63) then Some (length.Known n) else None
framed_length d framing.Chunked = Some length.Chunked

number_length : (n : ℕ) → n < 2 ^ 64 → length_by (decimal n) [] ≡ (if nat_lt n (2 ^ 63) then Some (length.Known n) else None)
number_length n h =
    ap (λ c. if c && list_all is_ascii_digit (decimal n) && nat_lt (decimal_value (decimal n)) (2 ^ 63) && true then Some (length.Known (decimal_value (decimal n))) else None)
    (some_byte (decimal n) (decimal_nonempty n h))
    ∙ ap (λ c. if c && nat_lt (decimal_value (decimal n)) (2 ^ 63) && true then Some (length.Known (decimal_value (decimal n))) else None) (decimal_digits n h)
    ∙ ap (λ m. if nat_lt m (2 ^ 63) && true then Some (length.Known m) else None) (decimal_back n h)
    ∙ by (nat_lt n (2 ^ 63))
  where
    by : (c : Bool) → ◌≡◌ {A = Option Length} (if c && true then Some (length.Known n) else None) (if c then Some (length.Known n) else None)
    by true = refl
    by false = refl

pub stated : (d : Direction) (own : List Field) → Owns own → (f : Framing) → Fits f → stated_length d 1 (own ++ behind_fields f) ≡ framed_length d f
stated d own x f h =
    ap (λ l. length_of d 1 l (values_of (codes "content-length") (own ++ behind_fields f))) (codings own x f)
    ∙ ap (length_of d 1 (values_of (codes "transfer-encoding") (behind_fields f))) (lengths own x f)
    ∙ by f h
  where
    by : (f : Framing) → Fits f → length_of d 1 (values_of (codes "transfer-encoding") (behind_fields f)) (values_of (codes "content-length") (behind_fields f)) ≡ framed_length d f
    by framing.NoField h = refl
    by (framing.Length n) h = number_length n h
    by framing.Chunked h = refl
