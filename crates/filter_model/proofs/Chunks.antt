-- The proxy's own chunks, read back byte by byte.
use Rattle.std.proofs.Common.{sym, ◌∙◌, ap, append_assoc, refl, arith, length-append, ne_eqb, le-leb, ltb-true, ltb-false, eqb-true}
use Rattle.std.proofs.lemmas.Bool.{lt-leb, eqb-false}
use Rattle.std.specs.Prelude.{ℕ, zero, suc, ◌≡◌, ◌+◌, ◌*◌, ◌-◌, ◌/◌, ◌%◌, ◌<◌, ◌≤◌, Bool, true, false, List, [], ◌∷◌, ◌++◌, length, Option, Some, None, if◌then◌else◌, ◌==◌, nat_lt, nat_le, flat_map, codes}
use Rattle.ext_msgs.specs.declared.lists.Field.{Field}
use Rattle.http_model.specs.Bytes.{crlf, hex_digit_value}
use Rattle.http_model.specs.Wire.{hex_digit, hex_onto, hex, chunk_bytes, last_bytes, field_lines}
use Rattle.http_model.specs.declared.types.Framing.TheVariants.{Chunked}
use Rattle.filter_model.specs.Outgoing.{Framed, InSize, InData, AtEnd, Ended, behind_size, framed_on, data_count, behind_last, body_bytes}

-- Digits

-- what a digit's byte is: at least `0`, and so neither CR nor LF
digit_low : (d : ℕ) → 48 ≤ hex_digit d
digit_low d = by (nat_lt d 10)
  where
    by : (b : Bool) → 48 ≤ (if b then 48 + d else 87 + d)
    by true = omega arith
    by false = omega arith

value_low : (d : ℕ) → d < 10 → hex_digit_value (48 + d) ≡ d
value_low d h = by (nat_le (48 + d) 57) (le-leb (48 + d) 57 (omega (arith, h)))
  where
    by : (b : Bool) → b ≡ true → (if b then (48 + d) - 48 else (if nat_le (48 + d) 70 then (48 + d) - 55 else (48 + d) - 87)) ≡ d
    by true e = omega arith
    by false e = absurd cc

value_high : (d : ℕ) → 10 ≤ d → hex_digit_value (87 + d) ≡ d
value_high d h = by (nat_le (87 + d) 57) (nat_le (87 + d) 70) (lt-leb (87 + d) 57 (omega (arith, h))) (lt-leb (87 + d) 70 (omega (arith, h)))
  where
    by : (b c : Bool) → b ≡ false → c ≡ false → (if b then (87 + d) - 48 else (if c then (87 + d) - 55 else (87 + d) - 87)) ≡ d
    by true c e f = absurd cc
    by false true e f = absurd cc
    by false false e f = omega arith

hex_value_of : (d : ℕ) → hex_digit_value (hex_digit d) ≡ d
hex_value_of d = by (nat_lt d 10) refl
  where
    by : (b : Bool) → nat_lt d 10 ≡ b → hex_digit_value (if b then 48 + d else 87 + d) ≡ d
    by true e = value_low d (ltb-true d 10 e)
    by false e = value_high d (ltb-false d 10 e)

digit_framed : (n d : ℕ) → framed_on (InSize n) (hex_digit d) ≡ InSize (16 * n + d)
digit_framed n d =
    by (hex_digit d == 13) (hex_digit d == 10) (ne_eqb (hex_digit d) 13 (λ e. omega (arith, digit_low d, e))) (ne_eqb (hex_digit d) 10 (λ e. omega (arith, digit_low d, e)))
    ∙ ap (λ v. InSize (16 * n + v)) (hex_value_of d)
  where
    by : (b c : Bool) → b ≡ false → c ≡ false
        → (if b then InSize n else (if c then behind_size n else InSize (16 * n + hex_digit_value (hex_digit d)))) ≡ InSize (16 * n + hex_digit_value (hex_digit d))
    by true c e f = absurd cc
    by false true e f = absurd cc
    by false false e f = refl

-- a walk over the bytes that sees nothing but where it stands, in a chunk's first line
abbrev pub Walks : {A : Type 0} → (Framed → List ℕ → A) → Type 0
Walks F = (n b : ℕ) (bytes : List ℕ) → F (InSize n) (b ∷ bytes) ≡ F (framed_on (InSize n) b) bytes

digits_walked : {A : Type 0} (F : Framed → List ℕ → A) → Walks F → (k n : ℕ) (digits : List ℕ) → n < k → F (InSize 0) (hex_onto k n digits) ≡ F (InSize n) digits
digits_walked F w zero n digits h = absurd (none n h)
  where
    none : (n : ℕ) → n < 0 → ⊥
    none n h = omega (arith, h)
digits_walked F w (suc k) n digits h = by (n / 16 == 0) refl (digits_walked F w k (n / 16) (hex_digit (n % 16) ∷ digits))
  where
    alone : n / 16 ≡ 0 → 16 * 0 + n ≡ n
    alone e = omega arith

    joined : 16 * (n / 16) + n % 16 ≡ n
    joined = omega arith

    less : (n / 16 ≡ 0 → ⊥) → n / 16 < k
    less e = omega (arith, h, e)

    by : (b : Bool) → (n / 16 == 0) ≡ b → (n / 16 < k → F (InSize 0) (hex_onto k (n / 16) (hex_digit (n % 16) ∷ digits)) ≡ F (InSize (n / 16)) (hex_digit (n % 16) ∷ digits))
        → F (InSize 0) (elim b [ true ↦ hex_digit n ∷ digits | false ↦ hex_onto k (n / 16) (hex_digit (n % 16) ∷ digits) ]) ≡ F (InSize n) digits
    by true e i =
        w 0 (hex_digit n) digits ∙ ap (λ s. F s digits) (digit_framed 0 n ∙ ap InSize (alone (eqb-true (n / 16) 0 e)))
    by false e i =
        i (less (eqb-false (n / 16) 0 e))
        ∙ w (n / 16) (hex_digit (n % 16)) digits ∙ ap (λ s. F s digits) (digit_framed (n / 16) (n % 16) ∙ ap InSize joined)

onto-append : (k n : ℕ) (digits more : List ℕ) → hex_onto k n digits ++ more ≡ hex_onto k n (digits ++ more)
onto-append zero n digits more = refl
onto-append (suc k) n digits more = by (n / 16 == 0) (onto-append k (n / 16) (hex_digit (n % 16) ∷ digits) more)
  where
    by : (b : Bool) → hex_onto k (n / 16) (hex_digit (n % 16) ∷ digits) ++ more ≡ hex_onto k (n / 16) (hex_digit (n % 16) ∷ (digits ++ more))
        → (elim b [ true ↦ hex_digit n ∷ digits | false ↦ hex_onto k (n / 16) (hex_digit (n % 16) ∷ digits) ]) ++ more
        ≡ elim b [ true ↦ hex_digit n ∷ (digits ++ more) | false ↦ hex_onto k (n / 16) (hex_digit (n % 16) ∷ (digits ++ more)) ]
    by true i = refl
    by false i = i

-- a chunk's first line
pub size_walked : {A : Type 0} (F : Framed → List ℕ → A) → Walks F → (n : ℕ) (more : List ℕ) → F (InSize 0) (hex n ++ (crlf ++ more)) ≡ F (behind_size n) more
unfolding hex
size_walked F w n more =
    ap (F (InSize 0)) (onto-append (suc n) n [] (crlf ++ more)) ∙ digits_walked F w (suc n) n (crlf ++ more) (omega arith)
    ∙ w n 13 (10 ∷ more) ∙ w n 10 more

-- Counts

plus_none : (n : ℕ) → 0 + n ≡ n
plus_none n = omega arith

pub count_walks : Walks data_count
count_walks n b bytes = plus_none (data_count (framed_on (InSize n) b) bytes)

data_counted : (b : ℕ) (piece more : List ℕ) → data_count (InData (length piece)) (b ∷ (piece ++ more)) ≡ suc (length piece) + data_count AtEnd more
data_counted b [] more = refl
data_counted b (c ∷ piece) more = ap (λ n. 1 + n) (data_counted c piece more) ∙ plus (length piece) (data_count AtEnd more)
  where
    plus : (n m : ℕ) → 1 + (suc n + m) ≡ suc (suc n) + m
    plus n m = omega arith

end_counted : (more : List ℕ) → data_count AtEnd (crlf ++ more) ≡ data_count (InSize 0) more
end_counted more = plus_none (0 + data_count (InSize 0) more) ∙ plus_none (data_count (InSize 0) more)

pub chunk_parts : (piece more : List ℕ) → chunk_bytes piece ++ more ≡ hex (length piece) ++ (crlf ++ (piece ++ (crlf ++ more)))
unfolding chunk_bytes
chunk_parts piece more =
    append_assoc ((hex (length piece) ++ crlf) ++ piece) crlf more
    ∙ append_assoc (hex (length piece) ++ crlf) piece (crlf ++ more)
    ∙ append_assoc (hex (length piece)) crlf (piece ++ (crlf ++ more))

chunk_counted : (b : ℕ) (piece more : List ℕ) → data_count (InSize 0) (chunk_bytes (b ∷ piece) ++ more) ≡ length (b ∷ piece) + data_count (InSize 0) more
chunk_counted b piece more =
    ap (data_count (InSize 0)) (chunk_parts (b ∷ piece) more)
    ∙ size_walked data_count count_walks (length (b ∷ piece)) ((b ∷ piece) ++ (crlf ++ more))
    ∙ data_counted b piece (crlf ++ more)
    ∙ ap (λ n. suc (length piece) + n) (end_counted more)

-- the data of the chunks of a body is the body
pub body_counted : (pieces : List (List ℕ)) (more : List ℕ) → data_count (InSize 0) (body_bytes Chunked pieces ++ more) ≡ length (flat_map (λ p. p) pieces) + data_count (InSize 0) more
body_counted [] more = sym (plus_none (data_count (InSize 0) more))
body_counted ([] ∷ pieces) more = body_counted pieces more
body_counted ((b ∷ piece) ∷ pieces) more =
    ap (data_count (InSize 0)) (append_assoc (chunk_bytes (b ∷ piece)) (body_bytes Chunked pieces) more)
    ∙ chunk_counted b piece (body_bytes Chunked pieces ++ more)
    ∙ ap (λ n. length (b ∷ piece) + n) (body_counted pieces more)
    ∙ plus (length (b ∷ piece)) (length (flat_map (λ p. p) pieces)) (data_count (InSize 0) more)
    ∙ ap (λ n. n + data_count (InSize 0) more) (sym (length-append (b ∷ piece) (flat_map (λ p. p) pieces)))
  where
    plus : (n m k : ℕ) → n + (m + k) ≡ (n + m) + k
    plus n m k = omega arith

pub none_counted : (bytes : List ℕ) → data_count Ended bytes ≡ 0
none_counted [] = refl
none_counted (b ∷ bytes) = plus_none (data_count Ended bytes) ∙ none_counted bytes

-- and nothing behind it
pub last_counted : (trailers : List Field) → data_count (InSize 0) (last_bytes trailers) ≡ 0
unfolding last_bytes
last_counted trailers =
    ap (data_count (InSize 0)) (append_assoc (codes "0\r\n") (field_lines trailers) crlf)
    ∙ plus_none (0 + (0 + data_count Ended (field_lines trailers ++ crlf)))
    ∙ plus_none (0 + data_count Ended (field_lines trailers ++ crlf))
    ∙ plus_none (data_count Ended (field_lines trailers ++ crlf))
    ∙ none_counted (field_lines trailers ++ crlf)

-- What stands behind the last chunk's line

last_walks : Walks behind_last
last_walks n b bytes = refl

behind_data : (b : ℕ) (piece more : List ℕ) → behind_last (InData (length piece)) (b ∷ (piece ++ more)) ≡ behind_last AtEnd more
behind_data b [] more = refl
behind_data b (c ∷ piece) more = behind_data c piece more

behind_chunk : (b : ℕ) (piece more : List ℕ) → behind_last (InSize 0) (chunk_bytes (b ∷ piece) ++ more) ≡ behind_last (InSize 0) more
behind_chunk b piece more =
    ap (behind_last (InSize 0)) (chunk_parts (b ∷ piece) more)
    ∙ size_walked behind_last last_walks (length (b ∷ piece)) ((b ∷ piece) ++ (crlf ++ more))
    ∙ behind_data b piece (crlf ++ more)

pub behind_body : (pieces : List (List ℕ)) (more : List ℕ) → behind_last (InSize 0) (body_bytes Chunked pieces ++ more) ≡ behind_last (InSize 0) more
behind_body [] more = refl
behind_body ([] ∷ pieces) more = behind_body pieces more
behind_body ((b ∷ piece) ∷ pieces) more =
    ap (behind_last (InSize 0)) (append_assoc (chunk_bytes (b ∷ piece)) (body_bytes Chunked pieces) more)
    ∙ behind_chunk b piece (body_bytes Chunked pieces ++ more) ∙ behind_body pieces more

ended_all : (bytes : List ℕ) → behind_last Ended bytes ≡ Some bytes
ended_all [] = refl
ended_all (b ∷ bytes) = refl

pub behind_end : (trailers : List Field) → behind_last (InSize 0) (last_bytes trailers) ≡ Some (field_lines trailers ++ crlf)
unfolding last_bytes
behind_end trailers =
    ap (behind_last (InSize 0)) (append_assoc (codes "0\r\n") (field_lines trailers) crlf) ∙ ended_all (field_lines trailers ++ crlf)

-- what stands there grows with what follows

abbrev some_more : Option (List ℕ) → List ℕ → Option (List ℕ)
some_more None ys = None
some_more (Some l) ys = Some (l ++ ys)

abbrev BehindMore : Framed → List ℕ → List ℕ → Type 0
BehindMore s xs ys = (l : List ℕ) → behind_last s xs ≡ Some l → behind_last s (xs ++ ys) ≡ Some (l ++ ys)

-- at the end all bytes stand there
ended_more : (xs ys : List ℕ) → BehindMore Ended xs ys
ended_more xs ys l e = ended_all (xs ++ ys) ∙ ap (λ o. some_more o ys) (sym (ended_all xs) ∙ e)

pub behind_more : (s : Framed) (xs ys : List ℕ) → BehindMore s xs ys
behind_more Ended xs ys l e = ended_more xs ys l e
behind_more (InSize n) [] ys l e = absurd cc
behind_more (InSize n) (x ∷ xs) ys l e = behind_more (framed_on (InSize n) x) xs ys l e
behind_more (InData n) [] ys l e = absurd cc
behind_more (InData n) (x ∷ xs) ys l e = behind_more (framed_on (InData n) x) xs ys l e
behind_more AtEnd [] ys l e = absurd cc
behind_more AtEnd (x ∷ xs) ys l e = behind_more (framed_on AtEnd x) xs ys l e
