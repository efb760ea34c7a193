-- Each line, as it is written, is read as what it says.
use Rattle.std.proofs.Common.{◌≡◌, ◌≢◌, ℕ, zero, suc, ◌+◌, ◌-◌, ◌*◌, ◌<◌, ◌≤◌, ◌^◌, ◌==◌, nat_le, Bool, true, false, List, [], ◌∷◌, ◌++◌, length, get_or, Option, Some, None, Ok, option_map, codes, refl, sym, ap, ◌∙◌, arith}
use Rattle.std.specs.Char.{is_ascii_digit}
use Rattle.std.specs.Str.{all_ascii_digits}
use Rattle.std.specs.Str.Parse.{digits_value}
use Rattle.std.specs.Fmt.{decimal}
use Rattle.hex.specs.Hex.{IsBytes, encode_lower, decode_of}
use Rattle.hex.proofs.HexLemmas.{decode_of-encode_lower, decode_of-ok}
use Rattle.std.proofs.lemmas.Fmt.{decimal_digit, decimal_nonempty, first_decimal, digits_decimal, digits_value-decimal}
use Rattle.std.proofs.lemmas.Bool.Decides.{nat_tests}
use Rattle.std.proofs.Math.Bool.{and-false}
use Rattle.trace_format.specs.declared.line.TraceLine.{TraceLine}
use Rattle.trace_format.specs.declared.line.TraceLine.TheVariants as line
use Rattle.trace_format.specs.Lines.{parted, word_of, line_by, line_of, number_of, bytes_of, answer_of, decoded, is_decimal}
use Rattle.trace_format.specs.Spelled.{spelling, CanStand, SomeBytes, answer_text}
use Rattle.trace_format.proofs.Decimals.{own, decimal_is, both}
use Rattle.trace_format.proofs.Parted.{NoSpace, parted_at}

-- ---- numbers

first_digit : (n : ℕ) → n < 2 ^ 64 → 1 < length (decimal n) → get_or (decimal n) 0 0 ≢ 48
first_digit zero small many = absurd (omega (arith, ap (length {A = ℕ}) (decimal_digit 0 (omega arith))))
first_digit (suc n) small many = λ e. omega (arith, first_decimal (suc n) (omega arith) small)

spelled_decimal : (n : ℕ) → n < 2 ^ 64 → is_decimal (decimal n) ≡ true
spelled_decimal n small = decimal_is (decimal n) (decimal_nonempty n small) (first_digit n small) ∙ digits_decimal own n small

number-decimal : (most n : ℕ) → n ≤ most → n < 2 ^ 64 → number_of most (decimal n) ≡ Some n
unfolding number_of
number-decimal most n fits small =
    let value : digits_value 10 (decimal n) ≡ n = digits_value-decimal own n small in
    let yes : nat_le n most ≡ true = grind (arith, nat_tests) in
    rw (spelled_decimal n small, value, yes) refl

digits_no_space : (text : List ℕ) → all_ascii_digits text ≡ true → NoSpace text
digits_no_space [] h = tt
digits_no_space (c ∷ cs) h =
    let p = both (is_ascii_digit c) (all_ascii_digits cs) h in
    (λ (e : c ≡ 32). let d : is_ascii_digit 32 ≡ true = rw e at p.0 in (cc), digits_no_space cs p.1)

parted-decimal : (n : ℕ) (rest : List ℕ) → n < 2 ^ 64 → parted (decimal n ++ 32 ∷ rest) ≡ (decimal n, Some rest)
parted-decimal n rest small = parted_at (decimal n) rest (digits_no_space (decimal n) (digits_decimal own n small))

-- ---- bytes

bytes-decoded : (digits bytes : List ℕ) → 0 < length digits → decode_of digits ≡ Ok bytes → bytes_of digits ≡ Some bytes
unfolding bytes_of
bytes-decoded [] bytes some e = absurd (omega arith)
bytes-decoded (d ∷ ds) bytes some e = ap decoded e

length-encoded : (bytes : List ℕ) → IsBytes bytes → length (encode_lower bytes) ≡ 2 * length bytes
length-encoded bytes h = (decode_of-ok (encode_lower bytes) bytes (decode_of-encode_lower bytes h)).2

bytes-encoded : (bytes : List ℕ) → SomeBytes bytes → bytes_of (encode_lower bytes) ≡ Some bytes
bytes-encoded bytes h = bytes-decoded (encode_lower bytes) bytes (omega (arith, h.0, length-encoded bytes h.1)) (decode_of-encode_lower bytes h.1)

-- ---- lines

exchange-decimal : (x : ℕ) → x < 2 ^ 32 → number_of (2 ^ 32 - 1) (decimal x) ≡ Some x
exchange-decimal x fits = number-decimal (2 ^ 32 - 1) x (omega arith) (omega arith)

exchange-parted : (x : ℕ) (rest : List ℕ) → x < 2 ^ 32 → parted (decimal x ++ 32 ∷ rest) ≡ (decimal x, Some rest)
exchange-parted x rest fits = parted-decimal x rest (omega arith)

-- more digits than one are no dash
not_dash : (digits bytes : List ℕ) → 1 < length digits → bytes_of digits ≡ Some bytes → answer_of digits ≡ Some bytes
not_dash [] bytes many e = absurd (omega arith)
not_dash (d ∷ []) bytes many e = absurd (omega arith)
not_dash (c ∷ d ∷ ds) bytes many e = rw (and-false (c == 45)) e

answer-encoded : (bytes : List ℕ) → IsBytes bytes → answer_of (answer_text bytes) ≡ Some bytes
answer-encoded [] h = refl
answer-encoded (b ∷ bytes) h = not_dash (encode_lower (b ∷ bytes)) (b ∷ bytes) (omega (arith, length-encoded (b ∷ bytes) h)) (bytes-encoded (b ∷ bytes) (omega arith, h))

pub reads : (l : TraceLine) → CanStand l → line_of (spelling l) ≡ Some l
unfolding line_of word_of line_by
reads (line.First true) h = refl
reads (line.First false) h = refl
reads (line.Config text) h = rw h refl
reads line.Open h = refl
reads (line.Client x bytes) h = rw (exchange-parted x (encode_lower bytes) h.0, exchange-decimal x h.0, bytes-encoded bytes h.1) refl
reads (line.Up x bytes) h = rw (exchange-parted x (encode_lower bytes) h.0, exchange-decimal x h.0, bytes-encoded bytes h.1) refl
reads (line.ClientEnd x) h = rw (exchange-decimal x h) refl
reads (line.UpEnd x) h = rw (exchange-decimal x h) refl
reads (line.ClientLost x) h = rw (exchange-decimal x h) refl
reads (line.UpLost x) h = rw (exchange-decimal x h) refl
reads (line.UpNoDial x) h = rw (exchange-decimal x h) refl
reads (line.Answer x bytes) h = rw (exchange-parted x (answer_text bytes) h.0, exchange-decimal x h.0, answer-encoded bytes h.1) refl
reads (line.Close x true) h = rw (exchange-parted x (codes "clean") h, exchange-decimal x h) refl
reads (line.Close x false) h = rw (exchange-parted x (codes "error") h, exchange-decimal x h) refl
reads (line.Ext bytes) h = rw (bytes-encoded bytes h) refl
reads line.ExtEnd h = refl
reads line.ExtLost h = refl
reads (line.Tick n) h = rw (number-decimal (2 ^ 64 - 1) n (omega arith) h) refl
reads (line.HoldClient x) h = rw (exchange-decimal x h) refl
reads (line.HoldUp x) h = rw (exchange-decimal x h) refl
reads (line.FreeClient x) h = rw (exchange-decimal x h) refl
reads (line.FreeUp x) h = rw (exchange-decimal x h) refl
reads line.HoldExt h = refl
reads line.FreeExt h = refl
reads line.Stop h = refl
