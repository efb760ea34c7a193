use Rattle.std.proofs.Common.{◌≡◌, ◌≢◌, [], ◌∷◌, List, ℕ, length, Option, Some, None, Result, Ok, Err, ◌<◌, ◌≤◌, ◌*◌, ◌⊎◌, inl, inr, refl, sym, ◌∙◌, ap, arith}
use Rattle.std.proofs.lemmas.Grind.{common_steps}
use Rattle.hex.proofs.HexLemmas.{decode_of-ok}
use Rattle.hex.specs.Hex.{decode_of}
use Rattle.hex.specs.declared.FromHexError.{FromHexError}
use Rattle.hex.specs.declared.FromHexError.TheVariants.{OutOfMemory}
use Rattle.trace_format.specs.Lines.{bytes_of, decoded}
use Rattle.trace_format.proofs.parts.read_hex.Goals as goal

-- digits, of which there are none or some
no_digits : (digits : List ℕ) → length digits ≡ 0 → bytes_of digits ≡ None
unfolding bytes_of
no_digits [] h = refl
no_digits (d ∷ ds) h = absurd (omega arith)

some_digits : (digits : List ℕ) → 0 < length digits → bytes_of digits ≡ decoded (decode_of digits)
unfolding bytes_of
some_digits [] h = absurd (omega arith)
some_digits (d ∷ ds) h = refl

-- what doesn't decode
never : (r : Result (List ℕ) FromHexError) → ((bytes : List ℕ) → r ≡ Ok bytes → ⊥) → decoded r ≡ None
never (Ok bytes) h = absurd (h bytes refl)
never (Err e) h = refl

pub returns-then-is_empty-clause-read : goal.returns-then-is_empty-clause-read
returns-then-is_empty-clause-read c =
    let none : length c.args.digits.now ≡ 0 = grind (arith, common_steps, c.is_empty.ensures) in
    sym (no_digits c.args.digits.now none)

pub returns-in-Some-clause-read : goal.returns-in-Some-clause-read
returns-in-Some-clause-read c =
    let some : 0 < length c.args.digits.now = grind (arith, common_steps, c.is_empty.ensures) in
    let read : decode_of c.args.digits.now ≡ Ok c.in-Some.bytes.items = rw c.in-Some.is at c.in_ok-bytes.ensures in
    ap (λ (l : List ℕ). Some l) c.from_vec.ensures ∙ sym (some_digits c.args.digits.now some ∙ ap decoded read)

pub returns-in-None-clause-read : goal.returns-in-None-clause-read
returns-in-None-clause-read c =
    let some : 0 < length c.args.digits.now = grind (arith, common_steps, c.is_empty.ensures) in
    sym (some_digits c.args.digits.now some ∙ never (decode_of c.args.digits.now) (rw c.in-None.is at c.in_ok-bytes.ensures))

pub returns-in-Some-clause-short : goal.returns-in-Some-clause-short
returns-in-Some-clause-short c =
    let read : decode_of c.args.digits.now ≡ Ok c.in-Some.bytes.items = rw c.in-Some.is at c.in_ok-bytes.ensures in
    let twice : length c.args.digits.now ≡ 2 * length c.in-Some.bytes.items = (decode_of-ok c.args.digits.now c.in-Some.bytes.items read).2 in
    rw c.from_vec.ensures (omega arith)
