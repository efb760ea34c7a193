-- Signed numbers that were written are read again.
use Rattle.std.proofs.Common.{◌≡◌, ℕ, ℤ, pos, negsuc, zero, suc, ◌+◌, ◌-◌, ◌%◌, ◌^◌, ◌<◌, ◌≤◌, List, [], ◌∷◌, ◌++◌, length, get_or, drop, append_assoc, refl, sym, ap, ◌∙◌, arith}
use Rattle.std.specs.List.{All, AllByRecursion}
use Rattle.std.proofs.lemmas.List.Elements.{recursion_from_All}
use Rattle.std.specs.Int.{w32, w64, cast_signed, cast_unsigned}
use Rattle.std.specs.Int.RustNames.{FitsSigned}
use Rattle.std.proofs.lemmas.Bool.{eq-eqb, ne_eqb}
use Rattle.std.proofs.lemmas.List.{drop_more, drop_all}
use Rattle.std.proofs.lemmas.Int.{to_z-of_z}
use Rattle.pb_wire.specs.Records.{Entry}
use Rattle.ext_msgs.specs.declared.answer.ModeNumbers.{ModeNumbers}
use Rattle.ext_msgs.specs.declared.answer.Span.{Span}
use Rattle.ext_msgs.specs.Fields.{varints, last_or, number_of, int32, int64}
use Rattle.ext_msgs.specs.MessageFault.{no_fault}
use Rattle.ext_msgs.specs.MessageValue.{mode_of, modes, duration}
use Rattle.ext_msgs.specs.Spelling.{some_number, some_signed, numbered, duration_records}
use Rattle.pb_wire.specs.Canonical.{spelling}
use Rattle.ext_msgs.proofs.Joined.{spelling_both, nothing_more}
use Rattle.ext_msgs.proofs.Again.{AreGood, good_append, number_good}

-- ---- signed numbers in 64 bits

bits_fit : (z : ℤ) → FitsSigned w64 z → cast_unsigned w64 z < 2 ^ 64
bits_fit (pos n) h = omega (arith, h.sfits)
bits_fit (negsuc n) h = omega arith

pub wide : (z : ℤ) → FitsSigned w32 z → FitsSigned w64 z
wide (pos n) h = record { sfits = omega (arith, h.sfits) }
wide (negsuc n) h = record { sfits = omega (arith, h.sfits) }

int64_again : (z : ℤ) → FitsSigned w64 z → int64 (cast_unsigned w64 z) ≡ z
int64_again z h = to_z-of_z w64 z h

int32_again : (z : ℤ) → FitsSigned w32 z → int32 (cast_unsigned w64 z) ≡ z
int32_again (pos n) h =
    let small : n % 2 ^ 32 ≡ n = omega (arith, h.sfits) in
    ap (cast_signed w32) small ∙ to_z-of_z w32 (pos n) h
int32_again (negsuc n) h =
    let small : (2 ^ 64 - suc n) % 2 ^ 32 ≡ 2 ^ 32 - suc n = omega (arith, h.sfits) in
    ap (cast_signed w32) small ∙ to_z-of_z w32 (negsuc n) h

-- ---- a number among others

-- what stands in front of field k under another number
skip_number : (k n v : ℕ) (es : List Entry) → (n ≡ k → ⊥) → varints k (some_number n v ++ es) ≡ varints k es
skip_number k n zero es ne = refl
skip_number k n (suc v) es ne = rw (ne_eqb n k ne) refl

-- the number itself, where no other one follows
this_number : (k v : ℕ) (es : List Entry) → varints k es ≡ [] → last_or 0 (varints k (some_number k v ++ es)) ≡ v
this_number k zero es none = rw none refl
this_number k (suc v) es none = rw (eq-eqb k k refl, none) refl

-- the numbers of a list are fields from n on
no_lower : (k n : ℕ) (zs : List ℤ) → k < n → varints k (numbered n zs) ≡ []
no_lower k n [] lt = refl
no_lower k n (z ∷ zs) lt = skip_number k n (cast_unsigned w64 z) (numbered (suc n) zs) (omega arith) ∙ no_lower k (suc n) zs (omega arith)

-- so many numbers, from field n on
abbrev read_from : ℕ → ℕ → List Entry → List ℤ
read_from zero n es = []
read_from (suc k) n es = mode_of n es ∷ read_from k (suc n) es

skip_front : (k m n v : ℕ) (es : List Entry) → n < m → read_from k m (some_number n v ++ es) ≡ read_from k m es
skip_front zero m n v es lt = refl
skip_front (suc k) m n v es lt =
    ap (λ (z : ℤ). z ∷ read_from k (suc m) (some_number n v ++ es)) (ap (λ vs. int32 (last_or 0 vs)) (skip_number m n v es (omega arith)))
    ∙ ap (λ (zs : List ℤ). mode_of m es ∷ zs) (skip_front k (suc m) n v es (omega arith))

numbered_said : (n : ℕ) (zs : List ℤ) → AllByRecursion (FitsSigned w32) zs → read_from (length zs) n (numbered n zs) ≡ zs
numbered_said n [] h = refl
numbered_said n (z ∷ zs) h =
    let first : mode_of n (numbered n (z ∷ zs)) ≡ z = ap int32 (this_number n (cast_unsigned w64 z) (numbered (suc n) zs) (no_lower n (suc n) zs (omega arith))) ∙ int32_again z h.0 in
    let more : read_from (length zs) (suc n) (numbered n (z ∷ zs)) ≡ zs = skip_front (length zs) (suc n) n (cast_unsigned w64 z) (numbered (suc n) zs) (omega arith) ∙ numbered_said (suc n) zs h.1 in
    ap (λ (y : ℤ). y ∷ read_from (length zs) (suc n) (numbered n (z ∷ zs))) first ∙ ap (λ (ys : List ℤ). z ∷ ys) more

numbered_good : (n : ℕ) (zs : List ℤ) → 0 < n → n + length zs < 2 ^ 29 → AllByRecursion (FitsSigned w32) zs → AreGood no_fault (numbered n zs)
numbered_good n [] low high h = tt
numbered_good n (z ∷ zs) low high h =
    good_append no_fault (some_signed n z) (numbered (suc n) zs)
    (number_good no_fault n (cast_unsigned w64 z) low (omega arith) (bits_fit z (wide z h.0)) (λ place start. refl))
    (numbered_good (suc n) zs (omega arith) (omega arith) h.1)

-- ---- ProcessingMode

pub modes_good : (m : ModeNumbers) → length m.numbers ≡ 6 → All (FitsSigned w32) m.numbers → AreGood no_fault (numbered 1 m.numbers)
modes_good m six h = numbered_good 1 m.numbers (omega arith) (omega (arith, six)) (recursion_from_All (FitsSigned w32) m.numbers h)

pub modes_said : (m : ModeNumbers) → length m.numbers ≡ 6 → All (FitsSigned w32) m.numbers → modes (numbered 1 m.numbers) ≡ m
modes_said m six h =
    ap (λ (zs : List ℤ). record { numbers = zs }) (ap (λ k. read_from k 1 (numbered 1 m.numbers)) (sym six) ∙ numbered_said 1 m.numbers (recursion_from_All (FitsSigned w32) m.numbers h))

-- ---- Duration

pub duration_good : (s : Span) → FitsSigned w64 s.seconds → FitsSigned w32 s.nanos → AreGood no_fault (duration_records s)
duration_good s h k =
    good_append no_fault (some_signed 1 s.seconds) (some_signed 2 s.nanos)
    (number_good no_fault 1 (cast_unsigned w64 s.seconds) (omega arith) (omega arith) (bits_fit s.seconds h) (λ place start. refl))
    (number_good no_fault 2 (cast_unsigned w64 s.nanos) (omega arith) (omega arith) (bits_fit s.nanos (wide s.nanos k)) (λ place start. refl))

alone : (k n v : ℕ) → (n ≡ k → ⊥) → varints k (some_number n v) ≡ []
alone k n zero ne = refl
alone k n (suc v) ne = rw (ne_eqb n k ne) refl

itself : (k v : ℕ) → last_or 0 (varints k (some_number k v)) ≡ v
itself k zero = refl
itself k (suc v) = rw (eq-eqb k k refl) refl

pub duration_said : (s : Span) → FitsSigned w64 s.seconds → FitsSigned w32 s.nanos → duration (duration_records s) ≡ s
duration_said s h k =
    let seconds : int64 (number_of 1 (duration_records s)) ≡ s.seconds = ap int64 (this_number 1 (cast_unsigned w64 s.seconds) (some_signed 2 s.nanos) (alone 1 2 (cast_unsigned w64 s.nanos) (omega arith))) ∙ int64_again s.seconds h in
    let nanos : int32 (number_of 2 (duration_records s)) ≡ s.nanos = ap int32 (ap (last_or 0) (skip_number 2 1 (cast_unsigned w64 s.seconds) (some_signed 2 s.nanos) (omega arith)) ∙ itself 2 (cast_unsigned w64 s.nanos)) ∙ int32_again s.nanos k in
    ap (λ (x : ℤ). record { seconds = x; nanos = int32 (number_of 2 (duration_records s)) }) seconds ∙ ap (λ (y : ℤ). record { seconds = s.seconds; nanos = y }) nanos

-- ---- a loop that writes such numbers

pub numbers_step : (out total : List ℕ) (n : ℕ) (zs : List ℤ) (i : ℕ) (d : ℤ) → i < length zs → out ++ spelling (numbered n (drop i zs)) ≡ total → (out ++ spelling (some_signed n (get_or zs i d))) ++ spelling (numbered (n + 1) (drop (i + 1) zs)) ≡ total
numbers_step out total n zs i d lt so_far =
    let z = get_or zs i d in
    let up : n + 1 ≡ suc n = omega arith in
    append_assoc out (spelling (some_signed n z)) (spelling (numbered (n + 1) (drop (i + 1) zs)))
    ∙ ap (λ s. out ++ s) (spelling_both (some_signed n z) (numbered (n + 1) (drop (i + 1) zs)) ∙ ap (λ (m : ℕ). spelling (some_signed n z ++ numbered m (drop (i + 1) zs))) up)
    ∙ sym (ap (λ (ys : List ℤ). out ++ spelling (numbered n ys)) (drop_more zs i d lt)) ∙ so_far

pub numbers_all : (out total : List ℕ) (n : ℕ) (zs : List ℤ) (i : ℕ) → length zs ≤ i → out ++ spelling (numbered n (drop i zs)) ≡ total → out ≡ total
numbers_all out total n zs i le so_far = nothing_more out ∙ sym (ap (λ (ys : List ℤ). out ++ spelling (numbered n ys)) (drop_all i zs le)) ∙ so_far
