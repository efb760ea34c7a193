-- The line of a chunk as the definitions read it is the one of `httparse`'s grammar.
use Rattle.std.proofs.Common.{sym, ◌∙◌, ap, subst, refl, arith, append_assoc, append-nil, eqb-true, leb-true, ltb-true, le-leb, lt-ltb, le-ltb, add-zero, inl, inr, true≢false}
use Rattle.std.proofs.lemmas.Bool.{eqb-false}
use Rattle.std.specs.Prelude.{ℕ, suc, ◌≡◌, ◌+◌, ◌*◌, ◌<◌, ◌≤◌, ◌⊎◌, Bool, true, false, not, ◌&&◌, ◌||◌, List, [], ◌∷◌, ◌++◌, length, ◌==◌, nat_lt, nat_le, Option, Some, None, if◌then◌else◌}
use Rattle.std.specs.List.{list_all}
use Rattle.std.specs.Char.{is_ascii_hexdigit, digit_value}
use Rattle.std.specs.Str.Parse.{digits_value, digits_value_after}
use Rattle.std.proofs.lemmas.List.Sums.{AllPass-from_list_all, list_all-from_AllPass}
use Rattle.httparse.specs.Grammar.{ChunkLine, ReadsChunkLine, HasNoChunkLine, NeverHasChunkLine, MayBecomeChunkLine, print_chunk_line, print_extension, chunk_size, is_ows, is_extension_byte, IsExtension}
use Rattle.http_model.specs.Bytes.{is_blank, hex_value, hex_digit_value}
use Rattle.http_model.specs.Reading.{Reading, Whole, Partial, Bad, Fault, BadChunk, Stays}
use Rattle.http_model.specs.Lines.{line, before, ChunkShape, InSize, InBlanks, InExtension, AtCr, NoChunk, chunk_shape, size_ends, chunk_by_line, chunk_by_part, chunk_line_at, chunk_line_limit, chunk_line}
use Rattle.h1_read.proofs.ByLimit.{lt-leb}
use Rattle.h1_read.proofs.Kept.{IsLocal, limited_local, partial_short}
use Rattle.std.proofs.lemmas.List.{append_cancel_right}
use Rattle.http_model.proofs.LinesStable.{chunk_shape-append, chunk_line_at-stays}

-- Lines

abbrev no_lf : List ℕ → Bool
no_lf bytes = list_all (λ b. not (b == 10)) bytes

line_whole : (l rest : List ℕ) → no_lf l ≡ true → line (l ++ 10 ∷ rest) ≡ Whole l rest
line_whole [] rest e = refl
line_whole (b ∷ l) rest e = by (b == 10) (line_whole l rest) e
  where
    by : (c : Bool) → (no_lf l ≡ true → line (l ++ 10 ∷ rest) ≡ Whole l rest) → (not c && no_lf l) ≡ true
        → ◌≡◌ {A = Reading (List ℕ)} (elim c [ true ↦ Whole [] (l ++ 10 ∷ rest) | false ↦ before b (line (l ++ 10 ∷ rest)) ]) (Whole (b ∷ l) rest)
    by true k e = absurd cc
    by false k e = ap (before b) (k e)

abbrev IsLine : List ℕ → List ℕ → List ℕ → Type 0
IsLine buf l rest = (buf ≡ l ++ 10 ∷ rest) × (no_lf l ≡ true)

line_is : (buf l rest : List ℕ) → line buf ≡ Whole l rest → IsLine buf l rest
line_is [] l rest e = absurd cc
line_is (b ∷ buf) l rest e = by (b == 10) refl (line_is buf) e
  where
    onward : (r : Reading (List ℕ)) → line buf ≡ r → (b == 10) ≡ false → ((l rest : List ℕ) → line buf ≡ Whole l rest → IsLine buf l rest)
        → before b r ≡ Whole l rest → IsLine (b ∷ buf) l rest
    onward (Whole m others) h g k e =
        let inner : IsLine buf m others = k m others h in
        let same : b ∷ m ≡ l = cc in
        let rests : others ≡ rest = cc in (
          subst (λ x. b ∷ buf ≡ x ++ 10 ∷ rest) same (subst (λ x. b ∷ buf ≡ b ∷ (m ++ 10 ∷ x)) rests (ap (λ x. b ∷ x) inner.0)),
          subst (λ x. no_lf x ≡ true) same (rw g inner.1),
        )
    onward Partial h g k e = absurd cc
    onward (Bad f) h g k e = absurd cc

    by : (c : Bool) → (b == 10) ≡ c → ((l rest : List ℕ) → line buf ≡ Whole l rest → IsLine buf l rest)
        → ◌≡◌ {A = Reading (List ℕ)} (elim c [ true ↦ Whole [] buf | false ↦ before b (line buf) ]) (Whole l rest) → IsLine (b ∷ buf) l rest
    by true g k e =
        let none : [] ≡ l = cc in
        let rests : buf ≡ rest = cc in
        let lf : b ≡ 10 = eqb-true b 10 g in
        (subst (λ x. b ∷ buf ≡ x ++ 10 ∷ rest) none (rw (lf, rests) refl), subst (λ x. no_lf x ≡ true) none refl)
    by false g k e = onward (line buf) refl g k e

line_partial : (buf : List ℕ) → line buf ≡ Partial → no_lf buf ≡ true
line_partial [] e = refl
line_partial (b ∷ buf) e = by (b == 10) (line_partial buf) e
  where
    before_is : (r : Reading (List ℕ)) → before b r ≡ Partial → r ≡ Partial
    before_is (Whole l rest) e = absurd cc
    before_is Partial e = refl
    before_is (Bad f) e = absurd cc

    by : (c : Bool) → (line buf ≡ Partial → no_lf buf ≡ true)
        → ◌≡◌ {A = Reading (List ℕ)} (elim c [ true ↦ Whole [] buf | false ↦ before b (line buf) ]) Partial → (not c && no_lf buf) ≡ true
    by true k e = absurd cc
    by false k e = k (before_is (line buf) e)

-- Tests of bytes

both : (x y : Bool) → (x && y) ≡ true → (x ≡ true) × (y ≡ true)
both true y e = (refl, e)
both false y e = absurd cc

and_both : {x y : Bool} → x ≡ true → y ≡ true → (x && y) ≡ true
and_both {x} {y} e g = rw (e, g) refl

no_lf-append : (xs ys : List ℕ) → no_lf xs ≡ true → no_lf ys ≡ true → no_lf (xs ++ ys) ≡ true
no_lf-append [] ys e g = g
no_lf-append (x ∷ xs) ys e g =
    let parts = both (not (x == 10)) (no_lf xs) e in
    and_both parts.0 (no_lf-append xs ys parts.1 g)

-- what passes such a test is no LF
without_lf : (test : ℕ → Bool) (bytes : List ℕ) → test 10 ≡ false → list_all test bytes ≡ true → no_lf bytes ≡ true
without_lf test [] none e = refl
without_lf test (b ∷ bytes) none e =
    let parts = both (test b) (list_all test bytes) e in
    and_both (by (b == 10) refl parts.0) (without_lf test bytes none parts.1)
  where
    by : (c : Bool) → (b == 10) ≡ c → test b ≡ true → not c ≡ true
    by true g h = absurd (true≢false (sym h ∙ ap test (eqb-true b 10 g) ∙ none))
    by false g h = refl

-- Whole lines, from the grammar

-- the digits of the size
sized : (n : ℕ) (ds more : List ℕ) → list_all is_ascii_hexdigit ds ≡ true → n + length ds ≤ 16
    → chunk_shape (InSize n) (ds ++ more) ≡ chunk_shape (InSize (n + length ds)) more
sized n [] more e h = ap (λ k. chunk_shape (InSize k) more) (sym (add-zero n))
sized n (d ∷ ds) more e h =
    let parts = both (is_ascii_hexdigit d) (list_all is_ascii_hexdigit ds) e in
    by (is_ascii_hexdigit d) (nat_lt n 16) parts.0 (lt-ltb n 16 (omega (arith, h)))
    ∙ sized (suc n) ds more parts.1 (omega (arith, h))
    ∙ ap (λ k. chunk_shape (InSize k) more) (plus n (length ds))
  where
    plus : (n k : ℕ) → suc n + k ≡ n + suc k
    plus n k = omega arith

    by : (x y : Bool) → x ≡ true → y ≡ true
        → chunk_shape (if x then (if y then InSize (suc n) else NoChunk) else (if n == 0 then NoChunk else size_ends d)) (ds ++ more) ≡ chunk_shape (InSize (suc n)) (ds ++ more)
    by true true e g = refl
    by true false e g = absurd cc
    by false y e g = absurd cc

blank_shape : (pad more : List ℕ) → list_all is_ows pad ≡ true → chunk_shape InBlanks (pad ++ more) ≡ chunk_shape InBlanks more
blank_shape [] more e = refl
blank_shape (b ∷ pad) more e =
    let parts = both (is_ows b) (list_all is_ows pad) e in
    by (is_blank b) parts.0 ∙ blank_shape pad more parts.1
  where
    by : (x : Bool) → x ≡ true → chunk_shape (if x then InBlanks else (if b == 59 then InExtension else (if b == 13 then AtCr else NoChunk))) (pad ++ more) ≡ chunk_shape InBlanks (pad ++ more)
    by true e = refl
    by false e = absurd cc

text_shape : (text : List ℕ) → list_all is_extension_byte text ≡ true → chunk_shape InExtension (text ++ 13 ∷ []) ≡ AtCr
text_shape [] e = refl
text_shape (b ∷ text) e =
    let parts = both (is_extension_byte b) (list_all is_extension_byte text) e in
    by (b == 13) (b == 10) parts.0 (text_shape text parts.1)
  where
    by : (x y : Bool) → not (x || y) ≡ true → chunk_shape InExtension (text ++ 13 ∷ []) ≡ AtCr
        → chunk_shape (if x then AtCr else InExtension) (text ++ 13 ∷ []) ≡ AtCr
    by true y e k = absurd cc
    by false y e k = k

abbrev pub extension_passes : Option (List ℕ) → Bool
extension_passes None = true
extension_passes (Some text) = list_all is_extension_byte text

end_shape : (x : Option (List ℕ)) → extension_passes x ≡ true → chunk_shape InBlanks (print_extension x ++ 13 ∷ []) ≡ AtCr
end_shape None e = refl
end_shape (Some text) e = text_shape text e

-- no digit begins it
abbrev ends_size : List ℕ → Bool
ends_size [] = false
ends_size (b ∷ bytes) = not (is_ascii_hexdigit b)

-- behind the size and its blanks
abbrev pub end_of : List ℕ → Option (List ℕ) → List ℕ
end_of pad x = pad ++ (print_extension x ++ 13 ∷ [])

blank_no_digit : (b : ℕ) → is_ows b ≡ true → not (is_ascii_hexdigit b) ≡ true
blank_no_digit b e = by (b == 32) (b == 9) refl refl e
  where
    by : (x y : Bool) → (b == 32) ≡ x → (b == 9) ≡ y → (x || y) ≡ true → not (is_ascii_hexdigit b) ≡ true
    by true y g h e = ap (λ c. not (is_ascii_hexdigit c)) (eqb-true b 32 g)
    by false true g h e = ap (λ c. not (is_ascii_hexdigit c)) (eqb-true b 9 h)
    by false false g h e = absurd cc

end_ends : (pad : List ℕ) (x : Option (List ℕ)) → list_all is_ows pad ≡ true → ends_size (end_of pad x) ≡ true
end_ends [] None e = refl
end_ends [] (Some text) e = refl
end_ends (b ∷ pad) x e = blank_no_digit b (both (is_ows b) (list_all is_ows pad) e).0

behind_size : (n : ℕ) (bytes : List ℕ) → 0 < n → ends_size bytes ≡ true → chunk_shape (InSize n) bytes ≡ chunk_shape InBlanks bytes
behind_size n [] h e = absurd cc
behind_size n (b ∷ bytes) h e = by (is_ascii_hexdigit b) (n == 0) refl e
  where
    not_zero : n ≡ 0 → ⊥
    not_zero g = omega (arith, h, g)

    by : (x y : Bool) → (n == 0) ≡ y → not x ≡ true
        → chunk_shape (if x then (if nat_lt n 16 then InSize (suc n) else NoChunk) else (if y then NoChunk else size_ends b)) bytes ≡ chunk_shape (size_ends b) bytes
    by true y g e = absurd cc
    by false true g e = absurd (not_zero (eqb-true n 0 g))
    by false false g e = refl

-- The size

abbrev pub InRange : ℕ → ℕ → ℕ → Type 0
InRange low high d = (low ≤ d) × (d ≤ high)

pub in_range : (low high d : ℕ) → (nat_le low d && nat_le d high) ≡ true → InRange low high d
in_range low high d e =
    let parts = both (nat_le low d) (nat_le d high) e in
    (leb-true low d parts.0, leb-true d high parts.1)

either : (x y : Bool) → (x || y) ≡ true → (x ≡ true) ⊎ (y ≡ true)
either true y e = inl refl
either false y e = inr e

pub value_same : (d : ℕ) → is_ascii_hexdigit d ≡ true → hex_digit_value d ≡ digit_value d
value_same d e = by (either ((nat_le 48 d && nat_le d 57) || (nat_le 65 d && nat_le d 70)) (nat_le 97 d && nat_le d 102) e)
  where
    decimal : InRange 48 57 d → hex_digit_value d ≡ digit_value d
    decimal r = rw (le-leb d 57 r.1, le-ltb d 48 r.0, lt-ltb d 58 (omega (arith, r.1))) refl

    capital : InRange 65 70 d → hex_digit_value d ≡ digit_value d
    capital r =
        rw (lt-leb 57 d (omega (arith, r.0)), le-leb d 70 r.1, le-ltb d 48 (omega (arith, r.0)), le-ltb d 58 (omega (arith, r.0)), le-ltb d 65 r.0, lt-ltb d 91 (omega (arith, r.1))) refl

    small : InRange 97 102 d → hex_digit_value d ≡ digit_value d
    small r =
        rw (lt-leb 57 d (omega (arith, r.0)), lt-leb 70 d (omega (arith, r.0)), le-ltb d 48 (omega (arith, r.0)), le-ltb d 58 (omega (arith, r.0)), le-ltb d 65 (omega (arith, r.0)), le-ltb d 91 (omega (arith, r.0)), le-ltb d 97 r.0, lt-ltb d 123 (omega (arith, r.1))) refl

    by : (((nat_le 48 d && nat_le d 57) || (nat_le 65 d && nat_le d 70)) ≡ true) ⊎ ((nat_le 97 d && nat_le d 102) ≡ true) → hex_digit_value d ≡ digit_value d
    by (inl h) = elim (either (nat_le 48 d && nat_le d 57) (nat_le 65 d && nat_le d 70) h) [
      | inl g ↦ decimal (in_range 48 57 d g)
      | inr g ↦ capital (in_range 65 70 d g)
    ]
    by (inr h) = small (in_range 97 102 d h)

size_same : (n : ℕ) (ds more : List ℕ) → list_all is_ascii_hexdigit ds ≡ true → ends_size more ≡ true → hex_value n (ds ++ more) ≡ digits_value_after 16 n ds
size_same n [] [] e g = absurd cc
size_same n [] (b ∷ more) e g = by (is_ascii_hexdigit b) g
  where
    by : (x : Bool) → not x ≡ true → (if x then hex_value (16 * n + hex_digit_value b) more else n) ≡ n
    by true e = absurd cc
    by false e = refl
size_same n (d ∷ ds) more e g =
    let parts = both (is_ascii_hexdigit d) (list_all is_ascii_hexdigit ds) e in
    by (is_ascii_hexdigit d) parts.0
    ∙ ap (λ k. hex_value k (ds ++ more)) (times n (hex_digit_value d) (digit_value d) (value_same d parts.0))
    ∙ size_same (n * 16 + digit_value d) ds more parts.1 g
  where
    times : (n v w : ℕ) → v ≡ w → 16 * n + v ≡ n * 16 + w
    times n v w e = omega (arith, e)

    by : (x : Bool) → x ≡ true → (if x then hex_value (16 * n + hex_digit_value d) (ds ++ more) else n) ≡ hex_value (16 * n + hex_digit_value d) (ds ++ more)
    by true e = refl
    by false e = absurd cc

-- A line of the grammar is read

pub parts_read : (ds pad : List ℕ) (x : Option (List ℕ)) (rest : List ℕ) → 0 < length ds → length ds ≤ 16 → list_all is_ascii_hexdigit ds ≡ true
    → list_all is_ows pad ≡ true → extension_passes x ≡ true
    → chunk_line_at ((ds ++ end_of pad x) ++ 10 ∷ rest) (line ((ds ++ end_of pad x) ++ 10 ∷ rest)) ≡ Whole (digits_value 16 ds) rest
parts_read ds pad x rest some few digits blanks extension =
    ap (chunk_line_at ((ds ++ end_of pad x) ++ 10 ∷ rest)) (line_whole (ds ++ end_of pad x) rest clean)
    ∙ ap (λ s. chunk_by_line s (ds ++ end_of pad x) rest) shape
    ∙ ap (λ n. Whole n rest) (size_same 0 ds (end_of pad x) digits ends)
  where
    ends : ends_size (end_of pad x) ≡ true
    ends = end_ends pad x blanks

    text_clean : (y : Option (List ℕ)) → extension_passes y ≡ true → no_lf (print_extension y) ≡ true
    text_clean None e = refl
    text_clean (Some text) e = without_lf is_extension_byte text refl e

    clean : no_lf (ds ++ end_of pad x) ≡ true
    clean = no_lf-append ds (end_of pad x) (without_lf is_ascii_hexdigit ds refl digits)
        (no_lf-append pad (print_extension x ++ 13 ∷ []) (without_lf is_ows pad refl blanks)
        (no_lf-append (print_extension x) (13 ∷ []) (text_clean x extension) refl))

    shape : chunk_shape (InSize 0) (ds ++ end_of pad x) ≡ AtCr
    shape =
        sized 0 ds (end_of pad x) digits (omega (arith, few))
        ∙ behind_size (0 + length ds) (end_of pad x) (omega (arith, some)) ends
        ∙ blank_shape pad (print_extension x ++ 13 ∷ []) blanks
        ∙ end_shape x extension

-- how the grammar prints such a line
printed : (ds pad : List ℕ) (x : Option (List ℕ)) (rest : List ℕ)
    → print_chunk_line (record { digits = ds; pad = pad; extension = x }) ++ rest ≡ (ds ++ end_of pad x) ++ 10 ∷ rest
unfolding print_chunk_line
printed ds pad x rest = simp append_assoc

passes : (x : Option (List ℕ)) → IsExtension x → extension_passes x ≡ true
passes None e = refl
passes (Some text) e = list_all-from_AllPass is_extension_byte text e

is_extension : (x : Option (List ℕ)) → extension_passes x ≡ true → IsExtension x
is_extension None e = tt
is_extension (Some text) e = AllPass-from_list_all is_extension_byte text e

pub found : (buf : List ℕ) (l : ChunkLine) (rest : List ℕ) → ReadsChunkLine buf l rest → chunk_line_at buf (line buf) ≡ Whole (chunk_size l) rest
found buf l rest r =
    subst (λ b. chunk_line_at b (line b) ≡ Whole (chunk_size l) rest) (sym (r.1 ∙ printed l.digits l.pad l.extension rest))
    (parts_read l.digits l.pad l.extension rest r.0.digits.0 r.0.digits.1 (list_all-from_AllPass is_ascii_hexdigit l.digits r.0.digits.2)
    (list_all-from_AllPass is_ows l.pad r.0.pad) (passes l.extension r.0.extension))

-- What is read is a line of the grammar

behind_cr : (l : List ℕ) → chunk_shape AtCr l ≡ AtCr → l ≡ []
behind_cr [] e = refl
behind_cr (b ∷ l) e = absurd (never l e)
  where
    never : (l : List ℕ) → chunk_shape NoChunk l ≡ AtCr → ⊥
    never [] e = cc
    never (b ∷ l) e = never l e

never_chunk : (l : List ℕ) → chunk_shape NoChunk l ≡ AtCr → ⊥
never_chunk [] e = cc
never_chunk (b ∷ l) e = never_chunk l e

record Text (l : List ℕ) : Type 0 where
  text : List ℕ
  passes : list_all is_extension_byte text ≡ true
  whole : l ≡ text ++ 13 ∷ []

none : (y : Bool) → not y ≡ true → y ≡ false
none true e = absurd cc
none false e = refl

text_back : (l : List ℕ) → no_lf l ≡ true → chunk_shape InExtension l ≡ AtCr → Text l
text_back [] clean e = absurd cc
text_back (b ∷ l) clean e =
    let parts = both (not (b == 10)) (no_lf l) clean in
    by (b == 13) refl parts.0 (text_back l parts.1) e
  where
    by : (x : Bool) → (b == 13) ≡ x → not (b == 10) ≡ true → (chunk_shape InExtension l ≡ AtCr → Text l)
        → chunk_shape (if x then AtCr else InExtension) l ≡ AtCr → Text (b ∷ l)
    by true g h k e = record { text = []; passes = refl; whole = rw (eqb-true b 13 g, behind_cr l e) refl }
    by false g h k e =
        let t : Text l = k e in
        record { text = b ∷ t.text; passes = and_both (rw (g, none (b == 10) h) refl) t.passes; whole = ap (λ m. b ∷ m) t.whole }

record Tail (l : List ℕ) : Type 0 where
  pad : List ℕ
  extension : Option (List ℕ)
  blanks : list_all is_ows pad ≡ true
  passes : extension_passes extension ≡ true
  whole : l ≡ end_of pad extension

tail_back : (l : List ℕ) → no_lf l ≡ true → chunk_shape InBlanks l ≡ AtCr → Tail l
tail_back [] clean e = absurd cc
tail_back (b ∷ l) clean e =
    let parts = both (not (b == 10)) (no_lf l) clean in
    by (is_blank b) refl (b == 59) refl (b == 13) refl (tail_back l parts.1) e
  where
    by : (x : Bool) → is_blank b ≡ x → (y : Bool) → (b == 59) ≡ y → (z : Bool) → (b == 13) ≡ z → (chunk_shape InBlanks l ≡ AtCr → Tail l)
        → chunk_shape (if x then InBlanks else (if y then InExtension else (if z then AtCr else NoChunk))) l ≡ AtCr → Tail (b ∷ l)
    by true f y g z h k e =
        let t : Tail l = k e in
        record { pad = b ∷ t.pad; extension = t.extension; blanks = and_both f t.blanks; passes = t.passes; whole = ap (λ m. b ∷ m) t.whole }
    by false f true g z h k e =
        let t : Text l = text_back l (both (not (b == 10)) (no_lf l) clean).1 e in
        record { pad = []; extension = Some t.text; blanks = refl; passes = t.passes; whole = subst (λ c. b ∷ l ≡ c ∷ (t.text ++ 13 ∷ [])) (eqb-true b 59 g) (ap (λ m. b ∷ m) t.whole) }
    by false f false g true h k e =
        record { pad = []; extension = None; blanks = refl; passes = refl; whole = rw (eqb-true b 13 h, behind_cr l e) refl }
    by false f false g false h k e = absurd (never_chunk l e)

record Sized (n : ℕ) (l : List ℕ) : Type 0 where
  digits : List ℕ
  pad : List ℕ
  extension : Option (List ℕ)
  some : 0 < n + length digits
  few : n + length digits ≤ 16
  hex : list_all is_ascii_hexdigit digits ≡ true
  blanks : list_all is_ows pad ≡ true
  passes : extension_passes extension ≡ true
  whole : l ≡ digits ++ end_of pad extension

-- behind the last digit
sized_tail : (n : ℕ) (l : List ℕ) → 0 < n → n ≤ 16 → Tail l → Sized n l
sized_tail n l h k t = record {
  digits = [];
  pad = t.pad;
  extension = t.extension;
  some = omega (arith, h);
  few = omega (arith, k);
  hex = refl;
  blanks = t.blanks;
  passes = t.passes;
  whole = t.whole;
}

sized_back : (n : ℕ) (l : List ℕ) → n ≤ 16 → no_lf l ≡ true → chunk_shape (InSize n) l ≡ AtCr → Sized n l
sized_back n [] h clean e = absurd cc
sized_back n (b ∷ l) h clean e =
    let parts = both (not (b == 10)) (no_lf l) clean in
    by (is_ascii_hexdigit b) refl (nat_lt n 16) refl (n == 0) refl (λ k. sized_back (suc n) l k parts.1) e
  where
    positive : (n : ℕ) → (n ≡ 0 → ⊥) → 0 < n
    positive n e = omega (arith, e)

    more : is_ascii_hexdigit b ≡ true → Sized (suc n) l → Sized n (b ∷ l)
    more f s = record {
      digits = b ∷ s.digits;
      pad = s.pad;
      extension = s.extension;
      some = omega (arith, s.some);
      few = omega (arith, s.few);
      hex = and_both f s.hex;
      blanks = s.blanks;
      passes = s.passes;
      whole = ap (λ m. b ∷ m) s.whole;
    }

    by : (x : Bool) → is_ascii_hexdigit b ≡ x → (y : Bool) → nat_lt n 16 ≡ y → (z : Bool) → (n == 0) ≡ z
        → (suc n ≤ 16 → chunk_shape (InSize (suc n)) l ≡ AtCr → Sized (suc n) l)
        → chunk_shape (if x then (if y then InSize (suc n) else NoChunk) else (if z then NoChunk else size_ends b)) l ≡ AtCr → Sized n (b ∷ l)
    by true f true g z i k e = more f (k (omega (arith, ltb-true n 16 g)) e)
    by true f false g z i k e = absurd (never_chunk l e)
    by false f y g true i k e = absurd (never_chunk l e)
    by false f y g false i k e = sized_tail n (b ∷ l) (positive n (eqb-false n 0 i)) h (tail_back (b ∷ l) clean e)

spelled : (l rest : List ℕ) → no_lf l ≡ true → chunk_shape (InSize 0) l ≡ AtCr → (k : ChunkLine) × ReadsChunkLine (l ++ 10 ∷ rest) k rest
spelled l rest clean e =
    let s : Sized 0 l = sized_back 0 l (omega arith) clean e in
    let k : ChunkLine = record { digits = s.digits; pad = s.pad; extension = s.extension } in (
      k,
      (
        record {
          digits = (omega (arith, s.some), omega (arith, s.few), AllPass-from_list_all is_ascii_hexdigit s.digits s.hex);
          pad = AllPass-from_list_all is_ows s.pad s.blanks;
          extension = is_extension s.extension s.passes;
        },
        ap (λ m. m ++ 10 ∷ rest) s.whole ∙ sym (printed s.digits s.pad s.extension rest),
      ),
    )

pub there : (buf : List ℕ) (size : ℕ) (rest : List ℕ) → chunk_line_at buf (line buf) ≡ Whole size rest → (k : ChunkLine) × ReadsChunkLine buf k rest
there buf size rest e = by (line buf) refl e
  where
    at_end : (s : ChunkShape) (l others : List ℕ) → chunk_by_line s l others ≡ Whole size rest → (s ≡ AtCr) × (others ≡ rest)
    at_end AtCr l others e = (refl, cc)
    at_end (InSize n) l others e = absurd cc
    at_end InBlanks l others e = absurd cc
    at_end InExtension l others e = absurd cc
    at_end NoChunk l others e = absurd cc

    no_part : (s : ChunkShape) → chunk_by_part s ≡ Whole size rest → ⊥
    no_part AtCr e = cc
    no_part (InSize n) e = cc
    no_part InBlanks e = cc
    no_part InExtension e = cc
    no_part NoChunk e = cc

    by : (r : Reading (List ℕ)) → line buf ≡ r → chunk_line_at buf r ≡ Whole size rest → (k : ChunkLine) × ReadsChunkLine buf k rest
    by (Whole l others) g e =
        let shape : (chunk_shape (InSize 0) l ≡ AtCr) × (others ≡ rest) = at_end (chunk_shape (InSize 0) l) l others e in
        let is : IsLine buf l others = line_is buf l others g in
        subst (λ b. (k : ChunkLine) × ReadsChunkLine b k rest) (sym (is.0 ∙ ap (λ r. l ++ 10 ∷ r) shape.1)) (spelled l rest is.1 shape.0)
    by Partial g e = absurd (no_part (chunk_shape (InSize 0) buf) e)
    by (Bad f) g e = absurd cc

-- What may become a line of the grammar

abbrev ending : ChunkShape → List ℕ
ending (InSize n) = if n == 0 then 48 ∷ 13 ∷ [] else 13 ∷ []
ending InBlanks = 13 ∷ []
ending InExtension = 13 ∷ []
ending AtCr = []
ending NoChunk = []

ending_clean : (s : ChunkShape) → no_lf (ending s) ≡ true
ending_clean (InSize n) = by (n == 0)
  where
    by : (x : Bool) → no_lf (if x then 48 ∷ 13 ∷ [] else 13 ∷ []) ≡ true
    by true = refl
    by false = refl
ending_clean InBlanks = refl
ending_clean InExtension = refl
ending_clean AtCr = refl
ending_clean NoChunk = refl

ends : (s : ChunkShape) → chunk_by_part s ≡ Partial → chunk_shape s (ending s) ≡ AtCr
ends (InSize n) e = by (n == 0) refl
  where
    behind : (x : Bool) → (n == 0) ≡ x → x ≡ false → chunk_shape (InSize n) (13 ∷ []) ≡ AtCr
    behind true g h = absurd cc
    behind false g h = rw g refl

    by : (x : Bool) → (n == 0) ≡ x → chunk_shape (InSize n) (if x then 48 ∷ 13 ∷ [] else 13 ∷ []) ≡ AtCr
    by true g = rw (eqb-true n 0 g) refl
    by false g = behind false g refl
ends InBlanks e = refl
ends InExtension e = refl
ends AtCr e = refl
ends NoChunk e = absurd cc

pub awaits : (buf : List ℕ) → chunk_line_at buf (line buf) ≡ Partial → (more : List ℕ) × (k : ChunkLine) × ReadsChunkLine (buf ++ more) k []
awaits buf e = by (line buf) refl e
  where
    no_line : (s : ChunkShape) (l rest : List ℕ) → chunk_by_line s l rest ≡ Partial → ⊥
    no_line AtCr l rest e = cc
    no_line (InSize n) l rest e = cc
    no_line InBlanks l rest e = cc
    no_line InExtension l rest e = cc
    no_line NoChunk l rest e = cc

    ended : (s : ChunkShape) → chunk_shape (InSize 0) buf ≡ s → line buf ≡ Partial → chunk_by_part s ≡ Partial
        → (k : ChunkLine) × ReadsChunkLine ((buf ++ ending s) ++ 10 ∷ []) k []
    ended s g h e =
        spelled (buf ++ ending s) [] (no_lf-append buf (ending s) (line_partial buf h) (ending_clean s))
        (chunk_shape-append (InSize 0) buf (ending s) ∙ ap (λ x. chunk_shape x (ending s)) g ∙ ends s e)

    by : (r : Reading (List ℕ)) → line buf ≡ r → chunk_line_at buf r ≡ Partial → (more : List ℕ) × (k : ChunkLine) × ReadsChunkLine (buf ++ more) k []
    by (Whole l rest) g e = absurd (no_line (chunk_shape (InSize 0) l) l rest e)
    by Partial g e =
        let s : ChunkShape = chunk_shape (InSize 0) buf in
        let k : (k : ChunkLine) × ReadsChunkLine ((buf ++ ending s) ++ 10 ∷ []) k [] = ended s refl g e in
        (ending s ++ 10 ∷ [], k.0, subst (λ b. ReadsChunkLine b k.0 []) (append_assoc buf (ending s) (10 ∷ [])) k.1)
    by (Bad f) g e = absurd cc

-- What a parser by the grammar answers

pub none_yet : (buf : List ℕ) → HasNoChunkLine buf → MayBecomeChunkLine buf → chunk_line_at buf (line buf) ≡ Partial
none_yet buf none may = by (chunk_line_at buf (line buf)) refl (chunk_line_at-stays buf may.0)
  where
    later : chunk_line_at (buf ++ may.0) (line (buf ++ may.0)) ≡ Whole (chunk_size may.1) []
    later = found (buf ++ may.0) may.1 [] may.2

    by : (r : Reading ℕ) → chunk_line_at buf (line buf) ≡ r → Stays r may.0 (chunk_line_at (buf ++ may.0) (line (buf ++ may.0))) → r ≡ Partial
    by (Whole size rest) e g = let k = there buf size rest e in absurd (none k.0 rest k.1)
    by Partial e g = refl
    by (Bad f) e g = absurd (apart (sym later ∙ g))
      where
        apart : ◌≡◌ {A = Reading ℕ} (Whole (chunk_size may.1) []) (Bad f) → ⊥
        apart e = cc

pub never_any : (buf : List ℕ) → NeverHasChunkLine buf → chunk_line_at buf (line buf) ≡ Bad BadChunk
never_any buf never = by (line buf) refl (chunk_line_at buf (line buf)) refl
  where
    no_line : (bytes : List ℕ) (f : Fault) → line bytes ≡ Bad f → ⊥
    no_line [] f e = cc
    no_line (b ∷ bytes) f e = at (b == 10) (line bytes) (no_line bytes f) e
      where
        at : (c : Bool) (r : Reading (List ℕ)) → (r ≡ Bad f → ⊥) → ◌≡◌ {A = Reading (List ℕ)} (elim c [ true ↦ Whole [] bytes | false ↦ before b r ]) (Bad f) → ⊥
        at true r k e = cc
        at false (Whole l rest) k e = cc
        at false Partial k e = cc
        at false (Bad g) k e = k cc

    bad_line : (s : ChunkShape) (l rest : List ℕ) (f : Fault) → chunk_by_line s l rest ≡ Bad f → f ≡ BadChunk
    bad_line AtCr l rest f e = absurd cc
    bad_line (InSize n) l rest f e = cc
    bad_line InBlanks l rest f e = cc
    bad_line InExtension l rest f e = cc
    bad_line NoChunk l rest f e = cc

    bad_part : (s : ChunkShape) (f : Fault) → chunk_by_part s ≡ Bad f → f ≡ BadChunk
    bad_part AtCr f e = absurd cc
    bad_part (InSize n) f e = absurd cc
    bad_part InBlanks f e = absurd cc
    bad_part InExtension f e = absurd cc
    bad_part NoChunk f e = cc

    bad_is : (r : Reading (List ℕ)) → line buf ≡ r → (f : Fault) → chunk_line_at buf r ≡ Bad f → f ≡ BadChunk
    bad_is (Whole l rest) g f e = bad_line (chunk_shape (InSize 0) l) l rest f e
    bad_is Partial g f e = bad_part (chunk_shape (InSize 0) buf) f e
    bad_is (Bad h) g f e = absurd (no_line buf h g)

    by : (r : Reading (List ℕ)) → line buf ≡ r → (x : Reading ℕ) → chunk_line_at buf (line buf) ≡ x → x ≡ Bad BadChunk
    by r g (Whole size rest) e = let k = there buf size rest e in absurd (never [] k.0 rest (rw append-nil k.1))
    by r g Partial e = let k = awaits buf e in absurd (never k.0 k.1 [] k.2)
    by r g (Bad f) e = ap Bad (bad_is (line buf) refl f e)

-- A line depends on its bytes alone

pub chunk_local : IsLocal (λ front. chunk_line_at front (line front))
chunk_local xs ys zs size e =
    let k = there (xs ++ ys) size ys e in
    let printed_is : xs ≡ print_chunk_line k.0 = append_cancel_right xs (print_chunk_line k.0) ys k.1.1 in
    let same : Whole (chunk_size k.0) ys ≡ Whole size ys = sym (found (xs ++ ys) k.0 ys k.1) ∙ e in
    let sizes : chunk_size k.0 ≡ size = cc in
    found (xs ++ zs) k.0 zs (k.1.0, ap (λ l. l ++ zs) printed_is) ∙ ap (λ n. Whole n zs) sizes

pub line_local : IsLocal chunk_line
unfolding chunk_line
line_local = limited_local chunk_line_limit BadChunk (λ front. chunk_line_at front (line front)) chunk_local

pub line_short : (bytes : List ℕ) → chunk_line bytes ≡ Partial → length bytes < 4096
unfolding chunk_line
line_short bytes e = partial_short chunk_line_limit BadChunk (λ front. chunk_line_at front (line front)) bytes e
