-- Where nothing ends a chunk line or makes it bad, it goes on.
use Rattle.std.proofs.Common.{inl, inr, sym, ◌∙◌, ap, subst, refl, arith, append_assoc, length-append}
use Rattle.std.proofs.lemmas.List.{take-append-drop, drop-append-le}
use Rattle.std.specs.Prelude.{ℕ, suc, ◌≡◌, ◌⊎◌, ◌+◌, ◌<◌, ◌≤◌, Bool, true, false, if◌then◌else◌, List, [], ◌∷◌, ◌++◌, length, take, drop, ◌==◌, nat_lt}
use Rattle.std.specs.Char.{is_ascii_hexdigit}
use Rattle.http_model.specs.Bytes.{is_blank}
use Rattle.http_model.specs.Reading.{Whole, Partial, Bad, BadChunk, Stays}
use Rattle.http_model.specs.Lines.{line, ChunkShape, InSize, InBlanks, InExtension, AtCr, NoChunk, size_ends, chunk_shape, chunk_shape_on, chunk_by_part, chunk_line_at, chunk_line_limit, chunk_line}
use Rattle.http_model.proofs.LinesStable.{chunk_line-stays}
use Rattle.h1_read.specs.declared.chunk_line.ChunkPlace.{ChunkPlace}
use Rattle.h1_read.specs.declared.chunk_line.ChunkPlace.TheVariants.{Size, Blanks, Extension, Cr, Over}
use Rattle.h1_read.specs.ChunkPlaces.{size_over, digit_on, extension_on, chunk_on, chunk_places, is_over, GoesOn}
use Rattle.h1_read.proofs.ByLimit.{limited_short}
use Rattle.h1_read.proofs.Kept.{bad_in_all}
use Rattle.h1_read.proofs.LineParts.{Lacks, line_open}
use Rattle.h1_read.proofs.PlaceLines.{not_lf, other_lf}

-- A part tells the line

parted : (kept bytes : List ℕ) (n : ℕ) → kept ++ bytes ≡ (kept ++ take n bytes) ++ drop n bytes
parted kept bytes n = sym (append_assoc kept (take n bytes) (drop n bytes) ∙ ap (λ l. kept ++ l) (take-append-drop n bytes))

pub whole_from : (kept bytes part : List ℕ) (n used size : ℕ) → part ≡ take n bytes → used ≤ length part → chunk_line (kept ++ part) ≡ Whole size (drop used part)
    → chunk_line (kept ++ bytes) ≡ Whole size (drop used bytes)
whole_from kept bytes part n used size f h e =
    let all : kept ++ bytes ≡ (kept ++ part) ++ drop n bytes = parted kept bytes n ∙ ap (λ l. (kept ++ l) ++ drop n bytes) (sym f) in
    ap chunk_line all
    ∙ subst (λ r. Stays r (drop n bytes) (chunk_line ((kept ++ part) ++ drop n bytes))) e (chunk_line-stays (kept ++ part) (drop n bytes))
    ∙ ap (Whole size) (sym (drop-append-le used part (drop n bytes) h) ∙ ap (drop used) (ap (λ l. l ++ drop n bytes) f ∙ take-append-drop n bytes))

pub bad_from : (kept bytes part : List ℕ) (n : ℕ) → part ≡ take n bytes → chunk_line (kept ++ part) ≡ Bad BadChunk → chunk_line (kept ++ bytes) ≡ Bad BadChunk
bad_from kept bytes part n f e = bad_in_all chunk_line chunk_line-stays kept bytes n BadChunk (ap (λ l. chunk_line (kept ++ l)) (sym f) ∙ e)

-- One byte of a line

abbrev shape_at : ChunkPlace → ChunkShape
shape_at (Size n) = InSize n
shape_at Blanks = InBlanks
shape_at Extension = InExtension
shape_at Cr = AtCr
shape_at Over = NoChunk

-- the line goes on as its shape says, or the parser has to read
record Follows (q : ChunkPlace) (s : ChunkShape) (b : ℕ) : Type 0 where
  other : (b == 10) ≡ false
  same : s ≡ shape_at q

abbrev Moves : ChunkPlace → ChunkShape → ℕ → Type 0
Moves q s b = Follows q s b ⊎ (q ≡ Over)

size_moves : (b : ℕ) → Moves (size_over b) (size_ends b) b
size_moves b = by (is_blank b) (b == 59) (b == 13) refl refl refl
  where
    by : (t u v : Bool) → is_blank b ≡ t → (b == 59) ≡ u → (b == 13) ≡ v
        → Moves (if t then Blanks else (if u then Extension else (if v then Cr else Over))) (if t then InBlanks else (if u then InExtension else (if v then AtCr else NoChunk))) b
    by true u v e f g = inl (record { other = not_lf is_blank refl b e; same = refl })
    by false true v e f g = inl (record { other = other_lf b 59 refl f; same = refl })
    by false false true e f g = inl (record { other = other_lf b 13 refl g; same = refl })
    by false false false e f g = inr refl

digit_moves : (n b : ℕ) → Moves (digit_on n b) (chunk_shape_on (InSize n) b) b
digit_moves n b = by (is_ascii_hexdigit b) (nat_lt n 16) (n == 0) refl
  where
    one : (n : ℕ) → suc n ≡ n + 1
    one n = omega arith

    by : (t u v : Bool) → is_ascii_hexdigit b ≡ t
        → Moves (if t then (if u then Size (n + 1) else Over) else (if v then Over else size_over b)) (if t then (if u then InSize (suc n) else NoChunk) else (if v then NoChunk else size_ends b)) b
    by true true v e = inl (record { other = not_lf is_ascii_hexdigit refl b e; same = ap InSize (one n) })
    by true false v e = inr refl
    by false u true e = inr refl
    by false u false e = size_moves b

extension_moves : (b : ℕ) → Moves (extension_on b) (chunk_shape_on InExtension b) b
extension_moves b = by (b == 13) (b == 10) refl refl
  where
    by : (t u : Bool) → (b == 13) ≡ t → (b == 10) ≡ u → Moves (if t then Cr else (if u then Over else Extension)) (if t then AtCr else InExtension) b
    by true u e f = inl (record { other = other_lf b 13 refl e; same = refl })
    by false true e f = inr refl
    by false false e f = inl (record { other = f; same = refl })

moves : (p : ChunkPlace) (b : ℕ) → Moves (chunk_on p b) (chunk_shape_on (shape_at p) b) b
moves (Size n) b = digit_moves n b
moves Blanks b = size_moves b
moves Extension b = extension_moves b
moves Cr b = inr refl
moves Over b = inr refl

-- All bytes

over : (bytes : List ℕ) → chunk_places Over bytes ≡ Over
over [] = refl
over (b ∷ bytes) = over bytes

record IsPart (p : ChunkPlace) (bytes : List ℕ) : Type 0 where
  lacks : Lacks 10 bytes
  shape : chunk_shape (shape_at p) bytes ≡ shape_at (chunk_places p bytes)

part_of : (p : ChunkPlace) (bytes : List ℕ) → is_over (chunk_places p bytes) ≡ false → IsPart p bytes
part_of p [] e = record { lacks = tt; shape = refl }
part_of p (b ∷ bytes) e = by (moves p b) (part_of (chunk_on p b) bytes e)
  where
    by : Moves (chunk_on p b) (chunk_shape_on (shape_at p) b) b → IsPart (chunk_on p b) bytes → IsPart p (b ∷ bytes)
    by (inl w) k = record { lacks = (w.other, k.lacks); shape = ap (λ s. chunk_shape s bytes) w.same ∙ k.shape }
    by (inr f) k =
        let both : true ≡ false = ap is_over (sym (over bytes) ∙ ap (λ q. chunk_places q bytes) (sym f)) ∙ e in
        absurd cc

pub chunk_places-append : (p : ChunkPlace) (a b : List ℕ) → chunk_places p (a ++ b) ≡ chunk_places (chunk_places p a) b
chunk_places-append p [] b = refl
chunk_places-append p (x ∷ a) b = chunk_places-append (chunk_on p x) a b

part_partial : (p : ChunkPlace) → is_over p ≡ false → chunk_by_part (shape_at p) ≡ Partial
part_partial (Size n) e = refl
part_partial Blanks e = refl
part_partial Extension e = refl
part_partial Cr e = refl
part_partial Over e = absurd cc

line_partial : (bytes : List ℕ) → is_over (chunk_places (Size 0) bytes) ≡ false → chunk_line_at bytes (line bytes) ≡ Partial
line_partial bytes e =
    let w = part_of (Size 0) bytes e in
    ap (chunk_line_at bytes) (line_open bytes w.lacks) ∙ ap chunk_by_part w.shape ∙ part_partial (chunk_places (Size 0) bytes) e

-- what is kept then, and where it ends
pub record IsOn (old bytes all : List ℕ) (now : ChunkPlace) : Type 0 where
  pub begun_still : chunk_line (old ++ bytes) ≡ Partial
  pub begun : chunk_line all ≡ Partial
  pub here : now ≡ chunk_places (Size 0) all

pub line_on : (old bytes all : List ℕ) (place now : ChunkPlace) → place ≡ chunk_places (Size 0) old → GoesOn place bytes now
    → length old + length bytes < 4096 → all ≡ old ++ bytes → IsOn old bytes all now
unfolding chunk_line
line_on old bytes all place now e q h f =
    let at : now ≡ chunk_places (Size 0) (old ++ bytes) = q.ends ∙ ap (λ p. chunk_places p bytes) e ∙ sym (chunk_places-append (Size 0) old bytes) in
    let more : chunk_line (old ++ bytes) ≡ Partial =
    limited_short chunk_line_limit BadChunk (λ front. chunk_line_at front (line front)) (old ++ bytes) (omega (arith, h, length-append old bytes))
    ∙ line_partial (old ++ bytes) (ap is_over (sym at) ∙ q.not_over) in
    record { begun_still = more; begun = ap chunk_line f ∙ more; here = at ∙ ap (chunk_places (Size 0)) (sym f) }
