-- Where the bytes of an unfinished chunk line end, byte by byte.
use Rattle.std.specs.Prelude.{ℕ, ◌≡◌, ◌<◌, ◌≤◌, ◌+◌, Bool, true, false, if◌then◌else◌, List, [], ◌∷◌, length, ◌==◌, nat_lt}
use Rattle.std.specs.Char.{is_ascii_hexdigit}
use Rattle.http_model.specs.Bytes.{is_blank}
use Rattle.http_model.specs.Lines.{chunk_line_limit}
use Rattle.h1_read.specs.declared.chunk_line.ChunkPlace.{ChunkPlace}
use Rattle.h1_read.specs.declared.chunk_line.ChunkPlace.TheVariants.{Size, Blanks, Extension, Cr, Over}
use Rattle.h1_read.specs.declared.chunk_line.ChunkScan.{ChunkScan}
use Rattle.h1_read.specs.declared.chunk_line.ChunkScan.TheVariants.{On, Until}

-- behind the size
abbrev pub size_over : ℕ → ChunkPlace
size_over b = if is_blank b then Blanks else (if b == 59 then Extension else (if b == 13 then Cr else Over))

abbrev pub digit_on : ℕ → ℕ → ChunkPlace
digit_on n b =
    if is_ascii_hexdigit b then (if nat_lt n 16 then Size (n + 1) else Over) else (if n == 0 then Over else size_over b)

abbrev pub extension_on : ℕ → ChunkPlace
extension_on b = if b == 13 then Cr else (if b == 10 then Over else Extension)

-- one byte on
abbrev pub chunk_on : ChunkPlace → ℕ → ChunkPlace
chunk_on (Size n) b = digit_on n b
chunk_on Blanks b = size_over b
chunk_on Extension b = extension_on b
chunk_on Cr b = Over
chunk_on Over b = Over

-- where bytes behind a place end
abbrev pub chunk_places : ChunkPlace → List ℕ → ChunkPlace
chunk_places p [] = p
chunk_places p (b ∷ bytes) = chunk_places (chunk_on p b) bytes

abbrev pub is_over : ChunkPlace → Bool
is_over Over = true
is_over _ = false

pub record GoesOn (p : ChunkPlace) (bytes : List ℕ) (now : ChunkPlace) : Type 0 where
  pub ends : now ≡ chunk_places p bytes
  pub not_over : is_over now ≡ false

abbrev pub IsChunkScan : ChunkPlace → List ℕ → ChunkScan → Type 0
IsChunkScan p bytes (On now) = GoesOn p bytes now
IsChunkScan p bytes (Until n) = n ≤ length bytes

-- the same within what a line may take, of which so many bytes came before
abbrev pub IsNextOver : ChunkPlace → ℕ → List ℕ → ChunkScan → Type 0
IsNextOver p before bytes (On now) = GoesOn p bytes now × (before + length bytes < chunk_line_limit)
IsNextOver p before bytes (Until n) = n ≤ length bytes
