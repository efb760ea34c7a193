-- Numbers at a place of some bytes, the greatest byte first.
use Rattle.std.specs.Prelude.{ℕ, ◌+◌, List, [], ◌∷◌, slice_index}
use Rattle.std.specs.Int.{w16, w32, from_be_bytes}

abbrev pub u16_at : List ℕ → ℕ → ℕ
u16_at bytes i = from_be_bytes w16 (slice_index bytes i ∷ slice_index bytes (i + 1) ∷ [])

abbrev pub u24_at : List ℕ → ℕ → ℕ
u24_at bytes i = from_be_bytes w32 (0 ∷ slice_index bytes i ∷ slice_index bytes (i + 1) ∷ slice_index bytes (i + 2) ∷ [])

abbrev pub u32_at : List ℕ → ℕ → ℕ
u32_at bytes i = from_be_bytes w32 (slice_index bytes i ∷ slice_index bytes (i + 1) ∷ slice_index bytes (i + 2) ∷ slice_index bytes (i + 3) ∷ [])
