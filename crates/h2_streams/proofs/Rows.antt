-- The table of connection errors in two parts: the rows before a block is decoded, and those on what it is decoded to.
use Rattle.std.proofs.Common.{◌≡◌, ℕ, Bool, true, false, List, [], ◌∷◌, ◌++◌, Option, Some, None, Ok, Err, refl, ap, ◌∙◌, if◌then◌else◌}
use Rattle.hpack_core.specs.declared.fault.HpackFault.TheVariants.{Prim, Index, TableSize, ListSize, Memory}
use Rattle.h2_frames.specs.declared.frame.Frame.{Frame}
use Rattle.h2_model.specs.Account.{Account}
use Rattle.h2_model.specs.Blocks.{OpenBlock, Decoded, whole_block, decoded_by, blocks, table_after}
use Rattle.hpack_core.specs.Reading.{block_of}
use Rattle.h2_model.specs.Codes.{first_row, compression_error, enhance_your_calm}
use Rattle.h2_model.specs.Violations.{violation_of, is_long_list, is_undecodable}
use Rattle.h2_streams.specs.Rows.{early_rows, late_rows, code_of}

abbrev pub or_row : Option ℕ → List (Bool × ℕ) → Option ℕ
or_row None rows = first_row rows
or_row (Some code) rows = Some code

-- rows behind others
pub rows-behind : (rows more : List (Bool × ℕ)) → first_row (rows ++ more) ≡ or_row (first_row rows) more
rows-behind [] more = refl
rows-behind (row ∷ rows) more = by row.0 (rows-behind rows more)
  where
    by : (c : Bool) → first_row (rows ++ more) ≡ or_row (first_row rows) more
        → (if c then Some row.1 else first_row (rows ++ more)) ≡ or_row (if c then Some row.1 else first_row rows) more
    by true e = refl
    by false e = e

pub violation-parts : (a : Account) (f : Frame) → violation_of a f ≡ or_row (first_row (early_rows a f)) (late_rows a f)
unfolding violation_of early_rows late_rows
violation-parts a f = rows-behind (early_rows a f) (late_rows a f)

abbrev rows_of : Option Decoded → List (Bool × ℕ)
rows_of d = (is_long_list d, enhance_your_calm) ∷ (is_undecodable d, compression_error) ∷ []

code-rows : (d : Decoded) → first_row (rows_of (Some d)) ≡ code_of d
code-rows (Ok read) = refl
code-rows (Err ListSize) = refl
code-rows (Err Memory) = refl
code-rows (Err (Prim fault)) = refl
code-rows (Err (Index place)) = refl
code-rows (Err (TableSize place)) = refl

-- a frame that ends no block has no late fault
pub no-block : (a : Account) (f : Frame) → whole_block a.log f ≡ None → first_row (late_rows a f) ≡ None
unfolding late_rows
no-block a f e = ap (λ b. first_row (rows_of (decoded_by a.log b))) e

-- one that ends a block has the fault of its decoding
pub ended-block : (a : Account) (f : Frame) (b : OpenBlock) → whole_block a.log f ≡ Some b → first_row (late_rows a f) ≡ code_of (block_of (table_after (blocks a.log)) b.bytes)
unfolding late_rows
ended-block a f b e = ap (λ o. first_row (rows_of (decoded_by a.log o))) e ∙ code-rows (block_of (table_after (blocks a.log)) b.bytes)
