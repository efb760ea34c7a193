-- The table of connection errors up to the rows that decode a block.
use Rattle.std.specs.Prelude.{ℕ, Bool, not, ◌&&◌, List, [], ◌∷◌, Option, Some, None, Ok, Err}
use Rattle.hpack_core.specs.declared.fault.HpackFault.TheVariants.{Prim, Index, TableSize, ListSize, Memory}
use Rattle.h2_frames.specs.declared.frame.Frame.{Frame}
use Rattle.h2_model.specs.Codes.{protocol_error, flow_control_error, compression_error, enhance_your_calm}
use Rattle.h2_model.specs.Blocks.{Decoded, open_block, block_with, decoded_with}
use Rattle.h2_model.specs.Account.{Account}
use Rattle.h2_model.specs.Violations.{is_first, is_settings, breaks_block, is_push, is_on_unopened, has_bad_setting, has_wide_setting, is_empty_update, widens_connection, exceeds_window, is_long, is_long_list, is_undecodable}

-- the rows that are tested before a block is decoded, in their order
unfoldable pub early_rows : Account → Frame → List (Bool × ℕ)
early_rows a f =
    (is_first a && not (is_settings f), protocol_error)
    ∷ (breaks_block (open_block a.log) f, protocol_error)
    ∷ (is_push f, protocol_error)
    ∷ (is_on_unopened a f, protocol_error)
    ∷ (has_bad_setting a f, protocol_error)
    ∷ (has_wide_setting a f, flow_control_error)
    ∷ (is_empty_update f, protocol_error)
    ∷ (widens_connection a f, flow_control_error)
    ∷ (exceeds_window a f, flow_control_error)
    ∷ (is_long (block_with a.log f), enhance_your_calm)
    ∷ []

-- the rows on what a block is decoded to
unfoldable pub late_rows : Account → Frame → List (Bool × ℕ)
late_rows a f =
    (is_long_list (decoded_with a.log f), enhance_your_calm)
    ∷ (is_undecodable (decoded_with a.log f), compression_error)
    ∷ []

-- the code of what a block is decoded to. Want of memory is none of the peer's faults.
abbrev pub code_of : Decoded → Option ℕ
code_of (Ok read) = None
code_of (Err ListSize) = Some enhance_your_calm
code_of (Err Memory) = None
code_of (Err (Prim fault)) = Some compression_error
code_of (Err (Index place)) = Some compression_error
code_of (Err (TableSize place)) = Some compression_error
