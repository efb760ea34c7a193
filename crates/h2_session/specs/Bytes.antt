-- How many bytes a session keeps.
use Rattle.std.specs.Prelude.{ℕ, ◌+◌, Option, Some, None, length, if◌then◌else◌}
use Rattle.hpack_core.specs.Tables.{kept}
use Rattle.h2_model.specs.Blocks.{OpenBlock, blocks, open_block, table_after}
use Rattle.h2_model.specs.Account.{Account}
use Rattle.h2_model.specs.History.{is_violated}
use Rattle.h2_model.specs.Calls.{control}

abbrev pub begun_bytes : Option OpenBlock → ℕ
begun_bytes None = 0
begun_bytes (Some b) = length b.bytes

-- the frame and the block that were begun, and the table over which blocks are decoded; of the preface nothing is kept
abbrev pub input_bytes : Account → ℕ
input_bytes a = (if a.greeted then length a.rest else 0) + begun_bytes (open_block a.log) + kept (table_after (blocks a.log)).entries

-- and the frames other than DATA that wait
unfoldable pub kept_bytes : Account → ℕ
kept_bytes a = control a + (if is_violated a then 0 else input_bytes a)
