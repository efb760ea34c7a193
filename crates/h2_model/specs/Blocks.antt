-- Field blocks that come in: RFC 9113 section 4.3.
use Rattle.std.specs.Prelude.{ℕ, Bool, false, List, [], ◌∷◌, ◌++◌, Option, Some, None, Result, Ok, Err, if◌then◌else◌, filter_map}
use Rattle.ext_msgs.specs.declared.lists.Field.{Field}
use Rattle.hpack_core.specs.declared.fault.HpackFault.{HpackFault}
use Rattle.hpack_core.specs.Tables.{TableState}
use Rattle.hpack_core.specs.Reading.{block_of}
use Rattle.h2_frames.specs.declared.frame.Frame.{Frame}
use Rattle.h2_frames.specs.declared.frame.Frame.TheVariants as frame
use Rattle.h2_model.specs.Log.{LogEntry, Log, Received, Block}

pub record OpenBlock : Type 0 where
  pub stream : ℕ
  pub bytes : List ℕ
  pub last : Bool  -- its HEADERS ends the stream

abbrev pub more_of : List ℕ → Option OpenBlock → Option OpenBlock
more_of part None = None
more_of part (Some b) = Some (record b { bytes = b.bytes ++ part })

-- the block that isn't whole yet
abbrev pub open_block : Log → Option OpenBlock
open_block [] = None
open_block (Received (frame.Headers id part last ends) ∷ log) =
    if ends then None else Some (record { stream = id; bytes = part; last = last })
open_block (Received (frame.Continuation id part ends) ∷ log) = if ends then None else more_of part (open_block log)
open_block (e ∷ log) = open_block log

-- the block so far, with this frame
abbrev pub block_with : Log → Frame → Option OpenBlock
block_with log (frame.Headers id part last ends) = Some (record { stream = id; bytes = part; last = last })
block_with log (frame.Continuation id part ends) = more_of part (open_block log)
block_with log _ = None

abbrev pub ends_block : Frame → Bool
ends_block (frame.Headers id part last ends) = ends
ends_block (frame.Continuation id part ends) = ends
ends_block _ = false

-- the block that this frame ends
abbrev pub whole_block : Log → Frame → Option OpenBlock
whole_block log f = if ends_block f then block_with log f else None

abbrev pub block_bytes : LogEntry → Option (List ℕ)
block_bytes (Block id bytes last) = Some bytes
block_bytes _ = None

-- the whole blocks of all streams, newest first
abbrev pub blocks : Log → List (List ℕ)
blocks log = filter_map block_bytes log

-- The blocks of a connection share one table

abbrev pub Decoded : Type 0
Decoded = Result (List Field × TableState) HpackFault

abbrev pub table_or : TableState → Decoded → TableState
table_or before (Ok read) = read.1
table_or before (Err fault) = before

unfoldable pub table_after : List (List ℕ) → TableState
table_after [] = record { entries = []; limit = 4096 }
table_after (block ∷ earlier) = table_or (table_after earlier) (block_of (table_after earlier) block)

abbrev pub decoded_by : Log → Option OpenBlock → Option Decoded
decoded_by log None = None
decoded_by log (Some b) = Some (block_of (table_after (blocks log)) b.bytes)

-- what the block that this frame ends is decoded to
abbrev pub decoded_with : Log → Frame → Option Decoded
decoded_with log f = decoded_by log (whole_block log f)

abbrev pub fields_or_none : Option Decoded → List Field
fields_or_none (Some (Ok read)) = read.0
fields_or_none _ = []
