-- What a body reader has still to read, and what it makes of the bytes to come.
use Rattle.std.specs.Prelude.{ℕ, ◌+◌, ◌<◌, ◌≤◌, ◌≡◌, Bool, true, false, not, List, [], ◌∷◌, ◌++◌, length, drop, slice_range, Option, Some, None, Result, Ok, Err}
use Rattle.ext_msgs.specs.declared.lists.Field.{Field}
use Rattle.http_model.specs.Reading.{Partial, Fault}
use Rattle.http_model.specs.Lines.{chunk_line}
use Rattle.h1_read.specs.Sections.{trailer_section}
use Rattle.http_model.specs.Bodies.{Body, body, part, faulty, whole_body, behind, chunk_data, chunk_end, chunks_from, chunked, trailers_behind}
use Rattle.http_model.specs.declared.types.Length.{Length}
use Rattle.http_model.specs.declared.types.Length.TheVariants as body_length
use Rattle.http_model.specs.Reads.{cut_short}
use Rattle.h1_read.specs.Messages.{fault_of}
use Rattle.h1_read.specs.declared.fault.H1Fault.{H1Fault}
use Rattle.h1_read.specs.declared.piece.Piece.{Piece}
use Rattle.h1_read.specs.declared.piece.Piece.TheVariants as piece

pub data Rest : Type 0 where
  Known : ℕ → Rest  -- so many bytes
  Line : List ℕ → Rest  -- the line of a chunk, of which these bytes came
  Chunk : ℕ → Rest  -- so many bytes of a chunk's data, and the chunk's end
  Lf : Rest  -- the LF of a chunk's end
  Trailers : List ℕ → Rest  -- the trailer section, of which these bytes came
  Close : Rest  -- all bytes up to the end
  Over : Rest  -- nothing
  Failed : Fault → Rest  -- nothing, behind a fault

-- what it makes of the bytes to come, which may be ended
abbrev pub remaining : Rest → Bool → List ℕ → Body
remaining (Known n) ended bytes = body (body_length.Known n) ended bytes
remaining (Line kept) ended bytes = chunked (kept ++ bytes)
remaining (Chunk n) ended bytes = chunks_from (chunk_data n bytes) chunked
remaining Lf ended bytes = chunks_from (chunk_end [] (13 ∷ bytes)) chunked
remaining (Trailers kept) ended bytes = trailers_behind (kept ++ bytes)
remaining Close ended bytes = body body_length.Close ended bytes
remaining Over ended bytes = body body_length.NoBody ended bytes
remaining (Failed f) ended bytes = faulty [] f

-- before anything came
abbrev pub at_start : Length → Rest
at_start body_length.NoBody = Over
at_start (body_length.Known n) = Known n
at_start body_length.Chunked = Line []
at_start body_length.Close = Close

-- what came is a beginning
abbrev pub IsBegun : Rest → Type 0
IsBegun (Line kept) = chunk_line kept ≡ Partial
IsBegun (Trailers kept) = trailer_section kept ≡ Partial
IsBegun _ = Unit {0}

-- the bytes of what is begun
abbrev pub kept_bytes : Rest → List ℕ
kept_bytes (Line kept) = kept
kept_bytes (Trailers kept) = kept
kept_bytes _ = []

-- of these bytes some are used and give this content, and the others are left to read
abbrev pub GivesContent : Rest → List ℕ → ℕ → List ℕ → Rest → Type 0
GivesContent before bytes used content after =
    (ended : Bool) (more : List ℕ) → remaining before ended (bytes ++ more) ≡ behind content (remaining after ended (drop used bytes ++ more))

-- of these bytes those that are used end the body
pub record Ends (before : Rest) (bytes : List ℕ) (used : ℕ) (trailers : List Field) : Type 0 where
  pub inside : used ≤ length bytes
  pub whole : (ended : Bool) (more : List ℕ) → remaining before ended (bytes ++ more) ≡ whole_body [] trailers (drop used bytes ++ more)

-- what one call answers of these bytes: with no content they are all used and the body goes on
abbrev pub FedPiece : Rest → List ℕ → Rest → Piece → ℕ → Type 0
FedPiece before bytes after piece.More used = (used ≡ length bytes) × GivesContent before bytes used [] after × (remaining before false bytes ≡ part [])
FedPiece before bytes after (piece.Data start len) used =
    (0 < len) × (used ≡ start + len) × (used ≤ length bytes) × GivesContent before bytes used (slice_range bytes start used) after
FedPiece before bytes after (piece.End trailers) used = Ends before bytes used trailers × (after ≡ Over)

-- behind a fault nothing is left; out of memory leaves the reader as it was
abbrev pub FedFault : Rest → List ℕ → Rest → Option Fault → Type 0
FedFault before bytes after (Some f) = (remaining before false bytes ≡ faulty [] f) × (after ≡ Failed f)
FedFault before bytes after None = after ≡ before

-- what a call answers of bytes that stand behind those before
abbrev pub Continues : Rest → List ℕ → Rest → Result (Piece × ℕ) H1Fault → Type 0
Continues before bytes after (Ok answer) = FedPiece before bytes after answer.0 answer.1
Continues before bytes after (Err e) = FedFault before bytes after (fault_of e)

-- an end: the body is whole, or has its fault, or is cut short
abbrev pub end_fault : Body → Option Fault
end_fault b = cut_short (not b.whole) b.fault

abbrev pub AtEnd : Rest → Result (Unit {0}) H1Fault → Type 0
AtEnd rest (Ok u) = end_fault (remaining rest true []) ≡ None
AtEnd rest (Err e) = end_fault (remaining rest true []) ≡ fault_of e
