-- What the stages of a body reader stand for, with the bytes that it keeps.
use Rattle.std.specs.Prelude.{ℕ, ◌≡◌, ◌≤◌, ◌+◌, false, List, [], ◌∷◌, ◌++◌, length, drop, Result, Ok, Err}
use Rattle.http_model.specs.Reading.{BadChunk, LongHead}
use Rattle.http_model.specs.Bodies as bodies
use Rattle.http_model.specs.Bodies.{Chunk, Begun, Wrong, faulty}
use Rattle.h1_read.specs.ChunkPlaces.{chunk_places}
use Rattle.h1_read.specs.declared.chunk_line.ChunkPlace.TheVariants.{Size}
use Rattle.h1_read.specs.Places.{places, section_start}
use Rattle.h1_read.specs.Remaining as rest
use Rattle.h1_read.specs.Remaining.{Rest, IsBegun, remaining, FedPiece}
use Rattle.h1_read.specs.declared.piece.Piece.{Piece}
use Rattle.h1_read.specs.declared.piece.Piece.TheVariants as piece
use Rattle.h1_read.specs.declared.chunk_line.SizeLine.{SizeLine}
use Rattle.h1_read.specs.declared.chunk_line.SizeLine.TheVariants as line
use Rattle.h1_read.specs.declared.body_stage.Stage.{Stage}
use Rattle.h1_read.specs.declared.body_stage.Stage.TheVariants as stage
use Rattle.h1_read.specs.declared.body_stage.Fed.{Fed}
use Rattle.h1_read.specs.declared.body_stage.Stop.{Stop}
use Rattle.h1_read.specs.declared.body_stage.Stop.TheVariants as stop
use Rattle.h1_read.specs.declared.body_stage.ChunkEnd.{ChunkEnd}
use Rattle.h1_read.specs.declared.body_stage.ChunkEnd.TheVariants as end

abbrev pub rest_of : Stage → List ℕ → Rest
rest_of (stage.Known n) kept = rest.Known n
rest_of (stage.Line place) kept = rest.Line kept
rest_of (stage.Chunk n) kept = rest.Chunk n
rest_of stage.Lf kept = rest.Lf
rest_of (stage.Trailers place) kept = rest.Trailers kept
rest_of stage.Close kept = rest.Close
rest_of stage.Over kept = rest.Over
rest_of stage.Bad kept = rest.Failed BadChunk
rest_of stage.Long kept = rest.Failed LongHead

-- what a step makes of bytes, with what is kept behind it
abbrev pub BodySteps : Rest → List ℕ → List ℕ → Result Fed Stop → Type 0
BodySteps before bytes new (Ok fed) = FedPiece before bytes (rest_of fed.stage new) fed.piece fed.used
BodySteps before bytes new (Err stop.Bad) = remaining before false bytes ≡ faulty [] BadChunk
BodySteps before bytes new (Err stop.Long) = remaining before false bytes ≡ faulty [] LongHead
BodySteps before bytes new (Err stop.Memory) = Unit {0}

-- what is kept of a chunk line or of a trailer section ends at the place
abbrev pub IsAt : Stage → List ℕ → Type 0
IsAt (stage.Line place) kept = place ≡ chunk_places (Size 0) kept
IsAt (stage.Trailers place) kept = place ≡ places section_start kept
IsAt _ kept = Unit {0}

-- what is kept behind it is a beginning
abbrev pub KeepsBegun : Result Fed Stop → List ℕ → Type 0
KeepsBegun (Ok fed) new = IsBegun (rest_of fed.stage new) × IsAt fed.stage new
KeepsBegun (Err e) new = Unit {0}

abbrev pub OnMemory : Result Fed Stop → Type 0 → Type 0
OnMemory (Ok fed) P = Unit {0}
OnMemory (Err stop.Bad) P = Unit {0}
OnMemory (Err stop.Long) P = Unit {0}
OnMemory (Err stop.Memory) P = P

-- a step that keeps nothing
abbrev pub Feeds : Stage → List ℕ → Fed → Type 0
Feeds stage bytes fed = (kept : List ℕ) → FedPiece (rest_of stage kept) bytes (rest_of fed.stage kept) fed.piece fed.used

abbrev pub KeepsNone : Fed → Type 0
KeepsNone fed = (kept : List ℕ) → IsBegun (rest_of fed.stage kept) × IsAt fed.stage kept

-- the same of bytes that stand behind so many others
abbrev pub shifted_piece : ℕ → Piece → Piece
shifted_piece at piece.More = piece.More
shifted_piece at (piece.Data start len) = piece.Data (at + start) len
shifted_piece at (piece.End trailers) = piece.End trailers

abbrev pub shifted : ℕ → Fed → Fed
shifted at fed = record { stage = fed.stage; piece = shifted_piece at fed.piece; used = at + fed.used }

abbrev pub StartsWithin : Piece → ℕ → Type 0
StartsWithin (piece.Data start len) used = start ≤ used
StartsWithin _ used = Unit {0}

-- the bytes of an unfinished chunk line behind a call
abbrev pub kept_line : List ℕ → List ℕ → SizeLine → List ℕ
kept_line old bytes line.Partial = old ++ bytes
kept_line old bytes _ = old

-- what stands behind the data of a chunk
abbrev pub end_chunk : List ℕ → ChunkEnd → Chunk
end_chunk bytes end.Whole = bodies.Piece [] (drop 2 bytes)
end_chunk bytes end.Cr = Begun []
end_chunk bytes end.Absent = Begun []
end_chunk bytes end.Wrong = Wrong []

abbrev pub EndSeen : List ℕ → ChunkEnd → Type 0
EndSeen bytes end.Whole = 2 ≤ length bytes
EndSeen bytes end.Cr = bytes ≡ 13 ∷ []
EndSeen bytes end.Absent = bytes ≡ []
EndSeen bytes end.Wrong = Unit {0}
