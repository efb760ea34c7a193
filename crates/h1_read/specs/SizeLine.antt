-- What an answer on a chunk's line says of the bytes.
use Rattle.std.specs.Prelude.{ℕ, ◌≤◌, List, length, drop}
use Rattle.http_model.specs.Reading.{Reading, Whole, Partial, Bad, BadChunk}
use Rattle.h1_read.specs.declared.chunk_line.SizeLine.{SizeLine}
use Rattle.h1_read.specs.declared.chunk_line.SizeLine.TheVariants as line

abbrev pub size_reading : List ℕ → SizeLine → Reading ℕ
size_reading bytes (line.Whole used size) = Whole size (drop used bytes)
size_reading bytes line.Partial = Partial
size_reading bytes line.Bad = Bad BadChunk

abbrev pub UsedWithin : List ℕ → SizeLine → Type 0
UsedWithin bytes (line.Whole used size) = used ≤ length bytes
UsedWithin bytes line.Partial = Unit {0}
UsedWithin bytes line.Bad = Unit {0}
