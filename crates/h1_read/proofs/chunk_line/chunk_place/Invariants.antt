use Rattle.std.proofs.Common.{◌≡◌, drop}
use Rattle.h1_read.specs.ChunkPlaces.{chunk_places}
use Rattle.h1_read.specs.declared.chunk_line.ChunkPlace.TheVariants.{Size}
use Rattle.h1_read.proofs.chunk_line.chunk_place.Given as goal

abbrev pub invariant-loop-at : goal.invariant-loop-at
invariant-loop-at l = chunk_places (Size 0) l.bytes ≡ chunk_places l.now (drop l.at l.bytes)
