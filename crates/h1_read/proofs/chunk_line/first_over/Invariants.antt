use Rattle.std.proofs.Common.{◌≡◌, drop}
use Rattle.h1_read.specs.ChunkPlaces.{chunk_places}
use Rattle.h1_read.proofs.chunk_line.first_over.Given as goal

abbrev pub invariant-loop-at : goal.invariant-loop-at
invariant-loop-at l = chunk_places l.fn.place l.bytes ≡ chunk_places l.now (drop l.at l.bytes)
