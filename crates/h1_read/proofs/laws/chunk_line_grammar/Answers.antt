use Rattle.h1_read.proofs.ChunkLines.{found, there, awaits}
use Rattle.h1_read.proofs.laws.chunk_line_grammar.Goals as goal

pub returns-clause-found : goal.returns-clause-found
returns-clause-found c = found

pub returns-clause-whole : goal.returns-clause-whole
returns-clause-whole c = there

pub returns-clause-partial : goal.returns-clause-partial
returns-clause-partial c = awaits
