-- No byte behind the end is used.
use Rattle.h2_laws_log.proofs.Steps.{ends-stopped, ends-all, ends-more, ends-at-other, ends-fault}
use Rattle.h2_laws_log.proofs.byte_laws.reading_ends.Goals as goal

pub returns : goal.returns
returns c = record { stopped = ends-stopped; all = ends-all; more = ends-more; other = ends-at-other; fault = ends-fault }
