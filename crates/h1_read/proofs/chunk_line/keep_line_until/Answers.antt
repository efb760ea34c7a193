use Rattle.h1_read.proofs.ChunkParts.{whole_from, bad_from}
use Rattle.h1_read.proofs.chunk_line.keep_line_until.Goals as goal

pub returns-in-Whole-clause-exact : goal.returns-in-Whole-clause-exact
returns-in-Whole-clause-exact c =
    whole_from c.args.kept.now.items c.args.bytes.now c.split_at.result.0.now c.args.until c.in-Whole.used c.in-Whole.size c.split_at.ensures.front
    (rw c.in-Whole.is at c.in_ok-used.ensures.inside) (rw c.in-Whole.is at c.in_ok-used.ensures.exact)

pub returns-in-Bad-clause-exact : goal.returns-in-Bad-clause-exact
returns-in-Bad-clause-exact c =
    bad_from c.args.kept.now.items c.args.bytes.now c.split_at.result.0.now c.args.until c.split_at.ensures.front (rw c.in-Bad.is at c.in_ok-used.ensures.exact)
