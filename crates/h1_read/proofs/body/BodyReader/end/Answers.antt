use Rattle.std.proofs.Common.{ap}
use Rattle.h1_read.specs.Remaining.{end_fault}
use Rattle.h1_read.proofs.BodyMoves.{line_cut, section_cut}
use Rattle.h1_read.proofs.body.BodyReader.end.Goals as goal

pub returns-in-Line : goal.returns-in-Line
returns-in-Line c =
    rw (← c.self.view_is, c.in-Line.is) (ap end_fault (line_cut c.self.inside.kept.items (rw c.in-Line.is at c.self.invariant).0))

pub returns-in-Trailers : goal.returns-in-Trailers
returns-in-Trailers c =
    rw (← c.self.view_is, c.in-Trailers.is) (ap end_fault (section_cut c.self.inside.kept.items (rw c.in-Trailers.is at c.self.invariant).0))
