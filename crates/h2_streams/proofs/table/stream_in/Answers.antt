use Rattle.std.proofs.Common.{rules, sym}
use Rattle.h2_streams.proofs.Places.{found-none, found-here}
use Rattle.h2_streams.proofs.table.stream_in.Goals as goal

pub returns-in_default : goal.returns-in_default
returns-in_default c = sym (found-none c.args.id c.args.streams.now (search rules))

pub returns : goal.returns
returns c = sym (found-here c.args.streams.now c.args.id c.in-Some.at c.requires (search rules) (search rules) _)
