-- A stream that changes stays at its place, and one that is over leaves.
use Rattle.std.proofs.Common.{rules, sym, ◌∙◌}
use Rattle.h2_streams.specs.Changes.{changed}
use Rattle.h2_streams.proofs.Places.{adjusted-apart}
use Rattle.h2_streams.proofs.Kept.{its-change, stored, stays-table, removed}
use Rattle.h2_streams.proofs.table.change_in.Goals as goal

pub returns-in_default-clause-items : goal.returns-in_default-clause-items
returns-in_default-clause-items c = λ counts. sym (adjusted-apart c.args.id (changed c.args.change) c.args.streams.now.items (search rules))

pub changed-requires-clause-fits : goal.changed-requires-clause-fits
changed-requires-clause-fits c = c.requires.fits _ (its-change c.args.streams.now.items c.args.id c.in-Some.at c.index-stream.result.now c.requires.table (search rules) (search rules) c.index-stream.ensures)

pub returns-in-Some-changed-clause-items : goal.returns-in-Some-changed-clause-items
returns-in-Some-changed-clause-items c = λ counts.
    stored c.args.streams.now.items c.args.id c.in-Some.at c.args.change c.index-stream.result.now c.in-Some-changed.next c.requires.table (search rules) (search rules) c.index-stream.ensures
    (sym c.in-Some-changed.is ∙ c.changed.ensures.changed (counts _ (its-change c.args.streams.now.items c.args.id c.in-Some.at c.index-stream.result.now c.requires.table (search rules) (search rules) c.index-stream.ensures)))

pub returns-in-Some-changed-clause-table : goal.returns-in-Some-changed-clause-table
returns-in-Some-changed-clause-table c = stays-table c.args.streams.now.items c.in-Some.at c.index-stream.result.now c.in-Some-changed.next c.requires.table (search rules) c.index-stream.ensures (search rules)

pub returns-in-None-clause-items : goal.returns-in-None-clause-items
returns-in-None-clause-items c = λ counts. c.remove.ensures.items
    ∙ removed c.args.streams.now.items c.args.id c.in-Some.at c.args.change c.index-stream.result.now c.requires.table (search rules) (search rules) c.index-stream.ensures
    (sym c.in-None.is ∙ c.changed.ensures.changed (counts _ (its-change c.args.streams.now.items c.args.id c.in-Some.at c.index-stream.result.now c.requires.table (search rules) (search rules) c.index-stream.ensures)))
