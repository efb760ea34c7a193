use Rattle.std.proofs.Common.{refl}
use Rattle.hpack_core.proofs.TableLemmas.{cut_stop}
use Rattle.hpack_core.proofs.table.Table.add.Goals as goal

pub returns-in_default-clause-added : goal.returns-in_default-clause-added
returns-in_default-clause-added c = rw (← c.self.view_is, c.clear.ensures.items, cut_stop c.self.inside.limit c.args.field c.self.inside.entries.items c.in_default.ensures) refl
