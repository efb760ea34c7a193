use Rattle.std.proofs.Common.{rules}
use Rattle.turn_lock.proofs.Counting.{adds_entry}
use Rattle.turn_lock.proofs.table.TurnTable.count.Goals as goal

pub fetch_add-requires : goal.fetch_add-requires
fetch_add-requires g c = let t = c.requires.turn in (search rules, search rules, adds_entry _ _ _ _ _ _ t.0 t.1 _ _ t.2 t.3 t.4 c.requires.said.1 c.requires.reply)
