use Rattle.std.proofs.Common.{rules}
use Rattle.half_machine.proofs.Seen.{room_is}
use Rattle.half_machine.proofs.half.Half.room.Goals.{then-is_collecting, else-is_collecting}
use Rattle.half_machine.proofs.half.Half.room.Goals as goal

pub returns : goal.returns
returns c p s =
    let r = room_is p c.args.self.now s in
    let small = s.made.small in
    elim c.if-is_collecting.branch [ then-is_collecting w ↦ search rules | else-is_collecting w ↦ search rules ]
