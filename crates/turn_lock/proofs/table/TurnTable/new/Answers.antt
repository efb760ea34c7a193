use Rattle.std.proofs.Common.{◌≡◌, ◌∷◌, [], Some, rules, subst, sym}
use Rattle.atomic_table.specs.Table.{opening}
use Rattle.turn_lock.specs.Rule.{OneHistory}
use Rattle.turn_lock.specs.Views.{first_view}
use Rattle.turn_lock.proofs.Seats.{starts}
use Rattle.turn_lock.proofs.table.TurnTable.new.Goals as goal

pub new-requires : goal.new-requires
new-requires g c = let items : c.push.new.self.items ≡ Some record { value = c.args.value; calls = 0 } ∷ [] = search rules in
    subst (λ xs. OneHistory g.T.Turned.stands (opening (0 ∷ 0 ∷ []) xs first_view)) (sym items) (starts g.T.Turned.stands c.args.value c.requires)
