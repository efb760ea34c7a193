use Rattle.std.proofs.Common.{ap, sym, ◌∙◌, length, List, ℕ}
use Rattle.http_model.specs.Heads.{head_so_far}
use Rattle.h1_message.proofs.StageLaw.{none_so_far}
use Rattle.h1_message.proofs.reader.MessageReader.held.Goals as goal

pub returns-in-Unbegun-clause-head : goal.returns-in-Unbegun-clause-head
returns-in-Unbegun-clause-head c s w e =
    let none = (rw c.in-Unbegun.is at w.stage.is).none in
    ap (λ (l : List ℕ). length l) (none_so_far s.direction ∙ ap (head_so_far s.direction) (sym none))
