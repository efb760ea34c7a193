-- The preface has 24 bytes.
use Rattle.std.proofs.Common.{arith, ◌≡◌, length, Bool, true, ap, sym, ◌∙◌}
use Rattle.h2_sender.specs.Outgoing.{written}
use Rattle.h2_sender.proofs.Copies.{greeted_length, written_plain}
use Rattle.h2_sender.proofs.outgoing.total.Goals as goal

pub overflow_add-result : goal.overflow_add-result
overflow_add-result c = omega arith

pub returns-then-greeting : goal.returns-then-greeting
returns-then-greeting c =
    let whole = greeted_length c.args.frame.now in
    let same : length (written c.args.greeting c.args.frame.now) ≡ length (written true c.args.frame.now) = ap (λ (g : Bool). length (written g c.args.frame.now)) c.if-greeting.true in
    omega arith

pub returns : goal.returns
returns c =
    c.len_of-2.ensures.len ∙ ap length (sym (ap (λ (g : Bool). written g c.args.frame.now) c.if-greeting.false ∙ written_plain c.args.frame.now))
