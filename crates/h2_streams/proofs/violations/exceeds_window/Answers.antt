-- Below the connection's window, the stream's decides.
use Rattle.std.proofs.Common.{◌≡◌, ◌||◌, ◌&&◌, false, nat_lt, sym, ap, ◌∙◌, arith}
use Rattle.h2_model.specs.Violations.{exceeds_window}
use Rattle.h2_model.specs.Streams.{is_live}
use Rattle.h2_model.specs.Windows.{receiving_window}
use Rattle.std.proofs.lemmas.Grind.{common_steps}
use Rattle.h2_streams.proofs.violations.exceeds_window.Goals as goal

pub returns-else-receive-size : goal.returns-else-receive-size
returns-else-receive-size c = λ a e f.
    let within : nat_lt c.args.receive c.in-Data.size ≡ false = grind (arith, common_steps, c.if-receive-size.false) in
    c.exceeds_stream.ensures a f
    ∙ ap (λ b. b || (is_live c.in-Data.id a.log && nat_lt (receiving_window c.in-Data.id a.log) c.in-Data.size)) (sym within ∙ ap (λ r. nat_lt r c.in-Data.size) e)
    ∙ ap (exceeds_window a) (sym c.in-Data.is)
