use Rattle.std.proofs.Common.{sym, ◌∙◌, ap}
use Rattle.std.specs.Prelude.{not, ◌&&◌}
use Rattle.filter_model.specs.Account.{is_released}
use Rattle.exchange.specs.Stands.{handed_out}
use Rattle.exchange.proofs.Wholly.{released_is}
use Rattle.exchange.proofs.exchange.Exchange.is_heard.Goals as goal

pub returns-then-not-is_finished : goal.returns-then-not-is_finished
returns-then-not-is_finished g c q r a n ends t l e =
    ap not (released_is c q a (handed_out n g.args.self.now.ready) g.args.self.now.waiting g.args.self.now.request t.request l g.is_released.result g.is_released.ensures)
    ∙ ap (λ b. not b && not (is_released a)) (sym g.if-not-is_finished.true ∙ g.is_finished.ensures c q r a n ends t l e)

pub returns-else-not-is_finished : goal.returns-else-not-is_finished
returns-else-not-is_finished g c q r a n ends t l e =
    ap not g.if-not-is_finished.false
    ∙ ap (λ b. not b && not (is_released a)) (sym g.if-not-is_finished.false ∙ g.is_finished.ensures c q r a n ends t l e)
