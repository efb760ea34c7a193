use Rattle.std.proofs.Common.{rules, refl, sym, ◌∙◌, ◌≡◌, false}
use Rattle.filter_model.specs.Account.{is_finished}
use Rattle.filter_model.specs.Step.{is_cut_off}
use Rattle.exchange.proofs.EndingSettled.{cut_is, finished_is, none_is, still_live}
use Rattle.exchange.proofs.exchange.Exchange.ending_due.Goals as goal

pub returns-then-is_cut_off : goal.returns-then-is_cut_off
returns-then-is_cut_off c f a n ends t =
    cut_is a.closed (is_cut_off a) (is_finished f a) (sym t.stream.closed ∙ search rules) (sym (c.is_cut_off.ensures f a n ends t) ∙ search rules)

pub returns-then-is_finished : goal.returns-then-is_finished
returns-then-is_finished c f a n ends t =
    let off : is_cut_off a ≡ false = sym (c.is_cut_off.ensures f a n ends t) ∙ search rules in
    finished_is a.closed (is_cut_off a) (is_finished f a) (sym t.stream.closed ∙ search rules) off (sym (c.is_finished.ensures f a a a n ends t (still_live a off) refl) ∙ search rules)

pub returns : goal.returns
returns c f a n ends t =
    let off : is_cut_off a ≡ false = sym (c.is_cut_off.ensures f a n ends t) ∙ search rules in
    none_is a.closed (is_cut_off a) (is_finished f a) (sym t.stream.closed ∙ search rules) off (sym (c.is_finished.ensures f a a a n ends t (still_live a off) refl) ∙ search rules)
