use Rattle.std.proofs.Common.{refl, ◌∙◌, ◌≡◌, ◌||◌, false, true, length, filter_map}
use Rattle.filter_model.specs.Account.{is_finished}
use Rattle.filter_model.specs.Cut.{is_whole_and_done}
use Rattle.filter_model.specs.Right.{account, ask_given, end_given}
use Rattle.filter_model.specs.View.{Lost}
use Rattle.filter_model.specs.declared.calls.Side.TheVariants.{Client}
use Rattle.exchange.specs.Answering.{unsettled}
use Rattle.exchange.proofs.ReadingLost.{client_aborts, client_stays, says_harmless}
use Rattle.exchange.proofs.TimingSteps.{stands_next}
use Rattle.exchange.proofs.exchange.Exchange.client_lost.Goals as goal

pub returns-then-is_harmless : goal.returns-then-is_harmless
returns-then-is_harmless c k h how s l =
    let a = account k h in
    let x = c.args.self.now in
    let n = length (filter_map ask_given h) in
    let ends = filter_map end_given h in
    let g = c.given_whole-given.ensures k a a a n ends s.ties l refl in
    let i : (is_finished k a || is_whole_and_done k a Client) ≡ true = says_harmless k Client a _ _ x.request s.ties.request l c.is_harmless.result _ _ _ c.is_harmless.ensures
    (c.is_finished-finished.ensures k a a a n ends s.ties l refl) c.is_whole-whole.ensures g.response ∙ c.if-is_harmless.true in
    stands_next k (Lost Client how) h x c.settle_ending.new.self s tt c.settle_ending.ensures.settings l
    (c.settle_ending.ensures.ends k (unsettled k (Lost Client how) a) n ends (client_stays k h how x s l i))

pub returns : goal.returns
returns c k h how s l =
    let a = account k h in
    let x = c.args.self.now in
    let n = length (filter_map ask_given h) in
    let ends = filter_map end_given h in
    let g = c.given_whole-given.ensures k a a a n ends s.ties l refl in
    let i : (is_finished k a || is_whole_and_done k a Client) ≡ false = says_harmless k Client a _ _ x.request s.ties.request l c.is_harmless.result _ _ _ c.is_harmless.ensures
    (c.is_finished-finished.ensures k a a a n ends s.ties l refl) c.is_whole-whole.ensures g.response ∙ c.if-is_harmless.false in
    stands_next k (Lost Client how) h x c.settle_ending-2.new.self s tt c.settle_ending-2.ensures.settings l
    (c.settle_ending-2.ensures.ends k (unsettled k (Lost Client how) a) n ends (client_aborts k h how c.given_whole-given.result x s l i g))
