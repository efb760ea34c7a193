use Rattle.std.proofs.Common.{◌∙◌, refl, sym, true, length, filter_map}
use Rattle.filter_model.specs.Account.{gathered}
use Rattle.filter_model.specs.Right.{account, ask_given, end_given}
use Rattle.filter_model.specs.View.{Starved}
use Rattle.exchange.specs.Answering.{unsettled}
use Rattle.exchange.proofs.TimingEvents.{lives, starved_ends, starved_noted, starved_same, starved_stays}
use Rattle.exchange.proofs.TimingSteps.{stands_ended, stands_next}
use Rattle.exchange.proofs.TimingTies.{ends_by, stays}
use Rattle.exchange.proofs.exchange.Exchange.starved.Goals as goal

pub returns-then-not-is_live : goal.returns-then-not-is_live
returns-then-not-is_live c = λ k h s.
    stands_ended k Starved h c.args.self.now s tt (lives k h c.args.self.now c.is_live.result s c.is_live.ensures ∙ c.if-not-is_live.true) refl

pub returns-then-is_finished : goal.returns-then-is_finished
returns-then-is_finished c = λ k h s.
    let a = account k h in
    let l = lives k h c.args.self.now c.is_live.result s c.is_live.ensures ∙ c.if-not-is_live.false in
    let n = length (filter_map ask_given h) in
    let ends = filter_map end_given h in
    let f = starved_same k a ∙ sym (c.is_finished.ensures k a a a n ends s.ties l refl) ∙ c.if-is_finished.true in
    stands_next k Starved h c.args.self.now c.settle_ending.new.self s tt c.settle_ending.ensures.settings l
    (c.settle_ending.ensures.ends k (unsettled k Starved a) n ends
    (stays k (gathered Starved a) (unsettled k Starved a) n ends c.args.self.now (starved_noted k a n ends c.args.self.now s.ties) (starved_stays k h (s.right, tt) l f)))

pub returns : goal.returns
returns c = λ k h s.
    let a = account k h in
    let l = lives k h c.args.self.now c.is_live.result s c.is_live.ensures ∙ c.if-not-is_live.false in
    let n = length (filter_map ask_given h) in
    let ends = filter_map end_given h in
    let f = sym (c.is_finished.ensures k a a a n ends s.ties l refl) ∙ c.if-is_finished.false in
    let t = starved_noted k a n ends c.args.self.now s.ties in
    let e = starved_ends k h (s.right, tt) l f in
    stands_next k Starved h c.args.self.now c.settle_ending-2.new.self s tt c.settle_ending-2.ensures.settings l
    (c.settle_ending-2.ensures.ends k (unsettled k Starved a) n ends
    (ends_by k 0 true c.given_whole-given.result (gathered Starved a) (unsettled k Starved a) n ends c.args.self.now t e
    (c.given_whole-given.ensures k (gathered Starved a) (gathered Starved a) (gathered Starved a) n ends t e.live refl)))
