use Rattle.std.proofs.Common.{◌∙◌, ap, refl, sym, length, filter_map}
use Rattle.filter_model.specs.Account.{gathered, is_finished, is_released}
use Rattle.filter_model.specs.Cut.{Failed}
use Rattle.filter_model.specs.Right.{account, ask_given, end_given}
use Rattle.filter_model.specs.Step.{is_live}
use Rattle.filter_model.specs.View.{Closed}
use Rattle.exchange.specs.Answering.{unsettled}
use Rattle.exchange.proofs.TimingEvents.{both_open, closed_fails, closed_noted, closed_passes, closed_stays, lives, one_closed}
use Rattle.exchange.proofs.TimingSteps.{fails_if_heard, life_same, stands_ended, stands_next}
use Rattle.exchange.proofs.TimingTies.{stays}
use Rattle.exchange.proofs.exchange.Exchange.closed.Goals as goal

pub returns-then-not-is_live : goal.returns-then-not-is_live
returns-then-not-is_live c = λ k h s.
    stands_ended k (Closed c.args.clean) h c.args.self.now s tt (lives k h c.args.self.now c.is_live.result s c.is_live.ensures ∙ c.if-not-is_live.true) refl

pub fail_if_heard-requires : goal.fail_if_heard-requires
fail_if_heard-requires c =
    let k = c.requires.0 in
    let h = c.requires.1 in
    let s = c.requires.2 in
    let l = lives k h c.args.self.now c.is_live.result s c.is_live.ensures ∙ c.if-not-is_live.false in (
      k,
      gathered (Closed c.args.clean) (account k h),
      length (filter_map ask_given h),
      filter_map end_given h,
      closed_noted k c.args.clean c.unwrap_or.result (account k h) (length (filter_map ask_given h)) (filter_map end_given h) c.args.self.now s.ties l c.unwrap_or.ensures,
    )

pub returns-then-not-clean : goal.returns-then-not-clean
returns-then-not-clean c = λ k h s.
    let a = account k h in
    let l = lives k h c.args.self.now c.is_live.result s c.is_live.ensures ∙ c.if-not-is_live.false in
    let n = length (filter_map ask_given h) in
    let ends = filter_map end_given h in
    stands_next k (Closed c.args.clean) h c.args.self.now c.fail_if_heard.new.self s tt c.fail_if_heard.ensures.settings l
    (c.fail_if_heard.ensures.ties k (gathered (Closed c.args.clean) a) (unsettled k (Closed c.args.clean) a) n ends (record { sizes = s.made.sizes; settings = s.made.settings })
    (closed_noted k c.args.clean c.unwrap_or.result a n ends c.args.self.now s.ties l c.unwrap_or.ensures)
    (fails_if_heard k h (Closed c.args.clean) Failed 500 (s.right, tt) l (closed_fails k c.args.clean a c.if-not-clean.true)))

pub let_pass-requires : goal.let_pass-requires
let_pass-requires c =
    let k = c.requires.0 in
    let h = c.requires.1 in
    let s = c.requires.2 in
    let l = lives k h c.args.self.now c.is_live.result s c.is_live.ensures ∙ c.if-not-is_live.false in (
      k,
      gathered (Closed c.args.clean) (account k h),
      length (filter_map ask_given h),
      filter_map end_given h,
      closed_noted k c.args.clean c.unwrap_or.result (account k h) (length (filter_map ask_given h)) (filter_map end_given h) c.args.self.now s.ties l c.unwrap_or.ensures,
    )

pub returns-then-is_heard : goal.returns-then-is_heard
returns-then-is_heard c = λ k h s.
    let a = account k h in
    let g = gathered (Closed c.args.clean) a in
    let l = lives k h c.args.self.now c.is_live.result s c.is_live.ensures ∙ c.if-not-is_live.false in
    let n = length (filter_map ask_given h) in
    let ends = filter_map end_given h in
    let t = closed_noted k c.args.clean c.unwrap_or.result a n ends c.args.self.now s.ties l c.unwrap_or.ensures in
    let o = both_open (is_finished k g) (is_released g) (sym (c.is_heard.ensures k g g g n ends t (ap is_live (life_same (Closed c.args.clean) a tt).1 ∙ l) refl) ∙ c.if-is_heard.true) in
    stands_next k (Closed c.args.clean) h c.args.self.now c.settle_ending.new.self s tt (c.settle_ending.ensures.settings ∙ c.let_pass.ensures.settings) l
    (c.settle_ending.ensures.ends k (unsettled k (Closed c.args.clean) a) n ends
    (c.let_pass.ensures.passes k g (unsettled k (Closed c.args.clean) a) n ends t (closed_passes k h c.args.clean (s.right, tt) l c.if-not-clean.false o.0 o.1)))

pub returns : goal.returns
returns c = λ k h s.
    let a = account k h in
    let g = gathered (Closed c.args.clean) a in
    let l = lives k h c.args.self.now c.is_live.result s c.is_live.ensures ∙ c.if-not-is_live.false in
    let n = length (filter_map ask_given h) in
    let ends = filter_map end_given h in
    let t = closed_noted k c.args.clean c.unwrap_or.result a n ends c.args.self.now s.ties l c.unwrap_or.ensures in
    let q = one_closed (is_finished k g) (is_released g) (sym (c.is_heard.ensures k g g g n ends t (ap is_live (life_same (Closed c.args.clean) a tt).1 ∙ l) refl) ∙ c.if-is_heard.false) in
    stands_next k (Closed c.args.clean) h c.args.self.now c.settle_ending-2.new.self s tt c.settle_ending-2.ensures.settings l
    (c.settle_ending-2.ensures.ends k (unsettled k (Closed c.args.clean) a) n ends
    (stays k g (unsettled k (Closed c.args.clean) a) n ends _ t (closed_stays k h c.args.clean (s.right, tt) l q)))
