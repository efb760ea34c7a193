use Rattle.std.proofs.Common.{◌∙◌, ap, refl, sym, length, filter_map, ◌||◌}
use Rattle.http_model.specs.declared.types.Direction.TheVariants.{Request, Response}
use Rattle.filter_model.specs.Account.{gathered}
use Rattle.filter_model.specs.Cut.{Late, is_late}
use Rattle.filter_model.specs.Right.{account, ask_given, end_given}
use Rattle.filter_model.specs.Step.{is_live}
use Rattle.filter_model.specs.View.{Tick}
use Rattle.filter_model.proofs.AnswerTold.{either_false}
use Rattle.exchange.specs.Answering.{unsettled}
use Rattle.exchange.specs.Stands.{handed_out}
use Rattle.exchange.proofs.TimingEvents.{lives}
use Rattle.exchange.proofs.TimingSteps.{fails_if_heard, life_same, stands_ended, stands_next}
use Rattle.exchange.proofs.TimingTicks.{later, tick_fails, tick_noted, tick_stays}
use Rattle.exchange.proofs.TimingTies.{stays}
use Rattle.exchange.proofs.exchange.Exchange.tick.Goals as goal

pub returns-then-not-is_live : goal.returns-then-not-is_live
returns-then-not-is_live c = λ k h s.
    stands_ended k (Tick c.args.now) h c.args.self.now s tt (lives k h c.args.self.now c.is_live.result s c.is_live.ensures ∙ c.if-not-is_live.true) refl

pub fail_if_heard-requires : goal.fail_if_heard-requires
fail_if_heard-requires c =
    let k = c.requires.0 in
    let h = c.requires.1 in
    let s = c.requires.2 in
    let a = account k h in
    let e = Tick c.args.now in
    let g = gathered e a in
    let l = lives k h c.args.self.now c.is_live.result s c.is_live.ensures ∙ c.if-not-is_live.false in
    let n = length (filter_map ask_given h) in
    let ends = filter_map end_given h in
    let t = tick_noted k c.args.now c.max-self.result a n ends c.args.self.now s.ties l c.max-self.ensures in
    (k, g, n, ends, t)

pub returns-then-is_late : goal.returns-then-is_late
returns-then-is_late c = λ k h s.
    let a = account k h in
    let e = Tick c.args.now in
    let g = gathered e a in
    let l = lives k h c.args.self.now c.is_live.result s c.is_live.ensures ∙ c.if-not-is_live.false in
    let n = length (filter_map ask_given h) in
    let ends = filter_map end_given h in
    let t = tick_noted k c.args.now c.max-self.result a n ends c.args.self.now s.ties l c.max-self.ensures in
    let lg = ap is_live (life_same e a tt).1 ∙ l in
    let q = c.is_late.ensures k Request g (handed_out n c.args.self.now.ready) c.args.self.now.waiting t.request lg t.now in
    let f = ap (λ b. b || is_late g Response) (sym q ∙ c.if-is_late.true) in
    stands_next k e h c.args.self.now c.fail_if_heard.new.self s tt c.fail_if_heard.ensures.settings l
    (c.fail_if_heard.ensures.ties k g (unsettled k e a) n ends (record { sizes = s.made.sizes; settings = s.made.settings }) t
    (fails_if_heard k h e Late 504 (s.right, tt) l (tick_fails k c.args.now a f)))

pub fail_if_heard-requires-then-is_late-2 : goal.fail_if_heard-requires-then-is_late-2
fail_if_heard-requires-then-is_late-2 c =
    let k = c.requires.0 in
    let h = c.requires.1 in
    let s = c.requires.2 in
    let a = account k h in
    let e = Tick c.args.now in
    let g = gathered e a in
    let l = lives k h c.args.self.now c.is_live.result s c.is_live.ensures ∙ c.if-not-is_live.false in
    let n = length (filter_map ask_given h) in
    let ends = filter_map end_given h in
    let t = tick_noted k c.args.now c.max-self.result a n ends c.args.self.now s.ties l c.max-self.ensures in
    (k, g, n, ends, t)

pub returns-then-is_late-2 : goal.returns-then-is_late-2
returns-then-is_late-2 c = λ k h s.
    let a = account k h in
    let e = Tick c.args.now in
    let g = gathered e a in
    let l = lives k h c.args.self.now c.is_live.result s c.is_live.ensures ∙ c.if-not-is_live.false in
    let n = length (filter_map ask_given h) in
    let ends = filter_map end_given h in
    let t = tick_noted k c.args.now c.max-self.result a n ends c.args.self.now s.ties l c.max-self.ensures in
    let lg = ap is_live (life_same e a tt).1 ∙ l in
    let r = c.is_late-2.ensures k Response g (handed_out n c.args.self.now.ready) c.args.self.now.waiting t.response lg t.now in
    let f = later (is_late g Request) (is_late g Response) (sym r ∙ c.if-is_late-2.true) in
    stands_next k e h c.args.self.now c.fail_if_heard-then-is_late-2.new.self s tt c.fail_if_heard-then-is_late-2.ensures.settings l
    (c.fail_if_heard-then-is_late-2.ensures.ties k g (unsettled k e a) n ends (record { sizes = s.made.sizes; settings = s.made.settings }) t
    (fails_if_heard k h e Late 504 (s.right, tt) l (tick_fails k c.args.now a f)))

pub returns : goal.returns
returns c = λ k h s.
    let a = account k h in
    let e = Tick c.args.now in
    let g = gathered e a in
    let l = lives k h c.args.self.now c.is_live.result s c.is_live.ensures ∙ c.if-not-is_live.false in
    let n = length (filter_map ask_given h) in
    let ends = filter_map end_given h in
    let t = tick_noted k c.args.now c.max-self.result a n ends c.args.self.now s.ties l c.max-self.ensures in
    let lg = ap is_live (life_same e a tt).1 ∙ l in
    let q = c.is_late.ensures k Request g (handed_out n c.args.self.now.ready) c.args.self.now.waiting t.request lg t.now in
    let r = c.is_late-2.ensures k Response g (handed_out n c.args.self.now.ready) c.args.self.now.waiting t.response lg t.now in
    let f = either_false (is_late g Request) (is_late g Response) (sym q ∙ c.if-is_late.false) (sym r ∙ c.if-is_late-2.false) in
    stands_next k e h c.args.self.now c.settle_ending.new.self s tt c.settle_ending.ensures.settings l
    (c.settle_ending.ensures.ends k (unsettled k e a) n ends
    (stays k g (unsettled k e a) n ends _ t (tick_stays k h c.args.now (s.right, tt) l s.made.sizes f)))
