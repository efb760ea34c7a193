use Rattle.std.proofs.Common.{◌∙◌, refl, length, filter_map}
use Rattle.filter_model.specs.Account.{gathered}
use Rattle.filter_model.specs.Cut.{Unopened}
use Rattle.filter_model.specs.Right.{account, ask_given, end_given}
use Rattle.filter_model.specs.View.{NoStream}
use Rattle.exchange.specs.Answering.{unsettled}
use Rattle.exchange.proofs.TimingEvents.{lives, no_stream_fails, no_stream_noted}
use Rattle.exchange.proofs.TimingSteps.{fails_if_heard, stands_ended, stands_next}
use Rattle.exchange.proofs.exchange.Exchange.no_stream.Goals as goal

pub returns-then-not-is_live : goal.returns-then-not-is_live
returns-then-not-is_live c = λ k h s.
    stands_ended k NoStream h c.args.self.now s tt (lives k h c.args.self.now c.is_live.result s c.is_live.ensures ∙ c.if-not-is_live.true) refl

pub fail_if_heard-requires : goal.fail_if_heard-requires
fail_if_heard-requires c =
    let k = c.requires.0 in
    let h = c.requires.1 in
    let s = c.requires.2 in
    let l = lives k h c.args.self.now c.is_live.result s c.is_live.ensures ∙ c.if-not-is_live.false in (
      k,
      gathered NoStream (account k h),
      length (filter_map ask_given h),
      filter_map end_given h,
      no_stream_noted k (account k h) (length (filter_map ask_given h)) (filter_map end_given h) c.args.self.now s.ties l,
    )

pub returns : goal.returns
returns c = λ k h s.
    let a = account k h in
    let l = lives k h c.args.self.now c.is_live.result s c.is_live.ensures ∙ c.if-not-is_live.false in
    let n = length (filter_map ask_given h) in
    let ends = filter_map end_given h in
    stands_next k NoStream h c.args.self.now c.fail_if_heard.new.self s tt c.fail_if_heard.ensures.settings l
    (c.fail_if_heard.ensures.ties k (gathered NoStream a) (unsettled k NoStream a) n ends (record { sizes = s.made.sizes; settings = s.made.settings })
    (no_stream_noted k a n ends c.args.self.now s.ties l)
    (fails_if_heard k h NoStream Unopened 500 (s.right, tt) l (no_stream_fails k a)))
