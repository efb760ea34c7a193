use Rattle.std.proofs.Common.{rules, ◌∙◌, ap, refl, subst, sym, length, filter_map, ◌∷◌}
use Rattle.filter_model.specs.Account.{is_finished, is_released}
use Rattle.filter_model.specs.Right.{Stepped, account, ask_given, end_given}
use Rattle.filter_model.specs.View.{Answered}
use Rattle.ext_msgs.specs.Messages.{answer_of}
use Rattle.exchange.specs.Answering.{unsettled}
use Rattle.exchange.specs.Heard.{heard_in, if_read}
use Rattle.exchange.specs.Stands.{IsAfter}
use Rattle.exchange.proofs.AnsweringHeard.{unheard_answer, unread_fails}
use Rattle.exchange.proofs.TimingEvents.{both_open, lives, one_closed}
use Rattle.exchange.proofs.TimingSteps.{stands_ended, stands_next}
use Rattle.exchange.proofs.TimingTies.{stays}
use Rattle.exchange.proofs.exchange.Exchange.answer.Goals as goal

pub returns-then-not-is_live-clause-stands : goal.returns-then-not-is_live-clause-stands
returns-then-not-is_live-clause-stands c = λ k h s w.
    stands_ended k (Answered (heard_in c.args.bytes.now)) h c.args.self.now s tt (lives k h c.args.self.now c.is_live.result s c.is_live.ensures ∙ c.if-not-is_live.true) refl

pub returns-then-not-is_heard-clause-stands : goal.returns-then-not-is_heard-clause-stands
returns-then-not-is_heard-clause-stands c = λ k h s w.
    let a = account k h in
    let y = heard_in c.args.bytes.now in
    let l = lives k h c.args.self.now c.is_live.result s c.is_live.ensures ∙ c.if-not-is_live.false in
    let n = length (filter_map ask_given h) in
    let ends = filter_map end_given h in
    let q = one_closed (is_finished k a) (is_released a) (sym (c.is_heard.ensures k a a a n ends s.ties l refl) ∙ c.if-not-is_heard.true) in
    stands_next k (Answered y) h c.args.self.now c.settle_ending.new.self s tt c.settle_ending.ensures.settings l
    (c.settle_ending.ensures.ends k (unsettled k (Answered y) a) n ends
    (stays k a (unsettled k (Answered y) a) n ends c.args.self.now s.ties (unheard_answer k h y (s.right, tt) l q)))

pub heard-requires : goal.heard-requires
heard-requires c =
    let k = c.requires.0 in
    let h = c.requires.1 in
    let s = c.requires.2 in
    let a = account k h in
    let l = lives k h c.args.self.now c.is_live.result s c.is_live.ensures ∙ c.if-not-is_live.false in
    let o = both_open (is_finished k a) (is_released a) (sym (c.is_heard.ensures k a a a (length (filter_map ask_given h)) (filter_map end_given h) s.ties l refl) ∙ c.if-not-is_heard.false) in
    (k, h, s, record { live = l; unfinished = o.0; unreleased = o.1; bytes = c.args.bytes.now; read = c.in-Ok.ensures; within = c.requires.3 })

pub returns-in_err-heard-in-Ok-clause-failed : goal.returns-in_err-heard-in-Ok-clause-failed
returns-in_err-heard-in-Ok-clause-failed c = λ k h s w.
    let a = account k h in
    let l = lives k h c.args.self.now c.is_live.result s c.is_live.ensures ∙ c.if-not-is_live.false in
    let o = both_open (is_finished k a) (is_released a) (sym (c.is_heard.ensures k a a a (length (filter_map ask_given h)) (filter_map end_given h) s.ties l refl) ∙ c.if-not-is_heard.false) in
    let q = c.in_err-heard-in-Ok.ensures.failed k h s (record { live = l; unfinished = o.0; unreleased = o.1; bytes = c.args.bytes.now; read = c.in-Ok.ensures; within = w }) in
    search rules

pub returns-in_ok-heard-in-Ok-clause-stands : goal.returns-in_ok-heard-in-Ok-clause-stands
returns-in_ok-heard-in-Ok-clause-stands c = λ k h s w.
    let a = account k h in
    let l = lives k h c.args.self.now c.is_live.result s c.is_live.ensures ∙ c.if-not-is_live.false in
    let o = both_open (is_finished k a) (is_released a) (sym (c.is_heard.ensures k a a a (length (filter_map ask_given h)) (filter_map end_given h) s.ties l refl) ∙ c.if-not-is_heard.false) in
    subst (λ y. IsAfter k (Stepped (Answered y) ∷ h) c.heard.new.self) (sym (ap if_read c.in-Ok.ensures))
    (c.in_ok-heard-in-Ok.ensures.stands k h s (record { live = l; unfinished = o.0; unreleased = o.1; bytes = c.args.bytes.now; read = c.in-Ok.ensures; within = w }))

pub returns-in_ok-unless_memory-in-Err-clause-stands : goal.returns-in_ok-unless_memory-in-Err-clause-stands
returns-in_ok-unless_memory-in-Err-clause-stands c = λ k h s w.
    let a = account k h in
    let y = heard_in c.args.bytes.now in
    let l = lives k h c.args.self.now c.is_live.result s c.is_live.ensures ∙ c.if-not-is_live.false in
    let n = length (filter_map ask_given h) in
    let ends = filter_map end_given h in
    let o = both_open (is_finished k a) (is_released a) (sym (c.is_heard.ensures k a a a n ends s.ties l refl) ∙ c.if-not-is_heard.false) in
    stands_next k (Answered y) h c.args.self.now c.fail.new.self s tt c.fail.ensures.settings l
    (c.fail.ensures.ties k a (unsettled k (Answered y) a) n ends s.made s.ties
    (unread_fails k h y (s.right, tt) l (c.in_ok-unless_memory-in-Err.ensures (answer_of c.args.bytes.now) c.in-Err.ensures) o.0 o.1))
