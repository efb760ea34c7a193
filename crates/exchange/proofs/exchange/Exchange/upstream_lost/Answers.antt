use Rattle.std.proofs.Common.{refl, sym, ◌∙◌, ap, subst, ◌≡◌, ◌||◌, false, true, length, filter_map}
use Rattle.filter_model.specs.Account.{is_finished}
use Rattle.filter_model.specs.Cut.{is_whole_and_done}
use Rattle.filter_model.specs.Right.{account, ask_given, end_given}
use Rattle.filter_model.specs.View.{Lost}
use Rattle.filter_model.specs.declared.calls.Side.TheVariants.{Upstream}
use Rattle.exchange.specs.Answering.{unsettled}
use Rattle.exchange.specs.Stands.{AtRest, handed_out}
use Rattle.exchange.proofs.ReadingHeard.{replied_settings}
use Rattle.exchange.proofs.ReadingLost.{says_harmless, upstream_replied, upstream_stays}
use Rattle.exchange.proofs.TimingSteps.{stands_next}
use Rattle.exchange.proofs.TimingTies.{committed_in}
use Rattle.exchange.proofs.exchange.Exchange.upstream_lost.Goals as goal

pub returns-then-is_harmless : goal.returns-then-is_harmless
returns-then-is_harmless c k h s l =
    let a = account k h in
    let x = c.args.self.now in
    let e = Lost Upstream c.args.how in
    let n = length (filter_map ask_given h) in
    let ends = filter_map end_given h in
    let g = c.given_whole-given.ensures k a a a n ends s.ties l refl in
    let i : (is_finished k a || is_whole_and_done k a Upstream) ≡ true = says_harmless k Upstream a _ _ x.response s.ties.response l c.is_harmless.result _ _ _ c.is_harmless.ensures
    (c.is_finished-finished.ensures k a a a n ends s.ties l refl) c.is_whole-whole.ensures g.request ∙ c.if-is_harmless.true in
    stands_next k e h x c.settle_ending.new.self s tt c.settle_ending.ensures.settings l
    (c.settle_ending.ensures.ends k (unsettled k e a) n ends (upstream_stays k h c.args.how x s l i))

pub returns : goal.returns
returns c k h s l =
    let a = account k h in
    let x = c.args.self.now in
    let e = Lost Upstream c.args.how in
    let n = length (filter_map ask_given h) in
    let ends = filter_map end_given h in
    let t = s.ties.response in
    let g = c.given_whole-given.ensures k a a a n ends s.ties l refl in
    let q = c.is_committed-committed.ensures t.story.past t.stands.half ∙ committed_in k a (handed_out n x.ready) x.waiting x.response t l in
    let i : (is_finished k a || is_whole_and_done k a Upstream) ≡ false = says_harmless k Upstream a _ _ x.response s.ties.response l c.is_harmless.result _ _ _ c.is_harmless.ensures
    (c.is_finished-finished.ensures k a a a n ends s.ties l refl) c.is_whole-whole.ensures g.request ∙ c.if-is_harmless.false in
    stands_next k e h x c.settle_ending-2.new.self s tt
    (c.settle_ending-2.ensures.settings ∙ ap (λ z. z.settings) c.reply.ensures ∙ replied_settings c.loss_status.result c.is_committed-committed.result c.given_whole-given.result (record x { response = record x.response { lost = true } })) l
    (c.settle_ending-2.ensures.ends k (unsettled k e a) n ends
    (subst (λ y. AtRest k (unsettled k e a) n ends y) (sym c.reply.ensures)
    (upstream_replied k h c.args.how c.loss_status.result c.is_committed-committed.result c.given_whole-given.result x s l i c.loss_status.ensures q g)))
