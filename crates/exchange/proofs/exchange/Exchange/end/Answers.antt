use Rattle.std.proofs.Common.{refl, sym, ◌∙◌, subst, true, ◌≡◌}
use Rattle.std.specs.Prelude.{◌∷◌, filter_map, length}
use Rattle.http_model.specs.declared.types.Direction.TheVariants.{Request, Response}
use Rattle.filter_model.specs.Right.{account, Stepped, ask_given, end_given}
use Rattle.filter_model.specs.Step.{is_live}
use Rattle.filter_model.specs.View as view
use Rattle.filter_model.specs.declared.calls.Side.TheVariants.{Client, Upstream}
use Rattle.h1_message.specs.Stages as reads
use Rattle.exchange.specs.Answering.{unsettled}
use Rattle.exchange.specs.Stands.{IsAfter, source_of}
use Rattle.exchange.proofs.ReadingComes.{client_comes, has_left, stays_begun, upstream_comes}
use Rattle.exchange.proofs.ReadingLeft.{left_rests}
use Rattle.exchange.proofs.TimingEvents.{lives}
use Rattle.exchange.proofs.TimingSteps.{stands_ended, stands_for}
use Rattle.exchange.proofs.exchange.Exchange.end.Goals as goal

pub returns-then-not-is_live : goal.returns-then-not-is_live
returns-then-not-is_live c k h s =
    stands_ended k (view.End c.args.side) h c.args.self.now s tt (lives k h c.args.self.now c.is_live.result s c.is_live.ensures ∙ c.if-not-is_live.true) refl

pub client_brought-requires : goal.client_brought-requires
client_brought-requires c =
    let k = c.requires.0 in
    let h = c.requires.1 in
    let s = c.requires.2 in
    let x = c.args.self.now in
    let t = s.ties.request in
    let l : is_live (account k h).fate ≡ true = lives k h c.args.self.now c.is_live.result s c.is_live.ensures ∙ c.if-not-is_live.false in
    let r = subst (λ z. reads.StandsFor z x.request.reader) t.source t.stands.reader in
    let b = stays_begun (account k h) c.is_begun-left.result (c.is_begun-left.ensures (source_of Request (account k h)) r) c.if-left.false in
    let y = client_comes k h (view.End Client) c.end-news.result x c.end-news.new.self s tt l tt b
    (c.end-news.ensures.stands (source_of Request (account k h)) r) (c.end-news.ensures.news (source_of Request (account k h)) r) in
    (k, h, view.End Client, y)

pub returns-else-left : goal.returns-else-left
returns-else-left c k h s =
    let x = c.args.self.now in
    let t = s.ties.request in
    let l : is_live (account k h).fate ≡ true = lives k h c.args.self.now c.is_live.result s c.is_live.ensures ∙ c.if-not-is_live.false in
    let r = subst (λ z. reads.StandsFor z x.request.reader) t.source t.stands.reader in
    let b = stays_begun (account k h) c.is_begun-left.result (c.is_begun-left.ensures (source_of Request (account k h)) r) c.if-left.false in
    let y = client_comes k h (view.End Client) c.end-news.result x c.end-news.new.self s tt l tt b
    (c.end-news.ensures.stands (source_of Request (account k h)) r) (c.end-news.ensures.news (source_of Request (account k h)) r) in
    subst (λ d. IsAfter k (Stepped (view.End d) ∷ h) c.client_brought.new.self) (sym c.in-Client.is) (c.client_brought.ensures k h (view.End Client) y)

pub upstream_brought-requires : goal.upstream_brought-requires
upstream_brought-requires c =
    let k = c.requires.0 in
    let h = c.requires.1 in
    let s = c.requires.2 in
    let x = c.args.self.now in
    let t = s.ties.response in
    let l : is_live (account k h).fate ≡ true = lives k h c.args.self.now c.is_live.result s c.is_live.ensures ∙ c.if-not-is_live.false in
    let r = subst (λ z. reads.StandsFor z x.response.reader) t.source t.stands.reader in
    let y = upstream_comes k h (view.End Upstream) c.end-news-in-Upstream.result x c.end-news-in-Upstream.new.self s tt l tt refl
    (c.end-news-in-Upstream.ensures.stands (source_of Response (account k h)) r) (c.end-news-in-Upstream.ensures.news (source_of Response (account k h)) r) in
    (k, h, view.End Upstream, y)

pub returns-in-Upstream : goal.returns-in-Upstream
returns-in-Upstream c k h s =
    let x = c.args.self.now in
    let t = s.ties.response in
    let l : is_live (account k h).fate ≡ true = lives k h c.args.self.now c.is_live.result s c.is_live.ensures ∙ c.if-not-is_live.false in
    let r = subst (λ z. reads.StandsFor z x.response.reader) t.source t.stands.reader in
    let y = upstream_comes k h (view.End Upstream) c.end-news-in-Upstream.result x c.end-news-in-Upstream.new.self s tt l tt refl
    (c.end-news-in-Upstream.ensures.stands (source_of Response (account k h)) r) (c.end-news-in-Upstream.ensures.news (source_of Response (account k h)) r) in
    subst (λ d. IsAfter k (Stepped (view.End d) ∷ h) c.upstream_brought.new.self) (sym c.in-Upstream.is) (c.upstream_brought.ensures k h (view.End Upstream) y)

pub returns-then-left : goal.returns-then-left
returns-then-left c k h s =
    let x = c.args.self.now in
    let t = s.ties.request in
    let l : is_live (account k h).fate ≡ true = lives k h c.args.self.now c.is_live.result s c.is_live.ensures ∙ c.if-not-is_live.false in
    let r = subst (λ z. reads.StandsFor z x.request.reader) t.source t.stands.reader in
    let b = has_left (account k h) c.is_begun-left.result (c.is_begun-left.ensures (source_of Request (account k h)) r) c.if-left.true in
    let y = left_rests k h x c.end-news.new.self s l b (c.end-news.ensures.stands (source_of Request (account k h)) r) in
    subst (λ d. IsAfter k (Stepped (view.End d) ∷ h) c.settle_ending.new.self) (sym c.in-Client.is)
    (stands_for k h (view.End Client) x c.settle_ending.new.self (s.right, tt) s.made c.settle_ending.ensures.settings l
    (c.settle_ending.ensures.ends k (unsettled k (view.End Client) (account k h)) (length (filter_map ask_given h)) (filter_map end_given h) y))
