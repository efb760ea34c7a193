use Rattle.std.proofs.Common.{refl, sym, ◌∙◌, ap, subst, arith, true, ◌≡◌}
use Rattle.std.specs.Prelude.{[], ◌∷◌, take}
use Rattle.http_model.specs.declared.types.Direction.TheVariants.{Request, Response}
use Rattle.filter_model.specs.Right.{account, Failed, Stepped}
use Rattle.filter_model.specs.Step.{is_live, room}
use Rattle.filter_model.specs.View as view
use Rattle.filter_model.specs.declared.calls.Side.TheVariants.{Client, Upstream}
use Rattle.h1_message.specs.Stages as reads
use Rattle.exchange.specs.Stands.{IsAfter, source_of}
use Rattle.exchange.proofs.ReadingComes.{as_many, client_comes, failed_step, on_err, upstream_comes}
use Rattle.exchange.proofs.ReadingRoom.{dead_room}
use Rattle.exchange.proofs.TimingEvents.{lives}
use Rattle.exchange.proofs.TimingSteps.{stands_ended}
use Rattle.exchange.proofs.exchange.Exchange.bytes.Goals as goal

pub returns-then-not-is_live-clause-taken : goal.returns-then-not-is_live-clause-taken
returns-then-not-is_live-clause-taken c k h s =
    let z : room k (account k h) c.args.side ≡ 0 = dead_room k (account k h) c.args.side (lives k h c.args.self.now c.is_live.result s c.is_live.ensures ∙ c.if-not-is_live.true) in
    omega (arith, z)

pub returns-then-not-is_live-clause-stands : goal.returns-then-not-is_live-clause-stands
returns-then-not-is_live-clause-stands c k h s =
    stands_ended k (view.Bytes c.args.side []) h c.args.self.now s (omega arith) (lives k h c.args.self.now c.is_live.result s c.is_live.ensures ∙ c.if-not-is_live.true) refl

pub client_brought-requires : goal.client_brought-requires
client_brought-requires c =
    let k = c.requires.0 in
    let h = c.requires.1 in
    let s = c.requires.2 in
    let x = c.args.self.now in
    let t = s.ties.request in
    let l : is_live (account k h).fate ≡ true = lives k h c.args.self.now c.is_live.result s c.is_live.ensures ∙ c.if-not-is_live.false in
    let b = c.split_at.result.0.now in
    let m = as_many c.args.bytes.now b c.min-n.result (room k (account k h) Client) c.room.result c.split_at.ensures.front c.min-n.ensures (c.room.ensures k h s ∙ ap (room k (account k h)) c.in-Client.is) in
    let r = subst (λ z. reads.StandsFor z x.request.reader) t.source t.stands.reader in
    let y = client_comes k h (view.Bytes Client b) c.in_ok-news-in-Client.news x c.feed.new.self s m l tt refl
    (c.in_ok-news-in-Client.ensures.stands (source_of Request (account k h)) r) (c.in_ok-news-in-Client.ensures.news (source_of Request (account k h)) r) in
    (k, h, view.Bytes Client b, y)

pub returns-in_ok-news-in-Client-clause-stands : goal.returns-in_ok-news-in-Client-clause-stands
returns-in_ok-news-in-Client-clause-stands c k h s =
    let x = c.args.self.now in
    let t = s.ties.request in
    let l : is_live (account k h).fate ≡ true = lives k h c.args.self.now c.is_live.result s c.is_live.ensures ∙ c.if-not-is_live.false in
    let b = c.split_at.result.0.now in
    let m = as_many c.args.bytes.now b c.min-n.result (room k (account k h) Client) c.room.result c.split_at.ensures.front c.min-n.ensures (c.room.ensures k h s ∙ ap (room k (account k h)) c.in-Client.is) in
    let r = subst (λ z. reads.StandsFor z x.request.reader) t.source t.stands.reader in
    let y = client_comes k h (view.Bytes Client b) c.in_ok-news-in-Client.news x c.feed.new.self s m l tt refl
    (c.in_ok-news-in-Client.ensures.stands (source_of Request (account k h)) r) (c.in_ok-news-in-Client.ensures.news (source_of Request (account k h)) r) in
    subst (λ d. IsAfter k (Stepped (view.Bytes d (take c.min-n.result c.args.bytes.now)) ∷ h) c.client_brought.new.self) (sym c.in-Client.is)
    (subst (λ q. IsAfter k (Stepped (view.Bytes Client q) ∷ h) c.client_brought.new.self) c.split_at.ensures.front (c.client_brought.ensures k h (view.Bytes Client b) y))

pub upstream_brought-requires : goal.upstream_brought-requires
upstream_brought-requires c =
    let k = c.requires.0 in
    let h = c.requires.1 in
    let s = c.requires.2 in
    let x = c.args.self.now in
    let t = s.ties.response in
    let l : is_live (account k h).fate ≡ true = lives k h c.args.self.now c.is_live.result s c.is_live.ensures ∙ c.if-not-is_live.false in
    let b = c.split_at.result.0.now in
    let m = as_many c.args.bytes.now b c.min-n.result (room k (account k h) Upstream) c.room.result c.split_at.ensures.front c.min-n.ensures (c.room.ensures k h s ∙ ap (room k (account k h)) c.in-Upstream.is) in
    let r = subst (λ z. reads.StandsFor z x.response.reader) t.source t.stands.reader in
    let y = upstream_comes k h (view.Bytes Upstream b) c.in_ok-news-in-Upstream.news x c.feed-in-Upstream.new.self s m l tt refl
    (c.in_ok-news-in-Upstream.ensures.stands (source_of Response (account k h)) r) (c.in_ok-news-in-Upstream.ensures.news (source_of Response (account k h)) r) in
    (k, h, view.Bytes Upstream b, y)

pub returns-in_ok-news-in-Upstream-clause-stands : goal.returns-in_ok-news-in-Upstream-clause-stands
returns-in_ok-news-in-Upstream-clause-stands c k h s =
    let x = c.args.self.now in
    let t = s.ties.response in
    let l : is_live (account k h).fate ≡ true = lives k h c.args.self.now c.is_live.result s c.is_live.ensures ∙ c.if-not-is_live.false in
    let b = c.split_at.result.0.now in
    let m = as_many c.args.bytes.now b c.min-n.result (room k (account k h) Upstream) c.room.result c.split_at.ensures.front c.min-n.ensures (c.room.ensures k h s ∙ ap (room k (account k h)) c.in-Upstream.is) in
    let r = subst (λ z. reads.StandsFor z x.response.reader) t.source t.stands.reader in
    let y = upstream_comes k h (view.Bytes Upstream b) c.in_ok-news-in-Upstream.news x c.feed-in-Upstream.new.self s m l tt refl
    (c.in_ok-news-in-Upstream.ensures.stands (source_of Response (account k h)) r) (c.in_ok-news-in-Upstream.ensures.news (source_of Response (account k h)) r) in
    subst (λ d. IsAfter k (Stepped (view.Bytes d (take c.min-n.result c.args.bytes.now)) ∷ h) c.upstream_brought.new.self) (sym c.in-Upstream.is)
    (subst (λ q. IsAfter k (Stepped (view.Bytes Upstream q) ∷ h) c.upstream_brought.new.self) c.split_at.ensures.front (c.upstream_brought.ensures k h (view.Bytes Upstream b) y))

pub returns-in_err-news-in-Client-clause-failed : goal.returns-in_err-news-in-Client-clause-failed
returns-in_err-news-in-Client-clause-failed c k h s =
    let x = c.args.self.now in
    on_err c.from_residual.result
    (subst (λ z. IsAfter k (Failed ∷ h) (record x { request = record x.request { reader = z } })) (sym c.in_err-news-in-Client.ensures.unchanged) (failed_step k h x s))

pub returns-in_err-news-in-Upstream-clause-failed : goal.returns-in_err-news-in-Upstream-clause-failed
returns-in_err-news-in-Upstream-clause-failed c k h s =
    let x = c.args.self.now in
    on_err c.from_residual-in_err-news-in-Upstream.result
    (subst (λ z. IsAfter k (Failed ∷ h) (record x { response = record x.response { reader = z } })) (sym c.in_err-news-in-Upstream.ensures.unchanged) (failed_step k h x s))
