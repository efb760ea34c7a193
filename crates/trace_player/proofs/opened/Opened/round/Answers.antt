use Rattle.std.proofs.Common.{refl, subst}
use Rattle.filter_model.specs.declared.calls.Side.TheVariants.{Client}
use Rattle.trace_model.specs.Rounds.{calls_fed, fed, feed_of}
use Rattle.trace_player.specs.Ties.{HasPlayedOnce, link_of}
use Rattle.trace_player.proofs.PlayedRounds.{client_state, fed_tied, played_once, ready_fed, state_is, state_of, up_state}
use Rattle.trace_player.proofs.opened.Opened.round.Goals as goal

pub feed-requires : goal.feed-requires
feed-requires c = let (k, m, t) = c.requires in (k, m.calls, t.after, t.ready)

pub feed-requires-2 : goal.feed-requires-2
feed-requires-2 c =
    let (k, m, t) = c.requires in
    let e = feed_of k Client m.calls (link_of c.args.self.now.client) in
    (k, calls_fed e m.calls, c.in_ok-client.ensures.told k m.calls t.after t.ready, ready_fed e m.calls t.ready)

pub drain_client-requires : goal.drain_client-requires
drain_client-requires c =
    let (k, m, t) = c.requires in
    let x = c.args.self.now in
    let h = calls_fed (feed_of k Client m.calls (link_of x.client)) m.calls in
    let told = c.in_ok-client.ensures.told k m.calls t.after t.ready in
    let ready = ready_fed (feed_of k Client m.calls (link_of x.client)) m.calls t.ready in (
      k,
      fed k (state_of m.calls x),
      fed_tied k m.calls x _ t.ready (c.in_ok-up.ensures.told k h told ready)
          (c.in_ok-client.ensures.link k m.calls t.after t.ready) (c.in_ok-up.ensures.link k h told ready) refl,
    )

pub drain_up-requires : goal.drain_up-requires
drain_up-requires c =
    let (k, m, t) = c.requires in
    let x = c.args.self.now in
    let h = calls_fed (feed_of k Client m.calls (link_of x.client)) m.calls in
    let told = c.in_ok-client.ensures.told k m.calls t.after t.ready in
    let ready = ready_fed (feed_of k Client m.calls (link_of x.client)) m.calls t.ready in
    let tied = fed_tied k m.calls x _ t.ready (c.in_ok-up.ensures.told k h told ready)
    (c.in_ok-client.ensures.link k m.calls t.after t.ready) (c.in_ok-up.ensures.link k h told ready) refl in
    let k1 = c.in_ok-to_client.ensures k (fed k (state_of m.calls x)) tied in
    (k, client_state (fed k (state_of m.calls x)) k1.taking, k1.tied)

pub stream-requires : goal.stream-requires
stream-requires c =
    let (k, m, t) = c.requires in
    let x = c.args.self.now in
    let h = calls_fed (feed_of k Client m.calls (link_of x.client)) m.calls in
    let told = c.in_ok-client.ensures.told k m.calls t.after t.ready in
    let ready = ready_fed (feed_of k Client m.calls (link_of x.client)) m.calls t.ready in
    let tied = fed_tied k m.calls x _ t.ready (c.in_ok-up.ensures.told k h told ready)
    (c.in_ok-client.ensures.link k m.calls t.after t.ready) (c.in_ok-up.ensures.link k h told ready) refl in
    let k1 = c.in_ok-to_client.ensures k (fed k (state_of m.calls x)) tied in
    let k2 = c.in_ok-to_up.ensures k (client_state (fed k (state_of m.calls x)) k1.taking) k1.tied in
    (k, up_state (client_state (fed k (state_of m.calls x)) k1.taking) k2.taking, k2.tied)

pub returns : goal.returns
returns c = λ k m t.
    let x = c.args.self.now in
    let h = calls_fed (feed_of k Client m.calls (link_of x.client)) m.calls in
    let told = c.in_ok-client.ensures.told k m.calls t.after t.ready in
    let ready = ready_fed (feed_of k Client m.calls (link_of x.client)) m.calls t.ready in
    let tied = fed_tied k m.calls x _ t.ready (c.in_ok-up.ensures.told k h told ready)
    (c.in_ok-client.ensures.link k m.calls t.after t.ready) (c.in_ok-up.ensures.link k h told ready) refl in
    let k1 = c.in_ok-to_client.ensures k (fed k (state_of m.calls x)) tied in
    let k2 = c.in_ok-to_up.ensures k (client_state (fed k (state_of m.calls x)) k1.taking) k1.tied in
    let k3 = c.in_ok-streamed.ensures k (up_state (client_state (fed k (state_of m.calls x)) k1.taking) k2.taking) k2.tied in
    subst (λ s. HasPlayedOnce k s c.stream.new.self c.args.brought.now c.stream.new.brought c.any_of.result) (state_is k m x t)
    (played_once k m.calls x _ _ _ _ _ _ _ _ _ _ _ _ _ (c.in_ok-client.ensures.some k m.calls t.after t.ready) (c.in_ok-up.ensures.some k h told ready)
    k1 k2 k3 c.any_of.ensures)
