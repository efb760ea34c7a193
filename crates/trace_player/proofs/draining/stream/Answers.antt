use Rattle.std.proofs.Common.{refl, sym, append-nil, ◌∷◌}
use Rattle.filter_model.specs.Right.{Nexted}
use Rattle.filter_model.specs.declared.calls.Next.TheVariants as next
use Rattle.trace_model.specs.Rounds.{stream_gave}
use Rattle.trace_model.proofs.Histories.{may_sent}
use Rattle.trace_player.proofs.Given.{part_more}
use Rattle.trace_player.proofs.draining.stream.Goals as goal
use Rattle.trace_player.proofs.draining.stream.Goals.{in-Ask+in_ok-push-in-Ask+in_ok-step-in-Ask, in-Finish, in-Reset}

pub returns-in-Nothing : goal.returns-in-Nothing
returns-in-Nothing c = λ k h a.
    let p = c.nexts.invariant k h a in
    let after = rw c.in-Nothing.is at c.in_ok-next.ensures.stands k (stream_gave p.0 h) p.2 in
    record { nexts = p.0; due = p.1; asked = p.3; ended = p.4; after = after }

pub step-requires : goal.step-requires
step-requires c =
    let (k, h, a, ready) = c.requires in
    let p = c.nexts.invariant k h a in
    let after = rw c.in-Ask.is at c.in_ok-next.ensures.stands k (stream_gave p.0 h) p.2 in
    (k, Nexted (next.Ask c.in-Ask.bytes) ∷ stream_gave p.0 h, after, may_sent k (stream_gave p.0 h) c.in-Ask.bytes c.nexts.exchange p.2)

pub nexts-preserved : goal.nexts-preserved
nexts-preserved c = λ k h a.
    let p = c.nexts.invariant k h a in
    let gives = c.in_ok-next.ensures.stands k (stream_gave p.0 h) p.2 in
    elim c.match-branch-2.branch [
      | in-Ask+in_ok-push-in-Ask+in_ok-step-in-Ask w ↦
          let asked = rw w.in-Ask.is at gives in
          let sent = w.in_ok-step-in-Ask.ensures.stands k (Nexted (next.Ask w.in-Ask.bytes) ∷ stream_gave p.0 h) asked (may_sent k (stream_gave p.0 h) w.in-Ask.bytes c.nexts.exchange p.2) in
          rw (w.exchange-is, w.asks-is, w.ending-is) (part_more k h c.nexts.asks.items w.push.new.self.items c.nexts.ending c.nexts.ending c.nexts.exchange w.step.new.self (next.Ask w.in-Ask.bytes) p refl sent w.in_ok-push-in-Ask.ensures.items refl)
      | in-Finish w ↦
          let after = rw w.in-Finish.is at gives in
          rw (w.exchange-is, w.asks-is, w.ending-is) (part_more k h c.nexts.asks.items c.nexts.asks.items c.nexts.ending _ c.nexts.exchange c.next.new.self next.Finish p refl after (sym (append-nil c.nexts.asks.items)) refl)
      | in-Reset w ↦
          let after = rw w.in-Reset.is at gives in
          rw (w.exchange-is, w.asks-is, w.ending-is) (part_more k h c.nexts.asks.items c.nexts.asks.items c.nexts.ending _ c.nexts.exchange c.next.new.self next.Reset p refl after (sym (append-nil c.nexts.asks.items)) refl)
    ]

pub next-requires : goal.next-requires
next-requires c =
    let (k, h, a, ready) = c.requires in
    let p = c.nexts.invariant k h a in
    (k, stream_gave p.0 h, p.2, tt)
