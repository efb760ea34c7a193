-- The frame counts, its event is told, and what is owed for it fits the room that was made.
use Rattle.std.proofs.Common.{sym, ◌∙◌, ap, arith}
use Rattle.h2_laws_kept.specs.Kept.{Kept}
use Rattle.h2_session.proofs.Settling.{same-through, settles}
use Rattle.h2_session.proofs.session.Session.settle.Goals as goal

pub owe_all-requires-clause-room : goal.owe_all-requires-clause-room
owe_all-requires-clause-room c = omega (
  arith,
  c.requires.queue,
  c.in_ok-owed.ensures.count,
  c.in_ok-receive.ensures.rooms.queue,
  c.end_block.ensures.rooms.queue,
  c.tell.ensures.rooms.queue,
  c.refuse.ensures.rooms.queue,
)

pub owe_all-requires-clause-held : goal.owe_all-requires-clause-held
owe_all-requires-clause-held c d = omega (
  arith,
  c.requires.held (sym (same-through c.args.self.now c.receive.new.self c.end_block.new.self c.tell.new.self c.refuse.new.self
      c.in_ok-receive.ensures.same c.end_block.ensures.same c.tell.ensures.same c.refuse.ensures.same).client ∙ d),
  c.in_ok-owed.ensures.count,
  c.in_ok-receive.ensures.rooms.held,
  c.end_block.ensures.rooms.held,
  c.tell.ensures.rooms.held,
  c.refuse.ensures.rooms.held,
)

pub returns-clause-settled : goal.returns-clause-settled
returns-clause-settled c b r =
    let fault = c.stream_fault-fault.ensures b r.on r.whole in
    settles c.args.self.now c.args.frame c.args.whole b r c.receive.new.self c.end_block.new.self c.tell.new.self c.refuse.new.self c.owe_all.new.self
    c.stream_fault-fault.result c.is_on_live-live.result c.event_of-event.result c.in_ok-owed.owed.items c.in_ok-refused.refused.items
    (c.is_on_live-live.ensures b (ap (λ (x : Kept). x.state.streams) c.self.view_is ∙ r.on.streams)) fault c.event_of-event.ensures (c.in_ok-owed.ensures.frames b r.on r.counts fault)
    c.in_ok-owed.ensures.count c.in_ok-refused.ensures c.in_ok-receive.ensures.state c.in_ok-receive.ensures.faulty c.end_block.ensures.state
    c.tell.ensures.state c.refuse.ensures.state
    (same-through c.args.self.now c.receive.new.self c.end_block.new.self c.tell.new.self c.refuse.new.self c.in_ok-receive.ensures.same
    c.end_block.ensures.same c.tell.ensures.same c.refuse.ensures.same)
    c.owe_all.ensures.state
