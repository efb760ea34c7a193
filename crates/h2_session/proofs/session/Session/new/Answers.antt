-- All begins as the account does.
use Rattle.std.proofs.Common.{refl, ◌∙◌, arith}
use Rattle.h2_session.proofs.Parts.{new-state}
use Rattle.h2_laws_kept.proofs.Histories.{begins}
use Rattle.h2_session.proofs.session.Session.new.Goals as goal
use Rattle.h2_session.proofs.session.Session.new.Goals.{then-client, else-client}

pub returns : goal.returns
returns c = begins (record { client = c.args.client; streams = c.args.kept }) _ (record {
  role = refl;
  state = new-state c.args.client c.in_ok-decoder.decoder.table _ _ _ _ _ _ c.new-6.result.items c.in_ok-decoder.ensures.entries
      c.in_ok-decoder.ensures.limit c.in_ok-encoder.ensures.table c.in_ok-encoder.ensures.limit c.in_ok-sender.ensures.window
      c.in_ok-streams.ensures.empty c.in_ok-sender.ensures.waiting c.in_ok-sender.ensures.held c.new-6.ensures.items;
  greeted = elim c.if-client.branch [ then-client w ↦ w.result-is ∙ rw w.if-client.true refl | else-client w ↦ w.result-is ∙ rw w.if-client.false refl ];
  reader = c.in_ok-reader.ensures;
  numbers = c.new-5.ensures;
  headless = refl;
  fault = c.in_ok-decoder.ensures.fault;
  entries = c.in_ok-encoder.ensures.entries;
  room = λ e. omega (arith, c.in_ok-sender.ensures.room);
  held_room = λ e. omega (arith, c.in_ok-sender.ensures.held_room e);
  table_room = λ e. omega (arith, c.in_ok-streams.ensures.room);
}) refl
