-- The queue gives the next bytes, and what went out whole is given.
use Rattle.std.proofs.Common.{◌≡◌, ◌∙◌, ap, sym, subst, arith, option_to_list}
use Rattle.h2_model.specs.Calls.{now}
use Rattle.h2_model.specs.Queue.{flow, behind}
use Rattle.h2_model.specs.State.{State}
use Rattle.h2_model.specs.Moves.{giving_all}
use Rattle.h2_session.proofs.Standing.{take-stands}
use Rattle.h2_session.proofs.Updates.{can-give-whole, taken-is}
use Rattle.h2_session.specs.Keeping.{CanGiveWhole}
use Rattle.h2_laws_kept.proofs.Answers.{flow-is}
use Rattle.h2_laws_kept.specs.StandsFor.{StandsFor}
use Rattle.h2_session.specs.contracts.session.Session.{the_view}
use Rattle.h2_laws_kept.specs.Kept.{Kept}
use Rattle.h2_session.proofs.session.Session.take.Goals as goal

pub returns-clause-gives : goal.returns-clause-gives
returns-clause-gives c = λ r h s.
    let same : flow (now r h).waiting ≡ flow c.self.inside.sender.waiting =
    flow-is c.args.self.now (now r h) s.holds ∙ sym (ap (λ (l : Kept). flow l.state.waiting) c.self.view_is) in
    record {
      fits = c.take-bytes.ensures.fits;
      there = rw same c.take-bytes.ensures.there;
      bytes = rw same c.take-bytes.ensures.bytes;
      some = rw same c.take-bytes.ensures.some;
    }

pub returns-clause-stands : goal.returns-clause-stands
returns-clause-stands c = λ r h s.
    let k : Kept = the_view c.self.inside in
    let given = c.note_given.ensures in
    let stands : StandsFor r k h = subst (λ (l : Kept). StandsFor r l h) (sym c.self.view_is) s in
    let bytes = c.take-bytes.result.bytes in
    let next : State = record k.state { waiting = behind bytes k.state.waiting } in
    let left : State = record k.state {
      window = c.take-bytes.new.self.window;
      waiting = c.take-bytes.new.self.waiting;
      held = c.take-bytes.new.self.held;
    } in
    let moved : left ≡ next = λ i. record k.state {
      window = c.take-bytes.ensures.window i;
      waiting = c.take-bytes.ensures.waiting i;
      held = c.take-bytes.ensures.held i;
    } in
    let fits : CanGiveWhole c.take-bytes.result.whole left =
    subst (CanGiveWhole c.take-bytes.result.whole) (sym moved)
    (can-give-whole k (now r h) stands.holds bytes c.take-bytes.result.whole c.take-bytes.ensures.whole) in
    let gave = c.take-bytes.ensures.capacity in
    let gave_held = c.take-bytes.ensures.held_capacity in
    let queue = given.capacity.queue in
    let held = given.capacity.held in
    take-stands r k c.note_given.new.self h bytes stands c.take-bytes.ensures.there
    (record {
      client = given.same.client;
      streams = given.same.streams;
      greeted = given.same.greeted;
      reader = given.same.reader;
      numbers = given.same.numbers;
      headless = given.same.headless;
      fault = given.same.fault;
      entries = given.same.entries;
    })
    (record { queue = omega arith; held = omega arith; table = given.capacity.table })
    (given.state fits ∙ ap (giving_all (option_to_list c.take-bytes.result.whole)) moved
    ∙ taken-is bytes k.state c.take-bytes.result.whole c.take-bytes.ensures.whole)
