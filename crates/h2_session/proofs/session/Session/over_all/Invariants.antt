-- The streams before `at` are over.
use Rattle.std.proofs.Common.{◌≡◌, drop}
use Rattle.h2_session.specs.Keeping.{KeepsRoom}
use Rattle.h2_session.specs.Steps.{resetting_all}
use Rattle.h2_laws_kept.specs.Kept.{IsSame}
use Rattle.h2_laws_kept.specs.Rooms.{KeepsCapacity}
use Rattle.h2_session.proofs.session.Session.over_all.Given as goal

abbrev pub invariant-loop-at : goal.invariant-loop-at
invariant-loop-at l = record {
  state : resetting_all l.ids.items l.initial.self.state ≡ resetting_all (drop l.at l.ids.items) l.self.state;
  same : IsSame l.initial.self l.self;
  capacity : KeepsCapacity l.initial.self l.self;
  rooms : KeepsRoom l.initial.self l.self;
}
