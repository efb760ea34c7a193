-- GOAWAY goes out, where there is room.
use Rattle.std.proofs.Common.{refl}
use Rattle.h2_session.proofs.Endings.{fails, fails-held}
use Rattle.h2_session.proofs.session.Session.fail.Goals as goal

pub returns-clause-ended : goal.returns-clause-ended
returns-clause-ended c = (
  refl,
  fails c.args.self.now c.make_room.new.self c.go_away.new.self c.args.code c.make_room.ensures.state
      c.make_room.ensures.same c.make_room.ensures.rooms c.in-Ok.ensures.room c.go_away.ensures.state c.go_away.ensures.same c.go_away.ensures.capacity,
)

pub returns-clause-fails : goal.returns-clause-fails
returns-clause-fails c a h n =
    (refl, fails-held c.args.self.now c.go_away.new.self a c.args.code h n (returns-clause-ended c).1)
