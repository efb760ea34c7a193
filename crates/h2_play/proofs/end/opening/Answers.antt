-- The streams that were opened so far are fewer than two.
use Rattle.std.proofs.Common.{◌<◌, true, List, [], ◌∷◌, length, refl, arith}
use Rattle.h2_model.specs.Calls.{Role, kept_streams, now}
use Rattle.h2_model.specs.History.{Call, Open, account, called, noted, start}
use Rattle.h2_play.proofs.end.opening.Goals as goal

abbrev role : Role
role = record { client = true; streams = 2 }

abbrev one : List Call
one = Open ∷ []

no-stream : length (kept_streams (now role [])) < 2
unfolding account start
no-stream = omega arith

one-stream : length (kept_streams (now role one)) < 2
unfolding account start called noted
one-stream = omega arith

pub open-requires : goal.open-requires
open-requires c = (role, [], c.in_ok-client.ensures, (refl, no-stream))

pub open-requires-2 : goal.open-requires-2
open-requires-2 c = (role, one, c.in_ok-open.ensures.opens role [] c.in_ok-client.ensures, (refl, one-stream))

pub returns : goal.returns
returns c = (
  role,
  Open ∷ one,
  c.in_ok-open-2.ensures.opens role one (c.in_ok-open.ensures.opens role [] c.in_ok-client.ensures),
  tt,
)
