-- The numbers so far.
use Rattle.std.proofs.Common.{◌≡◌, ◌++◌, take, map, filter, nat_lt}
use Rattle.h2_session.proofs.judging.push_above.Given as goal

abbrev pub invariant-loop-stream : goal.invariant-loop-stream
invariant-loop-stream l = l.ids.items ≡ l.initial.ids.items ++ map (λ t. t.id) (filter (λ t. nat_lt l.last t.id) (take l.stream-index l.streams))
