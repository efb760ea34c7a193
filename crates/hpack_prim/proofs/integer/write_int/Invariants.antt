use Rattle.std.proofs.Common.{◌≡◌, ◌+◌, ◌≤◌, ◌++◌, length, take, drop}
use Rattle.hpack_prim.specs.Integers.{shortest, int}
use Rattle.hpack_prim.proofs.integer.write_int.Given as goal

-- what is written and what is left make up the whole
abbrev pub invariant-loop-rest : goal.invariant-loop-rest
invariant-loop-rest l = record {
  whole : take l.at l.out ++ shortest l.rest ≡ int l.prefix l.first l.value;
  behind : drop l.at l.out ≡ drop l.at l.fn.out;
  room : length l.out ≡ length l.fn.out;
  count : l.at + length (shortest l.rest) ≤ 6;
}

abbrev pub decreases-loop-rest : goal.decreases-loop-rest
decreases-loop-rest l = l.rest
