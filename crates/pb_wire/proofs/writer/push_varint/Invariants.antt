use Rattle.std.proofs.Common.{◌≡◌, ◌++◌, ◌≤◌, take, vec_len}
use Rattle.pb_wire.specs.Canonical.{shortest}
use Rattle.pb_wire.proofs.writer.push_varint.Given as goal

-- what was written and what is left make up the whole
abbrev pub invariant-loop-rest : goal.invariant-loop-rest
invariant-loop-rest l = record {
  whole : l.out.items ++ shortest l.rest ≡ l.fn.out.items ++ shortest l.value;
  longer : vec_len l.fn.out ≤ vec_len l.out;
  kept : take (vec_len l.fn.out) l.out.items ≡ l.fn.out.items;
}

abbrev pub decreases-loop-rest : goal.decreases-loop-rest
decreases-loop-rest l = l.rest
