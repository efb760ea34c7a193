use Rattle.std.proofs.Common.{◌≡◌, ◌^◌, ◌<◌, ◌≤◌, length, drop, ◌-◌}
use Rattle.hpack_prim.specs.Integers.{groups_at}
use Rattle.hpack_prim.proofs.integer.read_groups.Given as goal

-- what is left gives the result
abbrev pub invariant-loop : goal.invariant-loop
invariant-loop l = record {
  whole : groups_at (5 - l.counter) l.value l.weight l.place (drop l.place l.bytes) ≡ groups_at 5 l.full 1 l.at (drop l.at l.bytes);
  weight : l.weight ≡ 128 ^ l.counter;
  count : l.counter ≤ 5;
  value : l.value < 2 ^ 32;
  inside : l.place ≤ length l.bytes;
  past : l.at ≤ l.place;
}
