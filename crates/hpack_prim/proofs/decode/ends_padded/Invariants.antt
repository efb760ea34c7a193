use Rattle.std.proofs.Common.{◌≡◌, ◌-◌, ◌*◌, ◌≤◌, length, drop, nat_eq}
use Rattle.std.specs.List.{list_all}
use Rattle.hpack_prim.specs.Huffman.{bits_of}
use Rattle.hpack_prim.proofs.decode.ends_padded.Given as goal

abbrev pub invariant-loop-bit : goal.invariant-loop-bit
invariant-loop-bit l = record {
  whole : list_all (λ b. nat_eq b 1) (drop l.place (bits_of l.bytes)) ≡ list_all (λ b. nat_eq b 1) (drop l.at (bits_of l.bytes));
  inside : l.place ≤ 8 * length l.bytes;
}

abbrev pub decreases-loop-bit : goal.decreases-loop-bit
decreases-loop-bit l = 8 * length l.bytes - l.place
