use Rattle.std.proofs.Common.{◌≡◌, ◌+◌, ◌*◌, ◌≤◌, length, drop}
use Rattle.hpack_prim.specs.Huffman.{words}
use Rattle.hpack_prim.proofs.encode.huff_len.Given as goal

abbrev pub invariant-loop-byte : goal.invariant-loop-byte
invariant-loop-byte l = record {
  whole : l.total + length (words (drop l.byte-index l.bytes)) ≡ length (words l.bytes);
  bound : l.total ≤ 30 * l.byte-index;
}
