use Rattle.std.proofs.Common.{◌≡◌, ◌+◌, ◌-◌, ◌*◌, ◌%◌, ◌<◌, ◌++◌, length, drop, replicate, ℕ}
use Rattle.hpack_prim.specs.Huffman.{words}
use Rattle.hpack_prim.specs.Encoding.{spelled, IsPending}
use Rattle.hpack_prim.proofs.encode.huff_encode.Given as goal

abbrev pub invariant-loop-byte : goal.invariant-loop-byte
invariant-loop-byte l = record {
  whole : spelled l.out l.at.written l.at.held l.at.part ++ words (drop l.byte-index l.bytes) ≡ words l.bytes;
  counted : 8 * l.at.written + l.at.held + length (words (drop l.byte-index l.bytes)) ≡ length (words l.bytes);
  pending : IsPending l.at.held l.at.part;
  behind : drop l.at.written l.out ≡ drop l.at.written l.fn.out;
  length : length l.out ≡ length l.fn.out;
}

abbrev pub invariant-loop-at : goal.invariant-loop-at
invariant-loop-at l = record {
  pads : ℕ;
  few : pads + (8 - l.at.held) % 8 < 8;
  whole : spelled l.out l.at.written l.at.held l.at.part ≡ words l.bytes ++ replicate pads 1;
  counted : 8 * l.at.written + l.at.held ≡ length (words l.bytes) + pads;
  pending : IsPending l.at.held l.at.part;
  behind : drop l.at.written l.out ≡ drop l.at.written l.fn.out;
  length : length l.out ≡ length l.fn.out;
}

abbrev pub decreases-loop-at : goal.decreases-loop-at
decreases-loop-at l = (8 - l.at.held) % 8
