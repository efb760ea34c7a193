use Rattle.std.proofs.Common.{◌≡◌, ◌≤◌, ◌-◌, ◌*◌, length}
use Rattle.hpack_prim.specs.Decoding.{HoldsBits}
use Rattle.hpack_prim.proofs.Decodings.{Decoding}
use Rattle.hpack_prim.proofs.decode.huff_decode.Given as goal

abbrev pub invariant-loop-symbol : goal.invariant-loop-symbol
invariant-loop-symbol l = record {
  decoding : Decoding l.bytes l.out l.written l.at;
  taken : HoldsBits l.bytes l.at l.taken.number l.taken.held;
  most : l.taken.held ≤ 64;
  length : length l.out ≡ length l.fn.out;
}

abbrev pub decreases-loop-symbol : goal.decreases-loop-symbol
decreases-loop-symbol l = 8 * length l.bytes - l.at
