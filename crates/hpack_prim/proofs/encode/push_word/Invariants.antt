use Rattle.std.proofs.Common.{◌≡◌, ◌+◌, ◌*◌, ◌≤◌, ◌++◌, length, drop, take}
use Rattle.hpack_prim.specs.Huffman.{bits, bits_of, word}
use Rattle.hpack_prim.specs.Encoding.{spelled}
use Rattle.hpack_prim.proofs.encode.push_word.Given as goal

abbrev pub invariant-loop-held : goal.invariant-loop-held
invariant-loop-held l = record {
  whole : bits_of (take l.written l.out) ++ bits l.held l.number ≡ spelled l.fn.out l.fn.at.written l.fn.at.held l.fn.at.part ++ word l.symbol;
  counted : 8 * l.written + l.held ≡ 8 * l.fn.at.written + l.fn.at.held + length (word l.symbol);
  behind : drop l.written l.out ≡ drop l.written l.fn.out;
  more : l.fn.at.written ≤ l.written;
  length : length l.out ≡ length l.fn.out;
}

abbrev pub decreases-loop-held : goal.decreases-loop-held
decreases-loop-held l = l.held
