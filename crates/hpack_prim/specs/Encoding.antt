-- Bits written one by one.
use Rattle.std.specs.Prelude.{ℕ, ◌^◌, ◌<◌, List, ◌++◌, take, get_or}
use Rattle.hpack_prim.specs.declared.encode_table.TheConstants.{CODES, LENGTHS}
use Rattle.hpack_prim.specs.Huffman.{bits, bits_of}

-- the bits so far: of whole bytes, and of one that is not whole
abbrev pub spelled : List ℕ → ℕ → ℕ → ℕ → List ℕ
spelled out written held part = bits_of (take written out) ++ bits held part

pub record IsPending (held part : ℕ) : Type 0 where
  pub few : held < 8
  pub fits : part < 2 ^ held

-- a symbol's word as a number, and the word's length
unfoldable pub code : ℕ → ℕ
code symbol = get_or CODES symbol 0

unfoldable pub len : ℕ → ℕ
len symbol = get_or LENGTHS symbol 0
