-- The code at the front of bits, by tables.
use Rattle.std.specs.Prelude.{ℕ, ◌≡◌, ◌≤◌, List, ◌++◌, length, drop, Some, get_or}
use Rattle.hpack_prim.specs.declared.decode_table.TheConstants.{LENGTHS_8, SYMBOLS_8, LENGTHS_15, SYMBOLS_15, LENGTHS_22, SYMBOLS_22, LENGTHS_24, SYMBOLS_24, LENGTHS_28, SYMBOLS_28, LENGTHS_30, SYMBOLS_30}
use Rattle.hpack_prim.specs.Huffman.{bits, bits_of, symbol_at}

-- The length and the symbol that the tables of so many bits have.
unfoldable pub entry_8 : ℕ → ℕ × ℕ
entry_8 i = (get_or LENGTHS_8 i 0, get_or SYMBOLS_8 i 0)

unfoldable pub entry_15 : ℕ → ℕ × ℕ
entry_15 i = (get_or LENGTHS_15 i 0, get_or SYMBOLS_15 i 0)

unfoldable pub entry_22 : ℕ → ℕ × ℕ
entry_22 i = (get_or LENGTHS_22 i 0, get_or SYMBOLS_22 i 0)

unfoldable pub entry_24 : ℕ → ℕ × ℕ
entry_24 i = (get_or LENGTHS_24 i 0, get_or SYMBOLS_24 i 0)

unfoldable pub entry_28 : ℕ → ℕ × ℕ
entry_28 i = (get_or LENGTHS_28 i 0, get_or SYMBOLS_28 i 0)

unfoldable pub entry_30 : ℕ → ℕ × ℕ
entry_30 i = (get_or LENGTHS_30 i 0, get_or SYMBOLS_30 i 0)

-- bits begin with the code of a symbol, which has this length
pub record Begins (bs : List ℕ) (len symbol : ℕ) : Type 0 where
  pub some : 5 ≤ len
  pub fits : len ≤ length bs
  pub is : symbol_at bs ≡ Some (symbol, drop len bs)

-- the lowest bits of a number, so many, are those at a place, with any bits behind the last
pub record HoldsBits (bytes : List ℕ) (at number held : ℕ) : Type 0 where
  pub tail : List ℕ
  pub more : List ℕ
  pub whole : bits held number ++ more ≡ drop at (bits_of bytes) ++ tail
