-- The Huffman code: words of bits for the symbols from 0 to 256, of which 256 is the end.
use Rattle.std.specs.Prelude.{ℕ, zero, suc, ◌≡◌, ◌+◌, ◌-◌, ◌*◌, ◌/◌, ◌%◌, ◌^◌, ◌<◌, nat_lt, nat_eq, Bool, true, false, ◌&&◌, List, [], ◌∷◌, ◌++◌, length, Result, Ok, Err, Option, Some, None, if◌then◌else◌, position, get_or}
use Rattle.std.specs.List.{flat_map, list_all, AllByRecursion}
use Rattle.hpack_prim.specs.declared.fault.PrimFault.{PrimFault}
use Rattle.hpack_prim.specs.declared.fault.PrimFault.TheVariants.{Truncated, TooLarge, Eos, Padding}

-- the lowest bits of a number, so many, highest first
unfoldable pub bits : ℕ → ℕ → List ℕ
bits zero n = []
bits (suc k) n = (n / 2 ^ k % 2) ∷ bits k n

-- the bits of bytes
unfoldable pub bits_of : List ℕ → List ℕ
bits_of bytes = flat_map (bits 8) bytes

-- symbols whose words have one length
pub record Row : Type 0 where
  pub len : ℕ
  pub symbols : List ℕ

abbrev pub row : ℕ → List ℕ → Row
row len symbols = record { len = len; symbols = symbols }

-- the table: words of one length run in the order of their symbols
unfoldable pub rows : List Row
rows =
    row 5 (48 ∷ 49 ∷ 50 ∷ 97 ∷ 99 ∷ 101 ∷ 105 ∷ 111 ∷ 115 ∷ 116 ∷ []) ∷
    row 6 (32 ∷ 37 ∷ 45 ∷ 46 ∷ 47 ∷ 51 ∷ 52 ∷ 53 ∷ 54 ∷ 55 ∷ 56 ∷ 57 ∷ 61 ∷ 65 ∷ 95 ∷ 98 ∷ 100 ∷ 102 ∷ 103 ∷ 104 ∷ 108 ∷ 109 ∷ 110 ∷ 112 ∷ 114 ∷ 117 ∷ []) ∷
    row 7 (58 ∷ 66 ∷ 67 ∷ 68 ∷ 69 ∷ 70 ∷ 71 ∷ 72 ∷ 73 ∷ 74 ∷ 75 ∷ 76 ∷ 77 ∷ 78 ∷ 79 ∷ 80 ∷ 81 ∷ 82 ∷ 83 ∷ 84 ∷ 85 ∷ 86 ∷ 87 ∷ 89 ∷ 106 ∷ 107 ∷ 113 ∷ 118 ∷ 119 ∷ 120 ∷ 121 ∷ 122 ∷ []) ∷
    row 8 (38 ∷ 42 ∷ 44 ∷ 59 ∷ 88 ∷ 90 ∷ []) ∷
    row 10 (33 ∷ 34 ∷ 40 ∷ 41 ∷ 63 ∷ []) ∷
    row 11 (39 ∷ 43 ∷ 124 ∷ []) ∷
    row 12 (35 ∷ 62 ∷ []) ∷
    row 13 (0 ∷ 36 ∷ 64 ∷ 91 ∷ 93 ∷ 126 ∷ []) ∷
    row 14 (94 ∷ 125 ∷ []) ∷
    row 15 (60 ∷ 96 ∷ 123 ∷ []) ∷
    row 19 (92 ∷ 195 ∷ 208 ∷ []) ∷
    row 20 (128 ∷ 130 ∷ 131 ∷ 162 ∷ 184 ∷ 194 ∷ 224 ∷ 226 ∷ []) ∷
    row 21 (153 ∷ 161 ∷ 167 ∷ 172 ∷ 176 ∷ 177 ∷ 179 ∷ 209 ∷ 216 ∷ 217 ∷ 227 ∷ 229 ∷ 230 ∷ []) ∷
    row 22 (129 ∷ 132 ∷ 133 ∷ 134 ∷ 136 ∷ 146 ∷ 154 ∷ 156 ∷ 160 ∷ 163 ∷ 164 ∷ 169 ∷ 170 ∷ 173 ∷ 178 ∷ 181 ∷ 185 ∷ 186 ∷ 187 ∷ 189 ∷ 190 ∷ 196 ∷ 198 ∷ 228 ∷ 232 ∷ 233 ∷ []) ∷
    row 23 (1 ∷ 135 ∷ 137 ∷ 138 ∷ 139 ∷ 140 ∷ 141 ∷ 143 ∷ 147 ∷ 149 ∷ 150 ∷ 151 ∷ 152 ∷ 155 ∷ 157 ∷ 158 ∷ 165 ∷ 166 ∷ 168 ∷ 174 ∷ 175 ∷ 180 ∷ 182 ∷ 183 ∷ 188 ∷ 191 ∷ 197 ∷ 231 ∷ 239 ∷ []) ∷
    row 24 (9 ∷ 142 ∷ 144 ∷ 145 ∷ 148 ∷ 159 ∷ 171 ∷ 206 ∷ 215 ∷ 225 ∷ 236 ∷ 237 ∷ []) ∷
    row 25 (199 ∷ 207 ∷ 234 ∷ 235 ∷ []) ∷
    row 26 (192 ∷ 193 ∷ 200 ∷ 201 ∷ 202 ∷ 205 ∷ 210 ∷ 213 ∷ 218 ∷ 219 ∷ 238 ∷ 240 ∷ 242 ∷ 243 ∷ 255 ∷ []) ∷
    row 27 (203 ∷ 204 ∷ 211 ∷ 212 ∷ 214 ∷ 221 ∷ 222 ∷ 223 ∷ 241 ∷ 244 ∷ 245 ∷ 246 ∷ 247 ∷ 248 ∷ 250 ∷ 251 ∷ 252 ∷ 253 ∷ 254 ∷ []) ∷
    row 28 (2 ∷ 3 ∷ 4 ∷ 5 ∷ 6 ∷ 7 ∷ 8 ∷ 11 ∷ 12 ∷ 14 ∷ 15 ∷ 16 ∷ 17 ∷ 18 ∷ 19 ∷ 20 ∷ 21 ∷ 23 ∷ 24 ∷ 25 ∷ 26 ∷ 27 ∷ 28 ∷ 29 ∷ 30 ∷ 31 ∷ 127 ∷ 220 ∷ 249 ∷ []) ∷
    row 30 (10 ∷ 13 ∷ 22 ∷ 256 ∷ []) ∷
    []

-- The word of a symbol: in the first row that has it, at j, it is the row's first code plus j. The first code of the
-- next row is the last one plus one, shifted left by the difference of the lengths.
unfoldable pub word_in : List Row → ℕ → ℕ → ℕ → List ℕ
word_in [] len code s = []
word_in (r ∷ rs) len code s =
    let first = code * 2 ^ (r.len - len) in
    elim (position (λ x. nat_eq x s) r.symbols) [ Some j ↦ bits r.len (first + j) | None ↦ word_in rs r.len (first + length r.symbols) s ]

unfoldable pub word : ℕ → List ℕ
word s = word_in rows 5 0 s

-- the joined words of symbols
unfoldable pub words : List ℕ → List ℕ
words symbols = flat_map word symbols

-- A walk down the lengths from 1 on, of which each has so many words: the rank of the word at the front, and the bits
-- behind it. `gap` is how far the bits so far stand above the words passed.
unfoldable pub walk : List ℕ → ℕ → ℕ → List ℕ → Option (ℕ × List ℕ)
walk [] rank gap bs = None
walk (c ∷ cs) rank gap [] = None
walk (c ∷ cs) rank gap (b ∷ bs) =
    if nat_lt (2 * gap + b) c then Some (rank + (2 * gap + b), bs) else walk cs (rank + c) (2 * gap + b - c) bs

-- how many words there are of each length from 1 on, and all symbols in the order of their words
unfoldable pub counts : List ℕ
counts = 0 ∷ 0 ∷ 0 ∷ 0 ∷ 10 ∷ 26 ∷ 32 ∷ 6 ∷ 0 ∷ 5 ∷ 3 ∷ 2 ∷ 6 ∷ 2 ∷ 3 ∷ 0 ∷ 0 ∷ 0 ∷ 3 ∷ 8 ∷ 13 ∷ 26 ∷ 29 ∷ 12 ∷ 4 ∷ 15 ∷ 19 ∷ 29 ∷ 0 ∷ 4 ∷ []

unfoldable pub in_order : List ℕ
in_order = 48 ∷ 49 ∷ 50 ∷ 97 ∷ 99 ∷ 101 ∷ 105 ∷ 111 ∷ 115 ∷ 116 ∷ 32 ∷ 37 ∷ 45 ∷ 46 ∷ 47 ∷ 51 ∷ 52 ∷ 53 ∷ 54 ∷ 55 ∷ 56 ∷ 57 ∷ 61 ∷ 65 ∷ 95 ∷ 98 ∷ 100 ∷ 102 ∷ 103 ∷ 104 ∷ 108 ∷ 109 ∷ 110 ∷ 112 ∷ 114 ∷ 117 ∷ 58 ∷ 66 ∷ 67 ∷ 68 ∷ 69 ∷ 70 ∷ 71 ∷ 72 ∷ 73 ∷ 74 ∷ 75 ∷ 76 ∷ 77 ∷ 78 ∷ 79 ∷ 80 ∷ 81 ∷ 82 ∷ 83 ∷ 84 ∷ 85 ∷ 86 ∷ 87 ∷ 89 ∷ 106 ∷ 107 ∷ 113 ∷ 118 ∷ 119 ∷ 120 ∷ 121 ∷ 122 ∷ 38 ∷ 42 ∷ 44 ∷ 59 ∷ 88 ∷ 90 ∷ 33 ∷ 34 ∷ 40 ∷ 41 ∷ 63 ∷ 39 ∷ 43 ∷ 124 ∷ 35 ∷ 62 ∷ 0 ∷ 36 ∷ 64 ∷ 91 ∷ 93 ∷ 126 ∷ 94 ∷ 125 ∷ 60 ∷ 96 ∷ 123 ∷ 92 ∷ 195 ∷ 208 ∷ 128 ∷ 130 ∷ 131 ∷ 162 ∷ 184 ∷ 194 ∷ 224 ∷ 226 ∷ 153 ∷ 161 ∷ 167 ∷ 172 ∷ 176 ∷ 177 ∷ 179 ∷ 209 ∷ 216 ∷ 217 ∷ 227 ∷ 229 ∷ 230 ∷ 129 ∷ 132 ∷ 133 ∷ 134 ∷ 136 ∷ 146 ∷ 154 ∷ 156 ∷ 160 ∷ 163 ∷ 164 ∷ 169 ∷ 170 ∷ 173 ∷ 178 ∷ 181 ∷ 185 ∷ 186 ∷ 187 ∷ 189 ∷ 190 ∷ 196 ∷ 198 ∷ 228 ∷ 232 ∷ 233 ∷ 1 ∷ 135 ∷ 137 ∷ 138 ∷ 139 ∷ 140 ∷ 141 ∷ 143 ∷ 147 ∷ 149 ∷ 150 ∷ 151 ∷ 152 ∷ 155 ∷ 157 ∷ 158 ∷ 165 ∷ 166 ∷ 168 ∷ 174 ∷ 175 ∷ 180 ∷ 182 ∷ 183 ∷ 188 ∷ 191 ∷ 197 ∷ 231 ∷ 239 ∷ 9 ∷ 142 ∷ 144 ∷ 145 ∷ 148 ∷ 159 ∷ 171 ∷ 206 ∷ 215 ∷ 225 ∷ 236 ∷ 237 ∷ 199 ∷ 207 ∷ 234 ∷ 235 ∷ 192 ∷ 193 ∷ 200 ∷ 201 ∷ 202 ∷ 205 ∷ 210 ∷ 213 ∷ 218 ∷ 219 ∷ 238 ∷ 240 ∷ 242 ∷ 243 ∷ 255 ∷ 203 ∷ 204 ∷ 211 ∷ 212 ∷ 214 ∷ 221 ∷ 222 ∷ 223 ∷ 241 ∷ 244 ∷ 245 ∷ 246 ∷ 247 ∷ 248 ∷ 250 ∷ 251 ∷ 252 ∷ 253 ∷ 254 ∷ 2 ∷ 3 ∷ 4 ∷ 5 ∷ 6 ∷ 7 ∷ 8 ∷ 11 ∷ 12 ∷ 14 ∷ 15 ∷ 16 ∷ 17 ∷ 18 ∷ 19 ∷ 20 ∷ 21 ∷ 23 ∷ 24 ∷ 25 ∷ 26 ∷ 27 ∷ 28 ∷ 29 ∷ 30 ∷ 31 ∷ 127 ∷ 220 ∷ 249 ∷ 10 ∷ 13 ∷ 22 ∷ 256 ∷ []

-- the symbol of a rank
unfoldable pub symbol : ℕ → ℕ
symbol rank = get_or in_order rank 0

unfoldable pub walk_of : List ℕ → Option (ℕ × List ℕ)
walk_of bs = walk counts 0 0 bs

abbrev pub named : Option (ℕ × List ℕ) → Option (ℕ × List ℕ)
named None = None
named (Some p) = Some (symbol p.0, p.1)

-- the symbol whose word is at the front, and the bits behind it
unfoldable pub symbol_at : List ℕ → Option (ℕ × List ℕ)
symbol_at bs = named (walk_of bs)

-- fewer than eight bits, each 1
unfoldable pub is_padding : List ℕ → Bool
is_padding bs = nat_lt (length bs) 8 && list_all (λ b. nat_eq b 1) bs

-- what follows these symbols
abbrev pub joined : List ℕ → Result (List ℕ) PrimFault → Result (List ℕ) PrimFault
joined front (Ok ss) = Ok (front ++ ss)
joined front (Err e) = Err e

-- what the symbol at the front, or its absence, says; the symbols of what follows are given
abbrev pub from_symbol : Option (ℕ × List ℕ) → Bool → ℕ → ℕ → (ℕ → List ℕ → Result (List ℕ) PrimFault) → Result (List ℕ) PrimFault
from_symbol None padded at len more = if padded then Ok [] else Err (Padding (at / 8))
from_symbol (Some p) padded at len more = if nat_eq p.0 256 then Err (Eos (at / 8)) else joined (p.0 ∷ []) (more (at + (len - length p.1)) p.1)

-- the symbols of bits from a place on, of which there are at most so many
unfoldable pub symbols_in : ℕ → ℕ → List ℕ → Result (List ℕ) PrimFault
symbols_in zero at bs = Err (Padding (at / 8))
symbols_in (suc most) at bs = from_symbol (symbol_at bs) (is_padding bs) at (length bs) (λ next rest. symbols_in most next rest)

-- the symbols of a Huffman string, or its first fault
unfoldable pub huff_of : List ℕ → Result (List ℕ) PrimFault
huff_of bytes = symbols_in (length (bits_of bytes) + 1) 0 (bits_of bytes)

-- the grammar: the joined words of symbols, then padding
pub record IsHuff (bytes symbols : List ℕ) : Type 0 where
  pub each : AllByRecursion (λ s. s < 256) symbols
  pub padding : (rest : List ℕ) × (bits_of bytes ≡ words symbols ++ rest) × (is_padding rest ≡ true)

-- the end's word behind words of symbols, from a byte on
pub record HasEos (bytes : List ℕ) (at : ℕ) : Type 0 where
  pub split : (symbols rest : List ℕ) × (bits_of bytes ≡ words symbols ++ (word 256 ++ rest)) × (AllByRecursion (λ s. s < 256) symbols) × (at ≡ length (words symbols) / 8)

-- behind words of symbols what begins with no word and is no padding, from a byte on
pub record HasRest (bytes : List ℕ) (at : ℕ) : Type 0 where
  pub split : (symbols rest : List ℕ) × (bits_of bytes ≡ words symbols ++ rest) × (AllByRecursion (λ s. s < 256) symbols)
      × ((s : ℕ) (more : List ℕ) → s < 257 → rest ≡ word s ++ more → ⊥) × (is_padding rest ≡ false) × (at ≡ length (words symbols) / 8)

abbrev pub place_of : PrimFault → ℕ
place_of (Truncated p) = p
place_of (TooLarge p) = p
place_of (Eos p) = p
place_of (Padding p) = p
