-- What a hold has: the bytes at hand, the pieces lent, and the bytes that go out.
use Rattle.std.specs.Prelude.{ℕ, ◌+◌, ◌*◌, List, [], ◌∷◌, ◌++◌, length, take, drop}

pub record Held : Type 0 where
  pub limit : ℕ  -- the buffer's
  pub answer : ℕ  -- the most bytes of one answer's body
  pub hand : List ℕ
  pub lent : List (List ℕ)  -- oldest first
  pub out : List ℕ

-- The room at hand: a buffer and one byte above its limit, 65,536 bytes that wait unbuffered, and 32,768 that came with a head.
abbrev pub hand_room : ℕ → ℕ
hand_room limit = limit + 98_305

-- The room for what is lent: a buffer, or four pieces of 16,384 bytes.
abbrev pub lent_room : ℕ → ℕ
lent_room limit = limit + 65_536

-- The room for what goes out: four answers, and what else is at hand or was lent when all of it passes.
abbrev pub out_room : ℕ → ℕ → ℕ
out_room limit answer = limit * 2 + answer * 4 + 262_144

-- the pieces that follow one another in these bytes
abbrev pub cut_by : List ℕ → List ℕ → List (List ℕ)
cut_by [] bytes = []
cut_by (n ∷ ns) bytes = take n bytes ∷ cut_by ns (drop n bytes)

abbrev pub total : List ℕ → ℕ
total [] = 0
total (n ∷ ns) = n + total ns

abbrev pub joined : List (List ℕ) → List ℕ
joined [] = []
joined (p ∷ ps) = p ++ joined ps

-- the number of bytes that are kept
abbrev pub held : Held → ℕ
held h = length h.hand + length (joined h.lent) + length h.out
