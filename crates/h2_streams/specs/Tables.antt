-- What is true of a table of live streams.
use Rattle.std.specs.Prelude.{ℕ, ◌≡◌, ◌<◌, ◌==◌, ◌^◌, false, List, [], ◌∷◌, All, pos, negsuc, ◌≤ℤ◌}
use Rattle.std.specs.List.{AllPairs}
use Rattle.h2_model.specs.declared.stream.Stream.{Stream}

-- numbers rise
abbrev pub Ascends : List Stream → Type 0
Ascends streams = AllPairs (λ s t. s.id < t.id) streams

-- none has this number
abbrev pub Apart : ℕ → List Stream → Type 0
Apart id [] = Unit {0}
Apart id (s ∷ streams) = ((s.id == id) ≡ false) × Apart id streams

-- credits stay far from the ends of their type
pub record HasCreditInRange (s : Stream) : Type 0 where
  pub low : negsuc (2 ^ 33) ≤ℤ s.credit
  pub high : s.credit ≤ℤ pos (2 ^ 33)

pub record IsStreamTable (streams : List Stream) : Type 0 where
  pub order : Ascends streams
  pub range : All HasCreditInRange streams

-- what contracts see of a table
pub record Table : Type 0 where
  pub streams : List Stream
  pub room : ℕ  -- how many more fit without taking memory
