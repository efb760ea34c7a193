-- A queue of bytes of bounded length.
use Rattle.std.specs.Prelude.{ℕ, List, ◌++◌, drop}

pub record Queue : Type 0 where
  pub limit : ℕ
  pub bytes : List ℕ  -- oldest first

-- with a piece at its end
abbrev pub pushed : List ℕ → Queue → Queue
pushed piece q = record q { bytes = q.bytes ++ piece }

-- without its first bytes
abbrev pub dropped : ℕ → Queue → Queue
dropped n q = record q { bytes = drop n q.bytes }
