-- Bytes on their way to a side, and where those of a body stand among them.
use Rattle.std.specs.Prelude.{ℕ, ◌+◌, ◌-◌, ◌≤◌, min, List, length, take, drop}
use Rattle.h1_outlet.specs.declared.going.Gave.{Gave}

-- the bytes that are left; `body` of them, behind the first `skip`, are of a body
pub record Way : Type 0 where
  pub left : List ℕ
  pub skip : ℕ
  pub body : ℕ

-- the first `at` of these bytes were given, and the body bytes stand among the rest
pub record Fits (bytes : List ℕ) (at skip body : ℕ) : Type 0 where
  pub within : at + skip + body ≤ length bytes

-- the first n are given
abbrev pub first_of : ℕ → Way → Gave
first_of n w = record { bytes = take n w.left; body = min (n - w.skip) w.body }

abbrev pub gone_on : ℕ → Way → Way
gone_on n w = record { left = drop n w.left; skip = w.skip - n; body = w.body - min (n - w.skip) w.body }

-- bytes of which none is of a body
abbrev pub plain : List ℕ → Way
plain bytes = record { left = bytes; skip = 0; body = 0 }
