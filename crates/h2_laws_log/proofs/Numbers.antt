-- Numbers and windows: how a difference moves.
use Rattle.std.proofs.Common.{◌≡◌, ℕ, ◌+◌, ◌-◌, ◌≤◌, arith}
use Rattle.std.specs.Prelude.{pos, ◌+ℤ◌, ◌-ℤ◌}
use Rattle.std.proofs.lemmas.Int.{ints}

-- an increment widens a window, and bytes that are dropped give their part back
pub widened : (m n i s : ℕ) → pos (m + (n + i)) -ℤ pos s ≡ (pos (m + i) -ℤ pos s) +ℤ pos n
widened m n i s = omega (arith, ints)

pub widened-stream : (n i s : ℕ) → pos (n + i) -ℤ pos s ≡ (pos i -ℤ pos s) +ℤ pos n
widened-stream n i s = omega (arith, ints)

pub given-back : (i g q q' h h' l : ℕ) → q' ≤ q → h' ≤ h
    → pos i -ℤ pos (g + q' + h' + l) ≡ (pos i -ℤ pos (g + q + h + l)) +ℤ pos ((q - q') + (h - h'))
given-back i g q q' h h' l lq lh = omega (arith, ints)
