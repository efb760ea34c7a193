-- The sums stay bounded as DATA comes and goes.
use Rattle.std.proofs.Common.{arith, ◌≡◌, ◌≤◌, ◌<◌, ◌+◌, ◌^◌, ℕ, zero, suc, List, ℤ, pos, ◌+ℤ◌, ◌-ℤ◌, ◌≤ℤ◌}
use Rattle.std.proofs.lemmas.Int.{ints}
use Rattle.h2_model.specs.Log.{LogEntry}
use Rattle.h2_model.specs.Queue.{Waiting}
use Rattle.h2_sender.specs.Sending.{IsBounded, data_kept}

-- a frame comes, and DATA takes its length of the window
pub bounded_more : (waiting next : List Waiting) (held then : List LogEntry) (window left : ℤ) (n : ℕ)
    → IsBounded waiting held window → data_kept next then ≡ data_kept waiting held + n
    → (0 < n → data_kept waiting held + n ≤ 2 ^ 40) → (0 < n → pos n ≤ℤ window) → left ≡ window -ℤ pos n → IsBounded next then left
bounded_more waiting next held then window left zero h sum fits enough is =
    let «data» : data_kept waiting held ≤ 2 ^ 40 = h.«data» in
    let low : pos 0 ≤ℤ window = h.low in
    let high : (window +ℤ pos (data_kept waiting held)) ≤ℤ pos (2 ^ 41) = h.high in
    record { «data» = omega arith; low = omega (arith, ints); high = omega (arith, ints) }
bounded_more waiting next held then window left (suc n) h sum fits enough is =
    let high : (window +ℤ pos (data_kept waiting held)) ≤ℤ pos (2 ^ 41) = h.high in
    let few : data_kept waiting held + suc n ≤ 2 ^ 40 = fits (omega arith) in
    let wide : pos (suc n) ≤ℤ window = enough (omega arith) in
    record { «data» = omega arith; low = omega (arith, ints); high = omega (arith, ints) }

-- a frame alone fits where DATA does
pub fits_alone : (m n : ℕ) → (0 < n → m + n ≤ 2 ^ 40) → n ≤ 2 ^ 40
fits_alone m zero h = omega arith
fits_alone m (suc n) h = let all : m + suc n ≤ 2 ^ 40 = h (omega arith) in omega arith

-- DATA goes, and gives some of its length back
pub bounded_less : (waiting next : List Waiting) (held then : List LogEntry) (window left : ℤ) (n : ℕ)
    → IsBounded waiting held window → data_kept next then + n ≤ data_kept waiting held → left ≡ window +ℤ pos n
    → IsBounded next then left
bounded_less waiting next held then window left n h sum is =
    let «data» : data_kept waiting held ≤ 2 ^ 40 = h.«data» in
    let low : pos 0 ≤ℤ window = h.low in
    let high : (window +ℤ pos (data_kept waiting held)) ≤ℤ pos (2 ^ 41) = h.high in
    record { «data» = omega arith; low = omega (arith, ints); high = omega (arith, ints) }
