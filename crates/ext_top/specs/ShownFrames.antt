-- What frames of HTTP/2 are shown as: a line for each, and one for what stands behind them.
use Rattle.std.specs.Prelude.{◌≡◌, ◌<◌, ◌≤◌, ℕ, zero, suc, ◌+◌, List, [], ◌∷◌, ◌++◌, length, drop, codes, slice_index}
use Rattle.std.specs.Fmt.{decimal}
use Rattle.h2_frames.specs.Frames.{First, Unfinished, Whole, Faulty, first}
use Rattle.h2_frames.specs.Headers.{header_of}
use Rattle.h2_frames.specs.declared.frame.Frame.{Frame}
use Rattle.ext_top.specs.declared.show_h2.Begin.{Begin}
use Rattle.ext_top.specs.declared.show_h2.Begin.TheVariants as begin

-- a number behind a space
abbrev pub spaced : ℕ → List ℕ
spaced n = 32 ∷ decimal n

abbrev pub four : ℕ → ℕ → ℕ → ℕ → List ℕ
four kind flags stream size = codes "frame" ++ (spaced kind ++ (spaced flags ++ (spaced stream ++ spaced size)))

-- the numbers of the nine bytes before a payload, as they stand there, without the reserved bit
abbrev pub frame_line : List ℕ → List ℕ
frame_line bytes = four (slice_index bytes 3) (header_of bytes).flags (header_of bytes).stream (header_of bytes).size

-- bytes by what they begin with
abbrev pub shown_by : First → List ℕ → (ℕ → List ℕ) → List ℕ
shown_by Unfinished bytes behind = codes "rest" ++ spaced (length bytes)
shown_by (Faulty code) bytes behind = codes "refused" ++ spaced code
shown_by (Whole f n) bytes behind = frame_line bytes ++ (10 ∷ behind n)

-- so many frames at most, and what stands behind them
abbrev pub shown_frames : ℕ → List ℕ → List ℕ
shown_frames zero bytes = []
shown_frames (suc most) bytes = shown_by (first bytes) bytes (λ n. shown_frames most (drop n bytes))

-- no more frames than bytes
unfoldable pub shown_h2 : List ℕ → List ℕ
shown_h2 bytes = shown_frames (length bytes + 1) bytes

-- what bytes begin with, told by a reader that keeps nothing of a frame that was whole
abbrev pub Begins : List ℕ → Begin → List ℕ → Type 0
Begins bytes (begin.Frame n) kept = (f : Frame) × (first bytes ≡ Whole f n) × (0 < n) × (n ≤ length bytes) × (kept ≡ [])
Begins bytes begin.Unfinished kept = first bytes ≡ Unfinished
Begins bytes (begin.Refused code) kept = first bytes ≡ Faulty code
