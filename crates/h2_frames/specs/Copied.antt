-- What a copy of a frame's bytes leaves.
use Rattle.std.specs.Prelude.{ℕ, ◌≡◌, ◌<◌, ◌≤◌, ◌+◌, ◌*◌, List, ◌++◌, length, take, drop}
use Rattle.h2_frames.specs.Spelling.{spelling}
use Rattle.h2_frames.specs.declared.frame.Setting.{Setting}
use Rattle.h2_frames.specs.declared.frame.Frame.{Frame}
use Rattle.h2_frames.specs.declared.frame.Frame.TheVariants as frame

-- what is written for two kinds of frames, of which the proofs open one at a time
unfoldable pub settings_bytes : List Setting → List ℕ
settings_bytes list = spelling (frame.Settings list)

unfoldable pub goaway_bytes : ℕ → ℕ → List ℕ
goaway_bytes last code = spelling (frame.GoAway last code)

-- a payload has at most 16,384 bytes
abbrev pub IsShort : Frame → Type 0
IsShort (frame.Data id bytes last size) = length bytes ≤ 16384
IsShort (frame.Headers id part last ends) = length part ≤ 16384
IsShort (frame.Settings list) = 6 * length list ≤ 16384
IsShort (frame.Continuation id part ends) = length part ≤ 16384
IsShort other = Unit {0}

-- the first n of these bytes, and at least one, were copied over those from a place on
pub record IsCopied (bytes : List ℕ) (from : ℕ) (old new : List ℕ) (n : ℕ) : Type 0 where
  pub some : 0 < n
  pub there : n ≤ length bytes
  pub fits : from + n ≤ length old
  pub copied : new ≡ take from old ++ (take n bytes ++ drop (from + n) old)
