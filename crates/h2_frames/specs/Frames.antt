-- Frames, one behind the other: RFC 9113 section 4.
use Rattle.std.specs.Prelude.{◌≡◌, ℕ, ◌+◌, ◌<◌, ◌⊎◌, List, [], ◌∷◌, length, take, drop, Option, Some, None, if◌then◌else◌, nat_lt}
use Rattle.h2_frames.specs.Headers.{header_of, header_fault}
use Rattle.h2_frames.specs.Payloads.{frame_of}
use Rattle.h2_frames.specs.declared.header.Header.{Header}
use Rattle.h2_frames.specs.declared.frame.Frame.{Frame}

-- What bytes begin with: a frame and its length, or the code of a fault. A fault that the nine bytes tell stands at the
-- ninth byte, any other at the frame's last.
pub data First : Type 0 where
  Unfinished : First
  Whole : Frame → ℕ → First
  Faulty : ℕ → First

-- too long a padding is a PROTOCOL_ERROR
abbrev pub whole_or_faulty : Option Frame → ℕ → First
whole_or_faulty None n = Faulty 1
whole_or_faulty (Some f) n = Whole f n

abbrev pub first_unless : Option ℕ → Header → List ℕ → First
first_unless (Some code) h bytes = Faulty code
first_unless None h bytes =
    if nat_lt (length bytes) (9 + h.size) then Unfinished
    else whole_or_faulty (frame_of h.kind h (take h.size (drop 9 bytes))) (9 + h.size)

abbrev pub first_behind : Header → List ℕ → First
first_behind h bytes = first_unless (header_fault h) h bytes

unfoldable pub first : List ℕ → First
first bytes = if nat_lt (length bytes) 9 then Unfinished else first_behind (header_of bytes) bytes

-- the bytes are these frames, one behind the other, and a rest in which none is whole
abbrev pub Frames : List ℕ → List Frame → List ℕ → Type 0
Frames bytes [] rest = (first bytes ≡ Unfinished) × (rest ≡ bytes)
Frames bytes (f ∷ frames) rest = (n : ℕ) × (first bytes ≡ Whole f n) × Frames (drop n bytes) frames rest

-- Where a fault stands: the first nine bytes tell it, or nothing is told before the frame's last byte.
abbrev pub StandsAtItsPlace : List ℕ → ℕ → Type 0
StandsAtItsPlace bytes code =
    (first (take 9 bytes) ≡ Faulty code)
    ⊎ ((first (take (9 + (header_of bytes).size) bytes) ≡ Faulty code) × ((k : ℕ) → k < 9 + (header_of bytes).size → first (take k bytes) ≡ Unfinished))
