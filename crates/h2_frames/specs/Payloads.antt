-- Payloads, by the header before them: RFC 9113 section 6.
use Rattle.std.specs.Prelude.{ℕ, zero, suc, ◌+◌, ◌-◌, ◌/◌, ◌%◌, ◌^◌, List, [], ◌∷◌, length, take, drop, Option, Some, None, if◌then◌else◌, nat_lt, slice_index}
use Rattle.h2_frames.specs.Numbers.{u16_at, u32_at}
use Rattle.h2_frames.specs.Headers.{is_last, is_ack, ends_block, is_padded, pad_byte, priority_bytes}
use Rattle.h2_frames.specs.declared.header.Kind.{Kind}
use Rattle.h2_frames.specs.declared.header.Kind.TheVariants as kind
use Rattle.h2_frames.specs.declared.header.Header.{Header}
use Rattle.h2_frames.specs.declared.frame.Setting.{Setting}
use Rattle.h2_frames.specs.declared.frame.Frame.{Frame}
use Rattle.h2_frames.specs.declared.frame.Frame.TheVariants as frame

-- the length of the padding
abbrev pub padding : Header → List ℕ → ℕ
padding h payload = if is_padded h then slice_index payload 0 else 0

-- What stands between the first bytes and the padding; none where the padding is longer than what remains. Padding that
-- is all that remains is right.
unfoldable pub content_of : Header → ℕ → List ℕ → Option (List ℕ)
content_of h before payload =
    let rest : List ℕ = drop before payload in
    if nat_lt (length rest) (padding h payload) then None else Some (take (length rest - padding h payload) rest)

abbrev pub setting_of : List ℕ → Setting
setting_of bytes = record { identifier = u16_at bytes 0; value = u32_at bytes 2 }

-- so many settings, of six bytes each
abbrev pub settings_of : ℕ → List ℕ → List Setting
settings_of zero bytes = []
settings_of (suc n) bytes = setting_of bytes ∷ settings_of n (drop 6 bytes)

abbrev pub eight : List ℕ → List ℕ
eight bytes =
    slice_index bytes 0 ∷ slice_index bytes 1 ∷ slice_index bytes 2 ∷ slice_index bytes 3
    ∷ slice_index bytes 4 ∷ slice_index bytes 5 ∷ slice_index bytes 6 ∷ slice_index bytes 7 ∷ []

abbrev pub with_content : Option (List ℕ) → (List ℕ → Frame) → Option Frame
with_content None make = None
with_content (Some content) make = Some (make content)

-- the frame, or none where it is padded too long
unfoldable pub frame_of : Kind → Header → List ℕ → Option Frame
frame_of kind.Data h payload = with_content (content_of h (pad_byte h) payload) (λ content. frame.Data h.stream content (is_last h) h.size)
frame_of kind.Headers h payload = with_content (content_of h (pad_byte h + priority_bytes h) payload) (λ block. frame.Headers h.stream block (is_last h) (ends_block h))
frame_of kind.Priority h payload = Some (frame.Priority h.stream)
frame_of kind.Reset h payload = Some (frame.Reset h.stream (u32_at payload 0))
frame_of kind.Settings h payload = Some (if is_ack h then frame.SettingsAck else frame.Settings (settings_of (length payload / 6) payload))
frame_of kind.Push h payload = Some (frame.Push h.stream)
frame_of kind.Ping h payload = Some (frame.Ping (is_ack h) (eight payload))
frame_of kind.GoAway h payload = Some (frame.GoAway (u32_at payload 0 % 2 ^ 31) (u32_at payload 4))
frame_of kind.Window h payload = Some (frame.Window h.stream (u32_at payload 0 % 2 ^ 31))
frame_of kind.Continuation h payload = Some (frame.Continuation h.stream payload (ends_block h))
frame_of (kind.Unknown code) h payload = Some (frame.Unknown code)
