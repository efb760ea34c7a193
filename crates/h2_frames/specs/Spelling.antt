-- What is written for a frame.
use Rattle.std.specs.Prelude.{◌≡◌, ℕ, ◌+◌, ◌*◌, ◌^◌, ◌<◌, ◌≤◌, Bool, List, [], ◌∷◌, ◌++◌, length, drop, flat_map, if◌then◌else◌, All}
use Rattle.std.specs.Int.{w16, w32, to_be_bytes}
use Rattle.h2_frames.specs.declared.frame.Setting.{Setting}
use Rattle.h2_frames.specs.declared.frame.Frame.{Frame}
use Rattle.h2_frames.specs.declared.frame.Frame.TheVariants.{Data, Headers, Priority, Reset, Settings, SettingsAck, Push, Ping, GoAway, Window, Continuation, Unknown}

-- the three last of the four bytes
abbrev pub three : ℕ → List ℕ
three n = drop 1 (to_be_bytes w32 n)

abbrev pub framed : ℕ → ℕ → ℕ → List ℕ → List ℕ
framed kind flags stream payload = three (length payload) ++ kind ∷ flags ∷ (to_be_bytes w32 stream ++ payload)

abbrev pub bit : ℕ → Bool → ℕ
bit flag b = if b then flag else 0

abbrev pub setting_bytes : Setting → List ℕ
setting_bytes s = to_be_bytes w16 s.identifier ++ to_be_bytes w32 s.value

-- no padding and no priority is written, and an empty payload where it isn't read
abbrev pub spelling : Frame → List ℕ
spelling (Data stream content last size) = framed 0 (bit 1 last) stream content
spelling (Headers stream block last ends) = framed 1 (bit 1 last + bit 4 ends) stream block
spelling (Priority stream) = framed 2 0 stream []
spelling (Reset stream code) = framed 3 0 stream (to_be_bytes w32 code)
spelling (Settings list) = framed 4 0 0 (flat_map setting_bytes list)
spelling SettingsAck = framed 4 1 0 []
spelling (Push stream) = framed 5 0 stream []
spelling (Ping ack bytes) = framed 6 (bit 1 ack) 0 bytes
spelling (GoAway last code) = framed 7 0 0 (to_be_bytes w32 last ++ to_be_bytes w32 code)
spelling (Window stream increment) = framed 8 0 stream (to_be_bytes w32 increment)
spelling (Continuation stream block ends) = framed 9 (bit 4 ends) stream block
spelling (Unknown kind) = framed kind 0 0 []

abbrev pub IsStream : ℕ → Type 0
IsStream n = (0 < n) × (n < 2 ^ 31)

-- a number and a payload that a frame can have
abbrev pub IsWritable : Frame → Type 0
IsWritable (Data stream content last size) = IsStream stream × (length content ≤ 16384) × (size ≡ length content)
IsWritable (Headers stream block last ends) = IsStream stream × (length block ≤ 16384)
IsWritable (Priority stream) = IsStream stream
IsWritable (Reset stream code) = IsStream stream
IsWritable (Settings list) = 6 * length list ≤ 16384
IsWritable SettingsAck = Unit {0}
IsWritable (Push stream) = IsStream stream
IsWritable (Ping ack bytes) = Unit {0}
IsWritable (GoAway last code) = last < 2 ^ 31
IsWritable (Window stream increment) = (stream < 2 ^ 31) × (increment < 2 ^ 31)
IsWritable (Continuation stream block ends) = IsStream stream × (length block ≤ 16384)
IsWritable (Unknown kind) = 9 < kind

-- the numbers are in their types' ranges, as those of each value of the program are
abbrev pub IsInRange : Frame → Type 0
IsInRange (Reset stream code) = code < 2 ^ 32
IsInRange (Settings list) = All (λ s. (s.identifier < 2 ^ 16) × (s.value < 2 ^ 32)) list
IsInRange (Ping ack bytes) = length bytes ≡ 8
IsInRange (GoAway last code) = code < 2 ^ 32
IsInRange (Unknown kind) = kind < 2 ^ 8
IsInRange other = Unit {0}
