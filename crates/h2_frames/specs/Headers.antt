-- The nine bytes before a payload, and what is wrong with them: RFC 9113 sections 4.1 and 6.
use Rattle.std.specs.Prelude.{ℕ, ◌+◌, ◌%◌, ◌^◌, Bool, false, not, List, Option, Some, None, if◌then◌else◌, nat_lt, ◌==◌, slice_index, bit_and}
use Rattle.h2_frames.specs.Numbers.{u24_at, u32_at}
use Rattle.h2_frames.specs.declared.header.Kind.{Kind}
use Rattle.h2_frames.specs.declared.header.Kind.TheVariants as kind
use Rattle.h2_frames.specs.declared.header.Header.{Header}

abbrev pub kind_of : ℕ → Kind
kind_of code =
    if code == 0 then kind.Data
    else (if code == 1 then kind.Headers
    else (if code == 2 then kind.Priority
    else (if code == 3 then kind.Reset
    else (if code == 4 then kind.Settings
    else (if code == 5 then kind.Push
    else (if code == 6 then kind.Ping
    else (if code == 7 then kind.GoAway
    else (if code == 8 then kind.Window
    else (if code == 9 then kind.Continuation
    else kind.Unknown code)))))))))

-- the reserved bit before the stream isn't read
unfoldable pub header_of : List ℕ → Header
header_of bytes = record {
  size = u24_at bytes 0;
  kind = kind_of (slice_index bytes 3);
  flags = slice_index bytes 4;
  stream = u32_at bytes 5 % 2 ^ 31;
}

-- whether a flag, which is a power of two, is set
abbrev pub has_flag : ℕ → Header → Bool
has_flag flag h = not (bit_and h.flags flag == 0)

-- END_STREAM
abbrev pub is_last : Header → Bool
is_last h = has_flag 1 h

abbrev pub is_ack : Header → Bool
is_ack h = has_flag 1 h

-- END_HEADERS
abbrev pub ends_block : Header → Bool
ends_block h = has_flag 4 h

abbrev pub is_padded : Header → Bool
is_padded h = has_flag 8 h

-- the flag PRIORITY
abbrev pub has_priority : Header → Bool
has_priority h = has_flag 32 h

-- the length of the padding's own length
abbrev pub pad_byte : Header → ℕ
pad_byte h = if is_padded h then 1 else 0

-- the length of the priority in HEADERS
abbrev pub priority_bytes : Header → ℕ
priority_bytes h = if has_priority h then 5 else 0

abbrev pub has_wrong_size : Kind → Header → Bool
has_wrong_size kind.Data h = nat_lt h.size (pad_byte h)
has_wrong_size kind.Headers h = nat_lt h.size (pad_byte h + priority_bytes h)
has_wrong_size kind.Priority h = false
has_wrong_size kind.Reset h = not (h.size == 4)
has_wrong_size kind.Settings h = if is_ack h then not (h.size == 0) else not (h.size % 6 == 0)
has_wrong_size kind.Push h = false
has_wrong_size kind.Ping h = not (h.size == 8)
has_wrong_size kind.GoAway h = nat_lt h.size 8
has_wrong_size kind.Window h = not (h.size == 4)
has_wrong_size kind.Continuation h = false
has_wrong_size (kind.Unknown code) h = false

-- a frame of a stream that is on the connection, or one of the connection that is on a stream
abbrev pub is_misplaced : Kind → Header → Bool
is_misplaced kind.Data h = h.stream == 0
is_misplaced kind.Headers h = h.stream == 0
is_misplaced kind.Priority h = h.stream == 0
is_misplaced kind.Reset h = h.stream == 0
is_misplaced kind.Settings h = not (h.stream == 0)
is_misplaced kind.Push h = h.stream == 0
is_misplaced kind.Ping h = not (h.stream == 0)
is_misplaced kind.GoAway h = not (h.stream == 0)
is_misplaced kind.Window h = false
is_misplaced kind.Continuation h = h.stream == 0
is_misplaced (kind.Unknown code) h = false

-- the code of the first fault that the nine bytes tell: FRAME_SIZE_ERROR is 6, PROTOCOL_ERROR 1
unfoldable pub header_fault : Header → Option ℕ
header_fault h =
    if nat_lt 16384 h.size then Some 6
    else (if has_wrong_size h.kind h then Some 6
    else (if is_misplaced h.kind h then Some 1
    else None))
