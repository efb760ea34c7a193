-- The table of connection errors, tested for each frame in this order: RFC 9113 section 5.4.1.
use Rattle.std.specs.Prelude.{ℕ, zero, suc, ◌+◌, ◌%◌, Bool, true, false, not, ◌&&◌, ◌||◌, [], ◌∷◌, length, Option, Some, None, Err, if◌then◌else◌, ◌==◌, nat_lt}
use Rattle.std.specs.List.{list_any}
use Rattle.hpack_core.specs.declared.fault.HpackFault.TheVariants.{Prim, Index, TableSize, ListSize}
use Rattle.h2_frames.specs.declared.frame.Setting.{Setting}
use Rattle.h2_frames.specs.declared.frame.Frame.{Frame}
use Rattle.h2_frames.specs.declared.frame.Frame.TheVariants as frame
use Rattle.h2_model.specs.Codes.{first_row, protocol_error, flow_control_error, compression_error, enhance_your_calm}
use Rattle.h2_model.specs.Log.{LogEntry, Received}
use Rattle.h2_model.specs.Streams.{opened, is_opened, greatest, is_live, live_streams}
use Rattle.h2_model.specs.Blocks.{OpenBlock, Decoded, open_block, block_with, decoded_with}
use Rattle.h2_model.specs.Account.{Account}
use Rattle.h2_model.specs.Windows.{window_from, is_too_wide, receiving_window}

-- The first frame is SETTINGS, no acknowledgement

abbrev pub is_received : LogEntry → Bool
is_received (Received f) = true
is_received _ = false

abbrev pub is_first : Account → Bool
is_first a = not (list_any is_received a.log)

abbrev pub is_settings : Frame → Bool
is_settings (frame.Settings list) = true
is_settings _ = false

-- Another frame within a block, or CONTINUATION elsewhere

abbrev pub breaks_block : Option OpenBlock → Frame → Bool
breaks_block (Some b) (frame.Continuation id part ends) = not (id == b.stream)
breaks_block (Some b) _ = true
breaks_block None (frame.Continuation id part ends) = true
breaks_block None _ = false

abbrev pub is_push : Frame → Bool
is_push (frame.Push id) = true
is_push _ = false

-- A frame on a stream that was never opened

-- HEADERS may open a stream of a client: an odd number above the last
abbrev pub may_open : Account → ℕ → Bool
may_open a id = not a.client && ((id % 2) == 1) && nat_lt (greatest (opened a.log)) id

abbrev pub is_on_unopened : Account → Frame → Bool
is_on_unopened a (frame.Data id bytes last size) = not (is_opened id a.log)
is_on_unopened a (frame.Reset id code) = not (is_opened id a.log)
is_on_unopened a (frame.Window zero n) = false
is_on_unopened a (frame.Window (suc id) n) = not (is_opened (suc id) a.log)
is_on_unopened a (frame.Headers id part last ends) = not (is_opened id a.log) && not (may_open a id)
is_on_unopened a _ = false

-- Settings out of range

-- SETTINGS_ENABLE_PUSH is 0 or 1, and 0 from a server; SETTINGS_MAX_FRAME_SIZE is in 2^14 to 2^24 - 1
abbrev pub is_bad_setting : Bool → Setting → Bool
is_bad_setting client s =
    ((s.identifier == 2) && nat_lt (if client then 0 else 1) s.value)
    || ((s.identifier == 5) && (nat_lt s.value 16384 || nat_lt 16777215 s.value))

abbrev pub has_bad_setting : Account → Frame → Bool
has_bad_setting a (frame.Settings list) = list_any (is_bad_setting a.client) list
has_bad_setting a _ = false

-- an initial window above 2^31 - 1, or one that pushes a live stream's window past it
abbrev pub is_wide_setting : Account → Setting → Bool
is_wide_setting a s = (s.identifier == 4) && (nat_lt 2147483647 s.value
    || list_any (λ id. is_too_wide (window_from s.value id a)) (live_streams a.log))

abbrev pub has_wide_setting : Account → Frame → Bool
has_wide_setting a (frame.Settings list) = list_any (is_wide_setting a) list
has_wide_setting a _ = false

-- The connection's windows

abbrev pub is_empty_update : Frame → Bool
is_empty_update (frame.Window zero zero) = true
is_empty_update _ = false

abbrev pub widens_connection : Account → Frame → Bool
widens_connection a (frame.Window zero n) = is_too_wide (window_from (65535 + n) 0 a)
widens_connection a _ = false

-- DATA past the connection's or the stream's receiving window
abbrev pub exceeds_window : Account → Frame → Bool
exceeds_window a (frame.Data id bytes last size) =
    nat_lt (receiving_window 0 a.log) size
    || (is_live id a.log && nat_lt (receiving_window id a.log) size)
exceeds_window a _ = false

-- Field blocks

abbrev pub is_long : Option OpenBlock → Bool
is_long None = false
is_long (Some b) = nat_lt 65536 (length b.bytes)

abbrev pub is_long_list : Option Decoded → Bool
is_long_list (Some (Err ListSize)) = true
is_long_list _ = false

-- a decoder's want of memory is no fault of the peer
abbrev pub is_undecodable : Option Decoded → Bool
is_undecodable (Some (Err (Prim fault))) = true
is_undecodable (Some (Err (Index place))) = true
is_undecodable (Some (Err (TableSize place))) = true
is_undecodable _ = false

-- The table; the sections are those of RFC 9113. That the client's preface is right (section 3.4) is tested before all frames.
unfoldable pub violation_of : Account → Frame → Option ℕ
violation_of a f = first_row (
    (is_first a && not (is_settings f), protocol_error)  -- 3.4: the first frame isn't SETTINGS
    ∷ (breaks_block (open_block a.log) f, protocol_error)  -- 4.3, 6.10: a frame within a block, or CONTINUATION elsewhere
    ∷ (is_push f, protocol_error)  -- 6.6, 8.4: PUSH_PROMISE, which a client disables and no client sends
    ∷ (is_on_unopened a f, protocol_error)  -- 5.1, 5.1.1: a frame on an idle stream, or HEADERS that can't open one
    ∷ (has_bad_setting a f, protocol_error)  -- 6.5.2: ENABLE_PUSH or MAX_FRAME_SIZE out of range
    ∷ (has_wide_setting a f, flow_control_error)  -- 6.5.2, 6.9.2: INITIAL_WINDOW_SIZE that makes a window too wide
    ∷ (is_empty_update f, protocol_error)  -- 6.9: WINDOW_UPDATE of 0 on the connection
    ∷ (widens_connection a f, flow_control_error)  -- 6.9.1: the connection's window past 2^31 - 1
    ∷ (exceeds_window a f, flow_control_error)  -- 6.9.1: DATA past a receiving window
    ∷ (is_long (block_with a.log f), enhance_your_calm)  -- 10.5.1: a block of more than 65,536 bytes
    ∷ (is_long_list (decoded_with a.log f), enhance_your_calm)  -- 10.5.1: a list of fields that is too long
    ∷ (is_undecodable (decoded_with a.log f), compression_error)  -- 4.3: a block that can't be decoded
    ∷ [])
