-- The table of stream errors: RFC 9113 section 5.4.2. Only a live stream has one.
use Rattle.std.specs.Prelude.{ℕ, ◌+◌, Bool, false, not, ◌&&◌, ◌||◌, List, [], ◌∷◌, length, Option, Some, None, if◌then◌else◌, ◌==◌, nat_le, codes, slice_index, bytes_eq}
use Rattle.std.specs.List.{list_any, list_all}
use Rattle.ext_msgs.specs.declared.lists.Field.{Field}
use Rattle.h2_frames.specs.declared.frame.Frame.{Frame}
use Rattle.h2_frames.specs.declared.frame.Frame.TheVariants as frame
use Rattle.h2_model.specs.Codes.{first_row, protocol_error, flow_control_error, stream_closed}
use Rattle.h2_model.specs.Log.{Log}
use Rattle.h2_model.specs.Streams.{is_live, is_ended_by_peer, heads_got}
use Rattle.h2_model.specs.Settings.{initial_window}
use Rattle.h2_model.specs.Blocks.{OpenBlock, whole_block, decoded_with, fields_or_none}
use Rattle.h2_model.specs.Account.{Account}
use Rattle.h2_model.specs.Windows.{window_from, is_too_wide}

-- Fields: RFC 9113 sections 8.2.1 and 8.3

abbrev pub status_of : List Field → List ℕ
status_of [] = []
status_of (f ∷ fields) = if bytes_eq f.name (codes ":status") then f.value else status_of fields

-- :status 100 to 199
abbrev pub is_interim : List Field → Bool
is_interim fields =
    (length (status_of fields) == 3) && (slice_index (status_of fields) 0 == 49)
    && list_all (λ b. nat_le 48 b && nat_le b 57) (status_of fields)

-- the name begins with a colon
abbrev pub is_pseudo : Field → Bool
is_pseudo f = slice_index f.name 0 == 58

abbrev pub has_late_pseudo : List Field → Bool
has_late_pseudo [] = false
has_late_pseudo (f ∷ fields) = (not (is_pseudo f) && list_any is_pseudo fields) || has_late_pseudo fields

abbrev pub has_upper_case : Field → Bool
has_upper_case f = list_any (λ b. nat_le 65 b && nat_le b 90) f.name

-- a block behind the head that isn't preceded by 1xx blocks alone
abbrev pub is_second_block : ℕ → Bool → Log → Bool
is_second_block id last log = not last && not (list_all is_interim (heads_got id log))

-- The rows; the sections are those of RFC 9113

abbrev pub block_rows : Account → OpenBlock → List Field → List (Bool × ℕ)
block_rows a b fields =
    (is_ended_by_peer b.stream a.log, stream_closed)  -- 5.1: HEADERS on a stream that is half-closed (remote)
    ∷ (is_second_block b.stream b.last a.log, protocol_error)  -- 8.1: a second block that doesn't end the stream
    ∷ (list_any has_upper_case fields || has_late_pseudo fields, protocol_error)  -- 8.2.1, 8.3: upper case, a late pseudo field
    ∷ []

abbrev pub update_rows : Account → ℕ → ℕ → List (Bool × ℕ)
update_rows a id n =
    (n == 0, protocol_error)  -- 6.9: WINDOW_UPDATE of 0
    ∷ (is_too_wide (window_from (initial_window a.log + n) id a), flow_control_error)  -- 6.9.1: a window past 2^31 - 1
    ∷ []

abbrev pub data_rows : Account → ℕ → List (Bool × ℕ)
data_rows a id =
    (is_ended_by_peer id a.log, stream_closed)  -- 5.1: DATA on a stream that is half-closed (remote)
    ∷ []

-- the stream and the code
abbrev pub with_stream : ℕ → Option ℕ → Option (ℕ × ℕ)
with_stream id None = None
with_stream id (Some code) = Some (id, code)

abbrev pub on_live : Account → ℕ → List (Bool × ℕ) → Option (ℕ × ℕ)
on_live a id rows = if is_live id a.log then with_stream id (first_row rows) else None

abbrev pub fault_of_block : Account → List Field → Option OpenBlock → Option (ℕ × ℕ)
fault_of_block a fields None = None
fault_of_block a fields (Some b) = on_live a b.stream (block_rows a b fields)

unfoldable pub stream_fault : Account → Frame → Option (ℕ × ℕ)
stream_fault a (frame.Window id n) = on_live a id (update_rows a id n)
stream_fault a (frame.Data id bytes last size) = on_live a id (data_rows a id)
stream_fault a f = fault_of_block a (fields_or_none (decoded_with a.log f)) (whole_block a.log f)
