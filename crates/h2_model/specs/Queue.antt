-- The frames that wait to go out, in the order in which they go.
use Rattle.std.specs.Prelude.{ℕ, zero, suc, ◌-◌, ◌/◌, min, Bool, true, false, not, ◌&&◌, ◌||◌, List, [], ◌∷◌, ◌++◌, length, take, drop, if◌then◌else◌, ◌==◌, nat_lt, nat_le, flat_map, sum_by, filter, map}
use Rattle.std.specs.List.{list_any}
use Rattle.h2_frames.specs.Spelling.{spelling}
use Rattle.h2_frames.specs.declared.frame.Frame.{Frame}
use Rattle.h2_frames.specs.declared.frame.Frame.TheVariants as frame
use Rattle.h2_model.specs.Log.{is_empty, stream_of}

-- a frame, the bytes of it that weren't given, and whether it keeps its place; a block is one frame here, however it is cut
pub record Waiting : Type 0 where
  pub frame : Frame
  pub left : List ℕ
  pub fixed : Bool  -- begun, or an end that a reset follows

abbrev pub is_data : Frame → Bool
is_data (frame.Data id bytes last size) = true
is_data _ = false

abbrev pub is_block : Frame → Bool
is_block (frame.Headers id block last ends) = true
is_block _ = false

-- HEADERS and CONTINUATION: each but the last has 16,384 bytes, the least SETTINGS_MAX_FRAME_SIZE of RFC 9113 section 6.5.2
abbrev pub continued : ℕ → ℕ → List ℕ → List ℕ
continued zero id bytes = []
continued (suc more) id bytes =
    spelling (frame.Continuation id (take 16384 bytes) (is_empty (drop 16384 bytes))) ++ continued more id (drop 16384 bytes)

abbrev pub bytes_of : Frame → List ℕ
bytes_of (frame.Headers id block last ends) =
    spelling (frame.Headers id (take 16384 block) last (nat_le (length block) 16384))
    ++ continued ((length block - 1) / 16384) id (drop 16384 block)
bytes_of f = spelling f

abbrev pub fresh : Frame → Waiting
fresh f = record { frame = f; left = bytes_of f; fixed = false }

-- a piece of a body; an end is an empty DATA frame
abbrev pub has_bytes : Frame → Bool
has_bytes (frame.Data id bytes last size) = not (is_empty bytes)
has_bytes _ = false

-- DATA that other frames may pass
abbrev pub is_free : Waiting → Bool
is_free w = is_data w.frame && not w.fixed

-- of that, content, which a connection error drops; an end stays
abbrev pub is_free_content : Waiting → Bool
is_free_content w = is_free w && has_bytes w.frame

abbrev pub is_reset_frame : Frame → Bool
is_reset_frame (frame.Reset id code) = true
is_reset_frame _ = false

abbrev pub is_ack : Frame → Bool
is_ack frame.SettingsAck = true
is_ack _ = false

-- SETTINGS are acknowledged behind the DATA that was handed over before they came, so that a peer that lowered a window gets
-- none past it once this is acknowledged: RFC 9113 sections 6.5.3 and 6.9.2
abbrev pub goes_last : Waiting → Bool
goes_last w = is_free w || is_ack w.frame

-- a block stays behind every block, since blocks share one table, and behind an acknowledgement, since the first block that
-- follows it tells a lower limit of the table (RFC 9113 section 4.3.1); a block and a reset stay behind all of their stream,
-- and its frames behind its blocks
abbrev pub stays_behind : Frame → Waiting → Bool
stays_behind f w =
    (is_block f && (is_block w.frame || is_ack w.frame))
    || ((is_block f || is_reset_frame f || is_block w.frame) && (stream_of f == stream_of w.frame))

-- DATA and acknowledgements go to the end; another frame goes before the first DATA that it needn't stay behind
abbrev pub placed : Waiting → List Waiting → List Waiting
placed x [] = x ∷ []
placed x (w ∷ queue) =
    if goes_last x || not (is_free w) || list_any (stays_behind x.frame) (w ∷ queue)
    then w ∷ placed x queue
    else x ∷ w ∷ queue

abbrev pub all_placed : List Waiting → List Waiting → List Waiting
all_placed [] queue = queue
all_placed (x ∷ xs) queue = all_placed xs (placed x queue)

abbrev pub is_free_of : ℕ → Waiting → Bool
is_free_of id w = is_free w && (stream_of w.frame == id)

-- the DATA of a stream that is reset, which is its end at most, goes where the reset goes
abbrev pub with_place : Waiting → Waiting
with_place w = record w { fixed = true }

abbrev pub with_end_placed : ℕ → List Waiting → List Waiting
with_end_placed id queue =
    all_placed (map with_place (filter (is_free_of id) queue)) (filter (λ w. not (is_free_of id w)) queue)

abbrev pub entered : Frame → List Waiting → List Waiting
entered f queue = placed (fresh f) (if is_reset_frame f then with_end_placed (stream_of f) queue else queue)

-- all bytes that wait, in their order
abbrev pub flow : List Waiting → List ℕ
flow queue = flat_map (λ w. w.left) queue

-- the queue after n bytes were given
abbrev pub behind : ℕ → List Waiting → List Waiting
behind n [] = []
behind n (w ∷ queue) =
    if n == 0 then w ∷ queue
    else if nat_lt n (length w.left) then record w { left = drop n w.left; fixed = true } ∷ queue
    else behind (n - length w.left) queue

-- and the frames that this made whole
abbrev pub whole_within : ℕ → List Waiting → List Frame
whole_within n [] = []
whole_within n (w ∷ queue) =
    if nat_lt n (length w.left) then [] else w.frame ∷ whole_within (n - length w.left) queue

-- bytes of DATA that wait, those of a begun frame among them; number 0 is for all streams
abbrev pub data_in : ℕ → Frame → ℕ
data_in id (frame.Data n bytes last size) = if (id == 0) || (n == id) then length bytes else 0
data_in id _ = 0

abbrev pub queued : ℕ → List Waiting → ℕ
queued id queue = sum_by (λ w. data_in id w.frame) queue

-- of those, the ones that weren't given
abbrev pub unsent : ℕ → List Waiting → ℕ
unsent id queue = sum_by (λ w. min (data_in id w.frame) (length w.left)) queue

abbrev pub control_bytes : List Waiting → ℕ
control_bytes queue = sum_by (λ w. if is_data w.frame then 0 else length w.left) queue
