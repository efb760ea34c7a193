-- The place of a frame in the queue.
use Rattle.std.specs.Prelude.{ℕ, suc, ◌≡◌, ◌<◌, zero, true, false, not, ◌||◌, List, [], ◌∷◌, length, drop, Option, Some, None, if◌then◌else◌, filter}
use Rattle.std.specs.List.{list_any, slice_index_or}
use Rattle.h2_frames.specs.declared.frame.Frame.{Frame}
use Rattle.h2_model.specs.Log.{stream_of}
use Rattle.h2_model.specs.Queue.{Waiting, goes_last, is_free, is_free_of, is_reset_frame, stays_behind, with_end_placed}

-- how many frames of the queue stand before it
abbrev pub place_of : Waiting → List Waiting → ℕ
place_of x [] = 0
place_of x (w ∷ queue) =
    if goes_last x || not (is_free w) || list_any (stays_behind x.frame) (w ∷ queue) then suc (place_of x queue) else 0

-- the queue that a frame enters: a reset gives its stream's DATA another place
abbrev pub ready_for : Frame → List Waiting → List Waiting
ready_for f queue = if is_reset_frame f then with_end_placed (stream_of f) queue else queue

-- the last frame of a stream that others may pass, by its place
abbrev pub IsLastFree : ℕ → List Waiting → Option ℕ → Type 0
IsLastFree id queue None = filter (is_free_of id) queue ≡ []
IsLastFree id queue (Some i) =
    (i < length queue) × ((d : Waiting) → is_free_of id (slice_index_or queue i d) ≡ true) × (filter (is_free_of id) (drop (suc i) queue) ≡ [])

-- none of the first so many frames is DATA that others may pass
abbrev pub IsFront : ℕ → List Waiting → Type 0
IsFront zero queue = Unit {0}
IsFront (suc n) [] = ⊥
IsFront (suc n) (w ∷ queue) = (is_free w ≡ false) × IsFront n queue
