-- What waits of each stream.
use Rattle.std.specs.Prelude.{ℕ, Bool, zero, suc, ◌≡◌, ◌<◌, min, List, [], ◌∷◌, length, sum_by, if◌then◌else◌, ◌==◌}
use Rattle.h2_model.specs.Calls.{is_window}
use Rattle.h2_model.specs.Log.{stream_of}
use Rattle.h2_model.specs.Queue.{Waiting, data_in}
use Rattle.h2_sender.specs.declared.shares.Share.{Share}

-- all of them are above a stream
abbrev pub AreAbove : ℕ → List Share → Type 0
AreAbove n [] = Unit {0}
AreAbove n (s ∷ shares) = (n < s.stream) × AreAbove n shares

-- streams rise, and a frame of each waits
abbrev pub AreInOrder : List Share → Type 0
AreInOrder [] = Unit {0}
AreInOrder (s ∷ shares) = (0 < s.frames) × AreAbove s.stream shares × AreInOrder shares

-- where a stream stands, or would
abbrev pub IsAt : ℕ → ℕ → List Share → Type 0
IsAt id n [] = ⊥
IsAt id zero (s ∷ shares) = s.stream ≡ id
IsAt id (suc n) (s ∷ shares) = (s.stream < id) × IsAt id n shares

abbrev pub IsGap : ℕ → ℕ → List Share → Type 0
IsGap id zero [] = Unit {0}
IsGap id (suc n) [] = ⊥
IsGap id zero (s ∷ shares) = id < s.stream
IsGap id (suc n) (s ∷ shares) = (s.stream < id) × IsGap id n shares

-- the frames and the bytes of a stream, and all frames

abbrev pub frames_in : ℕ → Share → ℕ
frames_in id s = if s.stream == id then s.frames else 0

abbrev pub bytes_in : ℕ → Share → ℕ
bytes_in id s = if s.stream == id then s.bytes else 0

abbrev pub frames_of : ℕ → List Share → ℕ
frames_of id shares = sum_by (frames_in id) shares

abbrev pub bytes_of : ℕ → List Share → ℕ
bytes_of id shares = sum_by (bytes_in id) shares

abbrev pub all_frames : List Share → ℕ
all_frames shares = sum_by (λ s. s.frames) shares

-- the same of the frames that wait; window updates aren't counted

abbrev pub counted : Waiting → ℕ
counted w = if is_window w.frame then 0 else 1

abbrev pub counted_for : ℕ → Waiting → ℕ
counted_for id w = if stream_of w.frame == id then counted w else 0

abbrev pub bytes_left : Waiting → ℕ
bytes_left w = min (data_in 0 w.frame) (length w.left)

abbrev pub bytes_for : ℕ → Waiting → ℕ
bytes_for id w = if stream_of w.frame == id then bytes_left w else 0

-- how many frames go with the bytes of one that were given
abbrev pub gone_whole : Bool → Waiting → ℕ
gone_whole whole w = if whole then counted w else 0

-- each stream's share is what waits of it
pub record AreShared (queue : List Waiting) (shares : List Share) : Type 0 where
  pub order : AreInOrder shares
  pub frames : (id : ℕ) → frames_of id shares ≡ sum_by (counted_for id) queue
  pub bytes : (id : ℕ) → bytes_of id shares ≡ sum_by (bytes_for id) queue
  pub all : all_frames shares ≡ sum_by counted queue
