-- Many calls of a reader.
use Rattle.std.specs.Prelude.{◌≡◌, ℕ, List, [], ◌∷◌, ◌++◌, take, Ok}
use Rattle.h2_frames.specs.Reading.{Feeds}
use Rattle.h2_frames.specs.declared.frame.Frame.{Frame}
use Rattle.h2_frames.specs.declared.reader.Step.{Step}
use Rattle.h2_frames.specs.declared.reader.Step.TheVariants.{More, Got}

-- the bytes that were fed, and the answer
pub record FeedCall : Type 0 where
  pub bytes : List ℕ
  pub answer : Step

-- the calls that were answered by these steps, from the bytes that the reader kept to those that it keeps
abbrev pub FeedsAll : List ℕ → List FeedCall → List ℕ → Type 0
FeedsAll old [] new = new ≡ old
FeedsAll old (c ∷ calls) new = (next : List ℕ) × Feeds old c.bytes (Ok c.answer) next × FeedsAll next calls new

abbrev pub used_by : List ℕ → Step → List ℕ
used_by bytes More = bytes
used_by bytes (Got f n) = take n bytes

-- all bytes that the calls used, in their order
abbrev pub used : List FeedCall → List ℕ
used [] = []
used (c ∷ calls) = used_by c.bytes c.answer ++ used calls

abbrev pub given_by : Step → List Frame → List Frame
given_by More frames = frames
given_by (Got f n) frames = f ∷ frames

-- the frames that they gave
abbrev pub given : List FeedCall → List Frame
given [] = []
given (c ∷ calls) = given_by c.answer (given calls)
