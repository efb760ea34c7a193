-- What waits for one frame.
use Rattle.std.specs.Prelude.{ℕ, ◌*◌, ◌≤◌, Bool, List, [], ◌++◌, true, length, if◌then◌else◌}
use Rattle.h2_frames.specs.declared.frame.Frame.{Frame}
use Rattle.h2_frames.specs.declared.frame.Frame.TheVariants as frame
use Rattle.h2_model.specs.Queue.{bytes_of}
use Rattle.h2_model.specs.History.{preface}

-- all bytes of a frame; the first SETTINGS of a client stand behind the preface
unfoldable pub written : Bool → Frame → List ℕ
written greeting f = (if greeting then preface else []) ++ bytes_of f

-- what is written for a field block, which the proofs open where they need it
unfoldable pub block_bytes : ℕ → List ℕ → Bool → List ℕ
block_bytes id block last = bytes_of (frame.Headers id block last true)

-- a payload has at most 16,384 bytes; a field block may have any length, since it is cut
abbrev pub IsSendable : Frame → Type 0
IsSendable (frame.Data id bytes last size) = length bytes ≤ 16384
IsSendable (frame.Settings list) = 6 * length list ≤ 16384
IsSendable (frame.Continuation id part ends) = length part ≤ 16384
IsSendable other = Unit {0}

-- what is true of an outgoing frame's fields
pub record IsOutgoing (f : Frame) (greeting : Bool) (given : ℕ) : Type 0 where
  pub sendable : IsSendable f
  pub within : given ≤ length (written greeting f)
