-- What an exchange meets: the entries of its view.
use Rattle.std.specs.Prelude.{ℕ, Bool, List, Option}
use Rattle.ext_msgs.specs.declared.answer.Answer.{Answer}
use Rattle.filter_model.specs.declared.calls.Side.{Side}
use Rattle.filter_model.specs.declared.calls.Loss.{Loss}

pub data ViewEntry : Type 0 where
  Bytes : Side → List ℕ → ViewEntry  -- a side brought bytes
  End : Side → ViewEntry
  Lost : Side → Loss → ViewEntry
  Answered : Option Answer → ViewEntry  -- None where the reader refuses the bytes
  TooLong : ViewEntry
  Closed : Bool → ViewEntry  -- true where with grpc-status 0
  NoStream : ViewEntry
  Tick : ℕ → ViewEntry  -- in milliseconds
  Starved : ViewEntry  -- memory was refused
  Sent : ViewEntry  -- the oldest ask not yet sent was sent
  Given : Side → List ℕ → ViewEntry  -- a side was given bytes
