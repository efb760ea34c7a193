-- Messages, one behind the other, each after a flag and its length: the gRPC over HTTP/2 protocol, Length-Prefixed-Message.
use Rattle.std.specs.Prelude.{ℕ, zero, suc, ◌+◌, ◌==◌, not, List, [], ◌∷◌, length, take, drop, slice_index, Option, Some, None, if◌then◌else◌, nat_lt}
use Rattle.h2_frames.specs.Numbers.{u32_at}
use Rattle.grpc_call.specs.declared.fault.CallFault.{CallFault}
use Rattle.grpc_call.specs.declared.fault.CallFault.TheVariants.{Compressed, TooLong}

-- A prefix is one byte of flag and four of length. What it has at fault: the flag is judged before the length
abbrev pub prefix_fault : ℕ → ℕ → ℕ → Option CallFault
prefix_fault limit flag size = if not (flag == 0) then Some Compressed else (if nat_lt limit size then Some (TooLong size) else None)

-- What bytes begin with. A fault is told at the fifth byte, a message at its last.
pub data Beginning : Type 0 where
  Unfinished : Beginning
  Refused : CallFault → Beginning
  Whole : List ℕ → Beginning

abbrev pub first_unless : Option CallFault → ℕ → List ℕ → Beginning
first_unless (Some fault) size bytes = Refused fault
first_unless None size bytes = if nat_lt (length bytes) (5 + size) then Unfinished else Whole (take size (drop 5 bytes))

unfoldable pub first : ℕ → List ℕ → Beginning
first limit bytes =
    if nat_lt (length bytes) 5 then Unfinished
    else first_unless (prefix_fault limit (slice_index bytes 0) (u32_at bytes 1)) (u32_at bytes 1) bytes

-- the whole messages that bytes begin with, the rest behind them, and what is at fault there
pub record Framed : Type 0 where
  pub messages : List (List ℕ)
  pub rest : List ℕ
  pub fault : Option CallFault

abbrev pub before_rest : List ℕ → Framed → Framed
before_rest message framed = record { messages = message ∷ framed.messages; rest = framed.rest; fault = framed.fault }

-- by what the bytes begin with, and by what bytes behind a message have
abbrev pub framed_by : Beginning → List ℕ → (List ℕ → Framed) → Framed
framed_by Unfinished bytes behind = record { messages = []; rest = bytes; fault = None }
framed_by (Refused fault) bytes behind = record { messages = []; rest = bytes; fault = Some fault }
framed_by (Whole message) bytes behind = before_rest message (behind (drop (5 + length message) bytes))

-- (so many messages at most are read: each takes five bytes or more)
abbrev pub framed_within : ℕ → ℕ → List ℕ → Framed
framed_within zero limit bytes = record { messages = []; rest = bytes; fault = None }
framed_within (suc fuel) limit bytes = framed_by (first limit bytes) bytes (λ rest. framed_within fuel limit rest)

unfoldable pub framed : ℕ → List ℕ → Framed
framed limit bytes = framed_within (suc (length bytes)) limit bytes
