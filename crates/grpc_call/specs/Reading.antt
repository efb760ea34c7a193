-- What a reader answers, by what it keeps of a response.
use Rattle.std.specs.Prelude.{ℕ, ◌+◌, ◌-◌, ◌≤◌, ◌≡◌, Bool, true, false, List, [], ◌++◌, length, Option, Some, None, Result, Ok, Err, if◌then◌else◌}
use Rattle.ext_msgs.specs.declared.lists.Field.{Field}
use Rattle.grpc_call.specs.declared.fault.CallFault.{CallFault}
use Rattle.grpc_call.specs.declared.fault.CallFault.TheVariants.{Head, Cut, NoStatus, Memory}
use Rattle.grpc_call.specs.declared.heads.Block.{Block}
use Rattle.grpc_call.specs.declared.heads.Block.TheVariants.{Skips, Begins, Ends, Refuses}
use Rattle.grpc_call.specs.Framed.{Beginning, Unfinished, Refused, Whole, first}
use Rattle.grpc_call.specs.Blocks.{block_of, is_some_byte}

-- what is kept of a response: the longest message that is taken, whether its head came, and the bytes of the unfinished message
pub record Response : Type 0 where
  pub limit : ℕ
  pub headed : Bool
  pub rest : List ℕ

abbrev pub begun : ℕ → Response
begun limit = record { limit = limit; headed = false; rest = [] }

-- One block.
abbrev pub block_in : Response → List Field → Bool → Block
block_in r fields ends = block_of r.headed (is_some_byte r.rest) fields ends

abbrev pub headed_by : Block → Response → Response
headed_by Begins r = record r { headed = true }
headed_by Skips r = r
headed_by (Ends status) r = r
headed_by (Refuses fault) r = r

abbrev pub told_by : Block → Result (Option ℕ) CallFault
told_by Skips = Ok None
told_by Begins = Ok None
told_by (Ends status) = Ok (Some status)
told_by (Refuses fault) = Err fault

-- One call with DATA: what becomes of its bytes.
pub data Taken : Type 0 where
  Keeps : Taken  -- no message is whole; all bytes are kept
  Gives : List ℕ → ℕ → Taken  -- a message, and how many of the bytes end it; nothing is kept
  Fails : CallFault → Taken

-- a stream that ends with DATA ends within a message, or has no status
abbrev pub ended_behind : List ℕ → List ℕ → CallFault
ended_behind rest bytes = if is_some_byte (rest ++ bytes) then Cut else NoStatus

abbrev pub taken_by : Beginning → Response → List ℕ → Bool → Taken
taken_by Unfinished r bytes false = Keeps
taken_by Unfinished r bytes true = Fails (ended_behind r.rest bytes)
taken_by (Refused fault) r bytes ends = Fails fault
taken_by (Whole message) r bytes ends = Gives message (5 + length message - length r.rest)

abbrev pub taken : Response → List ℕ → Bool → Taken
taken r bytes ends = if r.headed then taken_by (first r.limit (r.rest ++ bytes)) r bytes ends else Fails Head

-- a fault leaves a reader as it was
abbrev pub ReadsData : Response → List ℕ → Bool → Result (Option (List ℕ × ℕ)) CallFault → Response → Type 0
ReadsData r bytes ends (Ok None) new = (taken r bytes ends ≡ Keeps) × (new ≡ record r { rest = r.rest ++ bytes })
ReadsData r bytes ends (Ok (Some (message, used))) new = (taken r bytes ends ≡ Gives message used) × (used ≤ length bytes) × (new ≡ record r { rest = [] })
ReadsData r bytes ends (Err Memory) new = new ≡ r
ReadsData r bytes ends (Err fault) new = (taken r bytes ends ≡ Fails fault) × (new ≡ r)
