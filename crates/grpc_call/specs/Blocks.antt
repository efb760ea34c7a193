-- What the field blocks of a response say of its call: the gRPC over HTTP/2 protocol, Responses.
use Rattle.std.specs.Prelude.{ℕ, ◌^◌, Bool, true, false, not, ◌&&◌, ◌||◌, List, [], ◌∷◌, Option, Some, None, if◌then◌else◌, nat_lt, nat_eq, codes, bytes_eq}
use Rattle.std.specs.List.{list_all, starts_with}
use Rattle.std.specs.Char.{is_ascii_digit}
use Rattle.std.specs.Str.Parse.{digits_value}
use Rattle.ext_msgs.specs.declared.lists.Field.{Field}
use Rattle.h2_model.specs.StreamFaults.{is_interim}
use Rattle.grpc_call.specs.declared.fault.CallFault.TheVariants.{Head, Cut, NoStatus}
use Rattle.grpc_call.specs.declared.heads.Block.{Block}
use Rattle.grpc_call.specs.declared.heads.Block.TheVariants.{Skips, Begins, Ends, Refuses}

-- the first of the fields of a name counts
abbrev pub first_value : List ℕ → List Field → Option (List ℕ)
first_value name [] = None
first_value name (f ∷ fields) = if bytes_eq f.name name then Some f.value else first_value name fields

abbrev pub is_some_byte : List ℕ → Bool
is_some_byte [] = false
is_some_byte (b ∷ bs) = true

-- a decimal number below 2^32, leading zeros or not
unfoldable pub number_in : List ℕ → Option ℕ
number_in value = if is_some_byte value && list_all is_ascii_digit value && nat_lt (digits_value 10 value) (2 ^ 32) then Some (digits_value 10 value) else None

abbrev pub number_or_none : Option (List ℕ) → Option ℕ
number_or_none None = None
number_or_none (Some value) = number_in value

abbrev pub status_of : List Field → Option ℕ
status_of fields = number_or_none (first_value (codes "grpc-status") fields)

-- no content-type, or each begins with application/grpc
abbrev pub is_right_type : Field → Bool
is_right_type f = not (bytes_eq f.name (codes "content-type")) || starts_with nat_eq f.value (codes "application/grpc")

abbrev pub is_call_type : List Field → Bool
is_call_type fields = list_all is_right_type fields

-- the response's head has `:status` 200, and a later block has none or this
abbrev pub is_right_status : Bool → Option (List ℕ) → Bool
is_right_status headed None = headed
is_right_status headed (Some value) = bytes_eq value (codes "200")

-- a block that ends the stream; the flag is whether it ends within a message
abbrev pub ended_with : Bool → Option ℕ → Block
ended_with true status = Refuses Cut
ended_with false None = Refuses NoStatus
ended_with false (Some status) = Ends status

-- A block: whether the head came before, whether a message is unfinished, the fields, and whether the block ends the stream.
unfoldable pub block_of : Bool → Bool → List Field → Bool → Block
block_of headed within fields ends =
    if is_interim fields then (if ends then Refuses Head else Skips)
    else (if not (is_right_status headed (first_value (codes ":status") fields)) then Refuses Head
    else (if ends then ended_with within (status_of fields)
    else (if is_call_type fields then Begins else Refuses Head)))
