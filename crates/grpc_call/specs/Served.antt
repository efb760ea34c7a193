-- A server's end: what it makes of the head of a call, and what it writes beside messages. The gRPC over HTTP/2 protocol,
-- Requests and Responses.
use Rattle.std.specs.Prelude.{ℕ, Bool, true, false, ◌&&◌, List, [], ◌∷◌, Option, Some, None, if◌then◌else◌, nat_eq, codes, bytes_eq, decimal}
use Rattle.std.specs.List.{starts_with}
use Rattle.ext_msgs.specs.declared.lists.Field.{Field}
use Rattle.grpc_call.specs.Blocks.{first_value}
use Rattle.grpc_call.specs.Reading.{Response}

abbrev pub service_path : List ℕ
service_path = codes "/envoy.service.ext_proc.v3.ExternalProcessor/Process"

abbrev pub is_value : List ℕ → Option (List ℕ) → Bool
is_value wanted None = false
is_value wanted (Some value) = bytes_eq value wanted

abbrev pub is_grpc : Option (List ℕ) → Bool
is_grpc None = false
is_grpc (Some value) = starts_with nat_eq value (codes "application/grpc")

-- the status with which a call is refused by its head: 12 for another path, 3 for another method or content type
unfoldable pub refusal_of : List Field → Option ℕ
refusal_of fields =
    if is_value service_path (first_value (codes ":path") fields)
    then (if is_value (codes "POST") (first_value (codes ":method") fields) && is_grpc (first_value (codes "content-type") fields) then None else Some 3)
    else Some 12

-- a reader of a request, whose head is judged elsewhere
abbrev pub begun_request : ℕ → Response
begun_request limit = record { limit = limit; headed = true; rest = [] }

abbrev pub response_fields : List Field
response_fields =
    record { name = codes ":status"; value = codes "200" }
    ∷ record { name = codes "content-type"; value = codes "application/grpc" }
    ∷ []

abbrev pub status_fields : ℕ → List Field
status_fields status = record { name = codes "grpc-status"; value = decimal status } ∷ []
