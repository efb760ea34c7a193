-- What a client's end writes: the gRPC over HTTP/2 protocol, Requests.
use Rattle.std.specs.Prelude.{ℕ, List, [], ◌∷◌, ◌++◌, length, codes}
use Rattle.std.specs.Int.{w32, to_be_bytes}
use Rattle.ext_msgs.specs.declared.lists.Field.{Field}

-- no flag, the length, the message
abbrev pub framed_message : List ℕ → List ℕ
framed_message message = 0 ∷ (to_be_bytes w32 (length message) ++ message)

abbrev pub call_fields : List ℕ → List Field
call_fields authority =
    record { name = codes ":method"; value = codes "POST" }
    ∷ record { name = codes ":scheme"; value = codes "http" }
    ∷ record { name = codes ":path"; value = codes "/envoy.service.ext_proc.v3.ExternalProcessor/Process" }
    ∷ record { name = codes ":authority"; value = authority }
    ∷ record { name = codes "content-type"; value = codes "application/grpc" }
    ∷ record { name = codes "te"; value = codes "trailers" }
    ∷ []
