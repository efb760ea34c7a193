-- A part of a message before its bytes are written.
use Rattle.std.specs.Prelude.{ℕ, Bool, true, false, not, ◌&&◌, List, [], ◌++◌, length, Option, Some, is_some}
use Rattle.http_model.specs.Bytes.{crlf, is_empty}
use Rattle.http_model.specs.Wire.{head_bytes, hex, chunk_bytes}
use Rattle.http_model.specs.declared.types.Direction.{Direction}
use Rattle.http_model.specs.declared.types.Framing.{Framing}
use Rattle.http_model.specs.declared.types.Framing.TheVariants.{Chunked}
use Rattle.http_model.specs.declared.types.Out.{Out}
use Rattle.http_model.specs.declared.types.Out.TheVariants as part
use Rattle.filter_model.specs.HalfRight.{part_bytes}
use Rattle.filter_model.specs.Held.{field_bytes}
use Rattle.h1_outlet.specs.Ways.{Way, plain}

-- what is known of a message once this part was put too
abbrev pub framing_with : Option Framing → Out → Option Framing
framing_with framing (part.Head fields own) = Some own
framing_with framing _ = framing

abbrev pub trailers_with : Bool → Out → Bool
trailers_with trailers (part.Trailers fields) = true
trailers_with trailers _ = trailers

-- the bytes of the part that was put last
abbrev pub unwritten : Direction → Option Framing → Bool → Out → List ℕ
unwritten d framing trailers (part.Head fields own) = head_bytes d fields own
unwritten d framing trailers (part.Data bytes) = part_bytes d framing trailers (part.Data bytes)
unwritten d framing trailers (part.Trailers fields) = part_bytes d framing trailers (part.Trailers fields)
unwritten d framing trailers part.End = part_bytes d framing trailers part.End
unwritten d framing trailers part.Nothing = []

abbrev pub is_chunked : Option Framing → Bool
is_chunked (Some Chunked) = true
is_chunked _ = false

-- whether it has any
abbrev pub has_bytes : Option Framing → Bool → Out → Bool
has_bytes framing trailers (part.Head fields own) = true
has_bytes framing trailers (part.Data bytes) = is_some framing && not (is_empty bytes)
has_bytes framing trailers (part.Trailers fields) = is_chunked framing
has_bytes framing trailers part.End = is_chunked framing && not trailers
has_bytes framing trailers part.Nothing = false

-- the first line of a chunk stands before its data
abbrev pub chunk_way : List ℕ → Way
chunk_way bytes = record { left = chunk_bytes bytes; skip = length (hex (length bytes) ++ crlf); body = length bytes }

abbrev pub data_way : Option Framing → List ℕ → Way
data_way (Some Chunked) bytes = chunk_way bytes
data_way _ bytes = record { left = bytes; skip = 0; body = length bytes }

-- the bytes of a part that has some
abbrev pub written_way : Direction → Option Framing → Bool → Out → Way
written_way d framing trailers (part.Data bytes) = data_way framing bytes
written_way d framing trailers out = plain (unwritten d framing trailers out)

-- how much it takes while it isn't written
abbrev pub part_size : Out → ℕ
part_size (part.Head fields own) = field_bytes fields
part_size (part.Data bytes) = length bytes
part_size (part.Trailers fields) = field_bytes fields
part_size part.End = 0
part_size part.Nothing = 0
