-- How many body bytes the first bytes of the written parts have: a writer counts them by its parts, and never reads what it gave.
use Rattle.std.specs.Prelude.{ℕ, ◌+◌, ◌-◌, min, List, [], ◌∷◌, ◌++◌, length, Option, Some, None}
use Rattle.http_model.specs.Bytes.{crlf}
use Rattle.http_model.specs.Wire.{hex}
use Rattle.http_model.specs.declared.types.Direction.{Direction}
use Rattle.http_model.specs.declared.types.Framing.{Framing}
use Rattle.http_model.specs.declared.types.Framing.TheVariants.{NoField, Length, Chunked}
use Rattle.http_model.specs.declared.types.Out.{Out}
use Rattle.http_model.specs.declared.types.Out.TheVariants as part
use Rattle.filter_model.specs.HalfRight.{framing_in, written_parts}

-- of the first n bytes of a part behind a head of this framing; a chunk's data stands behind its first line
abbrev pub data_of : Framing → ℕ → Out → ℕ
data_of Chunked n (part.Data bytes) = min (n - length (hex (length bytes) ++ crlf)) (length bytes)
data_of NoField n (part.Data bytes) = min n (length bytes)
data_of (Length m) n (part.Data bytes) = min n (length bytes)
data_of f n _ = 0

-- the head has none
abbrev pub data_at : Option Framing → ℕ → Out → ℕ
data_at None n out = 0
data_at (Some f) n out = data_of f n out

-- of the first n bytes of these parts, newest first
abbrev pub data_in : Direction → List Out → ℕ → ℕ
data_in d [] n = 0
data_in d (out ∷ parts) n = data_in d parts n + data_at (framing_in parts) (n - length (written_parts d parts)) out
