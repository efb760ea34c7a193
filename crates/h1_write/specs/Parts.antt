-- The parts of a head.
use Rattle.std.specs.Prelude.{ℕ, List, ◌++◌, codes, filter}
use Rattle.ext_msgs.specs.declared.lists.Field.{Field}
use Rattle.http_model.specs.declared.types.Framing.{Framing}
use Rattle.http_model.specs.Bytes.{crlf, value_of}
use Rattle.http_model.specs.Wire.{field_line, field_lines, framing_field, is_written_as_is}

-- what follows the first lines
abbrev pub rest_of : List Field → Framing → List ℕ
rest_of head framing = field_lines (filter is_written_as_is head) ++ framing_field framing ++ field_line (codes "connection") (codes "close") ++ crlf

-- the first line of a request
abbrev pub request_line : List Field → List ℕ
request_line head = value_of (codes ":method") head ++ codes " " ++ value_of (codes ":path") head ++ codes " HTTP/1.1\r\n"
