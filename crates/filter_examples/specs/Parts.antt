-- Parts that are handed out of one direction: a request whose chunked body is streamed. Its first piece is cleared, its second is replaced, and its trailers are asked.
use Rattle.std.specs.Prelude.{◌≡◌, true, false, List, [], ◌∷◌, codes, refl}
use Rattle.std.specs.Fmt.{digits}
use Rattle.ext_msgs.specs.declared.lists.Field.{Field}
use Rattle.ext_msgs.specs.declared.answer.BodyChange.TheVariants as change
use Rattle.ext_msgs.specs.declared.modes.BodyMode.TheVariants.{Streamed}
use Rattle.ext_msgs.specs.declared.modes.PartModes.{PartModes}
use Rattle.http_model.specs.Bytes.{field}
use Rattle.http_model.specs.Wire.{write_rules}
use Rattle.http_model.specs.declared.types.Direction.TheVariants.{Request}
use Rattle.http_model.specs.declared.types.Length.TheVariants as of
use Rattle.http_model.specs.declared.types.Framing.TheVariants as framing
use Rattle.http_model.specs.declared.types.Out.TheVariants as part
use Rattle.filter_model.specs.Half.{HalfStep, Told, Asked, Gave, Past, Head, Bytes, End, Answer, Sent, parts}
use Rattle.filter_model.specs.HalfRight.{written_parts}
use Rattle.filter_examples.specs.Setting.{small, common}

abbrev pub streamed : PartModes
streamed = record { headers = false; body = Streamed; trailers = true }

abbrev pub head : List Field
head = field (codes ":method") (codes "POST") ∷ field (codes ":authority") (codes "a") ∷ field (codes ":path") (codes "/") ∷ []

abbrev pub trailers : List Field
trailers = field (codes "x-t") (codes "1") ∷ []

-- newest first
abbrev pub steps : List HalfStep
steps =
    Gave part.Nothing ∷ Gave part.End ∷ Gave (part.Trailers trailers) ∷ Told (Answer (common change.Absent)) ∷ Told (End [] trailers)
    ∷ Gave (part.Data (codes "xyz")) ∷ Told (Answer (common (change.Bytes (codes "xyz")))) ∷ Told (Answer (common (change.Clear true))) ∷ Told Sent ∷ Asked
    ∷ Told (Bytes (codes "abcdef")) ∷ Gave (part.Head head framing.Chunked) ∷ Told (Head head of.Chunked) ∷ []

abbrev pub streaming : Past
streaming = record { config = small; direction = Request; modes = streamed; steps = steps }

parts_are_written : written_parts Request (parts steps)
    ≡ codes "POST / HTTP/1.1\r\nhost: a\r\ntransfer-encoding: chunked\r\nconnection: close\r\n\r\n3\r\nxyz\r\n0\r\nx-t: 1\r\n\r\n"
unfolding digits write_rules
parts_are_written = refl
