-- What all bytes of one side give, and whether they have ended.
use Rattle.std.specs.Prelude.{ℕ, Bool, true, false, not, ◌&&◌, List, [], Option, Some, None}
use Rattle.ext_msgs.specs.declared.lists.Field.{Field}
use Rattle.http_model.specs.Bytes.{is_empty}
use Rattle.http_model.specs.Reading.{Reading, Whole, Partial, Bad, Fault, CutShort}
use Rattle.http_model.specs.Lines.{section, chunk_line}
use Rattle.http_model.specs.Heads.{Head, message_head, request_line, status_line, shown_fields, target_parts, request_fault, request_head, response_head, request_message, response_message_in, response_message, behind_interims}
use Rattle.http_model.specs.Bodies.{Body, body, chunk, trailers_behind, chunked_in}
use Rattle.http_model.specs.declared.types.Direction.{Direction}
use Rattle.http_model.specs.declared.types.Direction.TheVariants.{Request, Response}
use Rattle.http_model.specs.declared.types.Length.{Length}
use Rattle.http_model.specs.declared.types.Length.TheVariants.{NoBody}

-- a message as its side brought it so far
pub record Original : Type 0 where
  pub head : Option (List Field)  -- as a processor sees it, where it is whole
  pub length : Length
  pub expects : Bool  -- an interim 100 is owed
  pub body : List ℕ  -- so far
  pub trailers : List Field  -- without owned names
  pub whole : Bool
  pub fault : Option Fault

-- an end before the message is whole cuts it short, but for a client that ends before its first byte
abbrev pub cut_short : Bool → Option Fault → Option Fault
cut_short true None = Some CutShort
cut_short _ fault = fault

abbrev pub unread : Option Fault → Original
unread fault = record { head = None; length = NoBody; expects = false; body = []; trailers = []; whole = false; fault = fault }

abbrev pub has_left : Direction → List ℕ → Bool
has_left Request bytes = is_empty bytes
has_left Response bytes = false

abbrev pub with_body : Bool → Head → Body → Original
with_body ended h b = record {
  head = Some h.fields;
  length = h.length;
  expects = h.expects;
  body = b.content;
  trailers = b.trailers;
  whole = b.whole;
  fault = cut_short (ended && not b.whole) b.fault;
}

abbrev pub read_by : Direction → List ℕ → Bool → Reading Head → Original
read_by d bytes ended (Whole h rest) = with_body ended h (body h.length ended rest)
read_by d bytes ended Partial = unread (cut_short (ended && not (has_left d bytes)) None)
read_by d bytes ended (Bad f) = unread (Some f)

-- to_head is true of the response to a HEAD request
unfoldable pub reads : Direction → Bool → List ℕ → Bool → Original
reads d to_head bytes ended = read_by d bytes ended (message_head d to_head bytes)

-- An `unfolding` line that names this opens the reader, so that examples compute.
unfoldable pub read_rules : Unit {0}
unfolding section chunk_line request_line status_line shown_fields target_parts request_fault request_head response_head request_message response_message_in response_message behind_interims chunk trailers_behind chunked_in reads
read_rules = tt
