-- The body of a message, behind its head: RFC 9112 sections 6 and 7.
use Rattle.std.specs.Prelude.{ℕ, zero, suc, Bool, true, false, ◌&&◌, List, [], ◌∷◌, ◌++◌, length, take, drop, Option, Some, None, if◌then◌else◌, ◌==◌, nat_lt, nat_le}
use Rattle.ext_msgs.specs.declared.lists.Field.{Field}
use Rattle.http_model.specs.Bytes.{without, owned_names}
use Rattle.http_model.specs.Reading.{Reading, Whole, Partial, Bad, Fault, BadChunk, LongHead, limited}
use Rattle.http_model.specs.Lines.{chunk_line, section}
use Rattle.http_model.specs.Heads.{head_limit, field_limit}
use Rattle.http_model.specs.declared.types.Length.{Length}
use Rattle.http_model.specs.declared.types.Length.TheVariants.{NoBody, Known, Chunked, Close}

-- a body so far
pub record Body : Type 0 where
  pub content : List ℕ
  pub trailers : List Field
  pub whole : Bool
  pub fault : Option Fault
  pub rest : List ℕ  -- what stands behind it, where it is whole

abbrev pub part : List ℕ → Body
part content = record { content = content; trailers = []; whole = false; fault = None; rest = [] }

abbrev pub faulty : List ℕ → Fault → Body
faulty content f = record { content = content; trailers = []; whole = false; fault = Some f; rest = [] }

abbrev pub whole_body : List ℕ → List Field → List ℕ → Body
whole_body content trailers rest = record { content = content; trailers = trailers; whole = true; fault = None; rest = rest }

-- One chunk: chunk-size line, chunk-data, CR LF

pub data Chunk : Type 0 where
  Piece : List ℕ → List ℕ → Chunk  -- its data, and what stands behind it
  Last : List ℕ → Chunk  -- of size 0; the trailer section stands behind it
  Begun : List ℕ → Chunk  -- its data so far
  Wrong : List ℕ → Chunk  -- its data, with no chunk's end behind

abbrev pub chunk_end : List ℕ → List ℕ → Chunk
chunk_end content [] = Begun content
chunk_end content (b ∷ []) = if b == 13 then Begun content else Wrong content
chunk_end content (b ∷ c ∷ rest) = if b == 13 && c == 10 then Piece content rest else Wrong content

abbrev pub chunk_data : ℕ → List ℕ → Chunk
chunk_data size bytes = if nat_lt (length bytes) size then Begun bytes else chunk_end (take size bytes) (drop size bytes)

abbrev pub chunk_behind : Reading ℕ → Chunk
chunk_behind (Whole size rest) = elim (size == 0) [ true ↦ Last rest | false ↦ chunk_data size rest ]
chunk_behind Partial = Begun []
chunk_behind (Bad f) = Wrong []

unfoldable pub chunk : List ℕ → Chunk
chunk bytes = chunk_behind (chunk_line bytes)

-- A trailer section has the limits of a head. Owned names don't belong to the trailers.

abbrev pub trailers_read : Reading (List Field) → Body
trailers_read (Whole fields rest) = whole_body [] (without owned_names fields) rest
trailers_read Partial = part []
trailers_read (Bad f) = faulty [] f

unfoldable pub trailers_behind : List ℕ → Body
trailers_behind bytes = trailers_read (limited head_limit LongHead (section BadChunk field_limit) bytes)

-- Chunks, the last one, and the trailers: section 7.1

abbrev pub behind : List ℕ → Body → Body
behind content b = record b { content = content ++ b.content }

abbrev pub chunks_from : Chunk → (List ℕ → Body) → Body
chunks_from (Piece content rest) next = behind content (next rest)
chunks_from (Last rest) next = trailers_behind rest
chunks_from (Begun content) next = part content
chunks_from (Wrong content) next = faulty content BadChunk

-- at most so many chunks
unfoldable pub chunked_in : ℕ → List ℕ → Body
chunked_in zero bytes = part []
chunked_in (suc n) bytes = chunks_from (chunk bytes) (chunked_in n)

abbrev pub chunked : List ℕ → Body
chunked bytes = chunked_in (suc (length bytes)) bytes

-- the body among the bytes behind a head, by its length
abbrev pub body : Length → Bool → List ℕ → Body
body NoBody ended bytes = whole_body [] [] bytes
body (Known n) ended bytes = record { content = take n bytes; trailers = []; whole = nat_le n (length bytes); fault = None; rest = drop n bytes }
body Chunked ended bytes = chunked bytes
body Close ended bytes = record { content = bytes; trailers = []; whole = ended; fault = None; rest = [] }
