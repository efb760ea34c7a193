-- Which parts have bytes, how many, and where the data of a chunk stands among them.
use Rattle.std.proofs.Common.{refl, sym, ◌∙◌, ap, arith, append-nil, length-append}
use Rattle.std.specs.Prelude.{ℕ, ◌≡◌, ◌+◌, ◌-◌, ◌<◌, ◌≤◌, min, Bool, true, false, List, [], ◌∷◌, ◌++◌, length, codes, Option, Some, None}
use Rattle.ext_msgs.specs.declared.lists.Field.{Field}
use Rattle.http_model.specs.Bytes.{crlf}
use Rattle.http_model.specs.Wire.{head_bytes, hex, chunk_bytes, last_bytes, field_lines}
use Rattle.http_model.specs.declared.types.Direction.{Direction}
use Rattle.http_model.specs.declared.types.Framing.{Framing}
use Rattle.http_model.specs.declared.types.Framing.TheVariants.{NoField, Length, Chunked}
use Rattle.http_model.specs.declared.types.Out.{Out}
use Rattle.http_model.specs.declared.types.Out.TheVariants as part
use Rattle.filter_model.specs.Given.{data_at}
use Rattle.h1_outlet.specs.Parts.{unwritten, has_bytes, written_way}
use Rattle.h1_outlet.specs.Ways.{Way}

pub clash : true ≡ false → ⊥
clash e = cc

some_behind : (xs ys : List ℕ) → 0 < length ys → 0 < length (xs ++ ys)
some_behind xs ys h = let e : length (xs ++ ys) ≡ length xs + length ys = length-append xs ys in omega arith

head_some : (d : Direction) (fields : List Field) (f : Framing) → 0 < length (head_bytes d fields f)
unfolding head_bytes
head_some d fields f = some_behind _ crlf (omega arith)

last_some : (trailers : List Field) → 0 < length (last_bytes trailers)
unfolding last_bytes
last_some trailers = some_behind (codes "0\r\n" ++ field_lines trailers) crlf (omega arith)

-- the first line, the data, and a line end
pub chunk_size : (piece : List ℕ) → length (chunk_bytes piece) ≡ length (hex (length piece) ++ crlf) + length piece + 2
unfolding chunk_bytes
chunk_size piece =
    let line : List ℕ = hex (length piece) ++ crlf in
    let a : length (line ++ piece ++ crlf) ≡ length (line ++ piece) + 2 = length-append (line ++ piece) crlf in
    let b : length (line ++ piece) ≡ length line + length piece = length-append line piece in
    omega arith

-- Parts without bytes

pub no_bytes : (d : Direction) (framing : Option Framing) (trailers : Bool) (out : Out) → has_bytes framing trailers out ≡ false → unwritten d framing trailers out ≡ []
no_bytes d framing trailers (part.Head fields own) e = absurd (clash e)
no_bytes d None trailers (part.Data bytes) e = refl
no_bytes d (Some f) trailers (part.Data (x ∷ bytes)) e = absurd (clash e)
no_bytes d (Some NoField) trailers (part.Data []) e = refl
no_bytes d (Some (Length n)) trailers (part.Data []) e = refl
no_bytes d (Some Chunked) trailers (part.Data []) e = refl
no_bytes d None trailers (part.Trailers fields) e = refl
no_bytes d (Some NoField) trailers (part.Trailers fields) e = refl
no_bytes d (Some (Length n)) trailers (part.Trailers fields) e = refl
no_bytes d (Some Chunked) trailers (part.Trailers fields) e = absurd (clash e)
no_bytes d None trailers part.End e = refl
no_bytes d (Some NoField) true part.End e = refl
no_bytes d (Some NoField) false part.End e = refl
no_bytes d (Some (Length n)) true part.End e = refl
no_bytes d (Some (Length n)) false part.End e = refl
no_bytes d (Some Chunked) true part.End e = refl
no_bytes d (Some Chunked) false part.End e = absurd (clash e)
no_bytes d framing trailers part.Nothing e = refl

none_of : (n : ℕ) → min n 0 ≡ 0
none_of n = omega arith

first_none : (n : ℕ) → min 0 n ≡ 0
first_none n = omega arith

-- nor body bytes
pub no_data : (framing : Option Framing) (trailers : Bool) (out : Out) (n : ℕ) → has_bytes framing trailers out ≡ false → data_at framing n out ≡ 0
no_data None trailers out n e = refl
no_data (Some f) trailers (part.Head fields own) n e = absurd (clash e)
no_data (Some f) trailers (part.Data (x ∷ bytes)) n e = absurd (clash e)
no_data (Some NoField) trailers (part.Data []) n e = none_of n
no_data (Some (Length m)) trailers (part.Data []) n e = none_of n
no_data (Some Chunked) trailers (part.Data []) n e = none_of (n - length (hex 0 ++ crlf))
no_data (Some NoField) trailers (part.Trailers fields) n e = refl
no_data (Some (Length m)) trailers (part.Trailers fields) n e = refl
no_data (Some Chunked) trailers (part.Trailers fields) n e = refl
no_data (Some NoField) trailers part.End n e = refl
no_data (Some (Length m)) trailers part.End n e = refl
no_data (Some Chunked) trailers part.End n e = refl
no_data (Some NoField) trailers part.Nothing n e = refl
no_data (Some (Length m)) trailers part.Nothing n e = refl
no_data (Some Chunked) trailers part.Nothing n e = refl

-- the first byte of a head, of the trailers and of the end is no body byte
pub head_data : (framing : Option Framing) (fields : List Field) (own : Framing) (n : ℕ) → data_at framing n (part.Head fields own) ≡ 0
head_data None fields own n = refl
head_data (Some NoField) fields own n = refl
head_data (Some (Length m)) fields own n = refl
head_data (Some Chunked) fields own n = refl

pub zero_data : (framing : Option Framing) (out : Out) → data_at framing 0 out ≡ 0
zero_data None out = refl
zero_data (Some f) (part.Head fields own) = head_data (Some f) fields own 0
zero_data (Some NoField) (part.Data bytes) = first_none (length bytes)
zero_data (Some (Length m)) (part.Data bytes) = first_none (length bytes)
zero_data (Some Chunked) (part.Data bytes) = let e : 0 - length (hex (length bytes) ++ crlf) ≡ 0 = omega arith in ap (λ n. min n (length bytes)) e ∙ first_none (length bytes)
zero_data (Some NoField) (part.Trailers fields) = refl
zero_data (Some (Length m)) (part.Trailers fields) = refl
zero_data (Some Chunked) (part.Trailers fields) = refl
zero_data (Some NoField) part.End = refl
zero_data (Some (Length m)) part.End = refl
zero_data (Some Chunked) part.End = refl
zero_data (Some NoField) part.Nothing = refl
zero_data (Some (Length m)) part.Nothing = refl
zero_data (Some Chunked) part.Nothing = refl

-- Parts with bytes

plain_length : (bytes : List ℕ) → length (bytes ++ []) ≡ length bytes
plain_length bytes = ap length (append-nil bytes)

chunk_length : (x : ℕ) (bytes : List ℕ) → length (chunk_bytes (x ∷ bytes) ++ []) ≡ length (hex (length (x ∷ bytes)) ++ crlf) + length (x ∷ bytes) + 2
chunk_length x bytes = plain_length (chunk_bytes (x ∷ bytes)) ∙ chunk_size (x ∷ bytes)

pub some_bytes : (d : Direction) (framing : Option Framing) (trailers : Bool) (out : Out) → has_bytes framing trailers out ≡ true → 0 < length (unwritten d framing trailers out)
some_bytes d framing trailers (part.Head fields own) e = head_some d fields own
some_bytes d None trailers (part.Data bytes) e = absurd (clash (sym e))
some_bytes d (Some f) trailers (part.Data []) e = absurd (clash (sym e))
some_bytes d (Some NoField) trailers (part.Data (x ∷ bytes)) e = omega arith
some_bytes d (Some (Length n)) trailers (part.Data (x ∷ bytes)) e = omega arith
some_bytes d (Some Chunked) trailers (part.Data (x ∷ bytes)) e = let k = chunk_length x bytes in omega (arith, k)
some_bytes d None trailers (part.Trailers fields) e = absurd (clash (sym e))
some_bytes d (Some NoField) trailers (part.Trailers fields) e = absurd (clash (sym e))
some_bytes d (Some (Length n)) trailers (part.Trailers fields) e = absurd (clash (sym e))
some_bytes d (Some Chunked) trailers (part.Trailers fields) e = last_some fields
some_bytes d None trailers part.End e = absurd (clash (sym e))
some_bytes d (Some NoField) trailers part.End e = absurd (clash (sym e))
some_bytes d (Some (Length n)) trailers part.End e = absurd (clash (sym e))
some_bytes d (Some Chunked) true part.End e = absurd (clash (sym e))
some_bytes d (Some Chunked) false part.End e = last_some []
some_bytes d framing trailers part.Nothing e = absurd (clash (sym e))

-- the body bytes of a part that is written are those of the part
pub data_written : (d : Direction) (framing : Option Framing) (trailers : Bool) (out : Out) (n : ℕ) → has_bytes framing trailers out ≡ true
    → min (n - (written_way d framing trailers out).skip) (written_way d framing trailers out).body ≡ data_at framing n out
data_written d framing trailers (part.Head fields own) n e = none_of (n - 0) ∙ sym (head_data framing fields own n)
data_written d None trailers (part.Data bytes) n e = absurd (clash (sym e))
data_written d (Some NoField) trailers (part.Data bytes) n e = let k : n - 0 ≡ n = omega arith in ap (λ i. min i (length bytes)) k
data_written d (Some (Length m)) trailers (part.Data bytes) n e = let k : n - 0 ≡ n = omega arith in ap (λ i. min i (length bytes)) k
data_written d (Some Chunked) trailers (part.Data bytes) n e = refl
data_written d None trailers (part.Trailers fields) n e = absurd (clash (sym e))
data_written d (Some NoField) trailers (part.Trailers fields) n e = none_of (n - 0)
data_written d (Some (Length m)) trailers (part.Trailers fields) n e = none_of (n - 0)
data_written d (Some Chunked) trailers (part.Trailers fields) n e = none_of (n - 0)
data_written d None trailers part.End n e = absurd (clash (sym e))
data_written d (Some NoField) trailers part.End n e = none_of (n - 0)
data_written d (Some (Length m)) trailers part.End n e = none_of (n - 0)
data_written d (Some Chunked) trailers part.End n e = none_of (n - 0)
data_written d framing trailers part.Nothing n e = absurd (clash (sym e))

abbrev pub WayFits : Way → Type 0
WayFits w = w.skip + w.body ≤ length w.left

pub written_fits : (d : Direction) (framing : Option Framing) (trailers : Bool) (out : Out) → WayFits (written_way d framing trailers out)
written_fits d framing trailers (part.Head fields own) = omega arith
written_fits d None trailers (part.Data bytes) = omega arith
written_fits d (Some NoField) trailers (part.Data bytes) = omega arith
written_fits d (Some (Length m)) trailers (part.Data bytes) = omega arith
written_fits d (Some Chunked) trailers (part.Data bytes) = let k = chunk_size bytes in omega (arith, k)
written_fits d framing trailers (part.Trailers fields) = omega arith
written_fits d framing trailers part.End = omega arith
written_fits d framing trailers part.Nothing = omega arith

pub written_left : (d : Direction) (framing : Option Framing) (trailers : Bool) (out : Out) → has_bytes framing trailers out ≡ true → (written_way d framing trailers out).left ≡ unwritten d framing trailers out
written_left d framing trailers (part.Head fields own) e = refl
written_left d None trailers (part.Data bytes) e = absurd (clash (sym e))
written_left d (Some f) trailers (part.Data []) e = absurd (clash (sym e))
written_left d (Some NoField) trailers (part.Data (x ∷ bytes)) e = sym (append-nil (x ∷ bytes))
written_left d (Some (Length m)) trailers (part.Data (x ∷ bytes)) e = sym (append-nil (x ∷ bytes))
written_left d (Some Chunked) trailers (part.Data (x ∷ bytes)) e = sym (append-nil (chunk_bytes (x ∷ bytes)))
written_left d framing trailers (part.Trailers fields) e = refl
written_left d framing trailers part.End e = refl
written_left d framing trailers part.Nothing e = refl
