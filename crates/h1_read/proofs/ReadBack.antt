-- What was written is read back.
use Rattle.std.proofs.Common.{sym, ◌∙◌, ap, refl, arith, append-nil, take_all, le-leb}
use Rattle.std.proofs.lemmas.List.{drop_all}
use Rattle.std.specs.Prelude.{ℕ, ◌≡◌, Bool, true, false, if◌then◌else◌, List, [], ◌++◌, length, drop, map, flat_map, nat_le, None}
use Rattle.std.specs.List.{AllByRecursion}
use Rattle.ext_msgs.specs.declared.lists.Field.{Field}
use Rattle.http_model.specs.Bytes.{crlf, without, owned_names}
use Rattle.http_model.specs.Reading.{Reading, Whole, Partial, Bad}
use Rattle.http_model.specs.Heads.{Head, message_head, is_bare}
use Rattle.http_model.specs.Bodies.{Body, body, behind, chunked, trailers_behind, whole_body}
use Rattle.http_model.specs.Reads.{reads, read_by, with_body}
use Rattle.http_model.specs.Wire.{head_bytes, field_lines, chunk_bytes, last_bytes}
use Rattle.http_model.specs.declared.types.Direction.{Direction}
use Rattle.http_model.specs.declared.types.Direction.TheVariants.{Request, Response}
use Rattle.http_model.specs.declared.types.Framing.{Framing}
use Rattle.http_model.specs.declared.types.Framing.TheVariants as framing
use Rattle.http_model.specs.declared.types.Length.{Length}
use Rattle.http_model.specs.declared.types.Length.TheVariants as length
use Rattle.h1_read.specs.Written.{given, status_of, response_length, Message, content_of, body_bytes, message_bytes, given_head, BodyFits, IsWritten, given_body, given_message, IsAccepted, IsPiece}
use Rattle.h1_read.proofs.WrittenBodies.{chunks_read, trailers_given, trailers_whole}
use Rattle.h1_read.proofs.WrittenRequests.{request_given, request_accepted}
use Rattle.h1_read.proofs.WrittenResponses.{response_given, response_accepted}

-- Heads

head_given : (d : Direction) (to_head : Bool) (m : Message) → IsWritten d to_head m → (rest : List ℕ) (h : Head) (r : List ℕ)
    → message_head d to_head (head_bytes d m.head m.framing ++ rest) ≡ Whole h r → (h ≡ given_head d to_head m.head m.framing) × (r ≡ rest)
head_given Request to_head m w rest h r e = request_given m.head w.head m.framing w.framing rest h r e
head_given Response to_head m w rest h r e = response_given to_head m.head w.head m.framing w.framing rest h r e

head_accepted : (d : Direction) (to_head : Bool) (m : Message) → IsWritten d to_head m → IsAccepted d m → (rest : List ℕ)
    → message_head d to_head (head_bytes d m.head m.framing ++ rest) ≡ Whole (given_head d to_head m.head m.framing) rest
head_accepted Request to_head m w a rest = request_accepted m.head w.head m.framing w.framing a.head rest
head_accepted Response to_head m w a rest = response_accepted to_head m.head w.head m.framing w.framing a.head rest

-- Bodies

-- a length that the framing tells
abbrev Tells : Framing → Length → Type 0
Tells f length.NoBody = Unit {0}
Tells f (length.Known n) = f ≡ framing.Length n
Tells f length.Chunked = f ≡ framing.Chunked
Tells f length.Close = f ≡ framing.NoField

tells : (d : Direction) (to_head : Bool) (head : List Field) (f : Framing) → Tells f (given_head d to_head head f).length
tells Request to_head head framing.NoField = tt
tells Request to_head head (framing.Length n) = refl
tells Request to_head head framing.Chunked = refl
tells Response to_head head f = by (is_bare to_head (status_of head)) f
  where
    by : (c : Bool) (f : Framing) → Tells f (if c then length.NoBody else response_length f)
    by true f = tt
    by false framing.NoField = refl
    by false (framing.Length n) = refl
    by false framing.Chunked = refl

known_body : (n : ℕ) (bytes : List ℕ) → length bytes ≡ n → (ended : Bool) → body (length.Known n) ended bytes ≡ whole_body bytes [] []
known_body n bytes e ended =
    ap (λ l. made l (nat_le n (length bytes)) (drop n bytes)) (take_all n bytes (omega (arith, e)))
    ∙ ap (λ c. made bytes c (drop n bytes)) (le-leb n (length bytes) (omega (arith, e)))
    ∙ ap (made bytes true) (drop_all n bytes (omega (arith, e)))
  where
    made : List ℕ → Bool → List ℕ → Body
    made content whole rest = record { content = content; trailers = []; whole = whole; fault = None; rest = rest }

chunked_body : (m : Message) → AllByRecursion IsPiece m.pieces
    → chunked (flat_map chunk_bytes m.pieces ++ last_bytes m.trailers) ≡ behind (content_of m.pieces) (trailers_behind (field_lines m.trailers ++ (crlf ++ [])))
chunked_body m x =
    ap (λ l. chunked (flat_map chunk_bytes m.pieces ++ l)) (sym (append-nil (last_bytes m.trailers))) ∙ chunks_read m.pieces m.trailers [] x

whole_behind : (m : Message) → trailers_behind (field_lines m.trailers ++ (crlf ++ [])) ≡ whole_body [] (without owned_names (map given m.trailers)) []
    → behind (content_of m.pieces) (trailers_behind (field_lines m.trailers ++ (crlf ++ []))) ≡ whole_body (content_of m.pieces) (without owned_names (map given m.trailers)) []
whole_behind m e =
    ap (behind (content_of m.pieces)) e
    ∙ ap (λ l. whole_body l (without owned_names (map given m.trailers)) []) (append-nil (content_of m.pieces))

-- where it is read as a whole
body_given : (n : Length) (m : Message) (ended : Bool) → Tells m.framing n → BodyFits n m → (body n ended (body_bytes m.framing m.pieces m.trailers)).whole ≡ true
    → body n ended (body_bytes m.framing m.pieces m.trailers) ≡ given_body n ended m
body_given length.NoBody m ended t f w = ap (λ l. whole_body [] [] l) f
body_given (length.Known n) m ended t f w = ap (λ g. body (length.Known n) ended (body_bytes g m.pieces m.trailers)) t ∙ known_body n (content_of m.pieces) f ended
body_given length.Chunked m ended t f w =
    let text = ap (λ g. chunked (body_bytes g m.pieces m.trailers)) t ∙ chunked_body m f.0 in
    text ∙ whole_behind m (trailers_given m.trailers [] f.1 (ap (λ b. b.whole) (sym text) ∙ w))
body_given length.Close m ended t f w = ap (λ g. body length.Close ended (body_bytes g m.pieces m.trailers)) t ∙ ap (λ p. body length.Close ended (content_of p)) f

body_accepted : (d : Direction) (n : Length) (m : Message) (ended : Bool) → Tells m.framing n → BodyFits n m → IsAccepted d m
    → body n ended (body_bytes m.framing m.pieces m.trailers) ≡ given_body n ended m
body_accepted d length.NoBody m ended t f a = ap (λ l. whole_body [] [] l) f
body_accepted d (length.Known n) m ended t f a = ap (λ g. body (length.Known n) ended (body_bytes g m.pieces m.trailers)) t ∙ known_body n (content_of m.pieces) f ended
body_accepted d length.Chunked m ended t f a =
    ap (λ g. chunked (body_bytes g m.pieces m.trailers)) t ∙ chunked_body m f.0
    ∙ whole_behind m (trailers_whole m.trailers [] f.1 a.values a.few a.short)
body_accepted d length.Close m ended t f a = ap (λ g. body length.Close ended (body_bytes g m.pieces m.trailers)) t ∙ ap (λ p. body length.Close ended (content_of p)) f

-- Messages

pub message_given : (d : Direction) (to_head : Bool) (m : Message) (ended : Bool) → IsWritten d to_head m → (reads d to_head (message_bytes d m) ended).whole ≡ true
    → reads d to_head (message_bytes d m) ended ≡ given_message d to_head m ended
unfolding reads
message_given d to_head m ended w whole = by (message_head d to_head (message_bytes d m)) refl whole
  where
    in_body : (h : Head) (r : List ℕ) → (h ≡ given_head d to_head m.head m.framing) × (r ≡ body_bytes m.framing m.pieces m.trailers)
        → (with_body ended h (body h.length ended r)).whole ≡ true → with_body ended h (body h.length ended r) ≡ given_message d to_head m ended
    in_body h r same k =
        let g : Head = given_head d to_head m.head m.framing in
        let text : List ℕ = body_bytes m.framing m.pieces m.trailers in
        let parts : with_body ended h (body h.length ended r) ≡ with_body ended g (body g.length ended text) =
        ap (λ x. with_body ended x (body x.length ended r)) same.0 ∙ ap (λ l. with_body ended g (body g.length ended l)) same.1 in
        parts ∙ ap (with_body ended g) (body_given g.length m ended (tells d to_head m.head m.framing) w.body (ap (λ o. o.whole) (sym parts) ∙ k))

    by : (q : Reading Head) → message_head d to_head (message_bytes d m) ≡ q → (read_by d (message_bytes d m) ended q).whole ≡ true
        → read_by d (message_bytes d m) ended (message_head d to_head (message_bytes d m)) ≡ given_message d to_head m ended
    by (Whole h r) g k = ap (read_by d (message_bytes d m) ended) g ∙ in_body h r (head_given d to_head m w (body_bytes m.framing m.pieces m.trailers) h r g) k
    by Partial g k = absurd cc
    by (Bad b) g k = absurd cc

pub message_accepted : (d : Direction) (to_head : Bool) (m : Message) (ended : Bool) → IsWritten d to_head m → IsAccepted d m
    → reads d to_head (message_bytes d m) ended ≡ given_message d to_head m ended
unfolding reads
message_accepted d to_head m ended w a =
    let g : Head = given_head d to_head m.head m.framing in
    ap (read_by d (message_bytes d m) ended) (head_accepted d to_head m w a (body_bytes m.framing m.pieces m.trailers))
    ∙ ap (with_body ended g) (body_accepted d g.length m ended (tells d to_head m.head m.framing) w.body a)
