-- The first bytes of the written parts have as many body bytes as their parts say.
use Rattle.std.proofs.Common.{sym, ◌∙◌, ap, refl, arith, append-nil, append_assoc, length-append}
use Rattle.std.proofs.lemmas.List.{length-take}
use Rattle.std.specs.Prelude.{ℕ, zero, suc, ◌≡◌, ◌+◌, ◌-◌, ◌≤◌, min, List, [], ◌∷◌, ◌++◌, length, take, drop, None}
use Rattle.ext_msgs.specs.declared.lists.Field.{Field}
use Rattle.http_model.specs.Bytes.{crlf}
use Rattle.http_model.specs.Wire.{hex, last_bytes, head_bytes}
use Rattle.http_model.specs.declared.types.Direction.{Direction}
use Rattle.http_model.specs.declared.types.Framing.{Framing}
use Rattle.http_model.specs.declared.types.Framing.TheVariants.{NoField, Length, Chunked}
use Rattle.filter_model.specs.Outgoing.{Framed, InSize, InData, AtEnd, behind_size, framed_on, is_data, data_count, carried, body_bytes, end_bytes}
use Rattle.http_model.specs.declared.types.Out.{Out}
use Rattle.http_model.specs.declared.types.Out.TheVariants as part
use Rattle.filter_model.specs.Course.{Outgoing}
use Rattle.filter_model.specs.HalfRight.{framing_in, written_parts}
use Rattle.filter_model.specs.Given.{data_of, data_at, data_in}
use Rattle.filter_model.proofs.Chunks.{Walks, size_walked, chunk_parts, count_walks, last_counted}

-- Where a walk over bytes ends

abbrev walked : Framed → List ℕ → Framed
walked s [] = s
walked s (b ∷ bytes) = walked (framed_on s b) bytes

walks : Walks walked
walks n b bytes = refl

pub take_none : (n : ℕ) → take {A = ℕ} n [] ≡ []
take_none zero = refl
take_none (suc n) = refl

-- the bytes behind some others are counted from where those end
count_split : (s : Framed) (xs ys : List ℕ) (n : ℕ) → data_count s (take n (xs ++ ys)) ≡ data_count s (take n xs) + data_count (walked s xs) (take (n - length xs) ys)
count_split s [] ys n =
    let e : n - 0 ≡ n = omega arith in
    ap (λ k. data_count s (take k ys)) (sym e) ∙ plus_none (data_count s (take (n - 0) ys)) ∙ ap (λ l. data_count s l + data_count s (take (n - 0) ys)) (sym (take_none n))
  where
    plus_none : (k : ℕ) → k ≡ 0 + k
    plus_none k = omega arith
count_split s (x ∷ xs) ys zero =
    let e : 0 - length (x ∷ xs) ≡ 0 = omega arith in
    ap (λ k. 0 + data_count (walked s (x ∷ xs)) (take k ys)) (sym e)
count_split s (x ∷ xs) ys (suc n) =
    ap (λ k. is_data s + k) (count_split (framed_on s x) xs ys n)
    ∙ plus (is_data s) (data_count (framed_on s x) (take n xs)) (data_count (walked (framed_on s x) xs) (take (n - length xs) ys))
    ∙ ap (λ k. (is_data s + data_count (framed_on s x) (take n xs)) + data_count (walked (framed_on s x) xs) (take k ys)) (minus n (length xs))
  where
    minus : (a b : ℕ) → a - b ≡ suc a - suc b
    minus a b = omega arith

    plus : (a b c : ℕ) → a + (b + c) ≡ (a + b) + c
    plus a b c = omega arith

-- the first bytes have no more
count_first : (s : Framed) (xs : List ℕ) (n : ℕ) → data_count s (take n xs) ≤ data_count s xs
count_first s [] n = let e : data_count s (take n []) ≡ 0 = ap (data_count s) (take_none n) in omega (arith, e)
count_first s (x ∷ xs) zero = omega arith
count_first s (x ∷ xs) (suc n) = let h = count_first (framed_on s x) xs n in omega (arith, h)

none_first : (s : Framed) (xs : List ℕ) (n : ℕ) → data_count s xs ≡ 0 → data_count s (take n xs) ≡ 0
none_first s xs n e = let h = count_first s xs n in omega (arith, h, e)

-- One chunk

line_none : (n : ℕ) → data_count (InSize 0) (hex n ++ crlf) ≡ 0
line_none n = size_walked data_count count_walks n []

line_walked : (n : ℕ) → walked (InSize 0) (hex n ++ crlf) ≡ behind_size n
line_walked n = size_walked walked walks n []

data_first : (x : ℕ) (piece : List ℕ) (n : ℕ) → data_count (InData (length piece)) (take n ((x ∷ piece) ++ crlf)) ≡ min n (length (x ∷ piece))
data_first x piece zero = omega arith
data_first x [] (suc n) = let e : data_count AtEnd (take n crlf) ≡ 0 = none_first AtEnd crlf n refl in omega (arith, e)
data_first x (y ∷ piece) (suc n) = let h = data_first y piece n in omega (arith, h)

chunk_first : (piece : List ℕ) (n : ℕ) → data_count (InSize 0) (take n (body_bytes Chunked (piece ∷ []))) ≡ min (n - length (hex (length piece) ++ crlf)) (length piece)
chunk_first [] n = ap (data_count (InSize 0)) (take_none n) ∙ none (n - length (hex 0 ++ crlf))
  where
    none : (k : ℕ) → 0 ≡ min k 0
    none k = omega arith
chunk_first (x ∷ piece) n =
    let line : List ℕ = hex (length (x ∷ piece)) ++ crlf in
    ap (λ l. data_count (InSize 0) (take n l)) (chunk_parts (x ∷ piece) [] ∙ sym (append_assoc (hex (length (x ∷ piece))) crlf ((x ∷ piece) ++ crlf)))
    ∙ count_split (InSize 0) line ((x ∷ piece) ++ crlf) n
    ∙ ap (λ k. k + data_count (walked (InSize 0) line) (take (n - length line) ((x ∷ piece) ++ crlf))) (none_first (InSize 0) line n (line_none (length (x ∷ piece))))
    ∙ ap (λ s. 0 + data_count s (take (n - length line) ((x ∷ piece) ++ crlf))) (line_walked (length (x ∷ piece)))
    ∙ plus_none (data_count (InData (length piece)) (take (n - length line) ((x ∷ piece) ++ crlf))) ∙ data_first x piece (n - length line)
  where
    plus_none : (k : ℕ) → 0 + k ≡ k
    plus_none k = omega arith

-- behind chunks the next one begins
data_walked : (x : ℕ) (piece more : List ℕ) → walked (InData (length piece)) ((x ∷ piece) ++ (crlf ++ more)) ≡ walked (InSize 0) more
data_walked x [] more = refl
data_walked x (y ∷ piece) more = data_walked y piece more

chunks_walked : (pieces : List (List ℕ)) → walked (InSize 0) (body_bytes Chunked pieces) ≡ InSize 0
chunks_walked [] = refl
chunks_walked ([] ∷ pieces) = chunks_walked pieces
chunks_walked ((x ∷ piece) ∷ pieces) =
    ap (walked (InSize 0)) (chunk_parts (x ∷ piece) (body_bytes Chunked pieces))
    ∙ size_walked walked walks (length (x ∷ piece)) ((x ∷ piece) ++ (crlf ++ body_bytes Chunked pieces))
    ∙ data_walked x piece (body_bytes Chunked pieces) ∙ chunks_walked pieces

-- In every framing

length_split : (xs ys : List ℕ) (n : ℕ) → length (take n (xs ++ ys)) ≡ length (take n xs) + min (n - length xs) (length ys)
length_split xs ys n =
    let a : length (take n (xs ++ ys)) ≡ min n (length (xs ++ ys)) = length-take n (xs ++ ys) in
    let b : length (xs ++ ys) ≡ length xs + length ys = length-append xs ys in
    let e : length (take n xs) ≡ min n (length xs) = length-take n xs in
    omega arith

-- behind pieces, one more
pub data_split : (f : Framing) (pieces : List (List ℕ)) (bytes : List ℕ) (n : ℕ)
    → carried f (take n (body_bytes f pieces ++ body_bytes f (bytes ∷ []))) ≡ carried f (take n (body_bytes f pieces)) + data_of f (n - length (body_bytes f pieces)) (part.Data bytes)
data_split NoField pieces bytes n =
    ap (λ l. length (take n (body_bytes NoField pieces ++ l))) (append-nil bytes) ∙ length_split (body_bytes NoField pieces) bytes n
data_split (Length m) pieces bytes n =
    ap (λ l. length (take n (body_bytes (Length m) pieces ++ l))) (append-nil bytes) ∙ length_split (body_bytes (Length m) pieces) bytes n
data_split Chunked pieces bytes n =
    let xs : List ℕ = body_bytes Chunked pieces in
    let ys : List ℕ = body_bytes Chunked (bytes ∷ []) in
    count_split (InSize 0) xs ys n
    ∙ ap (λ s. data_count (InSize 0) (take n xs) + data_count s (take (n - length xs) ys)) (chunks_walked pieces)
    ∙ ap (λ k. data_count (InSize 0) (take n xs) + k) (chunk_first bytes (n - length xs))

-- and behind all of it, nothing
pub end_split : (f : Framing) (pieces : List (List ℕ)) (trailers : List Field) (n : ℕ)
    → carried f (take n (body_bytes f pieces ++ end_bytes f trailers)) ≡ carried f (take n (body_bytes f pieces))
end_split NoField pieces trailers n = ap (λ l. length (take n l)) (append-nil (body_bytes NoField pieces))
end_split (Length m) pieces trailers n = ap (λ l. length (take n l)) (append-nil (body_bytes (Length m) pieces))
end_split Chunked pieces trailers n =
    let xs : List ℕ = body_bytes Chunked pieces in
    let ys : List ℕ = last_bytes trailers in
    count_split (InSize 0) xs ys n
    ∙ ap (λ s. data_count (InSize 0) (take n xs) + data_count s (take (n - length xs) ys)) (chunks_walked pieces)
    ∙ ap (λ k. data_count (InSize 0) (take n xs) + k) (none_first (InSize 0) ys (n - length xs) (last_counted trailers))
    ∙ plus_none (data_count (InSize 0) (take n xs))
  where
    plus_none : (k : ℕ) → k + 0 ≡ k
    plus_none k = omega arith

-- Along the parts

-- what stands behind the first bytes, among the first n
pub behind_first : (xs ys : List ℕ) (n : ℕ) → drop (length xs) (take n (xs ++ ys)) ≡ take (n - length xs) ys
behind_first [] ys n = let e : n - 0 ≡ n = omega arith in ap (λ k. take k ys) (sym e)
behind_first (x ∷ xs) ys zero = let e : 0 - length (x ∷ xs) ≡ 0 = omega arith in ap (λ k. take k ys) (sym e)
behind_first (x ∷ xs) ys (suc n) = behind_first xs ys n ∙ ap (λ k. take k ys) (minus n (length xs))
  where
    minus : (a b : ℕ) → a - b ≡ suc a - suc b
    minus a b = omega arith

pub with_none : (d : Direction) (outs : List Out) (out : Out) (n : ℕ) → framing_in outs ≡ None → data_in d outs n ≡ 0 → data_in d (out ∷ outs) n ≡ 0
with_none d outs out n e f = ap (λ k. k + data_at (framing_in outs) (n - length (written_parts d outs)) out) f ∙ ap (λ o. 0 + data_at o (n - length (written_parts d outs)) out) e

pub none_in : (d : Direction) (outs : List Out) (n : ℕ) → framing_in outs ≡ None → data_in d outs n ≡ 0
none_in d [] n e = refl
none_in d (part.Head fields framing ∷ outs) n e = absurd cc
none_in d (part.Data bytes ∷ outs) n e = with_none d outs (part.Data bytes) n e (none_in d outs n e)
none_in d (part.Trailers fields ∷ outs) n e = with_none d outs (part.Trailers fields) n e (none_in d outs n e)
none_in d (part.End ∷ outs) n e = with_none d outs part.End n e (none_in d outs n e)
none_in d (part.Nothing ∷ outs) n e = with_none d outs part.Nothing n e (none_in d outs n e)

abbrev pub Counted : Direction → Outgoing → List Out → Type 0
Counted d o outs = (n : ℕ) → carried o.framing (drop (length (head_bytes d o.fields o.framing)) (take n (written_parts d outs))) ≡ data_in d outs n

pub nothing_written : (d : Direction) (o : Outgoing) (outs : List Out) → framing_in outs ≡ None → written_parts d outs ≡ [] → Counted d o outs
nothing_written d o outs e w n =
    ap (λ l. carried o.framing (drop (length (head_bytes d o.fields o.framing)) (take n l))) w
    ∙ ap (λ l. carried o.framing (drop (length (head_bytes d o.fields o.framing)) l)) (take_none n)
    ∙ ap (carried o.framing) (drop_none (length (head_bytes d o.fields o.framing))) ∙ none o.framing ∙ sym (none_in d outs n e)
  where
    drop_none : (k : ℕ) → drop {A = ℕ} k [] ≡ []
    drop_none zero = refl
    drop_none (suc k) = refl

    none : (f : Framing) → carried f [] ≡ 0
    none NoField = refl
    none (Length m) = refl
    none Chunked = refl
