-- What remains of a body, as its bytes come.
use Rattle.std.proofs.Common.{sym, ◌∙◌, ap, subst, refl, arith, append_assoc, append-nil, length-append, length-drop, eqb-true, drop-drop, le-leb, leb-true, leb-false, ltb-true, ltb-false, le-ltb, lt-ltb}
use Rattle.std.proofs.Math.Seq.{take-add}
use Rattle.std.proofs.lemmas.List.{drop-append-le, take-append-le}
use Rattle.h1_read.proofs.ByLimit.{lt-leb}
use Rattle.std.specs.Prelude.{ℕ, zero, suc, ◌≡◌, ◌+◌, ◌-◌, ◌<◌, ◌≤◌, Bool, true, false, ◌&&◌, List, [], ◌∷◌, ◌++◌, length, get_or, take, drop, slice_range, ◌==◌, nat_lt, nat_le, None, if◌then◌else◌}
use Rattle.http_model.specs.Reading.{Reading, Whole, Partial, Bad, BadChunk, LongHead, limited, Stays}
use Rattle.http_model.specs.Lines.{chunk_line, section}
use Rattle.http_model.specs.Heads.{head_limit, field_limit}
use Rattle.http_model.specs.Bodies.{Body, body, part, faulty, Chunk, Piece, Last, Begun, Wrong, behind, chunk_end, chunk_data, chunk_behind, chunk, chunks_from, chunked_in, chunked, trailers_read, trailers_behind}
use Rattle.http_model.specs.declared.types.Length.{Length}
use Rattle.http_model.specs.declared.types.Length.TheVariants as length
use Rattle.http_model.proofs.LinesStable.{chunk_line-stays}
use Rattle.http_model.proofs.BodiesGrow.{ChunkLeaves, chunk_leaves}
use Rattle.h1_read.specs.Remaining.{Rest, IsBegun, at_start, remaining, GivesContent}
use Rattle.h1_read.specs.Remaining as rest

-- Contents in front

pub behind_both : (xs ys : List ℕ) (b : Body) → behind xs (behind ys b) ≡ behind (xs ++ ys) b
behind_both xs ys b = ap (λ l. record b { content = l }) (sym (append_assoc xs ys b.content))

-- Chunks: with room enough for all of them it doesn't count

chunks_same : (n m size : ℕ) (x : Chunk) → ChunkLeaves size x → ((rest : List ℕ) → length rest < size → chunked_in n rest ≡ chunked_in m rest)
    → chunks_from x (chunked_in n) ≡ chunks_from x (chunked_in m)
chunks_same n m size (Piece content rest) h k = ap (behind content) (k rest h)
chunks_same n m size (Last rest) h k = refl
chunks_same n m size (Begun content) h k = refl
chunks_same n m size (Wrong content) h k = refl

pub room_enough : (n m : ℕ) (bytes : List ℕ) → length bytes < n → length bytes < m → chunked_in n bytes ≡ chunked_in m bytes
unfolding chunked_in
room_enough zero m bytes h k = absurd (none (length bytes) h)
  where
    none : (n : ℕ) → n < 0 → ⊥
    none n h = omega (arith, h)
room_enough (suc n) zero bytes h k = absurd (none (length bytes) k)
  where
    none : (n : ℕ) → n < 0 → ⊥
    none n h = omega (arith, h)
room_enough (suc n) (suc m) bytes h k =
    chunks_same n m (length bytes) (chunk bytes) (chunk_leaves bytes) (λ r g. room_enough n m r (omega (arith, h, g)) (omega (arith, k, g)))

pub next_chunk : (bytes : List ℕ) → chunked bytes ≡ chunks_from (chunk bytes) chunked
unfolding chunked_in
next_chunk bytes = by (chunk bytes) (chunk_leaves bytes)
  where
    by : (x : Chunk) → ChunkLeaves (length bytes) x → chunks_from x (chunked_in (length bytes)) ≡ chunks_from x chunked
    by (Piece content more) h = ap (behind content) (room_enough (length bytes) (suc (length more)) more h (omega arith))
    by (Last more) h = refl
    by (Begun content) h = refl
    by (Wrong content) h = refl

-- The line of a chunk

by_line : (bytes : List ℕ) (r : Reading ℕ) → chunk_line bytes ≡ r → chunked bytes ≡ chunks_from (chunk_behind r) chunked
unfolding chunk
by_line bytes r e = next_chunk bytes ∙ ap (λ x. chunks_from (chunk_behind x) chunked) e

whole_line : (kept bytes more others : List ℕ) (size : ℕ) → chunk_line (kept ++ bytes) ≡ Whole size others
    → chunked (kept ++ (bytes ++ more)) ≡ chunks_from (chunk_behind (Whole size (others ++ more))) chunked
whole_line kept bytes more others size e =
    ap chunked (sym (append_assoc kept bytes more))
    ∙ by_line ((kept ++ bytes) ++ more) (Whole size (others ++ more)) (subst (λ r. Stays r more (chunk_line ((kept ++ bytes) ++ more))) e (chunk_line-stays (kept ++ bytes) more))

pub chunk_begins : (kept bytes : List ℕ) (used size : ℕ) → chunk_line (kept ++ bytes) ≡ Whole size (drop used bytes) → (size ≡ 0 → ⊥)
    → GivesContent (rest.Line kept) bytes used [] (rest.Chunk size)
chunk_begins kept bytes used size e some ended more = whole_line kept bytes more (drop used bytes) size e ∙ by (size == 0) refl
  where
    by : (x : Bool) → (size == 0) ≡ x
        → chunks_from (elim x [ true ↦ Last (drop used bytes ++ more) | false ↦ chunk_data size (drop used bytes ++ more) ]) chunked
        ≡ chunks_from (chunk_data size (drop used bytes ++ more)) chunked
    by true g = absurd (some (eqb-true size 0 g))
    by false g = refl

pub chunks_end : (kept bytes : List ℕ) (used : ℕ) → chunk_line (kept ++ bytes) ≡ Whole 0 (drop used bytes) → GivesContent (rest.Line kept) bytes used [] (rest.Trailers [])
chunks_end kept bytes used e ended more = whole_line kept bytes more (drop used bytes) 0 e

pub line_awaits : (kept bytes : List ℕ) → chunk_line (kept ++ bytes) ≡ Partial → remaining (rest.Line kept) false bytes ≡ part []
line_awaits kept bytes e = by_line (kept ++ bytes) Partial e

pub line_goes_on : (kept bytes : List ℕ) → GivesContent (rest.Line kept) bytes (length bytes) [] (rest.Line (kept ++ bytes))
line_goes_on kept bytes ended more = ap chunked (sym (append_assoc kept bytes more) ∙ ap (λ l. (kept ++ bytes) ++ l) (sym (none_left bytes more)))
  where
    none_left : (bytes more : List ℕ) → drop (length bytes) bytes ++ more ≡ more
    none_left [] more = refl
    none_left (b ∷ bytes) more = none_left bytes more

pub line_bad : (kept bytes : List ℕ) → chunk_line (kept ++ bytes) ≡ Bad BadChunk → remaining (rest.Line kept) false bytes ≡ faulty [] BadChunk
line_bad kept bytes e = by_line (kept ++ bytes) (Bad BadChunk) e

-- nothing of it
pub no_line : chunk_line [] ≡ Partial
unfolding chunk_line
no_line = refl

pub start_begun : (n : Length) → IsBegun (at_start n)
start_begun length.NoBody = tt
start_begun (length.Known n) = tt
start_begun length.Chunked = no_line
start_begun length.Close = tt

-- an end behind what is begun
pub line_cut : (kept : List ℕ) → chunk_line kept ≡ Partial → chunked (kept ++ []) ≡ part []
line_cut kept e = ap chunked (append-nil kept) ∙ by_line kept Partial e

pub section_cut : (kept : List ℕ) → limited head_limit LongHead (section BadChunk field_limit) kept ≡ Partial → trailers_behind (kept ++ []) ≡ part []
unfolding trailers_behind
section_cut kept e = ap (λ l. trailers_read (limited head_limit LongHead (section BadChunk field_limit) l)) (append-nil kept) ∙ ap trailers_read e

-- The data of a chunk

end_behind : (xs ys bytes : List ℕ) (next : List ℕ → Body) → chunks_from (chunk_end (xs ++ ys) bytes) next ≡ behind xs (chunks_from (chunk_end ys bytes) next)
end_behind xs ys [] next = refl
end_behind xs ys (b ∷ []) next = by (b == 13)
  where
    by : (c : Bool) → chunks_from (if c then Begun (xs ++ ys) else Wrong (xs ++ ys)) next ≡ behind xs (chunks_from (if c then Begun ys else Wrong ys) next)
    by true = refl
    by false = refl
end_behind xs ys (b ∷ d ∷ bytes) next = by (b == 13 && d == 10)
  where
    by : (c : Bool) → chunks_from (if c then Piece (xs ++ ys) bytes else Wrong (xs ++ ys)) next ≡ behind xs (chunks_from (if c then Piece ys bytes else Wrong ys) next)
    by true = sym (behind_both xs ys (next bytes))
    by false = refl

same_order : (n m : ℕ) → nat_lt (suc n) (suc m) ≡ nat_lt n m
same_order n m = by (nat_lt n m) refl
  where
    by : (c : Bool) → nat_lt n m ≡ c → nat_lt (suc n) (suc m) ≡ c
    by true e = lt-ltb (suc n) (suc m) (omega (arith, ltb-true n m e))
    by false e = le-ltb (suc n) (suc m) (omega (arith, ltb-false n m e))

one_byte : (n b : ℕ) (bytes : List ℕ) (next : List ℕ → Body)
    → chunks_from (chunk_data (suc n) (b ∷ bytes)) next ≡ behind (b ∷ []) (chunks_from (chunk_data n bytes) next)
one_byte n b bytes next = ap (λ c. chunks_from (if c then Begun (b ∷ bytes) else chunk_end (b ∷ take n bytes) (drop n bytes)) next) (same_order (length bytes) n) ∙ by (nat_lt (length bytes) n)
  where
    by : (c : Bool) → chunks_from (if c then Begun (b ∷ bytes) else chunk_end (b ∷ take n bytes) (drop n bytes)) next
        ≡ behind (b ∷ []) (chunks_from (if c then Begun bytes else chunk_end (take n bytes) (drop n bytes)) next)
    by true = refl
    by false = end_behind (b ∷ []) (take n bytes) (drop n bytes) next

-- so many bytes of it
pub some_data : (k n : ℕ) (bytes : List ℕ) (next : List ℕ → Body) → k ≤ n → k ≤ length bytes
    → chunks_from (chunk_data n bytes) next ≡ behind (take k bytes) (chunks_from (chunk_data (n - k) (drop k bytes)) next)
some_data zero n bytes next h g = ap (λ m. chunks_from (chunk_data m bytes) next) (whole n)
  where
    whole : (n : ℕ) → n ≡ n - 0
    whole n = omega arith
some_data (suc k) zero bytes next h g = absurd (none k h)
  where
    none : (k : ℕ) → suc k ≤ 0 → ⊥
    none k h = omega (arith, h)
some_data (suc k) (suc n) [] next h g = absurd (none k g)
  where
    none : (k : ℕ) → suc k ≤ 0 → ⊥
    none k h = omega (arith, h)
some_data (suc k) (suc n) (b ∷ bytes) next h g =
    one_byte n b bytes next
    ∙ ap (behind (b ∷ [])) (some_data k n bytes next (omega (arith, h)) (omega (arith, g)))
    ∙ behind_both (b ∷ []) (take k bytes) (chunks_from (chunk_data (n - k) (drop k bytes)) next)
    ∙ ap (λ m. behind (b ∷ take k bytes) (chunks_from (chunk_data m (drop k bytes)) next)) (less n k)
  where
    less : (n k : ℕ) → n - k ≡ suc n - suc k
    less n k = omega arith

pub none_left : (bytes : List ℕ) → drop (length bytes) bytes ≡ []
none_left [] = refl
none_left (b ∷ bytes) = none_left bytes

-- the first bytes, as a slice
first_slice : (k : ℕ) (bytes : List ℕ) → take k bytes ≡ slice_range bytes 0 k
first_slice k bytes = ap (λ n. take n bytes) (whole k)
  where
    whole : (k : ℕ) → k ≡ k - 0
    whole k = omega arith

pub data_gives : (k n : ℕ) (bytes : List ℕ) → k ≤ n → k ≤ length bytes → GivesContent (rest.Chunk n) bytes k (slice_range bytes 0 k) (rest.Chunk (n - k))
data_gives k n bytes h g ended more =
    some_data k n (bytes ++ more) chunked h (omega (arith, g, length-append bytes more))
    ∙ ap (λ l. behind l (chunks_from (chunk_data (n - k) (drop k (bytes ++ more))) chunked)) (take-append-le k bytes more g ∙ first_slice k bytes)
    ∙ ap (λ l. behind (slice_range bytes 0 k) (chunks_from (chunk_data (n - k) l) chunked)) (drop-append-le k bytes more g)

-- A body of known length, and one up to the end

pub split_past : (n k : ℕ) → k ≤ n → n ≡ k + (n - k)
split_past n k h = omega (arith, h)

abbrev known_body : List ℕ → Bool → List ℕ → Body
known_body content whole rest = record { content = content; trailers = []; whole = whole; fault = None; rest = rest }

known_split : (k n : ℕ) (bytes : List ℕ) → k ≤ n → k ≤ length bytes
    → body (length.Known n) false bytes ≡ behind (take k bytes) (body (length.Known (n - k)) false (drop k bytes))
known_split k n bytes h g =
    ap (λ l. known_body l (nat_le n (length bytes)) (drop n bytes)) (ap (λ m. take m bytes) (split_past n k h) ∙ take-add k (n - k) bytes)
    ∙ ap (λ c. known_body (take k bytes ++ take (n - k) (drop k bytes)) c (drop n bytes)) (same_end (nat_le n (length bytes)) refl)
    ∙ ap (λ l. known_body (take k bytes ++ take (n - k) (drop k bytes)) (nat_le (n - k) (length (drop k bytes))) l) (ap (λ m. drop m bytes) (split_past n k h) ∙ sym (drop-drop (n - k) k bytes))
  where
    same_end : (c : Bool) → nat_le n (length bytes) ≡ c → nat_le n (length bytes) ≡ nat_le (n - k) (length (drop k bytes))
    same_end true e = e ∙ sym (le-leb (n - k) (length (drop k bytes)) (omega (arith, leb-true n (length bytes) e, length-drop k bytes)))
    same_end false e = e ∙ sym (lt-leb (length (drop k bytes)) (n - k) (omega (arith, leb-false n (length bytes) e, length-drop k bytes, h, g)))

pub known_gives : (k n : ℕ) (bytes : List ℕ) → k ≤ n → k ≤ length bytes → GivesContent (rest.Known n) bytes k (slice_range bytes 0 k) (rest.Known (n - k))
known_gives k n bytes h g ended more =
    known_split k n (bytes ++ more) h (omega (arith, g, length-append bytes more))
    ∙ ap (λ l. behind l (body (length.Known (n - k)) false (drop k (bytes ++ more)))) (take-append-le k bytes more g ∙ first_slice k bytes)
    ∙ ap (λ l. behind (slice_range bytes 0 k) (body (length.Known (n - k)) false l)) (drop-append-le k bytes more g)

-- The end of a chunk

pub no_data : (bytes : List ℕ) → chunk_data 0 bytes ≡ chunk_end [] bytes
no_data bytes = ap (λ c. if c then Begun bytes else chunk_end [] bytes) (le-ltb (length bytes) 0 (omega arith))

end_then : (bytes more : List ℕ) → chunk_end [] bytes ≡ Piece [] (drop 2 bytes) → chunk_end [] (bytes ++ more) ≡ Piece [] (drop 2 bytes ++ more)
end_then [] more e = absurd cc
end_then (b ∷ []) more e = by (b == 13) e
  where
    by : (x : Bool) → ◌≡◌ {A = Chunk} (if x then Begun [] else Wrong []) (Piece [] []) → chunk_end [] (b ∷ more) ≡ Piece [] more
    by true e = absurd cc
    by false e = absurd cc
end_then (b ∷ c ∷ bytes) more e = by (b == 13 && c == 10) e
  where
    by : (x : Bool) → ◌≡◌ {A = Chunk} (if x then Piece [] bytes else Wrong []) (Piece [] bytes)
        → ◌≡◌ {A = Chunk} (if x then Piece [] (bytes ++ more) else Wrong []) (Piece [] (bytes ++ more))
    by true e = refl
    by false e = absurd cc

pub end_gives : (bytes : List ℕ) → chunk_end [] bytes ≡ Piece [] (drop 2 bytes) → GivesContent (rest.Chunk 0) bytes 2 [] (rest.Line [])
end_gives bytes e ended more =
    ap (λ x. chunks_from x chunked) (no_data (bytes ++ more) ∙ end_then bytes more e)

pub lf_gives : (bytes : List ℕ) → (length bytes ≡ 0 → ⊥) → get_or bytes 0 0 ≡ 10 → GivesContent rest.Lf bytes 1 [] (rest.Line [])
lf_gives [] h e ended more = absurd (h refl)
lf_gives (b ∷ bytes) h e ended more = ap (λ c. chunks_from (if c == 10 then Piece [] (bytes ++ more) else Wrong []) chunked) e

-- One step, and then another

pub then_gives : (before mid after : Rest) (bytes content : List ℕ) (at used : ℕ) → at ≤ length bytes → GivesContent before bytes at [] mid
    → GivesContent mid (drop at bytes) used content after → GivesContent before bytes (at + used) content after
then_gives before mid after bytes content at used h g k ended more =
    g ended more ∙ k ended more
    ∙ ap (λ l. behind content (remaining after ended (l ++ more))) (drop-drop used at bytes)
