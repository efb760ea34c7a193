-- A body with a fault stays as it is, whatever follows.
use Rattle.std.proofs.Common.{sym, ◌∙◌, ap, refl, arith, append_assoc, length-append, ltb-false}
use Rattle.std.proofs.lemmas.List.{drop-append-le, take-append-le}
use Rattle.std.specs.Prelude.{ℕ, zero, suc, ◌≡◌, ◌-◌, ◌<◌, ◌≤◌, Bool, true, false, ◌&&◌, List, [], ◌∷◌, ◌++◌, length, take, drop, Some, ◌==◌, nat_lt, if◌then◌else◌}
use Rattle.ext_msgs.specs.declared.lists.Field.{Field}
use Rattle.http_model.specs.Reading.{Reading, Whole, Partial, Bad, Fault, BadChunk, LongHead, limited, Stays}
use Rattle.http_model.specs.Lines.{section}
use Rattle.http_model.specs.Heads.{head_limit, field_limit}
use Rattle.http_model.specs.Bodies.{Body, Chunk, Piece, Last, Begun, Wrong, behind, chunk_end, chunk_data, chunk, chunks_from, chunked_in, chunked, trailers_read, trailers_behind}
use Rattle.http_model.proofs.Stable.{limited-stays}
use Rattle.http_model.proofs.LinesStable.{section-stays}
use Rattle.http_model.proofs.BodiesGrow.{ChunkGrows, chunk_grows, ChunkLeaves, chunk_leaves}
use Rattle.h1_read.specs.Remaining.{Rest, remaining}
use Rattle.h1_read.specs.Remaining as rest
use Rattle.h1_read.proofs.BodyMoves.{some_data, no_data}

-- with this fault it stays
abbrev FaultStays : Fault → Body → Body → Type 0
FaultStays f b later = b.fault ≡ Some f → later ≡ b

read_stays : (f : Fault) (more : List ℕ) (r r' : Reading (List Field)) → Stays r more r' → FaultStays f (trailers_read r) (trailers_read r')
read_stays f more (Whole fields rest) r' s e = absurd cc
read_stays f more Partial r' s e = absurd cc
read_stays f more (Bad g) r' s e = ap trailers_read s

trailers_stay : (f : Fault) (bytes more : List ℕ) → FaultStays f (trailers_behind bytes) (trailers_behind (bytes ++ more))
unfolding trailers_behind
trailers_stay f bytes more =
    read_stays f more (limited head_limit LongHead (section BadChunk field_limit) bytes) (limited head_limit LongHead (section BadChunk field_limit) (bytes ++ more))
    (limited-stays head_limit LongHead (section BadChunk field_limit) (section-stays BadChunk field_limit) bytes more)

-- Chunks: what stands behind a piece stays

from_stays : (f : Fault) (size : ℕ) (more : List ℕ) (x x' : Chunk) (next next' : List ℕ → Body) → ChunkGrows x more x' → ChunkLeaves size x
    → ((left : List ℕ) → length left < size → FaultStays f (next left) (next' (left ++ more)))
    → FaultStays f (chunks_from x next) (chunks_from x' next')
from_stays f size more (Piece content left) x' next next' g l k e =
    ap (λ y. chunks_from y next') g ∙ ap (behind content) (k left l e)
from_stays f size more (Last left) x' next next' g l k e = ap (λ y. chunks_from y next') g ∙ trailers_stay f left more e
from_stays f size more (Begun content) x' next next' g l k e = absurd cc
from_stays f size more (Wrong content) x' next next' g l k e = ap (λ y. chunks_from y next') g

chunks_stay : (f : Fault) (n m : ℕ) (bytes more : List ℕ) → length bytes < n → length (bytes ++ more) < m
    → FaultStays f (chunked_in n bytes) (chunked_in m (bytes ++ more))
unfolding chunked_in
chunks_stay f zero m bytes more h k e = absurd cc
chunks_stay f (suc n) zero bytes more h k e = absurd (omega (arith, k))
chunks_stay f (suc n) (suc m) bytes more h k e =
    from_stays f (length bytes) more (chunk bytes) (chunk (bytes ++ more)) (chunked_in n) (chunked_in m) (chunk_grows bytes more) (chunk_leaves bytes)
    (λ left l. chunks_stay f n m left more (omega (arith, h, l)) (omega (arith, k, l, length-append left more, length-append bytes more))) e

chunked_stays : (f : Fault) (bytes more : List ℕ) → FaultStays f (chunked bytes) (chunked (bytes ++ more))
chunked_stays f bytes more = chunks_stay f (suc (length bytes)) (suc (length (bytes ++ more))) bytes more (omega arith) (omega arith)

-- the end of a chunk, and what stands behind it
end_stays : (f : Fault) (bytes more : List ℕ) → FaultStays f (chunks_from (chunk_end [] bytes) chunked) (chunks_from (chunk_end [] (bytes ++ more)) chunked)
end_stays f [] more e = absurd cc
end_stays f (b ∷ []) [] e = refl
end_stays f (b ∷ []) (c ∷ more) e = by (b == 13) (c == 10) e
  where
    by : (x y : Bool) → (chunks_from (if x then Begun [] else Wrong []) chunked).fault ≡ Some f
        → chunks_from (if x && y then Piece [] more else Wrong []) chunked ≡ chunks_from (if x then Begun [] else Wrong []) chunked
    by true y e = absurd cc
    by false y e = refl
end_stays f (b ∷ c ∷ bytes) more e = by (b == 13 && c == 10) e
  where
    by : (x : Bool) → (chunks_from (if x then Piece [] bytes else Wrong []) chunked).fault ≡ Some f
        → chunks_from (if x then Piece [] (bytes ++ more) else Wrong []) chunked ≡ chunks_from (if x then Piece [] bytes else Wrong []) chunked
    by true e = ap (behind []) (chunked_stays f bytes more e)
    by false e = refl

-- the data of a chunk, its end, and what stands behind it
data_stays : (f : Fault) (n : ℕ) (bytes more : List ℕ)
    → FaultStays f (chunks_from (chunk_data n bytes) chunked) (chunks_from (chunk_data n (bytes ++ more)) chunked)
data_stays f n bytes more = by (nat_lt (length bytes) n) refl
  where
    past : (all : List ℕ) → n ≤ length all
        → chunks_from (chunk_data n all) chunked ≡ behind (take n all) (chunks_from (chunk_end [] (drop n all)) chunked)
    past all h =
        some_data n n all chunked (omega arith) h
        ∙ ap (λ m. behind (take n all) (chunks_from (chunk_data m (drop n all)) chunked)) (none n)
        ∙ ap (λ x. behind (take n all) (chunks_from x chunked)) (no_data (drop n all))
      where
        none : (n : ℕ) → n - n ≡ 0
        none n = omega arith

    by : (x : Bool) → nat_lt (length bytes) n ≡ x
        → FaultStays f (chunks_from (chunk_data n bytes) chunked) (chunks_from (chunk_data n (bytes ++ more)) chunked)
    by true g e = absurd (unfinished g e)
      where
        unfinished : nat_lt (length bytes) n ≡ true → (chunks_from (chunk_data n bytes) chunked).fault ≡ Some f → ⊥
        unfinished g e = cc
    by false g e =
        let h : n ≤ length bytes = ltb-false (length bytes) n g in
        past (bytes ++ more) (omega (arith, h, length-append bytes more))
        ∙ ap (λ l. behind l (chunks_from (chunk_end [] (drop n (bytes ++ more))) chunked)) (take-append-le n bytes more h)
        ∙ ap (λ l. behind (take n bytes) (chunks_from (chunk_end [] l) chunked)) (drop-append-le n bytes more h)
        ∙ ap (behind (take n bytes)) (end_stays f (drop n bytes) more (sym (ap (λ (b : Body). b.fault) (past bytes h)) ∙ e))
        ∙ sym (past bytes h)

pub fault_stays : (r : Rest) (ended : Bool) (bytes more : List ℕ) (f : Fault) → (remaining r false bytes).fault ≡ Some f
    → remaining r ended (bytes ++ more) ≡ remaining r false bytes
fault_stays (rest.Known n) ended bytes more f e = absurd cc
fault_stays (rest.Line kept) ended bytes more f e = ap chunked (sym (append_assoc kept bytes more)) ∙ chunked_stays f (kept ++ bytes) more e
fault_stays (rest.Chunk n) ended bytes more f e = data_stays f n bytes more e
fault_stays rest.Lf ended bytes more f e = end_stays f (13 ∷ bytes) more e
fault_stays (rest.Trailers kept) ended bytes more f e = ap trailers_behind (sym (append_assoc kept bytes more)) ∙ trailers_stay f (kept ++ bytes) more e
fault_stays rest.Close ended bytes more f e = absurd cc
fault_stays rest.Over ended bytes more f e = absurd cc
fault_stays (rest.Failed g) ended bytes more f e = refl
