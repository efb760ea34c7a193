-- The body of a message grows by no more bytes than its side brings.
use Rattle.std.proofs.Common.{inl, inr, sym, ◌∙◌, ap, subst, refl, arith, length-append, le-ltb, ltb-false, leb-false, take-append-drop}
use Rattle.std.proofs.lemmas.List.{length-take}
use Rattle.std.specs.Prelude.{ℕ, zero, suc, ◌≡◌, ◌⊎◌, ◌+◌, ◌-◌, ◌<◌, ◌≤◌, Bool, true, false, ◌&&◌, List, [], ◌∷◌, ◌++◌, length, take, drop, if◌then◌else◌, ◌==◌, nat_le, nat_lt}
use Rattle.ext_msgs.specs.declared.lists.Field.{Field}
use Rattle.http_model.specs.Bodies.{Body, Begun, Chunk, Last, Piece, Wrong, body, chunk, chunk_behind, chunk_data, chunk_end, chunked_in, chunks_from, trailers_behind, trailers_read}
use Rattle.http_model.specs.Heads.{Head, field_limit, head_limit, message_head}
use Rattle.http_model.specs.Lines.{AtCr, ChunkShape, InBlanks, InExtension, InSize, NoChunk, chunk_by_line, chunk_by_part, chunk_line, chunk_line_at, chunk_line_limit, chunk_shape, line, section}
use Rattle.http_model.specs.Reading.{Bad, BadChunk, LongHead, Partial, Reading, Stays, Whole, limited, within}
use Rattle.http_model.specs.Reads.{read_by, reads}
use Rattle.http_model.specs.declared.types.Direction.{Direction}
use Rattle.http_model.specs.declared.types.Length.{Length}
use Rattle.http_model.specs.declared.types.Length.TheVariants.{NoBody, Known, Chunked, Close}
use Rattle.http_model.proofs.BodiesGrow.{ChunkGrows, ChunkLeaves, chunk_grows, chunk_leaves}
use Rattle.http_model.proofs.HeadsStable.{message_head-stays}
use Rattle.http_model.proofs.LinesStable.{chunk_line-leaves, chunk_line-stays}
use Rattle.http_model.proofs.Stable.{LeavesUnder, Reaches, Within, at_limit}
use Rattle.filter_model.proofs.ReadLate.{Late, late_at, line-late, message_head-late}

-- The line of a chunk

abbrev rest_in : {A : Type 0} → Reading A → List ℕ
rest_in (Whole a rest) = rest
rest_in Partial = []
rest_in (Bad f) = []

size_part : (s : ChunkShape) (l rest : List ℕ) → chunk_by_line s l rest ≡ Partial → ⊥
size_part (InSize n) l rest e = cc
size_part InBlanks l rest e = cc
size_part InExtension l rest e = cc
size_part AtCr l rest e = cc
size_part NoChunk l rest e = cc

line_part : (bytes : List ℕ) → chunk_line_at bytes (line bytes) ≡ Partial → line bytes ≡ Partial
line_part bytes e = by (line bytes) e
  where
    by : (r : Reading (List ℕ)) → chunk_line_at bytes r ≡ Partial → r ≡ Partial
    by (Whole l rest) e = absurd (size_part (chunk_shape (InSize 0) l) l rest e)
    by Partial e = refl
    by (Bad f) e = absurd cc

size_whole : (s : ChunkShape) (l q : List ℕ) (size : ℕ) (rest : List ℕ) → chunk_by_line s l q ≡ Whole size rest → q ≡ rest
size_whole AtCr l q size rest e = ap rest_in e
size_whole (InSize n) l q size rest e = absurd cc
size_whole InBlanks l q size rest e = absurd cc
size_whole InExtension l q size rest e = absurd cc
size_whole NoChunk l q size rest e = absurd cc

no_part_whole : (s : ChunkShape) (size : ℕ) (rest : List ℕ) → chunk_by_part s ≡ Whole size rest → ⊥
no_part_whole (InSize n) size rest e = cc
no_part_whole InBlanks size rest e = cc
no_part_whole InExtension size rest e = cc
no_part_whole AtCr size rest e = cc
no_part_whole NoChunk size rest e = cc

line_whole : (bytes : List ℕ) (size : ℕ) (rest : List ℕ) → chunk_line_at bytes (line bytes) ≡ Whole size rest → (l : List ℕ) × (line bytes ≡ Whole l rest)
line_whole bytes size rest e = by (line bytes) e
  where
    by : (r : Reading (List ℕ)) → chunk_line_at bytes r ≡ Whole size rest → (l : List ℕ) × (r ≡ Whole l rest)
    by (Whole l q) e = (l, ap (Whole l) (size_whole (chunk_shape (InSize 0) l) l q size rest e))
    by Partial e = absurd (no_part_whole (chunk_shape (InSize 0) bytes) size rest e)
    by (Bad f) e = absurd cc

abbrev bad_if : Bool → Reading ℕ
bad_if b = if b then Bad BadChunk else Partial

within_part : (n : ℕ) (bytes : List ℕ) (r : Reading ℕ) → within n BadChunk bytes r ≡ Partial → (r ≡ Partial) × (nat_le n (length bytes) ≡ false)
within_part n bytes (Whole size rest) e = absurd cc
within_part n bytes (Bad f) e = absurd cc
within_part n bytes Partial e = (refl, by (nat_le n (length bytes)) e)
  where
    by : (b : Bool) → bad_if b ≡ Partial → b ≡ false
    by true e = absurd cc
    by false e = refl

within_whole : (n : ℕ) (bytes : List ℕ) (r : Reading ℕ) (size : ℕ) (rest : List ℕ) → within n BadChunk bytes r ≡ Whole size rest
    → (k : ℕ) × (q : List ℕ) × (r ≡ Whole k q) × (q ++ drop n bytes ≡ rest)
within_whole n bytes (Whole k q) size rest e = (k, q, refl, ap rest_in e)
within_whole n bytes (Bad f) size rest e = absurd cc
within_whole n bytes Partial size rest e = absurd (by (nat_le n (length bytes)) e)
  where
    by : (b : Bool) → bad_if b ≡ Whole size rest → ⊥
    by true e = cc
    by false e = cc

size_later : (bytes more : List ℕ) (size : ℕ) (rest : List ℕ) → chunk_line bytes ≡ Partial → chunk_line (bytes ++ more) ≡ Whole size rest → length rest ≤ length more
unfolding chunk_line
size_later bytes more size rest e f = by (at_limit n bytes more)
  where
    n : ℕ
    n = chunk_line_limit

    part : (chunk_line_at (take n bytes) (line (take n bytes)) ≡ Partial) × (nat_le n (length bytes) ≡ false)
    part = within_part n bytes (chunk_line_at (take n bytes) (line (take n bytes))) e

    by : Reaches n bytes more ⊎ Within n bytes more → length rest ≤ length more
    by (inl w) = let h : length bytes < n = leb-false n (length bytes) part.1 in let l : n ≤ length bytes = w.long in absurd (omega (arith, h, l))
    by (inr w) =
        let k = within_whole n (bytes ++ more) (chunk_line_at (take n (bytes ++ more)) (line (take n (bytes ++ more)))) size rest f in
        let l = line_whole (bytes ++ w.next) k.0 k.1 (ap (λ x. chunk_line_at x (line x)) (sym w.taken_more) ∙ k.2) in
        let p : line bytes ≡ Partial = line_part bytes (ap (λ x. chunk_line_at x (line x)) (sym w.taken) ∙ part.0) in
        let a : length k.1 ≤ length w.next = late_at (line bytes) (line (bytes ++ w.next)) (length w.next) l.0 k.1 p l.1 (line-late bytes w.next) in
        let b : length (k.1 ++ w.others) ≡ length rest = ap (λ x. length (k.1 ++ x)) (sym w.dropped_more) ∙ ap length k.3 in
        let c : length (w.next ++ w.others) ≡ length more = ap length w.joined in
        omega (arith, a, b, c, length-append k.1 w.others, length-append w.next w.others)

-- Chunks

-- how much content it can give, with all that stands behind it
abbrev weight : Chunk → ℕ
weight (Piece content rest) = length content + length rest
weight (Last rest) = 0
weight (Begun content) = length content
weight (Wrong content) = length content

end_weight : (content bytes : List ℕ) → weight (chunk_end content bytes) ≤ length content + (length bytes - 2)
end_weight content [] = omega arith
end_weight content (b ∷ []) = by (b == 13)
  where
    by : (x : Bool) → weight (if x then Begun content else Wrong content) ≤ length content + 0
    by true = omega arith
    by false = omega arith
end_weight content (b ∷ c ∷ rest) = by (b == 13 && c == 10)
  where
    by : (x : Bool) → weight (if x then Piece content rest else Wrong content) ≤ length content + (length (b ∷ c ∷ rest) - 2)
    by true = omega arith
    by false = omega arith

data_weight : (size : ℕ) (bytes : List ℕ) → weight (chunk_data size bytes) ≤ length bytes
data_weight size bytes = by (nat_lt (length bytes) size)
  where
    by : (x : Bool) → weight (if x then Begun bytes else chunk_end (take size bytes) (drop size bytes)) ≤ length bytes
    by true = omega arith
    by false =
        let h = end_weight (take size bytes) (drop size bytes) in
        let e : length (take size bytes ++ drop size bytes) ≡ length bytes = ap length (take-append-drop size bytes) in
        omega (arith, h, e, length-append (take size bytes) (drop size bytes))

-- more bytes give a chunk that has begun no more content than they are
abbrev Gains : Chunk → List ℕ → Chunk → Type 0
Gains (Begun content) more later = weight later ≤ length content + length more
Gains _ more later = Unit {0}

end_gains : (content bytes more : List ℕ) → Gains (chunk_end content bytes) more (chunk_end content (bytes ++ more))
end_gains content [] more = let h = end_weight content more in omega (arith, h)
end_gains content (b ∷ []) more = by (b == 13)
  where
    by : (x : Bool) → Gains (if x then Begun content else Wrong content) more (chunk_end content (b ∷ more))
    by true = let h = end_weight content (b ∷ more) in omega (arith, h)
    by false = tt
end_gains content (b ∷ c ∷ rest) more = by (b == 13 && c == 10)
  where
    by : (x : Bool) → Gains (if x then Piece content rest else Wrong content) more (chunk_end content (b ∷ c ∷ rest ++ more))
    by true = tt
    by false = tt

data_gains : (size : ℕ) (bytes more : List ℕ) → Gains (chunk_data size bytes) more (chunk_data size (bytes ++ more))
data_gains size bytes more = by (nat_lt (length bytes) size) refl
  where
    is_past : (n m : ℕ) → n < m → m ≤ n → ⊥
    is_past n m h k = omega (arith, h, k)

    whole : (b : Bool) → b ≡ false → Reaches size bytes more ⊎ Within size bytes more → size ≤ length bytes
        → Gains (chunk_end (take size bytes) (drop size bytes)) more (if b then Begun (bytes ++ more) else chunk_end (take size (bytes ++ more)) (drop size (bytes ++ more)))
    whole true e w h = absurd cc
    whole false e (inl w) h =
        subst (λ l. Gains (chunk_end (take size bytes) (drop size bytes)) more (chunk_end l (drop size (bytes ++ more)))) (sym w.taken)
        (subst (λ l. Gains (chunk_end (take size bytes) (drop size bytes)) more (chunk_end (take size bytes) l)) (sym w.dropped)
        (end_gains (take size bytes) (drop size bytes) more))
    whole false e (inr w) h = absurd (is_past (length bytes) size (leb-false size (length bytes) w.short) h)

    by : (b : Bool) → nat_lt (length bytes) size ≡ b
        → Gains (if b then Begun bytes else chunk_end (take size bytes) (drop size bytes)) more (chunk_data size (bytes ++ more))
    by true e = let h = data_weight size (bytes ++ more) in omega (arith, h, length-append bytes more)
    by false e =
        let h : size ≤ length bytes = ltb-false (length bytes) size e in
        whole (nat_lt (length (bytes ++ more)) size) (le-ltb (length (bytes ++ more)) size (omega (arith, h, length-append bytes more))) (at_limit size bytes more) h

sized_weight : (size : ℕ) (rest : List ℕ) → weight (chunk_behind (Whole size rest)) ≤ length rest
sized_weight size rest = by (size == 0)
  where
    by : (b : Bool) → weight (elim b [ true ↦ Last rest | false ↦ chunk_data size rest ]) ≤ length rest
    by true = omega arith
    by false = data_weight size rest

chunk_gains : (bytes more : List ℕ) → Gains (chunk bytes) more (chunk (bytes ++ more))
unfolding chunk
chunk_gains bytes more = by (chunk_line bytes) (chunk_line (bytes ++ more)) (chunk_line-stays bytes more) (λ size rest e f. size_later bytes more size rest e f)
  where
    by : (r r' : Reading ℕ) → Stays r more r' → ((size : ℕ) (rest : List ℕ) → r ≡ Partial → r' ≡ Whole size rest → length rest ≤ length more) → Gains (chunk_behind r) more (chunk_behind r')
    by (Whole size rest) r' e k = subst (λ x. Gains (chunk_behind (Whole size rest)) more (chunk_behind x)) (sym e) (sized (size == 0))
      where
        sized : (b : Bool) → Gains (elim b [ true ↦ Last rest | false ↦ chunk_data size rest ]) more (elim b [ true ↦ Last (rest ++ more) | false ↦ chunk_data size (rest ++ more) ])
        sized true = tt
        sized false = data_gains size rest more
    by Partial (Whole size rest) e k = let h = sized_weight size rest in let l = k size rest refl refl in omega (arith, h, l)
    by Partial Partial e k = omega arith
    by Partial (Bad f) e k = omega arith
    by (Bad f) r' e k = tt

chunk_weight : (bytes : List ℕ) → weight (chunk bytes) ≤ length bytes
unfolding chunk
chunk_weight bytes = by (chunk_line bytes) (chunk_line-leaves bytes)
  where
    by : (r : Reading ℕ) → LeavesUnder (length bytes) r → weight (chunk_behind r) ≤ length bytes
    by (Whole size rest) h = let k = sized_weight size rest in omega (arith, h, k)
    by Partial h = omega arith
    by (Bad f) h = omega arith

-- Bodies

trailers_empty : (r : Reading (List Field)) → length (trailers_read r).content ≡ 0
trailers_empty (Whole fields rest) = refl
trailers_empty Partial = refl
trailers_empty (Bad f) = refl

last_empty : (bytes : List ℕ) → length (trailers_behind bytes).content ≡ 0
unfolding trailers_behind
last_empty bytes = trailers_empty (limited head_limit LongHead (section BadChunk field_limit) bytes)

chunks_within : (x : Chunk) (next : List ℕ → Body) → ((rest : List ℕ) → length (next rest).content ≤ length rest) → length (chunks_from x next).content ≤ weight x
chunks_within (Piece content rest) next h = let k = h rest in omega (arith, k, length-append content (next rest).content)
chunks_within (Last rest) next h = let k = last_empty rest in omega (arith, k)
chunks_within (Begun content) next h = omega arith
chunks_within (Wrong content) next h = omega arith

all_within : (n : ℕ) (bytes : List ℕ) → length (chunked_in n bytes).content ≤ length bytes
unfolding chunked_in
all_within zero bytes = omega arith
all_within (suc n) bytes = let h = chunks_within (chunk bytes) (chunked_in n) (all_within n) in let k = chunk_weight bytes in omega (arith, h, k)

abbrev ContentGains : ℕ → ℕ → List ℕ → List ℕ → Type 0
ContentGains n m bytes more = length (chunked_in m (bytes ++ more)).content ≤ length (chunked_in n bytes).content + length more

chunks_gain : (n m : ℕ) (x x' : Chunk) (size size' : ℕ) (more : List ℕ) → ChunkGrows x more x' → Gains x more x' → ChunkLeaves size x → ChunkLeaves size' x'
    → ((rest : List ℕ) → length rest < size → length (rest ++ more) < size' → ContentGains n m rest more)
    → length (chunks_from x' (chunked_in m)).content ≤ length (chunks_from x (chunked_in n)).content + length more
chunks_gain n m (Piece content rest) x' size size' more e g p q k =
    let small : length (rest ++ more) < size' = subst (ChunkLeaves size') e q in
    let next : ContentGains n m rest more = k rest p small in
    let same : length (chunks_from x' (chunked_in m)).content ≡ length (content ++ (chunked_in m (rest ++ more)).content) = ap (λ y. length (chunks_from y (chunked_in m)).content) e in
    omega (arith, next, same, length-append content (chunked_in m (rest ++ more)).content, length-append content (chunked_in n rest).content)
chunks_gain n m (Last rest) x' size size' more e g p q k =
    let same : length (chunks_from x' (chunked_in m)).content ≡ length (trailers_behind (rest ++ more)).content = ap (λ y. length (chunks_from y (chunked_in m)).content) e in
    let none = last_empty (rest ++ more) in
    omega (arith, same, none)
chunks_gain n m (Begun content) x' size size' more e g p q k = let h = chunks_within x' (chunked_in m) (all_within m) in omega (arith, h, g)
chunks_gain n m (Wrong content) x' size size' more e g p q k =
    let same : length (chunks_from x' (chunked_in m)).content ≡ length content = ap (λ y. length (chunks_from y (chunked_in m)).content) e in
    omega (arith, same)

chunked_gains : (n m : ℕ) (bytes more : List ℕ) → length bytes < n → length (bytes ++ more) < m → ContentGains n m bytes more
unfolding chunked_in
chunked_gains zero m bytes more h k = absurd (none (length bytes) h)
  where
    none : (n : ℕ) → n < 0 → ⊥
    none n h = omega (arith, h)
chunked_gains (suc n) zero bytes more h k = absurd (none (length (bytes ++ more)) k)
  where
    none : (n : ℕ) → n < 0 → ⊥
    none n h = omega (arith, h)
chunked_gains (suc n) (suc m) bytes more h k =
    chunks_gain n m (chunk bytes) (chunk (bytes ++ more)) (length bytes) (length (bytes ++ more)) more (chunk_grows bytes more) (chunk_gains bytes more) (chunk_leaves bytes) (chunk_leaves (bytes ++ more))
    (λ rest p q. chunked_gains n m rest more (omega (arith, h, p)) (omega (arith, k, q)))

body_gains : (n : Length) (e e' : Bool) (bytes more : List ℕ) → length (body n e' (bytes ++ more)).content ≤ length (body n e bytes).content + length more
body_gains NoBody e e' bytes more = omega arith
body_gains (Known n) e e' bytes more =
    let a = length-take n (bytes ++ more) in
    let b = length-take n bytes in
    omega (arith, a, b, length-append bytes more)
body_gains Chunked e e' bytes more = chunked_gains (suc (length bytes)) (suc (length (bytes ++ more))) bytes more (omega arith) (omega arith)
body_gains Close e e' bytes more = omega (arith, length-append bytes more)

body_within : (n : Length) (e : Bool) (bytes : List ℕ) → length (body n e bytes).content ≤ length bytes
body_within NoBody e bytes = omega arith
body_within (Known n) e bytes = let k = length-take n bytes in omega (arith, k)
body_within Chunked e bytes = all_within (suc (length bytes)) bytes
body_within Close e bytes = omega arith

-- the head comes, or was there
pub read_gains : (d : Direction) (to_head : Bool) (bytes more : List ℕ) (e e' : Bool) → length (reads d to_head (bytes ++ more) e').body ≤ length (reads d to_head bytes e).body + length more
unfolding reads
read_gains d to_head bytes more e e' =
    by (message_head d to_head bytes) (message_head d to_head (bytes ++ more)) (message_head-stays d to_head bytes more) (message_head-late d to_head bytes more)
  where
    by : (r r' : Reading Head) → Stays r more r' → Late r (length more) r' → length (read_by d (bytes ++ more) e' r').body ≤ length (read_by d bytes e r).body + length more
    by (Whole x rest) r' s l =
        let same : length (read_by d (bytes ++ more) e' r').body ≡ length (body x.length e' (rest ++ more)).content = ap (λ q. length (read_by d (bytes ++ more) e' q).body) s in
        let g = body_gains x.length e e' rest more in
        omega (arith, same, g)
    by Partial (Whole x rest) s l = let k = body_within x.length e' rest in omega (arith, k, l)
    by Partial Partial s l = omega arith
    by Partial (Bad f) s l = omega arith
    by (Bad f) r' s l = let same : length (read_by d (bytes ++ more) e' r').body ≡ 0 = ap (λ q. length (read_by d (bytes ++ more) e' q).body) s in omega (arith, same)
