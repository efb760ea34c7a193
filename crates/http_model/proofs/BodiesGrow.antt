-- A body that isn't whole goes on.
use Rattle.std.proofs.Common.{inl, inr, sym, ◌∙◌, ap, subst, append_assoc, append-nil, refl, arith, length-append, length-drop, le-ltb, ltb-true, ltb-false, leb-false, eqb-true}
use Rattle.std.specs.Prelude.{ℕ, zero, suc, ◌≡◌, ◌⊎◌, ◌<◌, ◌≤◌, Bool, true, false, ◌&&◌, ◌||◌, List, [], ◌∷◌, ◌++◌, length, take, drop, ◌==◌, nat_lt, if◌then◌else◌}
use Rattle.ext_msgs.specs.declared.lists.Field.{Field}
use Rattle.http_model.specs.Bytes.{IsPrefix}
use Rattle.http_model.specs.Reading.{Reading, Whole, Partial, Bad, BadChunk, LongHead, limited, Stays}
use Rattle.http_model.specs.Lines.{chunk_line, section}
use Rattle.http_model.specs.Heads.{head_limit, field_limit, is_bodiless}
use Rattle.http_model.specs.Bodies.{Body, body, Chunk, Piece, Last, Begun, Wrong, chunk_end, chunk_data, chunk_behind, chunk, trailers_read, trailers_behind, behind, chunks_from, chunked_in}
use Rattle.http_model.specs.declared.types.Length.{Length}
use Rattle.http_model.specs.declared.types.Length.TheVariants.{NoBody, Known, Chunked, Close}
use Rattle.http_model.proofs.Stable.{LeavesUnder, Reaches, Within, at_limit}
use Rattle.http_model.proofs.LinesStable.{chunk_line-stays, chunk_line-leaves}

-- Prefixes

pub itself : {A : Type 0} (xs : List A) → IsPrefix xs xs
itself xs = record { rest = []; whole = append-nil xs }

pub is_first : {A : Type 0} (xs ys : List A) → IsPrefix xs (xs ++ ys)
is_first xs ys = record { rest = ys; whole = refl }

pub none_first : {A : Type 0} (ys : List A) → IsPrefix [] ys
none_first ys = record { rest = ys; whole = refl }

pub onward : {A : Type 0} {xs ys zs : List A} → IsPrefix xs ys → IsPrefix ys zs → IsPrefix xs zs
onward {xs = xs} p q = record { rest = p.rest ++ q.rest; whole = sym (append_assoc xs p.rest q.rest) ∙ ap (λ l. l ++ q.rest) p.whole ∙ q.whole }

pub before_both : {A : Type 0} (xs ys zs : List A) → IsPrefix ys zs → IsPrefix (xs ++ ys) (xs ++ zs)
before_both xs ys zs p = record { rest = p.rest; whole = append_assoc xs ys p.rest ∙ ap (λ l. xs ++ l) p.whole }

take_first : (n : ℕ) (bytes more : List ℕ) → IsPrefix (take n bytes) (take n (bytes ++ more))
take_first n bytes more = by (at_limit n bytes more)
  where
    by : Reaches n bytes more ⊎ Within n bytes more → IsPrefix (take n bytes) (take n (bytes ++ more))
    by (inl w) = subst (λ l. IsPrefix (take n bytes) l) (sym w.taken) (itself (take n bytes))
    by (inr w) = subst (λ l. IsPrefix l (take n (bytes ++ more))) (sym w.taken) (subst (λ l. IsPrefix bytes l) (sym w.taken_more) (is_first bytes w.next))

-- Chunks

abbrev pub content_of : Chunk → List ℕ
content_of (Piece content rest) = content
content_of (Last rest) = []
content_of (Begun content) = content
content_of (Wrong content) = content

abbrev pub ChunkGrows : Chunk → List ℕ → Chunk → Type 0
ChunkGrows (Piece content rest) more later = later ≡ Piece content (rest ++ more)
ChunkGrows (Last rest) more later = later ≡ Last (rest ++ more)
ChunkGrows (Begun content) more later = IsPrefix content (content_of later)
ChunkGrows (Wrong content) more later = later ≡ Wrong content

end_content : (content bytes : List ℕ) → content_of (chunk_end content bytes) ≡ content
end_content content [] = refl
end_content content (b ∷ []) = by (b == 13)
  where
    by : (x : Bool) → content_of (if x then Begun content else Wrong content) ≡ content
    by true = refl
    by false = refl
end_content content (b ∷ c ∷ rest) = by (b == 13 && c == 10)
  where
    by : (x : Bool) → content_of (if x then Piece content rest else Wrong content) ≡ content
    by true = refl
    by false = refl

begins_end : (content bytes : List ℕ) → IsPrefix content (content_of (chunk_end content bytes))
begins_end content bytes = subst (λ l. IsPrefix content l) (sym (end_content content bytes)) (itself content)

end_grows : (content bytes more : List ℕ) → ChunkGrows (chunk_end content bytes) more (chunk_end content (bytes ++ more))
end_grows content [] more = begins_end content more
end_grows content (b ∷ []) [] = by (b == 13)
  where
    by : (x : Bool) → ChunkGrows (if x then Begun content else Wrong content) [] (if x then Begun content else Wrong content)
    by true = itself content
    by false = refl
end_grows content (b ∷ []) (c ∷ more) = by (b == 13) (c == 10)
  where
    by : (x y : Bool) → ChunkGrows (if x then Begun content else Wrong content) (c ∷ more) (if x && y then Piece content more else Wrong content)
    by true true = itself content
    by true false = itself content
    by false y = refl
end_grows content (b ∷ c ∷ rest) more = by (b == 13 && c == 10)
  where
    by : (x : Bool) → ChunkGrows (if x then Piece content rest else Wrong content) more (if x then Piece content (rest ++ more) else Wrong content)
    by true = refl
    by false = refl

data_grows : (size : ℕ) (bytes more : List ℕ) → ChunkGrows (chunk_data size bytes) more (chunk_data size (bytes ++ more))
data_grows size bytes more = by (nat_lt (length bytes) size) refl
  where
    is_past : (n m : ℕ) → n < m → m ≤ n → ⊥
    is_past n m h k = omega (arith, h, k)

    -- some of the data, and then all of it or more of it
    on : (b : Bool) → Reaches size bytes more ⊎ Within size bytes more → length bytes < size
        → IsPrefix bytes (content_of (if b then Begun (bytes ++ more) else chunk_end (take size (bytes ++ more)) (drop size (bytes ++ more))))
    on true w h = is_first bytes more
    on false (inl w) h = absurd (is_past (length bytes) size h w.long)
    on false (inr w) h =
        onward (subst (λ l. IsPrefix bytes l) (sym w.taken_more) (is_first bytes w.next)) (begins_end (take size (bytes ++ more)) (drop size (bytes ++ more)))

    whole : (b : Bool) → b ≡ false → Reaches size bytes more ⊎ Within size bytes more → size ≤ length bytes
        → ChunkGrows (chunk_end (take size bytes) (drop size bytes)) more (if b then Begun (bytes ++ more) else chunk_end (take size (bytes ++ more)) (drop size (bytes ++ more)))
    whole true e w h = absurd cc
    whole false e (inl w) h =
        subst (λ l. ChunkGrows (chunk_end (take size bytes) (drop size bytes)) more (chunk_end l (drop size (bytes ++ more)))) (sym w.taken)
        (subst (λ l. ChunkGrows (chunk_end (take size bytes) (drop size bytes)) more (chunk_end (take size bytes) l)) (sym w.dropped)
        (end_grows (take size bytes) (drop size bytes) more))
    whole false e (inr w) h = absurd (is_past (length bytes) size (leb-false size (length bytes) w.short) h)

    by : (b : Bool) → nat_lt (length bytes) size ≡ b
        → ChunkGrows (if b then Begun bytes else chunk_end (take size bytes) (drop size bytes)) more (chunk_data size (bytes ++ more))
    by true e = on (nat_lt (length (bytes ++ more)) size) (at_limit size bytes more) (ltb-true (length bytes) size e)
    by false e =
        let h : size ≤ length bytes = ltb-false (length bytes) size e in
        whole (nat_lt (length (bytes ++ more)) size) (le-ltb (length (bytes ++ more)) size (omega (arith, h, length-append bytes more))) (at_limit size bytes more) h

chunk_behind-grows : (r r' : Reading ℕ) (more : List ℕ) → Stays r more r' → ChunkGrows (chunk_behind r) more (chunk_behind r')
chunk_behind-grows (Whole size rest) r' more e =
    subst (λ x. ChunkGrows (chunk_behind (Whole size rest)) more (chunk_behind x)) (sym e) (by (size == 0))
  where
    by : (b : Bool) → ChunkGrows (elim b [ true ↦ Last rest | false ↦ chunk_data size rest ]) more (elim b [ true ↦ Last (rest ++ more) | false ↦ chunk_data size (rest ++ more) ])
    by true = refl
    by false = data_grows size rest more
chunk_behind-grows Partial r' more e = none_first (content_of (chunk_behind r'))
chunk_behind-grows (Bad f) r' more e = ap chunk_behind e

pub chunk_grows : (bytes more : List ℕ) → ChunkGrows (chunk bytes) more (chunk (bytes ++ more))
unfolding chunk
chunk_grows bytes more = chunk_behind-grows (chunk_line bytes) (chunk_line (bytes ++ more)) more (chunk_line-stays bytes more)

abbrev pub ChunkLeaves : ℕ → Chunk → Type 0
ChunkLeaves n (Piece content rest) = length rest < n
ChunkLeaves n _ = Unit {0}

end_leaves : (n : ℕ) (content bytes : List ℕ) → length bytes < n → ChunkLeaves n (chunk_end content bytes)
end_leaves n content [] h = tt
end_leaves n content (b ∷ []) h = by (b == 13)
  where
    by : (x : Bool) → ChunkLeaves n (if x then Begun content else Wrong content)
    by true = tt
    by false = tt
end_leaves n content (b ∷ c ∷ rest) h = by (b == 13 && c == 10)
  where
    by : (x : Bool) → ChunkLeaves n (if x then Piece content rest else Wrong content)
    by true = omega (arith, h)
    by false = tt

chunk_behind-leaves : (n : ℕ) (r : Reading ℕ) → LeavesUnder n r → ChunkLeaves n (chunk_behind r)
chunk_behind-leaves n (Whole size rest) h = by (size == 0) (nat_lt (length rest) size)
  where
    by : (b x : Bool) → ChunkLeaves n (elim b [ true ↦ Last rest | false ↦ if x then Begun rest else chunk_end (take size rest) (drop size rest) ])
    by true x = tt
    by false true = tt
    by false false = end_leaves n (take size rest) (drop size rest) (omega (arith, h, length-drop size rest))
chunk_behind-leaves n Partial h = tt
chunk_behind-leaves n (Bad f) h = tt

pub chunk_leaves : (bytes : List ℕ) → ChunkLeaves (length bytes) (chunk bytes)
unfolding chunk
chunk_leaves bytes = chunk_behind-leaves (length bytes) (chunk_line bytes) (chunk_line-leaves bytes)

-- Bodies

pub record BodyGoesOn (b b' : Body) : Type 0 where
  pub trailers : b.trailers ≡ []
  pub content : IsPrefix b.content b'.content

trailers_read-none : (r : Reading (List Field)) → ((trailers_read r).content ≡ []) × ((trailers_read r).whole ≡ false → (trailers_read r).trailers ≡ [])
trailers_read-none (Whole fields rest) = (refl, λ e. absurd cc)
trailers_read-none Partial = (refl, λ e. refl)
trailers_read-none (Bad f) = (refl, λ e. refl)

trailers_none : (bytes : List ℕ) → ((trailers_behind bytes).content ≡ []) × ((trailers_behind bytes).whole ≡ false → (trailers_behind bytes).trailers ≡ [])
unfolding trailers_behind
trailers_none bytes = trailers_read-none (limited head_limit LongHead (section BadChunk field_limit) bytes)

chunk_begins : (x : Chunk) (next : List ℕ → Body) → IsPrefix (content_of x) (chunks_from x next).content
chunk_begins (Piece content rest) next = is_first content (next rest).content
chunk_begins (Last rest) next = none_first (trailers_behind rest).content
chunk_begins (Begun content) next = itself content
chunk_begins (Wrong content) next = itself content

abbrev Grows : ℕ → ℕ → List ℕ → List ℕ → Type 0
Grows n m bytes more = (chunked_in n bytes).whole ≡ false → BodyGoesOn (chunked_in n bytes) (chunked_in m (bytes ++ more))

chunks_grow : (n m : ℕ) (x x' : Chunk) (size size' : ℕ) (more : List ℕ) → ChunkGrows x more x' → ChunkLeaves size x → ChunkLeaves size' x'
    → ((rest : List ℕ) → length rest < size → length (rest ++ more) < size' → Grows n m rest more)
    → (chunks_from x (chunked_in n)).whole ≡ false → BodyGoesOn (chunks_from x (chunked_in n)) (chunks_from x' (chunked_in m))
chunks_grow n m (Piece content rest) x' size size' more e p q k w =
    let small : length (rest ++ more) < size' = subst (ChunkLeaves size') e q in
    let next : BodyGoesOn (chunked_in n rest) (chunked_in m (rest ++ more)) = k rest p small w in
    subst (λ y. BodyGoesOn (behind content (chunked_in n rest)) (chunks_from y (chunked_in m))) (sym e)
    (record { trailers = next.trailers; content = before_both content (chunked_in n rest).content (chunked_in m (rest ++ more)).content next.content })
chunks_grow n m (Last rest) x' size size' more e p q k w =
    record {
      trailers = (trailers_none rest).1 w;
      content = subst (λ l. IsPrefix l (chunks_from x' (chunked_in m)).content) (sym (trailers_none rest).0) (none_first (chunks_from x' (chunked_in m)).content);
    }
chunks_grow n m (Begun content) x' size size' more e p q k w =
    record { trailers = refl; content = onward e (chunk_begins x' (chunked_in m)) }
chunks_grow n m (Wrong content) x' size size' more e p q k w =
    record { trailers = refl; content = subst (λ y. IsPrefix content (chunks_from y (chunked_in m)).content) (sym e) (itself content) }

pub chunked_grows : (n m : ℕ) (bytes more : List ℕ) → length bytes < n → length (bytes ++ more) < m → Grows n m bytes more
unfolding chunked_in
chunked_grows zero m bytes more h k w = absurd (none (length bytes) h)
  where
    none : (n : ℕ) → n < 0 → ⊥
    none n h = omega (arith, h)
chunked_grows (suc n) zero bytes more h k w = absurd (none (length (bytes ++ more)) k)
  where
    none : (n : ℕ) → n < 0 → ⊥
    none n h = omega (arith, h)
chunked_grows (suc n) (suc m) bytes more h k w =
    chunks_grow n m (chunk bytes) (chunk (bytes ++ more)) (length bytes) (length (bytes ++ more)) more (chunk_grows bytes more) (chunk_leaves bytes) (chunk_leaves (bytes ++ more))
    (λ rest p q. chunked_grows n m rest more (omega (arith, h, p)) (omega (arith, k, q))) w

pub body_grows : (n : Length) (e e' : Bool) (bytes more : List ℕ) → (body n e bytes).whole ≡ false → BodyGoesOn (body n e bytes) (body n e' (bytes ++ more))
body_grows NoBody e e' bytes more w = absurd cc
body_grows (Known n) e e' bytes more w = record { trailers = refl; content = take_first n bytes more }
body_grows Chunked e e' bytes more w =
    chunked_grows (suc (length bytes)) (suc (length (bytes ++ more))) bytes more (omega arith) (omega arith) w
body_grows Close e e' bytes more w = record { trailers = refl; content = is_first bytes more }

-- a whole body is so whether its side ends or not
pub whole_stays : (n : Length) (e e' : Bool) (bytes : List ℕ) → (body n e bytes).whole ≡ true → body n (e || e') bytes ≡ body n e bytes
whole_stays NoBody e e' bytes w = refl
whole_stays (Known n) e e' bytes w = refl
whole_stays Chunked e e' bytes w = refl
whole_stays Close true e' bytes w = refl
whole_stays Close false e' bytes w = absurd cc

pub no_body : (n : Length) (e : Bool) (bytes : List ℕ) → is_bodiless n ≡ true → (body n e bytes).content ≡ []
no_body NoBody e bytes w = refl
no_body (Known n) e bytes w = ap (λ k. take k bytes) (eqb-true n 0 w)
no_body Chunked e bytes w = absurd cc
no_body Close e bytes w = absurd cc
