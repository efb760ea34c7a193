-- Lines, sections and chunk lines stay as they were read.
use Rattle.std.proofs.Common.{inl, inr, sym, ◌∙◌, ap, subst, refl, arith}
use Rattle.std.specs.Prelude.{ℕ, zero, suc, ◌≡◌, ◌⊎◌, ◌<◌, ◌≤◌, Bool, true, false, ◌&&◌, ◌||◌, List, [], ◌∷◌, ◌++◌, length, ◌==◌}
use Rattle.ext_msgs.specs.declared.lists.Field.{Field}
use Rattle.http_model.specs.Reading.{Reading, Whole, Partial, Bad, Fault, BadChunk, LongHead, Stays}
use Rattle.http_model.specs.Lines.{line, before, first_line, begins_with_lf, FieldShape, AtStart, InName, InValue, AtEmptyEnd, AtEnd, NoField, field_shape, field_shape_on, field_of, with_field, by_line, by_part, section_at, begins_field, section, ChunkShape, InSize, InBlanks, InExtension, AtCr, NoChunk, chunk_shape, chunk_shape_on, chunk_by_line, chunk_by_part, chunk_line_at, chunk_line_limit, chunk_line}
use Rattle.http_model.proofs.Stable.{IsStable, LeavesUnder, limited-stays, limited-leaves}

-- Lines

before-stays : (b : ℕ) (r r' : Reading (List ℕ)) (more : List ℕ) → Stays r more r' → Stays (before b r) more (before b r')
before-stays b (Whole l rest) r' more e = ap (before b) e
before-stays b Partial r' more e = tt
before-stays b (Bad f) r' more e = ap (before b) e

pub line-stays : IsStable line
line-stays [] more = tt
line-stays (b ∷ bytes) more = by (line-stays bytes more) (b == 10)
  where
    by : Stays (line bytes) more (line (bytes ++ more)) → (c : Bool) → Stays (elim c [ true ↦ Whole [] bytes | false ↦ before b (line bytes) ]) more
        (elim c [ true ↦ Whole [] (bytes ++ more) | false ↦ before b (line (bytes ++ more)) ])
    by k true = refl
    by k false = before-stays b (line bytes) (line (bytes ++ more)) more k

abbrev prepend : List ℕ → Reading (List ℕ) → Reading (List ℕ)
prepend [] r = r
prepend (b ∷ bytes) r = before b (prepend bytes r)

before_partial : (b : ℕ) (r : Reading (List ℕ)) → before b r ≡ Partial → r ≡ Partial
before_partial b (Whole l rest) e = absurd cc
before_partial b Partial e = refl
before_partial b (Bad f) e = absurd cc

-- a line that isn't whole goes on in what follows
pub line_goes_on : (bytes more : List ℕ) → line bytes ≡ Partial → line (bytes ++ more) ≡ prepend bytes (line more)
line_goes_on [] more e = refl
line_goes_on (b ∷ bytes) more e = by (line_goes_on bytes more) (b == 10) e
  where
    by : (line bytes ≡ Partial → line (bytes ++ more) ≡ prepend bytes (line more)) → (c : Bool) → ◌≡◌ {A = Reading (List ℕ)} (elim c [ true ↦ Whole [] bytes | false ↦ before b (line bytes) ]) Partial
        → ◌≡◌ {A = Reading (List ℕ)} (elim c [ true ↦ Whole [] (bytes ++ more) | false ↦ before b (line (bytes ++ more)) ]) (before b (prepend bytes (line more)))
    by k true e = absurd cc
    by k false e = ap (before b) (k (before_partial b (line bytes) e))

abbrev NotBad : Reading (List ℕ) → Type 0
NotBad (Bad f) = ⊥
NotBad _ = Unit {0}

before_not_bad : (b : ℕ) (r : Reading (List ℕ)) → NotBad r → NotBad (before b r)
before_not_bad b (Whole l rest) e = tt
before_not_bad b Partial e = tt
before_not_bad b (Bad f) e = e

line_not_bad : (bytes : List ℕ) → NotBad (line bytes)
line_not_bad [] = tt
line_not_bad (b ∷ bytes) = by (line_not_bad bytes) (b == 10)
  where
    by : NotBad (line bytes) → (c : Bool) → NotBad (elim c [ true ↦ Whole [] bytes | false ↦ before b (line bytes) ])
    by k true = tt
    by k false = before_not_bad b (line bytes) k

-- what comes of a line that isn't whole: it is whole behind more of it, or still isn't
abbrev pub GoesOn : List ℕ → Reading (List ℕ) → Type 0
GoesOn bytes r = ((l : List ℕ) × (rest : List ℕ) × (r ≡ Whole (bytes ++ l) rest)) ⊎ (r ≡ Partial)

prepend_goes_on : (bytes : List ℕ) (r : Reading (List ℕ)) → NotBad r → GoesOn bytes (prepend bytes r)
prepend_goes_on bytes (Whole l rest) e = inl (l, rest, whole bytes l rest)
  where
    whole : (bytes l rest : List ℕ) → prepend bytes (Whole l rest) ≡ Whole (bytes ++ l) rest
    whole [] l rest = refl
    whole (b ∷ bytes) l rest = ap (before b) (whole bytes l rest)
prepend_goes_on bytes Partial e = inr (partial bytes)
  where
    partial : (bytes : List ℕ) → prepend bytes Partial ≡ Partial
    partial [] = refl
    partial (b ∷ bytes) = ap (before b) (partial bytes)
prepend_goes_on bytes (Bad f) e = absurd e

pub line_grows : (bytes more : List ℕ) → line bytes ≡ Partial → GoesOn bytes (line (bytes ++ more))
line_grows bytes more e = subst (GoesOn bytes) (sym (line_goes_on bytes more e)) (prepend_goes_on bytes (line more) (line_not_bad more))

pub first_line-stays : IsStable first_line
first_line-stays [] more = tt
first_line-stays (b ∷ []) more = by (b == 10) (b == 13)
  where
    by : (x y : Bool) → Stays {A = List ℕ} (elim (x || (y && false)) [ true ↦ Partial | false ↦ elim x [ true ↦ Whole [] [] | false ↦ Partial ] ]) more
        (elim (x || (y && begins_with_lf more)) [ true ↦ first_line more | false ↦ elim x [ true ↦ Whole [] more | false ↦ before b (line more) ] ])
    by true y = tt
    by false true = tt
    by false false = tt
first_line-stays (b ∷ c ∷ bytes) more = by (first_line-stays (c ∷ bytes) more) (b == 10 || (b == 13 && c == 10))
  where
    by : Stays (first_line (c ∷ bytes)) more (first_line (c ∷ (bytes ++ more))) → (x : Bool) → Stays (elim x [ true ↦ first_line (c ∷ bytes) | false ↦ line (b ∷ c ∷ bytes) ]) more
        (elim x [ true ↦ first_line (c ∷ (bytes ++ more)) | false ↦ line (b ∷ c ∷ (bytes ++ more)) ])
    by k true = k
    by k false = line-stays (b ∷ c ∷ bytes) more

before-leaves : (n b : ℕ) (r : Reading (List ℕ)) → LeavesUnder n r → LeavesUnder (suc n) (before b r)
before-leaves n b (Whole l rest) e = omega (arith, e)
before-leaves n b Partial e = tt
before-leaves n b (Bad f) e = tt

pub line-leaves : (bytes : List ℕ) → LeavesUnder (length bytes) (line bytes)
line-leaves [] = tt
line-leaves (b ∷ bytes) = by (line-leaves bytes) (b == 10)
  where
    by : LeavesUnder (length bytes) (line bytes) → (c : Bool) → LeavesUnder (suc (length bytes)) (elim c [ true ↦ Whole [] bytes | false ↦ before b (line bytes) ])
    by k true = omega arith
    by k false = before-leaves (length bytes) b (line bytes) k

more_room : {A : Type 0} (n m : ℕ) (r : Reading A) → n ≤ m → LeavesUnder n r → LeavesUnder m r
more_room n m (Whole a rest) h e = omega (arith, h, e)
more_room n m Partial h e = tt
more_room n m (Bad f) h e = tt

pub first_line-leaves : (bytes : List ℕ) → LeavesUnder (length bytes) (first_line bytes)
first_line-leaves [] = tt
first_line-leaves (b ∷ bytes) = by (first_line-leaves bytes) (b == 10 || (b == 13 && begins_with_lf bytes))
  where
    by : LeavesUnder (length bytes) (first_line bytes) → (x : Bool) → LeavesUnder (suc (length bytes)) (elim x [ true ↦ first_line bytes | false ↦ line (b ∷ bytes) ])
    by k true = more_room (length bytes) (suc (length bytes)) (first_line bytes) (omega arith) k
    by k false = line-leaves (b ∷ bytes)

-- Shapes

pub field_shape-append : (s : FieldShape) (xs ys : List ℕ) → field_shape s (xs ++ ys) ≡ field_shape (field_shape s xs) ys
field_shape-append s [] ys = refl
field_shape-append s (x ∷ xs) ys = field_shape-append (field_shape_on s x) xs ys

-- what is no field line stays none
no_field : (ys : List ℕ) → field_shape NoField ys ≡ NoField
no_field [] = refl
no_field (y ∷ ys) = no_field ys

pub chunk_shape-append : (s : ChunkShape) (xs ys : List ℕ) → chunk_shape s (xs ++ ys) ≡ chunk_shape (chunk_shape s xs) ys
chunk_shape-append s [] ys = refl
chunk_shape-append s (x ∷ xs) ys = chunk_shape-append (chunk_shape_on s x) xs ys

no_chunk : (ys : List ℕ) → chunk_shape NoChunk ys ≡ NoChunk
no_chunk [] = refl
no_chunk (y ∷ ys) = no_chunk ys

-- Sections

with_field-stays : (f : Field) (r r' : Reading (List Field)) (more : List ℕ) → Stays r more r' → Stays (with_field f r) more (with_field f r')
with_field-stays f (Whole fields rest) r' more e = ap (with_field f) e
with_field-stays f Partial r' more e = tt
with_field-stays f (Bad b) r' more e = ap (with_field f) e

by_line-stays : (bad : Fault) (s : FieldShape) (l rest more : List ℕ) (next : List ℕ → Reading (List Field)) → IsStable next
    → Stays (by_line bad s l rest next) more (by_line bad s l (rest ++ more) next)
by_line-stays bad AtStart l rest more next k = refl
by_line-stays bad AtEmptyEnd l rest more next k = refl
by_line-stays bad InValue l rest more next k = with_field-stays (field_of l) (next rest) (next (rest ++ more)) more (k rest more)
by_line-stays bad AtEnd l rest more next k = with_field-stays (field_of l) (next rest) (next (rest ++ more)) more (k rest more)
by_line-stays bad InName l rest more next k = refl
by_line-stays bad NoField l rest more next k = refl

-- a line that can be no field any more
never_field : (bad : Fault) (bytes more : List ℕ) (next : List ℕ → Reading (List Field)) → NoField ≡ field_shape AtStart bytes
    → GoesOn bytes (line (bytes ++ more)) → section_at bad (bytes ++ more) (line (bytes ++ more)) next ≡ Bad bad
never_field bad bytes more next e (inl g) =
    ap (λ r. section_at bad (bytes ++ more) r next) g.2
    ∙ ap (λ s. by_line bad s (bytes ++ g.0) g.1 next) (field_shape-append AtStart bytes g.0 ∙ ap (λ s. field_shape s g.0) (sym e) ∙ no_field g.0)
never_field bad bytes more next e (inr g) =
    ap (λ r. section_at bad (bytes ++ more) r next) g
    ∙ ap (by_part bad) (field_shape-append AtStart bytes more ∙ ap (λ s. field_shape s more) (sym e) ∙ no_field more)

section_at-stays : (bad : Fault) (bytes more : List ℕ) (next : List ℕ → Reading (List Field)) → IsStable next
    → Stays (section_at bad bytes (line bytes) next) more (section_at bad (bytes ++ more) (line (bytes ++ more)) next)
section_at-stays bad bytes more next k = by (line bytes) refl (line-stays bytes more)
  where
    part : (s : FieldShape) → s ≡ field_shape AtStart bytes → line bytes ≡ Partial
        → Stays (by_part bad s) more (section_at bad (bytes ++ more) (line (bytes ++ more)) next)
    part NoField e g = never_field bad bytes more next e (line_grows bytes more g)
    part AtStart e g = tt
    part InName e g = tt
    part InValue e g = tt
    part AtEmptyEnd e g = tt
    part AtEnd e g = tt

    by : (r : Reading (List ℕ)) → r ≡ line bytes → Stays r more (line (bytes ++ more))
        → Stays (section_at bad bytes r next) more (section_at bad (bytes ++ more) (line (bytes ++ more)) next)
    by (Whole l rest) e g =
        subst (λ x. Stays (by_line bad (field_shape AtStart l) l rest next) more (section_at bad (bytes ++ more) x next)) (sym g)
        (by_line-stays bad (field_shape AtStart l) l rest more next k)
    by Partial e g = part (field_shape AtStart bytes) refl (sym e)
    by (Bad f) e g = ap (λ x. section_at bad (bytes ++ more) x next) g

pub section-stays : (bad : Fault) (n : ℕ) → IsStable (section bad n)
unfolding section
section-stays bad zero [] more = tt
section-stays bad zero (b ∷ bytes) more = by (begins_field (b ∷ bytes))
  where
    by : (c : Bool) → Stays (elim c [ true ↦ Bad LongHead | false ↦ section_at bad (b ∷ bytes) (line (b ∷ bytes)) (λ rest. Bad LongHead) ]) more
        (elim c [ true ↦ Bad LongHead | false ↦ section_at bad (b ∷ (bytes ++ more)) (line (b ∷ (bytes ++ more))) (λ rest. Bad LongHead) ])
    by true = refl
    by false = section_at-stays bad (b ∷ bytes) more (λ rest. Bad LongHead) (λ x y. refl)
section-stays bad (suc n) bytes more = section_at-stays bad bytes more (section bad n) (section-stays bad n)

by_line-leaves : (bad : Fault) (m : ℕ) (s : FieldShape) (l rest : List ℕ) (next : List ℕ → Reading (List Field)) → length rest < m
    → ((bytes : List ℕ) → LeavesUnder (suc (length bytes)) (next bytes)) → LeavesUnder m (by_line bad s l rest next)
by_line-leaves bad m s l rest next h k = by s
  where
    field_leaves : (f : Field) (r : Reading (List Field)) → LeavesUnder (suc (length rest)) r → LeavesUnder m (with_field f r)
    field_leaves f (Whole fields more) e = omega (arith, h, e)
    field_leaves f Partial e = tt
    field_leaves f (Bad b) e = tt

    by : (s : FieldShape) → LeavesUnder m (by_line bad s l rest next)
    by AtStart = h
    by AtEmptyEnd = h
    by InValue = field_leaves (field_of l) (next rest) (k rest)
    by AtEnd = field_leaves (field_of l) (next rest) (k rest)
    by InName = tt
    by NoField = tt

by_part-leaves : (bad : Fault) (m : ℕ) (s : FieldShape) → LeavesUnder m (by_part bad s)
by_part-leaves bad m AtStart = tt
by_part-leaves bad m InName = tt
by_part-leaves bad m InValue = tt
by_part-leaves bad m AtEmptyEnd = tt
by_part-leaves bad m AtEnd = tt
by_part-leaves bad m NoField = tt

section_at-leaves : (bad : Fault) (bytes : List ℕ) (next : List ℕ → Reading (List Field))
    → ((bytes : List ℕ) → LeavesUnder (suc (length bytes)) (next bytes)) → LeavesUnder (length bytes) (section_at bad bytes (line bytes) next)
section_at-leaves bad bytes next k = by (line bytes) (line-leaves bytes)
  where
    by : (r : Reading (List ℕ)) → LeavesUnder (length bytes) r → LeavesUnder (length bytes) (section_at bad bytes r next)
    by (Whole l rest) e = by_line-leaves bad (length bytes) (field_shape AtStart l) l rest next e k
    by Partial e = by_part-leaves bad (length bytes) (field_shape AtStart bytes)
    by (Bad f) e = tt

pub section-leaves : (bad : Fault) (n : ℕ) (bytes : List ℕ) → LeavesUnder (suc (length bytes)) (section bad n bytes)
unfolding section
section-leaves bad zero bytes = by (begins_field bytes)
  where
    by : (c : Bool) → LeavesUnder (suc (length bytes)) (elim c [ true ↦ Bad LongHead | false ↦ section_at bad bytes (line bytes) (λ rest. Bad LongHead) ])
    by true = tt
    by false = more_room (length bytes) (suc (length bytes)) (section_at bad bytes (line bytes) (λ rest. Bad LongHead)) (omega arith)
        (section_at-leaves bad bytes (λ rest. Bad LongHead) (λ x. tt))
section-leaves bad (suc n) bytes =
    more_room (length bytes) (suc (length bytes)) (section_at bad bytes (line bytes) (section bad n)) (omega arith)
    (section_at-leaves bad bytes (section bad n) (section-leaves bad n))

-- Chunk lines

chunk_by_line-stays : (s : ChunkShape) (l rest more : List ℕ) → Stays (chunk_by_line s l rest) more (chunk_by_line s l (rest ++ more))
chunk_by_line-stays AtCr l rest more = refl
chunk_by_line-stays (InSize n) l rest more = refl
chunk_by_line-stays InBlanks l rest more = refl
chunk_by_line-stays InExtension l rest more = refl
chunk_by_line-stays NoChunk l rest more = refl

never_chunk : (bytes more : List ℕ) → NoChunk ≡ chunk_shape (InSize 0) bytes → GoesOn bytes (line (bytes ++ more))
    → chunk_line_at (bytes ++ more) (line (bytes ++ more)) ≡ Bad BadChunk
never_chunk bytes more e (inl g) =
    ap (chunk_line_at (bytes ++ more)) g.2
    ∙ ap (λ s. chunk_by_line s (bytes ++ g.0) g.1) (chunk_shape-append (InSize 0) bytes g.0 ∙ ap (λ s. chunk_shape s g.0) (sym e) ∙ no_chunk g.0)
never_chunk bytes more e (inr g) =
    ap (chunk_line_at (bytes ++ more)) g
    ∙ ap chunk_by_part (chunk_shape-append (InSize 0) bytes more ∙ ap (λ s. chunk_shape s more) (sym e) ∙ no_chunk more)

pub chunk_line_at-stays : IsStable (λ front. chunk_line_at front (line front))
chunk_line_at-stays bytes more = by (line bytes) refl (line-stays bytes more)
  where
    part : (s : ChunkShape) → s ≡ chunk_shape (InSize 0) bytes → line bytes ≡ Partial
        → Stays (chunk_by_part s) more (chunk_line_at (bytes ++ more) (line (bytes ++ more)))
    part NoChunk e g = never_chunk bytes more e (line_grows bytes more g)
    part (InSize n) e g = tt
    part InBlanks e g = tt
    part InExtension e g = tt
    part AtCr e g = tt

    by : (r : Reading (List ℕ)) → r ≡ line bytes → Stays r more (line (bytes ++ more))
        → Stays (chunk_line_at bytes r) more (chunk_line_at (bytes ++ more) (line (bytes ++ more)))
    by (Whole l rest) e g =
        subst (λ x. Stays (chunk_by_line (chunk_shape (InSize 0) l) l rest) more (chunk_line_at (bytes ++ more) x)) (sym g)
        (chunk_by_line-stays (chunk_shape (InSize 0) l) l rest more)
    by Partial e g = part (chunk_shape (InSize 0) bytes) refl (sym e)
    by (Bad f) e g = ap (chunk_line_at (bytes ++ more)) g

pub chunk_line-stays : IsStable chunk_line
unfolding chunk_line
chunk_line-stays = limited-stays chunk_line_limit BadChunk (λ front. chunk_line_at front (line front)) chunk_line_at-stays

chunk_by_line-leaves : (m : ℕ) (s : ChunkShape) (l rest : List ℕ) → length rest < m → LeavesUnder m (chunk_by_line s l rest)
chunk_by_line-leaves m AtCr l rest h = h
chunk_by_line-leaves m (InSize n) l rest h = tt
chunk_by_line-leaves m InBlanks l rest h = tt
chunk_by_line-leaves m InExtension l rest h = tt
chunk_by_line-leaves m NoChunk l rest h = tt

chunk_by_part-leaves : (m : ℕ) (s : ChunkShape) → LeavesUnder m (chunk_by_part s)
chunk_by_part-leaves m AtCr = tt
chunk_by_part-leaves m (InSize n) = tt
chunk_by_part-leaves m InBlanks = tt
chunk_by_part-leaves m InExtension = tt
chunk_by_part-leaves m NoChunk = tt

chunk_line_at-leaves : (bytes : List ℕ) → LeavesUnder (length bytes) (chunk_line_at bytes (line bytes))
chunk_line_at-leaves bytes = by (line bytes) (line-leaves bytes)
  where
    by : (r : Reading (List ℕ)) → LeavesUnder (length bytes) r → LeavesUnder (length bytes) (chunk_line_at bytes r)
    by (Whole l rest) e = chunk_by_line-leaves (length bytes) (chunk_shape (InSize 0) l) l rest e
    by Partial e = chunk_by_part-leaves (length bytes) (chunk_shape (InSize 0) bytes)
    by (Bad f) e = tt

pub chunk_line-leaves : (bytes : List ℕ) → LeavesUnder (length bytes) (chunk_line bytes)
unfolding chunk_line
chunk_line-leaves = limited-leaves chunk_line_limit BadChunk (λ front. chunk_line_at front (line front)) chunk_line_at-leaves
