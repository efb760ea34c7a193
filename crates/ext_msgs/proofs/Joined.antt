-- How the spellings of records join.
use Rattle.std.proofs.Common.{◌≡◌, ℕ, zero, suc, ◌+◌, ◌<◌, ◌≤◌, length, get_or, drop, List, [], ◌∷◌, ◌++◌, refl, sym, ap, ◌∙◌, append_assoc, map, arith}
use Rattle.std.proofs.lemmas.List.{append-nil, drop_more, drop_all}
use Rattle.std.proofs.lemmas.Grind.{flat_map-append}
use Rattle.pb_wire.specs.Records.{Entry}
use Rattle.pb_wire.specs.Canonical.{number_record, bytes_record, content_record, record_spelling, spelling}
use Rattle.ext_msgs.specs.Spelling.{present, filled, counted, some_number}

pub spelling-append : (es fs : List Entry) → spelling (es ++ fs) ≡ spelling es ++ spelling fs
unfolding spelling
spelling-append es fs = flat_map-append record_spelling es fs

pub spelling_both : (es fs : List Entry) → spelling es ++ spelling fs ≡ spelling (es ++ fs)
spelling_both es fs = sym (spelling-append es fs)

pub spelling_nil : spelling [] ≡ []
unfolding spelling
spelling_nil = refl

pub spelling_none : (out : List ℕ) → out ++ spelling [] ≡ out
unfolding spelling
spelling_none out = append-nil out

pub nothing_more : (out : List ℕ) → out ≡ out ++ spelling []
nothing_more out = sym (spelling_none out)

pub spelling_one : (e : Entry) → spelling (e ∷ []) ≡ record_spelling e
unfolding spelling
spelling_one e = append-nil (record_spelling e)

pub spelling_cons : (e : Entry) (es : List Entry) → spelling (e ∷ es) ≡ record_spelling e ++ spelling es
unfolding spelling
spelling_cons e es = refl

pub present_spelling : (number : ℕ) (bytes : List ℕ) → bytes_record number bytes ≡ spelling (present number bytes ∷ [])
unfolding content_record
present_spelling number bytes = sym (spelling_one (present number bytes))

pub counted_spelling : (number value : ℕ) → number_record number value ≡ spelling (counted number value ∷ [])
unfolding content_record
counted_spelling number value = sym (spelling_one (counted number value))

-- fields that are left out, and those that are not
pub filled_none : (number : ℕ) (bytes out : List ℕ) → length bytes ≡ 0 → out ≡ out ++ spelling (filled number bytes)
filled_none number [] out h = sym (spelling_none out)
filled_none number (b ∷ bytes) out h = absurd (omega arith)

pub filled_some : (number : ℕ) (bytes : List ℕ) → 0 < length bytes → filled number bytes ≡ present number bytes ∷ []
filled_some number [] h = absurd (omega arith)
filled_some number (b ∷ bytes) h = refl

pub number_none : (number value : ℕ) (out : List ℕ) → value ≡ 0 → out ≡ out ++ spelling (some_number number value)
number_none number zero out h = sym (spelling_none out)
number_none number (suc value) out h = absurd (omega arith)

pub number_some : (number value : ℕ) → 0 < value → some_number number value ≡ counted number value ∷ []
number_some number zero h = absurd (omega arith)
number_some number (suc value) h = refl

-- one more item of a repeated field
pub put_step : {X : Type 0} (f : X → Entry) (out total : List ℕ) (xs : List X) (i : ℕ) (x : X) → i < length xs → x ≡ get_or xs i x → out ++ spelling (map f (drop i xs)) ≡ total → (out ++ spelling (f x ∷ [])) ++ spelling (map f (drop (i + 1) xs)) ≡ total
put_step f out total xs i x lt is so_far =
    let rest : drop i xs ≡ x ∷ drop (i + 1) xs = drop_more xs i x lt ∙ ap (λ y. y ∷ drop (i + 1) xs) (sym is) in
    append_assoc out (spelling (f x ∷ [])) (spelling (map f (drop (i + 1) xs))) ∙ ap (λ s. out ++ s) (spelling_both (f x ∷ []) (map f (drop (i + 1) xs))) ∙ sym (ap (λ ys. out ++ spelling (map f ys)) rest) ∙ so_far

pub put_all : {X : Type 0} (f : X → Entry) (out total : List ℕ) (xs : List X) (i : ℕ) → length xs ≤ i → out ++ spelling (map f (drop i xs)) ≡ total → out ≡ total
put_all f out total xs i le so_far = sym (spelling_none out) ∙ sym (ap (λ ys. out ++ spelling (map f ys)) (drop_all i xs le)) ∙ so_far
