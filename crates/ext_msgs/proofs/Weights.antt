-- How much of some records each field takes.
use Rattle.std.proofs.Common.{◌≡◌, ℕ, zero, suc, ◌+◌, ◌*◌, ◌<◌, ◌≤◌, Bool, true, false, cond, eqb, not, List, [], ◌∷◌, ◌++◌, length, length-append, reverse, filter, Some, None, refl, sym, ap, subst, ◌∙◌, arith, inl, inr}
use Rattle.std.specs.List.{AllByRecursion, flat_map, cons_option}
use Rattle.std.proofs.lemmas.Bool.{cases_lt, eqb-true, ne_eqb}
use Rattle.std.proofs.lemmas.List.{reverse-append}
use Rattle.std.proofs.lemmas.List.Elements.{filter_map-append}
use Rattle.pb_wire.specs.Records.{Content, varint, fixed64, span, fixed32, Entry}
use Rattle.pb_wire.specs.Walk.{entries}
use Rattle.pb_wire.specs.Canonical.{shortest, number_record, bytes_record, content_record, spelling}
use Rattle.ext_msgs.specs.Fields.{bytes_in, number_in, span_at, varint_at, spans, varints, last_or, bytes_of, number_of, inside, front_while, latest_in, latest}
use Rattle.ext_msgs.specs.Spelling.{present, filled, counted, some_number, embedded, some_embedded}
use Rattle.ext_msgs.proofs.Lengths.{size, one_size, some_size, sum_size, room, mono_room, twice_room, more_room}
use Rattle.ext_msgs.proofs.Sizes.{AreBytes, weight, total, total_nil, total_cons, total_append, entries_least, HaveBytes, spans_bytes}

-- ---- records with a tag of one byte

pub present_weight : (n : ℕ) (b : List ℕ) → n < 15 → weight (present n b) ≡ room (length b)
unfolding content_record bytes_record
present_weight n b h = omega (arith, length-append (shortest (8 * n + 2)) (shortest (length b) ++ b), length-append (shortest (length b)) b, one_size (8 * n + 2) (omega arith))

pub counted_weight : (n v : ℕ) → n < 15 → weight (counted n v) ≡ 1 + size v
unfolding content_record number_record
counted_weight n v h = omega (arith, length-append (shortest (8 * n)) (shortest v), one_size (8 * n) (omega arith))

pub filled_weight : (n : ℕ) (b : List ℕ) → n < 15 → total (filled n b) ≤ room (length b)
filled_weight n [] h = omega (arith, total_nil)
filled_weight n (x ∷ b) h = omega (arith, total_cons (present n (x ∷ b)) [], total_nil, present_weight n (x ∷ b) h)

pub number_weight : (n v : ℕ) → n < 15 → total (some_number n v) ≤ 1 + size v
number_weight n zero h = omega (arith, total_nil)
number_weight n (suc v) h = omega (arith, total_cons (counted n (suc v)) [], total_nil, counted_weight n (suc v) h)

-- ---- what the records of one number take

abbrev pub at : ℕ → List Entry → ℕ
at n [] = 0
at n (e ∷ es) = cond (eqb e.number n) (weight e) 0 + at n es

abbrev pub ats : List ℕ → List Entry → ℕ
ats [] es = 0
ats (n ∷ ns) es = at n es + ats ns es

-- numbers that rise
abbrev pub Rising : ℕ → List ℕ → Type 0
Rising n [] = Unit {0}
Rising n (m ∷ ms) = (n < m) × Rising m ms

abbrev hits : ℕ → ℕ → List ℕ → ℕ
hits k w [] = 0
hits k w (n ∷ ns) = cond (eqb k n) w 0 + hits k w ns

no_hit : (k w n : ℕ) (ns : List ℕ) → k ≤ n → Rising n ns → hits k w ns ≡ 0
no_hit k w n [] le up = refl
no_hit k w n (m ∷ ms) le up =
    let none : cond (eqb k m) w 0 ≡ 0 = ap (λ t. cond t w 0) (ne_eqb k m (omega (arith, up.0))) in
    omega (arith, none, no_hit k w m ms (omega (arith, up.0)) up.1)

one_hit : (k w n : ℕ) (ns : List ℕ) → Rising n ns → hits k w (n ∷ ns) ≤ w
one_hit k w n [] up = by_test (eqb k n)
  where
    by_test : (t : Bool) → cond t w 0 + 0 ≤ w
    by_test true = omega arith
    by_test false = omega arith
one_hit k w n (m ∷ ms) up = by_test (eqb k n) refl (one_hit k w m ms up.1)
  where
    by_test : (t : Bool) → eqb k n ≡ t → hits k w (m ∷ ms) ≤ w → cond t w 0 + hits k w (m ∷ ms) ≤ w
    by_test true q more = let same : k ≡ n = eqb-true k n q in omega (arith, no_hit k w n (m ∷ ms) (omega arith) up)
    by_test false q more = omega (arith, more)

ats_nil : (ns : List ℕ) → ats ns [] ≡ 0
ats_nil [] = refl
ats_nil (n ∷ ns) = omega (arith, ats_nil ns)

ats_cons : (ns : List ℕ) (e : Entry) (es : List Entry) → ats ns (e ∷ es) ≡ hits e.number (weight e) ns + ats ns es
ats_cons [] e es = refl
ats_cons (n ∷ ns) e es = omega (arith, ats_cons ns e es)

-- the records of different numbers take no more than all of them
pub ats_most : (n : ℕ) (ns : List ℕ) (es : List Entry) → Rising n ns → ats (n ∷ ns) es ≤ total es
ats_most n ns [] up = omega (arith, ats_nil (n ∷ ns))
ats_most n ns (e ∷ es) up = omega (arith, ats_cons (n ∷ ns) e es, one_hit e.number (weight e) n ns up, ats_most n ns es up, total_cons e es)

-- ---- the occurrences of a field of bytes

abbrev pub sizes : List (List ℕ) → ℕ
sizes [] = 0
sizes (b ∷ bs) = room (length b) + sizes bs

abbrev pub lengths : List (List ℕ) → ℕ
lengths [] = 0
lengths (b ∷ bs) = length b + lengths bs

span_one : (n number : ℕ) (content : Content) (bs : List (List ℕ)) (t : Bool) → n < 15 → eqb number n ≡ t → sizes (cons_option (cond t (bytes_in content) None) bs) ≤ cond t (weight (record { number = number; content = content })) 0 + sizes bs
span_one n number content bs false h q = omega arith
span_one n number (varint v) bs true h q = omega arith
span_one n number (fixed64 v) bs true h q = omega arith
span_one n number (fixed32 v) bs true h q = omega arith
span_one n number (span b) bs true h q =
    let same : number ≡ n = eqb-true number n q in
    let w : weight (present number b) ≡ room (length b) = present_weight number b (omega arith) in
    omega (arith, w)

pub spans_at : (n : ℕ) (es : List Entry) → n < 15 → sizes (spans n es) ≤ at n es
spans_at n [] h = omega arith
spans_at n (e ∷ es) h = omega (arith, spans_at n es h, span_one n e.number e.content (spans n es) (eqb e.number n) h refl)

-- joined, they take less room where there is one, and else two bytes more
pub joined_some : (bs : List (List ℕ)) → 0 < length bs → room (lengths bs) ≤ sizes bs
joined_some [] h = absurd (omega arith)
joined_some (b ∷ []) h = let e : length b + 0 ≡ length b = omega arith in omega (arith, ap room e)
joined_some (b ∷ c ∷ bs) h = omega (arith, joined_some (c ∷ bs) (omega arith), sum_size (length b) (length c + lengths bs), some_size (length c + lengths bs))

pub joined_any : (bs : List (List ℕ)) → room (lengths bs) ≤ sizes bs + 2
joined_any [] = omega (arith, one_size 0 (omega arith))
joined_any (b ∷ bs) = omega (arith, joined_some (b ∷ bs) (omega arith))

pub some_lengths : (bs : List (List ℕ)) → 0 < lengths bs → 0 < length bs
some_lengths [] h = absurd (omega arith)
some_lengths (b ∷ bs) h = omega arith

inside_weight : (bs : List (List ℕ)) → AllByRecursion AreBytes bs → total (flat_map entries bs) ≤ lengths bs
inside_weight [] h = omega (arith, total_nil)
inside_weight (b ∷ bs) h = omega (arith, total_append (entries b) (flat_map entries bs), entries_least b h.0, inside_weight bs h.1)

pub inside_most : (n : ℕ) (es : List Entry) → HaveBytes es → total (inside n es) ≤ lengths (spans n es)
inside_most n es h = inside_weight (spans n es) (spans_bytes n es h)

-- the last occurrence, written again
pub last_most : (n k : ℕ) (d : List ℕ) (bs : List (List ℕ)) → k < 15 → total (filled k (last_or d bs)) ≤ total (filled k d) + sizes bs
last_most n k d [] h = omega arith
last_most n k d (b ∷ bs) h = omega (arith, last_most n k b bs h, filled_weight k b h)

pub bytes_most : (n k : ℕ) (es : List Entry) → n < 15 → k < 15 → total (filled k (bytes_of n es)) ≤ at n es
bytes_most n k es h j = omega (arith, last_most n k [] (spans n es) j, total_nil, spans_at n es h)

-- ---- the occurrences of a number

abbrev pub sum_of : (ℕ → ℕ) → List ℕ → ℕ
sum_of g [] = 0
sum_of g (v ∷ vs) = g v + sum_of g vs

abbrev pub number_size : ℕ → ℕ
number_size v = 1 + size v

varint_one : (n number : ℕ) (content : Content) (vs : List ℕ) (t : Bool) → n < 15 → eqb number n ≡ t → sum_of number_size (cons_option (cond t (number_in content) None) vs) ≤ cond t (weight (record { number = number; content = content })) 0 + sum_of number_size vs
varint_one n number content vs false h q = omega arith
varint_one n number (span v) vs true h q = omega arith
varint_one n number (fixed64 v) vs true h q = omega arith
varint_one n number (fixed32 v) vs true h q = omega arith
varint_one n number (varint v) vs true h q =
    let same : number ≡ n = eqb-true number n q in
    let w : weight (counted number v) ≡ 1 + size v = counted_weight number v (omega arith) in
    omega (arith, w)

pub varints_at : (n : ℕ) (es : List Entry) → n < 15 → sum_of number_size (varints n es) ≤ at n es
varints_at n [] h = omega arith
varints_at n (e ∷ es) h = omega (arith, varints_at n es h, varint_one n e.number e.content (varints n es) (eqb e.number n) h refl)

-- the last occurrence, seen by f and written again
last_seen : (f g : ℕ → ℕ) (k d : ℕ) (vs : List ℕ) → ((v : ℕ) → total (some_number k (f v)) ≤ g v) → total (some_number k (f (last_or d vs))) ≤ total (some_number k (f d)) + sum_of g vs
last_seen f g k d [] bound = omega arith
last_seen f g k d (v ∷ vs) bound = omega (arith, last_seen f g k v vs bound, bound v)

double : (vs : List ℕ) → sum_of (λ v. 2 * number_size v) vs ≡ 2 * sum_of number_size vs
double [] = refl
double (v ∷ vs) = omega (arith, double vs)

module _ (f : ℕ → ℕ) (n : ℕ) (es : List Entry) (low : n < 15) (none : f 0 ≡ 0) where
  nothing : total (some_number n (f 0)) ≡ 0
  nothing = ap (λ v. total (some_number n v)) none ∙ total_nil

  pub seen_once : ((v : ℕ) → size (f v) ≤ size v) → total (some_number n (f (number_of n es))) ≤ at n es
  seen_once bound = omega (arith, last_seen f number_size n 0 (varints n es) (λ v. omega (arith, number_weight n (f v) low, bound v)), nothing, varints_at n es low)

  pub seen_twice : ((v : ℕ) → number_size (f v) ≤ 2 * number_size v) → total (some_number n (f (number_of n es))) ≤ 2 * at n es
  seen_twice bound =
      omega (arith, last_seen f (λ v. 2 * number_size v) n 0 (varints n es) (λ v. omega (arith, number_weight n (f v) low, bound v)), nothing, double (varints n es), varints_at n es low)

-- ---- embedded messages, written again

filled_nothing : (n : ℕ) (b : List ℕ) → length b ≤ 0 → total (filled n b) ≡ 0
filled_nothing n [] h = total_nil
filled_nothing n (x ∷ b) h = absurd (omega arith)

module _ (n : ℕ) (es out : List Entry) (low : n < 15) (have : HaveBytes es) where
  -- left out when empty
  pub some_embedded_twice : total out ≤ 2 * total (inside n es) → total (some_embedded n out) ≤ 2 * at n es
  some_embedded_twice h =
      elim (cases_lt 0 (total out)) [
        | inl some ↦
            let inner = inside_most n es have in
            let is = some_lengths (spans n es) (omega (arith, h, inner)) in
            omega (arith, filled_weight n (spelling out) low, twice_room (total out) (lengths (spans n es)) (omega (arith, h, inner)), joined_some (spans n es) is, spans_at n es low)
        | inr none ↦ omega (arith, filled_nothing n (spelling out) (omega arith))
      ]

  -- written also when empty, where there is an occurrence
  pub embedded_twice : 0 < length (spans n es) → total out ≤ 2 * total (inside n es) → weight (embedded n out) ≤ 2 * at n es
  embedded_twice is h =
      let inner = inside_most n es have in
      omega (arith, present_weight n (spelling out) low, twice_room (total out) (lengths (spans n es)) (omega (arith, h, inner)), joined_some (spans n es) is, spans_at n es low)

  pub embedded_more : 0 < length (spans n es) → total out ≤ total (inside n es) + 2 → weight (embedded n out) ≤ 2 * at n es
  embedded_more is h =
      let inner = inside_most n es have in
      omega (arith, present_weight n (spelling out) low, more_room (total out) (lengths (spans n es)) (omega (arith, h, inner)), joined_some (spans n es) is, spans_at n es low)

  -- written also where there is none
  pub embedded_any : total out ≤ total (inside n es) → weight (embedded n out) ≤ at n es + 2
  embedded_any h =
      let inner = inside_most n es have in
      omega (arith, present_weight n (spelling out) low, mono_room (total out) (lengths (spans n es)) (omega (arith, h, inner)), joined_any (spans n es), spans_at n es low)

  pub embedded_once : 0 < length (spans n es) → total out ≤ total (inside n es) → weight (embedded n out) ≤ at n es
  embedded_once is h =
      let inner = inside_most n es have in
      omega (arith, present_weight n (spelling out) low, mono_room (total out) (lengths (spans n es)) (omega (arith, h, inner)), joined_some (spans n es) is, spans_at n es low)

-- ---- the records of a oneof's last member

at_append : (n : ℕ) (es fs : List Entry) → at n (es ++ fs) ≡ at n es + at n fs
at_append n [] fs = omega arith
at_append n (e ∷ es) fs = omega (arith, at_append n es fs)

reversed : (e : Entry) (es : List Entry) → reverse (e ∷ es) ≡ reverse es ++ e ∷ []
reversed e es = reverse-append (e ∷ []) es

at_reverse : (n : ℕ) (es : List Entry) → at n (reverse es) ≡ at n es
at_reverse n [] = refl
at_reverse n (e ∷ es) = omega (arith, ap (at n) (reversed e es), at_append n (reverse es) (e ∷ []), at_reverse n es)

at_filter : (n : ℕ) (p : Entry → Bool) (es : List Entry) → at n (filter p es) ≤ at n es
at_filter n p [] = omega arith
at_filter n p (e ∷ es) = by_test (p e) refl (at_filter n p es)
  where
    by_test : (t : Bool) → p e ≡ t → at n (filter p es) ≤ at n es → at n (filter p (e ∷ es)) ≤ at n (e ∷ es)
    by_test true q more = let kept : filter p (e ∷ es) ≡ e ∷ filter p es = rw q refl in omega (arith, ap (at n) kept, more)
    by_test false q more = let left : filter p (e ∷ es) ≡ filter p es = rw q refl in omega (arith, ap (at n) left, more)

at_front : (n : ℕ) (p : Entry → Bool) (es : List Entry) → at n (front_while p es) ≤ at n es
at_front n p [] = omega arith
at_front n p (e ∷ es) = by_test (p e) (at_front n p es)
  where
    by_test : (t : Bool) → at n (front_while p es) ≤ at n es → at n (cond t (e ∷ front_while p es) []) ≤ at n (e ∷ es)
    by_test true more = omega (arith, more)
    by_test false more = omega arith

-- what holds of each record holds of each of the member's
module _ (P : Entry → Type 0) where
  all_append : (es fs : List Entry) → AllByRecursion P es → AllByRecursion P fs → AllByRecursion P (es ++ fs)
  all_append [] fs h k = k
  all_append (e ∷ es) fs h k = (h.0, all_append es fs h.1 k)

  all_reverse : (es : List Entry) → AllByRecursion P es → AllByRecursion P (reverse es)
  all_reverse [] h = tt
  all_reverse (e ∷ es) h = subst (AllByRecursion P) (sym (reversed e es)) (all_append (reverse es) (e ∷ []) (all_reverse es h.1) (h.0, tt))

  all_filter : (p : Entry → Bool) (es : List Entry) → AllByRecursion P es → AllByRecursion P (filter p es)
  all_filter p [] h = tt
  all_filter p (e ∷ es) h = by_test (p e) refl (all_filter p es h.1)
    where
      by_test : (t : Bool) → p e ≡ t → AllByRecursion P (filter p es) → AllByRecursion P (filter p (e ∷ es))
      by_test true q more = let kept : filter p (e ∷ es) ≡ e ∷ filter p es = rw q refl in subst (AllByRecursion P) (sym kept) (h.0, more)
      by_test false q more = let left : filter p (e ∷ es) ≡ filter p es = rw q refl in subst (AllByRecursion P) (sym left) more

  all_front : (p : Entry → Bool) (es : List Entry) → AllByRecursion P es → AllByRecursion P (front_while p es)
  all_front p [] h = tt
  all_front p (e ∷ es) h = by_test (p e) (all_front p es h.1)
    where
      by_test : (t : Bool) → AllByRecursion P (front_while p es) → AllByRecursion P (cond t (e ∷ front_while p es) [])
      by_test true more = (h.0, more)
      by_test false more = tt

  all_latest : (member : Entry → ℕ) (rs : List Entry) → AllByRecursion P rs → AllByRecursion P (latest_in member rs).1
  all_latest member [] h = tt
  all_latest member (e ∷ rs) h = let same : Entry → Bool = λ other. eqb (member other) (member e) in all_reverse (e ∷ front_while same rs) (h.0, all_front same rs h.1)

  pub run_all : (member : Entry → ℕ) (es : List Entry) → AllByRecursion P es → AllByRecursion P (latest member es).1
  run_all member es h = all_latest member (reverse (filter (λ e. not (eqb (member e) 0)) es)) (all_reverse (filter (λ e. not (eqb (member e) 0)) es) (all_filter (λ e. not (eqb (member e) 0)) es h))

-- the member's records end with one that sets it, and are some of the message's
pub record Found (member : Entry → ℕ) (es : List Entry) (n : ℕ) (run : List Entry) : Type 0 where
  pub front : List Entry
  pub last : Entry
  pub whole : run ≡ front ++ last ∷ []
  pub is : member last ≡ n
  pub some : (k : ℕ) → at k run ≤ at k es

found_in : (member : Entry → ℕ) (es rs : List Entry) → ((k : ℕ) → at k rs ≤ at k es) → ((latest_in member rs).0 ≡ 0 → ⊥) → Found member es (latest_in member rs).0 (latest_in member rs).1
found_in member es [] less set = absurd (set refl)
found_in member es (e ∷ rs) less set =
    let same : Entry → Bool = λ other. eqb (member other) (member e) in
    record {
      front = reverse (front_while same rs);
      last = e;
      whole = reversed e (front_while same rs);
      is = refl;
      some = λ k. omega (arith, less k, at_reverse k (e ∷ front_while same rs), at_front k same rs);
    }

pub found : (member : Entry → ℕ) (es : List Entry) → ((latest member es).0 ≡ 0 → ⊥) → Found member es (latest member es).0 (latest member es).1
found member es set =
    let sets : Entry → Bool = λ e. not (eqb (member e) 0) in
    found_in member es (reverse (filter sets es)) (λ k. omega (arith, at_reverse k (filter sets es), at_filter k sets es)) set

-- an occurrence of a field at the end of some records
pub spans_some : (n : ℕ) (front : List Entry) (last : Entry) (b : List ℕ) → span_at n last ≡ Some b → 0 < length (spans n (front ++ last ∷ []))
spans_some n front last b is =
    let one : spans n (last ∷ []) ≡ b ∷ [] = rw is refl in
    omega (arith, ap length (filter_map-append (span_at n) front (last ∷ [])), length-append (spans n front) (spans n (last ∷ [])), ap length one)

pub varints_some : (n : ℕ) (front : List Entry) (last : Entry) (v : ℕ) → varint_at n last ≡ Some v → 0 < length (varints n (front ++ last ∷ []))
varints_some n front last v is =
    let one : varints n (last ∷ []) ≡ v ∷ [] = rw is refl in
    omega (arith, ap length (filter_map-append (varint_at n) front (last ∷ [])), length-append (varints n front) (varints n (last ∷ [])), ap length one)
