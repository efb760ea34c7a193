-- What is written of a value that was read is at most twice as long as what it was read from.
use Rattle.std.proofs.Common.{◌≡◌, ℕ, zero, suc, ◌+◌, ◌-◌, ◌*◌, ◌^◌, ◌<◌, ◌≤◌, Bool, true, false, cond, List, [], ◌∷◌, ◌++◌, length, map, Option, Some, None, refl, sym, ap, subst, arith, inl, inr}
use Rattle.std.specs.List.{AllByRecursion}
use Rattle.std.specs.Int.{w64, cast_unsigned}
use Rattle.std.proofs.lemmas.Bool.{cases_eq, cases_lt, lt-ltb, le-ltb}
use Rattle.pb_wire.specs.Records.{Entry}
use Rattle.pb_wire.specs.Walk.{entries}
use Rattle.pb_wire.specs.Canonical.{shortest, groups, spelling}
use Rattle.pb_wire.proofs.Canonical.{shortest_is}
use Rattle.ext_msgs.specs.Fields.{span_at, varint_at, spans, varints, last_or, bytes_of, number_of, inside, is_set, low, int32, int64, latest}
use Rattle.ext_msgs.specs.MessageValue.{value_or, field, fields, action_of, set_field, mutation, body_member, body_by, body_change, is_one, common, response, trailers, modes, duration}
use Rattle.ext_msgs.specs.Spelling.{present, filled, counted, some_number, some_signed, bit, flag, embedded, some_embedded, header_records, field_record, map_records, headers_records, body_records, trailers_records, set_records, set_record, removal_record, mutation_records, change_records, common_records, response_records, trailers_response_records, numbered, duration_records}
use Rattle.ext_msgs.proofs.Lengths.{size, one_size, some_size, mono_size, room, mono_room, more_room}
use Rattle.ext_msgs.proofs.Sizes.{AreBytes, ContentBytes, weight, total, total_nil, total_cons, total_append, entries_least, HaveBytes, spans_bytes, inside_bytes, entries_bytes}
use Rattle.ext_msgs.proofs.Weights.{present_weight, counted_weight, number_weight, at, ats, ats_most, sizes, spans_at, bytes_most, sum_of, number_size, varints_at, seen_once, seen_twice, some_embedded_twice, embedded_twice, embedded_any, Found, found, spans_some, varints_some, run_all}

-- ---- HeaderValue, HeaderMap

-- the value that is kept is one of two
value_most : (raw value : List ℕ) → total (filled 3 (value_or raw value)) ≤ total (filled 3 raw) + total (filled 3 value)
value_most [] value = omega (arith, total_nil)
value_most (x ∷ raw) value = omega arith

pub header_most : (es : List Entry) → total (header_records (field es).name (field es).value) ≤ total es
header_most es =
    omega (
      arith,
      total_append (filled 1 (bytes_of 1 es)) (filled 3 (value_or (bytes_of 3 es) (bytes_of 2 es))),
      value_most (bytes_of 3 es) (bytes_of 2 es),
      bytes_most 1 1 es (omega arith) (omega arith),
      bytes_most 2 3 es (omega arith) (omega arith),
      bytes_most 3 3 es (omega arith) (omega arith),
      ats_most 1 (2 ∷ 3 ∷ []) es (omega arith, (omega arith, tt)),
    )

each_field : (bs : List (List ℕ)) → AllByRecursion AreBytes bs → total (map_records (map (λ b. field (entries b)) bs)) ≤ sizes bs
each_field [] h = omega (arith, total_nil)
each_field (b ∷ bs) h =
    let f = field (entries b) in
    omega (
      arith,
      total_cons (field_record f) (map_records (map (λ c. field (entries c)) bs)),
      present_weight 1 (spelling (header_records f.name f.value)) (omega arith),
      mono_room (total (header_records f.name f.value)) (length b) (omega (arith, header_most (entries b), entries_least b h.0)),
      each_field bs h.1,
    )

pub map_most : (es : List Entry) → HaveBytes es → total (map_records (fields es)) ≤ total es
map_most es h = omega (arith, each_field (spans 1 es) (spans_bytes 1 es h), spans_at 1 es (omega arith), ats_most 1 [] es tt)

-- ---- HttpHeaders, HttpTrailers, HttpBody

bit_once : (v : ℕ) → size (bit (is_set v)) ≤ size v
bit_once v = by_test (is_set v)
  where
    by_test : (t : Bool) → size (bit t) ≤ size v
    by_test true = omega (arith, one_size 1 (omega arith), some_size v)
    by_test false = omega (arith, one_size 0 (omega arith), some_size v)

flag_once : (n : ℕ) (es : List Entry) → n < 15 → total (flag n (is_set (number_of n es))) ≤ at n es
flag_once n es h = seen_once (λ v. bit (is_set v)) n es h refl bit_once

pub headers_most : (es : List Entry) → HaveBytes es → total (headers_records (fields (inside 1 es)) (is_set (number_of 3 es))) ≤ total es + 2
headers_most es h =
    let ms = map_records (fields (inside 1 es)) in
    omega (
      arith,
      total_cons (embedded 1 ms) (flag 3 (is_set (number_of 3 es))),
      embedded_any 1 es ms (omega arith) h (map_most (inside 1 es) (inside_bytes 1 es h)),
      flag_once 3 es (omega arith),
      ats_most 1 (3 ∷ []) es (omega arith, tt),
    )

pub http_trailers_most : (es : List Entry) → HaveBytes es → total (trailers_records (fields (inside 1 es))) ≤ total es + 2
http_trailers_most es h =
    let ms = map_records (fields (inside 1 es)) in
    omega (
      arith,
      total_cons (embedded 1 ms) [],
      total_nil,
      embedded_any 1 es ms (omega arith) h (map_most (inside 1 es) (inside_bytes 1 es h)),
      ats_most 1 [] es tt,
    )

pub body_most : (es : List Entry) → total (body_records (bytes_of 1 es) (is_set (number_of 2 es))) ≤ total es
body_most es =
    omega (
      arith,
      total_append (filled 1 (bytes_of 1 es)) (flag 2 (is_set (number_of 2 es))),
      bytes_most 1 1 es (omega arith) (omega arith),
      flag_once 2 es (omega arith),
      ats_most 1 (2 ∷ []) es (omega arith, tt),
    )

-- ---- HeaderValueOption, HeaderMutation

action_most : (bs : List (List ℕ)) (append : Bool) (action : ℕ) → total (some_number 3 (action_of bs append action)) ≤ sizes bs + total (some_number 3 action)
action_most [] append action = omega arith
action_most (b ∷ bs) append action = omega (arith, two append, some_size (length b))
  where
    two : (t : Bool) → total (some_number 3 (cond t 0 2)) ≤ 2
    two true = omega (arith, total_nil)
    two false = omega (arith, number_weight 3 2 (omega arith), one_size 2 (omega arith))

set_most : (es : List Entry) → HaveBytes es → total (set_records (set_field es)) ≤ total es + 2
set_most es h =
    let hs = header_records (set_field es).name (set_field es).value in
    omega (
      arith,
      total_cons (embedded 1 hs) (some_number 3 (set_field es).action),
      embedded_any 1 es hs (omega arith) h (header_most (inside 1 es)),
      action_most (spans 2 es) (is_set (number_of 1 (inside 2 es))) (low (number_of 3 es)),
      seen_once low 3 es (omega arith) refl (λ v. mono_size (low v) v (omega arith)),
      spans_at 2 es (omega arith),
      ats_most 1 (2 ∷ 3 ∷ []) es (omega arith, (omega arith, tt)),
    )

each_set : (bs : List (List ℕ)) → AllByRecursion AreBytes bs → total (map set_record (map (λ b. set_field (entries b)) bs)) ≤ 2 * sizes bs
each_set [] h = omega (arith, total_nil)
each_set (b ∷ bs) h =
    let f = set_field (entries b) in
    omega (
      arith,
      total_cons (set_record f) (map set_record (map (λ c. set_field (entries c)) bs)),
      present_weight 1 (spelling (set_records f)) (omega arith),
      more_room (total (set_records f)) (length b) (omega (arith, set_most (entries b) (entries_bytes b h.0), entries_least b h.0)),
      each_set bs h.1,
    )

each_name : (names : List (List ℕ)) → total (map removal_record names) ≤ sizes names
each_name [] = omega (arith, total_nil)
each_name (n ∷ names) = omega (arith, total_cons (removal_record n) (map removal_record names), present_weight 2 n (omega arith), each_name names)

pub mutation_twice : (es : List Entry) → HaveBytes es → total (mutation_records (mutation es)) ≤ 2 * total es
mutation_twice es h =
    omega (
      arith,
      total_append (map set_record (map (λ b. set_field (entries b)) (spans 1 es))) (map removal_record (spans 2 es)),
      each_set (spans 1 es) (spans_bytes 1 es h),
      each_name (spans 2 es),
      spans_at 1 es (omega arith),
      spans_at 2 es (omega arith),
      ats_most 1 (2 ∷ []) es (omega arith, tt),
    )

-- ---- BodyMutation

-- what sets a member of this number
module _ (e : Entry) where
  bytes_set : (o : Option (List ℕ)) (p : Option ℕ) (q : Option (List ℕ)) → span_at 1 e ≡ o → varint_at 2 e ≡ p → span_at 3 e ≡ q → body_member e ≡ 1 → (b : List ℕ) × (span_at 1 e ≡ Some b)
  bytes_set (Some b) p q eo ep eq h = (b, eo)
  bytes_set None (Some v) q eo ep eq h = let no : 2 ≡ 1 = rw (eo, ep) at h in absurd (omega (arith, no))
  bytes_set None None (Some b) eo ep eq h = let no : 3 ≡ 1 = rw (eo, ep, eq) at h in absurd (omega (arith, no))
  bytes_set None None None eo ep eq h = let no : 0 ≡ 1 = rw (eo, ep, eq) at h in absurd (omega (arith, no))

  clear_set : (o : Option (List ℕ)) (p : Option ℕ) (q : Option (List ℕ)) → span_at 1 e ≡ o → varint_at 2 e ≡ p → span_at 3 e ≡ q → body_member e ≡ 2 → (v : ℕ) × (varint_at 2 e ≡ Some v)
  clear_set (Some b) p q eo ep eq h = let no : 1 ≡ 2 = rw eo at h in absurd (omega (arith, no))
  clear_set None (Some v) q eo ep eq h = (v, ep)
  clear_set None None (Some b) eo ep eq h = let no : 3 ≡ 2 = rw (eo, ep, eq) at h in absurd (omega (arith, no))
  clear_set None None None eo ep eq h = let no : 0 ≡ 2 = rw (eo, ep, eq) at h in absurd (omega (arith, no))

  stream_set : (o : Option (List ℕ)) (p : Option ℕ) (q : Option (List ℕ)) → span_at 1 e ≡ o → varint_at 2 e ≡ p → span_at 3 e ≡ q → body_member e ≡ 3 → (b : List ℕ) × (span_at 3 e ≡ Some b)
  stream_set (Some b) p q eo ep eq h = let no : 1 ≡ 3 = rw eo at h in absurd (omega (arith, no))
  stream_set None (Some v) q eo ep eq h = let no : 2 ≡ 3 = rw (eo, ep) at h in absurd (omega (arith, no))
  stream_set None None (Some b) eo ep eq h = (b, eq)
  stream_set None None None eo ep eq h = let no : 0 ≡ 3 = rw (eo, ep, eq) at h in absurd (omega (arith, no))

-- bytes that occur, written also when empty
present_most : (bs : List (List ℕ)) → 0 < length bs → room (length (last_or [] bs)) ≤ sizes bs
present_most [] h = absurd (omega arith)
present_most (b ∷ bs) h = from b bs
  where
    from : (d : List ℕ) (cs : List (List ℕ)) → room (length (last_or d cs)) ≤ room (length d) + sizes cs
    from d [] = omega arith
    from d (c ∷ cs) = omega (arith, from c cs)

-- a truth value that occurs, written also when false
clear_most : (es : List Entry) → 0 < length (varints 2 es) → weight (counted 2 (bit (is_set (number_of 2 es)))) ≤ at 2 es
clear_most es h =
    omega (arith, counted_weight 2 (bit (is_set (number_of 2 es))) (omega arith), one_bit (is_set (number_of 2 es)), some_sum (varints 2 es) h, varints_at 2 es (omega arith))
  where
    one_bit : (t : Bool) → size (bit t) ≡ 1
    one_bit true = one_size 1 (omega arith)
    one_bit false = one_size 0 (omega arith)

    some_sum : (vs : List ℕ) → 0 < length vs → 2 ≤ sum_of number_size vs
    some_sum [] h = absurd (omega arith)
    some_sum (v ∷ vs) h = omega (arith, some_size v)

by_change : (es : List Entry) (n : ℕ) (run : List Entry) → Found body_member es n run → HaveBytes run → total (change_records (body_by n run)) ≤ 2 * total es
by_change es zero run f h = omega (arith, total_nil)
by_change es (suc zero) run f h =
    let set = bytes_set f.last (span_at 1 f.last) (varint_at 2 f.last) (span_at 3 f.last) refl refl refl f.is in
    let some : 0 < length (spans 1 run) = subst (λ r. 0 < length (spans 1 r)) (sym f.whole) (spans_some 1 f.front f.last set.0 set.1) in
    omega (
      arith,
      total_cons (present 1 (bytes_of 1 run)) [],
      total_nil,
      present_weight 1 (bytes_of 1 run) (omega arith),
      present_most (spans 1 run) some,
      spans_at 1 run (omega arith),
      f.some 1,
      ats_most 1 [] es tt,
    )
by_change es (suc (suc zero)) run f h =
    let set = clear_set f.last (span_at 1 f.last) (varint_at 2 f.last) (span_at 3 f.last) refl refl refl f.is in
    let some : 0 < length (varints 2 run) = subst (λ r. 0 < length (varints 2 r)) (sym f.whole) (varints_some 2 f.front f.last set.0 set.1) in
    omega (arith, total_cons (counted 2 (bit (is_set (number_of 2 run)))) [], total_nil, clear_most run some, f.some 2, ats_most 2 [] es tt)
by_change es (suc (suc (suc zero))) run f h =
    let set = stream_set f.last (span_at 1 f.last) (varint_at 2 f.last) (span_at 3 f.last) refl refl refl f.is in
    let some : 0 < length (spans 3 run) = subst (λ r. 0 < length (spans 3 r)) (sym f.whole) (spans_some 3 f.front f.last set.0 set.1) in
    let out = body_records (bytes_of 1 (inside 3 run)) (is_set (number_of 2 (inside 3 run))) in
    omega (
      arith,
      total_cons (embedded 3 out) [],
      total_nil,
      embedded_twice 3 run out (omega arith) h some (omega (arith, body_most (inside 3 run))),
      f.some 3,
      ats_most 3 [] es tt,
    )
by_change es (suc (suc (suc (suc n)))) run f h = omega (arith, total_nil)

pub change_twice : (es : List Entry) → HaveBytes es → total (change_records (body_change es)) ≤ 2 * total es
change_twice es h =
    elim (cases_eq (latest body_member es).0 0) [
      | inl none ↦ omega (arith, ap (λ (n : ℕ). total (change_records (body_by n (latest body_member es).1))) none, total_nil)
      | inr set ↦ by_change es (latest body_member es).0 (latest body_member es).1 (found body_member es set) (run_all (λ e. ContentBytes e.content) body_member es h)
    ]

-- ---- CommonResponse and what wraps it

one_once : (v : ℕ) → size (bit (is_one v)) ≤ size v
one_once v = by_test (is_one v)
  where
    by_test : (t : Bool) → size (bit t) ≤ size v
    by_test true = omega (arith, one_size 1 (omega arith), some_size v)
    by_test false = omega (arith, one_size 0 (omega arith), some_size v)

pub common_twice : (es : List Entry) → HaveBytes es → total (common_records (common es)) ≤ 2 * total es
common_twice es h =
    let ms = mutation_records (mutation (inside 2 es)) in
    let bs = change_records (body_change (inside 3 es)) in
    omega (
      arith,
      total_append (flag 1 (is_one (number_of 1 es))) (some_embedded 2 ms ++ some_embedded 3 bs),
      total_append (some_embedded 2 ms) (some_embedded 3 bs),
      seen_once (λ v. bit (is_one v)) 1 es (omega arith) refl one_once,
      some_embedded_twice 2 es ms (omega arith) h (mutation_twice (inside 2 es) (inside_bytes 2 es h)),
      some_embedded_twice 3 es bs (omega arith) h (change_twice (inside 3 es) (inside_bytes 3 es h)),
      ats_most 1 (2 ∷ 3 ∷ []) es (omega arith, (omega arith, tt)),
    )

pub response_twice : (es : List Entry) → HaveBytes es → total (response_records (response es)) ≤ 2 * total es
response_twice es h = omega (arith, some_embedded_twice 1 es (common_records (response es)) (omega arith) h (common_twice (inside 1 es) (inside_bytes 1 es h)), ats_most 1 [] es tt)

pub trailers_twice : (es : List Entry) → HaveBytes es → total (trailers_response_records (trailers es)) ≤ 2 * total es
trailers_twice es h = omega (arith, some_embedded_twice 1 es (mutation_records (trailers es)) (omega arith) h (mutation_twice (inside 1 es) (inside_bytes 1 es h)), ats_most 1 [] es tt)

-- ---- ProcessingMode, Duration

-- so many bytes at most for a number of 64 bits
size_most : (n : ℕ) → n < 2 ^ 64 → size n ≤ 10
size_most n h = omega (arith, (shortest_is n h).short)

-- and so many at least for one of 32
five : size (2 ^ 31) ≡ 5
unfolding shortest groups
five = refl

size_least : (n : ℕ) → 2 ^ 31 ≤ n → 5 ≤ size n
size_least n h = omega (arith, mono_size (2 ^ 31) n h, five)

wide_twice : (v : ℕ) → number_size (cast_unsigned w64 (int32 v)) ≤ 2 * number_size v
wide_twice v =
    elim (cases_lt (low v) (2 ^ 31)) [
      | inl lt ↦ let e : cast_unsigned w64 (int32 v) ≡ low v = rw (lt-ltb (low v) (2 ^ 31) lt) refl in omega (arith, ap size e, mono_size (low v) v (omega arith))
      | inr le ↦
          let e : cast_unsigned w64 (int32 v) ≡ 2 ^ 64 - suc (2 ^ 32 - suc (low v)) = rw (le-ltb (low v) (2 ^ 31) le) refl in
          omega (arith, ap size e, size_most (2 ^ 64 - suc (2 ^ 32 - suc (low v))) (omega arith), size_least v (omega arith))
    ]

whole_twice : (v : ℕ) → number_size (cast_unsigned w64 (int64 v)) ≤ 2 * number_size v
whole_twice v =
    elim (cases_lt v (2 ^ 63)) [
      | inl lt ↦ let e : cast_unsigned w64 (int64 v) ≡ v = rw (lt-ltb v (2 ^ 63) lt) refl in omega (arith, ap size e)
      | inr le ↦
          let e : cast_unsigned w64 (int64 v) ≡ 2 ^ 64 - suc (2 ^ 64 - suc v) = rw (le-ltb v (2 ^ 63) le) refl in
          omega (arith, ap size e, mono_size (2 ^ 64 - suc (2 ^ 64 - suc v)) v (omega arith))
    ]

mode_twice : (n : ℕ) (es : List Entry) → n < 15 → total (some_signed n (int32 (number_of n es))) ≤ 2 * at n es
mode_twice n es h = seen_twice (λ v. cast_unsigned w64 (int32 v)) n es h refl wide_twice

-- the fields from n on
abbrev upward : ℕ → ℕ → List ℕ
upward zero n = []
upward (suc k) n = n ∷ upward k (suc n)

numbers_twice : (k n : ℕ) (es : List Entry) → n + k ≤ 15 → total (numbered n (map (λ i. int32 (number_of i es)) (upward k n))) ≤ 2 * ats (upward k n) es
numbers_twice zero n es h = omega (arith, total_nil)
numbers_twice (suc k) n es h =
    omega (
      arith,
      total_append (some_signed n (int32 (number_of n es))) (numbered (suc n) (map (λ i. int32 (number_of i es)) (upward k (suc n)))),
      mode_twice n es (omega arith),
      numbers_twice k (suc n) es (omega arith),
    )

pub modes_twice : (es : List Entry) → total (numbered 1 (modes es).numbers) ≤ 2 * total es
modes_twice es = omega (arith, numbers_twice 6 1 es (omega arith), ats_most 1 (upward 5 2) es (omega arith, (omega arith, (omega arith, (omega arith, (omega arith, tt))))))

pub duration_twice : (es : List Entry) → total (duration_records (duration es)) ≤ 2 * total es
duration_twice es =
    omega (
      arith,
      total_append (some_signed 1 (int64 (number_of 1 es))) (some_signed 2 (int32 (number_of 2 es))),
      seen_twice (λ v. cast_unsigned w64 (int64 v)) 1 es (omega arith) refl whole_twice,
      mode_twice 2 es (omega arith),
      ats_most 1 (2 ∷ []) es (omega arith, tt),
    )
