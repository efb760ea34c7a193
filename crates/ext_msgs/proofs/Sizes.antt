-- How long records are, and that their canonical spelling is the shortest.
use Rattle.std.proofs.Common.{◌≡◌, ℕ, suc, ◌+◌, ◌*◌, ◌/◌, ◌<◌, ◌≤◌, Bool, true, false, cond, eqb, List, [], ◌∷◌, ◌++◌, length, length-append, None, ap, subst, ◌∙◌, arith, inl, inr}
use Rattle.std.specs.List.{AllByRecursion, flat_map, cons_option}
use Rattle.std.specs.Int.{w32, w64, to_le_bytes}
use Rattle.std.proofs.lemmas.Bool.{cases_lt}
use Rattle.pb_wire.specs.Records.{Content, varint, fixed64, span, fixed32, Entry, SpellsNumber, Spells, Records}
use Rattle.pb_wire.specs.Walk.{entries}
use Rattle.pb_wire.specs.Canonical.{shortest, number_record, bytes_record, content_record, record_spelling, spelling}
use Rattle.pb_wire.proofs.Shortest.{shortest_last, shortest_more}
use Rattle.pb_wire.proofs.Exact.{parts_are}
use Rattle.ext_msgs.specs.Fields.{bytes_in, spans, inside}
use Rattle.ext_msgs.proofs.Joined.{spelling-append, spelling_nil, spelling_cons}

abbrev pub AreBytes : List ℕ → Type 0
AreBytes bytes = AllByRecursion (λ b. b < 256) bytes

pub bytes_append : (a b : List ℕ) → AreBytes (a ++ b) → AreBytes a × AreBytes b
bytes_append [] b h = (tt, h)
bytes_append (x ∷ a) b h = let r = bytes_append a b h.1 in ((h.0, r.0), r.1)

abbrev pub weight : Entry → ℕ
weight e = length (record_spelling e)

abbrev pub total : List Entry → ℕ
total es = length (spelling es)

pub total_nil : total [] ≡ 0
total_nil = ap length spelling_nil

pub total_cons : (e : Entry) (es : List Entry) → total (e ∷ es) ≡ weight e + total es
total_cons e es = ap length (spelling_cons e es) ∙ length-append (record_spelling e) (spelling es)

pub total_append : (es fs : List Entry) → total (es ++ fs) ≡ total es + total fs
total_append es fs = ap length (spelling-append es fs) ∙ length-append (spelling es) (spelling fs)

-- ---- no spelling is shorter than the canonical one

number_least : (bytes : List ℕ) (n : ℕ) → AreBytes bytes → SpellsNumber bytes n → length (shortest n) ≤ length bytes
number_least [] n a h = absurd h
number_least (b ∷ []) n a h = let e = ap length (shortest_last n (omega (arith, h.0, h.1))) in omega (arith, e)
number_least (b ∷ c ∷ bytes) n a h =
    elim (cases_lt n 128) [
      | inl lt ↦ let e = ap length (shortest_last n lt) in omega (arith, e)
      | inr le ↦
          let high : n / 128 ≡ h.1 = omega (arith, h.0, h.2, a.0) in
          let e : length (shortest n) ≡ suc (length (shortest h.1)) = ap length (shortest_more n le) ∙ ap (λ k. suc (length (shortest k))) high in
          omega (arith, e, number_least (c ∷ bytes) h.1 a.1 h.3)
    ]

record_least : (front : List ℕ) (number : ℕ) (content : Content) → AreBytes front → Spells front (record { number = number; content = content }) → length (content_record number content) ≤ length front
unfolding content_record number_record bytes_record
record_least front number (varint n) a h =
    let none : 8 * number + 0 ≡ 8 * number = omega arith in
    let parts = bytes_append h.tag h.behind (subst AreBytes h.joined a) in
    let tag = number_least h.tag (8 * number) parts.0 (subst (SpellsNumber h.tag) none h.is_tag.spells) in
    omega (arith, tag, number_least h.behind n parts.1 h.is_behind.spells, length-append (shortest (8 * number)) (shortest n), ap length h.joined, length-append h.tag h.behind)
record_least front number (fixed64 n) a h =
    let parts = bytes_append h.tag h.behind (subst AreBytes h.joined a) in
    let tag = number_least h.tag (8 * number + 1) parts.0 h.is_tag.spells in
    omega (arith, tag, h.is_behind.0, length-append (shortest (8 * number + 1)) (to_le_bytes w64 n), ap length h.joined, length-append h.tag h.behind)
record_least front number (span inner) a h =
    let parts = bytes_append h.tag h.behind (subst AreBytes h.joined a) in
    let tag = number_least h.tag (8 * number + 2) parts.0 h.is_tag.spells in
    let behind = bytes_append h.is_behind.0 inner (subst AreBytes h.is_behind.2 parts.1) in
    let len = number_least h.is_behind.0 (length inner) behind.0 h.is_behind.1.spells in
    omega (arith, tag, len, length-append (shortest (8 * number + 2)) (shortest (length inner) ++ inner), length-append (shortest (length inner)) inner, ap length h.is_behind.2, length-append h.is_behind.0 inner, ap length h.joined, length-append h.tag h.behind)
record_least front number (fixed32 n) a h =
    let parts = bytes_append h.tag h.behind (subst AreBytes h.joined a) in
    let tag = number_least h.tag (8 * number + 5) parts.0 h.is_tag.spells in
    omega (arith, tag, h.is_behind.0, length-append (shortest (8 * number + 5)) (to_le_bytes w32 n), ap length h.joined, length-append h.tag h.behind)

records_least : (bytes : List ℕ) (es : List Entry) → AreBytes bytes → Records bytes es → total es ≤ length bytes
records_least bytes [] a h = omega (arith, total_nil)
records_least bytes (e ∷ es) a h =
    let parts = bytes_append h.0 h.1 (subst AreBytes h.3 a) in
    omega (arith, record_least h.0 e.number e.content parts.0 h.2, records_least h.1 es parts.1 h.4, total_cons e es, length-append h.0 h.1, ap length h.3)

-- the records of any bytes take no more bytes in their canonical spelling
pub entries_least : (bytes : List ℕ) → AreBytes bytes → total (entries bytes) ≤ length bytes
entries_least bytes a =
    elim (parts_are 0 bytes) [
      | inl r ↦ records_least bytes (entries bytes) a r.records
      | inr r ↦ let parts = bytes_append r.front r.rest (subst AreBytes r.parts a) in omega (arith, records_least r.front (entries bytes) parts.0 r.records, ap length r.parts, length-append r.front r.rest)
    ]

-- ---- what stands in records is bytes

abbrev pub ContentBytes : Content → Type 0
ContentBytes (varint n) = Unit {0}
ContentBytes (fixed64 n) = Unit {0}
ContentBytes (span bytes) = AreBytes bytes
ContentBytes (fixed32 n) = Unit {0}

abbrev pub HaveBytes : List Entry → Type 0
HaveBytes es = AllByRecursion (λ e. ContentBytes e.content) es

content_bytes : (front : List ℕ) (number : ℕ) (content : Content) → AreBytes front → Spells front (record { number = number; content = content }) → ContentBytes content
content_bytes front number (varint n) a h = tt
content_bytes front number (fixed64 n) a h = tt
content_bytes front number (span inner) a h =
    let behind = (bytes_append h.tag h.behind (subst AreBytes h.joined a)).1 in
    (bytes_append h.is_behind.0 inner (subst AreBytes h.is_behind.2 behind)).1
content_bytes front number (fixed32 n) a h = tt

records_bytes : (bytes : List ℕ) (es : List Entry) → AreBytes bytes → Records bytes es → HaveBytes es
records_bytes bytes [] a h = tt
records_bytes bytes (e ∷ es) a h =
    let parts = bytes_append h.0 h.1 (subst AreBytes h.3 a) in
    (content_bytes h.0 e.number e.content parts.0 h.2, records_bytes h.1 es parts.1 h.4)

pub entries_bytes : (bytes : List ℕ) → AreBytes bytes → HaveBytes (entries bytes)
entries_bytes bytes a =
    elim (parts_are 0 bytes) [
      | inl r ↦ records_bytes bytes (entries bytes) a r.records
      | inr r ↦ records_bytes r.front (entries bytes) (bytes_append r.front r.rest (subst AreBytes r.parts a)).0 r.records
    ]

have_append : (es fs : List Entry) → HaveBytes es → HaveBytes fs → HaveBytes (es ++ fs)
have_append [] fs h k = k
have_append (e ∷ es) fs h k = (h.0, have_append es fs h.1 k)

pub spans_bytes : (n : ℕ) (es : List Entry) → HaveBytes es → AllByRecursion AreBytes (spans n es)
spans_bytes n [] h = tt
spans_bytes n (e ∷ es) h = with_one (eqb e.number n) e.content h.0 (spans n es) (spans_bytes n es h.1)
  where
    with_one : (t : Bool) (c : Content) → ContentBytes c → (bs : List (List ℕ)) → AllByRecursion AreBytes bs → AllByRecursion AreBytes (cons_option (cond t (bytes_in c) None) bs)
    with_one false c k bs more = more
    with_one true (varint v) k bs more = more
    with_one true (fixed64 v) k bs more = more
    with_one true (span b) k bs more = (k, more)
    with_one true (fixed32 v) k bs more = more

joined_bytes : (bs : List (List ℕ)) → AllByRecursion AreBytes bs → HaveBytes (flat_map entries bs)
joined_bytes [] h = tt
joined_bytes (b ∷ bs) h = have_append (entries b) (flat_map entries bs) (entries_bytes b h.0) (joined_bytes bs h.1)

pub inside_bytes : (n : ℕ) (es : List Entry) → HaveBytes es → HaveBytes (inside n es)
inside_bytes n es h = joined_bytes (spans n es) (spans_bytes n es h)
