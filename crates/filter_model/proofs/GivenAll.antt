-- What was given whole is all that may go out; and of all that may go out every body byte is counted.
use Rattle.std.proofs.Common.{sym, ◌∙◌, ap, append_assoc, append-nil, refl, arith, length-append, leb-true, eqb-true}
use Rattle.std.proofs.lemmas.List.{drop-append-le, drop_at}
use Rattle.std.proofs.lemmas.Grind.{flat_map-append}
use Rattle.std.specs.Prelude.{ℕ, ◌≡◌, ◌+◌, ◌<◌, ◌≤◌, Bool, true, false, ◌&&◌, List, [], ◌∷◌, ◌++◌, length, drop, Option, Some, None, unwrap_or, flat_map, ◌==◌, nat_le, bytes_eq, if◌then◌else◌}
use Rattle.ext_msgs.specs.declared.lists.Field.{Field}
use Rattle.http_model.specs.Bytes.{IsPrefix, crlf}
use Rattle.http_model.specs.Wire.{head_bytes, field_lines}
use Rattle.http_model.specs.declared.types.Direction.{Direction}
use Rattle.http_model.specs.declared.types.Framing.{Framing}
use Rattle.http_model.specs.declared.types.Framing.TheVariants.{NoField, Length, Chunked}
use Rattle.filter_model.specs.Course.{Changed, Outgoing, body_of}
use Rattle.filter_model.specs.Outgoing.{IsWire, InSize, body_bytes, end_bytes, written_at, written_behind, carried, is_all, behind_last}
use Rattle.filter_model.specs.Account.{given_count, is_all_given, is_given_at}
use Rattle.filter_model.proofs.Chunks.{body_counted, last_counted, behind_body, behind_end, behind_more}
use Rattle.filter_model.proofs.CourseGrows.{and_first, and_second}

-- Lists

empty_by : {A : Type 0} (xs : List A) → length xs ≡ 0 → xs ≡ []
empty_by [] e = refl
empty_by (x ∷ xs) e = absurd (omega (arith, e))

no_rest : {A : Type 0} (xs rest : List A) (n : ℕ) → length xs ≡ n → length (xs ++ rest) ≡ n → rest ≡ []
no_rest xs rest n e f = empty_by rest (omega (arith, e, f, length-append xs rest))

-- The body of a wire

abbrev BodyOf : Changed → List (List ℕ) → Type 0
BodyOf m cuts = flat_map (λ p. p) cuts ≡ m.passing

joined_body : (m : Changed) (cuts : List (List ℕ)) → BodyOf m cuts → flat_map (λ p. p) (m.pieces ++ cuts) ≡ body_of m
joined_body m cuts w = flat_map-append (λ p. p) m.pieces cuts ∙ ap (λ l. flat_map (λ p. p) m.pieces ++ l) w

plus_none : (n : ℕ) → n + 0 ≡ n
plus_none n = omega arith

-- behind the head of a wire each body byte counts, and nothing else
pub counted_all : (f : Framing) (m : Changed) (cuts : List (List ℕ)) → BodyOf m cuts → carried f (written_behind f m cuts) ≡ length (body_of m)
counted_all NoField m cuts w = ap length (if_none m.ended (flat_map (λ p. p) (m.pieces ++ cuts)) ∙ joined_body m cuts w)
  where
    if_none : (b : Bool) (xs : List ℕ) → xs ++ (if b then [] else []) ≡ xs
    if_none true xs = append-nil xs
    if_none false xs = append-nil xs
counted_all (Length n) m cuts w = ap length (if_none m.ended (flat_map (λ p. p) (m.pieces ++ cuts)) ∙ joined_body m cuts w)
  where
    if_none : (b : Bool) (xs : List ℕ) → xs ++ (if b then [] else []) ≡ xs
    if_none true xs = append-nil xs
    if_none false xs = append-nil xs
counted_all Chunked m cuts w = by m.ended
  where
    count : (more : List ℕ) → carried Chunked more ≡ 0 → carried Chunked (body_bytes Chunked (m.pieces ++ cuts) ++ more) ≡ length (body_of m)
    count more e =
        body_counted (m.pieces ++ cuts) more ∙ ap (λ n. length (flat_map (λ p. p) (m.pieces ++ cuts)) + n) e
        ∙ plus_none (length (flat_map (λ p. p) (m.pieces ++ cuts))) ∙ ap length (joined_body m cuts w)

    by : (b : Bool) → carried Chunked (body_bytes Chunked (m.pieces ++ cuts) ++ (if b then end_bytes Chunked (unwrap_or m.trailers []) else [])) ≡ length (body_of m)
    by true = count (end_bytes Chunked (unwrap_or m.trailers [])) (last_counted (unwrap_or m.trailers []))
    by false = count [] refl

-- What was given whole

some_is : (o : Option (List ℕ)) (l : List ℕ) → 0 < length l → unwrap_or o [] ≡ l → o ≡ Some l
some_is None l h e = absurd (omega (arith, h, ap length (sym e)))
some_is (Some k) l h e = ap Some e

some_same : (x y : List ℕ) → Some x ≡ Some y → x ≡ y
some_same x y e = ap (λ o. unwrap_or o x) e

-- the chunks read back: nothing follows the trailers
chunks_end : (m : Changed) (cuts : List (List ℕ)) (given rest : List ℕ) (t : List Field)
    → given ++ rest ≡ body_bytes Chunked (m.pieces ++ cuts) ++ end_bytes Chunked t
    → unwrap_or (behind_last (InSize 0) given) [] ≡ field_lines t ++ crlf → rest ≡ []
chunks_end m cuts given rest t e f =
    let end : List ℕ = field_lines t ++ crlf in
    let here : behind_last (InSize 0) given ≡ Some end = some_is (behind_last (InSize 0) given) end (omega (arith, length-append (field_lines t) crlf)) f in
    let later : behind_last (InSize 0) (given ++ rest) ≡ Some (end ++ rest) = behind_more (InSize 0) given rest end here in
    let whole : behind_last (InSize 0) (given ++ rest) ≡ Some end =
    ap (behind_last (InSize 0)) e ∙ behind_body (m.pieces ++ cuts) (end_bytes Chunked t) ∙ behind_end t in
    no_rest end rest (length end) refl (ap length (some_same (end ++ rest) end (sym later ∙ whole)))

body_end : (m : Changed) (cuts : List (List ℕ)) (given rest : List ℕ) → BodyOf m cuts → given ++ rest ≡ flat_map (λ p. p) (m.pieces ++ cuts) ++ []
    → (length given == length (body_of m)) ≡ true → rest ≡ []
body_end m cuts given rest w e f =
    no_rest given rest (length (body_of m)) (eqb-true (length given) (length (body_of m)) f)
    (ap length (e ∙ append-nil (flat_map (λ p. p) (m.pieces ++ cuts)) ∙ joined_body m cuts w))

pub bytes_same : (xs ys : List ℕ) → bytes_eq xs ys ≡ true → xs ≡ ys
bytes_same [] [] e = refl
bytes_same [] (y ∷ ys) e = absurd cc
bytes_same (x ∷ xs) [] e = absurd cc
bytes_same (x ∷ xs) (y ∷ ys) e =
    ap (λ n. n ∷ xs) (eqb-true x y (and_first (x == y) (bytes_eq xs ys) e)) ∙ ap (λ l. y ∷ l) (bytes_same xs ys (and_second (x == y) (bytes_eq xs ys) e))

all_behind : (f : Framing) (m : Changed) (cuts : List (List ℕ)) (given rest : List ℕ) → BodyOf m cuts
    → given ++ rest ≡ body_bytes f (m.pieces ++ cuts) ++ end_bytes f (unwrap_or m.trailers [])
    → is_all f (unwrap_or m.trailers []) (length (body_of m)) given ≡ true → rest ≡ []
all_behind NoField m cuts given rest w e g = body_end m cuts given rest w e g
all_behind (Length n) m cuts given rest w e g = body_end m cuts given rest w e g
all_behind Chunked m cuts given rest w e g =
    chunks_end m cuts given rest (unwrap_or m.trailers []) e (bytes_same (unwrap_or (behind_last (InSize 0) given) []) (field_lines (unwrap_or m.trailers []) ++ crlf) g)

-- the bytes behind what was skipped
drop_front : (xs ys zs : List ℕ) (n : ℕ) → length xs ≡ n → n ≤ length ys → (rest : List ℕ) → ys ++ rest ≡ xs ++ zs → drop n ys ++ rest ≡ zs
drop_front xs ys zs n e h rest f = sym (drop-append-le n ys rest h) ∙ ap (drop n) f ∙ drop_at xs zs n e

ended_wire : (f : Framing) (m : Changed) (cuts : List (List ℕ)) → m.ended ≡ true → written_behind f m cuts ≡ body_bytes f (m.pieces ++ cuts) ++ end_bytes f (unwrap_or m.trailers [])
ended_wire f m cuts e = ap (λ b. body_bytes f (m.pieces ++ cuts) ++ (if b then end_bytes f (unwrap_or m.trailers []) else [])) e

given_with : (d : Direction) (head : Outgoing) (m : Changed) (front given wire rest : List ℕ) (cuts : List (List ℕ)) → BodyOf m cuts
    → wire ≡ head_bytes d head.fields head.framing ++ written_behind head.framing m cuts
    → given ++ rest ≡ front ++ wire → is_all_given d head m front given ≡ true → given ≡ front ++ wire
given_with d head m front given wire rest cuts w s e g =
    let first : List ℕ = front ++ head_bytes d head.fields head.framing in
    let tests : (m.ended && nat_le (length first) (length given)) ≡ true = and_first (m.ended && nat_le (length first) (length given)) _ g in
    let long : length first ≤ length given = leb-true (length first) (length given) (and_second m.ended (nat_le (length first) (length given)) tests) in
    let all : given ++ rest ≡ first ++ written_behind head.framing m cuts =
    e ∙ ap (λ l. front ++ l) s ∙ sym (append_assoc front (head_bytes d head.fields head.framing) (written_behind head.framing m cuts)) in
    let behind : drop (length first) given ++ rest ≡ body_bytes head.framing (m.pieces ++ cuts) ++ end_bytes head.framing (unwrap_or m.trailers []) =
    drop_front first given (written_behind head.framing m cuts) (length first) refl long rest all ∙ ended_wire head.framing m cuts (and_first m.ended _ tests) in
    let none : rest ≡ [] = all_behind head.framing m cuts (drop (length first) given) rest w behind
    (and_second (m.ended && nat_le (length first) (length given)) _ g) in
    sym (append-nil given) ∙ ap (λ l. given ++ l) (sym none) ∙ e

-- what was given whole is a wire of the message
pub given_whole : (d : Direction) (o : Option Outgoing) (m : Changed) (front given wire : List ℕ) → o ≡ m.head → IsWire d m wire
    → IsPrefix given (front ++ wire) → is_given_at d o m front given ≡ true → given ≡ front ++ wire
given_whole d None m front given wire i w p g = absurd cc
given_whole d (Some head) m front given wire i w p g =
    given_with d head m front given wire p.rest w.cuts w.whole (w.spelled ∙ ap (λ o. written_at d o m w.cuts) (sym i)) p.whole g

-- of all that may go out every body byte is counted
pub all_counted : (d : Direction) (o : Option Outgoing) (m : Changed) (front wire : List ℕ) → o ≡ m.head → (m.head ≡ None → body_of m ≡ []) → IsWire d m wire
    → given_count d o front (front ++ wire) ≡ length (body_of m)
all_counted d None m front wire i n w = ap length (sym (n (sym i)))
all_counted d (Some head) m front wire i n w =
    let first : List ℕ = front ++ head_bytes d head.fields head.framing in
    let wire_is : wire ≡ head_bytes d head.fields head.framing ++ written_behind head.framing m w.cuts = w.spelled ∙ ap (λ o. written_at d o m w.cuts) (sym i) in
    ap (λ l. carried head.framing (drop (length first) l))
    (ap (λ l. front ++ l) wire_is ∙ sym (append_assoc front (head_bytes d head.fields head.framing) (written_behind head.framing m w.cuts)))
    ∙ ap (carried head.framing) (drop_at first (written_behind head.framing m w.cuts) (length first) refl)
    ∙ counted_all head.framing m w.cuts w.whole
