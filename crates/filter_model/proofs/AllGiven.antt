-- A side was given all of its message exactly where all of it was handed out, and all bytes of that were given.
use Rattle.std.proofs.Common.{inl, inr, sym, ◌∙◌, ap, subst, refl, arith, append-nil, append_assoc, length-append, le-leb, leb-true, eqb-true}
use Rattle.std.proofs.lemmas.Bool.{eq-eqb}
use Rattle.std.proofs.lemmas.Grind.{flat_map-append}
use Rattle.std.proofs.lemmas.List.{drop_at, length-take, take-append-drop, take_all}
use Rattle.std.specs.Prelude.{ℕ, ◌≡◌, ◌⊎◌, ◌+◌, ◌<◌, ◌≤◌, ◌==◌, nat_le, min, Bool, true, false, ◌&&◌, ◌||◌, List, [], ◌∷◌, ◌++◌, length, take, drop, Option, Some, None, unwrap_or, bytes_eq, codes, if◌then◌else◌}
use Rattle.ext_msgs.specs.declared.lists.Field.{Field}
use Rattle.http_model.specs.Bytes.{IsPrefix, crlf}
use Rattle.http_model.specs.Wire.{head_bytes, last_bytes, hex, chunk_bytes, field_lines}
use Rattle.http_model.specs.declared.types.Direction.{Direction}
use Rattle.http_model.specs.declared.types.Framing.{Framing}
use Rattle.http_model.specs.declared.types.Framing.TheVariants.{NoField, Length, Chunked}
use Rattle.http_model.specs.declared.types.Out.{Out}
use Rattle.http_model.specs.declared.types.Out.TheVariants as part
use Rattle.http_model.proofs.BodiesGrow.{before_both, onward}
use Rattle.filter_model.specs.Course.{Changed, Outgoing, body_of}
use Rattle.filter_model.specs.Account.{is_all_given, is_given_at}
use Rattle.filter_model.specs.AllGiven.{is_all_handed, is_nothing, is_tail_at, is_tail_handed}
use Rattle.filter_model.specs.Outgoing.{IsWire, InSize, behind_last, body_bytes, end_bytes, is_all}
use Rattle.filter_model.specs.Half.{Past, Taken, MayGive, becomes, course, parts, progress}
use Rattle.filter_model.specs.HalfRight.{IsPast, framing_in, has_trailers, part_behind, part_bytes, written_parts}
use Rattle.filter_model.proofs.Chunks.{behind_body, behind_end}
use Rattle.filter_model.proofs.CourseGrows.{and_first, and_second}
use Rattle.filter_model.proofs.GivenAll.{given_whole, bytes_same}
use Rattle.filter_model.proofs.HalfWritten.{Untouched, Gone, IsGone, PieceNext, PassNext, joined, left_of, next_is, shown_ends, ShownEnds, along, is_first_of_wire}

clash : true ≡ false → ⊥
clash e = cc

-- Bools

same : (a b : Bool) → (a ≡ true → b ≡ true) → (b ≡ true → a ≡ true) → a ≡ b
same true b f g = sym (f refl)
same false true f g = g refl
same false false f g = refl

both : (a b : Bool) → a ≡ true → b ≡ true → (a && b) ≡ true
both true b e f = f
both false b e f = e

any_of : (a b : Bool) → (a || b) ≡ true → (a ≡ true) ⊎ (b ≡ true)
any_of true b e = inl refl
any_of false b e = inr e

left_true : (a b : Bool) → a ≡ true → (a || b) ≡ true
left_true true b e = refl
left_true false b e = absurd (clash (sym e))

right_true : (a b : Bool) → b ≡ true → (a || b) ≡ true
right_true true b e = refl
right_true false b e = e

bytes_itself : (xs : List ℕ) → bytes_eq xs xs ≡ true
bytes_itself [] = refl
bytes_itself (x ∷ xs) = both (x == x) (bytes_eq xs xs) (eq-eqb x x refl) (bytes_itself xs)

-- A head has bytes, and so has the last chunk

some_behind : (xs ys : List ℕ) → 0 < length ys → 0 < length (xs ++ ys)
some_behind xs ys h = let e : length (xs ++ ys) ≡ length xs + length ys = length-append xs ys in omega arith

head_some : (d : Direction) (fields : List Field) (f : Framing) → 0 < length (head_bytes d fields f)
unfolding head_bytes
head_some d fields f = some_behind _ crlf (omega arith)

last_some : (trailers : List Field) → 0 < length (last_bytes trailers)
unfolding last_bytes
last_some trailers = some_behind (codes "0\r\n" ++ field_lines trailers) crlf (omega arith)

-- What was handed out behind the head

abbrev handed_of : {d : Direction} {m : Changed} {t : Taken} {outs : List Out} → Gone d m t outs → List ℕ
handed_of g = body_bytes g.out.framing (g.shown.gone ++ g.shown.cuts) ++ g.tail

abbrev head_of : {d : Direction} {m : Changed} {t : Taken} {outs : List Out} → Gone d m t outs → List ℕ
head_of {d = d} g = head_bytes d g.out.fields g.out.framing

no_tail : (d : Direction) (m : Changed) (t : Taken) (outs : List Out) (g : Gone d m t outs) → end_bytes g.out.framing (unwrap_or m.trailers []) ≡ [] → g.tail ≡ []
no_tail d m t outs g k = by t.trailers t.ended refl refl
  where
    by : (b e : Bool) → t.trailers ≡ b → t.ended ≡ e → g.tail ≡ []
    by true e i j = (g.done (inl i)).last ∙ k
    by false true i j = (g.done (inr j)).last ∙ k
    by false false i j = g.none i j

-- in a framing without chunks those are the body bytes
plain_length : (d : Direction) (m : Changed) (t : Taken) (outs : List Out) (g : Gone d m t outs) → end_bytes g.out.framing (unwrap_or m.trailers []) ≡ []
    → length (joined (g.shown.gone ++ g.shown.cuts) ++ g.tail) ≡ t.body
plain_length d m t outs g k =
    ap (λ l. length (joined (g.shown.gone ++ g.shown.cuts) ++ l)) (no_tail d m t outs g k)
    ∙ ap length (append-nil (joined (g.shown.gone ++ g.shown.cuts)) ∙ flat_map-append (λ p. p) g.shown.gone g.shown.cuts)
    ∙ length-append (joined g.shown.gone) (joined g.shown.cuts) ∙ sym g.shown.body

-- behind chunks alone the last one isn't found
open_chunks : (pieces : List (List ℕ)) → behind_last (InSize 0) (body_bytes Chunked pieces ++ []) ≡ None
open_chunks pieces = behind_body pieces []

-- Read back as all of the message, they are all that has bytes

abbrev IsAll : (d : Direction) (m : Changed) (t : Taken) (outs : List Out) → Gone d m t outs → Framing → Type 0
IsAll d m t outs g f = is_all f (unwrap_or m.trailers []) (length (body_of m)) (body_bytes f (g.shown.gone ++ g.shown.cuts) ++ g.tail) ≡ true

abbrev IsHanded : Changed → Taken → Framing → Type 0
IsHanded m t f = (t.body ≡ length (body_of m)) × (is_tail_handed f t ≡ true)

all_is_handed : (d : Direction) (m : Changed) (t : Taken) (outs : List Out) (g : Gone d m t outs) (f : Framing) → g.out.framing ≡ f → IsAll d m t outs g f → IsHanded m t f
all_is_handed d m t outs g NoField i e =
    (sym (plain_length d m t outs g (ap (λ f. end_bytes f (unwrap_or m.trailers [])) i)) ∙ eqb-true _ (length (body_of m)) e, refl)
all_is_handed d m t outs g (Length n) i e =
    (sym (plain_length d m t outs g (ap (λ f. end_bytes f (unwrap_or m.trailers [])) i)) ∙ eqb-true _ (length (body_of m)) e, refl)
all_is_handed d m t outs g Chunked i e = by t.trailers t.ended refl refl
  where
    end : List ℕ
    end = field_lines (unwrap_or m.trailers []) ++ crlf

    pieces : List (List ℕ)
    pieces = g.shown.gone ++ g.shown.cuts

    unended : g.tail ≡ [] → ⊥
    unended k =
        let none : unwrap_or (behind_last (InSize 0) (body_bytes Chunked pieces ++ g.tail)) [] ≡ [] =
        ap (λ l. unwrap_or (behind_last (InSize 0) (body_bytes Chunked pieces ++ l)) []) k ∙ ap (λ o. unwrap_or o []) (open_chunks pieces) in
        let some : 0 < length end = some_behind (field_lines (unwrap_or m.trailers [])) crlf (omega arith) in
        let z : length end ≡ 0 = ap length (sym (bytes_same (unwrap_or (behind_last (InSize 0) (body_bytes Chunked pieces ++ g.tail)) []) end e) ∙ none) in
        omega arith

    by : (b e : Bool) → t.trailers ≡ b → t.ended ≡ e → IsHanded m t Chunked
    by true e i j = ((g.done (inl i)).body, left_true t.trailers t.ended i)
    by false true i j = ((g.done (inr j)).body, right_true t.trailers t.ended j)
    by false false i j = absurd (unended (g.none i j))

handed_is_all : (d : Direction) (m : Changed) (t : Taken) (outs : List Out) (g : Gone d m t outs) (f : Framing) → g.out.framing ≡ f → IsHanded m t f → IsAll d m t outs g f
handed_is_all d m t outs g NoField i (b, h) = eq-eqb _ (length (body_of m)) (plain_length d m t outs g (ap (λ f. end_bytes f (unwrap_or m.trailers [])) i) ∙ b)
handed_is_all d m t outs g (Length n) i (b, h) = eq-eqb _ (length (body_of m)) (plain_length d m t outs g (ap (λ f. end_bytes f (unwrap_or m.trailers [])) i) ∙ b)
handed_is_all d m t outs g Chunked i (b, h) =
    let trailers : List Field = unwrap_or m.trailers [] in
    let pieces : List (List ℕ) = g.shown.gone ++ g.shown.cuts in
    let last : g.tail ≡ last_bytes trailers = (g.done (any_of t.trailers t.ended h)).last ∙ ap (λ f. end_bytes f trailers) i in
    ap (λ o. bytes_eq (unwrap_or o []) (field_lines trailers ++ crlf))
    (ap (λ l. behind_last (InSize 0) (body_bytes Chunked pieces ++ l)) last ∙ behind_body pieces (last_bytes trailers) ∙ behind_end trailers)
    ∙ bytes_itself (field_lines trailers ++ crlf)

-- What was given, of what was handed out

-- some of these bytes are all of a longer list: so they are all of them, and that list has no more
record AllOf (n : ℕ) (all : List ℕ) : Type 0 where
  few : length all ≤ n
  whole : take n all ≡ all

all_of : (n : ℕ) (all longer : List ℕ) → IsPrefix all longer → take n all ≡ longer → AllOf n all
all_of n all longer p e =
    let a : length (take n all) ≡ min n (length all) = length-take n all in
    let b : length (take n all) ≡ length longer = ap length e in
    let c : length longer ≡ length all + length p.rest = sym (ap length p.whole) ∙ length-append all p.rest in
    let few : length all ≤ n = omega arith in
    record { few = few; whole = take_all n all few }

first_bytes : (n : ℕ) (all : List ℕ) → IsPrefix (take n all) all
first_bytes n all = record { rest = drop n all; whole = take-append-drop n all }

-- the head and what stands behind it
spelled : (d : Direction) (m : Changed) (t : Taken) (outs : List Out) (g : Gone d m t outs) (front : List ℕ)
    → front ++ written_parts d outs ≡ (front ++ head_of g) ++ handed_of g
spelled d m t outs g front = ap (λ l. front ++ l) g.bytes ∙ sym (append_assoc front (head_of g) (handed_of g))

-- behind the head of all of it
behind_all : (d : Direction) (m : Changed) (t : Taken) (outs : List Out) (g : Gone d m t outs) (front given : List ℕ) → given ≡ front ++ written_parts d outs
    → drop (length (front ++ head_of g)) given ≡ handed_of g
behind_all d m t outs g front given e =
    ap (drop (length (front ++ head_of g))) (e ∙ spelled d m t outs g front) ∙ drop_at (front ++ head_of g) (handed_of g) (length (front ++ head_of g)) refl

abbrev test_of : (d : Direction) (m : Changed) (t : Taken) (outs : List Out) → List ℕ → ℕ → Bool
test_of d m t outs front n = is_all_handed m t && nat_le (length (front ++ written_parts d outs)) n

tests : (m : Changed) (t : Taken) (o : Outgoing) → m.head ≡ Some o → m.ended ≡ true → t.head ≡ true → IsHanded m t o.framing → is_all_handed m t ≡ true
tests m t o c e h (b, k) =
    both (m.ended && t.head && (t.body == length (body_of m))) (is_tail_at m.head t)
    (both (m.ended && t.head) (t.body == length (body_of m)) (both m.ended t.head e h) (eq-eqb t.body (length (body_of m)) b))
    (ap (λ x. is_tail_at x t) c ∙ k)

given_is_handed : (d : Direction) (m : Changed) (t : Taken) (outs : List Out) (g : Gone d m t outs) (front wire : List ℕ) (n : ℕ) → IsWire d m wire → IsPrefix (written_parts d outs) wire
    → is_all_given d g.out m front (take n (front ++ written_parts d outs)) ≡ true → test_of d m t outs front n ≡ true
given_is_handed d m t outs g front wire n w p e =
    let all : List ℕ = front ++ written_parts d outs in
    let longer : IsPrefix all (front ++ wire) = before_both front (written_parts d outs) wire p in
    let a : AllOf n all = all_of n all (front ++ wire) longer
    (given_whole d (Some g.out) m front (take n all) wire (sym g.chosen) w (onward (first_bytes n all) longer) e) in
    let ended : m.ended ≡ true = and_first m.ended (nat_le (length (front ++ head_of g)) (length (take n all)))
    (and_first (m.ended && nat_le (length (front ++ head_of g)) (length (take n all))) _ e) in
    let read : IsAll d m t outs g g.out.framing =
    subst (λ l. is_all g.out.framing (unwrap_or m.trailers []) (length (body_of m)) l ≡ true) (behind_all d m t outs g front (take n all) a.whole)
    (and_second (m.ended && nat_le (length (front ++ head_of g)) (length (take n all))) _ e) in
    both (is_all_handed m t) (nat_le (length all) n)
    (tests m t g.out g.chosen ended g.head (all_is_handed d m t outs g g.out.framing refl read)) (le-leb (length all) n a.few)

handed_is_given : (d : Direction) (m : Changed) (t : Taken) (outs : List Out) (g : Gone d m t outs) (front : List ℕ) (n : ℕ)
    → test_of d m t outs front n ≡ true → is_all_given d g.out m front (take n (front ++ written_parts d outs)) ≡ true
handed_is_given d m t outs g front n e =
    let all : List ℕ = front ++ written_parts d outs in
    let handed : is_all_handed m t ≡ true = and_first (is_all_handed m t) (nat_le (length all) n) e in
    let most : (m.ended && t.head && (t.body == length (body_of m))) ≡ true = and_first (m.ended && t.head && (t.body == length (body_of m))) (is_tail_at m.head t) handed in
    let tail : is_tail_handed g.out.framing t ≡ true = ap (λ o. is_tail_at o t) (sym g.chosen) ∙ and_second (m.ended && t.head && (t.body == length (body_of m))) (is_tail_at m.head t) handed in
    let body : t.body ≡ length (body_of m) = eqb-true t.body (length (body_of m)) (and_second (m.ended && t.head) (t.body == length (body_of m)) most) in
    let ended : m.ended ≡ true = and_first m.ended t.head (and_first (m.ended && t.head) (t.body == length (body_of m)) most) in
    let whole : take n all ≡ all = take_all n all (leb-true (length all) n (and_second (is_all_handed m t) (nat_le (length all) n) e)) in
    let a : length (take n all) ≡ length (front ++ head_of g) + length (handed_of g) =
    ap length (whole ∙ spelled d m t outs g front) ∙ length-append (front ++ head_of g) (handed_of g) in
    both (m.ended && nat_le (length (front ++ head_of g)) (length (take n all))) _
    (both m.ended (nat_le (length (front ++ head_of g)) (length (take n all))) ended (le-leb (length (front ++ head_of g)) (length (take n all)) (omega arith)))
    (subst (λ l. is_all g.out.framing (unwrap_or m.trailers []) (length (body_of m)) l ≡ true) (sym (behind_all d m t outs g front (take n all) whole))
    (handed_is_all d m t outs g g.out.framing refl (body, tail)))

-- Before the head nothing is all

head_handed : (m : Changed) (t : Taken) (b : Bool) → (is_all_handed m t && b) ≡ true → t.head ≡ true
head_handed m t b e =
    and_second m.ended t.head (and_first (m.ended && t.head) (t.body == length (body_of m))
    (and_first (m.ended && t.head && (t.body == length (body_of m))) (is_tail_at m.head t) (and_first (is_all_handed m t) b e)))

untouched_given : (d : Direction) (m : Changed) (t : Taken) (outs : List Out) (o : Outgoing) (front : List ℕ) (n : ℕ) → Untouched t outs → written_parts d outs ≡ []
    → is_all_given d o m front (take n (front ++ written_parts d outs)) ≡ test_of d m t outs front n
untouched_given d m t outs o front n u w = same _ _
    (λ e. absurd (short (leb-true _ _ (and_second m.ended _ (and_first (m.ended && nat_le (length (front ++ head_bytes d o.fields o.framing)) (length (take n all))) _ e)))))
    (λ e. absurd (clash (sym (head_handed m t (nat_le (length all) n) e) ∙ u.head)))
  where
    all : List ℕ
    all = front ++ written_parts d outs

    short : length (front ++ head_bytes d o.fields o.framing) ≤ length (take n all) → ⊥
    short h =
        let a : length (front ++ head_bytes d o.fields o.framing) ≡ length front + length (head_bytes d o.fields o.framing) = length-append front (head_bytes d o.fields o.framing) in
        let b : length (take n all) ≡ min n (length all) = length-take n all in
        let c : length all ≡ length front = ap length (ap (λ l. front ++ l) w ∙ append-nil front) in
        let i : 0 < length (head_bytes d o.fields o.framing) = head_some d o.fields o.framing in
        omega arith

chosen_given : (d : Direction) (m : Changed) (t : Taken) (outs : List Out) (o : Outgoing) (front wire : List ℕ) (n : ℕ) → m.head ≡ Some o → IsWire d m wire → IsPrefix (written_parts d outs) wire
    → IsGone d m t outs → is_all_given d o m front (take n (front ++ written_parts d outs)) ≡ test_of d m t outs front n
chosen_given d m t outs o front wire n h w p (inl (u, e)) = untouched_given d m t outs o front n u e
chosen_given d m t outs o front wire n h w p (inr g) =
    subst (λ x. is_all_given d x m front (take n (front ++ written_parts d outs)) ≡ test_of d m t outs front n) (alike g.out o (sym g.chosen ∙ h))
    (same _ _ (given_is_handed d m t outs g front wire n w p) (handed_is_given d m t outs g front n))
  where
    alike : (x y : Outgoing) → Some x ≡ Some y → x ≡ y
    alike x y e = cc

pub all_given : (p : Past) → IsPast p → (front : List ℕ) (n : ℕ)
    → is_given_at p.direction (becomes p).head (becomes p) front (take n (front ++ written_parts p.direction (parts p.steps)))
    ≡ (is_all_handed (becomes p) (progress p).taken && nat_le (length (front ++ written_parts p.direction (parts p.steps))) n)
all_given p y front n = by (becomes p).head refl
  where
    by : (o : Option Outgoing) → (becomes p).head ≡ o → is_given_at p.direction o (becomes p) front (take n (front ++ written_parts p.direction (parts p.steps)))
        ≡ test_of p.direction (becomes p) (progress p).taken (parts p.steps) front n
    by None e = same _ _ (λ z. absurd (clash (sym z)))
        (λ z. absurd (clash (sym (and_second _ (is_tail_at (becomes p).head (progress p).taken) (and_first (is_all_handed (becomes p) (progress p).taken) _ z))
        ∙ ap (λ o. is_tail_at o (progress p).taken) e)))
    by (Some o) e =
        let w = is_first_of_wire p y in
        chosen_given p.direction (becomes p) (progress p).taken (parts p.steps) o front w.0 n e w.1 w.2 (along p.config p.direction p.modes p.steps y).1

-- What goes out before all of it did has bytes

chunk_some : (piece : List ℕ) → 0 < length (chunk_bytes piece ++ [])
unfolding chunk_bytes
chunk_some piece =
    let chunk : List ℕ = hex (length piece) ++ crlf ++ piece ++ crlf in
    let e : length (chunk ++ []) ≡ length chunk = ap length (append-nil chunk) in
    let i : 0 < length chunk = some_behind (hex (length piece) ++ crlf ++ piece) crlf (omega arith) in
    omega arith

body_some : (f : Framing) (b : List ℕ) → 0 < length b → 0 < length (body_bytes f (b ∷ []))
body_some f [] h = absurd (omega arith)
body_some NoField (x ∷ b) h = omega arith
body_some (Length n) (x ∷ b) h = omega arith
body_some Chunked (x ∷ b) h = chunk_some (x ∷ b)

-- unless all that has bytes was handed out, the last chunk has
end_some : (f : Framing) (trailers : List Field) → (is_plain : (end_bytes f [] ≡ []) → ⊥) → 0 < length (end_bytes f trailers)
end_some NoField trailers k = absurd (k refl)
end_some (Length n) trailers k = absurd (k refl)
end_some Chunked trailers k = last_some trailers

plain_handed : (f : Framing) (t : Taken) → end_bytes f [] ≡ [] → is_tail_handed f t ≡ true
plain_handed NoField t e = refl
plain_handed (Length n) t e = refl
plain_handed Chunked t e = let h = last_some [] in absurd (omega (arith, h, ap length e))

abbrev bytes_in : Direction → List Out → Out → List ℕ
bytes_in d outs out = part_bytes d (framing_in outs) (has_trailers outs) out

gone_more : (d : Direction) (m : Changed) (t : Taken) (outs : List Out) (max : ℕ) (out : Out) → ShownEnds m → (g : Gone d m t outs) → MayGive max m t out
    → is_nothing out ≡ false → (is_all_handed m t ≡ true → ⊥) → 0 < length (part_behind g.out.framing t.trailers out)
gone_more d m t outs max (part.Head fields framing) y g k s n = absurd (clash (sym g.head ∙ k.0))
gone_more d m t outs max (part.Data b) y g k s n = body_some g.out.framing b (some (next_is m t g.shown max b k.1))
  where
    some : (PieceNext g.shown.left b × (g.shown.cuts ≡ [])) ⊎ PassNext g.shown.left g.shown.rest max b → 0 < length b
    some (inl (i, e)) = i.some
    some (inr i) = i.some
gone_more d m t outs max (part.Trailers fields) y g k s n =
    end_some g.out.framing fields
    (λ e. n (tests m t g.out g.chosen (y fields (left_of m t.trailers fields k.1).1) g.head (k.0.body, plain_handed g.out.framing t e)))
gone_more d m t outs max part.End y g k s n = by t.trailers refl
  where
    tail_by : (f : Framing) → t.trailers ≡ true → is_tail_handed f t ≡ true
    tail_by NoField e = refl
    tail_by (Length i) e = refl
    tail_by Chunked e = left_true t.trailers t.ended e

    by : (b : Bool) → t.trailers ≡ b → 0 < length (if b then [] else end_bytes g.out.framing [])
    by true e = absurd (n (tests m t g.out g.chosen k.3 g.head (k.0.body, tail_by g.out.framing e)))
    by false e = end_some g.out.framing [] (λ z. n (tests m t g.out g.chosen k.3 g.head (k.0.body, plain_handed g.out.framing t z)))
gone_more d m t outs max part.Nothing y g k s n = absurd (clash s)

untouched_more : (d : Direction) (m : Changed) (t : Taken) (outs : List Out) (max : ℕ) (out : Out) → Untouched t outs → MayGive max m t out → is_nothing out ≡ false → 0 < length (part_bytes d None (has_trailers outs) out)
untouched_more d m t outs max (part.Head fields framing) u k s = head_some d fields framing
untouched_more d m t outs max (part.Data b) u k s = absurd (clash (sym k.0 ∙ u.head))
untouched_more d m t outs max (part.Trailers fields) u k s = absurd (clash (sym k.0.head ∙ u.head))
untouched_more d m t outs max part.End u k s = absurd (clash (sym k.0.head ∙ u.head))
untouched_more d m t outs max part.Nothing u k s = absurd (clash s)

pub more_bytes : (p : Past) → IsPast p → (max : ℕ) (out : Out) → MayGive max (becomes p) (progress p).taken out → is_nothing out ≡ false
    → is_all_handed (becomes p) (progress p).taken ≡ false → 0 < length (part_bytes p.direction (framing_in (parts p.steps)) (has_trailers (parts p.steps)) out)
more_bytes p y max out k s n = by (along p.config p.direction p.modes p.steps y).1
  where
    by : IsGone p.direction (becomes p) (progress p).taken (parts p.steps) → 0 < length (bytes_in p.direction (parts p.steps) out)
    by (inl (u, e)) =
        subst (λ o. 0 < length (part_bytes p.direction o (has_trailers (parts p.steps)) out)) (sym u.framing)
        (untouched_more p.direction (becomes p) (progress p).taken (parts p.steps) max out u k s)
    by (inr g) =
        subst (λ o. 0 < length (part_bytes p.direction o (has_trailers (parts p.steps)) out)) (sym g.framing)
        (subst (λ b. 0 < length (part_behind g.out.framing b out)) (sym g.trailers)
        (gone_more p.direction (becomes p) (progress p).taken (parts p.steps) max out (shown_ends p.config p.direction (course p)) g k s (λ e. clash (sym e ∙ n))))

-- before the head
pub no_framing : (p : Past) → IsPast p → (progress p).taken.head ≡ false → framing_in (parts p.steps) ≡ None
no_framing p y e = by (along p.config p.direction p.modes p.steps y).1
  where
    by : IsGone p.direction (becomes p) (progress p).taken (parts p.steps) → framing_in (parts p.steps) ≡ None
    by (inl (u, w)) = u.framing
    by (inr g) = absurd (clash (sym g.head ∙ e))
