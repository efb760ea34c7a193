-- The ask that a half hands out is the next of those made.
use Rattle.std.proofs.Common.{refl, sym, ◌∙◌, ap, arith, length-drop}
use Rattle.std.proofs.lemmas.List.{drop_all, length-map, length-take}
use Rattle.std.specs.Prelude.{ℕ, suc, zero, ◌≡◌, ◌+◌, ◌-◌, ◌<◌, ◌≤◌, min, Bool, List, ◌∷◌, Some, None, [], length, take, drop, map, filter, Option, option_map, unwrap_or, slice_get, slice_index_or}
use Rattle.ext_msgs.specs.declared.ask.Ask.{Ask}
use Rattle.ext_msgs.specs.declared.lists.Field.{Field}
use Rattle.http_model.specs.Heads.{is_bodiless}
use Rattle.http_model.specs.declared.types.Length.{Length}
use Rattle.filter_model.specs.Answers.{ask_of}
use Rattle.filter_model.specs.Course.{AskedPart, Headers, Body, Trailers, bytes_in, is_body, out}
use Rattle.filter_model.specs.Half.{Past, Asked, after_step, progress, course, next_handed, half_rules}
use Rattle.half_machine.specs.Marks.{mark_of, is_of_body}
use Rattle.half_machine.specs.Stands.{AreKept, Ties, StandsFor, answered_first}
use Rattle.half_machine.specs.Handing.{part_from, part_at, IsThere}
use Rattle.half_machine.specs.declared.marks.Mark.{Mark}
use Rattle.half_machine.specs.declared.marks.Mark.TheVariants as mark
use Rattle.half_machine.specs.declared.half.Half.{Half}

-- Elements by their places

get_drop : {A : Type 0} (xs : List A) (n i : ℕ) → slice_get (drop n xs) i ≡ slice_get xs (n + i)
get_drop xs zero i = ap (slice_get xs) (omega arith)
get_drop [] (suc n) i = refl
get_drop (x ∷ xs) (suc n) i = get_drop xs n i ∙ ap (slice_get (x ∷ xs)) (more n i)
  where
    more : (n i : ℕ) → suc (n + i) ≡ suc n + i
    more n i = omega arith

get_index : {A : Type 0} (xs : List A) (i : ℕ) (d : A) → i < length xs → slice_get xs i ≡ Some (slice_index_or xs i d)
get_index [] i d h = absurd (omega arith)
get_index (x ∷ xs) zero d h = refl
get_index (x ∷ xs) (suc i) d h = get_index xs i d (omega arith)

-- The part

later : (h : Option (List Field)) (n : Length) (t : List Field) (b : List ℕ) (lent : List (List ℕ)) (m : Mark) (k : ℕ) → part_from h n t lent m k ≡ part_from h n t (b ∷ lent) m (suc k)
later h n t b lent mark.Headers k = refl
later h n t b lent (mark.Body last) k = refl
later h n t b lent mark.Trailers k = refl

pub part_is : (h : Option (List Field)) (n : Length) (t : List Field) (asks : List AskedPart) (i : ℕ) (m : Mark) → AreKept h n t asks → slice_get (map mark_of asks) i ≡ Some m
    → slice_get asks i ≡ Some (part_from h n t (map bytes_in (filter is_body asks)) m (length (filter is_body (take i asks))))
part_is h n t [] i m k e = absurd cc
part_is h n t (Headers f l ∷ asks) zero m k e =
    ap (λ z. Some (Headers f z)) k.0.1
    ∙ ap (λ o. Some (Headers (unwrap_or o []) (is_bodiless n))) (sym k.0.0)
    ∙ ap (λ o. option_map (λ m. part_from h n t (map bytes_in (filter is_body asks)) m 0) o) e
part_is h n t (Body b l ∷ asks) zero m k e = ap (λ o. option_map (λ m. part_from h n t (b ∷ map bytes_in (filter is_body asks)) m 0) o) e
part_is h n t (Trailers f ∷ asks) zero m k e =
    ap (λ z. Some (Trailers z)) (sym k.0) ∙ ap (λ o. option_map (λ m. part_from h n t (map bytes_in (filter is_body asks)) m 0) o) e
part_is h n t (Headers f l ∷ asks) (suc i) m k e = part_is h n t asks i m k.1 e
part_is h n t (Body b l ∷ asks) (suc i) m k e =
    part_is h n t asks i m k.1 e ∙ ap Some (later h n t b (map bytes_in (filter is_body asks)) m (length (filter is_body (take i asks))))
part_is h n t (Trailers f ∷ asks) (suc i) m k e = part_is h n t asks i m k.1 e

there_is : (asks : List AskedPart) (i : ℕ) (last : Bool) → slice_get (map mark_of asks) i ≡ Some (mark.Body last)
    → length (filter is_body (take i asks)) < length (map bytes_in (filter is_body asks))
there_is [] i last e = absurd cc
there_is (Headers f l ∷ asks) zero last e = absurd cc
there_is (Body b l ∷ asks) zero last e = omega arith
there_is (Trailers f ∷ asks) zero last e = absurd cc
there_is (Headers f l ∷ asks) (suc i) last e = there_is asks i last e
there_is (Body b l ∷ asks) (suc i) last e = let k = there_is asks i last e in omega arith
there_is (Trailers f ∷ asks) (suc i) last e = there_is asks i last e

count_is : (asks : List AskedPart) (i : ℕ) → length (filter is_of_body (take i (map mark_of asks))) ≡ length (filter is_body (take i asks))
count_is asks zero = refl
count_is [] (suc i) = refl
count_is (Headers f l ∷ asks) (suc i) = count_is asks i
count_is (Body b l ∷ asks) (suc i) = ap suc (count_is asks i)
count_is (Trailers f ∷ asks) (suc i) = count_is asks i

-- Where none waits that was answered, all answered ones were handed out
answered_handed : (p : Past) (x : Half) → StandsFor p x → x.ready ≡ [] → length (course p).answers ≤ (progress p).handed
answered_handed p x s r =
    let l : List AskedPart = take (length (course p).answers) (course p).asks in
    let a : length (drop (progress p).handed l) ≡ 0 = sym (length-map (drop (progress p).handed l) (ask_of p.direction)) ∙ ap length (sym s.ties.ready ∙ r) in
    let b : length (drop (progress p).handed l) ≡ length l - (progress p).handed = length-drop (progress p).handed l in
    let k : length l ≡ min (length (course p).answers) (length (course p).asks) = length-take (length (course p).answers) (course p).asks in
    let n = s.ties.sound.counts in
    omega arith

pub unhanded_out : (p : Past) (x : Half) → StandsFor p x → x.ready ≡ [] → x.asked.unhanded ≤ length x.marks
unhanded_out p x s r =
    let a = s.ties.asked.unhanded in
    let b = answered_handed p x s r in
    let l : length x.marks ≡ length (course p).asks - length (course p).answers =
    ap length s.ties.marks ∙ length-map (out (course p)) mark_of ∙ length-drop (length (course p).answers) (course p).asks in
    omega arith

-- The ask at a place among those that are out

pub record Handing (p : Past) (x : Half) (i k : ℕ) (m : Mark) : Type 0 where
  pub within : i < length x.marks
  pub there : IsThere x m k
  pub next : next_handed p ≡ Some (ask_of x.direction (part_at x m k))

pub handing : (p : Past) (x : Half) (i k : ℕ) (m : Mark) → StandsFor p x → x.ready ≡ [] → 0 < x.asked.unhanded → i ≡ length x.marks - x.asked.unhanded → m ≡ slice_index_or x.marks i m
    → k ≡ length (filter is_of_body (take i x.marks)) → Handing p x i k m
handing p x i k m s r u e f g = record {
  within = within;
  there = there m marked;
  next =
      ap (λ n. option_map (ask_of p.direction) (slice_get (course p).asks n)) place
      ∙ ap (option_map (ask_of p.direction)) (sym (get_drop (course p).asks (length (course p).answers) i) ∙ found)
      ∙ ap (λ d. Some (ask_of d (part_at x m k))) s.made.direction;
}
  where
    count : length x.marks ≡ length (course p).asks - length (course p).answers
    count = ap length s.ties.marks ∙ length-map (out (course p)) mark_of ∙ length-drop (length (course p).answers) (course p).asks

    within : i < length x.marks
    within =
        let a = s.ties.asked.unhanded in
        let b = answered_handed p x s r in
        let l = count in
        omega arith

    place : (progress p).handed ≡ length (course p).answers + i
    place =
        let a = s.ties.asked.unhanded in
        let b = answered_handed p x s r in
        let n = s.ties.sound.counts in
        let l = count in
        omega arith

    marked : slice_get (map mark_of (out (course p))) i ≡ Some m
    marked = ap (λ l. slice_get l i) (sym s.ties.marks) ∙ get_index x.marks i m within ∙ ap Some (sym f)

    before : k ≡ length (filter is_body (take i (out (course p))))
    before = g ∙ ap (λ l. length (filter is_of_body (take i l))) s.ties.marks ∙ count_is (out (course p)) i

    found : slice_get (out (course p)) i ≡ Some (part_at x m k)
    found =
        part_is x.head x.arrived.framed x.trailers (out (course p)) i m s.ties.parts marked
        ∙ ap (λ l. Some (part_from x.head x.arrived.framed x.trailers l m (length (filter is_body (take i (out (course p))))))) (sym s.ties.hold.lent)
        ∙ ap (λ n. Some (part_at x m n)) (sym before)

    there : (m : Mark) → slice_get (map mark_of (out (course p))) i ≡ Some m → IsThere x m k
    there mark.Headers e = tt
    there (mark.Body last) e =
        let a : length (filter is_body (take i (out (course p)))) < length (map bytes_in (filter is_body (out (course p)))) = there_is (out (course p)) i last e in
        let b : length x.hold.lent ≡ length (map bytes_in (filter is_body (out (course p)))) = ap length s.ties.hold.lent in
        let c = before in
        omega arith
    there mark.Trailers e = tt

pub none_unhanded : (p : Past) (x : Half) → StandsFor p x → x.asked.unhanded ≡ 0 → None ≡ next_handed p
none_unhanded p x s u =
    let a = s.ties.asked.unhanded in
    let past : length (course p).asks ≤ (progress p).handed = omega arith in
    ap (option_map (ask_of p.direction)) (sym (get_past (course p).asks (progress p).handed past))
  where
    get_past : {A : Type 0} (xs : List A) (i : ℕ) → length xs ≤ i → slice_get xs i ≡ None
    get_past [] i h = refl
    get_past (x ∷ xs) zero h = absurd (omega arith)
    get_past (x ∷ xs) (suc i) h = get_past xs i (omega arith)

-- One ask more was handed out

handed_ties : (p : Past) (x : Half) (y : List Ask) → StandsFor p x → 0 < x.asked.unhanded → (progress p).handed < length (course p).asks → (course p).sent ≤ (progress p).handed
    → y ≡ answered_first p.direction (course p) (suc (progress p).handed)
    → StandsFor (after_step Asked p) (record x { asked = record x.asked { unhanded = x.asked.unhanded - 1 }; ready = y })
unfolding half_rules
handed_ties p x y s u l o r =
    let t : Ties p.config p.direction (progress p) x = s.ties in
    let i = t.asked.unhanded in
    record {
      made = s.made;
      ties = record {
        arrived = t.arrived;
        rule = t.rule;
        asked = record { any = t.asked.any; body = t.asked.body; last = t.asked.last; trailers = t.asked.trailers; unsent = t.asked.unsent; unhanded = omega arith; order = omega arith };
        ready = r;
        body_asks = t.body_asks;
        counts = t.counts;
        gone = record { framing = t.gone.framing; head = t.gone.head; trailers = t.gone.trailers; ended = t.gone.ended; early = t.gone.early };
        hold = t.hold;
        room = t.room;
        pieces = t.pieces;
        pieces_fit = t.pieces_fit;
        pieces_room = t.pieces_room;
        marks = t.marks;
        head = t.head;
        fields = t.fields;
        trailers = t.trailers;
        parts = t.parts;
        few = t.few;
        sound = t.sound;
      };
    }

-- of those that are out
pub handed_stands : (p : Past) (x : Half) (y : List Ask) → StandsFor p x → x.ready ≡ [] → y ≡ [] → 0 < x.asked.unhanded
    → StandsFor (after_step Asked p) (record x { asked = record x.asked { unhanded = x.asked.unhanded - 1 }; ready = y })
handed_stands p x y s r e u =
    let i = s.ties.asked.unhanded in
    handed_ties p x y s u (omega arith) s.ties.asked.order (e ∙ ap (map (ask_of p.direction)) (sym (drop_all (suc (progress p).handed) (take (length (course p).answers) (course p).asks) few)))
  where
    few : length (take (length (course p).answers) (course p).asks) ≤ suc (progress p).handed
    few =
        let a = answered_handed p x s r in
        let b : length (take (length (course p).answers) (course p).asks) ≡ min (length (course p).answers) (length (course p).asks) = length-take (length (course p).answers) (course p).asks in
        omega arith

-- of those that were answered

first_of : {A : Type 0} (xs : List A) (n k : ℕ) (q : A) (more : List A) → drop k (take n xs) ≡ q ∷ more → (slice_get xs k ≡ Some q) × (drop (suc k) (take n xs) ≡ more)
first_of xs zero zero q more e = absurd cc
first_of xs zero (suc k) q more e = absurd cc
first_of [] (suc n) zero q more e = absurd cc
first_of [] (suc n) (suc k) q more e = absurd cc
first_of (x ∷ xs) (suc n) zero q more e = (ap (λ l. elim l [ [] ↦ Some x | z ∷ zs ↦ Some z ]) e, ap (λ l. elim l [ [] ↦ take n xs | z ∷ zs ↦ zs ]) e)
first_of (x ∷ xs) (suc n) (suc k) q more e = first_of xs n k q more e

-- the first of them is the next ask
pub record Popped (p : Past) (x : Half) (a : Ask) (rest : List Ask) : Type 0 where
  pub next : next_handed p ≡ Some a
  pub ready : rest ≡ answered_first p.direction (course p) (suc (progress p).handed)
  pub unhanded : (progress p).handed < length (course p).asks

within_length : {A : Type 0} (xs : List A) (i : ℕ) (q : A) → slice_get xs i ≡ Some q → i < length xs
within_length [] i q e = absurd cc
within_length (x ∷ xs) zero q e = omega arith
within_length (x ∷ xs) (suc i) q e = let k = within_length xs i q e in omega arith

pub popped : (p : Past) (x : Half) (a : Ask) (rest : List Ask) → StandsFor p x → x.ready ≡ a ∷ rest → Popped p x a rest
popped p x a rest s e = by (drop (progress p).handed (take (length (course p).answers) (course p).asks)) refl (sym s.ties.ready ∙ e)
  where
    by : (l : List AskedPart) → drop (progress p).handed (take (length (course p).answers) (course p).asks) ≡ l → map (ask_of p.direction) l ≡ a ∷ rest → Popped p x a rest
    by [] i f = absurd cc
    by (q ∷ more) i f =
        let k = first_of (course p).asks (length (course p).answers) (progress p).handed q more i in
        record {
          next = ap (option_map (ask_of p.direction)) k.0 ∙ ap (λ l. elim l [ [] ↦ Some a | z ∷ zs ↦ Some z ]) f;
          ready = ap (λ l. elim l [ [] ↦ rest | z ∷ zs ↦ zs ]) (sym f) ∙ ap (map (ask_of p.direction)) (sym k.1);
          unhanded = within_length (course p).asks (progress p).handed q k.0;
        }

pub popped_some : (p : Past) (x : Half) (a : Ask) (rest : List Ask) → StandsFor p x → x.ready ≡ a ∷ rest → 0 < x.asked.unhanded
popped_some p x a rest s e = let k = (popped p x a rest s e).unhanded in let i = s.ties.asked.unhanded in omega arith

pub popped_stands : (p : Past) (x : Half) (a : Ask) (rest : List Ask) → StandsFor p x → x.ready ≡ a ∷ rest
    → StandsFor (after_step Asked p) (record x { asked = record x.asked { unhanded = x.asked.unhanded - 1 }; ready = rest })
popped_stands p x a rest s e =
    let k = popped p x a rest s e in
    handed_ties p x rest s (popped_some p x a rest s e) k.unhanded s.ties.asked.order k.ready
