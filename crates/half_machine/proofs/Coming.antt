-- A half that got body bytes stands for the course that has them.
use Rattle.std.proofs.Common.{inl, inr, refl, sym, ◌∙◌, ap, subst, arith, rules, append-nil, length-append, length-drop}
use Rattle.std.proofs.lemmas.List.{drop-append-le, append_assoc}
use Rattle.std.proofs.lemmas.List.Sums.{sum_by-cons}
use Rattle.std.specs.Prelude.{ℕ, ◌≡◌, ◌⊎◌, ◌+◌, ◌-◌, ◌*◌, ◌≤◌, min, Bool, true, false, not, List, ◌∷◌, ◌++◌, Some, None, [], length, drop, zip, sum_by, flat_map, Option, is_some, option_map, if◌then◌else◌}
use Rattle.std.specs.List.{list_any}
use Rattle.ext_msgs.specs.declared.lists.Field.{Field}
use Rattle.ext_msgs.specs.declared.answer.Common.{Common}
use Rattle.header_mutation.specs.declared.rules.PartKind.TheVariants.{Trailers as TrailerPart}
use Rattle.http_model.specs.Bytes.{is_empty}
use Rattle.http_model.specs.declared.types.Direction.{Direction}
use Rattle.http_model.specs.declared.types.Length.{Length}
use Rattle.http_model.specs.declared.types.Framing.TheVariants.{NoField}
use Rattle.body_hold.specs.Held.{Held}
use Rattle.body_hold.specs.Steps.{put}
use Rattle.filter_model.specs.Config.{CourseConfig}
use Rattle.filter_model.specs.Course.{Course, AskedPart, changed_at, body_of, bytes_in, is_trailers, is_passing, pairs, asked_bytes, answered_bytes, answered_pieces, answer_to, replacement, unasked, under, Headers, Body, Trailers, out}
use Rattle.filter_model.specs.Half.{Past, Progress, Bytes, End, called, progress, course}
use Rattle.filter_model.proofs.CourseGrows.{none_of_kind, any_of_drop}
use Rattle.filter_model.proofs.Sounds.{read_sound}
use Rattle.half_machine.specs.Facts.{collects_in}
use Rattle.half_machine.specs.Stands.{AreKept, OfOriginal, OfHold, MadeWith, Ties, StandsFor, piece_bytes, left_hand, flow}
use Rattle.half_machine.specs.Room.{most_back}
use Rattle.half_machine.specs.Calls.{MayBytes, CanTake, bytes_more, unasked_more, hold_more, with_bytes}
use Rattle.half_machine.specs.Choosing.{Holds}
use Rattle.half_machine.specs.declared.facts.Arrived.{Arrived}
use Rattle.half_machine.specs.declared.half.Half.{Half}
use Rattle.half_machine.proofs.AskedBody.{read_asks}
use Rattle.half_machine.proofs.Seen.{room_is}
use Rattle.half_machine.proofs.AtHand.{flow_kept}
use Rattle.half_machine.proofs.Lending.{hand_kept}
use Rattle.half_machine.proofs.Room.{room_put}

-- the message goes on
abbrev pub read_on : List ℕ → List Field → Bool → Course → Course
read_on b trailers whole w = record w { original = record w.original { body = w.original.body ++ b; trailers = trailers; whole = whole } }

-- Answered bytes were asked

pub answered_were_asked : (asks : List AskedPart) (answers : List Common) → sum_by (λ (q : AskedPart × Common). length (bytes_in q.0)) (zip asks answers) ≤ sum_by (λ p. length (bytes_in p)) asks
answered_were_asked [] answers = omega arith
answered_were_asked (p ∷ asks) [] = omega arith
answered_were_asked (p ∷ asks) (a ∷ answers) =
    let e : sum_by (λ (q : AskedPart × Common). length (bytes_in q.0)) (zip asks answers) ≤ sum_by (λ p. length (bytes_in p)) asks = answered_were_asked asks answers in
    let m : sum_by (λ (q : AskedPart × Common). length (bytes_in q.0)) ((p, a) ∷ zip asks answers) ≡ length (bytes_in p) + sum_by (λ (q : AskedPart × Common). length (bytes_in q.0)) (zip asks answers) =
    sum_by-cons (λ (q : AskedPart × Common). length (bytes_in q.0)) (p, a) (zip asks answers) in
    let n : sum_by (λ p. length (bytes_in p)) (p ∷ asks) ≡ length (bytes_in p) + sum_by (λ p. length (bytes_in p)) asks = sum_by-cons (λ p. length (bytes_in p)) p asks in
    omega arith

-- those in asks, by what counts as asked
abbrev in_asks : Course → ℕ
in_asks w = if w.released then answered_bytes (pairs w) else asked_bytes w.asks

answered_in_asks : (w : Course) → answered_bytes (pairs w) ≤ in_asks w
answered_in_asks w = by w.released
  where
    by : (b : Bool) → answered_bytes (pairs w) ≤ (if b then answered_bytes (pairs w) else asked_bytes w.asks)
    by true = omega arith
    by false = answered_were_asked w.asks w.answers

pub unasked_all : (d : Direction) (w : Course) → is_some (replacement d w) ≡ false → unasked d w ≡ length w.original.body - in_asks w - (w.given - piece_bytes w)
unasked_all d w e = ap (λ b. if b then 0 else length w.original.body - in_asks w - (w.given - piece_bytes w)) e

-- There is room

hand_in_unasked : (c : CourseConfig) (d : Direction) (p : Progress) (x : Half) → Ties c d p x → is_some (replacement d p.course) ≡ false → length x.hold.hand ≤ x.counts.unasked
hand_in_unasked c d p x t e =
    let w : Course = p.course in
    let o : ℕ = p.taken.body + length x.hold.out in
    let h : length x.hold.hand ≡ length w.original.body - left_hand w o = ap length (t.hold.hand ∙ hand_kept d w o e) ∙ length-drop (left_hand w o) w.original.body in
    let u : x.counts.unasked ≡ length w.original.body - in_asks w - (w.given - piece_bytes w) = t.counts.unasked ∙ unasked_all d w e in
    let g : w.given + x.counts.waiting ≡ p.taken.body = t.counts.waiting in
    let l : left_hand w o ≡ in_asks w + (o - piece_bytes w) = refl in
    omega arith

pub no_hand : (c : CourseConfig) (d : Direction) (p : Progress) (x : Half) → Ties c d p x → is_some (replacement d p.course) ≡ true → x.hold.hand ≡ []
no_hand c d p x t e = t.hold.hand ∙ ap (λ b. if b then [] else drop (left_hand p.course (p.taken.body + length x.hold.out)) p.course.original.body) e

-- what room leaves for
pub record Roomy (c : CourseConfig) (x : Half) (b : List ℕ) : Type 0 where
  pub short : length b ≤ 16_384
  pub unasked : (length b ≡ 0) ⊎ (x.counts.unasked + length b ≤ c.buffer_limit + 65_536)
  pub hand : length x.hold.hand + length b ≤ c.buffer_limit + 65_536

below_min : (a b n : ℕ) → n ≤ min a b → (n ≤ a) × (n ≤ b)
below_min a b n e = (omega arith, omega arith)

pub roomy : (p : Past) (x : Half) (b : List ℕ) → StandsFor p x → MayBytes p b → Roomy p.config x b
roomy p x b s m = record { short = f.0; unasked = more (collects_in x.arrived x.rule x.asked) f.1; hand = hand (is_some (replacement p.direction (course p))) refl (more (collects_in x.arrived x.rule x.asked) f.1) }
  where
    f : (length b ≤ 16_384) × (length b ≤ (if collects_in x.arrived x.rule x.asked then x.limit + 1 else 65_536) - x.counts.unasked)
    f = below_min 16_384 ((if collects_in x.arrived x.rule x.asked then x.limit + 1 else 65_536) - x.counts.unasked) (length b)
        (subst (λ n. length b ≤ n) (sym (room_is p x s)) m.fits)

    more : (q : Bool) → length b ≤ (if q then x.limit + 1 else 65_536) - x.counts.unasked → (length b ≡ 0) ⊎ (x.counts.unasked + length b ≤ p.config.buffer_limit + 65_536)
    more true e = by (length b) refl
      where
        by : (n : ℕ) → length b ≡ n → (length b ≡ 0) ⊎ (x.counts.unasked + length b ≤ p.config.buffer_limit + 65_536)
        by ℕ.zero i = inl i
        by (ℕ.suc n) i = let l = s.made.limit in inr (omega arith)
    more false e = by (length b) refl
      where
        by : (n : ℕ) → length b ≡ n → (length b ≡ 0) ⊎ (x.counts.unasked + length b ≤ p.config.buffer_limit + 65_536)
        by ℕ.zero i = inl i
        by (ℕ.suc n) i = inr (omega arith)

    hand : (q : Bool) → is_some (replacement p.direction (course p)) ≡ q → (length b ≡ 0) ⊎ (x.counts.unasked + length b ≤ p.config.buffer_limit + 65_536)
        → length x.hold.hand + length b ≤ p.config.buffer_limit + 65_536
    hand q i (inl e) = let h = s.ties.hold.hand_fits in omega arith
    hand true i (inr e) = let h : length x.hold.hand ≡ 0 = ap length (no_hand p.config p.direction (progress p) x s.ties i) in omega arith
    hand false i (inr e) = let h = hand_in_unasked p.config p.direction (progress p) x s.ties i in omega arith

-- no more than the hold and the count have room for
unasked_most : (p : Past) (x : Half) → StandsFor p x → x.counts.unasked ≤ p.config.buffer_limit * 2 + 131_072
unasked_most p x s = by (course p).released s.ties.few
  where
    by : (b : Bool) → x.counts.unasked ≤ (if b then p.config.buffer_limit * 2 + 131_072 else p.config.buffer_limit + 65_536) → x.counts.unasked ≤ p.config.buffer_limit * 2 + 131_072
    by true e = e
    by false e = omega arith

pub can_take : (p : Past) (x : Half) (b : List ℕ) → StandsFor p x → MayBytes p b → CanTake x b
can_take p x b s m =
    let r : Roomy p.config x b = roomy p x b s m in
    let l = s.made.limit in
    let k = s.made.small in
    let q = s.made.hold in
    let h = r.hand in
    let u = unasked_most p x s in
    let z = r.short in
    record { short = r.short; fits = omega arith; count = omega arith }

-- The body

flow_replaced : (c : CourseConfig) (d : Direction) (w : Course) (b : List ℕ) (ts : List Field) (e : Bool) → is_some (replacement d w) ≡ true → flow c d (read_on b ts e w) ≡ flow c d w
flow_replaced c d w b ts e i = by (replacement d w) i
  where
    by : (r : Option (List ℕ)) → is_some r ≡ true
        → body_of (changed_at c (read_on b ts e w) (Some (record { fields = []; framing = NoField })) r) ≡ body_of (changed_at c w (Some (record { fields = []; framing = NoField })) r)
    by (Some l) i = refl
    by None i = absurd cc

flow_more : (c : CourseConfig) (d : Direction) (w : Course) (b : List ℕ) (ts : List Field) (e : Bool) → is_some (replacement d w) ≡ false → answered_bytes (pairs w) ≤ length w.original.body
    → flow c d (read_on b ts e w) ≡ flow c d w ++ (if is_passing w then b else [])
flow_more c d w b ts e i n =
    flow_kept c d (read_on b ts e w) i
    ∙ by (is_passing w)
    ∙ ap (λ l. l ++ (if is_passing w then b else [])) (sym (flow_kept c d w i))
  where
    by : (q : Bool) → flat_map (λ p. p) (answered_pieces w) ++ (if q then drop (answered_bytes (pairs w)) (w.original.body ++ b) else [])
        ≡ (flat_map (λ p. p) (answered_pieces w) ++ (if q then drop (answered_bytes (pairs w)) w.original.body else [])) ++ (if q then b else [])
    by true =
        ap (λ l. flat_map (λ p. p) (answered_pieces w) ++ l) (drop-append-le (answered_bytes (pairs w)) w.original.body b n)
        ∙ sym (append_assoc (flat_map (λ p. p) (answered_pieces w)) (drop (answered_bytes (pairs w)) w.original.body) b)
    by false = sym (append-nil (flat_map (λ p. p) (answered_pieces w) ++ []))

out_more : (q : Bool) (out hand b : List ℕ) → out ++ (if q then hand ++ b else []) ≡ (out ++ (if q then hand else [])) ++ (if q then b else [])
out_more true out hand b = sym (append_assoc out hand b)
out_more false out hand b = sym (append-nil (out ++ []))

hold_kept : (c : CourseConfig) (d : Direction) (w : Course) (handed : ℕ) (h : Held) (b : List ℕ) (ts : List Field) (e : Bool) → is_some (replacement d w) ≡ false
    → length h.hand + length b ≤ c.buffer_limit + 65_536 → OfHold h c d w handed → OfHold (put b h) c d (read_on b ts e w) handed
hold_kept c d w handed h b ts e i f s =
    let o : ℕ = handed + length h.out in
    let in_body : left_hand w o ≤ length w.original.body = s.within i in
    let more : length (w.original.body ++ b) ≡ length w.original.body + length b = length-append w.original.body b in
    let asked : answered_bytes (pairs w) ≤ in_asks w = answered_in_asks w in
    let left : left_hand w o ≡ in_asks w + (o - piece_bytes w) = refl in
    let grown : flow c d (read_on b ts e w) ≡ flow c d w ++ (if is_passing w then b else []) = flow_more c d w b ts e i (omega arith) in
    let size : length (flow c d (read_on b ts e w)) ≡ length (flow c d w) + length (if is_passing w then b else []) = ap length grown ∙ length-append (flow c d w) (if is_passing w then b else []) in
    let there = s.there in
    record {
      lent = s.lent;
      hand = ap (λ l. l ++ b) (s.hand ∙ hand_kept d w o i) ∙ sym (drop-append-le (left_hand w o) w.original.body b in_body) ∙ sym (hand_kept d (read_on b ts e w) o i);
      out = out_more (is_passing w) h.out h.hand b ∙ ap (λ l. l ++ (if is_passing w then b else [])) s.out
          ∙ sym (drop-append-le handed (flow c d w) (if is_passing w then b else []) s.there) ∙ ap (drop handed) (sym grown);
      pieces_first = s.pieces_first;
      within = λ z. omega arith;
      there = omega arith;
      idle = s.idle;
      hand_fits = let a : length (h.hand ++ b) ≡ length h.hand + length b = length-append h.hand b in omega arith;
      lent_fits = s.lent_fits;
    }

hold_replaced : (c : CourseConfig) (d : Direction) (w : Course) (handed : ℕ) (h : Held) (b : List ℕ) (ts : List Field) (e : Bool) → is_some (replacement d w) ≡ true
    → OfHold h c d w handed → OfHold h c d (read_on b ts e w) handed
hold_replaced c d w handed h b ts e i s =
    let o : ℕ = handed + length h.out in
    let same : flow c d (read_on b ts e w) ≡ flow c d w = flow_replaced c d w b ts e i in
    record {
      lent = s.lent;
      hand = s.hand ∙ ap (λ q. if q then [] else drop (left_hand w o) w.original.body) i ∙ sym (ap (λ q. if q then [] else drop (left_hand w o) (w.original.body ++ b)) i);
      out = s.out ∙ ap (drop handed) (sym same);
      pieces_first = s.pieces_first;
      within = λ z. absurd (clash (sym i ∙ z));
      there = let n : length (flow c d (read_on b ts e w)) ≡ length (flow c d w) = ap length same in let t = s.there in omega arith;
      idle = s.idle;
      hand_fits = s.hand_fits;
      lent_fits = s.lent_fits;
    }
  where
    clash : true ≡ false → ⊥
    clash e = cc

hold_read : (c : CourseConfig) (d : Direction) (p : Progress) (x : Half) (b : List ℕ) (ts : List Field) (e q : Bool) → is_some (replacement d p.course) ≡ q
    → length x.hold.hand + length b ≤ c.buffer_limit + 65_536 → Ties c d p x → OfHold (if q then x.hold else put b x.hold) c d (read_on b ts e p.course) p.taken.body
hold_read c d p x b ts e true i f t = hold_replaced c d p.course p.taken.body x.hold b ts e i t.hold
hold_read c d p x b ts e false i f t = hold_kept c d p.course p.taken.body x.hold b ts e i f t.hold

unasked_read : (c : CourseConfig) (d : Direction) (p : Progress) (x : Half) (b : List ℕ) (ts : List Field) (e q : Bool) → is_some (replacement d p.course) ≡ q → Ties c d p x
    → (if q then x.counts.unasked else x.counts.unasked + length b) ≡ unasked d (read_on b ts e p.course)
unasked_read c d p x b ts e true i t =
    t.counts.unasked ∙ ap (λ q. if q then 0 else length p.course.original.body - in_asks p.course - (p.course.given - piece_bytes p.course)) i
    ∙ sym (ap (λ q. if q then 0 else length (p.course.original.body ++ b) - in_asks p.course - (p.course.given - piece_bytes p.course)) i)
unasked_read c d p x b ts e false i t =
    let w : Course = p.course in
    let o : ℕ = p.taken.body + length x.hold.out in
    let u : x.counts.unasked ≡ length w.original.body - in_asks w - (w.given - piece_bytes w) = t.counts.unasked ∙ unasked_all d w i in
    let v : unasked d (read_on b ts e w) ≡ length (w.original.body ++ b) - in_asks w - (w.given - piece_bytes w) = unasked_all d (read_on b ts e w) i in
    let n : length (w.original.body ++ b) ≡ length w.original.body + length b = length-append w.original.body b in
    let l : in_asks w + (o - piece_bytes w) ≤ length w.original.body = t.hold.within i in
    let g : w.given + x.counts.waiting ≡ p.taken.body = t.counts.waiting in
    omega arith

few_read : (c : CourseConfig) (x : Half) (b : List ℕ) (q r : Bool) → (length b ≡ 0) ⊎ (x.counts.unasked + length b ≤ c.buffer_limit + 65_536)
    → x.counts.unasked ≤ (if r then c.buffer_limit * 2 + 131_072 else c.buffer_limit + 65_536)
    → (if q then x.counts.unasked else x.counts.unasked + length b) ≤ (if r then c.buffer_limit * 2 + 131_072 else c.buffer_limit + 65_536)
few_read c x b true r e f = f
few_read c x b false r (inl e) f = omega arith
few_read c x b false true (inr e) f = omega arith
few_read c x b false false (inr e) f = e

-- All of a half
pub read_holds : (p : Past) (x : Half) (b : List ℕ) (ts : List Field) (e : Bool) (a : Arrived) (f : List Field) → StandsFor p x → MayBytes p b → a.framed ≡ x.arrived.framed → AreKept x.head x.arrived.framed f (out (course p))
    → OfOriginal a (record (course p).original { body = (course p).original.body ++ b; trailers = ts; whole = e })
    → f ≡ under p.config TrailerPart ts (answer_to is_trailers (course p))
    → Holds p.config p.direction (record (progress p) { course = read_on b ts e (course p) }) (record x {
      arrived = a;
      counts = record x.counts { unasked = unasked_more b x };
      hold = hold_more b x;
      trailers = f;
    })
read_holds p x b ts e a f s m n k o g =
    let w : Course = course p in
    let c : CourseConfig = p.config in
    let d : Direction = p.direction in
    let t : Ties c d (progress p) x = s.ties in
    let r : Roomy c x b = roomy p x b s m in
    let same : is_some (replacement d w) ≡ x.rule.replaced = sym t.rule.replaced in (
      read_made x.rule.replaced,
      record {
        arrived = o;
        rule = record { modes = t.rule.modes; released = t.rule.released; stopped = t.rule.stopped; passes = t.rule.passes; replaced = t.rule.replaced; headers = t.rule.headers; body = t.rule.body };
        asked = record { any = t.asked.any; body = t.asked.body; last = t.asked.last; trailers = t.asked.trailers; unsent = t.asked.unsent; unhanded = t.asked.unhanded; order = t.asked.order };
        ready = t.ready;
        body_asks = read_asks w b ts e t.body_asks;
        counts = record { unasked = unasked_read c d (progress p) x b ts e x.rule.replaced same t; pieces = t.counts.pieces; waiting = t.counts.waiting };
        gone = record { framing = t.gone.framing; head = t.gone.head; trailers = t.gone.trailers; ended = t.gone.ended; early = t.gone.early };
        hold = hold_read c d (progress p) x b ts e x.rule.replaced same r.hand t;
        room = room_put x.hold c w.modes.headers w.asks w.original.body b w.released x.rule.replaced t.room;
        pieces = t.pieces;
        pieces_fit = t.pieces_fit;
        pieces_room = pieces_put x.rule.replaced;
        marks = t.marks;
        head = t.head;
        fields = t.fields;
        trailers = g;
        parts = subst (λ z. AreKept x.head z f (out w)) (sym n) k;
        few = few_read c x b x.rule.replaced w.released r.unasked t.few;
        sound = read_sound c w (record w.original { body = w.original.body ++ b; trailers = ts; whole = e }) t.sound
            (inr (inr (record { unfinished = m.unfinished; trailers = t.arrived.bare m.unfinished; head = refl; length = refl; expects = refl; body = record { rest = b; whole = refl } })))
            (λ z. absurd (clash (sym z ∙ m.has_body)));
      },
    )
  where
    clash : true ≡ false → ⊥
    clash e = cc

    pieces_put : (q : Bool) → (course p).released ≡ false
        → x.counts.pieces + most_back p.config.answer_limit (if q then x.hold else put b x.hold).lent ≤ p.config.buffer_limit + p.config.answer_limit * 4 + 131_072
    pieces_put true r = s.ties.pieces_room r
    pieces_put false r = s.ties.pieces_room r

    read_made : (q : Bool) → MadeWith p.config p.direction (record x { hold = if q then x.hold else put b x.hold })
    read_made true = s.made
    read_made false = s.made

-- Each call

bytes_read : (x n m : ℕ) → x ≡ min n 4_294_967_295 → min (x + m) 4_294_967_295 ≡ min (n + m) 4_294_967_295
bytes_read x n m e = search rules

count_read : (x : Half) (b body : List ℕ) → x.arrived.bytes ≡ min (length body) 4_294_967_295 → bytes_more b x ≡ min (length (body ++ b)) 4_294_967_295
count_read x b body e =
    bytes_read x.arrived.bytes (length body) (length b) e ∙ ap (λ n. min n 4_294_967_295) (sym (length-append body b))

pub data_holds : (p : Past) (x y : Half) (b : List ℕ) → StandsFor p x → MayBytes p b → y ≡ with_bytes b x
    → Holds p.config p.direction (record (progress p) { course = called (Bytes b) (course p) }) y
data_holds p x y b s m e =
    let o = s.ties.arrived in
    subst (λ z. Holds p.config p.direction (record (progress p) { course = called (Bytes b) (course p) }) z) (sym e)
    (read_holds p x b (course p).original.trailers (course p).original.whole (record x.arrived { bytes = bytes_more b x }) x.trailers s m refl s.ties.parts
    (record { head = o.head; framed = o.framed; own = o.own; whole = o.whole; trailers = o.trailers; bytes = count_read x b (course p).original.body o.bytes; bare = o.bare; unread = λ z. absurd (clash (sym (ap is_some z) ∙ m.read)) })
    s.ties.trailers)
  where
    clash : false ≡ true → ⊥
    clash e = cc

no_trailers : (p : Past) (x : Half) → StandsFor p x → (course p).original.whole ≡ false → list_any is_trailers (course p).asks ≡ false
no_trailers p x s u = by (list_any is_trailers (course p).asks) refl
  where
    clash : true ≡ false → ⊥
    clash e = cc

    by : (b : Bool) → list_any is_trailers (course p).asks ≡ b → list_any is_trailers (course p).asks ≡ false
    by true e = absurd (clash (sym (ap is_empty (s.ties.arrived.bare u)) ∙ s.ties.sound.trailers e))
    by false e = e

none_asked : (p : Past) (x : Half) → StandsFor p x → (course p).original.whole ≡ false → answer_to is_trailers (course p) ≡ None
none_asked p x s u = ap (option_map (λ (q : AskedPart × Common). q.1)) (none_of_kind is_trailers (course p).asks (course p).answers (no_trailers p x s u))

none_out : (p : Past) (x : Half) → StandsFor p x → (course p).original.whole ≡ false → list_any is_trailers (out (course p)) ≡ false
none_out p x s u = by (list_any is_trailers (out (course p))) refl
  where
    clash : true ≡ false → ⊥
    clash e = cc

    by : (b : Bool) → list_any is_trailers (out (course p)) ≡ b → list_any is_trailers (out (course p)) ≡ false
    by true e = absurd (clash (sym (any_of_drop is_trailers (course p).asks (course p).answers e) ∙ no_trailers p x s u))
    by false e = e

pub other_trailers : (head : Option (List Field)) (n : Length) (old new : List Field) (asks : List AskedPart) → list_any is_trailers asks ≡ false → AreKept head n old asks → AreKept head n new asks
other_trailers head n old new [] e k = tt
other_trailers head n old new (Headers f l ∷ asks) e k = (k.0, other_trailers head n old new asks e k.1)
other_trailers head n old new (Body b l ∷ asks) e k = (tt, other_trailers head n old new asks e k.1)
other_trailers head n old new (Trailers f ∷ asks) e k = absurd (clash e)
  where
    clash : true ≡ false → ⊥
    clash e = cc

pub end_holds : (p : Past) (x y : Half) (b : List ℕ) (ts : List Field) (q : Bool) → StandsFor p x → MayBytes p b → y ≡ with_bytes b x → q ≡ not (is_empty ts)
    → Holds p.config p.direction (record (progress p) { course = called (End b ts) (course p) }) (record y { arrived = record y.arrived { whole = true; trailers = q }; trailers = ts })
end_holds p x y b ts q s m e f =
    let o = s.ties.arrived in
    subst (λ z. Holds p.config p.direction (record (progress p) { course = called (End b ts) (course p) }) (record z { arrived = record z.arrived { whole = true; trailers = q }; trailers = ts })) (sym e)
    (read_holds p x b ts true (record x.arrived { bytes = bytes_more b x; whole = true; trailers = q }) ts s m refl
    (other_trailers x.head x.arrived.framed x.trailers ts (out (course p)) (none_out p x s m.unfinished) s.ties.parts)
    (record { head = o.head; framed = o.framed; own = o.own; whole = refl; trailers = f; bytes = count_read x b (course p).original.body o.bytes; bare = λ z. absurd (clash z); unread = λ z. absurd (clash (sym m.read ∙ ap is_some z)) })
    (ap (under p.config TrailerPart ts) (sym (none_asked p x s m.unfinished))))
  where
    clash : true ≡ false → ⊥
    clash e = cc
