-- A half whose rest passes stands for the course that was released.
use Rattle.std.proofs.Common.{refl, sym, ◌∙◌, ap, subst, arith, append-nil, length-append, length-drop}
use Rattle.std.proofs.Math.Seq.{drop-append_seam}
use Rattle.std.proofs.lemmas.List.{append_assoc, drop-append-le, drop-drop}
use Rattle.std.proofs.lemmas.List.Sums.{sum_by-cons}
use Rattle.std.specs.Prelude.{ℕ, ◌≡◌, ◌+◌, ◌-◌, ◌*◌, ◌≤◌, Bool, true, false, not, ◌&&◌, List, ◌∷◌, ◌++◌, Some, None, [], length, drop, map, filter, flat_map, zip, sum_by, Option, is_some, if◌then◌else◌}
use Rattle.std.specs.List.{list_any}
use Rattle.ext_msgs.specs.declared.answer.Common.{Common}
use Rattle.ext_msgs.specs.declared.modes.BodyMode.{BodyMode}
use Rattle.http_model.specs.declared.types.Direction.{Direction}
use Rattle.http_model.specs.declared.types.Framing.TheVariants.{NoField}
use Rattle.body_hold.specs.Held.{Held, joined}
use Rattle.body_hold.specs.Steps.{lent_passed}
use Rattle.filter_model.specs.Config.{CourseConfig}
use Rattle.filter_model.specs.Course.{Course, AskedPart, Headers, Body, Trailers, changed_at, body_of, bytes_in, is_body, is_passing, passing_at, is_stopped, mode, out, pairs, asked_bytes, answered_bytes, answered_pieces, replacement, unasked}
use Rattle.filter_model.specs.Half.{Past, Progress, Release, called, progress, course}
use Rattle.filter_model.proofs.CourseGrows.{with_released}
use Rattle.filter_model.proofs.Sounds.{release_sound}
use Rattle.half_machine.specs.Calls.{CanRelease, lends_out, counts_released, hold_released, released_in}
use Rattle.half_machine.specs.Choosing.{Holds}
use Rattle.half_machine.specs.Room.{most_back}
use Rattle.half_machine.specs.Stands.{OfCounts, OfHold, Ties, StandsFor, flow, piece_bytes, left_hand}
use Rattle.half_machine.specs.declared.facts.Counts.{Counts}
use Rattle.half_machine.specs.declared.half.Half.{Half}
use Rattle.half_machine.proofs.AskedBody.{released_asks}
use Rattle.half_machine.proofs.AtHand.{flow_kept, rest_at_hand}
use Rattle.half_machine.proofs.Coming.{answered_were_asked, unasked_all, no_hand}
use Rattle.half_machine.proofs.Lending.{hand_kept, left_kept, no_bodies, none_out, unasked_kept}
use Rattle.half_machine.proofs.Room.{asked_within, joined_most}

clash : true ≡ false → ⊥
clash e = cc

-- What is lent is what was asked and isn't answered

unanswered : (asks : List AskedPart) (answers : List Common) (rest : List ℕ)
    → drop (sum_by (λ (q : AskedPart × Common). length (bytes_in q.0)) (zip asks answers)) (flat_map bytes_in asks ++ rest) ≡ flat_map bytes_in (drop (length answers) asks) ++ rest
unanswered [] [] rest = refl
unanswered [] (a ∷ answers) rest = refl
unanswered (p ∷ asks) [] rest = refl
unanswered (p ∷ asks) (a ∷ answers) rest =
    ap (λ n. drop n ((bytes_in p ++ flat_map bytes_in asks) ++ rest)) (sum_by-cons (λ (q : AskedPart × Common). length (bytes_in q.0)) (p, a) (zip asks answers))
    ∙ sym (drop-drop (sum_by (λ (q : AskedPart × Common). length (bytes_in q.0)) (zip asks answers)) (length (bytes_in p)) ((bytes_in p ++ flat_map bytes_in asks) ++ rest))
    ∙ ap (drop (sum_by (λ (q : AskedPart × Common). length (bytes_in q.0)) (zip asks answers)))
    (ap (drop (length (bytes_in p))) (append_assoc (bytes_in p) (flat_map bytes_in asks) rest) ∙ drop-append_seam (bytes_in p) (flat_map bytes_in asks ++ rest))
    ∙ unanswered asks answers rest

joined_pieces : (asks : List AskedPart) → joined (map bytes_in (filter is_body asks)) ≡ flat_map bytes_in asks
joined_pieces [] = refl
joined_pieces (Headers f l ∷ asks) = joined_pieces asks
joined_pieces (Body b l ∷ asks) = ap (λ r. b ++ r) (joined_pieces asks)
joined_pieces (Trailers f ∷ asks) = joined_pieces asks

pub record Lent (w : Course) (lent : List (List ℕ)) : Type 0 where
  pub bytes : joined lent ++ drop (asked_bytes w.asks) w.original.body ≡ drop (answered_bytes (pairs w)) w.original.body
  pub count : answered_bytes (pairs w) + length (joined lent) ≡ asked_bytes w.asks

lent_is : (w : Course) (lent : List (List ℕ)) → lent ≡ map bytes_in (filter is_body (out w)) → flat_map bytes_in w.asks ++ drop (asked_bytes w.asks) w.original.body ≡ w.original.body → Lent w lent
lent_is w lent e f = record { bytes = bytes; count = count }
  where
    rest : List ℕ
    rest = drop (asked_bytes w.asks) w.original.body

    bytes : joined lent ++ rest ≡ drop (answered_bytes (pairs w)) w.original.body
    bytes =
        ap (λ l. l ++ rest) (ap joined e ∙ joined_pieces (out w))
        ∙ sym (unanswered w.asks w.answers rest)
        ∙ ap (drop (answered_bytes (pairs w))) f

    count : answered_bytes (pairs w) + length (joined lent) ≡ asked_bytes w.asks
    count =
        let n : length (joined lent) + length rest ≡ length (drop (answered_bytes (pairs w)) w.original.body) = sym (length-append (joined lent) rest) ∙ ap length bytes in
        let a : length rest ≡ length w.original.body - asked_bytes w.asks = length-drop (asked_bytes w.asks) w.original.body in
        let b : length (drop (answered_bytes (pairs w)) w.original.body) ≡ length w.original.body - answered_bytes (pairs w) = length-drop (answered_bytes (pairs w)) w.original.body in
        let i : answered_bytes (pairs w) ≤ asked_bytes w.asks = answered_were_asked w.asks w.answers in
        let j : asked_bytes w.asks ≤ length w.original.body = asked_within w.asks w.original.body f in
        omega arith

none_lent : (w : Course) (lent : List (List ℕ)) → lent ≡ map bytes_in (filter is_body (out w)) → list_any is_body (out w) ≡ false → joined lent ≡ []
none_lent w lent e f = ap joined (e ∙ ap (map bytes_in) (no_bodies (out w) f))

-- The bytes

none_out_passing : (o s k : Bool) (m : BodyMode) → passing_at false o s m k ≡ true → o ≡ false
none_out_passing true s k m e = absurd (clash (sym e))
none_out_passing false s k m e = refl

all_passes : (c : CourseConfig) (d : Direction) (w : Course) → is_some (replacement d w) ≡ false
    → flow c d (with_released w) ≡ flat_map (λ p. p) (answered_pieces w) ++ drop (answered_bytes (pairs w)) w.original.body
all_passes c d w u = flow_kept c d (with_released w) u

out_released : (c : CourseConfig) (d : Direction) (w : Course) (handed : ℕ) (h : Held) → w.released ≡ false → is_some (replacement d w) ≡ false → OfHold h c d w handed → Lent w h.lent
    → (h.out ++ joined h.lent) ++ h.hand ≡ drop handed (flow c d (with_released w))
out_released c d w handed h r u s l = by (is_passing w) refl
  where
    pieces : List ℕ
    pieces = flat_map (λ p. p) (answered_pieces w)

    rest : List ℕ
    rest = drop (answered_bytes (pairs w)) w.original.body

    plain : (b : Bool) → is_passing w ≡ b → flow c d w ≡ pieces ++ (if b then rest else [])
    plain b e = flow_kept c d w u ∙ ap (λ b. pieces ++ (if b then rest else [])) e

    by : (b : Bool) → is_passing w ≡ b → (h.out ++ joined h.lent) ++ h.hand ≡ drop handed (flow c d (with_released w))
    by true e =
        ap (λ l. (h.out ++ l) ++ h.hand)
        (none_lent w h.lent s.lent (none_out_passing (list_any is_body (out w)) (is_stopped w) (list_any is_body w.asks) (mode w)
        (sym (ap (λ b. passing_at b (list_any is_body (out w)) (is_stopped w) (mode w) (list_any is_body w.asks)) r) ∙ e)))
        ∙ ap (λ l. l ++ h.hand) (append-nil h.out)
        ∙ sym (ap (λ b. h.out ++ (if b then h.hand else [])) e) ∙ s.out
        ∙ ap (drop handed) (plain true e ∙ sym (all_passes c d w u))
    by false e =
        let within : handed ≤ length pieces =
        (let t = s.there in let n : length (flow c d w) ≡ length pieces = ap length (plain false e ∙ append-nil pieces) in omega arith) in
        append_assoc h.out (joined h.lent) h.hand
        ∙ ap (λ l. h.out ++ (joined h.lent ++ l)) (rest_at_hand c d w h handed s r u e)
        ∙ ap (λ l. h.out ++ l) l.bytes
        ∙ ap (λ l. l ++ rest) (sym (append-nil h.out) ∙ sym (ap (λ b. h.out ++ (if b then h.hand else [])) e) ∙ s.out ∙ ap (drop handed) (plain false e ∙ append-nil pieces))
        ∙ sym (drop-append-le handed pieces rest within)
        ∙ ap (drop handed) (sym (all_passes c d w u))

flow_longer : (c : CourseConfig) (d : Direction) (w : Course) → is_some (replacement d w) ≡ false → length (flow c d w) ≤ length (flow c d (with_released w))
flow_longer c d w u =
    let rest : List ℕ = drop (answered_bytes (pairs w)) w.original.body in
    let pieces : List ℕ = flat_map (λ p. p) (answered_pieces w) in
    let a : length (flow c d w) ≡ length pieces + length (if is_passing w then rest else []) = ap length (flow_kept c d w u) ∙ length-append pieces (if is_passing w then rest else []) in
    let b : length (flow c d (with_released w)) ≡ length pieces + length rest = ap length (all_passes c d w u) ∙ length-append pieces rest in
    let i = part (is_passing w) rest in
    omega arith
  where
    part : (b : Bool) (l : List ℕ) → length (if b then l else []) ≤ length l
    part true l = omega arith
    part false l = omega arith

hold_passed : (c : CourseConfig) (d : Direction) (w : Course) (handed : ℕ) (h : Held) → w.released ≡ false → is_some (replacement d w) ≡ false → OfHold h c d w handed → Lent w h.lent
    → OfHold (lent_passed h) c d (with_released w) handed
hold_passed c d w handed h r u s l =
    let o : ℕ = handed + length h.out in
    let more : ℕ = handed + length (h.out ++ joined h.lent) in
    let size : length (h.out ++ joined h.lent) ≡ length h.out + length (joined h.lent) = length-append h.out (joined h.lent) in
    let first : piece_bytes w ≤ o = s.pieces_first u in
    let count : answered_bytes (pairs w) + length (joined h.lent) ≡ asked_bytes w.asks = l.count in
    let left : left_hand w o ≡ asked_bytes w.asks + (o - piece_bytes w) = left_kept w o r in
    let left_more : left_hand (with_released w) more ≡ answered_bytes (pairs w) + (more - piece_bytes w) = refl in
    let same : left_hand w o ≡ left_hand (with_released w) more = omega arith in
    let within : left_hand w o ≤ length w.original.body = s.within u in
    record {
      lent = s.lent;
      hand = s.hand ∙ hand_kept d w o u ∙ ap (λ k. drop k w.original.body) same ∙ sym (hand_kept d (with_released w) more u);
      out = out_released c d w handed h r u s l;
      pieces_first = λ z. omega arith;
      within = λ z. omega arith;
      there = let t = s.there in let f = flow_longer c d w u in omega arith;
      idle = λ a z. ap (λ l. l ++ joined h.lent) (s.idle a u) ∙ none_lent w h.lent s.lent (none_out w a);
      hand_fits = s.hand_fits;
      lent_fits = s.lent_fits;
    }

-- another body took the place of its own
hold_replaced : (c : CourseConfig) (d : Direction) (w : Course) (handed : ℕ) (h : Held) → is_some (replacement d w) ≡ true → h.hand ≡ [] → OfHold h c d w handed
    → OfHold h c d (with_released w) handed
hold_replaced c d w handed h u e s = record {
  lent = s.lent;
  hand = e ∙ sym (ap (λ q. if q then [] else drop (left_hand (with_released w) (handed + length h.out)) w.original.body) u);
  out = ap (λ l. h.out ++ l) (e ∙ sym (nothing (is_passing w))) ∙ s.out ∙ ap (drop handed) same;
  pieces_first = s.pieces_first;
  within = λ z. absurd (clash (sym u ∙ z));
  there = let n : length (flow c d w) ≡ length (flow c d (with_released w)) = ap length same in let t = s.there in omega arith;
  idle = s.idle;
  hand_fits = s.hand_fits;
  lent_fits = s.lent_fits;
}
  where
    nothing : (b : Bool) → (if b then h.hand else []) ≡ []
    nothing true = e
    nothing false = refl

    same : flow c d w ≡ flow c d (with_released w)
    same = by (replacement d w) u
      where
        by : (r : Option (List ℕ)) → is_some r ≡ true
            → body_of (changed_at c w (Some (record { fields = []; framing = NoField })) r) ≡ body_of (changed_at c (with_released w) (Some (record { fields = []; framing = NoField })) r)
        by (Some b) i = refl
        by None i = absurd (clash (sym i))

-- The counts

counts_passed : (c : CourseConfig) (d : Direction) (w : Course) (handed : ℕ) (h : Held) (k : Counts) → w.released ≡ false → is_some (replacement d w) ≡ false → OfHold h c d w handed → Lent w h.lent
    → OfCounts k d w handed → OfCounts (record k { unasked = k.unasked + length (joined h.lent) }) d (with_released w) handed
counts_passed c d w handed h k r u s l t =
    let o : ℕ = handed + length h.out in
    let before : k.unasked ≡ length w.original.body - asked_bytes w.asks - (w.given - piece_bytes w) = t.unasked ∙ unasked_kept d w r u in
    let after : unasked d (with_released w) ≡ length w.original.body - answered_bytes (pairs w) - (w.given - piece_bytes w) = unasked_all d (with_released w) u in
    let count : answered_bytes (pairs w) + length (joined h.lent) ≡ asked_bytes w.asks = l.count in
    let left : left_hand w o ≡ asked_bytes w.asks + (o - piece_bytes w) = left_kept w o r in
    let within : left_hand w o ≤ length w.original.body = s.within u in
    let g : w.given + k.waiting ≡ handed = t.waiting in
    record { unasked = omega arith; pieces = t.pieces; waiting = t.waiting }

counts_replaced : (d : Direction) (w : Course) (handed : ℕ) (k : Counts) → is_some (replacement d w) ≡ true → OfCounts k d w handed → OfCounts k d (with_released w) handed
counts_replaced d w handed k u t = record {
  unasked = t.unasked ∙ none w.released ∙ sym (none true);
  pieces = t.pieces;
  waiting = t.waiting;
}
  where
    none : (b : Bool) → unasked d (record w { released = b }) ≡ 0
    none b = ap (λ q. if q then 0 else length w.original.body - (if b then answered_bytes (pairs w) else asked_bytes w.asks) - (w.given - piece_bytes w)) u

-- There is room

pub can_release : (p : Past) (x : Half) → StandsFor p x → CanRelease x
can_release p x s r =
    let t : Ties p.config p.direction (progress p) x = s.ties in
    let o : length x.hold.out + most_back p.config.answer_limit x.hold.lent ≤ p.config.buffer_limit + p.config.answer_limit * 4 + 131_072 = t.room.goes (sym t.rule.released ∙ r) in
    let j = joined_most p.config.answer_limit x.hold.lent in
    let lent = t.room.lent in
    let few : x.counts.unasked ≤ p.config.buffer_limit + 65_536 =
    few_at (sym t.rule.released ∙ r) t.few in
    let a = s.made.answers in
    let l = s.made.limit in
    let h = s.made.hold in
    let m = s.made.small in
    (omega arith, omega arith)
  where
    few_at : (course p).released ≡ false → x.counts.unasked ≤ (if (course p).released then p.config.buffer_limit * 2 + 131_072 else p.config.buffer_limit + 65_536)
        → x.counts.unasked ≤ p.config.buffer_limit + 65_536
    few_at e f = subst (λ b. x.counts.unasked ≤ (if b then p.config.buffer_limit * 2 + 131_072 else p.config.buffer_limit + 65_536)) e f

-- All of a half

assemble : (c : CourseConfig) (d : Direction) (p : Progress) (x : Half) (k : Counts) (h : Held) → Ties c d p x → OfCounts k d (with_released p.course) p.taken.body
    → OfHold h c d (with_released p.course) p.taken.body → length (joined h.lent) ≤ c.buffer_limit + 65_536 → k.unasked ≤ c.buffer_limit * 2 + 131_072
    → Ties c d (record p { course = with_released p.course }) (record x { rule = record x.rule { released = true }; counts = k; hold = h })
assemble c d p x k h t u s l f = record {
  arrived = t.arrived;
  rule = record { modes = t.rule.modes; released = refl; stopped = t.rule.stopped; passes = t.rule.passes; replaced = t.rule.replaced; headers = t.rule.headers; body = t.rule.body };
  asked = record { any = t.asked.any; body = t.asked.body; last = t.asked.last; trailers = t.asked.trailers; unsent = t.asked.unsent; unhanded = t.asked.unhanded; order = t.asked.order };
  ready = t.ready;
  body_asks = released_asks p.course t.body_asks;
  counts = u;
  gone = record { framing = t.gone.framing; head = t.gone.head; trailers = t.gone.trailers; ended = t.gone.ended; early = t.gone.early };
  hold = s;
  room = record { first = t.room.first; pieces = t.room.pieces; lent = l; goes = λ r. absurd (clash r) };
  pieces = t.pieces;
  pieces_fit =
      let a : k.pieces ≡ piece_bytes p.course - p.course.given = u.pieces in
      let b : x.counts.pieces ≡ piece_bytes p.course - p.course.given = t.counts.pieces in
      let e = t.pieces_fit in omega arith;
  pieces_room = λ r. absurd (clash r);
  marks = t.marks;
  head = t.head;
  fields = t.fields;
  trailers = t.trailers;
  parts = t.parts;
  few = f;
  sound = release_sound c p.course t.sound;
}

-- as long as it wasn't released before
passed : (p : Past) (x : Half) → StandsFor p x → (course p).released ≡ false → (q : Bool) → is_some (replacement p.direction (course p)) ≡ q
    → Holds p.config p.direction (record (progress p) { course = with_released (course p) })
    (record x { rule = record x.rule { released = true }; counts = counts_released (not q) x; hold = hold_released (not q) x })
passed p x s r true u =
    let t : Ties p.config p.direction (progress p) x = s.ties in
    let few : x.counts.unasked ≤ p.config.buffer_limit * 2 + 131_072 =
    (let f : x.counts.unasked ≤ p.config.buffer_limit + 65_536 = subst (λ b. x.counts.unasked ≤ (if b then p.config.buffer_limit * 2 + 131_072 else p.config.buffer_limit + 65_536)) r t.few in omega arith) in (
      s.made,
      assemble p.config p.direction (progress p) x x.counts x.hold t
          (counts_replaced p.direction (course p) (progress p).taken.body x.counts u t.counts)
          (hold_replaced p.config p.direction (course p) (progress p).taken.body x.hold u (no_hand p.config p.direction (progress p) x t u) t.hold)
          t.room.lent few,
    )
passed p x s r false u =
    let t : Ties p.config p.direction (progress p) x = s.ties in
    let l : Lent (course p) x.hold.lent = lent_is (course p) x.hold.lent t.hold.lent t.room.pieces in
    let few : x.counts.unasked + length (joined x.hold.lent) ≤ p.config.buffer_limit * 2 + 131_072 =
    (let f : x.counts.unasked ≤ p.config.buffer_limit + 65_536 = subst (λ b. x.counts.unasked ≤ (if b then p.config.buffer_limit * 2 + 131_072 else p.config.buffer_limit + 65_536)) r t.few in
    let m = t.room.lent in omega arith) in (
      s.made,
      assemble p.config p.direction (progress p) x (record x.counts { unasked = x.counts.unasked + length (joined x.hold.lent) }) (lent_passed x.hold) t
          (counts_passed p.config p.direction (course p) (progress p).taken.body x.hold x.counts r u t.hold l t.counts)
          (hold_passed p.config p.direction (course p) (progress p).taken.body x.hold r u t.hold l)
          t.room.lent few,
    )

pub release_holds : (p : Past) (x y : Half) → StandsFor p x → y ≡ released_in x → Holds p.config p.direction (record (progress p) { course = called Release (course p) }) y
release_holds p x y s e = subst (λ z. Holds p.config p.direction (record (progress p) { course = with_released (course p) }) z) (sym e) (by (course p).released refl)
  where
    t : Ties p.config p.direction (progress p) x
    t = s.ties

    to : (b : Bool) → lends_out x ≡ b → Holds p.config p.direction (record (progress p) { course = with_released (course p) })
        (record x { rule = record x.rule { released = true }; counts = counts_released b x; hold = hold_released b x })
        → Holds p.config p.direction (record (progress p) { course = with_released (course p) }) (released_in x)
    to b e h = subst (λ b. Holds p.config p.direction (record (progress p) { course = with_released (course p) })
        (record x { rule = record x.rule { released = true }; counts = counts_released b x; hold = hold_released b x })) (sym e) h

    by : (b : Bool) → (course p).released ≡ b → Holds p.config p.direction (record (progress p) { course = with_released (course p) }) (released_in x)
    by true r =
        to false (ap (λ b. not b && not x.rule.replaced) (t.rule.released ∙ r))
        (subst (λ b. Holds p.config p.direction (record (progress p) { course = record (course p) { released = b } }) (record x { rule = record x.rule { released = true } })) r
        (subst (λ b. Holds p.config p.direction (progress p) (record x { rule = record x.rule { released = b } })) (t.rule.released ∙ r) (s.made, t)))
    by false r =
        to (not (is_some (replacement p.direction (course p)))) (ap (λ b. not b && not x.rule.replaced) (t.rule.released ∙ r) ∙ ap not t.rule.replaced)
        (passed p x s r (is_some (replacement p.direction (course p))) refl)
