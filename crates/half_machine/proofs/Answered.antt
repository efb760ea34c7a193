-- A half of which the oldest ask out was answered.
use Rattle.std.proofs.Common.{refl, sym, ◌∙◌, ap, subst, arith, rules, length-append, length-drop}
use Rattle.std.proofs.lemmas.List.{drop-append-le, drop_all, length-map, length-take, map-append}
use Rattle.std.specs.Prelude.{ℕ, zero, suc, ◌≡◌, ◌+◌, ◌-◌, ◌*◌, ◌≤◌, ◌<◌, min, Bool, true, false, List, ◌∷◌, ◌++◌, Some, None, [], length, take, drop, map, filter, Option, option_map, if◌then◌else◌, nat_le}
use Rattle.ext_msgs.specs.declared.lists.Field.{Field}
use Rattle.ext_msgs.specs.declared.answer.Common.{Common}
use Rattle.header_mutation.specs.declared.rules.PartKind.TheVariants.{Trailers as TrailerPart}
use Rattle.http_model.specs.declared.types.Direction.{Direction}
use Rattle.body_hold.specs.Held.{Held}
use Rattle.filter_model.specs.Answers.{ask_of}
use Rattle.filter_model.specs.Config.{CourseConfig}
use Rattle.filter_model.specs.Course.{AskedPart, Outgoing, changed_head, bytes_in, is_body, is_trailers, under, out, answer_to}
use Rattle.filter_model.specs.Half.{Progress}
use Rattle.filter_model.proofs.CourseGrows.{with_answer, drop_more}
use Rattle.filter_model.proofs.Sounds.{join_sound}
use Rattle.half_machine.specs.Answering.{is_unhanded, ready_with}
use Rattle.half_machine.specs.Handing.{part_from, part_at}
use Rattle.half_machine.specs.Marks.{mark_of}
use Rattle.half_machine.specs.Pieces.{OfPieces, pieces_of}
use Rattle.half_machine.specs.Room.{OfRoom, most_back}
use Rattle.half_machine.specs.Stands.{AreKept, MadeWith, OfAnswers, OfCounts, OfHold, Ties, answered_first}
use Rattle.half_machine.specs.declared.facts.Counts.{Counts}
use Rattle.half_machine.specs.declared.facts.Ruled.{Ruled}
use Rattle.half_machine.specs.declared.half.Half.{Half}
use Rattle.half_machine.proofs.Handed.{part_is}
use Rattle.half_machine.proofs.Joining.{joined_asks}

abbrev pub joined : Common → Progress → Progress
joined a p = record p { course = with_answer a p.course }

-- The ask that is answered

pub marks_out : (c : CourseConfig) (d : Direction) (p : Progress) (x : Half) (q : AskedPart) (more : List AskedPart) → Ties c d p x → out p.course ≡ q ∷ more
    → x.marks ≡ mark_of q ∷ map mark_of more
marks_out c d p x q more t o = t.marks ∙ ap (map mark_of) o

pub lent_out : (c : CourseConfig) (d : Direction) (p : Progress) (x : Half) (q : AskedPart) (more : List AskedPart) → Ties c d p x → out p.course ≡ q ∷ more
    → x.hold.lent ≡ map bytes_in (filter is_body (q ∷ more))
lent_out c d p x q more t o = t.hold.lent ∙ ap (λ l. map bytes_in (filter is_body l)) o

first_same : (q r : AskedPart) → Some q ≡ Some r → q ≡ r
first_same q r e = ap (λ o. elim o [ Some x ↦ x | None ↦ q ]) e

oldest_part : (c : CourseConfig) (d : Direction) (p : Progress) (x : Half) (q : AskedPart) (more : List AskedPart) → Ties c d p x → out p.course ≡ q ∷ more
    → q ≡ part_at x (mark_of q) 0
oldest_part c d p x q more t o =
    first_same q (part_at x (mark_of q) 0)
    (part_is x.head x.arrived.framed x.trailers (q ∷ more) 0 (mark_of q) (subst (AreKept x.head x.arrived.framed x.trailers) o t.parts) refl
    ∙ ap (λ l. Some (part_from x.head x.arrived.framed x.trailers l (mark_of q) 0)) (sym (lent_out c d p x q more t o)))

-- What waits to be handed out

take_next : {A : Type 0} (xs : List A) (n : ℕ) (q : A) (more : List A) → drop n xs ≡ q ∷ more → take (suc n) xs ≡ take n xs ++ q ∷ []
take_next [] zero q more e = absurd cc
take_next [] (suc n) q more e = absurd cc
take_next (x ∷ xs) zero q more e = ap (λ l. elim l [ [] ↦ x ∷ [] | z ∷ zs ↦ z ∷ [] ]) e
take_next (x ∷ xs) (suc n) q more e = ap (λ l. x ∷ l) (take_next xs n q more e)

one_longer : {A : Type 0} (xs : List A) (x : A) → length (xs ++ x ∷ []) ≡ suc (length xs)
one_longer xs x = let e : length (xs ++ x ∷ []) ≡ length xs + 1 = length-append xs (x ∷ []) in omega arith

at_least : (a b : ℕ) → nat_le a b ≡ true → a ≤ b
at_least a b e = search rules

below : (a b : ℕ) → nat_le a b ≡ false → b < a
below a b e = search rules

ready_joined : (c : CourseConfig) (d : Direction) (p : Progress) (x : Half) (a : Common) (q : AskedPart) (more : List AskedPart) → MadeWith c d x → Ties c d p x → out p.course ≡ q ∷ more
    → ready_with (mark_of q) x ≡ answered_first d (with_answer a p.course) p.handed
ready_joined c d p x a q more m t o = by (is_unhanded x) refl
  where
    n : ℕ
    n = length p.course.answers

    asks : List AskedPart
    asks = p.course.asks

    count : length x.marks ≡ length asks - n
    count = ap length t.marks ∙ length-map (out p.course) mark_of ∙ length-drop n asks

    some : 1 ≤ length asks - n
    some = let e : length (drop n asks) ≡ length (q ∷ more) = ap length o in let l : length (drop n asks) ≡ length asks - n = length-drop n asks in omega arith

    first : take (length (p.course.answers ++ a ∷ [])) asks ≡ take n asks ++ q ∷ []
    first = ap (λ k. take k asks) (one_longer p.course.answers a) ∙ take_next asks n q more o

    size : length (take n asks) ≡ min n (length asks)
    size = length-take n asks

    ask : ask_of x.direction (part_at x (mark_of q) 0) ≡ ask_of d q
    ask = ap (λ w. ask_of w (part_at x (mark_of q) 0)) (sym m.direction) ∙ ap (ask_of d) (sym (oldest_part c d p x q more t o))

    by : (b : Bool) → is_unhanded x ≡ b → (if b then x.ready ++ ask_of x.direction (part_at x (mark_of q) 0) ∷ [] else x.ready) ≡ answered_first d (with_answer a p.course) p.handed
    by true e =
        let l : length x.marks ≤ x.asked.unhanded = at_least (length x.marks) x.asked.unhanded e in
        let h : x.asked.unhanded + p.handed ≡ length asks = t.asked.unhanded in
        let k = count in
        let s = some in
        let z = size in
        let early : p.handed ≤ length (take n asks) = omega arith in
        ap (λ r. r ++ ask_of x.direction (part_at x (mark_of q) 0) ∷ []) t.ready
        ∙ ap (λ r. map (ask_of d) (drop p.handed (take n asks)) ++ r ∷ []) ask
        ∙ sym (map-append (ask_of d) (drop p.handed (take n asks)) (q ∷ []))
        ∙ ap (map (ask_of d)) (sym (drop-append-le p.handed (take n asks) (q ∷ []) early))
        ∙ ap (λ l. map (ask_of d) (drop p.handed l)) (sym first)
    by false e =
        let l : x.asked.unhanded < length x.marks = below (length x.marks) x.asked.unhanded e in
        let h : x.asked.unhanded + p.handed ≡ length asks = t.asked.unhanded in
        let k = count in
        let s = some in
        let z = size in
        let f : length (take n asks ++ q ∷ []) ≡ length (take n asks) + 1 = length-append (take n asks) (q ∷ []) in
        let gone : length (take n asks) ≤ p.handed = omega arith in
        let late : length (take n asks ++ q ∷ []) ≤ p.handed = omega arith in
        t.ready ∙ ap (map (ask_of d)) (drop_all p.handed (take n asks) gone)
        ∙ ap (map (ask_of d)) (sym (drop_all p.handed (take n asks ++ q ∷ []) late))
        ∙ ap (λ l. map (ask_of d) (drop p.handed l)) (sym first)

-- All of a half

pub assemble : (c : CourseConfig) (d : Direction) (p : Progress) (x : Half) (a : Common) (q : AskedPart) (more : List AskedPart)
    (rule : Ruled) (counts : Counts) (hold : Held) (pieces : List ℕ) (head : Option (List Field)) (trailers : List Field)
    → MadeWith c d x → Ties c d p x → out p.course ≡ q ∷ more → p.course.released ≡ false
    → OfAnswers rule d (with_answer a p.course)
    → OfCounts counts d (with_answer a p.course) p.taken.body
    → OfHold hold c d (with_answer a p.course) p.taken.body
    → OfRoom hold c p.course.modes.headers p.course.asks p.course.original.body p.course.released
    → OfPieces pieces (pieces_of d (with_answer a p.course)) p.taken.body
    → counts.pieces + most_back c.answer_limit hold.lent ≤ c.buffer_limit + c.answer_limit * 4 + 131_072
    → head ≡ option_map (changed_head c d (with_answer a p.course)) p.course.original.head
    → ((o : Outgoing) → p.course.head ≡ Some o → head ≡ Some o.fields)
    → trailers ≡ under c TrailerPart p.course.original.trailers (answer_to is_trailers (with_answer a p.course))
    → AreKept head x.arrived.framed trailers more
    → counts.unasked ≤ x.counts.unasked
    → Ties c d (joined a p) (record x { rule = rule; counts = counts; hold = hold; pieces = pieces; marks = drop 1 x.marks; ready = ready_with (mark_of q) x; head = head; trailers = trailers })
assemble c d p x a q more rule counts hold pieces head trailers m t o r is_rule is_counts is_hold is_room is_pieces is_pieces_room is_head is_fields is_trailers are_kept fewer =
    let small = m.small in
    let limit = m.limit in
    let few = m.few_answers in
    let answers = m.answers in
    let less : out (with_answer a p.course) ≡ more = drop_more p.course.asks p.course.answers q more a o in
    record {
      arrived = t.arrived;
      rule = is_rule;
      asked = record { any = t.asked.any; body = t.asked.body; last = t.asked.last; trailers = t.asked.trailers; unsent = t.asked.unsent; unhanded = t.asked.unhanded; order = t.asked.order };
      ready = ready_joined c d p x a q more m t o;
      body_asks = joined_asks c p.course a q more t.sound o r t.body_asks;
      counts = is_counts;
      gone = record { framing = t.gone.framing; head = t.gone.head; trailers = t.gone.trailers; ended = t.gone.ended; early = t.gone.early };
      hold = is_hold;
      room = is_room;
      pieces = is_pieces;
      pieces_fit = omega arith;
      pieces_room = λ u. is_pieces_room;
      marks = ap (drop 1) (marks_out c d p x q more t o) ∙ ap (map mark_of) (sym less);
      head = is_head;
      fields = is_fields;
      trailers = is_trailers;
      parts = subst (AreKept head x.arrived.framed trailers) (sym less) are_kept;
      few = let f = t.few in omega arith;
      sound = join_sound c p.course a q more t.sound o;
    }
