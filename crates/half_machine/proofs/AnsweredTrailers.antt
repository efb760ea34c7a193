-- A half whose oldest ask out was that of the trailers, and was answered.
use Rattle.std.proofs.Common.{inl, refl, sym, ◌∙◌, ap, subst, arith, append-nil, length-append}
use Rattle.std.proofs.lemmas.List.{drop-append-le}
use Rattle.std.specs.Prelude.{ℕ, ◌≡◌, ◌+◌, ◌-◌, ◌≤◌, Bool, true, false, ◌||◌, List, ◌∷◌, ◌++◌, Some, None, [], length, drop, map, filter, flat_map, Option, is_some, if◌then◌else◌}
use Rattle.ext_msgs.specs.declared.answer.Common.{Common}
use Rattle.ext_msgs.specs.declared.lists.Field.{Field}
use Rattle.header_mutation.specs.Mutated.{mutated}
use Rattle.header_mutation.specs.declared.rules.PartKind.TheVariants.{Trailers as TrailerPart}
use Rattle.http_model.specs.declared.types.Direction.{Direction}
use Rattle.http_model.specs.declared.types.Framing.TheVariants.{NoField}
use Rattle.filter_model.specs.Config.{CourseConfig}
use Rattle.filter_model.specs.Course.{Course, AskedPart, Trailers, changed_at, body_of, fields_or, under, is_body, is_headers, is_trailers, is_passing, out, pairs, bytes_in, asked_bytes, answered_bytes, answered_pieces, answer_to, replaces, replacement, unasked}
use Rattle.filter_model.specs.Half.{Progress}
use Rattle.filter_model.proofs.CourseGrows.{with_answer, answer_kept, drop_more, passing_kept}
use Rattle.half_machine.specs.Answering.{with_trailers_answer}
use Rattle.half_machine.specs.Judging.{trailers_under}
use Rattle.half_machine.specs.Pieces.{OfPieces, pieces_of, pieces_by}
use Rattle.half_machine.specs.Stands.{AreKept, MadeWith, OfHold, Ties, flow, left_hand, piece_bytes}
use Rattle.half_machine.specs.declared.half.Half.{Half}
use Rattle.half_machine.proofs.Answered.{joined as answered, assemble, lent_out}
use Rattle.half_machine.proofs.AnsweredBody.{head_piece, all_back}
use Rattle.half_machine.proofs.AtHand.{flow_kept, pieces_left, rest_at_hand}
use Rattle.half_machine.proofs.Coming.{no_hand, other_trailers}
use Rattle.half_machine.proofs.Joining.{answer_first, once_past, unanswered_out, stopped_by, replacement_stays, same_answered, same_pieces}
use Rattle.half_machine.proofs.Lending.{hand_kept, left_kept}

clash : true ≡ false → ⊥
clash e = cc

-- The bytes stay

same_bytes : (w : Course) (a : Common) (f : List Field) (more : List AskedPart) → out w ≡ Trailers f ∷ more → piece_bytes (with_answer a w) ≡ piece_bytes w
same_bytes w a f more o = ap (λ l. length (flat_map (λ p. p) l)) (same_pieces w a (Trailers f) more o refl)

same_unasked : (d : Direction) (w : Course) (a : Common) (f : List Field) (more : List AskedPart) → out w ≡ Trailers f ∷ more → unasked d (with_answer a w) ≡ unasked d w
same_unasked d w a f more o =
    ap (λ r. by r (answered_bytes (pairs (with_answer a w))) (answered_pieces (with_answer a w))) (replacement_stays d w a (Trailers f) more o refl)
    ∙ ap (λ n. by (replacement d w) n (answered_pieces (with_answer a w))) (same_answered w a (Trailers f) more o refl)
    ∙ ap (λ l. by (replacement d w) (answered_bytes (pairs w)) l) (same_pieces w a (Trailers f) more o refl)
  where
    by : Option (List ℕ) → ℕ → List (List ℕ) → ℕ
    by r n l = if is_some r then 0 else length w.original.body - (if w.released then n else asked_bytes w.asks) - (w.given - length (flat_map (λ p. p) l))

lent_stays : (c : CourseConfig) (d : Direction) (p : Progress) (x : Half) (a : Common) (f : List Field) (more : List AskedPart) → Ties c d p x → out p.course ≡ Trailers f ∷ more
    → x.hold.lent ≡ map bytes_in (filter is_body (out (with_answer a p.course)))
lent_stays c d p x a f more t o =
    lent_out c d p x (Trailers f) more t o ∙ ap (λ z. map bytes_in (filter is_body z)) (sym (drop_more p.course.asks p.course.answers (Trailers f) more a o))

neither : (q : Bool) (h : List ℕ) → h ≡ [] → (if q then h else []) ≡ []
neither true h e = e
neither false h e = refl

hold_replaced : (c : CourseConfig) (d : Direction) (p : Progress) (x : Half) (a : Common) (f : List Field) (more : List AskedPart) → Ties c d p x → out p.course ≡ Trailers f ∷ more
    → is_some (replacement d p.course) ≡ true → OfHold x.hold c d (with_answer a p.course) p.taken.body
hold_replaced c d p x a f more t o e =
    let w : Course = p.course in
    let s : OfHold x.hold c d w p.taken.body = t.hold in
    let none : x.hold.hand ≡ [] = no_hand c d p x t e in
    let some : is_some (replacement d (with_answer a w)) ≡ true = ap is_some (replacement_stays d w a (Trailers f) more o refl) ∙ e in
    let same : flow c d (with_answer a w) ≡ flow c d w = flow_same in
    record {
      lent = lent_stays c d p x a f more t o;
      hand = none ∙ sym (ap (λ q. if q then [] else drop (left_hand (with_answer a w) (p.taken.body + length x.hold.out)) w.original.body) some);
      out = ap (λ z. x.hold.out ++ z) (neither (is_passing (with_answer a w)) x.hold.hand none ∙ sym (neither (is_passing w) x.hold.hand none)) ∙ s.out ∙ ap (drop p.taken.body) (sym same);
      pieces_first = λ z. absurd (clash (sym some ∙ z));
      within = λ z. absurd (clash (sym some ∙ z));
      there = let l : length (flow c d (with_answer a w)) ≡ length (flow c d w) = ap length same in let n = s.there in omega arith;
      idle = λ z u. absurd (clash (sym some ∙ u));
      hand_fits = s.hand_fits;
      lent_fits = s.lent_fits;
    }
  where
    flow_same : flow c d (with_answer a p.course) ≡ flow c d p.course
    flow_same =
        ap (λ r. body_of (changed_at c (with_answer a p.course) (Some (record { fields = []; framing = NoField })) r)) (replacement_stays d p.course a (Trailers f) more o refl)
        ∙ by (replacement d p.course) e
      where
        by : (r : Option (List ℕ)) → is_some r ≡ true → body_of (changed_at c (with_answer a p.course) (Some (record { fields = []; framing = NoField })) r)
            ≡ body_of (changed_at c p.course (Some (record { fields = []; framing = NoField })) r)
        by (Some b) e = refl
        by None e = absurd (clash (sym e))

hold_kept : (c : CourseConfig) (d : Direction) (p : Progress) (x : Half) (a : Common) (f : List Field) (more : List AskedPart) → Ties c d p x → out p.course ≡ Trailers f ∷ more
    → p.course.released ≡ false → is_some (replacement d p.course) ≡ false → OfHold x.hold c d (with_answer a p.course) p.taken.body
hold_kept c d p x a f more t o r e =
    let w : Course = p.course in
    let s : OfHold x.hold c d w p.taken.body = t.hold in
    let keeps : is_some (replacement d (with_answer a w)) ≡ false = ap is_some (replacement_stays d w a (Trailers f) more o refl) ∙ e in
    let at : ℕ = p.taken.body + length x.hold.out in
    let bytes : piece_bytes (with_answer a w) ≡ piece_bytes w = same_bytes w a f more o in
    let left : left_hand (with_answer a w) at ≡ left_hand w at =
    left_kept (with_answer a w) at r ∙ ap (λ n. asked_bytes w.asks + (at - n)) bytes ∙ sym (left_kept w at r) in
    record {
      lent = lent_stays c d p x a f more t o;
      hand = s.hand ∙ hand_kept d w at e ∙ ap (λ n. drop n w.original.body) (sym left) ∙ sym (hand_kept d (with_answer a w) at keeps);
      out = (goes_out keeps).0;
      pieces_first = λ z. let n = s.pieces_first e in omega arith;
      within = λ z. let n = s.within e in omega arith;
      there = (goes_out keeps).1;
      idle = λ z u. s.idle z e;
      hand_fits = s.hand_fits;
      lent_fits = s.lent_fits;
    }
  where
    front : List ℕ
    front = flat_map (λ p. p) (answered_pieces p.course)

    tail : Bool → List ℕ
    tail q = if q then drop (answered_bytes (pairs (with_answer a p.course))) p.course.original.body else []

    flow_is : is_some (replacement d (with_answer a p.course)) ≡ false → flow c d (with_answer a p.course) ≡ front ++ tail (is_passing (with_answer a p.course))
    flow_is k =
        flow_kept c d (with_answer a p.course) k
        ∙ ap (λ l. flat_map (λ p. p) l ++ tail (is_passing (with_answer a p.course))) (same_pieces p.course a (Trailers f) more o refl)

    -- it passed before: it passes on
    on : is_passing p.course ≡ true → is_some (replacement d (with_answer a p.course)) ≡ false → flow c d (with_answer a p.course) ≡ flow c d p.course
    on q k =
        flow_is k ∙ ap (λ b. front ++ tail b) (passing_kept p.course a (Trailers f) more r o refl q)
        ∙ ap (λ n. front ++ drop n p.course.original.body) (same_answered p.course a (Trailers f) more o refl)
        ∙ sym (flow_kept c d p.course e ∙ ap (λ b. front ++ (if b then drop (answered_bytes (pairs p.course)) p.course.original.body else [])) q)

    dry : is_passing p.course ≡ false → x.hold.out ≡ drop p.taken.body front
    dry q =
        sym (append-nil x.hold.out) ∙ ap (λ z. x.hold.out ++ (if z then x.hold.hand else [])) (sym q) ∙ t.hold.out
        ∙ ap (drop p.taken.body)
        (flow_kept c d p.course e ∙ ap (λ z. front ++ (if z then drop (answered_bytes (pairs p.course)) p.course.original.body else [])) q ∙ append-nil front)

    tails : is_passing p.course ≡ false → (b : Bool) → is_passing (with_answer a p.course) ≡ b → (if b then x.hold.hand else []) ≡ tail b
    tails q true i = rest_at_hand c d p.course x.hold p.taken.body t.hold r e q ∙ ap (λ n. drop n p.course.original.body) (sym (all_back p.course a r i))
    tails q false i = refl

    goes_out : is_some (replacement d (with_answer a p.course)) ≡ false
        → (x.hold.out ++ (if is_passing (with_answer a p.course) then x.hold.hand else []) ≡ drop p.taken.body (flow c d (with_answer a p.course)))
        × (p.taken.body ≤ length (flow c d (with_answer a p.course)))
    goes_out k = by (is_passing p.course) refl
      where
        by : (q : Bool) → is_passing p.course ≡ q
            → (x.hold.out ++ (if is_passing (with_answer a p.course) then x.hold.hand else []) ≡ drop p.taken.body (flow c d (with_answer a p.course)))
            × (p.taken.body ≤ length (flow c d (with_answer a p.course)))
        by true q = (
          ap (λ b. x.hold.out ++ (if b then x.hold.hand else [])) (passing_kept p.course a (Trailers f) more r o refl q ∙ sym q) ∙ t.hold.out ∙ ap (drop p.taken.body) (sym (on q k)),
          (let l : length (flow c d (with_answer a p.course)) ≡ length (flow c d p.course) = ap length (on q k) in let n = t.hold.there in omega arith),
        )
        by false q =
            let at : p.taken.body + length x.hold.out ≡ length front = pieces_left c d p.course x.hold p.taken.body t.hold e q in
            let l : length (flow c d (with_answer a p.course)) ≡ length front + length (tail (is_passing (with_answer a p.course))) =
            ap length (flow_is k) ∙ length-append front (tail (is_passing (with_answer a p.course))) in
            let within : p.taken.body ≤ length front = omega arith in (
              ap (λ z. x.hold.out ++ z) (tails q (is_passing (with_answer a p.course)) refl)
                  ∙ ap (λ z. z ++ tail (is_passing (with_answer a p.course))) (dry q)
                  ∙ sym (drop-append-le p.taken.body front (tail (is_passing (with_answer a p.course))) within)
                  ∙ ap (drop p.taken.body) (sym (flow_is k)),
              omega arith,
            )

hold_trailers : (c : CourseConfig) (d : Direction) (p : Progress) (x : Half) (a : Common) (f : List Field) (more : List AskedPart) → Ties c d p x → out p.course ≡ Trailers f ∷ more
    → p.course.released ≡ false → OfHold x.hold c d (with_answer a p.course) p.taken.body
hold_trailers c d p x a f more t o r = by (is_some (replacement d p.course)) refl
  where
    by : (b : Bool) → is_some (replacement d p.course) ≡ b → OfHold x.hold c d (with_answer a p.course) p.taken.body
    by true e = hold_replaced c d p x a f more t o e
    by false e = hold_kept c d p x a f more t o r e

pieces_trailers : (c : CourseConfig) (d : Direction) (p : Progress) (x : Half) (a : Common) (f : List Field) (more : List AskedPart) → Ties c d p x → out p.course ≡ Trailers f ∷ more
    → OfPieces (x.pieces ++ []) (pieces_of d (with_answer a p.course)) p.taken.body
pieces_trailers c d p x a f more t o =
    subst (λ l. OfPieces l (pieces_of d (with_answer a p.course)) p.taken.body) (sym (append-nil x.pieces))
    (subst (λ l. OfPieces x.pieces l p.taken.body)
    (sym (ap (λ r. pieces_by r (answered_pieces (with_answer a p.course))) (replacement_stays d p.course a (Trailers f) more o refl)
    ∙ ap (pieces_by (replacement d p.course)) (same_pieces p.course a (Trailers f) more o refl))) t.pieces)

-- All of a half
pub trailers_ties : (c : CourseConfig) (d : Direction) (p : Progress) (x : Half) (a : Common) (f : List Field) (more : List AskedPart) → MadeWith c d x → Ties c d p x → out p.course ≡ Trailers f ∷ more
    → p.course.released ≡ false → Ties c d (answered a p) (with_trailers_answer a x)
trailers_ties c d p x a f more m t o r =
    let w : Course = p.course in
    assemble c d p x a (Trailers f) more (record x.rule { stopped = x.rule.stopped || a.replace }) x.counts x.hold (x.pieces ++ []) x.head (trailers_under x a.headers) m t o r
    (record {
      modes = t.rule.modes;
      released = t.rule.released;
      stopped = ap (λ z. z || a.replace) t.rule.stopped ∙ sym (stopped_by w a);
      passes = t.rule.passes ∙ ap replaces (sym (answer_kept is_headers w a (Trailers f) more o refl));
      replaced = t.rule.replaced ∙ ap is_some (sym (replacement_stays d w a (Trailers f) more o refl));
      headers = t.rule.headers ∙ ap is_some (sym (answer_kept is_headers w a (Trailers f) more o refl));
      body = t.rule.body ∙ ap is_some (sym (answer_kept is_body w a (Trailers f) more o refl));
    })
    (record {
      unasked = t.counts.unasked ∙ sym (same_unasked d w a f more o);
      pieces = t.counts.pieces ∙ ap (λ n. n - w.given) (sym (same_bytes w a f more o));
      waiting = t.counts.waiting;
    })
    (hold_trailers c d p x a f more t o r) t.room (pieces_trailers c d p x a f more t o) (t.pieces_room r)
    (head_piece c d p x a (Trailers f) more t o refl (inl refl)) t.fields changed
    (other_trailers x.head x.arrived.framed x.trailers (trailers_under x a.headers) more (once_past is_trailers w a (Trailers f) more t.sound.once_trailers o refl)
    (subst (AreKept x.head x.arrived.framed x.trailers) o t.parts).1)
    (omega arith)
  where
    none : answer_to is_trailers p.course ≡ None
    none = unanswered_out is_trailers p.course (Trailers f) more t.sound.once_trailers o refl

    original : x.trailers ≡ p.course.original.trailers
    original = t.trailers ∙ ap (under c TrailerPart p.course.original.trailers) none

    changed : trailers_under x a.headers ≡ under c TrailerPart p.course.original.trailers (answer_to is_trailers (with_answer a p.course))
    changed =
        ap (λ l. fields_or l (mutated x.rules TrailerPart l a.headers)) original
        ∙ ap (λ q. fields_or p.course.original.trailers (mutated q TrailerPart p.course.original.trailers a.headers)) (sym m.rules)
        ∙ sym (ap (under c TrailerPart p.course.original.trailers) (answer_first is_trailers p.course a (Trailers f) more o refl none))
