-- A half chooses its head where the head is chosen by its past.
use Rattle.std.proofs.Common.{refl, sym, ◌∙◌, ap, subst, arith, append-nil}
use Rattle.std.specs.Prelude.{ℕ, ◌≡◌, ◌+◌, ◌-◌, Bool, true, false, not, ◌&&◌, ◌||◌, List, ◌++◌, Some, None, [], length, drop, Option, is_some, is_none, option_map, if◌then◌else◌}
use Rattle.ext_msgs.specs.declared.lists.Field.{Field}
use Rattle.ext_msgs.specs.declared.modes.PartModes.{PartModes}
use Rattle.http_model.specs.Bytes.{is_empty}
use Rattle.http_model.specs.Heads.{is_bodiless}
use Rattle.http_model.specs.declared.types.Direction.{Direction}
use Rattle.http_model.specs.declared.types.Framing.TheVariants.{NoField, Length as OfLength}
use Rattle.filter_model.specs.Config.{CourseConfig}
use Rattle.filter_model.specs.Course.{Course, Outgoing, changed_at, changed_head, body_of, is_body, is_bare, is_buffered, is_no_ask, is_settled, mode, answer_to, replacement, framing_of, framing_at, framing_by, kept_framing, outgoing, head_may_go, committed, one_asked, asked}
use Rattle.filter_model.specs.Half.{Progress}
use Rattle.filter_model.proofs.Sounds.{commit_sound}
use Rattle.half_machine.specs.Facts.{mode_in, settled_in}
use Rattle.half_machine.specs.Stands.{MadeWith, Ties, OfAnswers, OfHold, piece_bytes, flow, left_hand}
use Rattle.half_machine.specs.Asking.{Tied, passes, may_ask, due_of, with_next, one_asked_in}
use Rattle.half_machine.specs.Choosing.{may_go, kept_framing_in, framing_in, chosen_in, IsChosen, Holds}
use Rattle.half_machine.specs.declared.due.Due.{Due}
use Rattle.half_machine.specs.declared.due.Due.TheVariants as due
use Rattle.body_hold.specs.Held.{Held}
use Rattle.half_machine.specs.declared.facts.Ruled.{Ruled}
use Rattle.half_machine.specs.declared.half.Half.{Half}
use Rattle.half_machine.proofs.AskedBody.{chosen_asks}
use Rattle.half_machine.proofs.Seen.{mode_is, settled_is}
use Rattle.half_machine.proofs.Permit.{left_over, one_asked_ties}

may_go_is : (c : CourseConfig) (d : Direction) (p : Progress) (x : Half) → Ties c d p x → may_go x ≡ head_may_go p.course
may_go_is c d p x t =
    let w : Course = p.course in
    ap (λ b. b || (settled_in x.arrived x.rule && (not (is_buffered (mode_in x.rule)) || is_bodiless x.arrived.framed || x.rule.body_answered))) t.rule.released
    ∙ ap (λ b. w.released || (b && (not (is_buffered (mode_in x.rule)) || is_bodiless x.arrived.framed || x.rule.body_answered))) (settled_is x.arrived x.rule d w t.arrived t.rule)
    ∙ ap (λ m. w.released || (is_settled w && (not (is_buffered m) || is_bodiless x.arrived.framed || x.rule.body_answered))) (mode_is x.rule d w t.rule)
    ∙ ap (λ n. w.released || (is_settled w && (not (is_buffered (mode w)) || is_bodiless n || x.rule.body_answered))) t.arrived.framed
    ∙ ap (λ b. w.released || (is_settled w && (not (is_buffered (mode w)) || is_bodiless w.original.length || b))) t.rule.body

-- The framing

not_twice : (e : Bool) → not (not e) ≡ e
not_twice true = refl
not_twice false = refl

kept_is : (c : CourseConfig) (d : Direction) (p : Progress) (x : Half) → Ties c d p x → p.course.given ≡ 0 → kept_framing_in x ≡ kept_framing p.course
kept_is c d p x t z =
    let w : Course = p.course in
    let n : x.counts.pieces ≡ piece_bytes w = t.counts.pieces ∙ ap (λ g. piece_bytes w - g) z ∙ minus (piece_bytes w) in
    ap (λ (m : PartModes). if is_buffered m.body && x.rule.body_answered && not x.arrived.trailers then OfLength x.counts.pieces
    else framing_by x.arrived.framed (is_no_ask (mode_in x.rule) || is_bodiless x.arrived.framed)) t.rule.modes
    ∙ ap (λ b. if is_buffered w.modes.body && b && not x.arrived.trailers then OfLength x.counts.pieces
    else framing_by x.arrived.framed (is_no_ask (mode_in x.rule) || is_bodiless x.arrived.framed)) t.rule.body
    ∙ ap (λ b. if is_buffered w.modes.body && is_some (answer_to is_body w) && b then OfLength x.counts.pieces
    else framing_by x.arrived.framed (is_no_ask (mode_in x.rule) || is_bodiless x.arrived.framed)) (ap not t.arrived.trailers ∙ not_twice (is_empty w.original.trailers))
    ∙ ap (λ k. if is_buffered w.modes.body && is_some (answer_to is_body w) && is_empty w.original.trailers then OfLength k
    else framing_by x.arrived.framed (is_no_ask (mode_in x.rule) || is_bodiless x.arrived.framed)) n
    ∙ ap (λ l. if is_buffered w.modes.body && is_some (answer_to is_body w) && is_empty w.original.trailers then OfLength (piece_bytes w)
    else framing_by l (is_no_ask (mode_in x.rule) || is_bodiless l)) t.arrived.framed
    ∙ ap (λ m. if is_buffered w.modes.body && is_some (answer_to is_body w) && is_empty w.original.trailers then OfLength (piece_bytes w)
    else framing_by w.original.length (is_no_ask m || is_bodiless w.original.length)) (mode_is x.rule d w t.rule)
  where
    minus : (n : ℕ) → n - 0 ≡ n
    minus n = omega arith

-- the body that takes the place of the whole one waits to go out
replaced_length : (c : CourseConfig) (d : Direction) (p : Progress) (x : Half) (b : List ℕ) → Ties c d p x → p.taken.body ≡ 0 → replacement d p.course ≡ Some b → length x.hold.out ≡ length b
replaced_length c d p x b t z e =
    let l : p.taken.body + (length x.hold.out + (if passes x then length x.hold.hand else 0)) ≡ length (flow c d p.course) = left_over c d p x t in
    let h : length x.hold.hand ≡ 0 = ap length (t.hold.hand ∙ ap (λ r. if is_some r then [] else drop (left_hand p.course (p.taken.body + length x.hold.out)) p.course.original.body) e) in
    let n : (if passes x then length x.hold.hand else 0) ≡ 0 = none (passes x) (length x.hold.hand) h in
    let f : length (flow c d p.course) ≡ length b =
    ap (λ r. length (body_of (changed_at c p.course (Some (record { fields = []; framing = NoField })) r))) e
    ∙ ap length (append-nil (b ++ []) ∙ append-nil b) in
    omega arith
  where
    none : (q : Bool) (n : ℕ) → n ≡ 0 → (if q then n else 0) ≡ 0
    none true n e = e
    none false n e = refl

framing_is : (c : CourseConfig) (d : Direction) (p : Progress) (x : Half) (h : List Field) → MadeWith c d x → Ties c d p x → p.course.head ≡ None → p.course.original.head ≡ Some h
    → framing_in x ≡ framing_of d p.course h
framing_is c d p x h m t n e =
    ap (λ q. if is_bare q x.arrived.framed then x.arrived.own else if x.rule.replaced then OfLength (length x.hold.out) else kept_framing_in x) (sym m.direction)
    ∙ ap (λ l. if is_bare d l then x.arrived.own else if x.rule.replaced then OfLength (length x.hold.out) else kept_framing_in x) t.arrived.framed
    ∙ ap (λ b. if is_bare d p.course.original.length then x.arrived.own else if b then OfLength (length x.hold.out) else kept_framing_in x) t.rule.replaced
    ∙ by (is_bare d p.course.original.length) (replacement d p.course) refl
  where
    none_taken : p.taken.body ≡ 0
    none_taken = t.gone.early n

    none_given : p.course.given ≡ 0
    none_given = let g = t.counts.waiting in let z = none_taken in omega arith

    by : (bare : Bool) (r : Option (List ℕ)) → replacement d p.course ≡ r
        → (if bare then x.arrived.own else if is_some r then OfLength (length x.hold.out) else kept_framing_in x) ≡ framing_at bare h r (kept_framing p.course)
    by true r i = t.arrived.own h e
    by false (Some b) i = ap OfLength (replaced_length c d p x b t none_taken i)
    by false None i = kept_is c d p x t none_given

-- What the head, the counts of what was sent and given don't touch

pub rule_aside : (r : Ruled) (d : Direction) (w : Course) (o : Option Outgoing) (n g : ℕ) → OfAnswers r d w → OfAnswers r d (record w { head = o; sent = n; given = g })
rule_aside r d w o n g s = record {
  modes = s.modes;
  released = s.released;
  stopped = s.stopped;
  passes = s.passes;
  replaced = s.replaced;
  headers = s.headers;
  body = s.body;
}

pub hold_aside : (h : Held) (c : CourseConfig) (d : Direction) (w : Course) (handed : ℕ) (o : Option Outgoing) (n g : ℕ) → OfHold h c d w handed
    → OfHold h c d (record w { head = o; sent = n; given = g }) handed
hold_aside h c d w handed o n g s = record {
  lent = s.lent;
  hand = s.hand;
  out = s.out ∙ ap (drop handed) (sym (flow_aside c d w o n g));
  pieces_first = s.pieces_first;
  within = s.within;
  there = let e : length (flow c d (record w { head = o; sent = n; given = g })) ≡ length (flow c d w) = ap length (flow_aside c d w o n g) in let t = s.there in omega arith;
  idle = s.idle;
  hand_fits = s.hand_fits;
  lent_fits = s.lent_fits;
}
  where
    flow_aside : (c : CourseConfig) (d : Direction) (w : Course) (o : Option Outgoing) (n g : ℕ) → flow c d (record w { head = o; sent = n; given = g }) ≡ flow c d w
    flow_aside c d w o n g = by (replacement d w)
      where
        by : (r : Option (List ℕ)) → body_of (changed_at c (record w { head = o; sent = n; given = g }) (Some (record { fields = []; framing = NoField })) r)
            ≡ body_of (changed_at c w (Some (record { fields = []; framing = NoField })) r)
        by (Some b) = refl
        by None = refl

-- The choice

chosen : (c : CourseConfig) (d : Direction) (p : Progress) (x : Half) (h : List Field) → MadeWith c d x → Ties c d p x → p.course.head ≡ None → p.course.original.head ≡ Some h
    → (committed c d p.course).head ≡ Some (outgoing c d p.course h)
    → Ties c d (record p { course = committed c d p.course }) (record x { gone = record x.gone { framing = Some (framing_in x) } })
unfolding committed
chosen c d p x h m t n e f = record {
  arrived = t.arrived;
  rule = rule_aside x.rule d p.course (committed c d p.course).head p.course.sent p.course.given t.rule;
  asked = record { any = t.asked.any; body = t.asked.body; last = t.asked.last; trailers = t.asked.trailers; unsent = t.asked.unsent; unhanded = t.asked.unhanded; order = t.asked.order };
  ready = t.ready;
  body_asks = chosen_asks c d p.course t.body_asks;
  counts = record { unasked = t.counts.unasked; pieces = t.counts.pieces; waiting = t.counts.waiting };
  gone = record {
    framing = ap Some (framing_is c d p x h m t n e) ∙ ap (option_map (λ (o : Outgoing). o.framing)) (sym f);
    head = t.gone.head;
    trailers = t.gone.trailers;
    ended = t.gone.ended;
    early = λ z. t.gone.early n;
  };
  hold = hold_aside x.hold c d p.course p.taken.body (committed c d p.course).head p.course.sent p.course.given t.hold;
  room = t.room;
  pieces = t.pieces;
  pieces_fit = t.pieces_fit;
  pieces_room = t.pieces_room;
  marks = t.marks;
  head = t.head;
  fields = λ o z. t.head ∙ ap (option_map (changed_head c d p.course)) e ∙ ap (option_map (λ (o : Outgoing). o.fields)) (sym f ∙ z);
  trailers = t.trailers;
  parts = t.parts;
  few = t.few;
  sound = commit_sound c d p.course t.sound;
}

unchosen : (c : CourseConfig) (d : Direction) (p : Progress) (x : Half) → (committed c d p.course).head ≡ p.course.head → Ties c d p x → Ties c d (record p { course = committed c d p.course }) x
unfolding committed
unchosen c d p x e t = subst (λ o. Ties c d (record p { course = record p.course { head = o } }) x) (sym e) t

chosen_ties : (c : CourseConfig) (d : Direction) (p : Progress) (x : Half) → MadeWith c d x → Ties c d p x → Ties c d (record p { course = committed c d p.course }) (chosen_in x)
unfolding committed
chosen_ties c d p x m t = by p.course.head p.course.original.head (head_may_go p.course) refl refl refl
  where
    test : not (is_some x.gone.framing) && may_go x && x.arrived.head ≡ (not (is_some p.course.head) && head_may_go p.course && is_some p.course.original.head)
    test =
        ap (λ b. not b && may_go x && x.arrived.head) (ap is_some t.gone.framing ∙ some_same p.course.head)
        ∙ ap (λ b. not (is_some p.course.head) && b && x.arrived.head) (may_go_is c d p x t)
        ∙ ap (λ b. not (is_some p.course.head) && head_may_go p.course && b) t.arrived.head
      where
        some_same : (o : Option Outgoing) → is_some (option_map (λ (o : Outgoing). o.framing) o) ≡ is_some o
        some_same None = refl
        some_same (Some o) = refl

    to : (b : Bool) → (not (is_some x.gone.framing) && may_go x && x.arrived.head) ≡ b
        → Ties c d (record p { course = committed c d p.course }) (if b then record x { gone = record x.gone { framing = Some (framing_in x) } } else x)
        → Ties c d (record p { course = committed c d p.course }) (chosen_in x)
    to b e s = subst (λ q. Ties c d (record p { course = committed c d p.course }) (if q then record x { gone = record x.gone { framing = Some (framing_in x) } } else x)) (sym e) s

    by : (o : Option Outgoing) (h : Option (List Field)) (g : Bool) → p.course.head ≡ o → p.course.original.head ≡ h → head_may_go p.course ≡ g
        → Ties c d (record p { course = committed c d p.course }) (chosen_in x)
    by (Some o) h g e f k =
        to false (test ∙ ap (λ z. not (is_some z) && head_may_go p.course && is_some p.course.original.head) e)
        (unchosen c d p x (ap (λ z. if is_none z && head_may_go p.course then option_map (outgoing c d p.course) p.course.original.head else p.course.head) e) t)
    by None h false e f k =
        to false (test ∙ ap (λ z. not (is_some z) && head_may_go p.course && is_some p.course.original.head) e ∙ ap (λ z. z && is_some p.course.original.head) k)
        (unchosen c d p x (ap (λ z. if is_none z && head_may_go p.course then option_map (outgoing c d p.course) p.course.original.head else p.course.head) e
        ∙ ap (λ z. if z then option_map (outgoing c d p.course) p.course.original.head else p.course.head) k) t)
    by None None true e f k =
        to false (test ∙ ap (λ z. not (is_some z) && head_may_go p.course && is_some p.course.original.head) e ∙ ap (λ z. z && is_some p.course.original.head) k ∙ ap is_some f)
        (unchosen c d p x (ap (λ z. if is_none z && head_may_go p.course then option_map (outgoing c d p.course) p.course.original.head else p.course.head) e
        ∙ ap (λ z. if z then option_map (outgoing c d p.course) p.course.original.head else p.course.head) k ∙ ap (option_map (outgoing c d p.course)) f ∙ sym e) t)
    by None (Some h) true e f k =
        to true (test ∙ ap (λ z. not (is_some z) && head_may_go p.course && is_some p.course.original.head) e ∙ ap (λ z. z && is_some p.course.original.head) k ∙ ap is_some f)
        (chosen c d p x h m t e f (ap (λ z. if is_none z && head_may_go p.course then option_map (outgoing c d p.course) p.course.original.head else p.course.head) e
        ∙ ap (λ z. if z then option_map (outgoing c d p.course) p.course.original.head else p.course.head) k ∙ ap (option_map (outgoing c d p.course)) f))

-- What it was made with stays

chosen_made : (c : CourseConfig) (d : Direction) (x : Half) → MadeWith c d x → MadeWith c d (chosen_in x)
chosen_made c d x m = by (not (is_some x.gone.framing) && may_go x && x.arrived.head)
  where
    by : (b : Bool) → MadeWith c d (if b then record x { gone = record x.gone { framing = Some (framing_in x) } } else x)
    by true = m
    by false = m

asked_made : (c : CourseConfig) (d : Direction) (x : Half) → MadeWith c d x → MadeWith c d (one_asked_in x)
asked_made c d x m = by (may_ask x) (due_of x)
  where
    by : (b : Bool) (o : Option Due) → MadeWith c d (if b then with_next o x else x)
    by false o = m
    by true None = m
    by true (Some due.Headers) = m
    by true (Some (due.Body n last)) = m
    by true (Some due.Trailers) = m

pub choose_holds : (c : CourseConfig) (d : Direction) (p : Progress) (x y : Half) → y ≡ chosen_in x → Holds c d p x → Holds c d (record p { course = committed c d p.course }) y
choose_holds c d p x y e h = subst (λ z. Holds c d (record p { course = committed c d p.course }) z) (sym e) (chosen_made c d x h.0, chosen_ties c d p x h.0 h.1)

pub choose_chosen : (x y : Half) → y ≡ chosen_in x → IsChosen y
choose_chosen x y e = subst IsChosen (sym e) (by (not (is_some x.gone.framing) && may_go x && x.arrived.head) refl)
  where
    by : (b : Bool) → (not (is_some x.gone.framing) && may_go x && x.arrived.head) ≡ b → IsChosen (if b then record x { gone = record x.gone { framing = Some (framing_in x) } } else x)
    by true i = refl
    by false i = i

pub ask_chosen : (x y : Half) → y ≡ one_asked_in x → IsChosen x → IsChosen y
ask_chosen x y e k = subst IsChosen (sym e) (by (may_ask x) (due_of x))
  where
    by : (b : Bool) (o : Option Due) → IsChosen (if b then with_next o x else x)
    by false o = k
    by true None = k
    by true (Some a) = k

pub ask_holds : (c : CourseConfig) (d : Direction) (p : Progress) (x y : Half) → y ≡ one_asked_in x → IsChosen x → Holds c d p x → Holds c d (record p { course = one_asked c d p.course }) y
ask_holds c d p x y e k h = subst (λ z. Holds c d (record p { course = one_asked c d p.course }) z) (sym e) (asked_made c d x h.0, one_asked_ties c d p x h.0 h.1 k)

pub go_on_holds : (c : CourseConfig) (d : Direction) (p : Progress) (y : Half) → (w : Course) → w ≡ committed c d p.course
    → Holds c d (record p { course = one_asked c d (one_asked c d (one_asked c d (one_asked c d w))) }) y → Holds c d (record p { course = asked c d (committed c d p.course) }) y
unfolding asked
go_on_holds c d p y w e h = subst (λ w. Holds c d (record p { course = one_asked c d (one_asked c d (one_asked c d (one_asked c d w))) }) y) e h

pub choose_tied : (x y : Half) → y ≡ chosen_in x → Tied x → Tied y × IsChosen y
choose_tied x y e q =
    let h = choose_holds q.0 q.1 q.2 x y e (q.3, q.4) in
    ((q.0, q.1, record q.2 { course = committed q.0 q.1 q.2.course }, h.0, h.1), choose_chosen x y e)

pub ask_tied : (x y : Half) → y ≡ one_asked_in x → Tied x × IsChosen x → Tied y × IsChosen y
ask_tied x y e (q, k) =
    let h = ask_holds q.0 q.1 q.2 x y e k (q.3, q.4) in
    ((q.0, q.1, record q.2 { course = one_asked q.0 q.1 q.2.course }, h.0, h.1), ask_chosen x y e k)

pub tied : (c : CourseConfig) (d : Direction) (p : Progress) (x : Half) → Holds c d p x → Tied x
tied c d p x h = (c, d, p, h.0, h.1)
