-- A half makes an ask exactly where one is due and permitted.
use Rattle.std.proofs.Common.{refl, sym, ◌∙◌, ap, subst, arith, rules, append-nil, length-append, length-drop}
use Rattle.std.proofs.lemmas.List.{length-map}
use Rattle.std.specs.Prelude.{ℕ, ◌≡◌, ◌+◌, ◌-◌, min, Bool, true, false, not, ◌&&◌, ◌||◌, List, ◌∷◌, ◌++◌, Some, None, [], length, map, Option, is_some, option_map, option_to_list, if◌then◌else◌, nat_lt, nat_le}
use Rattle.std.specs.List.{list_any}
use Rattle.http_model.specs.declared.types.Direction.{Direction}
use Rattle.http_model.specs.declared.types.Framing.TheVariants.{NoField}
use Rattle.filter_model.specs.Config.{CourseConfig}
use Rattle.filter_model.specs.Course.{Course, AskedPart, Headers, Body, Trailers, Outgoing, changed, changed_at, body_of, is_body, is_stopped, is_passing, is_partial, is_no_ask, mode, out, replacement, queue, is_permitted, due, next, one_asked}
use Rattle.filter_model.specs.Half.{Progress}
use Rattle.filter_model.proofs.CourseGrows.{with_ask}
use Rattle.half_machine.specs.Facts.{mode_in}
use Rattle.half_machine.specs.Marks.{mark_of, is_of_body}
use Rattle.half_machine.specs.Due.{passing_in}
use Rattle.half_machine.specs.Stands.{MadeWith, Ties, flow}
use Rattle.half_machine.specs.Choosing.{IsChosen}
use Rattle.half_machine.specs.Asking.{due_of, passes, queued, may_ask, with_next, with_due, one_asked_in}
use Rattle.half_machine.specs.declared.due.Due.{Due}
use Rattle.half_machine.specs.declared.half.Half.{Half}
use Rattle.half_machine.proofs.Seen.{mode_is}
use Rattle.half_machine.proofs.NextAsk.{part, next_is_due}
use Rattle.half_machine.proofs.Making.{made_ties}

pub marks_body : (asks : List AskedPart) → list_any is_of_body (map mark_of asks) ≡ list_any is_body asks
marks_body [] = refl
marks_body (p ∷ asks) = ap (λ b. b || list_any is_of_body (map mark_of asks)) (one p) ∙ ap (λ b. is_body p || b) (marks_body asks)
  where
    one : (p : AskedPart) → is_of_body (mark_of p) ≡ is_body p
    one (Headers fields last) = refl
    one (Body bytes last) = refl
    one (Trailers fields) = refl

pub passes_is : (c : CourseConfig) (d : Direction) (p : Progress) (x : Half) → Ties c d p x → passes x ≡ is_passing p.course
passes_is c d p x t =
    let w : Course = p.course in
    ap (λ b. passing_in x.rule x.asked b) (ap (list_any is_of_body) t.marks ∙ marks_body (out w))
    ∙ ap (λ b. b || (not (list_any is_body (out w)) && (x.rule.stopped || is_no_ask (mode_in x.rule) || (is_partial (mode_in x.rule) && x.asked.body)))) t.rule.released
    ∙ ap (λ b. w.released || (not (list_any is_body (out w)) && (b || is_no_ask (mode_in x.rule) || (is_partial (mode_in x.rule) && x.asked.body)))) t.rule.stopped
    ∙ ap (λ m. w.released || (not (list_any is_body (out w)) && (is_stopped w || is_no_ask m || (is_partial m && x.asked.body)))) (mode_is x.rule d w t.rule)
    ∙ ap (λ b. w.released || (not (list_any is_body (out w)) && (is_stopped w || is_no_ask (mode w) || (is_partial (mode w) && b)))) t.asked.body

-- The queue

body_at_head : (c : CourseConfig) (w : Course) (h : Outgoing) (r : Option (List ℕ))
    → body_of (changed_at c w (Some h) r) ≡ body_of (changed_at c w (Some (record { fields = []; framing = NoField })) r)
body_at_head c w h (Some b) = refl
body_at_head c w h None = refl

pub changed_flow : (c : CourseConfig) (d : Direction) (w : Course) (h : Outgoing) → w.head ≡ Some h → body_of (changed c d w) ≡ flow c d w
unfolding changed
changed_flow c d w h e = ap (λ o. body_of (changed_at c w o (replacement d w))) e ∙ body_at_head c w h (replacement d w)

changed_nothing : (c : CourseConfig) (d : Direction) (w : Course) → w.head ≡ None → length (body_of (changed c d w)) ≡ 0
unfolding changed
changed_nothing c d w e = ap (λ o. length (body_of (changed_at c w o (replacement d w)))) e

-- what is out and what passes is what is left to be handed out
pub left_over : (c : CourseConfig) (d : Direction) (p : Progress) (x : Half) → Ties c d p x
    → p.taken.body + (length x.hold.out + (if passes x then length x.hold.hand else 0)) ≡ length (flow c d p.course)
left_over c d p x t =
    let a : length x.hold.out + length (if passes x then x.hold.hand else []) ≡ length (flow c d p.course) - p.taken.body =
    sym (length-append x.hold.out (if passes x then x.hold.hand else []))
    ∙ ap (λ b. length (x.hold.out ++ (if b then x.hold.hand else []))) (passes_is c d p x t)
    ∙ ap length t.hold.out ∙ length-drop p.taken.body (flow c d p.course) in
    let b : length (if passes x then x.hold.hand else []) ≡ (if passes x then length x.hold.hand else 0) = inside (passes x) in
    let u = t.hold.there in
    omega arith
  where
    inside : (b : Bool) → length (if b then x.hold.hand else []) ≡ (if b then length x.hold.hand else 0)
    inside true = refl
    inside false = refl

pub queue_is : (c : CourseConfig) (d : Direction) (p : Progress) (x : Half) → Ties c d p x → queue c d p.course ≡ queued x
unfolding queue
queue_is c d p x t = by p.course.head refl
  where
    framed : (o : Option Outgoing) → o ≡ p.course.head → x.gone.framing ≡ option_map (λ (o : Outgoing). o.framing) o
    framed o e = t.gone.framing ∙ ap (option_map (λ (o : Outgoing). o.framing)) (sym e)

    by : (o : Option Outgoing) → o ≡ p.course.head → length (body_of (changed c d p.course)) - p.course.given ≡ queued x
    by None e =
        let z : length (body_of (changed c d p.course)) ≡ 0 = changed_nothing c d p.course (sym e) in
        let n : length (body_of (changed c d p.course)) - p.course.given ≡ 0 = omega arith in
        n ∙ ap (λ b. if b then x.counts.waiting + length x.hold.out + (if passes x then length x.hold.hand else 0) else 0) (sym (ap is_some (framed None e)))
    by (Some h) e =
        let f : length (body_of (changed c d p.course)) ≡ length (flow c d p.course) = ap length (changed_flow c d p.course h (sym e)) in
        let l : p.taken.body + (length x.hold.out + (if passes x then length x.hold.hand else 0)) ≡ length (flow c d p.course) = left_over c d p x t in
        let g : p.course.given + x.counts.waiting ≡ p.taken.body = t.counts.waiting in
        let n : length (body_of (changed c d p.course)) - p.course.given ≡ x.counts.waiting + length x.hold.out + (if passes x then length x.hold.hand else 0) = omega arith in
        n ∙ ap (λ b. if b then x.counts.waiting + length x.hold.out + (if passes x then length x.hold.hand else 0) else 0) (sym (ap is_some (framed (Some h) e)))

-- Leave to ask

both_few : (a b s : ℕ) → nat_lt (a - min b s) 4 ≡ (nat_lt (a - b) 4 && nat_lt (a - s) 4)
both_few a b s = search rules

and_and : (x y z : Bool) → ((x && y) && z) ≡ (x && y && z)
and_and true y z = refl
and_and false y z = refl

pub permitted_is : (c : CourseConfig) (d : Direction) (p : Progress) (x : Half) → MadeWith c d x → Ties c d p x → is_permitted c d p.course ≡ may_ask x
unfolding is_permitted
permitted_is c d p x m t =
    let w : Course = p.course in
    let i = t.asked.unsent in
    let a : length w.asks - length w.answers ≡ length x.marks = sym (length-drop (length w.answers) w.asks) ∙ sym (ap length t.marks ∙ length-map (out w) mark_of) in
    let b : length w.asks - w.sent ≡ x.asked.unsent = omega arith in
    ap (λ z. z && nat_le (queue c d w) c.mark) (both_few (length w.asks) (length w.answers) w.sent)
    ∙ and_and (nat_lt (length w.asks - length w.answers) 4) (nat_lt (length w.asks - w.sent) 4) (nat_le (queue c d w) c.mark)
    ∙ ap (λ n. nat_lt n 4 && nat_lt (length w.asks - w.sent) 4 && nat_le (queue c d w) c.mark) a
    ∙ ap (λ n. nat_lt (length x.marks) 4 && nat_lt n 4 && nat_le (queue c d w) c.mark) b
    ∙ ap (λ n. nat_lt (length x.marks) 4 && nat_lt x.asked.unsent 4 && nat_le n c.mark) (queue_is c d p x t)
    ∙ ap (λ n. nat_lt (length x.marks) 4 && nat_lt x.asked.unsent 4 && nat_le (queued x) n) m.mark

-- One turn

no_ask : (c : CourseConfig) (d : Direction) (p : Progress) (x : Half) → due c d p.course ≡ [] → Ties c d p x → Ties c d (record p { course = one_asked c d p.course }) x
unfolding one_asked
no_ask c d p x e t =
    subst (λ l. Ties c d (record p { course = record p.course { asks = l } }) x) (sym (ap (λ l. p.course.asks ++ l) e ∙ append-nil p.course.asks)) t

one_ask : (c : CourseConfig) (d : Direction) (p : Progress) (x : Half) (q : AskedPart) → due c d p.course ≡ q ∷ [] → Ties c d (record p { course = with_ask q p.course }) x
    → Ties c d (record p { course = one_asked c d p.course }) x
unfolding one_asked
one_ask c d p x q e t = subst (λ l. Ties c d (record p { course = record p.course { asks = p.course.asks ++ l } }) x) (sym e) t

pub one_asked_ties : (c : CourseConfig) (d : Direction) (p : Progress) (x : Half) → MadeWith c d x → Ties c d p x → IsChosen x
    → Ties c d (record p { course = one_asked c d p.course }) (one_asked_in x)
one_asked_ties c d p x m t k = by (may_ask x) (due_of x) refl refl
  where
    due_is : due c d p.course ≡ (if may_ask x then option_to_list (option_map (part p x) (due_of x)) else [])
    due_is =
        ap (λ b. if b then option_to_list (next c p.course) else []) (permitted_is c d p x m t)
        ∙ ap (λ o. if may_ask x then option_to_list o else []) (next_is_due c d p x m t)

    to : (y : Half) → one_asked_in x ≡ y → Ties c d (record p { course = one_asked c d p.course }) y → Ties c d (record p { course = one_asked c d p.course }) (one_asked_in x)
    to y e s = subst (λ z. Ties c d (record p { course = one_asked c d p.course }) z) (sym e) s

    by : (b : Bool) (o : Option Due) → may_ask x ≡ b → due_of x ≡ o → Ties c d (record p { course = one_asked c d p.course }) (one_asked_in x)
    by false o e f =
        to x (ap (λ b. if b then with_next (due_of x) x else x) e)
        (no_ask c d p x (due_is ∙ ap (λ b. if b then option_to_list (option_map (part p x) (due_of x)) else []) e) t)
    by true None e f =
        to x (ap (λ b. if b then with_next (due_of x) x else x) e ∙ ap (λ o. with_next o x) f)
        (no_ask c d p x (due_is ∙ ap (λ b. if b then option_to_list (option_map (part p x) (due_of x)) else []) e ∙ ap (λ o. option_to_list (option_map (part p x) o)) f) t)
    by true (Some a) e f =
        to (with_due a x) (ap (λ b. if b then with_next (due_of x) x else x) e ∙ ap (λ o. with_next o x) f)
        (one_ask c d p (with_due a x) (part p x a)
        (due_is ∙ ap (λ b. if b then option_to_list (option_map (part p x) (due_of x)) else []) e ∙ ap (λ o. option_to_list (option_map (part p x) o)) f)
        (made_ties c d p x a m t k e f))
