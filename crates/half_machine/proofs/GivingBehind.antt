-- Behind all of its body a half hands out the trailers and the end.
use Rattle.std.proofs.Common.{refl, sym, ◌∙◌, ap, subst}
use Rattle.std.specs.Prelude.{ℕ, ◌≡◌, Bool, true, false, not, ◌&&◌, ◌||◌, List, [], ◌∷◌, length, drop, map, zip, find, cond, Option, Some, None, is_some, is_none, option_map, if◌then◌else◌}
use Rattle.std.specs.List.{list_any}
use Rattle.http_model.specs.Bytes.{is_empty}
use Rattle.http_model.specs.Heads.{is_bodiless}
use Rattle.ext_msgs.specs.declared.lists.Field.{Field}
use Rattle.ext_msgs.specs.declared.answer.Common.{Common}
use Rattle.ext_msgs.specs.declared.modes.PartModes.{PartModes}
use Rattle.ext_msgs.specs.declared.modes.BodyMode.{BodyMode}
use Rattle.header_mutation.specs.declared.rules.PartKind.TheVariants.{Trailers as TrailerPart}
use Rattle.http_model.specs.declared.types.Direction.{Direction}
use Rattle.http_model.specs.declared.types.Out.TheVariants as part
use Rattle.filter_model.specs.Config.{CourseConfig}
use Rattle.filter_model.specs.Course.{Course, AskedPart, Headers, Body, Trailers, Changed, Outgoing, changed, changed_at, body_of, changed_trailers, trailers_at, under, is_body, is_trailers, is_body_done, body_done_at, is_stopped, mode, asked_bytes, body_at, next_body, next_streamed, next_buffered, next_partial, next_trailers, out, answer_to, replacement}
use Rattle.filter_model.specs.Half.{Past, Progress, Taken, Gave, NothingDue, BodyTaken, MayGive, trailers_left, after_step, becomes, progress, course, half_rules}
use Rattle.filter_model.proofs.CourseGrows.{once_out}
use Rattle.half_machine.specs.Marks.{mark_of, is_of_body, is_of_trailers}
use Rattle.half_machine.specs.Due.{trailers_due}
use Rattle.half_machine.specs.Stands.{MadeWith, Ties, StandsFor}
use Rattle.half_machine.specs.Giving.{body_done_in, trailers_done_in, last_at, behind_at, behind_of, part_behind, given_behind}
use Rattle.half_machine.specs.declared.due.Due.{Due}
use Rattle.half_machine.specs.declared.due.Due.TheVariants as due
use Rattle.half_machine.specs.declared.giving.Behind.{Behind}
use Rattle.half_machine.specs.declared.giving.Behind.TheVariants as behind
use Rattle.half_machine.specs.declared.half.Half.{Half}
use Rattle.half_machine.proofs.NextAsk.{part, body_due_of, body_is_due}
use Rattle.half_machine.proofs.Permit.{marks_body}

clash : true ≡ false → ⊥
clash e = cc

-- The trailers' ask

marks_trailers : (asks : List AskedPart) → list_any is_of_trailers (map mark_of asks) ≡ list_any is_trailers asks
marks_trailers [] = refl
marks_trailers (p ∷ asks) = ap (λ b. b || list_any is_of_trailers (map mark_of asks)) (one p) ∙ ap (λ b. is_trailers p || b) (marks_trailers asks)
  where
    one : (p : AskedPart) → is_of_trailers (mark_of p) ≡ is_trailers p
    one (Headers fields last) = refl
    one (Body bytes last) = refl
    one (Trailers fields) = refl

marks_none : (asks : List AskedPart) → is_empty (map mark_of asks) ≡ is_empty asks
marks_none [] = refl
marks_none (p ∷ asks) = refl

-- an ask that isn't out was answered
not_out : (kind : AskedPart → Bool) (asks : List AskedPart) (answers : List Common) → list_any kind (drop (length answers) asks) ≡ false
    → is_some (find (λ (q : AskedPart × Common). kind q.0) (zip asks answers)) ≡ list_any kind asks
not_out kind [] answers e = refl
not_out kind (p ∷ asks) [] e = sym e
not_out kind (p ∷ asks) (a ∷ answers) e = by (kind p) (not_out kind asks answers e)
  where
    by : (b : Bool) → is_some (find (λ (q : AskedPart × Common). kind q.0) (zip asks answers)) ≡ list_any kind asks
        → is_some (cond b (Some (p, a)) (find (λ (q : AskedPart × Common). kind q.0) (zip asks answers))) ≡ (b || list_any kind asks)
    by true f = refl
    by false f = f

some_mapped : (o : Option (AskedPart × Common)) → is_some (option_map (λ (q : AskedPart × Common). q.1) o) ≡ is_some o
some_mapped None = refl
some_mapped (Some q) = refl

trailers_answered : (c : CourseConfig) (d : Direction) (p : Progress) (x : Half) → Ties c d p x → (x.asked.trailers && not (list_any is_of_trailers x.marks)) ≡ is_some (answer_to is_trailers p.course)
trailers_answered c d p x t =
    let w : Course = p.course in
    ap (λ b. b && not (list_any is_of_trailers x.marks)) t.asked.trailers
    ∙ ap (λ b. list_any is_trailers w.asks && not b) (ap (list_any is_of_trailers) t.marks ∙ marks_trailers (out w))
    ∙ by (list_any is_trailers (out w)) refl
    ∙ sym (some_mapped (find (λ (q : AskedPart × Common). is_trailers q.0) (zip w.asks w.answers)))
  where
    and_true : (b : Bool) → (b && true) ≡ b
    and_true true = refl
    and_true false = refl

    and_false : (b : Bool) → (b && false) ≡ false
    and_false true = refl
    and_false false = refl

    by : (b : Bool) → list_any is_trailers (out p.course) ≡ b
        → (list_any is_trailers p.course.asks && not b) ≡ is_some (find (λ (q : AskedPart × Common). is_trailers q.0) (zip p.course.asks p.course.answers))
    by true e = and_false (list_any is_trailers p.course.asks) ∙ sym (ap is_some (once_out is_trailers p.course.asks p.course.answers t.sound.once_trailers e))
    by false e = and_true (list_any is_trailers p.course.asks) ∙ sym (not_out is_trailers p.course.asks p.course.answers e)

none_due : (tr s w e k : Bool) (f : List Field)
    → is_none (if tr && not false && not s && w && not e && not k then Some (Trailers f) else None) ≡ (s || is_none (if tr && w && not e && not k then Some due.Trailers else None))
none_due true true w e k f = refl
none_due true false true true k f = refl
none_due true false true false true f = refl
none_due true false true false false f = refl
none_due true false false e k f = refl
none_due false true w e k f = refl
none_due false false w e k f = refl

trailers_none : (c : CourseConfig) (d : Direction) (p : Progress) (x : Half) → Ties c d p x → p.course.released ≡ false
    → is_none (next_trailers p.course) ≡ (x.rule.stopped || is_none (trailers_due x.arrived x.rule x.asked))
trailers_none c d p x t r =
    let w : Course = p.course in
    ap (λ b. is_none (if w.modes.trailers && not b && not (is_stopped w) && w.original.whole && not (is_empty w.original.trailers) && not (list_any is_trailers w.asks) then Some (Trailers w.original.trailers) else None)) r
    ∙ none_due w.modes.trailers (is_stopped w) w.original.whole (is_empty w.original.trailers) (list_any is_trailers w.asks) w.original.trailers
    ∙ ap (λ b. b || is_none (if w.modes.trailers && w.original.whole && not (is_empty w.original.trailers) && not (list_any is_trailers w.asks) then Some due.Trailers else None)) (sym t.rule.stopped)
    ∙ ap (λ (m : PartModes). x.rule.stopped || is_none (if m.trailers && w.original.whole && not (is_empty w.original.trailers) && not (list_any is_trailers w.asks) then Some due.Trailers else None)) (sym t.rule.modes)
    ∙ ap (λ b. x.rule.stopped || is_none (if x.rule.modes.trailers && b && not (is_empty w.original.trailers) && not (list_any is_trailers w.asks) then Some due.Trailers else None)) (sym t.arrived.whole)
    ∙ ap (λ b. x.rule.stopped || is_none (if x.rule.modes.trailers && x.arrived.whole && b && not (list_any is_trailers w.asks) then Some due.Trailers else None)) (sym t.arrived.trailers)
    ∙ ap (λ b. x.rule.stopped || is_none (if x.rule.modes.trailers && x.arrived.whole && x.arrived.trailers && not b then Some due.Trailers else None)) (sym t.asked.trailers)

abbrev trailers_pass : Course → Bool
trailers_pass w = w.released || (is_empty (out w) && is_none (next_trailers w))

trailers_done_is : (c : CourseConfig) (d : Direction) (p : Progress) (x : Half) → Ties c d p x → trailers_done_in x ≡ (is_some (answer_to is_trailers p.course) || trailers_pass p.course)
trailers_done_is c d p x t =
    ap (λ b. x.rule.released || b || (is_empty x.marks && (x.rule.stopped || is_none (trailers_due x.arrived x.rule x.asked)))) (trailers_answered c d p x t)
    ∙ ap (λ b. x.rule.released || is_some (answer_to is_trailers p.course) || (b && (x.rule.stopped || is_none (trailers_due x.arrived x.rule x.asked)))) (ap is_empty t.marks ∙ marks_none (out p.course))
    ∙ by p.course.released refl
  where
    or_true : (b : Bool) → true ≡ (b || true)
    or_true true = refl
    or_true false = refl

    by : (r : Bool) → p.course.released ≡ r
        → (x.rule.released || is_some (answer_to is_trailers p.course) || (is_empty (out p.course) && (x.rule.stopped || is_none (trailers_due x.arrived x.rule x.asked))))
        ≡ (is_some (answer_to is_trailers p.course) || trailers_pass p.course)
    by true e =
        ap (λ b. b || is_some (answer_to is_trailers p.course) || (is_empty (out p.course) && (x.rule.stopped || is_none (trailers_due x.arrived x.rule x.asked)))) (t.rule.released ∙ e)
        ∙ or_true (is_some (answer_to is_trailers p.course))
        ∙ ap (λ b. is_some (answer_to is_trailers p.course) || (b || (is_empty (out p.course) && is_none (next_trailers p.course)))) (sym e)
    by false e =
        ap (λ b. b || is_some (answer_to is_trailers p.course) || (is_empty (out p.course) && (x.rule.stopped || is_none (trailers_due x.arrived x.rule x.asked)))) (t.rule.released ∙ e)
        ∙ ap (λ b. is_some (answer_to is_trailers p.course) || (is_empty (out p.course) && b)) (sym (trailers_none c d p x t e))
        ∙ ap (λ b. is_some (answer_to is_trailers p.course) || (b || (is_empty (out p.course) && is_none (next_trailers p.course)))) (sym e)

-- All of the body

none_mapped : (g : Due → AskedPart) (o : Option Due) → is_none (option_map g o) ≡ is_none o
none_mapped g None = refl
none_mapped g (Some a) = refl

stopped_none : (bare s : Bool) (m : BodyMode) (streamed buffered partial : Option AskedPart) → s ≡ true → is_none (body_at bare s m streamed buffered partial) ≡ true
stopped_none true s m streamed buffered partial e = refl
stopped_none false true m streamed buffered partial e = refl
stopped_none false false m streamed buffered partial e = absurd (clash (sym e))

none_stopped : (c : CourseConfig) (w : Course) → is_stopped w ≡ true → is_none (next_body c w) ≡ true
unfolding next_body
none_stopped c w e =
    stopped_none (is_bodiless w.original.length) (is_stopped w) (mode w) (next_streamed c.piece w.original w.asks (drop (asked_bytes w.asks) w.original.body))
    (next_buffered w.original (list_any is_body w.asks)) (next_partial c.buffer_limit w.original (list_any is_body w.asks)) e

piece_none : (c : CourseConfig) (d : Direction) (p : Progress) (x : Half) → MadeWith c d x → Ties c d p x → p.course.released ≡ false
    → (x.rule.stopped || is_none (body_due_of x)) ≡ is_none (next_body c p.course)
piece_none c d p x m t r = ap (λ b. b || is_none (body_due_of x)) t.rule.stopped ∙ by (is_stopped p.course) refl
  where
    by : (s : Bool) → is_stopped p.course ≡ s → (s || is_none (body_due_of x)) ≡ is_none (next_body c p.course)
    by true e = sym (none_stopped c p.course e)
    by false e = sym (ap is_none (body_is_due c d p x m t r e) ∙ none_mapped (part p x) (body_due_of x))

body_done_is : (c : CourseConfig) (d : Direction) (p : Progress) (x : Half) → MadeWith c d x → Ties c d p x → body_done_in x ≡ is_body_done c p.course
body_done_is c d p x m t =
    ap (λ b. b && (x.rule.released || (not (list_any is_of_body x.marks) && (x.rule.stopped || is_none (body_due_of x))))) t.arrived.whole
    ∙ ap (λ b. p.course.original.whole && (x.rule.released || (not b && (x.rule.stopped || is_none (body_due_of x))))) (ap (list_any is_of_body) t.marks ∙ marks_body (out p.course))
    ∙ ap (λ b. p.course.original.whole && (b || (not (list_any is_body (out p.course)) && (x.rule.stopped || is_none (body_due_of x))))) t.rule.released
    ∙ by p.course.released refl
  where
    by : (r : Bool) → p.course.released ≡ r
        → (p.course.original.whole && (p.course.released || (not (list_any is_body (out p.course)) && (x.rule.stopped || is_none (body_due_of x))))) ≡ is_body_done c p.course
    by true e =
        ap (λ b. p.course.original.whole && (b || (not (list_any is_body (out p.course)) && (x.rule.stopped || is_none (body_due_of x))))) e
        ∙ sym (ap (λ b. body_done_at p.course.original.whole b (list_any is_body (out p.course)) (next_body c p.course)) e)
    by false e =
        ap (λ b. p.course.original.whole && (p.course.released || (not (list_any is_body (out p.course)) && b))) (piece_none c d p x m t e)

-- What is behind it, by what a half remembers

pub record EndOf (m : Changed) (replaced body_done trailers trailers_done : Bool) (fields : List Field) : Type 0 where
  pub shown : m.trailers ≡ (if replaced || not body_done || not trailers || not trailers_done then None else Some fields)
  pub ends : m.ended ≡ (replaced || (body_done && (not trailers || trailers_done)))

not_twice : (e : Bool) → not (not e) ≡ e
not_twice true = refl
not_twice false = refl

shown_by : (c : CourseConfig) (ts fields : List Field) (e d pass : Bool) (answer : Option Common) → fields ≡ under c TrailerPart ts answer
    → trailers_at e d answer (λ a. under c TrailerPart ts (Some a)) pass ts ≡ (if not d || e || not (is_some answer || pass) then None else Some fields)
shown_by c ts fields true true pass answer f = refl
shown_by c ts fields true false pass answer f = refl
shown_by c ts fields false false pass answer f = refl
shown_by c ts fields false true pass (Some a) f = ap Some (sym f)
shown_by c ts fields false true true None f = ap Some (sym f)
shown_by c ts fields false true false None f = refl

ends_by : (t : Option (List Field)) (fields : List Field) (e d pass : Bool) → t ≡ (if not d || e || not pass then None else Some fields) → (d && (e || is_some t)) ≡ (d && (e || pass))
ends_by t fields true d pass f = refl
ends_by t fields false false pass f = refl
ends_by t fields false true true f = ap is_some f
ends_by t fields false true false f = ap is_some f

pub end_of : (p : Past) (x : Half) (o : Outgoing) → StandsFor p x → (course p).head ≡ Some o
    → EndOf (becomes p) x.rule.replaced (body_done_in x) x.arrived.trailers (trailers_done_in x) x.trailers
unfolding changed
end_of p x o s h =
    subst (λ z. EndOf (changed_at p.config (course p) z (replacement p.direction (course p))) x.rule.replaced (body_done_in x) x.arrived.trailers (trailers_done_in x) x.trailers) (sym h)
    (subst (λ b. EndOf (changed_at p.config (course p) (Some o) (replacement p.direction (course p))) b (body_done_in x) x.arrived.trailers (trailers_done_in x) x.trailers) (sym s.ties.rule.replaced)
    (subst (λ b. EndOf (changed_at p.config (course p) (Some o) (replacement p.direction (course p))) (is_some (replacement p.direction (course p))) b x.arrived.trailers (trailers_done_in x) x.trailers)
    (sym (body_done_is p.config p.direction (progress p) x s.made s.ties))
    (subst (λ b. EndOf (changed_at p.config (course p) (Some o) (replacement p.direction (course p))) (is_some (replacement p.direction (course p))) (is_body_done p.config (course p)) b (trailers_done_in x) x.trailers)
    (sym s.ties.arrived.trailers)
    (subst (λ b. EndOf (changed_at p.config (course p) (Some o) (replacement p.direction (course p))) (is_some (replacement p.direction (course p))) (is_body_done p.config (course p)) (not (is_empty (course p).original.trailers)) b x.trailers)
    (sym (trailers_done_is p.config p.direction (progress p) x s.ties)) (by (replacement p.direction (course p)))))))
  where
    by : (r : Option (List ℕ)) → EndOf (changed_at p.config (course p) (Some o) r) (is_some r) (is_body_done p.config (course p)) (not (is_empty (course p).original.trailers))
        (is_some (answer_to is_trailers (course p)) || trailers_pass (course p)) x.trailers
    by (Some b) = record { shown = refl; ends = refl }
    by None =
        let w : Course = course p in
        let shown : changed_trailers p.config w ≡ (if not (is_body_done p.config w) || is_empty w.original.trailers || not (is_some (answer_to is_trailers w) || trailers_pass w) then None else Some x.trailers) =
        shown_by p.config w.original.trailers x.trailers (is_empty w.original.trailers) (is_body_done p.config w) (trailers_pass w) (answer_to is_trailers w) s.ties.trailers in
        record {
          shown = shown ∙ ap (λ b. if not (is_body_done p.config w) || b || not (is_some (answer_to is_trailers w) || trailers_pass w) then None else Some x.trailers) (sym (not_twice (is_empty w.original.trailers)));
          ends = ends_by (changed_trailers p.config w) x.trailers (is_empty w.original.trailers) (is_body_done p.config w) (is_some (answer_to is_trailers w) || trailers_pass w) shown
              ∙ ap (λ b. is_body_done p.config w && (b || (is_some (answer_to is_trailers w) || trailers_pass w))) (sym (not_twice (is_empty w.original.trailers)));
        }

-- It may go

left_none : (m : Changed) (g : Bool) → m.trailers ≡ None → trailers_left m g ≡ None
left_none m true e = refl
left_none m false e = e

left_by : (m : Changed) (t : Taken) (g : Bool) (o : Option (List Field)) → t.trailers ≡ g → trailers_left m g ≡ o → trailers_left m t.trailers ≡ o
left_by m t g o e f = ap (trailers_left m) e ∙ f

nothing_may : (m : Changed) (t : Taken) → BodyTaken m t → trailers_left m t.trailers ≡ None → (t.ended ≡ false → m.ended ≡ false) → NothingDue m t
nothing_may m t k l e = record { head = λ z. absurd (clash (sym k.head ∙ z)); body = λ z. k.body; trailers = λ z. l; ended = λ z f. e f }

last_may : (m : Changed) (t : Taken) (fields : List Field) (max : ℕ) (e : Bool) → t.ended ≡ e → BodyTaken m t → trailers_left m t.trailers ≡ None → m.ended ≡ true
    → MayGive max m t (part_behind fields (last_at e))
last_may m t fields max true f k l i = nothing_may m t k l (λ z. absurd (clash (sym f ∙ z)))
last_may m t fields max false f k l i = (k, l, f, i)

may_behind : (m : Changed) (t : Taken) (fields : List Field) (max : ℕ) (r b ts td g e : Bool) → t.trailers ≡ g → t.ended ≡ e → BodyTaken m t → EndOf m r b ts td fields
    → MayGive max m t (part_behind fields (behind_at r b ts td g e))
may_behind m t fields max true b ts td g e i j k f = last_may m t fields max e j k (left_none m t.trailers f.shown) f.ends
may_behind m t fields max false false ts td g e i j k f = nothing_may m t k (left_none m t.trailers f.shown) (λ z. f.ends)
may_behind m t fields max false true false td g e i j k f = last_may m t fields max e j k (left_none m t.trailers f.shown) f.ends
may_behind m t fields max false true true false g e i j k f = nothing_may m t k (left_none m t.trailers f.shown) (λ z. f.ends)
may_behind m t fields max false true true true false e i j k f = (k, left_by m t false (Some fields) i f.shown)
may_behind m t fields max false true true true true e i j k f = last_may m t fields max e j k (left_by m t true None i refl) f.ends

pub behind_may : (p : Past) (x : Half) (o : Outgoing) (max : ℕ) → StandsFor p x → (course p).head ≡ Some o → x.gone.head ≡ true → (progress p).taken.body ≡ length (body_of (becomes p))
    → MayGive max (becomes p) (progress p).taken (part_behind x.trailers (behind_of x))
behind_may p x o max s h z b =
    may_behind (becomes p) (progress p).taken x.trailers max x.rule.replaced (body_done_in x) x.arrived.trailers (trailers_done_in x) x.gone.trailers x.gone.ended
    (sym s.ties.gone.trailers) (sym s.ties.gone.ended) (record { head = sym s.ties.gone.head ∙ z; body = b }) (end_of p x o s h)

pub behind_stands : (p : Past) (x : Half) (fields : List Field) (b : Behind) → StandsFor p x → StandsFor (after_step (Gave (part_behind fields b)) p) (given_behind b x)
unfolding half_rules
behind_stands p x fields b s = by b
  where
    by : (b : Behind) → StandsFor (after_step (Gave (part_behind fields b)) p) (given_behind b x)
    by behind.Nothing = record { made = s.made; ties = s.ties }
    by behind.Trailers = record {
      made = s.made;
      ties = record {
        arrived = s.ties.arrived;
        rule = s.ties.rule;
        asked = s.ties.asked;
        ready = s.ties.ready;
        body_asks = s.ties.body_asks;
        counts = s.ties.counts;
        gone = record { framing = s.ties.gone.framing; head = s.ties.gone.head; trailers = refl; ended = s.ties.gone.ended; early = s.ties.gone.early };
        hold = s.ties.hold;
        room = s.ties.room;
        pieces = s.ties.pieces;
        pieces_fit = s.ties.pieces_fit;
        pieces_room = s.ties.pieces_room;
        marks = s.ties.marks;
        head = s.ties.head;
        fields = s.ties.fields;
        trailers = s.ties.trailers;
        parts = s.ties.parts;
        few = s.ties.few;
        sound = s.ties.sound;
      };
    }
    by behind.End = record {
      made = s.made;
      ties = record {
        arrived = s.ties.arrived;
        rule = s.ties.rule;
        asked = s.ties.asked;
        ready = s.ties.ready;
        body_asks = s.ties.body_asks;
        counts = s.ties.counts;
        gone = record { framing = s.ties.gone.framing; head = s.ties.gone.head; trailers = s.ties.gone.trailers; ended = refl; early = s.ties.gone.early };
        hold = s.ties.hold;
        room = s.ties.room;
        pieces = s.ties.pieces;
        pieces_fit = s.ties.pieces_fit;
        pieces_room = s.ties.pieces_room;
        marks = s.ties.marks;
        head = s.ties.head;
        fields = s.ties.fields;
        trailers = s.ties.trailers;
        parts = s.ties.parts;
        few = s.ties.few;
        sound = s.ties.sound;
      };
    }

-- where nothing is handed out it is as it was
pub nothing_given : (x : Half) (fields : List Field) (b : Behind) → part_behind fields b ≡ part.Nothing → given_behind b x ≡ x
nothing_given x fields behind.Nothing e = refl
nothing_given x fields behind.Trailers e = absurd cc
nothing_given x fields behind.End e = absurd cc
