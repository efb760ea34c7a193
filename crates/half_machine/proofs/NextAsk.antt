-- The ask that a half finds due is the one that is due by its past.
use Rattle.std.proofs.Common.{inl, inr, refl, sym, ◌∙◌, ap, rules}
use Rattle.std.proofs.Math.Seq.{take-length}
use Rattle.std.proofs.lemmas.List.{take_all}
use Rattle.std.specs.Prelude.{ℕ, ◌≡◌, ◌≤◌, Bool, true, false, not, ◌&&◌, ◌||◌, List, ◌∷◌, Some, None, [], length, take, drop, map, Option, is_some, option_map, unwrap_or, if◌then◌else◌, nat_lt, nat_le, ◌==◌}
use Rattle.std.specs.List.{list_any}
use Rattle.ext_msgs.specs.declared.lists.Field.{Field}
use Rattle.ext_msgs.specs.declared.modes.PartModes.{PartModes}
use Rattle.ext_msgs.specs.declared.modes.BodyMode.{BodyMode}
use Rattle.ext_msgs.specs.declared.modes.BodyMode.TheVariants.{NoAsk, Streamed, Buffered, Partial}
use Rattle.http_model.specs.Bytes.{is_empty}
use Rattle.http_model.specs.Heads.{is_bodiless}
use Rattle.http_model.specs.Reads.{Original}
use Rattle.http_model.specs.declared.types.Direction.{Direction}
use Rattle.filter_model.specs.Config.{CourseConfig}
use Rattle.filter_model.specs.Course.{Course, AskedPart, Headers, Body, Trailers, next, next_at, next_body, next_trailers, next_streamed, next_buffered, next_partial, body_at, or_else, is_body, is_headers, is_last_piece, is_trailers, is_stopped, mode, out, asked_bytes}
use Rattle.filter_model.specs.Half.{Progress}
use Rattle.half_machine.specs.Marks.{mark_of, is_of_headers}
use Rattle.half_machine.specs.Due.{streamed_due, buffered_due, partial_due, body_due, due_by_mode, trailers_due, due_in, or_due, part_of}
use Rattle.half_machine.specs.declared.due.Due.{Due}
use Rattle.half_machine.specs.declared.due.Due.TheVariants as due
use Rattle.half_machine.specs.declared.facts.Arrived.{Arrived}
use Rattle.half_machine.specs.declared.facts.Asked.{Asked}
use Rattle.half_machine.specs.declared.half.Half.{Half}
use Rattle.half_machine.specs.Stands.{MadeWith, Ties}
use Rattle.half_machine.specs.Asking.{due_of}
use Rattle.half_machine.proofs.Seen.{mode_is}
use Rattle.half_machine.proofs.AtHand.{streamed_hand, whole_hand}

-- Headers, body, trailers

or_same : (g : Due → AskedPart) (b t : Option Due) (body trailers : Option AskedPart) → body ≡ option_map g b → trailers ≡ option_map g t
    → or_else body trailers ≡ option_map g (or_due b t)
or_same g (Some x) t body trailers e f = ap (λ o. or_else o trailers) e
or_same g None t body trailers e f = ap (λ o. or_else o trailers) e ∙ f

pub in_turn : (g : Due → AskedPart) (o : Option (List Field)) (n r s first h : Bool) (b t : Option Due) (body trailers : Option AskedPart)
    → g due.Headers ≡ Headers (unwrap_or o []) n → (r ≡ false → s ≡ false → body ≡ option_map g b) → (r ≡ false → s ≡ false → trailers ≡ option_map g t)
    → next_at o n r first h s body trailers ≡ option_map g (due_in (is_some o) r s first h b t)
in_turn g None n r s first h b t body trailers e k l = refl
in_turn g (Some x) n true s first h b t body trailers e k l = refl
in_turn g (Some x) n false true first h b t body trailers e k l = refl
in_turn g (Some x) n false false true h b t body trailers e k l = ap Some (sym e)
in_turn g (Some x) n false false false true b t body trailers e k l = refl
in_turn g (Some x) n false false false false b t body trailers e k l = or_same g b t body trailers (k refl refl) (l refl refl)

-- A piece of a streamed body

no_piece : (g : Due → AskedPart) (w e b l : Bool) → g (due.Body 0 true) ≡ Body [] true
    → (if w && e && (b && not l) then Some (Body [] true) else None) ≡ option_map g (if (w && not (not e)) && b && not l then Some (due.Body 0 true) else None)
no_piece g true true true true q = refl
no_piece g true true true false q = ap Some (sym q)
no_piece g true true false l q = refl
no_piece g true false b l q = refl
no_piece g false e b l q = refl

not_twice : (e : Bool) → not (not e) ≡ e
not_twice true = refl
not_twice false = refl

and_false : (b : Bool) → (b && false) ≡ false
and_false true = refl
and_false false = refl

a_piece : (g : Due → AskedPart) (hand : List ℕ) (ends q : Bool) → ((n : ℕ) (last : Bool) → g (due.Body n last) ≡ Body (take n hand) last) → q ≡ nat_le (length hand) 16_384
    → Some (Body (take 16_384 hand) (ends && q)) ≡ option_map g (if q then Some (due.Body (length hand) ends) else Some (due.Body 16_384 false))
a_piece g hand ends true k e =
    let few : length hand ≤ 16_384 = search rules in
    ap (λ l. Some (Body l (ends && true))) (take_all 16_384 hand few)
    ∙ ap (λ b. Some (Body hand b)) (and_true ends)
    ∙ ap (λ l. Some (Body l ends)) (sym (take-length hand))
    ∙ ap Some (sym (k (length hand) ends))
  where
    and_true : (b : Bool) → (b && true) ≡ b
    and_true true = refl
    and_true false = refl
a_piece g hand ends false k e = ap (λ b. Some (Body (take 16_384 hand) b)) (and_false ends) ∙ ap Some (sym (k 16_384 false))

not_zero : (b : ℕ) (rest : List ℕ) → (length (b ∷ rest) == 0) ≡ false
not_zero b rest = search rules

streamed_plain : (g : Due → AskedPart) (o : Original) (asks : List AskedPart) (hand : List ℕ) → ((n : ℕ) (last : Bool) → g (due.Body n last) ≡ Body (take n hand) last)
    → (a : Arrived) (k : Asked) → a.whole ≡ o.whole → a.trailers ≡ not (is_empty o.trailers) → k.body ≡ list_any is_body asks → k.last ≡ list_any is_last_piece asks
    → next_streamed 16_384 o asks hand ≡ option_map g (streamed_due a k (length hand))
streamed_plain g o asks [] q a k e f h i =
    rw e (rw f (rw h (rw i (no_piece g o.whole (is_empty o.trailers) (list_any is_body asks) (list_any is_last_piece asks) (q 0 true)))))
streamed_plain g o asks (b ∷ rest) q a k e f h i =
    let none : Option Due = if (a.whole && not a.trailers) && k.body && not k.last then Some (due.Body 0 true) else None in
    ap (λ z. Some (Body (take 16_384 (b ∷ rest)) ((o.whole && z) && nat_le (length (b ∷ rest)) 16_384))) (sym (not_twice (is_empty o.trailers)))
    ∙ a_piece g (b ∷ rest) (o.whole && not (not (is_empty o.trailers))) (nat_le (length (b ∷ rest)) 16_384) q refl
    ∙ ap (λ z. option_map g (if nat_le (length (b ∷ rest)) 16_384 then Some (due.Body (length (b ∷ rest)) (z && not (not (is_empty o.trailers)))) else Some (due.Body 16_384 false))) (sym e)
    ∙ ap (λ z. option_map g (if nat_le (length (b ∷ rest)) 16_384 then Some (due.Body (length (b ∷ rest)) (a.whole && not z)) else Some (due.Body 16_384 false))) (sym f)
    ∙ ap (λ z. option_map g (if z then none else if nat_le (length (b ∷ rest)) 16_384 then Some (due.Body (length (b ∷ rest)) (a.whole && not a.trailers)) else Some (due.Body 16_384 false)))
    (sym (not_zero b rest))

-- All of the body, or the first bytes of it

buffered_plain : (g : Due → AskedPart) (o : Original) (made : Bool) (hand : List ℕ) → ((n : ℕ) (last : Bool) → g (due.Body n last) ≡ Body (take n hand) last)
    → (a : Arrived) (k : Asked) → a.whole ≡ o.whole → a.trailers ≡ not (is_empty o.trailers) → k.body ≡ made → (made ≡ false → hand ≡ o.body)
    → next_buffered o made ≡ option_map g (buffered_due a k (length hand))
buffered_plain g o made hand q a k e f h i = rw e (rw f (rw h (by o.whole made i)))
  where
    whole_body : (hand ≡ o.body) → Some (Body o.body (is_empty o.trailers)) ≡ Some (g (due.Body (length hand) (not (not (is_empty o.trailers)))))
    whole_body e =
        ap (λ l. Some (Body l (is_empty o.trailers))) (sym (take-length hand ∙ e))
        ∙ ap (λ b. Some (Body (take (length hand) hand) b)) (sym (not_twice (is_empty o.trailers)))
        ∙ ap Some (sym (q (length hand) (not (not (is_empty o.trailers)))))

    by : (w m : Bool) → (m ≡ false → hand ≡ o.body)
        → (if w && not m then Some (Body o.body (is_empty o.trailers)) else None)
        ≡ option_map g (if w && not m then Some (due.Body (length hand) (not (not (is_empty o.trailers)))) else None)
    by true true i = refl
    by true false i = whole_body (i refl)
    by false m i = refl

partial_plain : (g : Due → AskedPart) (o : Original) (limit : ℕ) (made : Bool) (hand : List ℕ) → ((n : ℕ) (last : Bool) → g (due.Body n last) ≡ Body (take n hand) last)
    → (a : Arrived) (k : Asked) → a.whole ≡ o.whole → a.trailers ≡ not (is_empty o.trailers) → k.body ≡ made → (made ≡ false → hand ≡ o.body)
    → next_partial limit o made ≡ option_map g (partial_due a k limit (length hand))
partial_plain g o limit made hand q a k e f h i = rw e (rw f (rw h (by made i)))
  where
    whole_body : (hand ≡ o.body) → Some (Body o.body (is_empty o.trailers)) ≡ Some (g (due.Body (length hand) (not (not (is_empty o.trailers)))))
    whole_body e =
        ap (λ l. Some (Body l (is_empty o.trailers))) (sym (take-length hand ∙ e))
        ∙ ap (λ b. Some (Body (take (length hand) hand) b)) (sym (not_twice (is_empty o.trailers)))
        ∙ ap Some (sym (q (length hand) (not (not (is_empty o.trailers)))))

    at : (l w : Bool) → hand ≡ o.body
        → (if l then Some (Body (take limit o.body) false) else if w then Some (Body o.body (is_empty o.trailers)) else None)
        ≡ option_map g (if l then Some (due.Body limit false) else if w then Some (due.Body (length hand) (not (not (is_empty o.trailers)))) else None)
    at true w i = ap (λ l. Some (Body (take limit l) false)) (sym i) ∙ ap Some (sym (q limit false))
    at false true i = whole_body i
    at false false i = refl

    by : (m : Bool) → (m ≡ false → hand ≡ o.body)
        → (if m then None else if nat_lt limit (length o.body) then Some (Body (take limit o.body) false) else if o.whole then Some (Body o.body (is_empty o.trailers)) else None)
        ≡ option_map g (if m then None else if nat_lt limit (length hand) then Some (due.Body limit false) else if o.whole then Some (due.Body (length hand) (not (not (is_empty o.trailers)))) else None)
    by true i = refl
    by false i =
        ap (λ l. if nat_lt limit (length l) then Some (Body (take limit o.body) false) else if o.whole then Some (Body o.body (is_empty o.trailers)) else None) (sym (i refl))
        ∙ at (nat_lt limit (length hand)) o.whole (i refl)

-- The body, by its mode

pub by_mode : (g : Due → AskedPart) (bare s : Bool) (m : BodyMode) (ns nb np : Option AskedPart) (ds db dp : Option Due) → s ≡ false
    → (m ≡ Streamed → ns ≡ option_map g ds) → (m ≡ Buffered → nb ≡ option_map g db) → (m ≡ Partial → np ≡ option_map g dp)
    → body_at bare s m ns nb np ≡ option_map g (if bare then None else due_by_mode m ds db dp)
by_mode g true s m ns nb np ds db dp e k l i = refl
by_mode g false true m ns nb np ds db dp e k l i = absurd cc
by_mode g false false NoAsk ns nb np ds db dp e k l i = refl
by_mode g false false Streamed ns nb np ds db dp e k l i = k refl
by_mode g false false Buffered ns nb np ds db dp e k l i = l refl
by_mode g false false Partial ns nb np ds db dp e k l i = i refl

-- By the fields of a half

marks_headers : (asks : List AskedPart) → list_any is_of_headers (map mark_of asks) ≡ list_any is_headers asks
marks_headers [] = refl
marks_headers (p ∷ asks) = ap (λ b. b || list_any is_of_headers (map mark_of asks)) (one p) ∙ ap (λ b. is_headers p || b) (marks_headers asks)
  where
    one : (p : AskedPart) → is_of_headers (mark_of p) ≡ is_headers p
    one (Headers fields last) = refl
    one (Body bytes last) = refl
    one (Trailers fields) = refl

pub headers_out_is : (c : CourseConfig) (d : Direction) (p : Progress) (x : Half) → Ties c d p x → list_any is_of_headers x.marks ≡ list_any is_headers (out p.course)
headers_out_is c d p x t = ap (list_any is_of_headers) t.marks ∙ marks_headers (out p.course)

-- the part that an ask is about
abbrev pub part : Progress → Half → Due → AskedPart
part p x = part_of (unwrap_or p.course.original.head []) p.course.original.length x.hold.hand p.course.original.trailers

abbrev pub body_due_of : Half → Option Due
body_due_of x = body_due x.arrived x.rule x.asked x.limit (length x.hold.hand)

abbrev pub trailers_due_of : Half → Option Due
trailers_due_of x = trailers_due x.arrived x.rule x.asked

pub body_is_due : (c : CourseConfig) (d : Direction) (p : Progress) (x : Half) → MadeWith c d x → Ties c d p x → p.course.released ≡ false → is_stopped p.course ≡ false
    → next_body c p.course ≡ option_map (part p x) (body_due_of x)
unfolding next_body
body_is_due c d p x m t r s =
    let w : Course = p.course in
    let g : Due → AskedPart = part p x in
    ap (λ n. body_at (is_bodiless w.original.length) (is_stopped w) (mode w) (next_streamed n w.original w.asks (drop (asked_bytes w.asks) w.original.body)) (next_buffered w.original (list_any is_body w.asks)) (next_partial c.buffer_limit w.original (list_any is_body w.asks))) m.piece
    ∙ ap (λ n. body_at (is_bodiless w.original.length) (is_stopped w) (mode w) (next_streamed 16_384 w.original w.asks (drop (asked_bytes w.asks) w.original.body)) (next_buffered w.original (list_any is_body w.asks)) (next_partial n w.original (list_any is_body w.asks))) m.limit
    ∙ by_mode g (is_bodiless w.original.length) (is_stopped w) (mode w) _ _ _ (streamed_due x.arrived x.asked (length x.hold.hand)) (buffered_due x.arrived x.asked (length x.hold.hand)) (partial_due x.arrived x.asked x.limit (length x.hold.hand)) s
    (λ e. ap (next_streamed 16_384 w.original w.asks) (sym (streamed_hand c d w x.hold p.taken.body t.hold r s e))
    ∙ streamed_plain g w.original w.asks x.hold.hand (λ n l. refl) x.arrived x.asked t.arrived.whole t.arrived.trailers t.asked.body t.asked.last)
    (λ e. buffered_plain g w.original (list_any is_body w.asks) x.hold.hand (λ n l. refl) x.arrived x.asked t.arrived.whole t.arrived.trailers t.asked.body
    (λ f. whole_hand c d w x.hold p.taken.body t.hold r s (inl e) f))
    (λ e. partial_plain g w.original x.limit (list_any is_body w.asks) x.hold.hand (λ n l. refl) x.arrived x.asked t.arrived.whole t.arrived.trailers t.asked.body
    (λ f. whole_hand c d w x.hold p.taken.body t.hold r s (inr e) f))
    ∙ ap (λ b. option_map g (if b then None else due_by_mode (mode w) (streamed_due x.arrived x.asked (length x.hold.hand)) (buffered_due x.arrived x.asked (length x.hold.hand)) (partial_due x.arrived x.asked x.limit (length x.hold.hand))))
    (ap is_bodiless (sym t.arrived.framed))
    ∙ ap (λ b. option_map g (if is_bodiless x.arrived.framed then None else due_by_mode b (streamed_due x.arrived x.asked (length x.hold.hand)) (buffered_due x.arrived x.asked (length x.hold.hand)) (partial_due x.arrived x.asked x.limit (length x.hold.hand))))
    (sym (mode_is x.rule d w t.rule))

trailers_plain : (tr r s w e k : Bool) (f : List Field) (g : Due → AskedPart) → g due.Trailers ≡ Trailers f → r ≡ false → s ≡ false
    → (if tr && not r && not s && w && not e && not k then Some (Trailers f) else None) ≡ option_map g (if tr && w && not e && not k then Some due.Trailers else None)
trailers_plain tr true s w e k f g q a b = absurd cc
trailers_plain tr false true w e k f g q a b = absurd cc
trailers_plain true false false true true k f g q a b = refl
trailers_plain true false false true false true f g q a b = refl
trailers_plain true false false true false false f g q a b = ap Some (sym q)
trailers_plain true false false false e k f g q a b = refl
trailers_plain false false false w e k f g q a b = refl

trailers_is_due : (c : CourseConfig) (d : Direction) (p : Progress) (x : Half) → Ties c d p x → p.course.released ≡ false → is_stopped p.course ≡ false
    → next_trailers p.course ≡ option_map (part p x) (trailers_due_of x)
trailers_is_due c d p x t r s =
    let w : Course = p.course in
    let g : Due → AskedPart = part p x in
    trailers_plain w.modes.trailers w.released (is_stopped w) w.original.whole (is_empty w.original.trailers) (list_any is_trailers w.asks) w.original.trailers g refl r s
    ∙ ap (λ (m : PartModes). option_map g (if m.trailers && w.original.whole && not (is_empty w.original.trailers) && not (list_any is_trailers w.asks) then Some due.Trailers else None)) (sym t.rule.modes)
    ∙ ap (λ b. option_map g (if x.rule.modes.trailers && b && not (is_empty w.original.trailers) && not (list_any is_trailers w.asks) then Some due.Trailers else None)) (sym t.arrived.whole)
    ∙ ap (λ b. option_map g (if x.rule.modes.trailers && x.arrived.whole && b && not (list_any is_trailers w.asks) then Some due.Trailers else None)) (sym t.arrived.trailers)
    ∙ ap (λ b. option_map g (if x.rule.modes.trailers && x.arrived.whole && x.arrived.trailers && not b then Some due.Trailers else None)) (sym t.asked.trailers)

pub next_is_due : (c : CourseConfig) (d : Direction) (p : Progress) (x : Half) → MadeWith c d x → Ties c d p x → next c p.course ≡ option_map (part p x) (due_of x)
unfolding next
next_is_due c d p x m t =
    let w : Course = p.course in
    let g : Due → AskedPart = part p x in
    in_turn g w.original.head (is_bodiless w.original.length) w.released (is_stopped w) (w.modes.headers && is_empty w.asks) (list_any is_headers (out w))
    (body_due_of x) (trailers_due_of x) (next_body c w) (next_trailers w) refl (body_is_due c d p x m t) (trailers_is_due c d p x t)
    ∙ ap (λ b. option_map g (due_in b w.released (is_stopped w) (w.modes.headers && is_empty w.asks) (list_any is_headers (out w)) (body_due_of x) (trailers_due_of x))) (sym t.arrived.head)
    ∙ ap (λ b. option_map g (due_in x.arrived.head b (is_stopped w) (w.modes.headers && is_empty w.asks) (list_any is_headers (out w)) (body_due_of x) (trailers_due_of x))) (sym t.rule.released)
    ∙ ap (λ b. option_map g (due_in x.arrived.head x.rule.released b (w.modes.headers && is_empty w.asks) (list_any is_headers (out w)) (body_due_of x) (trailers_due_of x))) (sym t.rule.stopped)
    ∙ ap (λ (q : PartModes). option_map g (due_in x.arrived.head x.rule.released x.rule.stopped (q.headers && is_empty w.asks) (list_any is_headers (out w)) (body_due_of x) (trailers_due_of x))) (sym t.rule.modes)
    ∙ ap (λ b. option_map g (due_in x.arrived.head x.rule.released x.rule.stopped (x.rule.modes.headers && b) (list_any is_headers (out w)) (body_due_of x) (trailers_due_of x))) (sym (not_twice (is_empty w.asks)) ∙ ap not (sym t.asked.any))
    ∙ ap (λ b. option_map g (due_in x.arrived.head x.rule.released x.rule.stopped (x.rule.modes.headers && not x.asked.any) b (body_due_of x) (trailers_due_of x))) (sym (headers_out_is c d p x t))
