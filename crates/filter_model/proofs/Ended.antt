-- A message that has arrived and was answered has ended: all that may go was given, so no ask waits for leave, and none is due.
use Rattle.std.proofs.Common.{inl, inr, sym, ◌∙◌, ap, refl, arith, lt-ltb, le-leb}
use Rattle.std.proofs.lemmas.List.{drop_all}
use Rattle.std.specs.Prelude.{ℕ, ◌≡◌, ◌⊎◌, ◌-◌, min, cond, Bool, true, false, not, ◌&&◌, ◌||◌, List, [], ◌∷◌, length, zip, Option, Some, None, if◌then◌else◌, is_some, is_none, find, option_map, option_to_list, nat_lt, nat_le}
use Rattle.std.specs.List.{list_any}
use Rattle.ext_msgs.specs.declared.lists.Field.{Field}
use Rattle.ext_msgs.specs.declared.answer.Common.{Common}
use Rattle.ext_msgs.specs.declared.modes.BodyMode.{BodyMode}
use Rattle.ext_msgs.specs.declared.modes.BodyMode.TheVariants.{NoAsk, Streamed, Buffered, Partial}
use Rattle.http_model.specs.Bytes.{is_empty}
use Rattle.http_model.specs.Heads.{is_bodiless}
use Rattle.http_model.specs.declared.types.Direction.{Direction}
use Rattle.filter_model.specs.Config.{CourseConfig}
use Rattle.filter_model.specs.Course.{Course, AskedPart, Trailers, Outgoing, changed, changed_at, kept, replacement, body_of, is_headers, is_body, is_trailers, is_stopped, is_buffered, is_settled, mode, mode_at, replaces, answer_to, out, head_may_go, is_body_done, body_done_at, trailers_at, next, next_at, or_else, next_body, body_at, next_trailers, due, is_permitted, queue, ask_limit}
use Rattle.filter_model.proofs.Firm.{Firm}
use Rattle.filter_model.proofs.AtRest.{Rested}

true_is_not_false : true ≡ false → ⊥
true_is_not_false e = cc

-- The head and the body of what a message has become

pub changed-head : (c : CourseConfig) (d : Direction) (w : Course) → w.head ≡ (changed c d w).head
unfolding changed
changed-head c d w = by w.head (replacement d w)
  where
    by : (o : Option Outgoing) (r : Option (List ℕ)) → o ≡ (changed_at c w o r).head
    by None r = refl
    by (Some h) None = refl
    by (Some h) (Some b) = refl

pub no_body_yet : (c : CourseConfig) (d : Direction) (w : Course) → (changed c d w).head ≡ None → body_of (changed c d w) ≡ []
unfolding changed
no_body_yet c d w = by w.head (replacement d w)
  where
    by : (o : Option Outgoing) (r : Option (List ℕ)) → (changed_at c w o r).head ≡ None → body_of (changed_at c w o r) ≡ []
    by None r e = refl
    by (Some h) None e = absurd cc
    by (Some h) (Some b) e = absurd cc

-- Asks may be made

permits : (c : CourseConfig) (d : Direction) (w : Course) → length w.asks ≡ length w.answers → w.sent ≡ length w.asks → w.given ≡ length (body_of (changed c d w))
    → is_permitted c d w ≡ true
unfolding is_permitted queue
permits c d w a s g =
    both (nat_lt (length w.asks - min (length w.answers) w.sent) ask_limit) (nat_le (length (body_of (changed c d w)) - w.given) c.mark)
    (lt-ltb (length w.asks - min (length w.answers) w.sent) ask_limit (omega (arith, a, s)))
    (le-leb (length (body_of (changed c d w)) - w.given) c.mark (omega (arith, g)))
  where
    both : (x y : Bool) → x ≡ true → y ≡ true → (x && y) ≡ true
    both true y e f = f
    both false y e f = absurd cc

nothing_due : (c : CourseConfig) (d : Direction) (w : Course) → due c d w ≡ [] → is_permitted c d w ≡ true → next c w ≡ None
nothing_due c d w e p = by (next c w) (ap (λ b. if b then option_to_list (next c w) else []) (sym p) ∙ e)
  where
    by : (n : Option AskedPart) → option_to_list n ≡ [] → n ≡ None
    by None e = refl
    by (Some x) e = absurd cc

-- What it says that none is due

-- a CONTINUE_AND_REPLACE came, or headers, body and trailers have each had their ask
pub record AllMade (c : CourseConfig) (w : Course) : Type 0 where
  pub first : (w.modes.headers && is_empty w.asks) ≡ false
  pub body : next_body c w ≡ None
  pub trailers : next_trailers w ≡ None

some_or : (b t : Option AskedPart) → or_else b t ≡ None → (b ≡ None) × (t ≡ None)
some_or None t e = (refl, e)
some_or (Some x) t e = absurd cc

none_next : (head : Option (List Field)) (bodiless r first o s : Bool) (b t : Option AskedPart) → is_some head ≡ true → r ≡ false → o ≡ false → next_at head bodiless r first o s b t ≡ None
    → (s ≡ true) ⊎ ((first ≡ false) × (b ≡ None) × (t ≡ None))
none_next None bodiless r first o s b t h i j e = absurd cc
none_next (Some l) bodiless true first o s b t h i j e = absurd cc
none_next (Some l) bodiless false first o true b t h i j e = inl refl
none_next (Some l) bodiless false true o false b t h i j e = absurd cc
none_next (Some l) bodiless false false true false b t h i j e = absurd cc
none_next (Some l) bodiless false false false false b t h i j e = let k = some_or b t e in inr (refl, k.0, k.1)

stopped_body : (bodiless s : Bool) (m : BodyMode) (x y z : Option AskedPart) → s ≡ true → body_at bodiless s m x y z ≡ None
stopped_body true s m x y z e = refl
stopped_body false true m x y z e = refl
stopped_body false false m x y z e = absurd cc

answers_none : (answers : List Common) → list_any (λ (a : Common). a.replace) answers ≡ true → length answers ≡ 0 → ⊥
answers_none [] e n = true_is_not_false (sym e)
answers_none (a ∷ answers) e n = omega (arith, n)

asks_some : (asks : List AskedPart) (n : ℕ) → length asks ≡ n → (n ≡ 0 → ⊥) → is_empty asks ≡ false
asks_some [] n e f = absurd (f (sym e))
asks_some (p ∷ asks) n e f = refl

and_false : (x y : Bool) → y ≡ false → (x && y) ≡ false
and_false true y e = e
and_false false y e = refl

no_trailers_due : (a r s w e t : Bool) (x : AskedPart) → s ≡ true → (if a && not r && not s && w && not e && not t then Some x else None) ≡ None
no_trailers_due true true s w e t x i = refl
no_trailers_due true false true w e t x i = refl
no_trailers_due true false false w e t x i = absurd cc
no_trailers_due false r s w e t x i = refl

stopped_trailers : (w : Course) → is_stopped w ≡ true → next_trailers w ≡ None
stopped_trailers w s = no_trailers_due w.modes.trailers w.released (is_stopped w) w.original.whole (is_empty w.original.trailers) (list_any is_trailers w.asks) (Trailers w.original.trailers) s

none_out : (w : Course) → length w.asks ≡ length w.answers → out w ≡ []
none_out w e = drop_all (length w.answers) w.asks (omega (arith, e))

all_made : (c : CourseConfig) (w : Course) → is_some w.original.head ≡ true → w.released ≡ false → length w.asks ≡ length w.answers → next c w ≡ None → AllMade c w
unfolding next next_body
all_made c w h r a e =
    by (none_next w.original.head (is_bodiless w.original.length) w.released (w.modes.headers && is_empty w.asks) (list_any is_headers (out w)) (is_stopped w) (next_body c w) (next_trailers w)
    h r (ap (list_any is_headers) (none_out w a)) e)
  where
    by : (is_stopped w ≡ true) ⊎ (((w.modes.headers && is_empty w.asks) ≡ false) × (next_body c w ≡ None) × (next_trailers w ≡ None)) → AllMade c w
    by (inl s) = record {
      first = and_false w.modes.headers (is_empty w.asks) (asks_some w.asks (length w.answers) a (answers_none w.answers s));
      body = stopped_body (is_bodiless w.original.length) (is_stopped w) (mode w) _ _ _ s;
      trailers = stopped_trailers w s;
    }
    by (inr (x, y, z)) = record { first = x; body = y; trailers = z }

-- The head may go

answered : (kind : AskedPart → Bool) (asks : List AskedPart) (answers : List Common) → length asks ≡ length answers → list_any kind asks ≡ true
    → is_some (option_map (λ (q : AskedPart × Common). q.1) (find (λ (q : AskedPart × Common). kind q.0) (zip asks answers))) ≡ true
answered kind [] answers n e = absurd cc
answered kind (p ∷ asks) [] n e = absurd (omega (arith, n))
answered kind (p ∷ asks) (a ∷ answers) n e = by (kind p) e (answered kind asks answers (omega (arith, n)))
  where
    by : (b : Bool) → (b || list_any kind asks) ≡ true
        → (list_any kind asks ≡ true → is_some (option_map (λ (q : AskedPart × Common). q.1) (find (λ (q : AskedPart × Common). kind q.0) (zip asks answers))) ≡ true)
        → is_some (option_map (λ (q : AskedPart × Common). q.1) (cond b (Some (p, a)) (find (λ (q : AskedPart × Common). kind q.0) (zip asks answers)))) ≡ true
    by true e i = refl
    by false e i = i e

settles : (w : Course) → Firm w → is_some w.original.head ≡ true → length w.asks ≡ length w.answers → (w.modes.headers && is_empty w.asks) ≡ false → is_settled w ≡ true
settles w f h a e = by (is_some w.original.head) w.released w.modes.headers (is_empty w.asks) h refl refl e
  where
    by : (x r m n : Bool) → x ≡ true → m ≡ w.modes.headers → n ≡ is_empty w.asks → (m && n) ≡ false → (x && (r || not m || is_some (answer_to is_headers w))) ≡ true
    by false r m n i j k e = absurd cc
    by true true m n i j k e = refl
    by true false false n i j k e = refl
    by true false true true i j k e = absurd (true_is_not_false e)
    by true false true false i j k e = answered is_headers w.asks w.answers a (f.first (sym j) (sym k))

-- in BUFFERED a body that isn't there any more to be asked was asked
pub buffered_asked : (bodiless s : Bool) (m : BodyMode) (x z : Option AskedPart) (whole asked : Bool) (p : AskedPart) → bodiless ≡ false → s ≡ false → is_buffered m ≡ true → whole ≡ true
    → body_at bodiless s m x (if whole && not asked then Some p else None) z ≡ None → asked ≡ true
buffered_asked true s m x z whole asked p i j k l e = absurd cc
buffered_asked false true m x z whole asked p i j k l e = absurd cc
buffered_asked false false NoAsk x z whole asked p i j k l e = absurd cc
buffered_asked false false Streamed x z whole asked p i j k l e = absurd cc
buffered_asked false false Partial x z whole asked p i j k l e = absurd cc
buffered_asked false false Buffered x z false asked p i j k l e = absurd cc
buffered_asked false false Buffered x z true true p i j k l e = refl
buffered_asked false false Buffered x z true false p i j k l e = absurd cc

pub not_buffered : (r : Bool) (x : Option Common) (m : BodyMode) → replaces x ≡ true → is_buffered (mode_at r x m) ≡ true → ⊥
not_buffered true x m e f = true_is_not_false (sym f)
not_buffered false None m e f = true_is_not_false (sym e)
not_buffered false (Some a) m e f = true_is_not_false (sym f ∙ ap (λ b. is_buffered (if b then NoAsk else m)) e)

body_answered : (c : CourseConfig) (w : Course) → Firm w → w.original.whole ≡ true → length w.asks ≡ length w.answers → next_body c w ≡ None
    → is_buffered (mode w) ≡ true → is_bodiless w.original.length ≡ false → is_some (answer_to is_body w) ≡ true
unfolding next_body
body_answered c w f whole a e m b = by (is_stopped w) refl
  where
    stopped : (replaces (answer_to is_headers w) ≡ true) ⊎ (is_some (answer_to is_body w) ≡ true) → is_some (answer_to is_body w) ≡ true
    stopped (inl g) = absurd (not_buffered w.released (answer_to is_headers w) w.modes.body g m)
    stopped (inr g) = g

    by : (s : Bool) → is_stopped w ≡ s → is_some (answer_to is_body w) ≡ true
    by true s = stopped (f.stops s)
    by false s = answered is_body w.asks w.answers a
        (buffered_asked (is_bodiless w.original.length) (is_stopped w) (mode w) _ _ w.original.whole (list_any is_body w.asks) _ b s m whole e)

goes : (c : CourseConfig) (w : Course) → Firm w → is_some w.original.head ≡ true → w.original.whole ≡ true → length w.asks ≡ length w.answers → AllMade c w → head_may_go w ≡ true
goes c w f h whole a k = by w.released (is_buffered (mode w)) (is_bodiless w.original.length) refl refl (settles w f h a k.first)
  where
    by : (r m b : Bool) → m ≡ is_buffered (mode w) → b ≡ is_bodiless w.original.length → is_settled w ≡ true → (r || (is_settled w && (not m || b || is_some (answer_to is_body w)))) ≡ true
    by true m b i j s = refl
    by false false b i j s = ap (λ x. x && true) s
    by false true true i j s = ap (λ x. x && true) s
    by false true false i j s = ap (λ x. x && is_some (answer_to is_body w)) s ∙ body_answered c w f whole a k.body (sym i) (sym j)

-- The message has ended

ended_at : (c : CourseConfig) (w : Course) (o : Option Outgoing) (r : Option (List ℕ)) → is_some o ≡ true → ((h : Outgoing) → (kept c w h).ended ≡ true) → (changed_at c w o r).ended ≡ true
ended_at c w None r e k = absurd cc
ended_at c w (Some h) (Some b) e k = refl
ended_at c w (Some h) None e k = k h

ends : {A : Type 0} (done empty : Bool) (x : Option Common) (f : Common → A) (passes : Bool) (t : A) → done ≡ true → passes ≡ true
    → (done && (empty || is_some (trailers_at empty done x f passes t))) ≡ true
ends true true x f passes t e g = refl
ends true false (Some a) f passes t e g = refl
ends true false None f true t e g = refl
ends true false None f false t e g = absurd cc
ends false empty x f passes t e g = absurd cc

body_done : (whole released out : Bool) (b : Option AskedPart) → whole ≡ true → (released ≡ true) ⊎ ((out ≡ false) × (b ≡ None)) → body_done_at whole released out b ≡ true
body_done true true out b e g = refl
body_done true false out b e (inl g) = absurd cc
body_done true false true b e (inr g) = absurd (true_is_not_false g.0)
body_done true false false None e (inr g) = refl
body_done true false false (Some x) e (inr g) = absurd cc
body_done false released out b e g = absurd cc

trailers_pass : (released empty : Bool) (t : Option AskedPart) → (released ≡ true) ⊎ ((empty ≡ true) × (t ≡ None)) → (released || (empty && is_none t)) ≡ true
trailers_pass true empty t g = refl
trailers_pass false empty t (inl g) = absurd cc
trailers_pass false true None (inr g) = refl
trailers_pass false true (Some x) (inr g) = absurd cc
trailers_pass false false t (inr g) = absurd (true_is_not_false (sym g.0))

kept_ends : (c : CourseConfig) (w : Course) (h : Outgoing) → w.original.whole ≡ true → (w.released ≡ true) ⊎ ((length w.asks ≡ length w.answers) × AllMade c w) → (kept c w h).ended ≡ true
kept_ends c w h whole g =
    ends (is_body_done c w) (is_empty w.original.trailers) (answer_to is_trailers w) _ (w.released || (is_empty (out w) && is_none (next_trailers w))) w.original.trailers
    (body_done w.original.whole w.released (list_any is_body (out w)) (next_body c w) whole (body_by g))
    (trailers_pass w.released (is_empty (out w)) (next_trailers w) (trailers_at_rest g))
  where
    body_by : (w.released ≡ true) ⊎ ((length w.asks ≡ length w.answers) × AllMade c w) → (w.released ≡ true) ⊎ ((list_any is_body (out w) ≡ false) × (next_body c w ≡ None))
    body_by (inl r) = inl r
    body_by (inr (a, k)) = inr (ap (list_any is_body) (none_out w a), k.body)

    trailers_at_rest : (w.released ≡ true) ⊎ ((length w.asks ≡ length w.answers) × AllMade c w) → (w.released ≡ true) ⊎ ((is_empty (out w) ≡ true) × (next_trailers w ≡ None))
    trailers_at_rest (inl r) = inl r
    trailers_at_rest (inr (a, k)) = inr (ap is_empty (none_out w a), k.trailers)

head_chosen : (w : Course) → is_some w.original.head ≡ true → (w.head ≡ None → head_may_go w ≡ true → w.original.head ≡ None) → head_may_go w ≡ true → is_some w.head ≡ true
head_chosen w h k g = by w.head refl
  where
    by : (o : Option Outgoing) → o ≡ w.head → is_some w.head ≡ true
    by (Some x) e = ap is_some (sym e)
    by None e = absurd (true_is_not_false (sym h ∙ ap is_some (k (sym e) g)))

released_goes : (w : Course) → w.released ≡ true → head_may_go w ≡ true
released_goes w e = ap (λ r. r || (is_settled w && (not (is_buffered (mode w)) || is_bodiless w.original.length || is_some (answer_to is_body w)))) e

-- everything has arrived, and the rest passes or every ask is answered and sent, and what may go was given
pub has_ended : (c : CourseConfig) (d : Direction) (w : Course) (front given : List ℕ) → Firm w → Rested c d w front given → is_some w.original.head ≡ true → w.original.whole ≡ true
    → (w.released ≡ true) ⊎ ((length w.asks ≡ length w.answers) × (w.sent ≡ length w.asks) × (w.given ≡ length (body_of (changed c d w))))
    → (changed c d w).ended ≡ true
unfolding changed
has_ended c d w front given f k h whole (inl r) =
    ended_at c w w.head (replacement d w) (head_chosen w h k.chosen (released_goes w r)) (λ x. kept_ends c w x whole (inl r))
has_ended c d w front given f k h whole (inr (a, s, g)) = by w.released refl
  where
    by : (r : Bool) → w.released ≡ r → (changed_at c w w.head (replacement d w)).ended ≡ true
    by true r = ended_at c w w.head (replacement d w) (head_chosen w h k.chosen (released_goes w r)) (λ x. kept_ends c w x whole (inl r))
    by false r =
        let m : AllMade c w = all_made c w h r a (nothing_due c d w k.asked (permits c d w a s g)) in
        ended_at c w w.head (replacement d w) (head_chosen w h k.chosen (goes c w f h whole a m)) (λ x. kept_ends c w x whole (inr (a, m)))
