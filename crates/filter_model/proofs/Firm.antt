-- What a course keeps to so that it comes to its end: its headers are asked first, and a CONTINUE_AND_REPLACE stands in an
-- answer to headers or to a body; and once asks were made, none is due and permitted.
use Rattle.std.proofs.Common.{inl, inr, sym, ◌∙◌, ap, subst, append-nil, refl, arith, length-append, le-ltb}
use Rattle.std.proofs.lemmas.List.Folds.{list_any-append}
use Rattle.std.specs.Prelude.{ℕ, suc, ◌≡◌, ◌⊎◌, ◌+◌, ◌-◌, ◌≤◌, min, cond, Bool, true, false, not, ◌&&◌, ◌||◌, List, [], ◌∷◌, ◌++◌, length, Option, Some, None, if◌then◌else◌, is_some, find, option_map, option_to_list, nat_lt}
use Rattle.std.specs.List.{list_any}
use Rattle.ext_msgs.specs.declared.lists.Field.{Field}
use Rattle.ext_msgs.specs.declared.answer.Common.{Common}
use Rattle.http_model.specs.Bytes.{is_empty}
use Rattle.http_model.specs.Heads.{is_bodiless}
use Rattle.http_model.specs.declared.types.Direction.{Direction}
use Rattle.filter_model.specs.Config.{CourseConfig}
use Rattle.filter_model.specs.Course.{Course, AskedPart, Headers, Body, Trailers, pairs, out, is_body, is_headers, is_trailers, is_stopped, is_buffered, mode_at, answer_to, replaces, head_may_go, next, next_at, due, is_permitted, one_asked, asked, ask_limit}
use Rattle.filter_model.specs.Sound.{Sound}
use Rattle.filter_model.proofs.CourseGrows.{with_answer, pairs_more, once_out, zip_longer}
use Rattle.filter_model.proofs.Sounds.{one_asked_sound}

pub record Firm (w : Course) : Type 0 where
  pub first : w.modes.headers ≡ true → is_empty w.asks ≡ false → list_any is_headers w.asks ≡ true
  pub stops : is_stopped w ≡ true → (replaces (answer_to is_headers w) ≡ true) ⊎ (is_some (answer_to is_body w) ≡ true)

true_is_not_false : true ≡ false → ⊥
true_is_not_false e = cc

-- Answers

found : (k : AskedPart × Common → Bool) (xs ys : List (AskedPart × Common)) → is_some (find k xs) ≡ true → find k (xs ++ ys) ≡ find k xs
found k [] ys e = absurd cc
found k (x ∷ xs) ys e = by (k x) e (found k xs ys)
  where
    by : (b : Bool) → is_some (cond b (Some x) (find k xs)) ≡ true → (is_some (find k xs) ≡ true → find k (xs ++ ys) ≡ find k xs)
        → cond b (Some x) (find k (xs ++ ys)) ≡ cond b (Some x) (find k xs)
    by true e i = refl
    by false e i = i e

found_last : (k : AskedPart × Common → Bool) (xs : List (AskedPart × Common)) (q : AskedPart × Common) → k q ≡ true → find k xs ≡ None → find k (xs ++ q ∷ []) ≡ Some q
found_last k [] q e f = ap (λ b. cond b (Some q) None) e
found_last k (x ∷ xs) q e f = by (k x) f (found_last k xs q e)
  where
    by : (b : Bool) → cond b (Some x) (find k xs) ≡ None → (find k xs ≡ None → find k (xs ++ q ∷ []) ≡ Some q) → cond b (Some x) (find k (xs ++ q ∷ [])) ≡ Some q
    by true f i = absurd cc
    by false f i = i f

some_last : (k : AskedPart × Common → Bool) (xs : List (AskedPart × Common)) (q : AskedPart × Common) → k q ≡ true → is_some (find k (xs ++ q ∷ [])) ≡ true
some_last k [] q e = ap (λ b. is_some (cond b (Some q) None)) e
some_last k (x ∷ xs) q e = by (k x) (some_last k xs q e)
  where
    by : (b : Bool) → is_some (find k (xs ++ q ∷ [])) ≡ true → is_some (cond b (Some x) (find k (xs ++ q ∷ []))) ≡ true
    by true i = refl
    by false i = i

some_mapped : (o : Option (AskedPart × Common)) → is_some (option_map (λ (q : AskedPart × Common). q.1) o) ≡ is_some o
some_mapped None = refl
some_mapped (Some q) = refl

replaced_some : (o : Option (AskedPart × Common)) → replaces (option_map (λ (q : AskedPart × Common). q.1) o) ≡ true → is_some o ≡ true
replaced_some None e = absurd cc
replaced_some (Some q) e = refl

abbrev value_in : Option (AskedPart × Common) → Option Common
value_in o = option_map (λ (q : AskedPart × Common). q.1) o

abbrev Stops : List (AskedPart × Common) → Type 0
Stops l = (replaces (value_in (find (λ (q : AskedPart × Common). is_headers q.0) l)) ≡ true) ⊎ (is_some (value_in (find (λ (q : AskedPart × Common). is_body q.0) l)) ≡ true)

-- an answer that is there stays the first
stops_on : (l more : List (AskedPart × Common)) → Stops l → Stops (l ++ more)
stops_on l more (inl e) =
    inl (ap (λ o. replaces (value_in o)) (found (λ (q : AskedPart × Common). is_headers q.0) l more (replaced_some (find (λ (q : AskedPart × Common). is_headers q.0) l) e)) ∙ e)
stops_on l more (inr e) =
    let k : is_some (find (λ (q : AskedPart × Common). is_body q.0) l) ≡ true = sym (some_mapped (find (λ (q : AskedPart × Common). is_body q.0) l)) ∙ e in
    inr (ap (λ o. is_some (value_in o)) (found (λ (q : AskedPart × Common). is_body q.0) l more k) ∙ e)

-- one that replaces is an answer to headers or to a body
stops_at : (c : CourseConfig) (w : Course) (a : Common) (p : AskedPart) (more : List AskedPart) → Sound c w → out w ≡ p ∷ more → (is_trailers p ≡ true → a.replace ≡ false) → a.replace ≡ true
    → Stops (pairs w ++ (p, a) ∷ [])
stops_at c w a (Headers fields last) more s o t e =
    let none : find (λ (q : AskedPart × Common). is_headers q.0) (pairs w) ≡ None = once_out is_headers w.asks w.answers s.once_headers (ap (list_any is_headers) o) in
    inl (ap (λ o. replaces (value_in o)) (found_last (λ (q : AskedPart × Common). is_headers q.0) (pairs w) (Headers fields last, a) refl none) ∙ e)
stops_at c w a (Body bytes last) more s o t e =
    inr (some_mapped (find (λ (q : AskedPart × Common). is_body q.0) (pairs w ++ (Body bytes last, a) ∷ [])) ∙ some_last (λ (q : AskedPart × Common). is_body q.0) (pairs w) (Body bytes last, a) refl)
stops_at c w a (Trailers fields) more s o t e = absurd (true_is_not_false (sym e ∙ t refl))

or_either : (x y : Bool) → (x || (y || false)) ≡ true → (x ≡ true) ⊎ (y ≡ true)
or_either true y e = inl refl
or_either false true e = inr refl
or_either false false e = absurd cc

pub join_firm : (c : CourseConfig) (w : Course) (a : Common) (p : AskedPart) (more : List AskedPart) → Firm w → Sound c w → out w ≡ p ∷ more → (is_trailers p ≡ true → a.replace ≡ false)
    → Firm (with_answer a w)
join_firm c w a p more f s o t = record {
  first = f.first;
  stops = λ e. subst Stops (sym (pairs_more w a p more o))
      (by (or_either (is_stopped w) a.replace (sym (list_any-append (λ (x : Common). x.replace) w.answers (a ∷ [])) ∙ e)));
}
  where
    by : (is_stopped w ≡ true) ⊎ (a.replace ≡ true) → Stops (pairs w ++ (p, a) ∷ [])
    by (inl e) = stops_on (pairs w) ((p, a) ∷ []) (f.stops e)
    by (inr e) = stops_at c w a p more s o t e

-- Asks

answers_stay : (w : Course) (l : List AskedPart) (kind : AskedPart → Bool) → length w.answers ≤ length w.asks → answer_to kind (record w { asks = w.asks ++ l }) ≡ answer_to kind w
answers_stay w l kind n = ap (λ x. value_in (find (λ (q : AskedPart × Common). kind q.0) x)) (zip_longer w.asks l w.answers n)

next_first : (head : Option (List Field)) (bodiless r first o s : Bool) (b t : Option AskedPart) (x : AskedPart) → first ≡ true → next_at head bodiless r first o s b t ≡ Some x → is_headers x ≡ true
next_first None bodiless r first o s b t x i e = absurd cc
next_first (Some l) bodiless true first o s b t x i e = absurd cc
next_first (Some l) bodiless false first o true b t x i e = absurd cc
next_first (Some l) bodiless false true o false b t x i e = ap is_headers_in (sym e)
  where
    is_headers_in : Option AskedPart → Bool
    is_headers_in None = false
    is_headers_in (Some p) = is_headers p
next_first (Some l) bodiless false false o false b t x i e = absurd cc

-- what is due is nothing or one ask
pub DueIs : CourseConfig → Direction → Course → Type 0
DueIs c d w = (due c d w ≡ []) ⊎ ((x : AskedPart) × (due c d w ≡ x ∷ []) × (next c w ≡ Some x) × (is_permitted c d w ≡ true))

due_is : (c : CourseConfig) (d : Direction) (w : Course) → DueIs c d w
unfolding DueIs
due_is c d w = by (is_permitted c d w) (next c w) refl refl
  where
    by : (b : Bool) (n : Option AskedPart) → b ≡ is_permitted c d w → n ≡ next c w
        → (due c d w ≡ []) ⊎ ((x : AskedPart) × (due c d w ≡ x ∷ []) × (next c w ≡ Some x) × (is_permitted c d w ≡ true))
    by false n e f = inl (ap (λ b. if b then option_to_list (next c w) else []) (sym e))
    by true None e f = inl (ap (λ b. if b then option_to_list (next c w) else []) (sym e) ∙ ap option_to_list (sym f))
    by true (Some x) e f = inr (x, ap (λ b. if b then option_to_list (next c w) else []) (sym e) ∙ ap option_to_list (sym f), sym f, sym e)

first_stays : (c : CourseConfig) (w : Course) (x : AskedPart) → Firm w → next c w ≡ Some x → w.modes.headers ≡ true → list_any is_headers (w.asks ++ x ∷ []) ≡ true
unfolding next
first_stays c w x f e h = list_any-append is_headers w.asks (x ∷ []) ∙ by (is_empty w.asks) refl
  where
    or_right : (a b : Bool) → b ≡ true → (a || (b || false)) ≡ true
    or_right true b e = refl
    or_right false true e = refl
    or_right false false e = absurd cc

    or_left : (a b : Bool) → a ≡ true → (a || b) ≡ true
    or_left true b e = refl
    or_left false b e = absurd cc

    by : (b : Bool) → is_empty w.asks ≡ b → (list_any is_headers w.asks || (is_headers x || false)) ≡ true
    by true n = or_right (list_any is_headers w.asks) (is_headers x)
        (next_first w.original.head _ w.released (w.modes.headers && is_empty w.asks) (list_any is_headers (out w)) (is_stopped w) _ _ x (ap (λ b. b && is_empty w.asks) h ∙ n) e)
    by false n = or_left (list_any is_headers w.asks) (is_headers x || false) (f.first h n)

one_asked_firm : (c : CourseConfig) (d : Direction) (w : Course) → Firm w → Sound c w → Firm (one_asked c d w)
unfolding one_asked DueIs
one_asked_firm c d w f s = record {
  first = λ h n. by (due_is c d w) h n;
  stops = λ e. subst Stops (sym (zip_longer w.asks (due c d w) w.answers s.counts)) (f.stops e);
}
  where
    by : (due c d w ≡ []) ⊎ ((x : AskedPart) × (due c d w ≡ x ∷ []) × (next c w ≡ Some x) × (is_permitted c d w ≡ true))
        → w.modes.headers ≡ true → is_empty (w.asks ++ due c d w) ≡ false → list_any is_headers (w.asks ++ due c d w) ≡ true
    by (inl e) h n =
        let same : w.asks ++ due c d w ≡ w.asks = ap (λ l. w.asks ++ l) e ∙ append-nil w.asks in
        ap (list_any is_headers) same ∙ f.first h (sym (ap is_empty same) ∙ n)
    by (inr (x, e, k, p)) h n = ap (λ l. list_any is_headers (w.asks ++ l)) e ∙ first_stays c w x f k h

pub asked_firm : (c : CourseConfig) (d : Direction) (w : Course) → Firm w → Sound c w → Firm (asked c d w)
unfolding asked
asked_firm c d w f s =
    let w1 : Course = one_asked c d w in
    let w2 : Course = one_asked c d w1 in
    let w3 : Course = one_asked c d w2 in
    let s1 : Sound c w1 = one_asked_sound c d w s in
    let s2 : Sound c w2 = one_asked_sound c d w1 s1 in
    let s3 : Sound c w3 = one_asked_sound c d w2 s2 in
    one_asked_firm c d w3 (one_asked_firm c d w2 (one_asked_firm c d w1 (one_asked_firm c d w f s) s1) s2) s3

-- Asks are made until none is due and permitted

-- none is due, or so many were made
abbrev MadeAll : CourseConfig → Direction → ℕ → Course → Type 0
MadeAll c d n w = (due c d w ≡ []) ⊎ (min (length w.answers) w.sent + n ≤ length w.asks)

same_course : (w : Course) (l : List AskedPart) → l ≡ [] → record w { asks = w.asks ++ l } ≡ w
same_course w l e = ap (λ k. record w { asks = k }) (ap (λ k. w.asks ++ k) e ∙ append-nil w.asks)

one_more : (c : CourseConfig) (d : Direction) (n : ℕ) (w : Course) → MadeAll c d n w → MadeAll c d (suc n) (one_asked c d w)
unfolding one_asked DueIs
one_more c d n w (inl e) = inl (ap (due c d) (same_course w (due c d w) e) ∙ e)
one_more c d n w (inr h) = by (due_is c d w)
  where
    by : (due c d w ≡ []) ⊎ ((x : AskedPart) × (due c d w ≡ x ∷ []) × (next c w ≡ Some x) × (is_permitted c d w ≡ true)) → MadeAll c d (suc n) (record w { asks = w.asks ++ due c d w })
    by (inl e) = inl (ap (due c d) (same_course w (due c d w) e) ∙ e)
    by (inr (x, e, k, p)) = inr (omega (arith, h, length-append w.asks (due c d w), ap length e))

not_permitted : (c : CourseConfig) (d : Direction) (w : Course) → min (length w.answers) w.sent + 4 ≤ length w.asks → is_permitted c d w ≡ false
unfolding is_permitted
not_permitted c d w h =
    by (nat_lt (length w.asks - min (length w.answers) w.sent) ask_limit) _ (le-ltb (length w.asks - min (length w.answers) w.sent) ask_limit (omega (arith, h)))
  where
    by : (x y : Bool) → x ≡ false → (x && y) ≡ false
    by true y e = absurd cc
    by false y e = refl

pub asked_all : (c : CourseConfig) (d : Direction) (w : Course) → length w.answers ≤ length w.asks → due c d (asked c d w) ≡ []
unfolding asked
asked_all c d w n =
    by (one_more c d 3 w3 (one_more c d 2 w2 (one_more c d 1 w1 (one_more c d 0 w (inr (omega (arith, n)))))))
  where
    w1 : Course
    w1 = one_asked c d w

    w2 : Course
    w2 = one_asked c d w1

    w3 : Course
    w3 = one_asked c d w2

    by : MadeAll c d 4 (one_asked c d w3) → due c d (one_asked c d w3) ≡ []
    by (inl e) = e
    by (inr h) = ap (λ b. if b then option_to_list (next c (one_asked c d w3)) else []) (not_permitted c d (one_asked c d w3) h)

-- Asks don't let a head go

abbrev may_go_at : Course → Option Common → Option Common → Bool
may_go_at w x y = w.released || ((is_some w.original.head && (w.released || not w.modes.headers || is_some x))
    && (not (is_buffered (mode_at w.released x w.modes.body)) || is_bodiless w.original.length || is_some y))

one_asked-go : (c : CourseConfig) (d : Direction) (w : Course) → length w.answers ≤ length w.asks → head_may_go (one_asked c d w) ≡ head_may_go w
unfolding one_asked
one_asked-go c d w n =
    ap (λ x. may_go_at w x (answer_to is_body (record w { asks = w.asks ++ due c d w }))) (answers_stay w (due c d w) is_headers n)
    ∙ ap (may_go_at w (answer_to is_headers w)) (answers_stay w (due c d w) is_body n)

pub asked-go : (c : CourseConfig) (d : Direction) (w : Course) → Sound c w → head_may_go (asked c d w) ≡ head_may_go w
unfolding asked
asked-go c d w s =
    let w1 : Course = one_asked c d w in
    let w2 : Course = one_asked c d w1 in
    let w3 : Course = one_asked c d w2 in
    let s1 : Sound c w1 = one_asked_sound c d w s in
    let s2 : Sound c w2 = one_asked_sound c d w1 s1 in
    let s3 : Sound c w3 = one_asked_sound c d w2 s2 in
    one_asked-go c d w3 s3.counts ∙ one_asked-go c d w2 s2.counts ∙ one_asked-go c d w1 s1.counts ∙ one_asked-go c d w s.counts
