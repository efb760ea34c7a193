-- What each move of a course does to what its message has become.
use Rattle.std.proofs.Common.{inl, inr, sym, ◌∙◌, ap, subst, append-nil, refl, arith}
use Rattle.std.proofs.lemmas.List.Elements.{filter_map-append}
use Rattle.std.proofs.lemmas.List.Folds.{list_any-append}
use Rattle.std.proofs.lemmas.List.Sums.{sum_by_push, sum_by-cons}
use Rattle.std.specs.Prelude.{ℕ, ◌≡◌, ◌⊎◌, ◌+◌, ◌≤◌, cond, nat_lt, take, Bool, true, false, not, ◌&&◌, ◌||◌, List, [], ◌∷◌, ◌++◌, length, drop, zip, Option, Some, None, if◌then◌else◌, filter_map, sum_by, is_some, is_none, find, option_map, option_to_list}
use Rattle.std.specs.List.{list_any}
use Rattle.ext_msgs.specs.declared.lists.Field.{Field}
use Rattle.ext_msgs.specs.declared.answer.Common.{Common}
use Rattle.ext_msgs.specs.declared.modes.BodyMode.{BodyMode}
use Rattle.ext_msgs.specs.declared.modes.BodyMode.TheVariants.{NoAsk, Streamed, Buffered, Partial}
use Rattle.header_mutation.specs.declared.rules.PartKind.TheVariants.{Trailers as TrailerPart}
use Rattle.http_model.specs.Bytes.{IsPrefix, is_empty}
use Rattle.http_model.specs.Heads.{is_bodiless}
use Rattle.http_model.specs.Reads.{Original}
use Rattle.http_model.specs.Reader.{Extends}
use Rattle.http_model.specs.declared.types.Direction.{Direction}
use Rattle.filter_model.specs.Config.{CourseConfig}
use Rattle.filter_model.specs.Course.{Course, AskedPart, Headers, Body, Trailers, Outgoing, changed, changed_at, kept, is_bare, replacement, replacement_at, committed, is_passing, passing_at, is_body_done, answered_pieces, answered_piece, pairs, out, bytes_in, asked_bytes, changed_trailers, trailers_at, is_body, is_headers, is_trailers, is_stopped, is_buffered, mode, mode_at, next_body, body_at, next, next_at, one_asked, is_permitted, due, answer_to, under, next_trailers, next_streamed}
use Rattle.filter_model.specs.Grown.{Grown, BodyGoesOn}
use Rattle.filter_model.specs.Sound.{Sound, once}
use Rattle.filter_model.proofs.Growing.{grown_same}
use Rattle.http_model.proofs.BodiesGrow.{is_first, itself}

-- Through the head and the replacement

at_same : (c : CourseConfig) (d : Direction) (w w' : Course) (o : Option Outgoing) (r : Option (List ℕ)) → o ≡ w.head → r ≡ replacement d w
    → ((h : Outgoing) → w.head ≡ Some h → replacement d w ≡ None → Grown (kept c w h) (kept c w' h)) → Grown (changed_at c w o r) (changed_at c w' o r)
at_same c d w w' None r e f k = inl refl
at_same c d w w' (Some h) (Some b) e f k = inr (inl refl)
at_same c d w w' (Some h) None e f k = k h (sym e) (sym f)

-- a move that keeps the head and the replacement
pub by_kept : (c : CourseConfig) (d : Direction) (w w' : Course) → w'.head ≡ w.head → replacement d w' ≡ replacement d w
    → ((h : Outgoing) → w.head ≡ Some h → replacement d w ≡ None → Grown (kept c w h) (kept c w' h)) → Grown (changed c d w) (changed c d w')
unfolding changed
by_kept c d w w' e f k =
    subst (λ r. Grown (changed c d w) (changed_at c w' w'.head r)) (sym f)
    (subst (λ o. Grown (changed c d w) (changed_at c w' o (replacement d w))) (sym e)
    (at_same c d w w' w.head (replacement d w) refl refl k))

pub changed_none : (c : CourseConfig) (d : Direction) (w : Course) → w.head ≡ None → (changed c d w).head ≡ None
unfolding changed
changed_none c d w e = ap (λ o. (changed_at c w o (replacement d w)).head) e

pub no_head : (c : CourseConfig) (d : Direction) (w w' : Course) → w.head ≡ None → Grown (changed c d w) (changed c d w')
no_head c d w w' e = inl (changed_none c d w e)

goes_on : (c : CourseConfig) (w w' : Course) (h : Outgoing) → (kept c w h).ended ≡ false → BodyGoesOn (kept c w h) (kept c w' h) → Grown (kept c w h) (kept c w' h)
goes_on c w w' h u b = inr (inr (record { head = refl; unended = u; body = b }))

-- Reading on

abbrev pub with_original : Original → Course → Course
with_original o w = record w { original = o }

and_false : (x y z : Bool) → x ≡ false → ((x && y) && z) ≡ false
and_false true y z e = absurd cc
and_false false y z e = refl

drop_first : {A : Type 0} (n : ℕ) (xs ys : List A) → IsPrefix (drop n xs) (drop n (xs ++ ys))
drop_first ℕ.zero xs ys = is_first xs ys
drop_first (ℕ.suc n) [] ys = record { rest = drop (ℕ.suc n) ys; whole = refl }
drop_first (ℕ.suc n) (x ∷ xs) ys = drop_first n xs ys

drop_prefix : {A : Type 0} (n : ℕ) (xs ys : List A) → IsPrefix xs ys → IsPrefix (drop n xs) (drop n ys)
drop_prefix n xs ys p = subst (λ l. IsPrefix (drop n xs) (drop n l)) p.whole (drop_first n xs p.rest)

if_prefix : (b : Bool) (xs ys : List ℕ) → IsPrefix xs ys → IsPrefix (if b then xs else []) (if b then ys else [])
if_prefix true xs ys p = p
if_prefix false xs ys p = itself []

pub read_grows : (c : CourseConfig) (d : Direction) (w : Course) (o : Original) → (w.original.head ≡ None → w.head ≡ None) → Extends w.original o
    → Grown (changed c d w) (changed c d (with_original o w))
read_grows c d w o n (inl e) = grown_same (changed c d w) (changed c d (with_original o w)) (ap (λ x. changed c d (with_original x w)) e)
read_grows c d w o n (inr (inl e)) = no_head c d w (with_original o w) (n e)
read_grows c d w o n (inr (inr l)) =
    by_kept c d w (with_original o w) refl (ap (λ m. replacement_at (is_bare d m) (answer_to is_headers w)) l.length) (λ h e f.
    goes_on c w (with_original o w) h
    (and_false w.original.whole _ _ l.unfinished)
    (inr (refl, if_prefix (is_passing w) _ _ (drop_prefix _ w.original.body o.body l.body))))

-- Choosing the head

chosen_once : {A : Type 0} (o : Option A) (b : Bool) (x : Option A) (h : A) → o ≡ Some h → (if is_none o && b then x else o) ≡ o
chosen_once (Some y) b x h e = refl
chosen_once None b x h e = absurd cc

pub commit_grows : (c : CourseConfig) (d : Direction) (w : Course) → Grown (changed c d w) (changed c d (committed c d w))
unfolding committed
commit_grows c d w = by_head w.head refl
  where
    by_head : (o : Option Outgoing) → o ≡ w.head → Grown (changed c d w) (changed c d (committed c d w))
    by_head None e = no_head c d w (committed c d w) (sym e)
    by_head (Some h) e = grown_same (changed c d w) (changed c d (committed c d w)) (ap (λ o. changed c d (record w { head = o })) (chosen_once w.head _ _ h (sym e)))

-- Releasing

abbrev pub with_released : Course → Course
with_released w = record w { released = true }

-- what has ended stays as it is when the rest passes
pub EndIsFinal : CourseConfig → Direction → Course → Type 0
EndIsFinal c d w = (h : Outgoing) → w.head ≡ Some h → replacement d w ≡ None → (kept c w h).ended ≡ true → kept c (with_released w) h ≡ kept c w h

if_le : (b : Bool) (xs : List ℕ) → IsPrefix (if b then xs else []) xs
if_le true xs = itself xs
if_le false xs = record { rest = xs; whole = refl }

released_kept : (c : CourseConfig) (w : Course) (h : Outgoing) (b : Bool) → b ≡ (kept c w h).ended
    → (b ≡ true → kept c (with_released w) h ≡ kept c w h) → Grown (kept c w h) (kept c (with_released w) h)
released_kept c w h true e f = inr (inl (f refl))
released_kept c w h false e f = goes_on c w (with_released w) h (sym e) (inr (refl, if_le (is_passing w) _))

pub release_grows : (c : CourseConfig) (d : Direction) (w : Course) → EndIsFinal c d w → Grown (changed c d w) (changed c d (with_released w))
unfolding EndIsFinal
release_grows c d w f = by_kept c d w (with_released w) refl refl (λ h e r. released_kept c w h (kept c w h).ended refl (f h e r))

-- Answers

abbrev pub with_answer : Common → Course → Course
with_answer a w = record w { answers = w.answers ++ a ∷ [] }

pub zip_none : {A B : Type 0} (xs : List A) → zip {X = B} xs [] ≡ []
zip_none [] = refl
zip_none (x ∷ xs) = refl

zip_more : {A B : Type 0} (xs : List A) (ys : List B) (x : A) (more : List A) (y : B) → drop (length ys) xs ≡ x ∷ more
    → zip xs (ys ++ y ∷ []) ≡ zip xs ys ++ (x, y) ∷ []
zip_more [] [] x more y e = absurd cc
zip_more (z ∷ xs) [] x more y e =
    ap (λ l. (z, y) ∷ l) (zip_none xs) ∙ ap (λ q. (q, y) ∷ []) (ap (λ l. elim l [ [] ↦ z | q ∷ qs ↦ q ]) e)
zip_more [] (w ∷ ys) x more y e = absurd cc
zip_more (z ∷ xs) (w ∷ ys) x more y e = ap (λ l. (z, w) ∷ l) (zip_more xs ys x more y e)

pub drop_more : {A B : Type 0} (xs : List A) (ys : List B) (x : A) (more : List A) (y : B) → drop (length ys) xs ≡ x ∷ more
    → drop (length (ys ++ y ∷ [])) xs ≡ more
drop_more [] [] x more y e = absurd cc
drop_more (z ∷ xs) [] x more y e = ap (λ l. elim l [ [] ↦ xs | q ∷ qs ↦ qs ]) e
drop_more [] (w ∷ ys) x more y e = absurd cc
drop_more (z ∷ xs) (w ∷ ys) x more y e = drop_more xs ys x more y e

-- An ask that is made once

pub any_of_drop : {A B : Type 0} (k : A → Bool) (xs : List A) (ys : List B) → list_any k (drop (length ys) xs) ≡ true → list_any k xs ≡ true
any_of_drop k xs [] e = e
any_of_drop k [] (y ∷ ys) e = e
any_of_drop k (x ∷ xs) (y ∷ ys) e = or_right (k x) (list_any k xs) (any_of_drop k xs ys e)
  where
    or_right : (x y : Bool) → y ≡ true → (x || y) ≡ true
    or_right true y e = refl
    or_right false y e = e

-- an ask that is made once isn't both answered and out
pub once_out : (kind : AskedPart → Bool) (asks : List AskedPart) (answers : List Common) → once kind asks ≡ true → list_any kind (drop (length answers) asks) ≡ true
    → find (λ (q : AskedPart × Common). kind q.0) (zip asks answers) ≡ None
once_out kind [] answers e f = refl
once_out kind (p ∷ asks) [] e f = refl
once_out kind (p ∷ asks) (a ∷ answers) e f = by (λ g. once_out kind asks answers g f) (kind p) refl
  where
    no_true : (b : Bool) → not b ≡ true → b ≡ true → ⊥
    no_true true e f = cc
    no_true false e f = cc

    by : (once kind asks ≡ true → find (λ (q : AskedPart × Common). kind q.0) (zip asks answers) ≡ None) → (b : Bool) → b ≡ kind p
        → cond (kind p) (Some (p, a)) (find (λ (q : AskedPart × Common). kind q.0) (zip asks answers)) ≡ None
    by more true g = absurd (no_true (list_any kind asks) (ap (λ b. if b then not (list_any kind asks) else once kind asks) g ∙ e) (any_of_drop kind asks answers f))
    by more false g = ap (λ b. cond b (Some (p, a)) (find (λ (q : AskedPart × Common). kind q.0) (zip asks answers))) (sym g)
        ∙ more (ap (λ b. if b then not (list_any kind asks) else once kind asks) g ∙ e)

pub if_buffered : (b : Bool) (m : BodyMode) → is_buffered (if b then NoAsk else m) ≡ true → is_buffered m ≡ true
if_buffered true m e = absurd cc
if_buffered false m e = e

-- A course of which an ask is out hasn't ended

body_out : (whole released out none empty trailers : Bool) → released ≡ false → out ≡ true
    → ((whole && (released || (not out && none))) && (empty || trailers)) ≡ false
body_out true true o n e t r u = absurd cc
body_out true false true n e t r u = refl
body_out true false false n e t r u = absurd cc
body_out false s o n e t r u = refl

no_trailers : {A : Type 0} (b d : Bool) (x : Option Common) (f : Common → A) (r e n : Bool) (t : A) → x ≡ None → r ≡ false → e ≡ false
    → trailers_at b d x f (r || (e && n)) t ≡ None
no_trailers true d x f r e n t p q s = refl
no_trailers false false x f r e n t p q s = refl
no_trailers false true (Some a) f r e n t p q s = absurd cc
no_trailers false true None f true e n t p q s = absurd cc
no_trailers false true None f false true n t p q s = absurd cc
no_trailers false true None f false false n t p q s = refl

not_ended : {A : Type 0} (b e : Bool) (t : Option A) → e ≡ false → t ≡ None → (b && (e || is_some t)) ≡ false
not_ended true true t p q = absurd cc
not_ended true false (Some x) p q = absurd cc
not_ended true false None p q = refl
not_ended false e t p q = refl

out_unended : (c : CourseConfig) (w : Course) (h : Outgoing) (p : AskedPart) (more : List AskedPart) → Sound c w → w.head ≡ Some h → w.released ≡ false
    → out w ≡ p ∷ more → (kept c w h).ended ≡ false
out_unended c w h (Headers fields last) more s e r o = absurd (clash (sym (ap (list_any is_headers) o) ∙ s.no_headers h e r))
  where
    clash : true ≡ false → ⊥
    clash e = cc
out_unended c w h (Body bytes last) more s e r o =
    body_out w.original.whole w.released (list_any is_body (out w)) _ (is_empty w.original.trailers) (is_some (changed_trailers c w)) r (ap (list_any is_body) o)
out_unended c w h (Trailers fields) more s e r o =
    let asked : list_any is_trailers (out w) ≡ true = ap (list_any is_trailers) o in
    let none : answer_to is_trailers w ≡ None = ap (option_map (λ (q : AskedPart × Common). q.1)) (once_out is_trailers w.asks w.answers s.once_trailers asked) in
    not_ended (is_body_done c w) (is_empty w.original.trailers) (changed_trailers c w) (s.trailers (any_of_drop is_trailers w.asks w.answers asked))
    (no_trailers (is_empty w.original.trailers) (is_body_done c w) (answer_to is_trailers w) _ w.released (is_empty (out w)) _ _ none r (ap is_empty o))

-- An answer to a part behind the headers

find_last : {A : Type 0} (k : A → Bool) (xs : List A) (q : A) → k q ≡ false → find k (xs ++ q ∷ []) ≡ find k xs
find_last k [] q e = ap (λ b. cond b (Some q) None) e
find_last k (x ∷ xs) q e = ap (λ o. cond (k x) (Some x) o) (find_last k xs q e)

pub pairs_more : (w : Course) (a : Common) (p : AskedPart) (more : List AskedPart) → out w ≡ p ∷ more → pairs (with_answer a w) ≡ pairs w ++ (p, a) ∷ []
pairs_more w a p more o = zip_more w.asks w.answers p more a o

pub answer_kept : (kind : AskedPart → Bool) (w : Course) (a : Common) (p : AskedPart) (more : List AskedPart) → out w ≡ p ∷ more → kind p ≡ false
    → answer_to kind (with_answer a w) ≡ answer_to kind w
answer_kept kind w a p more o e =
    ap (λ l. option_map (λ (q : AskedPart × Common). q.1) (find (λ (q : AskedPart × Common). kind q.0) l)) (pairs_more w a p more o)
    ∙ ap (option_map (λ (q : AskedPart × Common). q.1)) (find_last (λ (q : AskedPart × Common). kind q.0) (pairs w) (p, a) e)

pub or_first : (x y : Bool) → (x || y) ≡ false → x ≡ false
or_first true y e = e
or_first false y e = refl

pub and_first : (x y : Bool) → (x && y) ≡ true → x ≡ true
and_first true y e = refl
and_first false y e = e

passes_on : (r o o' s t : Bool) (m : BodyMode) (k : Bool) → r ≡ false → o' ≡ false → passing_at r o s m k ≡ true → passing_at r o' (s || t) m k ≡ true
passes_on true o o' s t m k r u e = refl
passes_on false true o' s t m k r u e = absurd cc
passes_on false false true s t m k r u e = absurd cc
passes_on false false false true t m k r u e = refl
passes_on false false false false true m k r u e = refl
passes_on false false false false false m k r u e = e

no_body_out : (r o s : Bool) (m : BodyMode) (k : Bool) → r ≡ false → passing_at r o s m k ≡ true → o ≡ false
no_body_out true o s m k r e = absurd cc
no_body_out false true s m k r e = absurd cc
no_body_out false false s m k r e = refl

pub or_second : (x y : Bool) → (x || y) ≡ false → y ≡ false
or_second true y e = absurd cc
or_second false y e = e

pub passing_kept : (w : Course) (a : Common) (p : AskedPart) (more : List AskedPart) → w.released ≡ false → out w ≡ p ∷ more → is_headers p ≡ false
    → is_passing w ≡ true → is_passing (with_answer a w) ≡ true
passing_kept w a p more r o e t =
    let none : list_any is_body (p ∷ more) ≡ false = ap (list_any is_body) (sym o) ∙ no_body_out w.released (list_any is_body (out w)) (is_stopped w) (mode w) (list_any is_body w.asks) r t in
    let less : list_any is_body (out (with_answer a w)) ≡ false = ap (list_any is_body) (drop_more w.asks w.answers p more a o) ∙ or_second (is_body p) (list_any is_body more) none in
    let on : passing_at w.released (list_any is_body (out (with_answer a w))) (is_stopped w || a.replace) (mode w) (list_any is_body w.asks) ≡ true =
    passes_on w.released (list_any is_body (out w)) (list_any is_body (out (with_answer a w))) (is_stopped w) a.replace (mode w) (list_any is_body w.asks) r less t in
    ap (λ x. passing_at w.released (list_any is_body (out (with_answer a w))) (is_stopped (with_answer a w)) (mode_at w.released x w.modes.body) (list_any is_body w.asks))
    (answer_kept is_headers w a p more o e)
    ∙ ap (λ s. passing_at w.released (list_any is_body (out (with_answer a w))) s (mode w) (list_any is_body w.asks)) (stopped_more w a)
    ∙ on
  where
    or_false : (x : Bool) → (x || false) ≡ x
    or_false true = refl
    or_false false = refl

    stopped_more : (w : Course) (a : Common) → is_stopped (with_answer a w) ≡ (is_stopped w || a.replace)
    stopped_more w a = list_any-append (λ x. x.replace) w.answers (a ∷ []) ∙ ap (λ b. is_stopped w || b) (or_false a.replace)

no_piece : (p : AskedPart) (a : Common) → is_body p ≡ false → (filter_map answered_piece ((p, a) ∷ []) ≡ []) × (length (bytes_in p) ≡ 0)
no_piece (Headers fields last) a e = (refl, refl)
no_piece (Body bytes last) a e = absurd cc
no_piece (Trailers fields) a e = (refl, refl)

pub pieces_more : (w : Course) (a : Common) (p : AskedPart) (more : List AskedPart) → out w ≡ p ∷ more
    → answered_pieces (with_answer a w) ≡ answered_pieces w ++ filter_map answered_piece ((p, a) ∷ [])
pieces_more w a p more o = ap (filter_map answered_piece) (pairs_more w a p more o) ∙ filter_map-append answered_piece (pairs w) ((p, a) ∷ [])

pub plus_none : (n m : ℕ) → m ≡ 0 → n + m ≡ n
plus_none n m e = omega arith

joined_body : (c : CourseConfig) (w : Course) (h : Outgoing) (a : Common) (p : AskedPart) (more : List AskedPart) → w.released ≡ false → out w ≡ p ∷ more → is_headers p ≡ false
    → (b : Bool) → b ≡ is_passing w → BodyGoesOn (kept c w h) (kept c (with_answer a w) h)
joined_body c w h a p more r o e false t =
    inl (
      ap (λ b. if b then drop (sum_by (λ (q : AskedPart × Common). length (bytes_in q.0)) (pairs w)) w.original.body else []) (sym t),
      record { rest = filter_map answered_piece ((p, a) ∷ []); whole = sym (pieces_more w a p more o) },
    )
joined_body c w h a p more r o e true t =
    let none : is_body p ≡ false = or_first (is_body p) (list_any is_body more)
    (ap (list_any is_body) (sym o) ∙ no_body_out w.released (list_any is_body (out w)) (is_stopped w) (mode w) (list_any is_body w.asks) r (sym t)) in
    let same : answered_pieces (with_answer a w) ≡ answered_pieces w =
    pieces_more w a p more o ∙ ap (λ l. answered_pieces w ++ l) (no_piece p a none).0 ∙ append-nil (answered_pieces w) in
    let passes : is_passing (with_answer a w) ≡ true = passing_kept w a p more r o e (sym t) in
    let count : sum_by (λ (q : AskedPart × Common). length (bytes_in q.0)) (pairs (with_answer a w)) ≡ sum_by (λ (q : AskedPart × Common). length (bytes_in q.0)) (pairs w) =
    ap (sum_by (λ (q : AskedPart × Common). length (bytes_in q.0))) (pairs_more w a p more o)
    ∙ sum_by_push (λ (q : AskedPart × Common). length (bytes_in q.0)) (pairs w) (p, a)
    ∙ plus_none (sum_by (λ (q : AskedPart × Common). length (bytes_in q.0)) (pairs w)) (length (bytes_in p)) (no_piece p a none).1 in
    inr (
      same,
      subst (λ l. IsPrefix (kept c w h).passing l)
          (ap (λ b. if b then drop (sum_by (λ (q : AskedPart × Common). length (bytes_in q.0)) (pairs w)) w.original.body else []) (sym t ∙ sym passes)
          ∙ ap (λ n. if is_passing (with_answer a w) then drop n w.original.body else []) (sym count))
          (itself (kept c w h).passing),
    )

pub join_grows : (c : CourseConfig) (d : Direction) (w : Course) (a : Common) (p : AskedPart) (more : List AskedPart) → Sound c w → w.released ≡ false → out w ≡ p ∷ more
    → Grown (changed c d w) (changed c d (with_answer a w))
join_grows c d w a p more s r o = by_head w.head refl
  where
    by_head : (x : Option Outgoing) → x ≡ w.head → Grown (changed c d w) (changed c d (with_answer a w))
    by_head None e = no_head c d w (with_answer a w) (sym e)
    by_head (Some h) e =
        let k : is_headers p ≡ false = or_first (is_headers p) (list_any is_headers more) (ap (list_any is_headers) (sym o) ∙ s.no_headers h (sym e) r) in
        by_kept c d w (with_answer a w) refl (ap (replacement_at (is_bare d w.original.length)) (answer_kept is_headers w a p more o k)) (λ h' e' f.
        goes_on c w (with_answer a w) h' (out_unended c w h' p more s e' r o) (joined_body c w h' a p more r o k (is_passing w) refl))

-- Asks

abbrev pub with_ask : AskedPart → Course → Course
with_ask x w = record w { asks = w.asks ++ x ∷ [] }

pub zip_longer : {A B : Type 0} (xs more : List A) (ys : List B) → length ys ≤ length xs → zip (xs ++ more) ys ≡ zip xs ys
zip_longer [] more [] e = zip_none more
zip_longer [] more (y ∷ ys) e = absurd (omega arith)
zip_longer (x ∷ xs) more [] e = refl
zip_longer (x ∷ xs) more (y ∷ ys) e = ap (λ l. (x, y) ∷ l) (zip_longer xs more ys (omega arith))

pub drop_longer : {A B : Type 0} (xs more : List A) (ys : List B) → length ys ≤ length xs → drop (length ys) (xs ++ more) ≡ drop (length ys) xs ++ more
drop_longer xs more [] e = refl
drop_longer [] more (y ∷ ys) e = absurd (omega arith)
drop_longer (x ∷ xs) more (y ∷ ys) e = drop_longer xs more ys (omega arith)

-- where the next ask comes from
abbrev pub NextIs : CourseConfig → Course → AskedPart → Type 0
NextIs c w x = (w.released ≡ false) × (is_stopped w ≡ false)
    × (((w.modes.headers && is_empty w.asks) ≡ true) ⊎ ((next_body c w ≡ Some x) ⊎ ((next_body c w ≡ None) × (next_trailers w ≡ Some x))))

pick : (head : Option (List Field)) (bodiless r first o s : Bool) (b t : Option AskedPart) (x : AskedPart) → next_at head bodiless r first o s b t ≡ Some x
    → (r ≡ false) × (s ≡ false) × ((first ≡ true) ⊎ ((b ≡ Some x) ⊎ ((b ≡ None) × (t ≡ Some x))))
pick None bodiless r first o s b t x e = absurd cc
pick (Some l) bodiless true first o s b t x e = absurd cc
pick (Some l) bodiless false first o true b t x e = absurd cc
pick (Some l) bodiless false true o false b t x e = (refl, refl, inl refl)
pick (Some l) bodiless false false true false b t x e = absurd cc
pick (Some l) bodiless false false false false (Some p) t x e = (refl, refl, inr (inl e))
pick (Some l) bodiless false false false false None t x e = (refl, refl, inr (inr (refl, e)))

pub next_is : (c : CourseConfig) (w : Course) (x : AskedPart) → next c w ≡ Some x → NextIs c w x
unfolding next
next_is c w x e =
    pick w.original.head (is_bodiless w.original.length) w.released (w.modes.headers && is_empty w.asks)
    (list_any is_headers (out w)) (is_stopped w) (next_body c w) (next_trailers w) x e

body_pick : (bare s : Bool) (m : BodyMode) (a b p : Option AskedPart) (k : Bool) (x : AskedPart) (o : Bool)
    → body_at bare s m a b (if k then None else p) ≡ Some x → passing_at false o s m k ≡ false
body_pick true s m a b p k x o e = absurd cc
body_pick false true m a b p k x o e = absurd cc
body_pick false false NoAsk a b p k x o e = absurd cc
body_pick false false Streamed a b p k x true e = refl
body_pick false false Streamed a b p k x false e = refl
body_pick false false Buffered a b p k x true e = refl
body_pick false false Buffered a b p k x false e = refl
body_pick false false Partial a b p true x o e = absurd cc
body_pick false false Partial a b p false x true e = refl
body_pick false false Partial a b p false x false e = refl

pub not_passing : (c : CourseConfig) (w : Course) (x : AskedPart) → w.released ≡ false → next_body c w ≡ Some x → is_passing w ≡ false
unfolding next_body
not_passing c w x r e =
    ap (λ b. passing_at b (list_any is_body (out w)) (is_stopped w) (mode w) (list_any is_body w.asks)) r
    ∙ body_pick (is_bodiless w.original.length) (is_stopped w) (mode w) _ _ _ (list_any is_body w.asks) x (list_any is_body (out w)) e

trailers_pick : (b : Bool) (f : List Field) (x : AskedPart) → (if b then Some (Trailers f) else None) ≡ Some x → (b ≡ true) × (is_body x ≡ false)
trailers_pick true f x e = (refl, ap (λ o. elim o [ Some p ↦ is_body p | None ↦ false ]) (sym e))
trailers_pick false f x e = absurd cc

pub last_of_and : (x y : Bool) → (x && not y) ≡ true → (x ≡ true) × (y ≡ false)
last_of_and true true e = absurd cc
last_of_and true false e = (refl, refl)
last_of_and false y e = absurd cc

pub none_of_kind : (kind : AskedPart → Bool) (asks : List AskedPart) (answers : List Common) → list_any kind asks ≡ false
    → find (λ (q : AskedPart × Common). kind q.0) (zip asks answers) ≡ None
none_of_kind kind [] answers e = refl
none_of_kind kind (p ∷ asks) [] e = refl
none_of_kind kind (p ∷ asks) (a ∷ answers) e =
    ap (λ b. cond b (Some (p, a)) (find (λ (q : AskedPart × Common). kind q.0) (zip asks answers))) (or_first (kind p) (list_any kind asks) e)
    ∙ none_of_kind kind asks answers (or_second (kind p) (list_any kind asks) e)

is_trailers_none : {A : Type 0} (b d : Bool) (x : Option Common) (f : Common → A) (r e : Bool) (n : Option AskedPart) (y : AskedPart) (t : A) → x ≡ None → r ≡ false → n ≡ Some y
    → trailers_at b d x f (r || (e && is_none n)) t ≡ None
is_trailers_none true d x f r e n y t p q s = refl
is_trailers_none false false x f r e n y t p q s = refl
is_trailers_none false true (Some a) f r e n y t p q s = absurd cc
is_trailers_none false true None f true e n y t p q s = absurd cc
is_trailers_none false true None f false e None y t p q s = absurd cc
is_trailers_none false true None f false true (Some z) y t p q s = refl
is_trailers_none false true None f false false (Some z) y t p q s = refl

body_next : (whole released out : Bool) (none : Option AskedPart) (x : AskedPart) (empty trailers : Bool) → released ≡ false → none ≡ Some x
    → ((whole && (released || (not out && is_none none))) && (empty || trailers)) ≡ false
body_next true true o n x e t r u = absurd cc
body_next true false o None x e t r u = absurd cc
body_next true false true (Some y) x e t r u = refl
body_next true false false (Some y) x e t r u = refl
body_next false s o n x e t r u = refl

or_none : (x y : Bool) → y ≡ false → (x || (y || false)) ≡ x
or_none true y e = refl
or_none false true e = absurd cc
or_none false false e = refl

pub any_same : {A : Type 0} (k : A → Bool) (xs : List A) (x : A) → k x ≡ false → list_any k (xs ++ x ∷ []) ≡ list_any k xs
any_same k xs x e = list_any-append k xs (x ∷ []) ∙ or_none (list_any k xs) (k x) e

pub passing_same : (w : Course) (x : AskedPart) → length w.answers ≤ length w.asks → is_body x ≡ false → is_passing (with_ask x w) ≡ is_passing w
passing_same w x n e =
    ap (λ o. passing_at w.released o (is_stopped w) (mode (with_ask x w)) (list_any is_body (with_ask x w).asks))
    (ap (list_any is_body) (drop_longer w.asks (x ∷ []) w.answers n) ∙ any_same is_body (out w) x e)
    ∙ ap (λ o. passing_at w.released (list_any is_body (out w)) (is_stopped w) (mode (with_ask x w)) o) (any_same is_body w.asks x e)
    ∙ ap (λ l. passing_at w.released (list_any is_body (out w)) (is_stopped w)
    (mode_at w.released (option_map (λ (q : AskedPart × Common). q.1) (find (λ (q : AskedPart × Common). is_headers q.0) l)) w.modes.body) (list_any is_body w.asks))
    (zip_longer w.asks (x ∷ []) w.answers n)

ask_kept : (c : CourseConfig) (w : Course) (h : Outgoing) (x : AskedPart) → Sound c w → w.head ≡ Some h → NextIs c w x → Grown (kept c w h) (kept c (with_ask x w) h)
ask_kept c w h x s e (r, t, inl f) = absurd (clash (sym f ∙ s.first_made h e r))
  where
    clash : true ≡ false → ⊥
    clash e = cc
ask_kept c w h x s e (r, t, inr (inl b)) =
    goes_on c w (with_ask x w) h
    (body_next w.original.whole w.released (list_any is_body (out w)) (next_body c w) x (is_empty w.original.trailers) (is_some (changed_trailers c w)) r b)
    (inl (
      ap (λ b. if b then drop (sum_by (λ (q : AskedPart × Common). length (bytes_in q.0)) (pairs w)) w.original.body else []) (not_passing c w x r b),
      subst (λ l. IsPrefix (kept c w h).pieces (filter_map answered_piece l)) (sym (zip_longer w.asks (x ∷ []) w.answers s.counts))
          (itself (kept c w h).pieces),
    ))
ask_kept c w h x s e (r, t, inr (inr (b, f))) =
    let k = trailers_pick _ w.original.trailers x f in
    let l = last_of_and _ (list_any is_trailers w.asks) k.0 in
    let some : is_empty w.original.trailers ≡ false = (last_of_and _ (is_empty w.original.trailers) l.0).1 in
    let none : answer_to is_trailers w ≡ None = ap (option_map (λ (q : AskedPart × Common). q.1)) (none_of_kind is_trailers w.asks w.answers l.1) in
    goes_on c w (with_ask x w) h
    (not_ended (is_body_done c w) (is_empty w.original.trailers) (changed_trailers c w) some
    (is_trailers_none (is_empty w.original.trailers) (is_body_done c w) (answer_to is_trailers w) _ w.released (is_empty (out w)) (next_trailers w) x _ none r f))
    (inr (
      ap (filter_map answered_piece) (zip_longer w.asks (x ∷ []) w.answers s.counts),
      subst (λ l. IsPrefix (kept c w h).passing l)
          (ap (λ l. if is_passing w then drop (sum_by (λ (q : AskedPart × Common). length (bytes_in q.0)) l) w.original.body else []) (sym (zip_longer w.asks (x ∷ []) w.answers s.counts))
          ∙ ap (λ b. if b then drop (sum_by (λ (q : AskedPart × Common). length (bytes_in q.0)) (pairs (with_ask x w))) w.original.body else []) (sym (passing_same w x s.counts k.1)))
          (itself (kept c w h).passing),
    ))

pub ask_grows : (c : CourseConfig) (d : Direction) (w : Course) (x : AskedPart) → Sound c w → next c w ≡ Some x → Grown (changed c d w) (changed c d (with_ask x w))
ask_grows c d w x s e =
    by_kept c d w (with_ask x w) refl
    (ap (λ l. replacement_at (is_bare d w.original.length) (option_map (λ (q : AskedPart × Common). q.1) (find (λ (q : AskedPart × Common). is_headers q.0) l))) (zip_longer w.asks (x ∷ []) w.answers s.counts))
    (λ h f g. ask_kept c w h x s f (next_is c w x e))

no_more : (c : CourseConfig) (d : Direction) (w : Course) (l : List AskedPart) → l ≡ [] → changed c d (record w { asks = w.asks ++ l }) ≡ changed c d w
no_more c d w l e = ap (λ k. changed c d (record w { asks = k })) (ap (λ l. w.asks ++ l) e ∙ append-nil w.asks)

pub one_asked_grows : (c : CourseConfig) (d : Direction) (w : Course) → Sound c w → Grown (changed c d w) (changed c d (one_asked c d w))
unfolding one_asked
one_asked_grows c d w s = by (is_permitted c d w) (next c w) refl refl
  where
    by : (b : Bool) (n : Option AskedPart) → b ≡ is_permitted c d w → n ≡ next c w → Grown (changed c d w) (changed c d (one_asked c d w))
    by false n e f = grown_same (changed c d w) (changed c d (one_asked c d w))
        (no_more c d w (due c d w) (ap (λ b. if b then option_to_list (next c w) else []) (sym e)))
    by true None e f = grown_same (changed c d w) (changed c d (one_asked c d w))
        (no_more c d w (due c d w) (ap (λ b. if b then option_to_list (next c w) else []) (sym e) ∙ ap option_to_list (sym f)))
    by true (Some x) e f =
        subst (λ l. Grown (changed c d w) (changed c d (record w { asks = w.asks ++ l })))
        (sym (ap (λ b. if b then option_to_list (next c w) else []) (sym e) ∙ ap option_to_list (sym f))) (ask_grows c d w x s (sym f))

-- What has ended stays, when the rest passes

pub and_second : (x y : Bool) → (x && y) ≡ true → y ≡ true
and_second true y e = e
and_second false y e = absurd cc

pub no_bytes : (asks : List AskedPart) → list_any is_body asks ≡ false → sum_by (λ p. length (bytes_in p)) asks ≡ 0
no_bytes [] e = refl
no_bytes (p ∷ asks) e =
    let one : length (bytes_in p) ≡ 0 = bytes_of p (or_first (is_body p) (list_any is_body asks) e) in
    let more : sum_by (λ p. length (bytes_in p)) asks ≡ 0 = no_bytes asks (or_second (is_body p) (list_any is_body asks) e) in
    sum_by-cons (λ p. length (bytes_in p)) p asks ∙ sum_none (length (bytes_in p)) (sum_by (λ p. length (bytes_in p)) asks) one more
  where
    bytes_of : (p : AskedPart) → is_body p ≡ false → length (bytes_in p) ≡ 0
    bytes_of (Headers fields last) e = refl
    bytes_of (Body bytes last) e = absurd cc
    bytes_of (Trailers fields) e = refl

    sum_none : (n m : ℕ) → n ≡ 0 → m ≡ 0 → n + m ≡ 0
    sum_none n m e f = omega arith

-- where no body ask is out, the asked bytes are the answered ones
pub covered_pairs : (asks : List AskedPart) (answers : List Common) → list_any is_body (drop (length answers) asks) ≡ false
    → sum_by (λ (q : AskedPart × Common). length (bytes_in q.0)) (zip asks answers) ≡ sum_by (λ p. length (bytes_in p)) asks
covered_pairs [] answers e = refl
covered_pairs (p ∷ asks) [] e = sym (no_bytes (p ∷ asks) e)
covered_pairs (p ∷ asks) (a ∷ answers) e =
    sum_by-cons (λ (q : AskedPart × Common). length (bytes_in q.0)) (p, a) (zip asks answers)
    ∙ ap (λ n. length (bytes_in p) + n) (covered_pairs asks answers e)
    ∙ sym (sum_by-cons (λ p. length (bytes_in p)) p asks)

drop_none : {A : Type 0} (n : ℕ) → drop {A = A} n [] ≡ []
drop_none ℕ.zero = refl
drop_none (ℕ.suc n) = refl

left_at : (left : List ℕ) (bare s k whole : Bool) (m : BodyMode) (ns : Option AskedPart) (lt : Bool) (x y z : AskedPart)
    → (bare ≡ true → left ≡ []) → (is_none ns ≡ true → left ≡ []) → (is_buffered m ≡ true → k ≡ true → left ≡ [])
    → whole ≡ true → passing_at false false s m k ≡ false
    → is_none (body_at bare s m ns (if whole && not k then Some x else None)
    (if k then None else if lt then Some y else if whole then Some z else None)) ≡ true
    → left ≡ []
left_at left true s k whole m ns lt x y z f g h w p n = f refl
left_at left false true k whole m ns lt x y z f g h w p n = absurd cc
left_at left false false k whole NoAsk ns lt x y z f g h w p n = absurd cc
left_at left false false k whole Streamed ns lt x y z f g h w p n = g n
left_at left false false true whole Buffered ns lt x y z f g h w p n = h refl refl
left_at left false false false true Buffered ns lt x y z f g h w p n = absurd cc
left_at left false false false false Buffered ns lt x y z f g h w p n = absurd cc
left_at left false false true whole Partial ns lt x y z f g h w p n = absurd cc
left_at left false false false whole Partial ns true x y z f g h w p n = absurd cc
left_at left false false false true Partial ns false x y z f g h w p n = absurd cc
left_at left false false false false Partial ns false x y z f g h w p n = absurd cc

streamed_left : (piece : ℕ) (o : Original) (asks : List AskedPart) (rest : List ℕ) → is_none (next_streamed piece o asks rest) ≡ true → rest ≡ []
streamed_left piece o asks [] e = refl
streamed_left piece o asks (b ∷ rest) e = absurd cc

-- nothing is left behind the asked bytes, where no ask of the body is due and nothing passes
none_left : (c : CourseConfig) (w : Course) → Sound c w → w.released ≡ false → w.original.whole ≡ true → list_any is_body (out w) ≡ false → is_none (next_body c w) ≡ true
    → is_passing w ≡ false → drop (asked_bytes w.asks) w.original.body ≡ []
unfolding next_body
none_left c w s r whole o n p =
    left_at (drop (asked_bytes w.asks) w.original.body) (is_bodiless w.original.length) (is_stopped w) (list_any is_body w.asks)
    w.original.whole (mode w) (next_streamed c.piece w.original w.asks (drop (asked_bytes w.asks) w.original.body))
    (nat_lt c.buffer_limit (length w.original.body)) (Body w.original.body (is_empty w.original.trailers))
    (Body (take c.buffer_limit w.original.body) false) (Body w.original.body (is_empty w.original.trailers))
    (λ b. ap (drop (asked_bytes w.asks)) (s.bodiless b) ∙ drop_none (asked_bytes w.asks))
    (streamed_left c.piece w.original w.asks (drop (asked_bytes w.asks) w.original.body))
    (λ b k. (s.covered (if_buffered _ w.modes.body b) k).1) whole
    (ap (λ b. passing_at b false (is_stopped w) (mode w) (list_any is_body w.asks)) (sym r)
    ∙ ap (λ b. passing_at w.released b (is_stopped w) (mode w) (list_any is_body w.asks)) (sym o) ∙ p)
    n

trailers_final : {A : Type 0} (empty done done' : Bool) (x : Option Common) (f : Common → A) (q : Bool) (t : A) → done ≡ true → done' ≡ true
    → (empty || is_some (trailers_at empty done x f q t)) ≡ true → trailers_at empty done' x f true t ≡ trailers_at empty done x f q t
trailers_final true d d' x f q t u v e = refl
trailers_final false false d' x f q t u v e = absurd cc
trailers_final false true false x f q t u v e = absurd cc
trailers_final false true true (Some a) f q t u v e = refl
trailers_final false true true None f true t u v e = refl
trailers_final false true true None f false t u v e = absurd cc

not_both : (r o n : Bool) → r ≡ false → (r || (not o && n)) ≡ true → (o ≡ false) × (n ≡ true)
not_both true o n r e = absurd cc
not_both false true n r e = absurd cc
not_both false false n r e = (refl, e)

pub end_is_final : (c : CourseConfig) (d : Direction) (w : Course) → Sound c w → EndIsFinal c d w
unfolding EndIsFinal
end_is_final c d w s h e f t =
    let done : is_body_done c w ≡ true = and_first (is_body_done c w) _ t in
    let whole : w.original.whole ≡ true = and_first w.original.whole _ done in
    let done' : is_body_done c (with_released w) ≡ true = ap (λ b. b && true) whole in
    let trailers : changed_trailers c (with_released w) ≡ changed_trailers c w =
    trailers_final (is_empty w.original.trailers) (is_body_done c w) (is_body_done c (with_released w)) (answer_to is_trailers w)
    (λ a. under c TrailerPart w.original.trailers (Some a)) (w.released || (is_empty (out w) && is_none (next_trailers w))) w.original.trailers done done'
    (and_second (is_body_done c w) _ t) in
    ap (λ l. record { head = Some h; pieces = (kept c w h).pieces; passing = l; trailers = changed_trailers c (with_released w); ended = (kept c (with_released w) h).ended })
    (passing_final w.released (is_passing w) refl refl whole done)
    ∙ ap (λ l. record {
      head = Some h;
      pieces = (kept c w h).pieces;
      passing = (kept c w h).passing;
      trailers = l;
      ended = is_body_done c (with_released w) && (is_empty w.original.trailers || is_some l);
    }) trailers
    ∙ ap (λ b. record {
      head = Some h;
      pieces = (kept c w h).pieces;
      passing = (kept c w h).passing;
      trailers = changed_trailers c w;
      ended = b && (is_empty w.original.trailers || is_some (changed_trailers c w));
    }) (done' ∙ sym done)
  where
    passing_final : (r p : Bool) → r ≡ w.released → p ≡ is_passing w → w.original.whole ≡ true → is_body_done c w ≡ true
        → (kept c (with_released w) h).passing ≡ (kept c w h).passing
    passing_final r true i j whole done =
        ap (λ b. if b then drop (sum_by (λ (q : AskedPart × Common). length (bytes_in q.0)) (pairs w)) w.original.body else []) j
    passing_final true false i j whole done = absurd (clash (ap (λ b. passing_at b (list_any is_body (out w)) (is_stopped w) (mode w) (list_any is_body w.asks)) i ∙ sym j))
      where
        clash : true ≡ false → ⊥
        clash e = cc
    passing_final false false i j whole done =
        let k = not_both w.released (list_any is_body (out w)) (is_none (next_body c w)) (sym i) (and_second w.original.whole _ done) in
        ap (λ n. drop n w.original.body) (covered_pairs w.asks w.answers k.0)
        ∙ none_left c w s (sym i) whole k.0 k.1 (sym j)
        ∙ ap (λ b. if b then drop (sum_by (λ (q : AskedPart × Common). length (bytes_in q.0)) (pairs w)) w.original.body else []) j
