-- Every move keeps a course sound.
use Rattle.std.proofs.Common.{inl, inr, sym, ◌∙◌, ap, subst, append-nil, refl, arith, length-append, length-drop}
use Rattle.std.proofs.lemmas.List.Sums.{sum_by_push}
use Rattle.std.specs.Prelude.{ℕ, ◌≡◌, ◌⊎◌, ◌+◌, ◌-◌, ◌≤◌, Bool, true, false, not, ◌&&◌, ◌||◌, List, [], ◌∷◌, ◌++◌, length, drop, zip, Option, Some, None, if◌then◌else◌, is_some, is_none, find, option_map, option_to_list, unwrap_or, nat_lt, take}
use Rattle.std.specs.List.{list_any}
use Rattle.ext_msgs.specs.declared.lists.Field.{Field}
use Rattle.ext_msgs.specs.declared.answer.Common.{Common}
use Rattle.ext_msgs.specs.declared.modes.BodyMode.{BodyMode}
use Rattle.ext_msgs.specs.declared.modes.BodyMode.TheVariants.{NoAsk, Streamed, Buffered, Partial}
use Rattle.ext_msgs.specs.declared.modes.PartModes.{PartModes}
use Rattle.http_model.specs.Bytes.{is_empty}
use Rattle.http_model.specs.Heads.{is_bodiless}
use Rattle.http_model.specs.Reads.{Original}
use Rattle.http_model.specs.Reader.{Extends}
use Rattle.http_model.specs.declared.types.Direction.{Direction}
use Rattle.filter_model.specs.Config.{CourseConfig}
use Rattle.filter_model.specs.Course.{Course, AskedPart, Headers, Body, Trailers, Outgoing, committed, outgoing, out, bytes_in, asked_bytes, is_body, is_headers, is_trailers, is_stopped, next_body, body_at, next, next_at, next_trailers, answer_to, replaces, is_buffered, next_streamed, lacks_last, is_permitted, due, one_asked, asked, changed}
use Rattle.filter_model.specs.Grown.{Grown}
use Rattle.filter_model.specs.Sound.{Sound, once}
use Rattle.filter_model.proofs.CourseGrows.{with_original, with_released, with_answer, with_ask, drop_more, any_of_drop, once_out, or_first, or_second, any_same, drop_longer, plus_none, last_of_and, one_asked_grows}
use Rattle.filter_model.proofs.Growing.{grown_then}

true_is_not_false : true ≡ false → ⊥
true_is_not_false e = cc

not_any : (b : Bool) → (b ≡ true → ⊥) → b ≡ false
not_any true f = absurd (f refl)
not_any false f = refl

-- Releasing

pub release_sound : (c : CourseConfig) (w : Course) → Sound c w → Sound c (with_released w)
release_sound c w s = record {
  counts = s.counts;
  head_read = s.head_read;
  bodiless = s.bodiless;
  once_headers = s.once_headers;
  once_trailers = s.once_trailers;
  headers = s.headers;
  trailers = s.trailers;
  in_turn = s.in_turn;
  covered = s.covered;
  no_headers = λ h e r. absurd (true_is_not_false r);
  first_made = λ h e r. absurd (true_is_not_false r);
}

-- Reading on

read_trailers : (w : Course) (o : Original) (c : CourseConfig) → Sound c w → Extends w.original o → list_any is_trailers w.asks ≡ true → is_empty o.trailers ≡ false
read_trailers w o c s (inl e) t = ap (λ x. is_empty x.trailers) e ∙ s.trailers t
read_trailers w o c s (inr (inl e)) t = absurd (true_is_not_false (sym t ∙ ap (list_any is_trailers) (s.head_read e).1))
read_trailers w o c s (inr (inr l)) t = absurd (true_is_not_false (ap is_empty (sym l.trailers) ∙ s.trailers t))

read_covered : (w : Course) (o : Original) (c : CourseConfig) → Sound c w → Extends w.original o → is_buffered w.modes.body ≡ true → list_any is_body w.asks ≡ true
    → (o.whole ≡ true) × (drop (asked_bytes w.asks) o.body ≡ [])
read_covered w o c s (inl e) b t =
    let k = s.covered b t in
    (ap (λ x. x.whole) e ∙ k.0, ap (λ x. drop (asked_bytes w.asks) x.body) e ∙ k.1)
read_covered w o c s (inr (inl e)) b t = absurd (true_is_not_false (sym t ∙ ap (list_any is_body) (s.head_read e).1))
read_covered w o c s (inr (inr l)) b t = absurd (true_is_not_false (sym (s.covered b t).0 ∙ l.unfinished))

read_head : (w : Course) (o : Original) (c : CourseConfig) → Sound c w → Extends w.original o → o.head ≡ None → (w.head ≡ None) × (w.asks ≡ [])
read_head w o c s (inl e) n = s.head_read (ap (λ x. x.head) (sym e) ∙ n)
read_head w o c s (inr (inl e)) n = s.head_read e
read_head w o c s (inr (inr l)) n = s.head_read (sym l.head ∙ n)

pub read_sound : (c : CourseConfig) (w : Course) (o : Original) → Sound c w → Extends w.original o → (is_bodiless o.length ≡ true → o.body ≡ []) → Sound c (with_original o w)
read_sound c w o s x b = record {
  counts = s.counts;
  head_read = read_head w o c s x;
  bodiless = b;
  once_headers = s.once_headers;
  once_trailers = s.once_trailers;
  headers = s.headers;
  trailers = read_trailers w o c s x;
  in_turn = s.in_turn;
  covered = read_covered w o c s x;
  no_headers = s.no_headers;
  first_made = s.first_made;
}

-- Answers

more_counts : {A B : Type 0} (xs : List A) (ys : List B) (x : A) (more : List A) (y : B) → drop (length ys) xs ≡ x ∷ more → length (ys ++ y ∷ []) ≤ length xs
more_counts [] [] x more y e = absurd cc
more_counts (z ∷ xs) [] x more y e = omega arith
more_counts [] (w ∷ ys) x more y e = absurd cc
more_counts (z ∷ xs) (w ∷ ys) x more y e = let k = more_counts xs ys x more y e in omega arith

pub join_sound : (c : CourseConfig) (w : Course) (a : Common) (p : AskedPart) (more : List AskedPart) → Sound c w → out w ≡ p ∷ more → Sound c (with_answer a w)
join_sound c w a p more s o = record {
  counts = more_counts w.asks w.answers p more a o;
  head_read = s.head_read;
  bodiless = s.bodiless;
  once_headers = s.once_headers;
  once_trailers = s.once_trailers;
  headers = s.headers;
  trailers = s.trailers;
  in_turn = λ t. s.in_turn (ap (list_any is_headers) o ∙ or_right (is_headers p) (list_any is_headers more) (ap (list_any is_headers) (sym less) ∙ t));
  covered = s.covered;
  no_headers = λ h e r. ap (list_any is_headers) less ∙ or_second (is_headers p) (list_any is_headers more) (ap (list_any is_headers) (sym o) ∙ s.no_headers h e r);
  first_made = s.first_made;
}
  where
    less : out (with_answer a w) ≡ more
    less = drop_more w.asks w.answers p more a o

    or_right : (x y : Bool) → y ≡ true → (x || y) ≡ true
    or_right true y e = refl
    or_right false y e = e

-- Modes, before the head goes and before a piece is asked

pub modes_sound : (c : CourseConfig) (w : Course) (m : PartModes) → Sound c w → w.head ≡ None → list_any is_body w.asks ≡ false
    → (m.headers ≡ false → list_any is_headers w.asks ≡ false) → Sound c (record w { modes = m })
modes_sound c w m s n b h = record {
  counts = s.counts;
  head_read = s.head_read;
  bodiless = s.bodiless;
  once_headers = s.once_headers;
  once_trailers = s.once_trailers;
  headers = h;
  trailers = s.trailers;
  in_turn = s.in_turn;
  covered = λ k t. absurd (true_is_not_false (sym t ∙ b));
  no_headers = λ x e r. absurd (none_is_not_some x (sym n ∙ e));
  first_made = λ x e r. absurd (none_is_not_some x (sym n ∙ e));
}
  where
    none_is_not_some : (x : Outgoing) → None ≡ Some x → ⊥
    none_is_not_some x e = cc

-- Choosing the head

none_stays : {A B : Type 0} (b : Bool) (f : A → B) (o : Option A) (x : Option B) → o ≡ None → x ≡ None → (if b then option_map f o else x) ≡ None
none_stays true f o x e g = ap (option_map f) e
none_stays false f o x e g = g

-- a head that has gone: it had before, or the headers are settled
why_gone : (x y : Option Outgoing) (h : Outgoing) (r read asked : Bool) (answer : Option Common) (rest : Bool) → r ≡ false
    → (if is_none x && (r || ((read && (r || not asked || is_some answer)) && rest)) then y else x) ≡ Some h
    → (x ≡ Some h) ⊎ ((asked ≡ false) ⊎ (is_some answer ≡ true))
why_gone (Some z) y h r read asked answer rest u e = inl e
why_gone None y h true read asked answer rest u e = absurd cc
why_gone None y h false false asked answer rest u e = absurd cc
why_gone None y h false true false answer rest u e = inr (inl refl)
why_gone None y h false true true (Some a) rest u e = inr (inr refl)
why_gone None y h false true true None rest u e = absurd cc

settled_why : (c : CourseConfig) (d : Direction) (w : Course) (h : Outgoing) → w.released ≡ false → (committed c d w).head ≡ Some h
    → (w.head ≡ Some h) ⊎ ((w.modes.headers ≡ false) ⊎ (is_some (answer_to is_headers w) ≡ true))
unfolding committed
settled_why c d w h r e = why_gone w.head _ h w.released (is_some w.original.head) w.modes.headers (answer_to is_headers w) _ r e

none_and_some : {A : Type 0} (o : Option A) → o ≡ None → is_some o ≡ true → ⊥
none_and_some o e f = true_is_not_false (sym f ∙ ap is_some e)

gone_headers : (c : CourseConfig) (w : Course) (h : Outgoing) → Sound c w → w.released ≡ false
    → (w.head ≡ Some h) ⊎ ((w.modes.headers ≡ false) ⊎ (is_some (answer_to is_headers w) ≡ true)) → list_any is_headers (out w) ≡ false
gone_headers c w h s r (inl e) = s.no_headers h e r
gone_headers c w h s r (inr (inl e)) = not_any _ (λ t. true_is_not_false (sym (any_of_drop is_headers w.asks w.answers t) ∙ s.headers e))
gone_headers c w h s r (inr (inr e)) = not_any _ (λ t.
    none_and_some (answer_to is_headers w) (ap (option_map (λ (q : AskedPart × Common). q.1)) (once_out is_headers w.asks w.answers s.once_headers t)) e)

answered_made : (asks : List AskedPart) (answers : List Common)
    → is_some (option_map (λ (q : AskedPart × Common). q.1) (find (λ (q : AskedPart × Common). is_headers q.0) (zip asks answers))) ≡ true → is_empty asks ≡ false
answered_made [] answers e = absurd cc
answered_made (p ∷ asks) answers e = refl

and_false_right : (x y : Bool) → y ≡ false → (x && y) ≡ false
and_false_right true y e = e
and_false_right false y e = refl

gone_made : (c : CourseConfig) (w : Course) (h : Outgoing) → Sound c w → w.released ≡ false
    → (w.head ≡ Some h) ⊎ ((w.modes.headers ≡ false) ⊎ (is_some (answer_to is_headers w) ≡ true)) → (w.modes.headers && is_empty w.asks) ≡ false
gone_made c w h s r (inl e) = s.first_made h e r
gone_made c w h s r (inr (inl e)) = ap (λ b. b && is_empty w.asks) e
gone_made c w h s r (inr (inr e)) = and_false_right w.modes.headers (is_empty w.asks) (answered_made w.asks w.answers e)

pub commit_sound : (c : CourseConfig) (d : Direction) (w : Course) → Sound c w → Sound c (committed c d w)
unfolding committed
commit_sound c d w s = record {
  counts = s.counts;
  head_read = λ e. (none_stays _ (outgoing c d w) w.original.head w.head e (s.head_read e).0, (s.head_read e).1);
  bodiless = s.bodiless;
  once_headers = s.once_headers;
  once_trailers = s.once_trailers;
  headers = s.headers;
  trailers = s.trailers;
  in_turn = s.in_turn;
  covered = s.covered;
  no_headers = λ h e r. gone_headers c w h s r (settled_why c d w h r e);
  first_made = λ h e r. gone_made c w h s r (settled_why c d w h r e);
}

-- Asks: what is due is the headers, a piece or the trailers

longer_counts : {A : Type 0} (n : ℕ) (xs : List A) (x : A) → n ≤ length xs → n ≤ length (xs ++ x ∷ [])
longer_counts n xs x e = let l = length-append xs (x ∷ []) in omega arith

pub once_more : (kind : AskedPart → Bool) (asks : List AskedPart) (x : AskedPart) → kind x ≡ false → once kind asks ≡ true → once kind (asks ++ x ∷ []) ≡ true
once_more kind [] x e f = ap (λ b. if b then true else true) e
once_more kind (p ∷ asks) x e f =
    ap (λ b. if kind p then not b else once kind (asks ++ x ∷ [])) (any_same kind asks x e)
    ∙ by (kind p) (list_any kind asks) (once kind asks) (once kind (asks ++ x ∷ [])) (once_more kind asks x e) f
  where
    by : (b k o o' : Bool) → (o ≡ true → o' ≡ true) → (if b then not k else o) ≡ true → (if b then not k else o') ≡ true
    by true k o o' g f = f
    by false k o o' g f = g f

pub once_new : (kind : AskedPart → Bool) (asks : List AskedPart) (x : AskedPart) → list_any kind asks ≡ false → once kind (asks ++ x ∷ []) ≡ true
once_new kind [] x e = by (kind x)
  where
    by : (b : Bool) → (if b then true else true) ≡ true
    by true = refl
    by false = refl
once_new kind (p ∷ asks) x e =
    ap (λ b. if b then not (list_any kind (asks ++ x ∷ [])) else once kind (asks ++ x ∷ [])) (or_first (kind p) (list_any kind asks) e)
    ∙ once_new kind asks x (or_second (kind p) (list_any kind asks) e)

not_empty : {A : Type 0} (xs : List A) (x : A) → is_empty (xs ++ x ∷ []) ≡ false
not_empty [] x = refl
not_empty (y ∷ xs) x = refl

out_more : (c : CourseConfig) (w : Course) (x : AskedPart) → Sound c w → (kind : AskedPart → Bool) → kind x ≡ false → list_any kind (out (with_ask x w)) ≡ list_any kind (out w)
out_more c w x s kind e = ap (list_any kind) (drop_longer w.asks (x ∷ []) w.answers s.counts) ∙ any_same kind (out w) x e

drop_all : {A : Type 0} (n : ℕ) (xs : List A) → drop (n + length xs) xs ≡ []
drop_all n xs = length-none (drop (n + length xs) xs) (length-drop (n + length xs) xs ∙ minus n (length xs))
  where
    minus : (n m : ℕ) → m - (n + m) ≡ 0
    minus n m = omega arith

    length-none : {A : Type 0} (xs : List A) → length xs ≡ 0 → xs ≡ []
    length-none [] e = refl
    length-none (x ∷ xs) e = absurd (omega arith)

pub some_not_none : (w : Course) → is_some w.original.head ≡ true → w.original.head ≡ None → ⊥
some_not_none w e n = true_is_not_false (sym e ∙ ap is_some n)

ask_trailers : (c : CourseConfig) (w : Course) (x : AskedPart) → Sound c w → is_some w.original.head ≡ true → is_headers x ≡ false → is_body x ≡ false → length (bytes_in x) ≡ 0
    → list_any is_headers (out w) ≡ false → list_any is_trailers w.asks ≡ false → is_empty w.original.trailers ≡ false → Sound c (with_ask x w)
ask_trailers c w x s r h b n o t m = record {
  counts = longer_counts (length w.answers) w.asks x s.counts;
  head_read = λ e. absurd (some_not_none w r e);
  bodiless = s.bodiless;
  once_headers = once_more is_headers w.asks x h s.once_headers;
  once_trailers = once_new is_trailers w.asks x t;
  headers = λ e. any_same is_headers w.asks x h ∙ s.headers e;
  trailers = λ e. m;
  in_turn = λ e. absurd (true_is_not_false (sym e ∙ out_more c w x s is_headers h ∙ o));
  covered = λ e f. let k = s.covered e (sym (any_same is_body w.asks x b) ∙ f) in
      (k.0, ap (λ n. drop n w.original.body) (sum_by_push (λ p. length (bytes_in p)) w.asks x ∙ plus_none (asked_bytes w.asks) (length (bytes_in x)) n) ∙ k.1);
  no_headers = λ g e f. out_more c w x s is_headers h ∙ o;
  first_made = λ g e f. and_false_right w.modes.headers (is_empty (w.asks ++ x ∷ [])) (not_empty w.asks x);
}

ask_body : (c : CourseConfig) (w : Course) (x : AskedPart) → Sound c w → is_some w.original.head ≡ true → is_headers x ≡ false → is_trailers x ≡ false
    → (is_buffered w.modes.body ≡ true → (w.original.whole ≡ true) × (bytes_in x ≡ w.original.body))
    → list_any is_headers (out w) ≡ false → Sound c (with_ask x w)
ask_body c w x s r h t b o = record {
  counts = longer_counts (length w.answers) w.asks x s.counts;
  head_read = λ e. absurd (some_not_none w r e);
  bodiless = s.bodiless;
  once_headers = once_more is_headers w.asks x h s.once_headers;
  once_trailers = once_more is_trailers w.asks x t s.once_trailers;
  headers = λ e. any_same is_headers w.asks x h ∙ s.headers e;
  trailers = λ e. s.trailers (sym (any_same is_trailers w.asks x t) ∙ e);
  in_turn = λ e. absurd (true_is_not_false (sym e ∙ out_more c w x s is_headers h ∙ o));
  covered = λ e f. let k = b e in (
    k.0,
    ap (λ n. drop n w.original.body) (sum_by_push (λ p. length (bytes_in p)) w.asks x ∙ ap (λ l. asked_bytes w.asks + length l) k.1)
        ∙ drop_all (asked_bytes w.asks) w.original.body,
  );
  no_headers = λ g e f. out_more c w x s is_headers h ∙ o;
  first_made = λ g e f. and_false_right w.modes.headers (is_empty (w.asks ++ x ∷ [])) (not_empty w.asks x);
}

empty_is : {A : Type 0} (xs : List A) → is_empty xs ≡ true → xs ≡ []
empty_is [] e = refl
empty_is (x ∷ xs) e = absurd cc

ask_headers : (c : CourseConfig) (w : Course) (x : AskedPart) → Sound c w → w.released ≡ false → is_some w.original.head ≡ true → is_headers x ≡ true → is_body x ≡ false → is_trailers x ≡ false
    → w.modes.headers ≡ true → w.asks ≡ [] → Sound c (with_ask x w)
ask_headers c w x s q r h b t m n = record {
  counts = longer_counts (length w.answers) w.asks x s.counts;
  head_read = λ e. absurd (some_not_none w r e);
  bodiless = s.bodiless;
  once_headers = once_new is_headers w.asks x (ap (list_any is_headers) n);
  once_trailers = once_new is_trailers w.asks x (ap (list_any is_trailers) n);
  headers = λ e. absurd (true_is_not_false (sym m ∙ e));
  trailers = λ e. s.trailers (sym (any_same is_trailers w.asks x t) ∙ e);
  in_turn = λ e. any_same is_body w.asks x b ∙ ap (list_any is_body) n;
  covered = λ e f. absurd (true_is_not_false (sym f ∙ any_same is_body w.asks x b ∙ ap (list_any is_body) n));
  no_headers = λ g e f. absurd (true_is_not_false (sym (ap (λ b. b && is_empty w.asks) m ∙ ap is_empty n) ∙ s.first_made g e q));
  first_made = λ g e f. and_false_right w.modes.headers (is_empty (w.asks ++ x ∷ [])) (not_empty w.asks x);
}

some_same : {A : Type 0} (x y : A) → Some x ≡ Some y → x ≡ y
some_same x y e = ap (λ o. unwrap_or o x) e

pick_by : (P : AskedPart → Type 0) (head : Option (List Field)) (bodiless r first o s : Bool) (b t : Option AskedPart) (x : AskedPart)
    → (r ≡ false → is_some head ≡ true → first ≡ true → (l : List Field) → P (Headers l bodiless))
    → (is_some head ≡ true → o ≡ false → (p : AskedPart) → b ≡ Some p → P p)
    → (is_some head ≡ true → o ≡ false → (p : AskedPart) → t ≡ Some p → P p)
    → next_at head bodiless r first o s b t ≡ Some x → P x
pick_by P None bodiless r first o s b t x i j k e = absurd cc
pick_by P (Some l) bodiless true first o s b t x i j k e = absurd cc
pick_by P (Some l) bodiless false first o true b t x i j k e = absurd cc
pick_by P (Some l) bodiless false true o false b t x i j k e = subst P (some_same (Headers l bodiless) x e) (i refl refl refl l)
pick_by P (Some l) bodiless false false true false b t x i j k e = absurd cc
pick_by P (Some l) bodiless false false false false (Some p) t x i j k e = subst P (some_same p x e) (j refl refl p refl)
pick_by P (Some l) bodiless false false false false None t x i j k e = k refl refl x e

abbrev BodyKind : Bool → BodyMode → List ℕ → AskedPart → Type 0
BodyKind whole m body x = (is_headers x ≡ false) × (is_trailers x ≡ false) × (is_buffered m ≡ true → (whole ≡ true) × (bytes_in x ≡ body))

body_kind : (bare s off : Bool) (m : BodyMode) (ns : Option AskedPart) (whole k lt last : Bool) (body first : List ℕ) (x : AskedPart)
    → (ns ≡ Some x → (is_headers x ≡ false) × (is_trailers x ≡ false))
    → body_at bare s (if off then NoAsk else m) ns (if whole && not k then Some (Body body last) else None)
    (if k then None else if lt then Some (Body first false) else if whole then Some (Body body last) else None) ≡ Some x
    → BodyKind whole m body x
body_kind true s off m ns whole k lt last body first x f e = absurd cc
body_kind false true off m ns whole k lt last body first x f e = absurd cc
body_kind false false true m ns whole k lt last body first x f e = absurd cc
body_kind false false false NoAsk ns whole k lt last body first x f e = absurd cc
body_kind false false false Streamed ns whole k lt last body first x f e = ((f e).0, (f e).1, λ b. absurd (true_is_not_false (sym b)))
body_kind false false false Buffered ns true false lt last body first x f e =
    subst (BodyKind true Buffered body) (some_same (Body body last) x e) (refl, refl, λ b. (refl, refl))
body_kind false false false Buffered ns true true lt last body first x f e = absurd cc
body_kind false false false Buffered ns false k lt last body first x f e = absurd cc
body_kind false false false Partial ns whole true lt last body first x f e = absurd cc
body_kind false false false Partial ns whole false true last body first x f e =
    subst (BodyKind whole Partial body) (some_same (Body first false) x e) (refl, refl, λ b. absurd (true_is_not_false (sym b)))
body_kind false false false Partial ns true false false last body first x f e =
    subst (BodyKind true Partial body) (some_same (Body body last) x e) (refl, refl, λ b. absurd (true_is_not_false (sym b)))
body_kind false false false Partial ns false false false last body first x f e = absurd cc

streamed_kind : (piece : ℕ) (o : Original) (asks : List AskedPart) (rest : List ℕ) (x : AskedPart) → next_streamed piece o asks rest ≡ Some x → (is_headers x ≡ false) × (is_trailers x ≡ false)
streamed_kind piece o asks [] x e = by (o.whole && is_empty o.trailers && lacks_last asks) e
  where
    by : (b : Bool) → (if b then Some (Body [] true) else None) ≡ Some x → (is_headers x ≡ false) × (is_trailers x ≡ false)
    by true e = subst (λ p. (is_headers p ≡ false) × (is_trailers p ≡ false)) (some_same (Body [] true) x e) (refl, refl)
    by false e = absurd cc
streamed_kind piece o asks (b ∷ rest) x e =
    subst (λ p. (is_headers p ≡ false) × (is_trailers p ≡ false)) (some_same _ x e) (refl, refl)

next_body_kind : (c : CourseConfig) (w : Course) (x : AskedPart) → next_body c w ≡ Some x → BodyKind w.original.whole w.modes.body w.original.body x
unfolding next_body
next_body_kind c w x e =
    body_kind (is_bodiless w.original.length) (is_stopped w) (w.released || replaces (answer_to is_headers w)) w.modes.body
    (next_streamed c.piece w.original w.asks (drop (asked_bytes w.asks) w.original.body))
    w.original.whole (list_any is_body w.asks) (nat_lt c.buffer_limit (length w.original.body)) (is_empty w.original.trailers) w.original.body
    (take c.buffer_limit w.original.body) x (streamed_kind c.piece w.original w.asks (drop (asked_bytes w.asks) w.original.body) x) e

trailers_kind : (b : Bool) (f : List Field) (x : AskedPart) → (if b then Some (Trailers f) else None) ≡ Some x
    → (b ≡ true) × (is_headers x ≡ false) × (is_body x ≡ false) × (length (bytes_in x) ≡ 0)
trailers_kind true f x e =
    subst (λ p. (true ≡ true) × (is_headers p ≡ false) × (is_body p ≡ false) × (length (bytes_in p) ≡ 0)) (some_same (Trailers f) x e) (refl, refl, refl, refl)
trailers_kind false f x e = absurd cc

and_true : (x y : Bool) → (x && y) ≡ true → (x ≡ true) × (y ≡ true)
and_true true y e = (refl, e)
and_true false y e = absurd cc

pub ask_sound : (c : CourseConfig) (w : Course) (x : AskedPart) → Sound c w → next c w ≡ Some x → Sound c (with_ask x w)
unfolding next
ask_sound c w x s e =
    pick_by (λ p. Sound c (with_ask p w)) w.original.head (is_bodiless w.original.length) w.released (w.modes.headers && is_empty w.asks)
    (list_any is_headers (out w)) (is_stopped w) (next_body c w) (next_trailers w) x
    (λ q r f l. let k = and_true w.modes.headers (is_empty w.asks) f in
    ask_headers c w (Headers l (is_bodiless w.original.length)) s q r refl refl refl k.0 (empty_is w.asks k.1))
    (λ r o p f. let k = next_body_kind c w p f in ask_body c w p s r k.0 k.1 k.2 o)
    (λ r o p f. let k = trailers_kind _ w.original.trailers p f in
    let l = last_of_and _ (list_any is_trailers w.asks) k.0 in
    ask_trailers c w p s r k.1 k.2 k.3 o l.1 (last_of_and _ (is_empty w.original.trailers) l.0).1)
    e

pub one_asked_sound : (c : CourseConfig) (d : Direction) (w : Course) → Sound c w → Sound c (one_asked c d w)
unfolding one_asked
one_asked_sound c d w s = by (is_permitted c d w) (next c w) refl refl
  where
    at : (l : List AskedPart) → due c d w ≡ l → Sound c (record w { asks = w.asks ++ l }) → Sound c (record w { asks = w.asks ++ due c d w })
    at l e x = subst (λ l. Sound c (record w { asks = w.asks ++ l })) (sym e) x

    none : Sound c (record w { asks = w.asks ++ [] })
    none = subst (λ l. Sound c (record w { asks = l })) (sym (append-nil w.asks)) s

    by : (b : Bool) (n : Option AskedPart) → b ≡ is_permitted c d w → n ≡ next c w → Sound c (one_asked c d w)
    by false n e f = at [] (ap (λ b. if b then option_to_list (next c w) else []) (sym e)) none
    by true None e f = at [] (ap (λ b. if b then option_to_list (next c w) else []) (sym e) ∙ ap option_to_list (sym f)) none
    by true (Some x) e f = at (x ∷ []) (ap (λ b. if b then option_to_list (next c w) else []) (sym e) ∙ ap option_to_list (sym f)) (ask_sound c w x s (sym f))

-- All asks of a turn
pub asked_grows : (c : CourseConfig) (d : Direction) (w : Course) → Sound c w → Grown (changed c d w) (changed c d (asked c d w)) × Sound c (asked c d w)
unfolding asked
asked_grows c d w s =
    let w1 : Course = one_asked c d w in
    let w2 : Course = one_asked c d w1 in
    let w3 : Course = one_asked c d w2 in
    let w4 : Course = one_asked c d w3 in
    let s1 : Sound c w1 = one_asked_sound c d w s in
    let s2 : Sound c w2 = one_asked_sound c d w1 s1 in
    let s3 : Sound c w3 = one_asked_sound c d w2 s2 in (
      grown_then (changed c d w) (changed c d w1) (changed c d w4) (one_asked_grows c d w s)
          (grown_then (changed c d w1) (changed c d w2) (changed c d w4) (one_asked_grows c d w1 s1)
          (grown_then (changed c d w2) (changed c d w3) (changed c d w4) (one_asked_grows c d w2 s2) (one_asked_grows c d w3 s3))),
      one_asked_sound c d w3 s3,
    )
