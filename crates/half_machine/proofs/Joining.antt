-- What an answer makes of a course.
use Rattle.std.proofs.Common.{inl, inr, refl, sym, ◌∙◌, ap, arith, append-nil, length-append}
use Rattle.std.proofs.lemmas.Grind.{flat_map-append}
use Rattle.std.proofs.lemmas.List.Folds.{list_any-append}
use Rattle.std.proofs.lemmas.List.Sums.{sum_by_push}
use Rattle.std.specs.Prelude.{ℕ, ◌≡◌, ◌⊎◌, ◌+◌, Bool, true, false, ◌||◌, List, ◌∷◌, ◌++◌, Some, None, [], length, find, cond, filter_map, flat_map, sum_by, Option, is_some, option_map, unwrap_or, if◌then◌else◌}
use Rattle.std.specs.List.{list_any}
use Rattle.ext_msgs.specs.declared.lists.Field.{Field}
use Rattle.ext_msgs.specs.declared.answer.Common.{Common}
use Rattle.http_model.specs.Heads.{is_bodiless}
use Rattle.http_model.specs.declared.types.Direction.{Direction}
use Rattle.filter_model.specs.Config.{CourseConfig}
use Rattle.filter_model.specs.Course.{Course, AskedPart, Headers, Body, Trailers, Outgoing, changed_head, head_kind, under, is_buffered, is_body, is_headers, is_stopped, out, pairs, bytes_in, answered_pieces, answered_piece, answered_bytes, answer_to, replaces, replacement, replacement_at, is_bare, new_piece}
use Rattle.filter_model.specs.Sound.{Sound, once}
use Rattle.filter_model.proofs.CourseGrows.{with_answer, pairs_more, answer_kept, pieces_more, drop_more, any_of_drop, once_out}
use Rattle.half_machine.specs.BodyAsks.{BodyAsks}
use Rattle.half_machine.specs.Stands.{piece_bytes}

clash : true ≡ false → ⊥
clash e = cc

-- The asks

pub was_asked : (kind : AskedPart → Bool) (w : Course) (q : AskedPart) (more : List AskedPart) → out w ≡ q ∷ more → kind q ≡ true → list_any kind w.asks ≡ true
was_asked kind w q more o e = any_of_drop kind w.asks w.answers (ap (list_any kind) o ∙ ap (λ b. b || list_any kind more) e)

-- The answers by their kind

first_found : (kind : AskedPart → Bool) (l : List (AskedPart × Common)) (q : AskedPart) (a : Common) → kind q ≡ true
    → option_map (λ (x : AskedPart × Common). x.1) (find (λ (x : AskedPart × Common). kind x.0) l) ≡ None
    → option_map (λ (x : AskedPart × Common). x.1) (find (λ (x : AskedPart × Common). kind x.0) (l ++ (q, a) ∷ [])) ≡ Some a
first_found kind [] q a e f = ap (λ b. option_map (λ (x : AskedPart × Common). x.1) (cond b (Some (q, a)) None)) e
first_found kind (p ∷ l) q a e f = by (kind p.0) f (first_found kind l q a e)
  where
    by : (b : Bool) → option_map (λ (x : AskedPart × Common). x.1) (cond b (Some p) (find (λ (x : AskedPart × Common). kind x.0) l)) ≡ None
        → (option_map (λ (x : AskedPart × Common). x.1) (find (λ (x : AskedPart × Common). kind x.0) l) ≡ None
        → option_map (λ (x : AskedPart × Common). x.1) (find (λ (x : AskedPart × Common). kind x.0) (l ++ (q, a) ∷ [])) ≡ Some a)
        → option_map (λ (x : AskedPart × Common). x.1) (cond b (Some p) (find (λ (x : AskedPart × Common). kind x.0) (l ++ (q, a) ∷ []))) ≡ Some a
    by true g k = absurd cc
    by false g k = k g

later_found : (kind : AskedPart → Bool) (l : List (AskedPart × Common)) (q : AskedPart) (a : Common) → kind q ≡ true
    → is_some (option_map (λ (x : AskedPart × Common). x.1) (find (λ (x : AskedPart × Common). kind x.0) (l ++ (q, a) ∷ []))) ≡ true
later_found kind [] q a e = ap (λ b. is_some (option_map (λ (x : AskedPart × Common). x.1) (cond b (Some (q, a)) None))) e
later_found kind (p ∷ l) q a e = by (kind p.0) (later_found kind l q a e)
  where
    by : (b : Bool) → is_some (option_map (λ (x : AskedPart × Common). x.1) (find (λ (x : AskedPart × Common). kind x.0) (l ++ (q, a) ∷ []))) ≡ true
        → is_some (option_map (λ (x : AskedPart × Common). x.1) (cond b (Some p) (find (λ (x : AskedPart × Common). kind x.0) (l ++ (q, a) ∷ [])))) ≡ true
    by true k = refl
    by false k = k

pub answer_first : (kind : AskedPart → Bool) (w : Course) (a : Common) (q : AskedPart) (more : List AskedPart) → out w ≡ q ∷ more → kind q ≡ true → answer_to kind w ≡ None
    → answer_to kind (with_answer a w) ≡ Some a
answer_first kind w a q more o e f =
    ap (λ l. option_map (λ (x : AskedPart × Common). x.1) (find (λ (x : AskedPart × Common). kind x.0) l)) (pairs_more w a q more o) ∙ first_found kind (pairs w) q a e f

pub answer_there : (kind : AskedPart → Bool) (w : Course) (a : Common) (q : AskedPart) (more : List AskedPart) → out w ≡ q ∷ more → kind q ≡ true
    → is_some (answer_to kind (with_answer a w)) ≡ true
answer_there kind w a q more o e =
    ap (λ l. is_some (option_map (λ (x : AskedPart × Common). x.1) (find (λ (x : AskedPart × Common). kind x.0) l))) (pairs_more w a q more o) ∙ later_found kind (pairs w) q a e

-- an ask that is made once and is out has no answer
pub unanswered_out : (kind : AskedPart → Bool) (w : Course) (q : AskedPart) (more : List AskedPart) → once kind w.asks ≡ true → out w ≡ q ∷ more → kind q ≡ true → answer_to kind w ≡ None
unanswered_out kind w q more n o e =
    ap (option_map (λ (x : AskedPart × Common). x.1)) (once_out kind w.asks w.answers n (ap (list_any kind) o ∙ ap (λ b. b || list_any kind more) e))

or_false : (b : Bool) → (b || false) ≡ b
or_false true = refl
or_false false = refl

pub stopped_by : (w : Course) (a : Common) → is_stopped (with_answer a w) ≡ (is_stopped w || a.replace)
stopped_by w a = list_any-append (λ x. x.replace) w.answers (a ∷ []) ∙ ap (λ b. is_stopped w || b) (or_false a.replace)

pub replacement_stays : (d : Direction) (w : Course) (a : Common) (q : AskedPart) (more : List AskedPart) → out w ≡ q ∷ more → is_headers q ≡ false
    → replacement d (with_answer a w) ≡ replacement d w
replacement_stays d w a q more o e = ap (replacement_at (is_bare d w.original.length)) (answer_kept is_headers w a q more o e)

pub unreplaced_by : (bare : Bool) (o : Option Common) → replaces o ≡ false → is_some (replacement_at bare o) ≡ false
unreplaced_by true o e = refl
unreplaced_by false None e = refl
unreplaced_by false (Some a) e = ap (λ b. is_some (if b then new_piece a.body else None)) e

-- The pieces

abbrev pub piece_of : Common → List ℕ → List ℕ
piece_of a bytes = unwrap_or (new_piece a.body) bytes

pub joined_pieces : (w : Course) (a : Common) (bytes : List ℕ) (last : Bool) (more : List AskedPart) → out w ≡ Body bytes last ∷ more
    → flat_map (λ p. p) (answered_pieces (with_answer a w)) ≡ flat_map (λ p. p) (answered_pieces w) ++ piece_of a bytes
joined_pieces w a bytes last more o =
    ap (flat_map (λ p. p)) (pieces_more w a (Body bytes last) more o)
    ∙ flat_map-append (λ (p : List ℕ). p) (answered_pieces w) (piece_of a bytes ∷ [])
    ∙ ap (λ l. flat_map (λ p. p) (answered_pieces w) ++ l) (append-nil (piece_of a bytes))

pub same_pieces : (w : Course) (a : Common) (q : AskedPart) (more : List AskedPart) → out w ≡ q ∷ more → is_body q ≡ false → answered_pieces (with_answer a w) ≡ answered_pieces w
same_pieces w a q more o e =
    pieces_more w a q more o ∙ ap (λ l. answered_pieces w ++ l) (none q e) ∙ append-nil (answered_pieces w)
  where
    none : (q : AskedPart) → is_body q ≡ false → filter_map answered_piece ((q, a) ∷ []) ≡ []
    none (Headers f l) e = refl
    none (Body b l) e = absurd (clash e)
    none (Trailers f) e = refl

pub piece_bytes_more : (w : Course) (a : Common) (bytes : List ℕ) (last : Bool) (more : List AskedPart) → out w ≡ Body bytes last ∷ more
    → piece_bytes (with_answer a w) ≡ piece_bytes w + length (piece_of a bytes)
piece_bytes_more w a bytes last more o = ap length (joined_pieces w a bytes last more o) ∙ length-append (flat_map (λ p. p) (answered_pieces w)) (piece_of a bytes)

pub same_answered : (w : Course) (a : Common) (q : AskedPart) (more : List AskedPart) → out w ≡ q ∷ more → is_body q ≡ false
    → answered_bytes (pairs (with_answer a w)) ≡ answered_bytes (pairs w)
same_answered w a q more o e =
    ap (sum_by (λ (x : AskedPart × Common). length (bytes_in x.0))) (pairs_more w a q more o)
    ∙ sum_by_push (λ (x : AskedPart × Common). length (bytes_in x.0)) (pairs w) (q, a)
    ∙ plus (answered_bytes (pairs w)) (length (bytes_in q)) (none q e)
  where
    none : (q : AskedPart) → is_body q ≡ false → length (bytes_in q) ≡ 0
    none (Headers f l) e = refl
    none (Body b l) e = absurd (clash e)
    none (Trailers f) e = refl

    plus : (n m : ℕ) → m ≡ 0 → n + m ≡ n
    plus n m e = omega arith

-- The head

abbrev both : Bool → CourseConfig → Direction → List Field → Option Common → Option Common → List Field
both buffered c d head headers body = if buffered then under c (head_kind d) (under c (head_kind d) head headers) body else under c (head_kind d) head headers

pub same_head : (c : CourseConfig) (d : Direction) (w : Course) (a : Common) (q : AskedPart) (more : List AskedPart) → out w ≡ q ∷ more → is_headers q ≡ false
    → (is_body q ≡ false) ⊎ (is_buffered w.modes.body ≡ false) → (h : List Field) → changed_head c d (with_answer a w) h ≡ changed_head c d w h
same_head c d w a q more o e (inl f) h =
    ap (λ (x : Option Common). both (is_buffered w.modes.body) c d h x (answer_to is_body (with_answer a w))) (answer_kept is_headers w a q more o e)
    ∙ ap (λ (x : Option Common). both (is_buffered w.modes.body) c d h (answer_to is_headers w) x) (answer_kept is_body w a q more o f)
same_head c d w a q more o e (inr f) h =
    ap (λ (x : Option Common). both (is_buffered w.modes.body) c d h x (answer_to is_body (with_answer a w))) (answer_kept is_headers w a q more o e)
    ∙ ap (λ b. both b c d h (answer_to is_headers w) (answer_to is_body (with_answer a w))) f
    ∙ sym (ap (λ b. both b c d h (answer_to is_headers w) (answer_to is_body w)) f)

-- What is known of the asks of the body

pub joined_asks : (c : CourseConfig) (w : Course) (a : Common) (q : AskedPart) (more : List AskedPart) → Sound c w → out w ≡ q ∷ more → w.released ≡ false → BodyAsks w
    → BodyAsks (with_answer a w)
joined_asks c w a q more s o r k = by (is_headers q) refl
  where
    Why : Course → Type 0
    Why w = (is_bodiless w.original.length ≡ true) ⊎ ((replaces (answer_to is_headers w) ≡ true) ⊎ (is_some (answer_to is_body w) ≡ true))

    body_stays : is_some (answer_to is_body w) ≡ true → (b : Bool) → is_body q ≡ b → is_some (answer_to is_body (with_answer a w)) ≡ true
    body_stays e true i = answer_there is_body w a q more o i
    body_stays e false i = ap is_some (answer_kept is_body w a q more o i) ∙ e

    why : is_headers q ≡ false → Why w → Why (with_answer a w)
    why i (inl e) = inl e
    why i (inr (inl e)) = inr (inl (ap replaces (answer_kept is_headers w a q more o i) ∙ e))
    why i (inr (inr e)) = inr (inr (body_stays e (is_body q) refl))

    by : (b : Bool) → is_headers q ≡ b → BodyAsks (with_answer a w)
    by true i =
        let out_headers : list_any is_headers (out w) ≡ true = ap (list_any is_headers) o ∙ ap (λ b. b || list_any is_headers more) i in
        record {
          single = k.single;
          there = k.there;
          going = λ e. absurd (clash (sym e ∙ s.in_turn out_headers));
          waits = λ h e u b. absurd (clash (sym out_headers ∙ s.no_headers h e u));
        }
    by false i = record {
      single = k.single;
      there = k.there;
      going = λ e. ap replaces (answer_kept is_headers w a q more o i) ∙ k.going e;
      waits = λ h e u b. why i (k.waits h e u b);
    }

-- the head waits for the body that is asked whole
pub head_waits : (w : Course) (q : AskedPart) (more : List AskedPart) → out w ≡ q ∷ more → w.released ≡ false → is_body q ≡ true → is_buffered w.modes.body ≡ true → BodyAsks w
    → w.head ≡ None
head_waits w q more o r e b k = by w.head refl
  where
    asked : list_any is_body w.asks ≡ true
    asked = was_asked is_body w q more o e

    never : (is_bodiless w.original.length ≡ true) ⊎ ((replaces (answer_to is_headers w) ≡ true) ⊎ (is_some (answer_to is_body w) ≡ true)) → ⊥
    never (inl i) = clash (sym asked ∙ k.there i)
    never (inr (inl i)) = clash (sym i ∙ k.going asked)
    never (inr (inr i)) = clash (sym i ∙ ap is_some (unanswered_out is_body w q more (k.single b) o e))

    by : (x : Option Outgoing) → w.head ≡ x → w.head ≡ None
    by None i = i
    by (Some h) i = absurd (never (k.waits h i r b))

-- behind an ask that is made once there is none of its kind
pub once_past : (kind : AskedPart → Bool) (w : Course) (a : Common) (q : AskedPart) (more : List AskedPart) → once kind w.asks ≡ true → out w ≡ q ∷ more → kind q ≡ true
    → list_any kind more ≡ false
once_past kind w a q more n o e = by (list_any kind more) refl
  where
    by : (b : Bool) → list_any kind more ≡ b → list_any kind more ≡ false
    by false i = i
    by true i =
        absurd (clash (sym (answer_there kind w a q more o e)
        ∙ ap (λ z. is_some (option_map (λ (x : AskedPart × Common). x.1) z))
        (once_out kind w.asks (w.answers ++ a ∷ []) n (ap (list_any kind) (drop_more w.asks w.answers q more a o) ∙ i))))
