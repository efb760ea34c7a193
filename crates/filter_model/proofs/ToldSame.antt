-- What a half is told of what its side brings makes of its course what the entry makes of the exchange's.
use Rattle.std.proofs.Common.{sym, ◌∙◌, ap, refl, arith, append-nil, le-ltb, lt-ltb, le-leb}
use Rattle.std.specs.Prelude.{ℕ, ◌≡◌, ◌+◌, ◌-◌, ◌≤◌, min, Bool, true, false, not, ◌&&◌, ◌||◌, List, [], ◌∷◌, ◌++◌, length, take, Option, Some, None, if◌then◌else◌, is_some, is_none, option_map, option_to_list, nat_lt, nat_le, flat_map}
use Rattle.std.specs.List.{list_any}
use Rattle.ext_msgs.specs.declared.lists.Field.{Field}
use Rattle.ext_msgs.specs.declared.modes.BodyMode.{BodyMode}
use Rattle.ext_msgs.specs.declared.modes.BodyMode.TheVariants.{NoAsk, Streamed, Buffered, Partial}
use Rattle.ext_msgs.specs.declared.modes.PartModes.{PartModes}
use Rattle.http_model.specs.Bytes.{is_empty}
use Rattle.http_model.specs.Heads.{is_bodiless}
use Rattle.http_model.specs.declared.types.Direction.{Direction}
use Rattle.http_model.specs.declared.types.Length.{Length}
use Rattle.http_model.specs.declared.types.Framing.TheVariants.{Length as OfLength}
use Rattle.filter_model.specs.Config.{CourseConfig}
use Rattle.filter_model.specs.Course.{Course, AskedPart, Headers, Body, Trailers, Outgoing, outgoing, head_may_go, committed, next, next_body, body_at, next_trailers, due, queue, is_permitted, one_asked, asked, is_buffered, is_trailers, is_no_ask, is_bare, is_partial, body_room, unasked, or_else, mode, changed, changed_head, framing_at, framing_by, replacement, answered_pieces, ask_limit}
use Rattle.filter_model.proofs.Firm.{asked_all}

-- Moves that change nothing

none_made : (c : CourseConfig) (d : Direction) (w : Course) → due c d w ≡ [] → one_asked c d w ≡ w
unfolding one_asked
none_made c d w e = ap (λ l. record w { asks = w.asks ++ l }) e ∙ ap (λ l. record w { asks = l }) (append-nil w.asks)

pub asked_none : (c : CourseConfig) (d : Direction) (w : Course) → due c d w ≡ [] → asked c d w ≡ w
unfolding asked
asked_none c d w e =
    let o : one_asked c d w ≡ w = none_made c d w e in
    ap (λ x. one_asked c d (one_asked c d (one_asked c d x))) o ∙ ap (λ x. one_asked c d (one_asked c d x)) o ∙ ap (one_asked c d) o ∙ o

-- one turn more makes no ask
pub asked_again : (c : CourseConfig) (d : Direction) (w : Course) → length w.answers ≤ length w.asks → asked c d (one_asked c d w) ≡ asked c d w
unfolding asked
asked_again c d w n = none_made c d (asked c d w) (asked_all c d w n)

pub kept_head : {A B : Type 0} (x : Option B) (b : Bool) (f : A → B) (o : Option A) → (x ≡ None → b ≡ true → o ≡ None) → (if is_none x && b then option_map f o else x) ≡ x
kept_head (Some y) b f o e = refl
kept_head None true f o e = ap (option_map f) (e refl refl)
kept_head None false f o e = refl

pub committed_none : (c : CourseConfig) (d : Direction) (w : Course) → (w.head ≡ None → head_may_go w ≡ true → w.original.head ≡ None) → committed c d w ≡ w
unfolding committed
committed_none c d w e = ap (λ o. record w { head = o }) (kept_head w.head (head_may_go w) (outgoing c d w) w.original.head e)

-- a course at rest
pub rests : (c : CourseConfig) (d : Direction) (w : Course) → (w.head ≡ None → head_may_go w ≡ true → w.original.head ≡ None) → due c d w ≡ []
    → asked c d (committed c d w) ≡ w
rests c d w e n = ap (asked c d) (committed_none c d w e) ∙ asked_none c d w n

-- A course that has just got its head

-- what no byte changes of it
pub record Start : Type 0 where
  pub head : List Field
  pub length : Length
  pub modes : PartModes
  pub sent : ℕ
  pub given : ℕ
  pub released : Bool

abbrev pub begun : Start → List ℕ → List Field → Bool → List AskedPart → Option Outgoing → Course
begun s body trailers whole asks o = record {
  original = record { head = Some s.head; length = s.length; expects = false; body = body; trailers = trailers; whole = whole; fault = None };
  modes = s.modes;
  asks = asks;
  answers = [];
  sent = s.sent;
  given = s.given;
  released = s.released;
  head = o;
}

-- Its next ask

by_mode_none : (b : Bool) (m : BodyMode) (p : Option AskedPart) → p ≡ None → body_at b false m None None p ≡ None
by_mode_none true m p e = refl
by_mode_none false NoAsk p e = refl
by_mode_none false Streamed p e = refl
by_mode_none false Buffered p e = refl
by_mode_none false Partial p e = e

-- of no body nothing is asked
none_of_body : (c : CourseConfig) (s : Start) (o : Option Outgoing) → next_body c (begun s [] [] false [] o) ≡ None
unfolding next_body
none_of_body c s o =
    by_mode_none (is_bodiless s.length) (if s.released || false then NoAsk else s.modes.body) _
    (ap (λ b. if b then Some (Body (take c.buffer_limit []) false) else None) (le-ltb c.buffer_limit 0 (omega arith)))

pub none_of_trailers : (s : Start) (body : List ℕ) (asks : List AskedPart) (o : Option Outgoing) → next_trailers (begun s body [] false asks o) ≡ None
none_of_trailers s body asks o = by s.modes.trailers s.released (list_any is_trailers asks)
  where
    by : (t r a : Bool) → (if t && not r && not false && false && not true && not a then Some (Trailers []) else None) ≡ None
    by true true a = refl
    by true false a = refl
    by false r a = refl

pub or_none : (x y : Option AskedPart) → x ≡ None → y ≡ None → or_else x y ≡ None
or_none None y e f = f
or_none (Some p) y e f = absurd cc

pub none_due : (c : CourseConfig) (d : Direction) (w : Course) → next c w ≡ None → due c d w ≡ []
none_due c d w e = by (is_permitted c d w)
  where
    by : (b : Bool) → (if b then option_to_list (next c w) else []) ≡ []
    by true = ap option_to_list e
    by false = refl

-- The head that it chooses

none_fixed : (b t : Bool) → (b && false && t) ≡ false
none_fixed true t = refl
none_fixed false t = refl

-- bytes change neither fields nor framing, as long as no ask is answered
pub outgoing_same : (c : CourseConfig) (d : Direction) (s : Start) (body : List ℕ) (trailers : List Field) (whole : Bool)
    → outgoing c d (begun s body trailers whole [] None) s.head ≡ outgoing c d (begun s [] [] false [] None) s.head
outgoing_same c d s body trailers whole = ap with_fixed (none_fixed (is_buffered s.modes.body) (is_empty trailers) ∙ sym (none_fixed (is_buffered s.modes.body) true))
  where
    x : Course
    x = begun s [] [] false [] None

    with_fixed : Bool → Outgoing
    with_fixed b = record {
      fields = changed_head c d x s.head;
      framing = framing_at (is_bare d s.length) s.head (replacement d x)
          (if b then OfLength (length (flat_map (λ p. p) (answered_pieces x))) else framing_by s.length (is_no_ask (mode x) || is_bodiless s.length));
    }

head_same : (b : Bool) (p q : Outgoing) → q ≡ p → (if is_none (if b then Some p else None) && b then Some q else (if b then Some p else None)) ≡ (if b then Some q else None)
head_same true p q e = ap Some (sym e)
head_same false p q e = refl

-- What its head's entry makes of it, by the head alone

-- how much it takes then
abbrev pub collects : Start → Bool
collects s = not s.released && not s.modes.headers && (is_buffered s.modes.body || is_partial s.modes.body)

abbrev pub first_room : CourseConfig → Start → ℕ
first_room c s = min c.piece (if collects s then c.buffer_limit + 1 else c.mark)

pub record Begins (c : CourseConfig) (d : Direction) (s : Start) (z : Course) : Type 0 where
  pub asks : List AskedPart
  pub head : Option Outgoing
  pub is : z ≡ begun s [] [] false asks head
  pub room : body_room c d (begun s [] [] false asks head) ≡ first_room c s
  -- and the bytes behind the head make the same of it as all at once
  pub same : (body : List ℕ) (trailers : List Field) (whole : Bool)
      → asked c d (committed c d (begun s body trailers whole asks head)) ≡ asked c d (committed c d (begun s body trailers whole [] None))

abbrev pub by_head : CourseConfig → Direction → Start → Course
by_head c d s = asked c d (committed c d (begun s [] [] false [] None))

collected : (r h : Bool) (m : BodyMode)
    → ((r || not h || false) && (is_buffered (if r || false then NoAsk else m) || (is_partial (if r || false then NoAsk else m) && true)))
    ≡ (not r && not h && (is_buffered m || is_partial m))
collected true h m = refl
collected false true m = refl
collected false false NoAsk = refl
collected false false Streamed = refl
collected false false Buffered = refl
collected false false Partial = refl

none_unasked : (d : Direction) (s : Start) (asks : List AskedPart) (o : Option Outgoing) → unasked d (begun s [] [] false asks o) ≡ 0
none_unasked d s asks o = by (is_some (replacement d (begun s [] [] false asks o))) _ _
  where
    by : (b : Bool) (n m : ℕ) → (if b then 0 else 0 - n - m) ≡ 0
    by true n m = refl
    by false n m = omega arith

room_from : (piece limit mark n : ℕ) (b b' : Bool) → b ≡ b' → n ≡ 0 → min piece ((if b then limit + 1 else mark) - n) ≡ min piece (if b' then limit + 1 else mark)
room_from piece limit mark n b b' e f = ap (λ x. min piece ((if x then limit + 1 else mark) - n)) e ∙ by (if b' then limit + 1 else mark)
  where
    by : (k : ℕ) → min piece (k - n) ≡ min piece k
    by k = let j : k - n ≡ k = omega (arith, f) in ap (min piece) j

-- no headers ask is due
by_choice : (c : CourseConfig) (d : Direction) (s : Start) → ((o : Option Outgoing) → next c (begun s [] [] false [] o) ≡ None) → Begins c d s (by_head c d s)
unfolding committed body_room
by_choice c d s n =
    let x : Course = begun s [] [] false [] None in
    let o : Option Outgoing = if head_may_go x then Some (outgoing c d x s.head) else None in
    record {
      asks = [];
      head = o;
      is = asked_none c d (committed c d x) (none_due c d (committed c d x) (n o));
      room = room_from c.piece c.buffer_limit c.mark (unasked d (begun s [] [] false [] o)) _ (collects s) (collected s.released s.modes.headers s.modes.body) (none_unasked d s [] o);
      same = λ body trailers whole.
          ap (λ h. asked c d (begun s body trailers whole [] h)) (head_same (head_may_go x) (outgoing c d x s.head) (outgoing c d (begun s body trailers whole [] None) s.head) (outgoing_same c d s body trailers whole));
    }

abbrev with_headers : Bool → Bool → Start → Start
with_headers r h s = record s { released = r; modes = record s.modes { headers = h } }

pub and_true : (x y : Bool) → x ≡ true → y ≡ true → (x && y) ≡ true
and_true true y e f = f
and_true false y e f = absurd cc

-- the first ask is permitted
permitted_first : (c : CourseConfig) (d : Direction) (s : Start) (body : List ℕ) (trailers : List Field) (whole : Bool) → is_permitted c d (begun s body trailers whole [] None) ≡ true
unfolding is_permitted queue changed
permitted_first c d s body trailers whole =
    and_true (nat_lt (0 - min 0 s.sent) ask_limit) (nat_le (0 - s.given) c.mark) (lt-ltb (0 - min 0 s.sent) ask_limit (omega arith)) (le-leb (0 - s.given) c.mark (omega arith))

headers_made : (c : CourseConfig) (d : Direction) (s : Start) (body : List ℕ) (trailers : List Field) (whole : Bool) → let x : Start = with_headers false true s in
    one_asked c d (begun x body trailers whole [] None) ≡ begun x body trailers whole (Headers s.head (is_bodiless s.length) ∷ []) None
unfolding one_asked next
headers_made c d s body trailers whole =
    let x : Start = with_headers false true s in
    ap (λ b. begun x body trailers whole (if b then Headers s.head (is_bodiless s.length) ∷ [] else []) None) (permitted_first c d x body trailers whole)

headers_asked : (c : CourseConfig) (d : Direction) (s : Start) → Begins c d (with_headers false true s) (by_head c d (with_headers false true s))
unfolding committed next body_room
headers_asked c d s =
    let x : Start = with_headers false true s in
    let h : List AskedPart = Headers s.head (is_bodiless s.length) ∷ [] in
    record {
      asks = h;
      head = None;
      is = sym (asked_again c d (begun x [] [] false [] None) (omega arith)) ∙ ap (asked c d) (headers_made c d s [] [] false)
          ∙ asked_none c d (begun x [] [] false h None) (none_due c d (begun x [] [] false h None) refl);
      room = room_from c.piece c.buffer_limit c.mark (unasked d (begun x [] [] false h None)) false false refl (none_unasked d x h None);
      same = λ body trailers whole.
          ap (asked c d) (sym (headers_made c d s body trailers whole)) ∙ asked_again c d (begun x body trailers whole [] None) (omega arith);
    }

pub begins : (c : CourseConfig) (d : Direction) (s : Start) → Begins c d s (by_head c d s)
unfolding next
begins c d s = by s.released s.modes.headers
  where
    by : (r h : Bool) → Begins c d (with_headers r h s) (by_head c d (with_headers r h s))
    by true h = by_choice c d (with_headers true h s) (λ o. refl)
    by false false = by_choice c d (with_headers false false s)
        (λ o. or_none _ _ (none_of_body c (with_headers false false s) o) (none_of_trailers (with_headers false false s) [] [] o))
    by false true = headers_asked c d s
