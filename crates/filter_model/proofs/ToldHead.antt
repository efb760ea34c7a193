-- The entry that brings a head: its half is told the head and the bytes behind it in turn, the account all at once.
use Rattle.std.proofs.Common.{sym, ◌∙◌, ap, refl, arith, lt-ltb, le-ltb, le-leb, ltb-false, ltb-true, take-append-drop}
use Rattle.std.proofs.lemmas.List.{take-take, length-take-le}
use Rattle.std.specs.Prelude.{ℕ, ◌≡◌, ◌+◌, ◌-◌, ◌<◌, ◌≤◌, min, Bool, true, false, not, ◌&&◌, List, [], ◌∷◌, ◌++◌, length, take, drop, Option, Some, None, if◌then◌else◌, option_to_list, nat_lt, nat_le}
use Rattle.ext_msgs.specs.declared.lists.Field.{Field}
use Rattle.ext_msgs.specs.declared.modes.BodyMode.{BodyMode}
use Rattle.ext_msgs.specs.declared.modes.BodyMode.TheVariants.{NoAsk, Streamed, Buffered, Partial}
use Rattle.http_model.specs.Bytes.{is_empty}
use Rattle.http_model.specs.Heads.{is_bodiless}
use Rattle.http_model.specs.Reads.{Original, unread}
use Rattle.http_model.specs.declared.types.Direction.{Direction}
use Rattle.filter_model.specs.Config.{CourseConfig}
use Rattle.filter_model.specs.Course.{Course, AskedPart, Body, Outgoing, outgoing, committed, next, next_body, body_at, next_trailers, or_else, queue, is_permitted, one_asked, asked, is_bare, replacement_by, changed, changed_at, body_of, ask_limit, body_room, is_over}
use Rattle.filter_model.specs.Half.{HalfCall, Head, Bytes, End, called}
use Rattle.filter_model.specs.Told.{told, more, more_calls, body_calls, head_of}
use Rattle.filter_model.proofs.ToldSame.{Start, begun, begins, by_head, first_room, asked_again, asked_none, none_due, none_of_trailers, or_none, and_true, outgoing_same}

-- The first bytes of a longer body, in one ask

abbrev pub partial : Start → Start
partial s = record s { released = false; modes = record s.modes { headers = false; body = Partial } }

none_instead : (b : Bool) → (if b then None else replacement_by None) ≡ None
none_instead true = refl
none_instead false = refl

permitted_behind : (c : CourseConfig) (d : Direction) (s : Start) (o : Outgoing) (body : List ℕ) (trailers : List Field) (whole : Bool)
    → is_permitted c d (begun (partial s) body trailers whole [] (Some o)) ≡ true
unfolding is_permitted queue changed
permitted_behind c d s o body trailers whole =
    let w : Course = begun (partial s) body trailers whole [] (Some o) in
    let q : queue c d w ≡ 0 - s.given = ap (λ r. length (body_of (changed_at c w (Some o) r)) - s.given) (none_instead (is_bare d s.length)) in
    let r : queue c d w ≤ c.mark = omega arith in
    and_true (nat_lt (0 - min 0 s.sent) ask_limit) (nat_le (queue c d w) c.mark) (lt-ltb (0 - min 0 s.sent) ask_limit (omega arith)) (le-leb (queue c d w) c.mark r)

first_is : (b : Bool) (p t : Option AskedPart) (q : AskedPart) → b ≡ false → p ≡ Some q → or_else (body_at b false Partial None None p) t ≡ Some q
first_is true p t q e f = absurd cc
first_is false p t q e f = ap (λ x. or_else x t) f

piece_due : (c : CourseConfig) (d : Direction) (s : Start) (o : Outgoing) (body : List ℕ) (trailers : List Field) (whole : Bool) → is_bodiless s.length ≡ false → c.buffer_limit < length body
    → next c (begun (partial s) body trailers whole [] (Some o)) ≡ Some (Body (take c.buffer_limit body) false)
unfolding next next_body
piece_due c d s o body trailers whole e l =
    first_is (is_bodiless s.length) _ (next_trailers (begun (partial s) body trailers whole [] (Some o))) (Body (take c.buffer_limit body) false) e
    (ap (λ b. if b then Some (Body (take c.buffer_limit body) false) else (if whole then Some (Body body (is_empty trailers)) else None)) (lt-ltb c.buffer_limit (length body) l))

piece_made : (c : CourseConfig) (d : Direction) (s : Start) (o : Outgoing) (body : List ℕ) (trailers : List Field) (whole : Bool) → is_bodiless s.length ≡ false → c.buffer_limit < length body
    → one_asked c d (begun (partial s) body trailers whole [] (Some o)) ≡ begun (partial s) body trailers whole (Body (take c.buffer_limit body) false ∷ []) (Some o)
unfolding one_asked
piece_made c d s o body trailers whole e l =
    let w : Course = begun (partial s) body trailers whole [] (Some o) in
    ap (λ b. begun (partial s) body trailers whole (if b then option_to_list (next c w) else []) (Some o)) (permitted_behind c d s o body trailers whole)
    ∙ ap (λ p. begun (partial s) body trailers whole (option_to_list p) (Some o)) (piece_due c d s o body trailers whole e l)

asked_once : (b : Bool) → body_at b false Partial None None None ≡ None
asked_once true = refl
asked_once false = refl

none_behind : (c : CourseConfig) (s : Start) (o : Outgoing) (body piece : List ℕ) → next c (begun (partial s) body [] false (Body piece false ∷ []) (Some o)) ≡ None
unfolding next next_body
none_behind c s o body piece =
    or_none _ _ (asked_once (is_bodiless s.length)) (none_of_trailers (partial s) body (Body piece false ∷ []) (Some o))

-- what a half asks of the first bytes, as many as there was room for
pub first_bytes : (c : CourseConfig) (d : Direction) (s : Start) (body : List ℕ) → is_bodiless s.length ≡ false → c.buffer_limit < length body
    → asked c d (committed c d (begun (partial s) body [] false [] None))
    ≡ begun (partial s) body [] false (Body (take c.buffer_limit body) false ∷ []) (Some (outgoing c d (begun (partial s) [] [] false [] None) s.head))
unfolding committed
first_bytes c d s body e l =
    let o : Outgoing = outgoing c d (begun (partial s) body [] false [] None) s.head in
    let w : Course = begun (partial s) body [] false [] (Some o) in
    let x : Course = begun (partial s) body [] false (Body (take c.buffer_limit body) false ∷ []) (Some o) in
    sym (asked_again c d w (omega arith)) ∙ ap (asked c d) (piece_made c d s o body [] false e l)
    ∙ asked_none c d x (none_due c d x (none_behind c s o body (take c.buffer_limit body)))
    ∙ ap (λ h. begun (partial s) body [] false (Body (take c.buffer_limit body) false ∷ []) (Some h)) (outgoing_same c d (partial s) body [] false)

-- and the rest behind them
rest_same : (c : CourseConfig) (d : Direction) (s : Start) (body : List ℕ) (trailers : List Field) (whole : Bool) → is_bodiless s.length ≡ false → c.buffer_limit < length body
    → asked c d (committed c d (begun (partial s) body trailers whole (Body (take c.buffer_limit body) false ∷ []) (Some (outgoing c d (begun (partial s) [] [] false [] None) s.head))))
    ≡ asked c d (committed c d (begun (partial s) body trailers whole [] None))
unfolding committed
rest_same c d s body trailers whole e l =
    let o : Outgoing = outgoing c d (begun (partial s) body trailers whole [] None) s.head in
    ap (λ h. asked c d (begun (partial s) body trailers whole (Body (take c.buffer_limit body) false ∷ []) (Some h))) (sym (outgoing_same c d (partial s) body trailers whole))
    ∙ ap (asked c d) (sym (piece_made c d s o body trailers whole e l))
    ∙ asked_again c d (begun (partial s) body trailers whole [] (Some o)) (omega arith)

-- What the half is told

-- before its head
abbrev pub unbegun : Start → Course
unbegun s = record {
  original = unread None;
  modes = s.modes;
  asks = [];
  answers = [];
  sent = s.sent;
  given = s.given;
  released = s.released;
  head = None;
}

called_more : (s : Start) (now : Original) (body bytes : List ℕ) (asks : List AskedPart) (o : Option Outgoing) → (now.whole ≡ false → now.trailers ≡ [])
    → called (more now bytes) (begun s body [] false asks o) ≡ begun s (body ++ bytes) now.trailers now.whole asks o
called_more s now body bytes asks o e = by now.whole e
  where
    by : (b : Bool) → (b ≡ false → now.trailers ≡ [])
        → called (if b then End bytes now.trailers else Bytes bytes) (begun s body [] false asks o) ≡ begun s (body ++ bytes) now.trailers b asks o
    by true e = refl
    by false e = ap (λ t. begun s (body ++ bytes) t false asks o) (sym (e refl))

-- behind the head
abbrev pub TellsHead : CourseConfig → Direction → Start → Original → Type 0
TellsHead c d s now =
    told c d (head_of now s.head ∷ body_calls (body_room c d (told c d (head_of now s.head ∷ []) (unbegun s))) now) (unbegun s)
    ≡ asked c d (committed c d (begun s now.body now.trailers now.whole [] None))

headed : (s : Start) (now : Original) → now.length ≡ s.length → called (head_of now s.head) (unbegun s) ≡ begun s [] [] (is_bodiless s.length) [] None
headed s now e = ap (λ n. called (Head s.head n) (unbegun s)) e

-- of a message without a body the head is all
bodiless_told : (c : CourseConfig) (d : Direction) (s : Start) (now : Original) → now.length ≡ s.length → is_bodiless s.length ≡ true
    → now.body ≡ [] → now.trailers ≡ [] → now.whole ≡ true → TellsHead c d s now
bodiless_told c d s now n e b t w =
    ap (λ calls. told c d (head_of now s.head ∷ calls) (unbegun s)) (none _ (is_bodiless now.length) (ap is_bodiless n ∙ e))
    ∙ ap (λ x. asked c d (committed c d x))
    (headed s now n ∙ ap (λ b. begun s [] [] b [] None) (e ∙ sym w) ∙ ap (λ l. begun s l [] now.whole [] None) (sym b) ∙ ap (λ l. begun s now.body l now.whole [] None) (sym t))
  where
    none : (calls : List HalfCall) (b : Bool) → b ≡ true → (if b then [] else calls) ≡ []
    none calls true e = refl
    none calls false e = absurd cc

pub record HasBody (s : Start) (now : Original) : Type 0 where
  pub length : now.length ≡ s.length
  pub has : is_bodiless s.length ≡ false
  pub bare : now.whole ≡ false → now.trailers ≡ []

pub after_head : (c : CourseConfig) (d : Direction) (s : Start) (now : Original) → HasBody s now → told c d (head_of now s.head ∷ []) (unbegun s) ≡ by_head c d s
after_head c d s now h = ap (λ x. asked c d (committed c d x)) (headed s now h.length ∙ ap (λ b. begun s [] [] b [] None) h.has)

pub room_after : (c : CourseConfig) (d : Direction) (s : Start) (now : Original) → HasBody s now → body_room c d (told c d (head_of now s.head ∷ []) (unbegun s)) ≡ first_room c s
room_after c d s now h = let b = begins c d s in ap (body_room c d) (after_head c d s now h ∙ b.is) ∙ b.room

pub calls_are : (room : ℕ) (now : Original) (few : Bool) → is_bodiless now.length ≡ false → nat_lt room (length now.body) ≡ few
    → body_calls room now ≡ (if few then Bytes (take room now.body) ∷ more now (drop room now.body) ∷ [] else more_calls now now.body)
calls_are room now few e f = by _ (is_bodiless now.length) e ∙ ap (λ b. if b then Bytes (take room now.body) ∷ more now (drop room now.body) ∷ [] else more_calls now now.body) f
  where
    by : (calls : List HalfCall) (b : Bool) → b ≡ false → (if b then [] else calls) ≡ calls
    by calls true e = absurd cc
    by calls false e = refl

calls_with : (c : CourseConfig) (d : Direction) (s : Start) (now : Original) (few : Bool) → HasBody s now → nat_lt (first_room c s) (length now.body) ≡ few
    → told c d (head_of now s.head ∷ body_calls (body_room c d (told c d (head_of now s.head ∷ []) (unbegun s))) now) (unbegun s)
    ≡ told c d (if few then Bytes (take (first_room c s) now.body) ∷ more now (drop (first_room c s) now.body) ∷ [] else more_calls now now.body) (by_head c d s)
calls_with c d s now few h f =
    ap (λ room. told c d (head_of now s.head ∷ body_calls room now) (unbegun s)) (room_after c d s now h)
    ∙ ap (λ calls. told c d (head_of now s.head ∷ calls) (unbegun s)) (calls_are (first_room c s) now few (ap is_bodiless h.length ∙ h.has) f)
    ∙ ap (told c d (if few then Bytes (take (first_room c s) now.body) ∷ more now (drop (first_room c s) now.body) ∷ [] else more_calls now now.body)) (after_head c d s now h)

-- there is room for all of it
all_told : (c : CourseConfig) (d : Direction) (s : Start) (now : Original) → HasBody s now → nat_lt (first_room c s) (length now.body) ≡ false → TellsHead c d s now
all_told c d s now h f = calls_with c d s now false h f ∙ by now.whole now.body refl refl
  where
    some : told c d (more now now.body ∷ []) (by_head c d s) ≡ asked c d (committed c d (begun s now.body now.trailers now.whole [] None))
    some =
        let b = begins c d s in
        ap (λ x. asked c d (committed c d (called (more now now.body) x))) b.is
        ∙ ap (λ x. asked c d (committed c d x)) (called_more s now [] now.body b.asks b.head h.bare)
        ∙ b.same now.body now.trailers now.whole

    none : now.whole ≡ false → now.body ≡ [] → by_head c d s ≡ asked c d (committed c d (begun s now.body now.trailers now.whole [] None))
    none w e =
        ap (λ x. asked c d (committed c d x))
        (ap (λ l. begun s l [] false [] None) (sym e) ∙ ap (λ l. begun s now.body l false [] None) (sym (h.bare w)) ∙ ap (λ b. begun s now.body now.trailers b [] None) (sym w))

    by : (w : Bool) (l : List ℕ) → now.whole ≡ w → now.body ≡ l
        → told c d (if not w && is_empty l then [] else more now now.body ∷ []) (by_head c d s) ≡ asked c d (committed c d (begun s now.body now.trailers now.whole [] None))
    by true l w e = some
    by false (x ∷ l) w e = some
    by false [] w e = none w e

-- there isn't
split_told : (c : CourseConfig) (d : Direction) (s : Start) (now : Original) → HasBody (partial s) now → first_room c (partial s) ≡ c.buffer_limit + 1
    → nat_lt (first_room c (partial s)) (length now.body) ≡ true → TellsHead c d (partial s) now
split_told c d s now h r f =
    let x : Start = partial s in
    let b = begins c d x in
    let room : ℕ = first_room c x in
    let o : Outgoing = outgoing c d (begun x [] [] false [] None) s.head in
    let below : room < length now.body = ltb-true room (length now.body) f in
    let size : length (take room now.body) ≡ room = length-take-le room now.body (omega arith) in
    let over : c.buffer_limit < length (take room now.body) = omega arith in
    let all_over : c.buffer_limit < length now.body = omega arith in
    let fewer : c.buffer_limit ≤ room = omega arith in
    let rest : List ℕ = drop room now.body in
    calls_with c d x now true h f
    ∙ ap (λ y. asked c d (committed c d (called (more now rest) (asked c d (committed c d (called (Bytes (take room now.body)) y)))))) b.is
    ∙ ap (λ y. asked c d (committed c d (called (more now rest) y)))
    (b.same (take room now.body) [] false ∙ first_bytes c d s (take room now.body) h.has over
    ∙ ap (λ l. begun x (take room now.body) [] false (Body l false ∷ []) (Some o)) (take-take c.buffer_limit room now.body fewer))
    ∙ ap (λ y. asked c d (committed c d y))
    (called_more x now (take room now.body) rest (Body (take c.buffer_limit now.body) false ∷ []) (Some o) h.bare
    ∙ ap (λ l. begun x l now.trailers now.whole (Body (take c.buffer_limit now.body) false ∷ []) (Some o)) (take-append-drop room now.body))
    ∙ rest_same c d s now.body now.trailers now.whole h.has all_over

-- In every mode

pub record HeadComes (c : CourseConfig) (s : Start) (now : Original) : Type 0 where
  pub framed : now.length ≡ s.length
  pub bodiless : is_bodiless s.length ≡ true → (now.body ≡ []) × (now.trailers ≡ []) × (now.whole ≡ true)
  pub bare : now.whole ≡ false → now.trailers ≡ []
  pub short : length now.body ≤ c.piece
  pub sizes : c.piece ≤ c.mark
  pub within : is_over c (begun s now.body now.trailers now.whole [] None) ≡ false

pub fits_piece : (n piece mark : ℕ) → n ≤ piece → piece ≤ mark → nat_lt (min piece mark) n ≡ false
fits_piece n piece mark h k = le-ltb (min piece mark) n (omega (arith, h, k))

with_body : (c : CourseConfig) (d : Direction) (s : Start) (now : Original) → HeadComes c s now → HasBody s now → TellsHead c d s now
with_body c d s now h b = by s.released s.modes.headers s.modes.body h b
  where
    with_modes : Bool → Bool → BodyMode → Start
    with_modes r h m = record s { released = r; modes = record s.modes { headers = h; body = m } }

    by_room : HasBody (partial s) now → (few : Bool) → nat_lt (first_room c (partial s)) (length now.body) ≡ few → TellsHead c d (partial s) now
    by_room b false f = all_told c d (partial s) now b f
    by_room b true f =
        let k : min c.piece (c.buffer_limit + 1) < length now.body = ltb-true (min c.piece (c.buffer_limit + 1)) (length now.body) f in
        let n : length now.body ≤ c.piece = h.short in
        split_told c d s now b (omega arith) f

    by : (r k : Bool) (m : BodyMode) → HeadComes c (with_modes r k m) now → HasBody (with_modes r k m) now → TellsHead c d (with_modes r k m) now
    by true k m h b = all_told c d (with_modes true k m) now b (fits_piece (length now.body) c.piece c.mark h.short h.sizes)
    by false true m h b = all_told c d (with_modes false true m) now b (fits_piece (length now.body) c.piece c.mark h.short h.sizes)
    by false false NoAsk h b = all_told c d (with_modes false false NoAsk) now b (fits_piece (length now.body) c.piece c.mark h.short h.sizes)
    by false false Streamed h b = all_told c d (with_modes false false Streamed) now b (fits_piece (length now.body) c.piece c.mark h.short h.sizes)
    by false false Buffered h b =
        let n : length now.body ≤ c.buffer_limit = ltb-false c.buffer_limit (length now.body) h.within in
        all_told c d (with_modes false false Buffered) now b (le-ltb (min c.piece (c.buffer_limit + 1)) (length now.body) (omega (arith, n, h.short)))
    by false false Partial h b = by_room b (nat_lt (first_room c (partial s)) (length now.body)) refl

-- told the head and what is behind it, a half comes to what the account does
pub head_told : (c : CourseConfig) (d : Direction) (s : Start) (now : Original) → HeadComes c s now → TellsHead c d s now
head_told c d s now h = by (is_bodiless s.length) refl
  where
    by : (b : Bool) → is_bodiless s.length ≡ b → TellsHead c d s now
    by true e = let n = h.bodiless e in bodiless_told c d s now h.framed e n.0 n.1 n.2
    by false e = with_body c d s now h (record { length = h.framed; has = e; bare = h.bare })
