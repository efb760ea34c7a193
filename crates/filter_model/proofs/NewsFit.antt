-- Each call that tells a half what its side brings may be told, and brings no more body bytes than there is room for.
use Rattle.std.proofs.Common.{sym, ◌∙◌, ap, subst, refl, arith, le-ltb, ltb-false, ltb-true}
use Rattle.std.proofs.lemmas.List.{length-drop, length-take-le}
use Rattle.std.specs.Prelude.{ℕ, ◌≡◌, ◌+◌, ◌-◌, ◌<◌, ◌≤◌, min, Bool, true, false, not, ◌&&◌, List, [], ◌∷◌, length, take, drop, Option, Some, None, if◌then◌else◌, is_some, nat_lt}
use Rattle.ext_msgs.specs.declared.lists.Field.{Field}
use Rattle.ext_msgs.specs.declared.modes.BodyMode.{BodyMode}
use Rattle.ext_msgs.specs.declared.modes.BodyMode.TheVariants.{NoAsk, Streamed, Buffered, Partial}
use Rattle.http_model.specs.Bytes.{is_empty}
use Rattle.http_model.specs.Heads.{is_bodiless}
use Rattle.http_model.specs.Reads.{Original}
use Rattle.http_model.specs.declared.types.Direction.{Direction}
use Rattle.filter_model.specs.Config.{CourseConfig}
use Rattle.filter_model.specs.Course.{Course, AskedPart, Body, Outgoing, asked, body_room, committed, is_over, outgoing, replacement, unasked}
use Rattle.filter_model.specs.Half as half
use Rattle.filter_model.specs.Half.{HalfCall, Bytes, called}
use Rattle.filter_model.specs.HalfRight.{MayRead}
use Rattle.filter_model.specs.Told.{Comes, body_calls, head_of, known, more, more_calls, news, news_at, told}
use Rattle.filter_model.specs.ToldMore.{AllFit, CallFits}
use Rattle.filter_model.proofs.ToldHead.{HasBody, HeadComes, after_head, calls_are, first_bytes, fits_piece, partial, room_after, unbegun}
use Rattle.filter_model.proofs.ToldReading.{Bare, bare_of, begun_is, start_of, unread_is}
use Rattle.filter_model.proofs.ToldSame.{Begins, Start, begins, begun, by_head, first_room}

clash : true ≡ false → ⊥
clash e = cc

-- Body bytes behind a head

pub more_fits : (c : CourseConfig) (d : Direction) (w : Course) (now : Original) (bytes : List ℕ) → MayRead w → length bytes ≤ body_room c d w → CallFits c d w (more now bytes)
more_fits c d w now bytes m l = by now.whole
  where
    by : (b : Bool) → CallFits c d w (if b then half.End bytes now.trailers else half.Bytes bytes)
    by true = (m, l)
    by false = (m, l)

calls_fit : (c : CourseConfig) (d : Direction) (w : Course) (now : Original) (bytes : List ℕ) → MayRead w → length bytes ≤ body_room c d w → AllFit c d (more_calls now bytes) w
calls_fit c d w now bytes m l = by (not now.whole && is_empty bytes)
  where
    by : (b : Bool) → AllFit c d (if b then [] else more now bytes ∷ []) w
    by true = tt
    by false = (more_fits c d w now bytes m l, tt)

-- The head and what is behind it

abbrev pub Behind : ℕ → Original → Bool → List HalfCall
Behind room now few = if few then Bytes (take room now.body) ∷ more now (drop room now.body) ∷ [] else more_calls now now.body

pub begun_reads : (s : Start) (asks : List AskedPart) (o : Option Outgoing) (body : List ℕ) → is_bodiless s.length ≡ false → MayRead (begun s body [] false asks o)
begun_reads s asks o body e = record { read = refl; has_body = e; unfinished = refl }

-- of the first bytes of a longer body no more than one is in no ask
one_unasked : (b : Bool) (n m k : ℕ) → (if b then 0 else n - m - k) ≤ n - m
one_unasked true n m k = omega arith
one_unasked false n m k = omega arith

rest_room : (c : CourseConfig) (d : Direction) (s : Start) (body : List ℕ) (o : Outgoing) → length (take c.buffer_limit body) ≡ c.buffer_limit → length body ≡ c.buffer_limit + 1
    → min c.piece (c.mark - 1) ≤ body_room c d (begun (partial s) body [] false (Body (take c.buffer_limit body) false ∷ []) (Some o))
unfolding body_room
rest_room c d s body o e f =
    let w : Course = begun (partial s) body [] false (Body (take c.buffer_limit body) false ∷ []) (Some o) in
    let n : unasked d w ≤ length body - (0 + length (take c.buffer_limit body)) =
    one_unasked (is_some (replacement d w)) (length body) (0 + length (take c.buffer_limit body)) (s.given - 0) in
    fewer c.piece c.mark (unasked d w) (omega (arith, n, e, f))
  where
    fewer : (piece mark n : ℕ) → n ≤ 1 → min piece (mark - 1) ≤ min piece (mark - n)
    fewer piece mark n h = omega (arith, h)

pub split_fits : (c : CourseConfig) (d : Direction) (s : Start) (now : Original) → HasBody (partial s) now → length now.body ≤ c.piece → c.piece ≤ c.mark
    → nat_lt (first_room c (partial s)) (length now.body) ≡ true → let b = begins c d (partial s) in
    AllFit c d (Behind (first_room c (partial s)) now true) (begun (partial s) [] [] false b.asks b.head)
split_fits c d s now h n z f = (
  (begun_reads x b.asks b.head [] h.has, sub_le (length first) room (body_room c d (begun x [] [] false b.asks b.head)) (omega (arith, size)) (sym b.room)),
  (subst (λ w. CallFits c d w (more now rest)) (sym told_first) (more_fits c d w2 now rest (begun_reads x (Body (take c.buffer_limit first) false ∷ []) (Some o) first h.has) fits), tt),
)
  where
    x : Start
    x = partial s

    b : Begins c d x (by_head c d x)
    b = begins c d x

    room : ℕ
    room = first_room c x

    first : List ℕ
    first = take room now.body

    rest : List ℕ
    rest = drop room now.body

    o : Outgoing
    o = outgoing c d (begun x [] [] false [] None) s.head

    w2 : Course
    w2 = begun x first [] false (Body (take c.buffer_limit first) false ∷ []) (Some o)

    sub_le : (n m k : ℕ) → n ≤ m → m ≡ k → n ≤ k
    sub_le n m k h e = omega (arith, h, e)

    below : room < length now.body
    below = ltb-true room (length now.body) f

    one_more : room ≡ c.buffer_limit + 1
    one_more = omega (arith, below, n)

    size : length first ≡ room
    size = length-take-le room now.body (omega (arith, below))

    limit : length (take c.buffer_limit first) ≡ c.buffer_limit
    limit = length-take-le c.buffer_limit first (omega (arith, size, one_more))

    over : c.buffer_limit < length first
    over = omega (arith, size, one_more)

    told_first : asked c d (committed c d (called (Bytes first) (begun x [] [] false b.asks b.head))) ≡ w2
    told_first = b.same first [] false ∙ first_bytes c d s first h.has over

    fits : length rest ≤ body_room c d w2
    fits =
        let k : min c.piece (c.mark - 1) ≤ body_room c d w2 = rest_room c d s first o limit (size ∙ one_more) in
        let r : length rest ≡ length now.body - room = length-drop room now.body in
        omega (arith, k, r, n, z, one_more)

all_fits : (c : CourseConfig) (d : Direction) (s : Start) (now : Original) → HasBody s now → nat_lt (first_room c s) (length now.body) ≡ false → let b = begins c d s in
    AllFit c d (Behind (first_room c s) now false) (begun s [] [] false b.asks b.head)
all_fits c d s now h f =
    let b = begins c d s in
    let l : length now.body ≤ first_room c s = ltb-false (first_room c s) (length now.body) f in
    calls_fit c d (begun s [] [] false b.asks b.head) now now.body (begun_reads s b.asks b.head [] h.has) (subst (λ n. length now.body ≤ n) (sym b.room) l)

abbrev BehindFits : CourseConfig → Direction → Start → Original → Bool → Type 0
BehindFits c d s now few = let b = begins c d s in AllFit c d (Behind (first_room c s) now few) (begun s [] [] false b.asks b.head)

behind_fits : (c : CourseConfig) (d : Direction) (s : Start) (now : Original) → HeadComes c s now → HasBody s now → (few : Bool) → nat_lt (first_room c s) (length now.body) ≡ few → BehindFits c d s now few
behind_fits c d s now h b false f = all_fits c d s now b f
behind_fits c d s now h b true f = by s.released s.modes.headers s.modes.body h b f
  where
    with_modes : Bool → Bool → BodyMode → Start
    with_modes r h m = record s { released = r; modes = record s.modes { headers = h; body = m } }

    never : {A : Type 0} (n : ℕ) → nat_lt (min c.piece c.mark) n ≡ true → n ≤ c.piece → c.piece ≤ c.mark → A
    never n f h k = absurd (clash (sym f ∙ fits_piece n c.piece c.mark h k))

    by : (r k : Bool) (m : BodyMode) → HeadComes c (with_modes r k m) now → HasBody (with_modes r k m) now → nat_lt (first_room c (with_modes r k m)) (length now.body) ≡ true
        → BehindFits c d (with_modes r k m) now true
    by true k m h b f = never (length now.body) f h.short h.sizes
    by false true m h b f = never (length now.body) f h.short h.sizes
    by false false NoAsk h b f = never (length now.body) f h.short h.sizes
    by false false Streamed h b f = never (length now.body) f h.short h.sizes
    by false false Buffered h b f =
        let n : length now.body ≤ c.buffer_limit = ltb-false c.buffer_limit (length now.body) h.within in
        absurd (clash (sym f ∙ le-ltb (min c.piece (c.buffer_limit + 1)) (length now.body) (omega (arith, n, h.short))))
    by false false Partial h b f = split_fits c d s now b h.short h.sizes f

head_fits : (c : CourseConfig) (d : Direction) (s : Start) (now : Original) → HeadComes c s now
    → AllFit c d (head_of now s.head ∷ body_calls (body_room c d (told c d (head_of now s.head ∷ []) (unbegun s))) now) (unbegun s)
head_fits c d s now h = (refl, by (is_bodiless s.length) refl)
  where
    w1 : Course
    w1 = told c d (head_of now s.head ∷ []) (unbegun s)

    none : (calls : List HalfCall) (b : Bool) → b ≡ true → AllFit c d (if b then [] else calls) w1
    none calls true e = tt
    none calls false e = absurd cc

    by : (b : Bool) → is_bodiless s.length ≡ b → AllFit c d (body_calls (body_room c d w1) now) w1
    by true e = none _ (is_bodiless now.length) (ap is_bodiless h.framed ∙ e)
    by false e =
        let k : HasBody s now = record { length = h.framed; has = e; bare = h.bare } in
        let b = begins c d s in
        let few : Bool = nat_lt (first_room c s) (length now.body) in
        subst (λ room. AllFit c d (body_calls room now) w1) (sym (room_after c d s now k))
        (subst (λ calls. AllFit c d calls w1) (sym (calls_are (first_room c s) now few (ap is_bodiless h.framed ∙ e) refl))
        (subst (AllFit c d (Behind (first_room c s) now few)) (sym (after_head c d s now k ∙ b.is)) (behind_fits c d s now h k few refl)))

-- In every case

first_fits : (c : CourseConfig) (d : Direction) (w : Course) (now : Original) (h : List Field) → Comes c d w now → w.original.head ≡ None → now.head ≡ Some h → AllFit c d (news_at c d (known w) now None (Some h)) (known w)
first_fits c d w now h y n m =
    let b : Bare w = bare_of c w y.sound n in
    let s : Start = start_of h now.length w in
    let x = y.before.unread n in
    subst (λ z. AllFit c d (news_at c d z now None (Some h)) z) (sym (unread_is w h now.length x.0 b x.1))
    (head_fits c d s now (record {
      framed = refl;
      bodiless = λ e. y.after.bodiless h m e;
      bare = y.after.bare;
      short = y.short n;
      sizes = y.sizes;
      within = ap (is_over c) (sym (begun_is w h now b m)) ∙ y.within n;
    }))

later_fits : (c : CourseConfig) (d : Direction) (w : Course) (now : Original) (h : List Field) (o : Option (List Field)) → Comes c d w now → w.original.head ≡ Some h
    → length now.body - length w.original.body ≤ body_room c d w → AllFit c d (news_at c d (known w) now (Some h) o) (known w)
unfolding body_room
later_fits c d w now h o y m l = by w.original.whole refl
  where
    has_body : (b : Bool) → is_bodiless w.original.length ≡ b → w.original.whole ≡ false → is_bodiless w.original.length ≡ false
    has_body false e u = e
    has_body true e u = absurd (clash (sym (y.before.bodiless h m e).2 ∙ u))

    by : (b : Bool) → w.original.whole ≡ b → AllFit c d (if b then [] else more_calls now (drop (length w.original.body) now.body)) (known w)
    by true u = tt
    by false u =
        let e : length (drop (length w.original.body) now.body) ≡ length now.body - length w.original.body = length-drop (length w.original.body) now.body in
        calls_fit c d (known w) now (drop (length w.original.body) now.body)
        (record { read = ap is_some m; has_body = has_body (is_bodiless w.original.length) refl u; unfinished = u }) (subst (λ n. n ≤ body_room c d w) (sym e) l)

pub news_fit : (c : CourseConfig) (d : Direction) (w : Course) (now : Original) → Comes c d w now
    → (is_some w.original.head ≡ true → length now.body - length w.original.body ≤ body_room c d w) → AllFit c d (news c d (known w) now) (known w)
news_fit c d w now y l = by w.original.head now.head refl refl
  where
    by : (o n : Option (List Field)) → w.original.head ≡ o → now.head ≡ n → AllFit c d (news_at c d (known w) now o n) (known w)
    by None None m i = tt
    by None (Some h) m i = first_fits c d w now h y m i
    by (Some h) n m i = later_fits c d w now h n y m (l (ap is_some m))
