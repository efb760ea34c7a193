-- Calls that tell a half what its side brings fit until its body is past its limit, whether the entry is a cut or not.
use Rattle.std.proofs.Common.{sym, ◌∙◌, ap, subst, refl, arith, le-ltb, lt-ltb, ltb-false, ltb-true, length-append}
use Rattle.std.proofs.lemmas.List.{length-drop, length-take-le}
use Rattle.std.specs.Prelude.{ℕ, ◌≡◌, ◌+◌, ◌-◌, ◌<◌, ◌≤◌, min, Bool, true, false, not, ◌&&◌, ◌||◌, List, [], ◌∷◌, ◌++◌, length, take, drop, Option, Some, None, if◌then◌else◌, is_some, nat_lt}
use Rattle.ext_msgs.specs.declared.lists.Field.{Field}
use Rattle.ext_msgs.specs.declared.modes.BodyMode.{BodyMode}
use Rattle.ext_msgs.specs.declared.modes.BodyMode.TheVariants.{NoAsk, Streamed, Buffered, Partial}
use Rattle.http_model.specs.Bytes.{is_empty}
use Rattle.http_model.specs.Heads.{is_bodiless}
use Rattle.http_model.specs.Reads.{Original}
use Rattle.http_model.specs.declared.types.Direction.{Direction}
use Rattle.filter_model.specs.Config.{CourseConfig, FilterConfig}
use Rattle.filter_model.specs.Course.{Course, asked, body_room, committed, is_buffered, is_over, mode_at}
use Rattle.filter_model.specs.Account.{ExchangeAccount, course, gathered}
use Rattle.filter_model.specs.Half.{Bytes, HalfCall, called}
use Rattle.filter_model.specs.HalfRight.{MayRead}
use Rattle.filter_model.specs.Right.{Call, Stepped, IsHistory, account}
use Rattle.filter_model.specs.Step.{is_live}
use Rattle.filter_model.specs.Told.{IsOfSides, body_calls, head_of, known, more, more_calls, news, news_at, told}
use Rattle.filter_model.specs.ToldMore.{Arrives, CallFits, FitUntilOver}
use Rattle.filter_model.specs.View.{ViewEntry}
use Rattle.filter_model.proofs.AtRest.{steady}
use Rattle.filter_model.proofs.EntryFits.{grown_within, is_short}
use Rattle.filter_model.proofs.GivenRight.{fits}
use Rattle.filter_model.proofs.NewsFit.{Behind, begun_reads, more_fits, split_fits}
use Rattle.filter_model.proofs.OverTold.{call_over, two_over}
use Rattle.filter_model.proofs.ToldEntry.{arrives_on}
use Rattle.filter_model.proofs.ToldHead.{HasBody, after_head, calls_are, fits_piece, partial, room_after, unbegun}
use Rattle.filter_model.proofs.ToldReading.{Bare, bare_of, start_of, unread_is}
use Rattle.filter_model.proofs.ToldSame.{Begins, Start, begins, begun, by_head, first_room}

clash : {A : Type 0} → true ≡ false → A
clash e = cc

one_fits : (c : CourseConfig) (d : Direction) (w : Course) (now : Original) (bytes : List ℕ) → MayRead w → length bytes ≤ body_room c d w → FitUntilOver c d (more_calls now bytes) w
one_fits c d w now bytes m l = by (not now.whole && is_empty bytes)
  where
    by : (b : Bool) → FitUntilOver c d (if b then [] else more now bytes ∷ []) w
    by true = tt
    by false = (more_fits c d w now bytes m l, λ e. e, λ e. tt)

-- Behind a head

over_more : (x y : Bool) (limit : ℕ) (first rest : List ℕ) → (x && y && nat_lt limit (length first)) ≡ true → (x && y && nat_lt limit (length (first ++ rest))) ≡ true
over_more true true limit first rest e =
    let h : limit < length first = ltb-true limit (length first) e in
    lt-ltb limit (length (first ++ rest)) (omega (arith, h, length-append first rest))
over_more true false limit first rest e = absurd cc
over_more false y limit first rest e = absurd cc

-- the first bytes of a longer body

abbrev Second : CourseConfig → Direction → Start → List ℕ → Course
Second c d s first = let b = begins c d s in asked c d (committed c d (called (Bytes first) (begun s [] [] false b.asks b.head)))

second_over : (c : CourseConfig) (d : Direction) (s : Start) (first : List ℕ) → is_over c (Second c d s first) ≡ is_over c (begun s first [] false [] None)
second_over c d s first = let b = begins c d s in call_over c d (begun s first [] false b.asks b.head) refl

both_over : (c : CourseConfig) (d : Direction) (s : Start) (now : Original) (first rest : List ℕ) → HasBody s now
    → is_over c (told c d (more now rest ∷ []) (Second c d s first)) ≡ is_over c (begun s (first ++ rest) now.trailers now.whole [] None)
both_over c d s now first rest h =
    ap (λ z. is_over c (told c d (more now rest ∷ []) (asked c d (committed c d (called (Bytes first) z))))) (sym (after_head c d s now h ∙ (begins c d s).is))
    ∙ two_over c d s now first rest

abbrev Split : CourseConfig → Direction → Start → Original → Type 0
Split c d s now = let b = begins c d s in FitUntilOver c d (Behind (first_room c s) now true) (begun s [] [] false b.asks b.head)

split_until : (c : CourseConfig) (d : Direction) (s : Start) (now : Original) → HasBody s now → first_room c s < length now.body
    → (is_over c (Second c d s (take (first_room c s) now.body)) ≡ false → CallFits c d (Second c d s (take (first_room c s) now.body)) (more now (drop (first_room c s) now.body)))
    → Split c d s now
split_until c d s now h below k = (
  (begun_reads s b.asks b.head [] h.has, sub_le (length first) room (body_room c d (begun s [] [] false b.asks b.head)) (omega (arith, size)) (sym b.room)),
  λ e. both_over c d s now first rest h ∙ over_more (s.released || not s.modes.headers || false) (is_buffered (mode_at s.released None s.modes.body)) c.buffer_limit first rest (sym (second_over c d s first) ∙ e),
  λ e. (k e, λ f. f, λ f. tt),
)
  where
    b : Begins c d s (by_head c d s)
    b = begins c d s

    room : ℕ
    room = first_room c s

    first : List ℕ
    first = take room now.body

    rest : List ℕ
    rest = drop room now.body

    size : length first ≡ room
    size = length-take-le room now.body (omega (arith, below))

    sub_le : (n m k : ℕ) → n ≤ m → m ≡ k → n ≤ k
    sub_le n m k h e = omega (arith, h, e)

behind_until : (c : CourseConfig) (d : Direction) (s : Start) (now : Original) → HasBody s now → length now.body ≤ c.piece → c.piece ≤ c.mark → (few : Bool) → nat_lt (first_room c s) (length now.body) ≡ few
    → let b = begins c d s in FitUntilOver c d (Behind (first_room c s) now few) (begun s [] [] false b.asks b.head)
behind_until c d s now h n z false f =
    let b = begins c d s in
    let l : length now.body ≤ first_room c s = ltb-false (first_room c s) (length now.body) f in
    one_fits c d (begun s [] [] false b.asks b.head) now now.body (begun_reads s b.asks b.head [] h.has) (subst (λ m. length now.body ≤ m) (sym b.room) l)
behind_until c d s now h n z true f = by s.released s.modes.headers s.modes.body h f
  where
    with_modes : Bool → Bool → BodyMode → Start
    with_modes r h m = record s { released = r; modes = record s.modes { headers = h; body = m } }

    never : {A : Type 0} → nat_lt (min c.piece c.mark) (length now.body) ≡ true → A
    never f = clash (sym f ∙ fits_piece (length now.body) c.piece c.mark n z)

    buffered : HasBody (with_modes false false Buffered) now → nat_lt (min c.piece (c.buffer_limit + 1)) (length now.body) ≡ true → Split c d (with_modes false false Buffered) now
    buffered h f =
        let x : Start = with_modes false false Buffered in
        let room : ℕ = min c.piece (c.buffer_limit + 1) in
        let below : room < length now.body = ltb-true room (length now.body) f in
        let size : length (take room now.body) ≡ room = length-take-le room now.body (omega (arith, below)) in
        let over : is_over c (Second c d x (take room now.body)) ≡ true =
        second_over c d x (take room now.body) ∙ lt-ltb c.buffer_limit (length (take room now.body)) (omega (arith, size, below, n)) in
        split_until c d x now h below (λ e. clash (sym over ∙ e))

    by : (r k : Bool) (m : BodyMode) → HasBody (with_modes r k m) now → nat_lt (first_room c (with_modes r k m)) (length now.body) ≡ true → Split c d (with_modes r k m) now
    by true k m h f = never f
    by false true m h f = never f
    by false false NoAsk h f = never f
    by false false Streamed h f = never f
    by false false Buffered h f = buffered h f
    by false false Partial h f = split_until c d (partial s) now h (ltb-true (first_room c (partial s)) (length now.body) f) (λ e. (split_fits c d s now h n z f).1.0)

none_past : (x y : Bool) (limit : ℕ) → (x && y && nat_lt limit 0) ≡ false
none_past true true limit = le-ltb limit 0 (omega arith)
none_past true false limit = refl
none_past false y limit = refl

head_until : (c : CourseConfig) (d : Direction) (s : Start) (now : Original) → now.length ≡ s.length → (now.whole ≡ false → now.trailers ≡ []) → length now.body ≤ c.piece → c.piece ≤ c.mark
    → FitUntilOver c d (head_of now s.head ∷ body_calls (body_room c d (told c d (head_of now s.head ∷ []) (unbegun s))) now) (unbegun s)
head_until c d s now l t n z = (refl, λ e. clash (sym e ∙ within), λ e. by (is_bodiless s.length) refl)
  where
    w1 : Course
    w1 = told c d (head_of now s.head ∷ []) (unbegun s)

    within : is_over c w1 ≡ false
    within =
        call_over c d (called (head_of now s.head) (unbegun s)) refl
        ∙ none_past (s.released || not s.modes.headers || false) (is_buffered (mode_at s.released None s.modes.body)) c.buffer_limit

    none : (calls : List HalfCall) (b : Bool) → b ≡ true → FitUntilOver c d (if b then [] else calls) w1
    none calls true e = tt
    none calls false e = absurd cc

    by : (b : Bool) → is_bodiless s.length ≡ b → FitUntilOver c d (body_calls (body_room c d w1) now) w1
    by true e = none _ (is_bodiless now.length) (ap is_bodiless l ∙ e)
    by false e =
        let k : HasBody s now = record { length = l; has = e; bare = t } in
        let few : Bool = nat_lt (first_room c s) (length now.body) in
        subst (λ room. FitUntilOver c d (body_calls room now) w1) (sym (room_after c d s now k))
        (subst (λ calls. FitUntilOver c d calls w1) (sym (calls_are (first_room c s) now few (ap is_bodiless l ∙ e) refl))
        (subst (FitUntilOver c d (Behind (first_room c s) now few)) (sym (after_head c d s now k ∙ (begins c d s).is)) (behind_until c d s now k n z few refl)))

-- In every case

later_until : (c : CourseConfig) (d : Direction) (w : Course) (now : Original) (h : List Field) (o : Option (List Field)) → Arrives c d w now → w.original.head ≡ Some h
    → length now.body - length w.original.body ≤ body_room c d w → FitUntilOver c d (news_at c d (known w) now (Some h) o) (known w)
unfolding body_room
later_until c d w now h o y m l = by w.original.whole refl
  where
    has_body : (b : Bool) → is_bodiless w.original.length ≡ b → w.original.whole ≡ false → is_bodiless w.original.length ≡ false
    has_body false e u = e
    has_body true e u = clash (sym (y.before.bodiless h m e).2 ∙ u)

    by : (b : Bool) → w.original.whole ≡ b → FitUntilOver c d (if b then [] else more_calls now (drop (length w.original.body) now.body)) (known w)
    by true u = tt
    by false u =
        let e : length (drop (length w.original.body) now.body) ≡ length now.body - length w.original.body = length-drop (length w.original.body) now.body in
        one_fits c d (known w) now (drop (length w.original.body) now.body)
        (record { read = ap is_some m; has_body = has_body (is_bodiless w.original.length) refl u; unfinished = u }) (subst (λ n. n ≤ body_room c d w) (sym e) l)

pub fit_until : (c : CourseConfig) (d : Direction) (w : Course) (now : Original) → Arrives c d w now
    → (is_some w.original.head ≡ true → length now.body - length w.original.body ≤ body_room c d w) → FitUntilOver c d (news c d (known w) now) (known w)
fit_until c d w now y l = by w.original.head now.head refl refl
  where
    first : (h : List Field) → w.original.head ≡ None → now.head ≡ Some h → FitUntilOver c d (news_at c d (known w) now None (Some h)) (known w)
    first h m i =
        let b : Bare w = bare_of c w y.sound m in
        let x = y.before.unread m in
        subst (λ z. FitUntilOver c d (news_at c d z now None (Some h)) z) (sym (unread_is w h now.length x.0 b x.1))
        (head_until c d (start_of h now.length w) now refl y.after.bare (y.short m) y.sizes)

    by : (o n : Option (List Field)) → w.original.head ≡ o → now.head ≡ n → FitUntilOver c d (news_at c d (known w) now o n) (known w)
    by None None m i = tt
    by None (Some h) m i = first h m i
    by (Some h) n m i = later_until c d w now h n y m (l (ap is_some m))

pub entry_until : (c : FilterConfig) (h : List Call) (e : ViewEntry) → IsHistory c (Stepped e ∷ h) → IsOfSides e → is_live (account c h).fate ≡ true → c.course.piece ≤ c.course.mark → (d : Direction)
    → FitUntilOver c.course d (news c.course d (known (course d (account c h))) (course d (gathered e (account c h))).original) (known (course d (account c h)))
entry_until c h e y s l z d =
    let a : ExchangeAccount = account c h in
    fit_until c.course d (course d a) (course d (gathered e a)).original (arrives_on c h e y s l z d (is_short c h e y s d))
    (grown_within c e a d (steady c h y.0).along.read (fits c h e y.1) s)
