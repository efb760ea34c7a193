-- What a half is told of its reader's news: the head where it came, and what is behind it.
use Rattle.std.proofs.Common.{refl, sym, ◌∙◌, ap, subst, arith, le-ltb}
use Rattle.std.proofs.Math.Seq.{drop-nil}
use Rattle.std.proofs.lemmas.List.{length-drop}
use Rattle.std.specs.Prelude.{ℕ, ◌≡◌, ◌-◌, ◌≤◌, Bool, true, false, ◌&&◌, List, [], ◌∷◌, ◌++◌, Option, Some, None, length, take, drop, if◌then◌else◌, is_some, nat_lt}
use Rattle.std.specs.Option.{option_map}
use Rattle.ext_msgs.specs.declared.lists.Field.{Field}
use Rattle.http_model.specs.Heads.{is_bodiless}
use Rattle.http_model.specs.Reads.{Original}
use Rattle.http_model.specs.declared.types.Direction.{Direction}
use Rattle.filter_model.specs.Config.{CourseConfig}
use Rattle.filter_model.specs.Course.{Course, asked, body_room, committed, is_buffered, is_over, is_settled, mode, one_asked}
use Rattle.filter_model.specs.Half.{Bytes, Head, HalfCall, course}
use Rattle.filter_model.specs.Told.{known, more, more_calls, news, news_at, told}
use Rattle.filter_model.specs.ToldMore.{FitUntilOver}
use Rattle.filter_model.proofs.FitUntil.{fit_until}
use Rattle.h1_read.specs.declared.message.Message.{Message}
use Rattle.h1_message.specs.Source.{original}
use Rattle.h1_message.specs.declared.news.News.{News}
use Rattle.exchange.specs.Flows.{Story, with_call}
use Rattle.exchange.specs.Reading.{FitsBehindHead, HasHeard, HasLearnt, HeadFits, MayLearn, calls_behind, ends_with, head_calls, piece_calls, rest_calls, with_calls}
use Rattle.exchange.proofs.Telling.{course_told, more_heard}

-- the message of the news
no_message : (x : Option Message) → option_map (λ (m : Message). m.head) x ≡ None → x ≡ None
no_message None e = refl
no_message (Some m) e = absurd cc

message : (x : Option Message) (h : List Field) → option_map (λ (m : Message). m.head) x ≡ Some h → (m : Message) × (x ≡ Some m) × (m.head ≡ h)
message None h e = absurd cc
message (Some m) h e = (m, refl, cc)

-- The calls, by what stands before them

-- by whether all is there already, and the room
abbrev behind : Bool → ℕ → Bool → List Field → List ℕ → List HalfCall
behind done room w t bytes = if done then [] else piece_calls room w t bytes

behind_same : (s : Story) (done : Bool) (room : ℕ) (n : News) (w : Bool) (t : List Field) (bytes : List ℕ) → (course s.past).original.whole ≡ done → body_room s.past.config s.past.direction (course s.past) ≡ room
    → n.whole ≡ w → n.trailers ≡ t → n.body ≡ bytes → calls_behind s n.whole n.trailers n.body ≡ behind done room w t bytes
behind_same s done room n w t bytes e f g h i =
    ap (λ x. behind x (body_room s.past.config s.past.direction (course s.past)) n.whole n.trailers n.body) e
    ∙ ap (λ x. behind done x n.whole n.trailers n.body) f
    ∙ ap (λ x. behind done room x n.trailers n.body) g
    ∙ ap (λ x. behind done room w x n.body) h
    ∙ ap (λ x. behind done room w t x) i

one_piece : (room : ℕ) (w : Bool) (t : List Field) (bytes : List ℕ) → length bytes ≤ room → piece_calls room w t bytes ≡ rest_calls w t bytes
one_piece room w t bytes l = by (nat_lt room (length bytes)) (le-ltb room (length bytes) l)
  where
    by : (b : Bool) → b ≡ false → (if b then Bytes (take room bytes) ∷ more (ends_with w t) (drop room bytes) ∷ [] else rest_calls w t bytes) ≡ rest_calls w t bytes
    by false e = refl
    by true e = absurd cc

-- The news, before and behind the head

abbrev Splits : Story → News → Course → Type 0
Splits s n b =
    let c : CourseConfig = s.past.config in
    let d : Direction = s.past.direction in
    news c d (known b) (original s.source) ≡ head_calls n.head ++ calls_behind (with_calls (head_calls n.head) s) n.whole n.trailers n.body

abbrev SplitsAt : Story → News → Course → Option Message → Option (List Field) → Option (List Field) → Type 0
SplitsAt s n b x p q =
    news_at s.past.config s.past.direction (known b) (original s.source) p q ≡ head_calls x ++ calls_behind (with_calls (head_calls x) s) n.whole n.trailers n.body

-- behind its head
later : (s : Story) (n : News) (y : MayLearn s n) (h : List Field) (q : Option (List Field)) → y.before.original.head ≡ Some h → SplitsAt s n y.before None (Some h) q
unfolding body_room
later s n y h q m = by y.before.original.whole refl
  where
    c : CourseConfig
    c = s.past.config

    d : Direction
    d = s.past.direction

    b : Course
    b = y.before

    now : Original
    now = original s.source

    by : (x : Bool) → b.original.whole ≡ x → (if x then [] else more_calls now (drop (length b.original.body) now.body)) ≡ calls_behind s n.whole n.trailers n.body
    by true e =
        sym (ap (λ v. behind v (body_room c d (course s.past)) n.whole n.trailers n.body) (ap (λ w. w.original.whole) y.told ∙ e))
    by false e =
        sym (behind_same s false (body_room c d b) n now.whole now.trailers n.body (ap (λ w. w.original.whole) y.told ∙ e) (ap (body_room c d) y.told)
        y.is_news.whole (y.is_news.trailers e) refl
        ∙ one_piece (body_room c d b) now.whole now.trailers n.body (y.fits (ap is_some m))
        ∙ ap (rest_calls now.whole now.trailers) y.is_news.body)

-- nothing was read
nothing : (s : Story) (n : News) (y : MayLearn s n) → y.before.original.head ≡ None → (original s.source).head ≡ None → SplitsAt s n y.before None None None
nothing s n y m k =
    let c : CourseConfig = s.past.config in
    let d : Direction = s.past.direction in
    let o = y.arrives.before.unread m in
    let i = y.arrives.after.unread k in
    let whole : n.whole ≡ false = y.is_news.whole ∙ ap (λ x. x.whole) i.1 in
    let body : n.body ≡ [] = y.is_news.body ∙ ap (λ x. drop (length y.before.original.body) x.body) i.1 ∙ drop-nil (length y.before.original.body) in
    sym (behind_same s false (body_room c d (course s.past)) n false n.trailers [] (ap (λ w. w.original.whole) y.told ∙ ap (λ x. x.whole) o.1) refl whole refl body
    ∙ one_piece (body_room c d (course s.past)) false n.trailers [] (omega arith))

-- the head came
first : (s : Story) (n : News) (y : MayLearn s n) (h : List Field) (m : Message) → y.before.original.head ≡ None → m.head ≡ h → n.head ≡ Some m → SplitsAt s n y.before (Some m) None (Some h)
unfolding asked one_asked committed
first s n y h m e f g =
    let c : CourseConfig = s.past.config in
    let d : Direction = s.past.direction in
    let b : Course = y.before in
    let now : Original = original s.source in
    let o = y.arrives.before.unread e in
    let framed : m.length ≡ now.length = (y.is_news.stated m g).0 in
    let call : Head m.head m.length ≡ Head h now.length = ap (λ x. Head x m.length) f ∙ ap (Head h) framed in
    let came : course (with_call (Head m.head m.length) s).past ≡ told c d (Head h now.length ∷ []) (known b) =
    course_told s (Head m.head m.length) ∙ ap (λ x. told c d (x ∷ []) (course s.past)) call ∙ ap (told c d (Head h now.length ∷ [])) y.told in
    let room : ℕ = body_room c d (told c d (Head h now.length ∷ []) (known b)) in
    let body : n.body ≡ now.body = y.is_news.body ∙ ap (λ x. drop (length x.body) now.body) o.1 in
    sym (ap (λ l. Head m.head m.length ∷ l)
    (behind_same (with_call (Head m.head m.length) s) (is_bodiless now.length) room n now.whole now.trailers now.body (ap (λ w. w.original.whole) came) (ap (body_room c d) came)
    y.is_news.whole (y.is_news.trailers (ap (λ x. x.whole) o.1)) body)
    ∙ ap (λ x. x ∷ behind (is_bodiless now.length) room now.whole now.trailers now.body) call)

news_split : (s : Story) (n : News) (y : MayLearn s n) → Splits s n y.before
news_split s n y = by y.before.original.head (original s.source).head refl refl
  where
    by : (p q : Option (List Field)) → y.before.original.head ≡ p → (original s.source).head ≡ q → SplitsAt s n y.before n.head p q
    by (Some h) q e k = subst (λ x. SplitsAt s n y.before x (Some h) q) (sym (y.is_news.once (ap is_some e))) (later s n y h q e)
    by None None e k = subst (λ x. SplitsAt s n y.before x None None) (sym (no_message n.head (y.is_news.head e ∙ k))) (nothing s n y e k)
    by None (Some h) e k =
        let m = message n.head h (y.is_news.head e ∙ k) in
        subst (λ x. SplitsAt s n y.before x None (Some h)) (sym m.1) (first s n y h m.0 e m.2 m.1)

pub head_fits : (s : Story) (n : News) → MayLearn s n → HeadFits n.head s
head_fits s n y = by n.head refl
  where
    unread_yet : (o : Option (List Field)) → (y.before.original.head ≡ o) → (m : Message) → n.head ≡ Some m → (course s.past).original.head ≡ None
    unread_yet None e m k = ap (λ w. w.original.head) y.told ∙ e
    unread_yet (Some h) e m k = absurd (none m (sym (y.is_news.once (ap is_some e)) ∙ k))
      where
        none : (m : Message) → None ≡ Some m → ⊥
        none m e = cc

    by : (x : Option Message) → n.head ≡ x → HeadFits x s
    by None k = tt
    by (Some m) k = unread_yet y.before.original.head refl m k

-- all that comes fits until the body is past its limit
fits : (s : Story) (n : News) (y : MayLearn s n) → FitUntilOver s.past.config s.past.direction (head_calls n.head ++ calls_behind (with_calls (head_calls n.head) s) n.whole n.trailers n.body) (course s.past)
fits s n y =
    let c : CourseConfig = s.past.config in
    let d : Direction = s.past.direction in
    subst (λ l. FitUntilOver c d l (course s.past)) (news_split s n y)
    (subst (λ w. FitUntilOver c d (news c d (known y.before) (original s.source)) w) (sym y.told)
    (fit_until c d y.before (original s.source) y.arrives (λ e. grown e)))
  where
    grown : is_some y.before.original.head ≡ true → length (original s.source).body - length y.before.original.body ≤ body_room s.past.config s.past.direction y.before
    grown e =
        let k = y.fits e in
        let i : length n.body ≡ length (drop (length y.before.original.body) (original s.source).body) = ap length y.is_news.body in
        omega (arith, k, i, length-drop (length y.before.original.body) (original s.source).body)

-- a head alone takes no body past its limit
short : (x y : Bool) (n : ℕ) → (x && y && nat_lt n 0) ≡ false
short x y n = by x y (nat_lt n 0) (le-ltb n 0 (omega arith))
  where
    by : (x y z : Bool) → z ≡ false → (x && y && z) ≡ false
    by true true z e = e
    by true false z e = refl
    by false y z e = refl

pub body_fits : (s : Story) (n : News) → MayLearn s n → FitsBehindHead (with_calls (head_calls n.head) s) n.whole n.trailers n.body
unfolding asked one_asked committed
body_fits s n y = by n.head refl (fits s n y)
  where
    c : CourseConfig
    c = s.past.config

    d : Direction
    d = s.past.direction

    none_read : (m : Message) → n.head ≡ Some m → (course s.past).original.body ≡ []
    none_read m k =
        let h : HeadFits n.head s = head_fits s n y in
        let e : y.before.original.head ≡ None = sym (ap (λ w. w.original.head) y.told) ∙ subst (λ x. HeadFits x s) k h in
        ap (λ w. w.original.body) y.told ∙ ap (λ x. x.body) (y.arrives.before.unread e).1

    by : (x : Option Message) → n.head ≡ x → FitUntilOver c d (head_calls x ++ calls_behind (with_calls (head_calls x) s) n.whole n.trailers n.body) (course s.past)
        → FitsBehindHead (with_calls (head_calls x) s) n.whole n.trailers n.body
    by None k f = f
    by (Some m) k f =
        let w1 : Course = told c d (Head m.head m.length ∷ []) (course s.past) in
        let within : is_over c w1 ≡ false = ap (λ l. is_over c (record w1 { original = record w1.original { body = l } })) (none_read m k) ∙ short (is_settled w1) (is_buffered (mode w1)) c.buffer_limit in
        subst (λ w. FitUntilOver c d (calls_behind (with_call (Head m.head m.length) s) n.whole n.trailers n.body) w) (sym (course_told s (Head m.head m.length))) (f.2 within)

pub has_learnt : (s s' : Story) (n : News) → MayLearn s n → HasHeard (calls_behind (with_calls (head_calls n.head) s) n.whole n.trailers n.body) (with_calls (head_calls n.head) s) s'
    → HasLearnt s (original s.source) s'
has_learnt s s' n y h =
    subst (λ l. HasHeard l s s') (sym (ap (λ w. news s.past.config s.past.direction w (original s.source)) y.told ∙ news_split s n y)) (by n.head h)
  where
    by : (x : Option Message) → HasHeard (calls_behind (with_calls (head_calls x) s) n.whole n.trailers n.body) (with_calls (head_calls x) s) s'
        → HasHeard (head_calls x ++ calls_behind (with_calls (head_calls x) s) n.whole n.trailers n.body) s s'
    by None f = f
    by (Some m) f = more_heard (Head m.head m.length) (calls_behind (with_call (Head m.head m.length) s) n.whole n.trailers n.body) s s' f
