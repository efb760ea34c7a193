-- A half that was told says whether its body is past its limit as the account does.
use Rattle.std.proofs.Common.{sym, ◌∙◌, ap, refl, arith, length-append}
use Rattle.std.proofs.lemmas.List.{length-drop, take-append-drop}
use Rattle.std.specs.Prelude.{ℕ, ◌≡◌, ◌≤◌, Bool, true, false, not, ◌&&◌, List, [], ◌∷◌, ◌++◌, length, drop, take, find, zip, Option, Some, None, if◌then◌else◌, nat_lt, option_map}
use Rattle.ext_msgs.specs.declared.answer.Answer.{Answer as Answering}
use Rattle.ext_msgs.specs.declared.answer.Common.{Common}
use Rattle.ext_msgs.specs.declared.lists.Field.{Field}
use Rattle.ext_msgs.specs.declared.modes.PartModes.{PartModes}
use Rattle.http_model.specs.Bytes.{is_empty}
use Rattle.http_model.specs.Heads.{is_bodiless}
use Rattle.http_model.specs.Reads.{Original}
use Rattle.http_model.specs.declared.types.Direction.{Direction}
use Rattle.http_model.specs.declared.types.Direction.TheVariants.{Request, Response}
use Rattle.filter_model.specs.Config.{CourseConfig, FilterConfig}
use Rattle.filter_model.specs.Course.{AskedPart, Course, asked, committed, is_headers, is_over, one_asked, out}
use Rattle.filter_model.specs.Account.{ExchangeAccount, counted_course, course, flow, front, gathered}
use Rattle.filter_model.specs.Answers.{answered, answered_by, override_of, part_answered}
use Rattle.filter_model.specs.Cut.{PartAnswer, kind_of, part_cut}
use Rattle.filter_model.specs.Half.{Bytes, End, HalfCall, called}
use Rattle.filter_model.specs.Right.{Call, Stepped, IsHistory, account}
use Rattle.filter_model.specs.Step.{is_live}
use Rattle.filter_model.specs.Told.{IsOfSides, body_calls, head_of, known, more, more_calls, news, news_at, told}
use Rattle.filter_model.specs.ToldMore.{Arrives, IsAnswerTo, across, other_calls, own_calls}
use Rattle.filter_model.specs.View.{ViewEntry, Answered}
use Rattle.filter_model.proofs.AnswerTold.{Ends, Joined, early_in, headers_answered, other_in, own_in, unreleased_in}
use Rattle.filter_model.proofs.AtRest.{Steady, steady}
use Rattle.filter_model.proofs.CourseGrows.{zip_none}
use Rattle.filter_model.proofs.EntryFits.{is_short}
use Rattle.filter_model.proofs.NeverOver.{asked_over, over_at, over_told}
use Rattle.filter_model.proofs.StepGrows.{Answers, answers_one}
use Rattle.filter_model.proofs.ToldEntry.{arrives_on, comes_of, course_is, few_given, reads_alone, rested, sound_in}
use Rattle.filter_model.proofs.ToldHead.{unbegun}
use Rattle.filter_model.proofs.ToldReading.{Bare, bare_of, begun_is, start_of, told_reading, unread_is}
use Rattle.filter_model.proofs.ToldSame.{Start, begun}

-- What its side brings: the head's entry

unanswered_over : (c : CourseConfig) (w : Course) → w.answers ≡ [] → is_over c w ≡ over_at c w None
unanswered_over c w e =
    ap (λ l. over_at c w (option_map (λ (q : AskedPart × Common). q.1) (find (λ (q : AskedPart × Common). is_headers q.0) l)))
    (ap (λ l. zip w.asks l) e ∙ zip_none w.asks)

pub call_over : (c : CourseConfig) (d : Direction) (w : Course) → w.answers ≡ [] → is_over c (asked c d (committed c d w)) ≡ over_at c w None
call_over c d w e = let n : length w.answers ≡ 0 = ap length e in over_told c d w (omega (arith, n)) ∙ unanswered_over c w e

head_over : (c : CourseConfig) (d : Direction) (s : Start) (now : Original) → now.body ≡ []
    → is_over c (told c d (head_of now s.head ∷ []) (unbegun s)) ≡ is_over c (begun s now.body now.trailers now.whole [] None)
head_over c d s now e = call_over c d (called (head_of now s.head) (unbegun s)) refl ∙ ap (λ l. is_over c (begun s l now.trailers now.whole [] None)) (sym e)

one_over : (c : CourseConfig) (d : Direction) (s : Start) (now : Original) (bytes : List ℕ)
    → is_over c (told c d (head_of now s.head ∷ more now bytes ∷ []) (unbegun s)) ≡ is_over c (begun s bytes now.trailers now.whole [] None)
unfolding asked one_asked committed
one_over c d s now bytes = by now.whole
  where
    z : Course
    z = asked c d (committed c d (called (head_of now s.head) (unbegun s)))

    by : (b : Bool) → is_over c (asked c d (committed c d (called (if b then End bytes now.trailers else Bytes bytes) z))) ≡ is_over c (begun s bytes now.trailers now.whole [] None)
    by true = call_over c d (called (End bytes now.trailers) z) refl
    by false = call_over c d (called (Bytes bytes) z) refl

pub two_over : (c : CourseConfig) (d : Direction) (s : Start) (now : Original) (first rest : List ℕ)
    → is_over c (told c d (head_of now s.head ∷ Bytes first ∷ more now rest ∷ []) (unbegun s)) ≡ is_over c (begun s (first ++ rest) now.trailers now.whole [] None)
unfolding asked one_asked committed
two_over c d s now first rest = by now.whole
  where
    z : Course
    z = asked c d (committed c d (called (Bytes first) (asked c d (committed c d (called (head_of now s.head) (unbegun s))))))

    by : (b : Bool) → is_over c (asked c d (committed c d (called (if b then End rest now.trailers else Bytes rest) z))) ≡ is_over c (begun s (first ++ rest) now.trailers now.whole [] None)
    by true = call_over c d (called (End rest now.trailers) z) refl
    by false = call_over c d (called (Bytes rest) z) refl

abbrev Same : CourseConfig → Direction → Start → Original → List HalfCall → Type 0
Same c d s now calls = is_over c (told c d (head_of now s.head ∷ calls) (unbegun s)) ≡ is_over c (begun s now.body now.trailers now.whole [] None)

behind_over : (c : CourseConfig) (d : Direction) (s : Start) (now : Original) → (w : Bool) (l : List ℕ) → now.body ≡ l → Same c d s now (if not w && is_empty l then [] else more now now.body ∷ [])
behind_over c d s now true l e = one_over c d s now now.body
behind_over c d s now false (x ∷ l) e = one_over c d s now now.body
behind_over c d s now false [] e = head_over c d s now e

first_over : (c : CourseConfig) (d : Direction) (s : Start) (now : Original) (room : ℕ) → (is_bodiless now.length ≡ true → now.body ≡ []) → Same c d s now (body_calls room now)
first_over c d s now room k = by (is_bodiless now.length) (nat_lt room (length now.body)) refl
  where
    by : (b few : Bool) → is_bodiless now.length ≡ b
        → Same c d s now (if b then [] else if few then Bytes (take room now.body) ∷ more now (drop room now.body) ∷ [] else more_calls now now.body)
    by true few e = head_over c d s now (k e)
    by false true e =
        two_over c d s now (take room now.body) (drop room now.body) ∙ ap (λ l. is_over c (begun s l now.trailers now.whole [] None)) (take-append-drop room now.body)
    by false false e = behind_over c d s now now.whole now.body refl

-- In every case

unread_over : (c : CourseConfig) (w : Course) (o : Original) → o.head ≡ None → is_over c (record w { original = o }) ≡ false
unread_over c w o e = ap (λ h. is_over c (record w { original = record o { head = h } })) e

pub news_over : (c : CourseConfig) (d : Direction) (w : Course) (now : Original) → Arrives c d w now → is_over c (told c d (news c d (known w) now) (known w)) ≡ is_over c (record w { original = now })
news_over c d w now y = by w.original.head now.head refl refl
  where
    read : (w.original.head ≡ None → is_over c (record w { original = now }) ≡ false) → is_over c (told c d (news c d (known w) now) (known w)) ≡ is_over c (record w { original = now })
    read k = ap (is_over c) (told_reading c d w now (comes_of c d w now y k)) ∙ over_told c d (record w { original = now }) y.sound.counts

    head : (h : List Field) → w.original.head ≡ None → now.head ≡ Some h
        → is_over c (told c d (news_at c d (known w) now None (Some h)) (known w)) ≡ is_over c (record w { original = now })
    head h m i =
        let b : Bare w = bare_of c w y.sound m in
        let s : Start = start_of h now.length w in
        let x = y.before.unread m in
        ap (λ z. is_over c (told c d (news_at c d z now None (Some h)) z)) (unread_is w h now.length x.0 b x.1)
        ∙ first_over c d s now _ (λ e. (y.after.bodiless h i e).0)
        ∙ ap (is_over c) (sym (begun_is w h now b i))

    none : (h : List Field) → Some h ≡ None → ⊥
    none h e = cc

    by : (o n : Option (List Field)) → w.original.head ≡ o → now.head ≡ n → is_over c (told c d (news_at c d (known w) now w.original.head now.head) (known w)) ≡ is_over c (record w { original = now })
    by None (Some h) m i =
        ap (λ o. is_over c (told c d (news_at c d (known w) now o now.head) (known w))) m
        ∙ ap (λ n. is_over c (told c d (news_at c d (known w) now None n) (known w))) i ∙ head h m i
    by None None m i = read (λ n. unread_over c w now i)
    by (Some h) n m i = read (λ n. absurd (none h (sym m ∙ n)))

pub entry_over : (c : FilterConfig) (h : List Call) (e : ViewEntry) → IsHistory c (Stepped e ∷ h) → IsOfSides e → is_live (account c h).fate ≡ true → c.course.piece ≤ c.course.mark → (d : Direction)
    → is_over c.course (told c.course d (news c.course d (known (course d (account c h))) (course d (gathered e (account c h))).original) (known (course d (account c h))))
    ≡ is_over c.course (course d (gathered e (account c h)))
entry_over c h e y s l z d =
    let a : ExchangeAccount = account c h in
    news_over c.course d (course d a) (course d (gathered e a)).original (arrives_on c h e y s l z d (is_short c h e y s d))
    ∙ ap (is_over c.course) (sym (reads_alone d e a s).0)

-- Answers

ends_over : (c : FilterConfig) (d : Direction) (y : ExchangeAccount) → length (course d y).answers ≤ length (course d y).asks → is_over c.course (known (course d (Ends c y))) ≡ is_over c.course (course d y)
unfolding committed
ends_over c d y n =
    ap (is_over c.course) (course_is c d y) ∙ asked_over c.course d (counted_course d (front d y) (flow d y).given (committed c.course d (course d y))) n

one_more : (w : Course) (a : Common) (q : AskedPart) (rest : List AskedPart) → out w ≡ q ∷ rest → length (w.answers ++ a ∷ []) ≤ length w.asks
one_more w a q rest e =
    let n : length (drop (length w.answers) w.asks) ≡ length (q ∷ rest) = ap length e in
    omega (arith, n, length-drop (length w.answers) w.asks, length-append w.answers (a ∷ []))

own_counts : (d : Direction) (c : FilterConfig) (p : PartAnswer) (m : Option (PartModes × PartModes)) (a : ExchangeAccount) → length ((course d a).answers ++ p.common ∷ []) ≤ length (course d a).asks
    → length (course d (Joined c d p m a)).answers ≤ length (course d (Joined c d p m a)).asks
own_counts Request c p m a n = n
own_counts Response c p m a n = n

other_counts : (d : Direction) (c : FilterConfig) (p : PartAnswer) (m : Option (PartModes × PartModes)) (a : ExchangeAccount) → length (course (across d) a).answers ≤ length (course (across d) a).asks
    → length (course (across d) (Joined c d p m a)).answers ≤ length (course (across d) (Joined c d p m a)).asks
other_counts Request c p m a n = n
other_counts Response c p m a n = n

joined_is : (c : FilterConfig) (x : Answering) (p : PartAnswer) (a : ExchangeAccount) → IsAnswerTo c x p a → answered c (Answered (Some x)) a ≡ Joined c p.direction p (override_of c p.kind x.modes) a
unfolding answered
joined_is c x p a k = ap (answered_by c x a) k.untimed ∙ ap (part_answered c x.modes a) k.part

pub own_over : (c : FilterConfig) (h : List Call) (x : Answering) (p : PartAnswer) → IsHistory c h → is_live (account c h).fate ≡ true → IsAnswerTo c x p (account c h) → part_cut c (account c h) p ≡ None
    → is_over c.course (told c.course p.direction (own_calls p.direction (override_of c p.kind x.modes) p.common) (known (course p.direction (account c h))))
    ≡ is_over c.course (course p.direction (answered c (Answered (Some x)) (account c h)))
unfolding Answers
own_over c h x p y l k n =
    let a : ExchangeAccount = account c h in
    let s : Steady c a = steady c h y in
    let d : Direction = p.direction in
    let m : Option (PartModes × PartModes) = override_of c p.kind x.modes in
    let q : Answers (kind_of p.kind) (out (course d a)) = answers_one (kind_of p.kind) _ (out (course d a)) _ n in
    ap (is_over c.course) (sym (own_in d c p m a (sound_in d c a s.along.held) (rested d c a s l) (few_given c h y l d) (unreleased_in d c a s.along.held k.unreleased) (headers_answered c p x.modes a n)))
    ∙ ends_over c d (Joined c d p m a) (own_counts d c p m a (one_more (course d a) p.common q.0 q.1 q.2))
    ∙ ap (λ z. is_over c.course (course d z)) (sym (joined_is c x p a k))

pub other_over : (c : FilterConfig) (h : List Call) (x : Answering) (p : PartAnswer) → IsHistory c h → is_live (account c h).fate ≡ true → IsAnswerTo c x p (account c h) → part_cut c (account c h) p ≡ None
    → is_over c.course (told c.course (across p.direction) (other_calls p.direction (override_of c p.kind x.modes)) (known (course (across p.direction) (account c h))))
    ≡ is_over c.course (course (across p.direction) (answered c (Answered (Some x)) (account c h)))
other_over c h x p y l k n =
    let a : ExchangeAccount = account c h in
    let s : Steady c a = steady c h y in
    let d : Direction = across p.direction in
    let m : Option (PartModes × PartModes) = override_of c p.kind x.modes in
    ap (is_over c.course) (sym (other_in p.direction c p m a (rested d c a s l) (few_given c h y l d)
    (λ e i. early_in p.direction c a s.along.held k.unreleased e (headers_answered c p x.modes a n i))))
    ∙ ends_over c d (Joined c p.direction p m a) (other_counts p.direction c p m a (sound_in d c a s.along.held).counts)
    ∙ ap (λ z. is_over c.course (course d z)) (sym (joined_is c x p a k))
