-- While an exchange lives no body is past its limit: the entry that brings more of it, or that settles BUFFERED with more, is the cut.
use Rattle.std.proofs.Common.{inl, inr, sym, ◌∙◌, ap, subst, refl, arith, length-append, ltb-true}
use Rattle.std.specs.Prelude.{ℕ, ◌≡◌, ◌⊎◌, ◌<◌, ◌≤◌, Bool, true, false, not, ◌&&◌, ◌||◌, List, [], ◌∷◌, ◌++◌, length, Option, Some, None, if◌then◌else◌, is_some, find, option_map, nat_lt, nat_le}
use Rattle.std.specs.List.{list_any}
use Rattle.ext_msgs.specs.declared.answer.Common.{Common}
use Rattle.ext_msgs.specs.declared.modes.BodyMode.{BodyMode}
use Rattle.http_model.specs.Heads.{is_bodiless}
use Rattle.http_model.specs.Reader.{Extends}
use Rattle.http_model.specs.Reads.{Original}
use Rattle.http_model.specs.Wire.{head_bytes}
use Rattle.http_model.specs.declared.types.Direction.{Direction}
use Rattle.http_model.specs.declared.types.Direction.TheVariants.{Request, Response}
use Rattle.filter_model.specs.Config.{CourseConfig, FilterConfig}
use Rattle.filter_model.specs.Course.{Course, Changed, Outgoing, AskedPart, answer_to, asked, body_done_at, changed, changed_at, committed, due, is_bare, is_body, is_body_done, is_buffered, is_headers, is_over, is_settled, is_stopped, mode, mode_at, new_piece, next_body, one_asked, out, replaces, replacement, replacement_at}
use Rattle.filter_model.specs.Account.{ExchangeAccount, Live, course, front, gathered, brought, is_finished, is_given, is_given_at, is_released, is_to_head, settled, flow, counted_course}
use Rattle.filter_model.specs.Answers.{answered, asked_in}
use Rattle.filter_model.specs.Cut.{Cut, over_cut, peer_cut, processor_cut}
use Rattle.filter_model.specs.Right.{Call, Stepped, Took, Nexted, Failed, IsHistory, account}
use Rattle.filter_model.specs.Sound.{Sound}
use Rattle.filter_model.specs.Step.{accepted, after, cut, cut_at, effect, is_departure, is_live, lets_pass, no_cut, on, reply_to, step, step_if, under_cut, under_departure, with_ending}
use Rattle.filter_model.specs.Told.{IsNoCut}
use Rattle.filter_model.specs.ToldMore.{ReadsNothing}
use Rattle.filter_model.specs.View.{ViewEntry, Bytes, End, Lost, Answered, TooLong, Closed, NoStream, Tick, Starved, Sent, Given}
use Rattle.filter_model.specs.declared.calls.Side.{Side}
use Rattle.filter_model.specs.declared.calls.Side.TheVariants.{Client, Upstream}
use Rattle.filter_model.specs.declared.calls.Taken.TheVariants.{Piece}
use Rattle.filter_model.proofs.AtRest.{Steady, passes, steady}
use Rattle.filter_model.proofs.CourseGrows.{and_first, and_second, if_buffered, none_of_kind, zip_longer}
use Rattle.filter_model.proofs.EachStep.{fate_stays}
use Rattle.filter_model.proofs.Ended.{buffered_asked, not_buffered}
use Rattle.filter_model.proofs.Firm.{Firm}
use Rattle.filter_model.proofs.GivenRight.{fits}
use Rattle.filter_model.proofs.ReadAlong.{Fits, reads_on}
use Rattle.filter_model.proofs.StepGrows.{Held, ReadsOn, accepted_goes, gathered_goes}
use Rattle.filter_model.proofs.ToldEntry.{both_within, course_is, live_is, none_over, released_within}

clash : true ≡ false → ⊥
clash e = cc

-- Heads and asks change nothing of it

abbrev pub over_at : CourseConfig → Course → Option Common → Bool
over_at c w x =
    (is_some w.original.head && (w.released || not w.modes.headers || is_some x)) && is_buffered (mode_at w.released x w.modes.body)
    && nat_lt c.buffer_limit (length w.original.body)

one_over : (c : CourseConfig) (d : Direction) (w : Course) → length w.answers ≤ length w.asks → is_over c (one_asked c d w) ≡ is_over c w
unfolding one_asked
one_over c d w n =
    ap (λ l. over_at c w (option_map (λ (q : AskedPart × Common). q.1) (find (λ (q : AskedPart × Common). is_headers q.0) l))) (zip_longer w.asks (due c d w) w.answers n)

one_counted : (c : CourseConfig) (d : Direction) (w : Course) → length w.answers ≤ length w.asks → length (one_asked c d w).answers ≤ length (one_asked c d w).asks
unfolding one_asked
one_counted c d w n = let e = length-append w.asks (due c d w) in omega (arith, n, e)

pub asked_over : (c : CourseConfig) (d : Direction) (w : Course) → length w.answers ≤ length w.asks → is_over c (asked c d w) ≡ is_over c w
unfolding asked
asked_over c d w n =
    let w1 : Course = one_asked c d w in
    let w2 : Course = one_asked c d w1 in
    let w3 : Course = one_asked c d w2 in
    let n1 = one_counted c d w n in
    let n2 = one_counted c d w1 n1 in
    let n3 = one_counted c d w2 n2 in
    one_over c d w3 n3 ∙ one_over c d w2 n2 ∙ one_over c d w1 n1 ∙ one_over c d w n

pub over_told : (c : CourseConfig) (d : Direction) (w : Course) → length w.answers ≤ length w.asks → is_over c (asked c d (committed c d w)) ≡ is_over c w
unfolding committed
over_told c d w n = asked_over c d (committed c d w) n

-- A body past its limit that has ended was asked before

pub over_is : (x y z : Bool) → (x && y && z) ≡ true → (y ≡ true) × (z ≡ true)
over_is true true true e = (refl, refl)
over_is true true false e = absurd cc
over_is true false z e = absurd cc
over_is false y z e = absurd cc

replaced_by_answer : (b : Bool) (x : Option (List ℕ)) (r : List ℕ) → (if b then x else None) ≡ Some r → b ≡ true
replaced_by_answer true x r e = refl
replaced_by_answer false x r e = absurd cc

not_replaced : (bare : Bool) (x : Option Common) (r : Bool) (m : BodyMode) (b : List ℕ) → replacement_at bare x ≡ Some b → is_buffered (mode_at r x m) ≡ true → ⊥
not_replaced true x r m b e f = cc
not_replaced false None r m b e f = cc
not_replaced false (Some a) r m b e f = not_buffered r (Some a) m (replaced_by_answer a.replace (new_piece a.body) b e) f

not_released : (r : Bool) (x : Option Common) (m : BodyMode) → is_buffered (mode_at r x m) ≡ true → r ≡ false
not_released true x m e = absurd cc
not_released false x m e = refl

done_unreleased : (whole released out : Bool) (b : Option AskedPart) → released ≡ false → body_done_at whole released out b ≡ true → (whole ≡ true) × (b ≡ None)
done_unreleased true true out b r e = absurd cc
done_unreleased true false true b r e = absurd cc
done_unreleased true false false None r e = (refl, refl)
done_unreleased true false false (Some x) r e = absurd cc
done_unreleased false r out b s e = absurd cc

body_some : (w : Course) → is_some (answer_to is_body w) ≡ true → list_any is_body w.asks ≡ true
body_some w e = by (list_any is_body w.asks) refl
  where
    by : (b : Bool) → list_any is_body w.asks ≡ b → list_any is_body w.asks ≡ true
    by true f = f
    by false f =
        let none : answer_to is_body w ≡ None = ap (option_map (λ (q : AskedPart × Common). q.1)) (none_of_kind is_body w.asks w.answers f) in
        absurd (clash (sym e ∙ ap is_some none))

-- the whole body was asked, where it is kept
body_asked : (c : CourseConfig) (w : Course) → Firm w → is_bodiless w.original.length ≡ false → is_buffered (mode w) ≡ true → is_body_done c w ≡ true → list_any is_body w.asks ≡ true
unfolding next_body
body_asked c w f n m e =
    let k = done_unreleased w.original.whole w.released (list_any is_body (out w)) (next_body c w) (not_released w.released (answer_to is_headers w) w.modes.body m) e in
    by k.0 k.1 (is_stopped w) refl
  where
    stopped : (replaces (answer_to is_headers w) ≡ true) ⊎ (is_some (answer_to is_body w) ≡ true) → list_any is_body w.asks ≡ true
    stopped (inl g) = absurd (not_buffered w.released (answer_to is_headers w) w.modes.body g m)
    stopped (inr g) = body_some w g

    by : w.original.whole ≡ true → next_body c w ≡ None → (s : Bool) → is_stopped w ≡ s → list_any is_body w.asks ≡ true
    by whole none true s = stopped (f.stops s)
    by whole none false s = buffered_asked (is_bodiless w.original.length) (is_stopped w) (mode w) _ _ w.original.whole (list_any is_body w.asks) _ n s m whole none

pub over_asked : (c : CourseConfig) (d : Direction) (w : Course) → Sound c w → Firm w → is_over c w ≡ true → (changed c d w).ended ≡ true → list_any is_body w.asks ≡ true
unfolding changed
over_asked c d w s f e i = by w.head (replacement d w) refl i
  where
    parts : (is_buffered (mode w) ≡ true) × (nat_lt c.buffer_limit (length w.original.body) ≡ true)
    parts = over_is (is_settled w) (is_buffered (mode w)) (nat_lt c.buffer_limit (length w.original.body)) e

    has_body : (b : Bool) → is_bodiless w.original.length ≡ b → is_bodiless w.original.length ≡ false
    has_body false b = b
    has_body true b =
        let l : c.buffer_limit < length w.original.body = ltb-true c.buffer_limit (length w.original.body) parts.1 in
        let z : length w.original.body ≡ 0 = ap length (s.bodiless b) in
        absurd (omega (arith, l, z))

    by : (o : Option Outgoing) (r : Option (List ℕ)) → replacement d w ≡ r → (changed_at c w o r).ended ≡ true → list_any is_body w.asks ≡ true
    by None r g i = absurd cc
    by (Some h) (Some b) g i = absurd (not_replaced (is_bare d w.original.length) (answer_to is_headers w) w.released w.modes.body b g parts.0)
    by (Some h) None g i =
        body_asked c w f (has_body (is_bodiless w.original.length) refl) parts.0 (and_first (is_body_done c w) _ i)

-- a course that reads on

abbrev pub read_on : Course → Original → ℕ → Course
read_on w o n = record w { original = o; sent = n }

ended_within : (c : CourseConfig) (d : Direction) (w : Course) (o : Original) (n : ℕ) → Sound c w → Firm w → Sound c (read_on w o n) → Extends w.original o → is_over c w ≡ false
    → (changed c d (read_on w o n)).ended ≡ true → is_over c (read_on w o n) ≡ false
ended_within c d w o n s f t x k i = by (is_over c (read_on w o n)) refl
  where
    firm : Firm (read_on w o n)
    firm = record { first = f.first; stops = f.stops }

    from_asked : list_any is_body w.asks ≡ true → w.original.whole ≡ true → Extends w.original o → is_over c (read_on w o n) ≡ false
    from_asked g whole (inl e) = ap (λ r. is_over c (read_on w r n)) e ∙ k
    from_asked g whole (inr (inl m)) = absurd (clash (sym g ∙ ap (list_any is_body) (s.head_read m).1))
    from_asked g whole (inr (inr l)) = absurd (clash (sym whole ∙ l.unfinished))

    by : (b : Bool) → is_over c (read_on w o n) ≡ b → is_over c (read_on w o n) ≡ false
    by false e = e
    by true e =
        let g : list_any is_body w.asks ≡ true = over_asked c d (read_on w o n) t firm e i in
        let m = over_is (is_settled (read_on w o n)) (is_buffered (mode w)) (nat_lt c.buffer_limit (length o.body)) e in
        from_asked g (s.covered (if_buffered (w.released || replaces (answer_to is_headers w)) w.modes.body m.0) g).0 x

-- Both directions

pub record Within (c : FilterConfig) (a : ExchangeAccount) : Type 0 where
  pub request : is_over c.course a.request.course ≡ false
  pub response : is_over c.course a.response.course ≡ false

pub gathered_is : (d : Direction) (e : ViewEntry) (a : ExchangeAccount)
    → course d (gathered e a) ≡ read_on (course d a) (course d (gathered e a)).original (course d (gathered e a)).sent
unfolding gathered brought
gathered_is Request (Bytes Client bytes) a = refl
gathered_is Request (Bytes Upstream bytes) a = refl
gathered_is Request (End Client) a = refl
gathered_is Request (End Upstream) a = refl
gathered_is Request (Lost Client how) a = refl
gathered_is Request (Lost Upstream how) a = refl
gathered_is Request (Given Client bytes) a = refl
gathered_is Request (Given Upstream bytes) a = refl
gathered_is Response (Bytes Client bytes) a = refl
gathered_is Response (Bytes Upstream bytes) a = refl
gathered_is Response (End Client) a = refl
gathered_is Response (End Upstream) a = refl
gathered_is Response (Lost Client how) a = refl
gathered_is Response (Lost Upstream how) a = refl
gathered_is Response (Given Client bytes) a = refl
gathered_is Response (Given Upstream bytes) a = refl
gathered_is Request (Answered x) a = refl
gathered_is Response (Answered x) a = refl
gathered_is Request TooLong a = refl
gathered_is Response TooLong a = refl
gathered_is Request (Closed b) a = refl
gathered_is Response (Closed b) a = refl
gathered_is Request NoStream a = refl
gathered_is Response NoStream a = refl
gathered_is Request (Tick n) a = refl
gathered_is Response (Tick n) a = refl
gathered_is Request Starved a = refl
gathered_is Response Starved a = refl
gathered_is Request Sent a = refl
gathered_is Response Sent a = refl

given_ended : (d : Direction) (o : Option Outgoing) (m : Changed) (f g : List ℕ) → is_given_at d o m f g ≡ true → m.ended ≡ true
given_ended d None m f g e = absurd cc
given_ended d (Some h) m f g e =
    and_first m.ended _ (and_first (m.ended && nat_le (length (f ++ head_bytes d h.fields h.framing)) (length g)) _ e)

-- what an entry brings to a message that was given whole
brought_within : (c : FilterConfig) (d : Direction) (e : ViewEntry) (a : ExchangeAccount) → Sound c.course (course d a) → Firm (course d a) → Sound c.course (course d (gathered e a))
    → Extends (course d a).original (course d (gathered e a)).original → is_over c.course (course d a) ≡ false → is_given c (gathered e a) d ≡ true
    → is_over c.course (course d (gathered e a)) ≡ false
unfolding is_given
brought_within c d e a s f t x k g =
    let v : Course = course d (gathered e a) in
    let i : v ≡ read_on (course d a) v.original v.sent = gathered_is d e a in
    ap (is_over c.course) i
    ∙ ended_within c.course d (course d a) v.original v.sent s f (subst (Sound c.course) i t) x k
    (ap (λ w. (changed c.course d w).ended) (sym i) ∙ given_ended d v.head (changed c.course d v) (front d (gathered e a)) (flow d (gathered e a)).given g)

finished_within : (c : FilterConfig) (e : ViewEntry) (a : ExchangeAccount) → Steady c a → ReadsOn e a → Within c a → is_finished c (gathered e a) ≡ true → Within c (gathered e a)
unfolding is_finished ReadsOn
finished_within c e a s x k i =
    let g : ExchangeAccount = gathered e a in
    let t : Held c g = (gathered_goes c e a s.along.held x).held in
    record {
      request = brought_within c Request e a s.along.held.request s.firms.request t.request x.0 k.request (and_first (is_given c g Request) (is_given c g Response) i);
      response = brought_within c Response e a s.along.held.response s.firms.response t.response x.1 k.response (and_second (is_given c g Request) (is_given c g Response) i);
    }

-- An entry that is no cut

all_released : (c : FilterConfig) (a : ExchangeAccount) → a.request.course.released ≡ true → a.response.course.released ≡ true → Within c a
all_released c a r s = record { request = released_within c.course a.request.course r; response = released_within c.course a.response.course s }

or_left : (x y : Bool) → x ≡ false → (x || y) ≡ true → y ≡ true
or_left true y e f = absurd cc
or_left false y e f = f

or_both : (x y : Bool) → (x || y) ≡ false → (x ≡ false) × (y ≡ false)
or_both true y e = absurd cc
or_both false y e = (refl, e)

accepted_within : (c : FilterConfig) (e : ViewEntry) (g : ExchangeAccount) → Held c g → (is_finished c g ≡ true → Within c g) → cut c e g ≡ None
    → (b : Bool) → (is_released g || is_finished c g) ≡ b → Within c (accepted c e g b)
unfolding cut over_cut
accepted_within c e g h f n true i = by (is_released g) refl
  where
    by : (r : Bool) → is_released g ≡ r → Within c g
    by true r = all_released c g r (h.both ∙ r)
    by false r = f (or_left (is_released g) (is_finished c g) r i)
accepted_within c e g h f n false i =
    let k = or_both (is_released g) (is_finished c g) i in
    let x : ExchangeAccount = answered c e g in
    let o : over_cut c x ≡ None = none_over (is_finished c g) (is_released g) _ (over_cut c x) _ k.1 k.0 n in
    let w = both_within (is_over c.course x.request.course) (is_over c.course x.response.course) _ _ o in
    record { request = w.0; response = w.1 }

asked_within : (c : FilterConfig) (x : ExchangeAccount) → Held c x → Within c x → Within c (with_ending c (asked_in c Response (asked_in c Request (settled c x))))
unfolding committed
asked_within c x h w = record {
  request = ap (is_over c.course) (course_is c Request x)
      ∙ asked_over c.course Request (counted_course Request (front Request x) (flow Request x).given (committed c.course Request (course Request x))) h.request.counts ∙ w.request;
  response = ap (is_over c.course) (course_is c Response x)
      ∙ asked_over c.course Response (counted_course Response (front Response x) (flow Response x).given (committed c.course Response (course Response x))) h.response.counts ∙ w.response;
}

-- Each step

or_true : (x y : Bool) → y ≡ true → (x || y) ≡ true
or_true true y e = refl
or_true false y e = e

cut_within : (c : FilterConfig) (k : Cut) (g : ExchangeAccount) → (settled c (effect c k (settled c g))).fate ≡ Live → Within c (settled c (effect c k (settled c g)))
unfolding settled effect committed
cut_within c k g l =
    let p : lets_pass c k ≡ true = passes (lets_pass c k) g.fate (is_some (settled c g).response.course.head) (reply_to k (is_to_head g)) l in
    all_released c (settled c (effect c k (settled c g))) (or_true g.request.course.released (lets_pass c k) p) (or_true g.response.course.released (lets_pass c k) p)

under_cut_within : (c : FilterConfig) (e : ViewEntry) (g : ExchangeAccount) (k : Option Cut) → k ≡ cut c e g → Held c g → (is_finished c g ≡ true → Within c g)
    → is_live (under_cut c e g k).fate ≡ true → Within c (with_ending c (under_cut c e g k))
unfolding under_cut no_cut with_ending
under_cut_within c e g (Some k) i h f l =
    let w : Within c (settled c (effect c k (settled c g))) = cut_within c k g (live_is _ l) in
    record { request = w.request; response = w.response }
under_cut_within c e g None i h f l =
    let b : Bool = is_released g || is_finished c g in
    let x : ExchangeAccount = accepted c e g b in
    asked_within c x (accepted_goes c e g h (sym i) b refl).held (accepted_within c e g h f (sym i) b refl)

departure_within : (c : FilterConfig) (e : ViewEntry) (g : ExchangeAccount) (b : Bool) → Held c g → (is_finished c g ≡ true → Within c g)
    → is_live (under_departure c e g b).fate ≡ true → Within c (with_ending c (under_departure c e g b))
departure_within c e g true h f l = absurd (clash (sym l))
departure_within c e g false h f l = under_cut_within c e g (cut c e g) refl h f l

if_within : (c : FilterConfig) (e : ViewEntry) (a : ExchangeAccount) (live : Bool) → live ≡ true → Steady c a → ReadsOn e a → Within c a
    → is_live (step_if c e a live).fate ≡ true → Within c (step_if c e a live)
unfolding on with_ending
if_within c e a false i s x k l = absurd (clash (sym i))
if_within c e a true i s x k l =
    let g : ExchangeAccount = gathered e a in
    departure_within c e g (is_departure e g) (gathered_goes c e a s.along.held x).held (finished_within c e a s x k) l

step_within : (c : FilterConfig) (e : ViewEntry) (a : ExchangeAccount) → Steady c a → Fits c a e → (is_live a.fate ≡ true → Within c a)
    → is_live (step c e a).fate ≡ true → Within c (step c e a)
unfolding step
step_within c e a s f k l = by (is_live a.fate) refl
  where
    by : (b : Bool) → is_live a.fate ≡ b → Within c (step c e a)
    by true i = if_within c e a (is_live a.fate) i s (reads_on c e a s.along.read s.along.held f) (k i) l
    by false i = absurd (clash (sym l ∙ ap is_live (fate_stays c e a i) ∙ i))

pub within_along : (c : FilterConfig) (h : List Call) → IsHistory c h → is_live (account c h).fate ≡ true → Within c (account c h)
unfolding after
within_along c [] y l = record { request = refl; response = refl }
within_along c (Stepped e ∷ h) y l = step_within c e (account c h) (steady c h y.0) (fits c h e y.1) (within_along c h y.0) l
within_along c (Took s (Piece bytes) ∷ h) y l = step_within c (Given s bytes) (account c h) (steady c h y.0) tt (within_along c h y.0) l
within_along c (Took s _ ∷ h) y l = within_along c h y.0 l
within_along c (Nexted n ∷ h) y l = within_along c h y.0 l
within_along c (Failed ∷ h) y l = within_along c h y.0 l

pub never_over : (c : FilterConfig) (h : List Call) → IsHistory c h → is_live (account c h).fate ≡ true → (d : Direction) → is_over c.course (course d (account c h)) ≡ false
never_over c h y l Request = (within_along c h y l).request
never_over c h y l Response = (within_along c h y l).response

-- An entry that brings nothing of a message

same_over : (c : CourseConfig) (e : ViewEntry) (a : ExchangeAccount) (d : Direction) → ReadsNothing e → is_over c (course d (gathered e a)) ≡ is_over c (course d a)
unfolding gathered
same_over c (Lost Client how) a Request r = refl
same_over c (Lost Upstream how) a Request r = refl
same_over c (Lost Client how) a Response r = refl
same_over c (Lost Upstream how) a Response r = refl
same_over c (Given Client bytes) a Request r = refl
same_over c (Given Upstream bytes) a Request r = refl
same_over c (Given Client bytes) a Response r = refl
same_over c (Given Upstream bytes) a Response r = refl
same_over c TooLong a d r = refl
same_over c (Closed b) a Request r = refl
same_over c (Closed b) a Response r = refl
same_over c NoStream a Request r = refl
same_over c NoStream a Response r = refl
same_over c (Tick n) a Request r = refl
same_over c (Tick n) a Response r = refl
same_over c Starved a d r = refl
same_over c Sent a Request r = refl
same_over c Sent a Response r = refl
same_over c _ a d r = absurd r

none_answered : (c : FilterConfig) (e : ViewEntry) (g : ExchangeAccount) → ReadsNothing e → answered c e g ≡ g
unfolding answered
none_answered c (Lost s how) g r = refl
none_answered c (Given s bytes) g r = refl
none_answered c TooLong g r = refl
none_answered c (Closed b) g r = refl
none_answered c NoStream g r = refl
none_answered c (Tick n) g r = refl
none_answered c Starved g r = refl
none_answered c Sent g r = refl
none_answered c _ g r = absurd r

no_departure : (e : ViewEntry) (g : ExchangeAccount) → ReadsNothing e → is_departure e g ≡ false
no_departure (Lost s how) g r = refl
no_departure (Given s bytes) g r = refl
no_departure TooLong g r = refl
no_departure (Closed b) g r = refl
no_departure NoStream g r = refl
no_departure (Tick n) g r = refl
no_departure Starved g r = refl
no_departure Sent g r = refl
no_departure _ g r = absurd r

no_over_cut : (c : FilterConfig) (x : ExchangeAccount) → is_over c.course x.request.course ≡ false → is_over c.course x.response.course ≡ false → over_cut c x ≡ None
unfolding over_cut
no_over_cut c x e f = by (is_over c.course x.request.course) (is_over c.course x.response.course) _ _ e f
  where
    by : (p q : Bool) (k l : Cut) → p ≡ false → q ≡ false → (if p then Some k else if q then Some l else None) ≡ None
    by true q k l e f = absurd cc
    by false true k l e f = absurd cc
    by false false k l e f = refl

none_at : (finished released : Bool) (p o q : Option Cut) → p ≡ None → o ≡ None → q ≡ None → cut_at finished released p o q ≡ None
none_at true r p o q e f g = refl
none_at false true p o q e f g = g
none_at false false (Some k) o q e f g = absurd cc
none_at false false None (Some k) q e f g = absurd cc
none_at false false None None q e f g = g

pub none_cut : (c : FilterConfig) (h : List Call) (e : ViewEntry) → IsHistory c h → is_live (account c h).fate ≡ true → ReadsNothing e
    → processor_cut c (gathered e (account c h)) e ≡ None → peer_cut c (gathered e (account c h)) e ≡ None → IsNoCut c e (account c h)
unfolding cut
none_cut c h e y l r p q =
    let a : ExchangeAccount = account c h in
    let g : ExchangeAccount = gathered e a in
    let w : Within c a = within_along c h y l in
    let o : over_cut c g ≡ None = no_over_cut c g (same_over c.course e a Request r ∙ w.request) (same_over c.course e a Response r ∙ w.response) in
    record {
      live = l;
      stays = no_departure e g r;
      none = none_at (is_finished c g) (is_released g) (processor_cut c g e) (over_cut c (answered c e g)) (peer_cut c g e) p (ap (over_cut c) (none_answered c e g r) ∙ o) q;
    }

pub given_no_cut : (c : FilterConfig) (h : List Call) (s : Side) (bytes : List ℕ) → IsHistory c h → is_live (account c h).fate ≡ true → IsNoCut c (Given s bytes) (account c h)
unfolding processor_cut peer_cut
given_no_cut c h s bytes y l = none_cut c h (Given s bytes) y l tt refl refl

pub sent_no_cut : (c : FilterConfig) (h : List Call) → IsHistory c h → is_live (account c h).fate ≡ true → IsNoCut c Sent (account c h)
unfolding processor_cut peer_cut
sent_no_cut c h y l = none_cut c h Sent y l tt refl refl
