-- An answer that is no cut: what the halves are told of it, the asks that follow, and the timers.
use Rattle.std.proofs.Common.{sym, ◌∙◌, ap, refl}
use Rattle.std.specs.Prelude.{ℕ, ◌≡◌, ◌+◌, ◌≤◌, Bool, true, false, ◌&&◌, ◌||◌, List, [], ◌∷◌, ◌++◌, length, drop, Option, Some, None, if◌then◌else◌, is_some, is_none, option_map}
use Rattle.std.specs.List.{list_any}
use Rattle.ext_msgs.specs.declared.answer.Answer.{Answer as Answering}
use Rattle.ext_msgs.specs.declared.answer.Common.{Common}
use Rattle.ext_msgs.specs.declared.answer.ModeNumbers.{ModeNumbers}
use Rattle.ext_msgs.specs.declared.lists.Field.{Field}
use Rattle.ext_msgs.specs.declared.modes.PartModes.{PartModes}
use Rattle.header_mutation.specs.Mutated.{Outcome, Fields, Bad, Disallowed}
use Rattle.http_model.specs.declared.types.Direction.{Direction}
use Rattle.http_model.specs.declared.types.Direction.TheVariants.{Request, Response}
use Rattle.filter_model.specs.Config.{CourseConfig, FilterConfig}
use Rattle.filter_model.specs.Course.{Course, Outgoing, AskedPart, asked, committed, head_may_go, is_headers, is_spurious, out, outcome, outgoing}
use Rattle.filter_model.specs.Account.{ExchangeAccount, counted_course, course, flow, front, gathered, given_count, is_finished, is_out_in, is_released, settled}
use Rattle.filter_model.specs.Answers.{answered, answered_by, asked_in, behind_headers, joined, overridden, override_of, part_answered}
use Rattle.filter_model.specs.Cut.{PartAnswer, Spurious, answer_cut, cut_by, kind_of, part_cut}
use Rattle.filter_model.specs.Half as half
use Rattle.filter_model.specs.Half.{called, fault_of, refusal, settled_modes}
use Rattle.header_mutation.specs.declared.setup.HalfFault.TheVariants as fault
use Rattle.filter_model.specs.Right.{Call, Stepped, IsHistory, account}
use Rattle.filter_model.specs.Sound.{Sound}
use Rattle.filter_model.specs.Step.{accepted, after, no_cut, on, step, step_if, under_cut, with_ending}
use Rattle.filter_model.specs.Told.{IsNoCut, asks_behind, known, told}
use Rattle.filter_model.specs.ToldMore.{IsAnswerTo, across, cut_for, other_calls, own_calls}
use Rattle.filter_model.specs.View.{Answered}
use Rattle.filter_model.proofs.AtRest.{Rested, Steady, steady}
use Rattle.filter_model.proofs.Known.{asked_known, committed_known}
use Rattle.filter_model.proofs.StepGrows.{Answers, Held, answers_one, first_none, headers_out, kind_of_headers, no_head_yet, no_part_cut, override_kind}
use Rattle.filter_model.proofs.ToldAnswer.{answer_at_once}
use Rattle.filter_model.proofs.ToldEntry.{course_is, few_given, head_stays, made_is, none_given, rested, same_count, sound_in}
use Rattle.filter_model.proofs.ToldOthers.{untouched}

-- The entry

-- heads that can go are chosen, and asks are made
abbrev pub Ends : FilterConfig → ExchangeAccount → ExchangeAccount
Ends c y = with_ending c (asked_in c Response (asked_in c Request (settled c y)))

pub either_false : (x y : Bool) → x ≡ false → y ≡ false → (x || y) ≡ false
either_false true y e f = absurd cc
either_false false y e f = f

-- with an answer joined to its direction's
abbrev pub Joined : FilterConfig → Direction → PartAnswer → Option (PartModes × PartModes) → ExchangeAccount → ExchangeAccount
Joined c d p m a = overridden d m (joined c (record p { direction = d }) a)

step_is : (c : FilterConfig) (x : Answering) (p : PartAnswer) (a : ExchangeAccount) → IsNoCut c (Answered (Some x)) a → IsAnswerTo c x p a
    → step c (Answered (Some x)) a ≡ Ends c (Joined c p.direction p (override_of c p.kind x.modes) a)
unfolding step on no_cut under_cut answered gathered
step_is c x p a n k =
    ap (step_if c (Answered (Some x)) a) n.live
    ∙ ap (λ q. with_ending c (under_cut c (Answered (Some x)) a q)) n.none
    ∙ ap (λ b. Ends c (accepted c (Answered (Some x)) a b)) (either_false (is_released a) (is_finished c a) k.unreleased k.unfinished)
    ∙ ap (λ t. Ends c (answered_by c x a t)) k.untimed
    ∙ ap (λ q. Ends c (part_answered c x.modes a q)) k.part

-- What the answer says of its direction

pub is_part : (c : FilterConfig) (x : Answering) (p : PartAnswer) (a : ExchangeAccount) → IsNoCut c (Answered (Some x)) a → IsAnswerTo c x p a → part_cut c a p ≡ None
unfolding answer_cut gathered
is_part c x p a n k =
    no_part_cut c a x.timeout x.member p k.untimed k.part (first_none c x a (either_false (is_released a) (is_finished c a) k.unreleased k.unfinished) n.none)

no_refusal : (b : Bool) (o : Outcome) → (if b then Some Spurious else cut_by o) ≡ None → (if b then Some fault.Spurious else fault_of o) ≡ None
no_refusal true o e = absurd cc
no_refusal false (Fields f) e = refl
no_refusal false (Bad n) e = absurd cc
no_refusal false (Disallowed n) e = absurd cc

pub not_refused : (c : FilterConfig) (p : PartAnswer) (a : ExchangeAccount) → part_cut c a p ≡ None → refusal c.course p.direction (course p.direction a) p.kind p.common ≡ None
not_refused c p a e = no_refusal (is_spurious (kind_of p.kind) p.common (course p.direction a)) (outcome c.course p.direction (course p.direction a) p.common.headers) e

judged_by : (b : Bool) (o : Outcome) → (if b then Some Spurious else cut_by o) ≡ cut_for (if b then Some fault.Spurious else fault_of o)
judged_by true o = refl
judged_by false (Fields f) = refl
judged_by false (Bad n) = refl
judged_by false (Disallowed n) = refl

-- the half's judgement is the account's
pub judged : (c : FilterConfig) (p : PartAnswer) (a : ExchangeAccount) → part_cut c a p ≡ cut_for (refusal c.course p.direction (course p.direction a) p.kind p.common)
judged c p a = judged_by (is_spurious (kind_of p.kind) p.common (course p.direction a)) (outcome c.course p.direction (course p.direction a) p.common.headers)

-- modes come while the headers ask is out
pub headers_answered : (c : FilterConfig) (p : PartAnswer) (n : Option ModeNumbers) (a : ExchangeAccount) → part_cut c a p ≡ None
    → is_some (override_of c p.kind n) ≡ true → list_any is_headers (out (course p.direction a)) ≡ true
unfolding Answers
headers_answered c p n a k s =
    let w : Course = course p.direction a in
    let l : Answers (kind_of p.kind) (out w) = answers_one (kind_of p.kind) _ (out w) _ k in
    headers_out w l.0 l.1 l.2 (kind_of_headers p.kind l.0 (override_kind c p.kind n s) l.3)

pub headers_asked : (c : FilterConfig) (x : Answering) (p : PartAnswer) (a : ExchangeAccount) → IsNoCut c (Answered (Some x)) a → IsAnswerTo c x p a
    → is_some (override_of c p.kind x.modes) ≡ true → list_any is_headers (out (course p.direction a)) ≡ true
headers_asked c x p a n k s = headers_answered c p x.modes a (is_part c x p a n k) s

head_there : (c : CourseConfig) (w : Course) → Sound c w → list_any is_headers (out w) ≡ true → is_some w.original.head ≡ true
head_there c w s e = by w.original.head refl
  where
    none_of : (asks : List AskedPart) (n : ℕ) → asks ≡ [] → list_any is_headers (drop n asks) ≡ false
    none_of [] ℕ.zero e = refl
    none_of [] (ℕ.suc n) e = refl
    none_of (q ∷ asks) n e = absurd cc

    clash : true ≡ false → ⊥
    clash e = cc

    by : (o : Option (List Field)) → w.original.head ≡ o → is_some w.original.head ≡ true
    by (Some h) m = ap is_some m
    by None m = absurd (clash (sym e ∙ none_of w.asks (length w.answers) (s.head_read m).1))

-- The course of one direction

-- what was given counts as before
kept_count : (c : CourseConfig) (d : Direction) (w : Course) (answers : List Common) (modes : PartModes) (front given : List ℕ) → Rested c d w front given → (w.head ≡ None → length given ≤ length front)
    → counted_course d front given (committed c d (record w { answers = answers; modes = modes })) ≡ committed c d (record w { answers = answers; modes = modes })
unfolding committed
kept_count c d w answers modes front given r few = same_count d front given (committed c d v) (kept w.head refl)
  where
    v : Course
    v = record w { answers = answers; modes = modes }

    chosen : Option Outgoing
    chosen = if is_none w.head && head_may_go v then option_map (outgoing c d v) w.original.head else w.head

    kept : (o : Option Outgoing) → w.head ≡ o → given_count d chosen front given ≡ w.given
    kept None n = none_given d chosen front given (few n) ∙ sym (r.counted ∙ ap (λ z. given_count d z front given) n)
    kept (Some o) n = ap (λ z. given_count d z front given) (head_stays o w.head _ (head_may_go v) n ∙ sym n) ∙ sym r.counted

known_after : (c : CourseConfig) (d : Direction) (w : Course) (answers : List Common) (modes : PartModes) (front given : List ℕ) → Rested c d w front given → (w.head ≡ None → length given ≤ length front)
    → known (asked c d (counted_course d front given (committed c d (record w { answers = answers; modes = modes })))) ≡ asked c d (committed c d (known (record w { answers = answers; modes = modes })))
known_after c d w answers modes front given r few =
    let v : Course = record w { answers = answers; modes = modes } in
    ap (λ x. known (asked c d x)) (kept_count c d w answers modes front given r few)
    ∙ sym (asked_known c d (committed c d v)) ∙ ap (asked c d) (sym (committed_known c d v))

known_sound : (c : CourseConfig) (w : Course) → Sound c w → Sound c (known w)
known_sound c w s = record {
  counts = s.counts;
  head_read = s.head_read;
  bodiless = s.bodiless;
  once_headers = s.once_headers;
  once_trailers = s.once_trailers;
  headers = s.headers;
  trailers = s.trailers;
  in_turn = s.in_turn;
  covered = s.covered;
  no_headers = s.no_headers;
  first_made = s.first_made;
}

behind_is : (o : Option (List Field)) (old new : PartModes) → is_some o ≡ true → settled_modes o old new ≡ behind_headers old new
behind_is None old new e = absurd cc
behind_is (Some h) old new e = refl

-- the direction of the answer

plain_told : (c : CourseConfig) (d : Direction) (w : Course) (a : Common) (front given : List ℕ) → Rested c d w front given → (w.head ≡ None → length given ≤ length front) → w.released ≡ false
    → known (asked c d (counted_course d front given (committed c d (record w { answers = w.answers ++ a ∷ [] })))) ≡ told c d (half.Answer a ∷ []) (known w)
plain_told c d w a front given r few u =
    known_after c d w (w.answers ++ a ∷ []) w.modes front given r few
    ∙ ap (λ b. asked c d (committed c d (known (record w { answers = if b then w.answers else w.answers ++ a ∷ [] })))) (sym u)

modes_told : (c : CourseConfig) (d : Direction) (w : Course) (modes : PartModes) (a : Common) (front given : List ℕ) → Rested c d w front given → (w.head ≡ None → length given ≤ length front)
    → Sound c w → w.released ≡ false → list_any is_headers (out w) ≡ true
    → known (asked c d (counted_course d front given (committed c d (record w { answers = w.answers ++ a ∷ []; modes = behind_headers w.modes modes }))))
    ≡ told c d (half.Settle modes ∷ half.Answer a ∷ []) (known w)
modes_told c d w modes a front given r few s u e =
    let h : is_some w.original.head ≡ true = head_there c w s e in
    known_after c d w (w.answers ++ a ∷ []) (behind_headers w.modes modes) front given r few
    ∙ ap (λ m. asked c d (committed c d (known (record w { answers = w.answers ++ a ∷ []; modes = m })))) (sym (behind_is w.original.head w.modes modes h))
    ∙ sym (answer_at_once c d (known w) modes a (known_sound c w s) u h e)

pub own_in : (d : Direction) (c : FilterConfig) (p : PartAnswer) (m : Option (PartModes × PartModes)) (a : ExchangeAccount) → Sound c.course (course d a)
    → Rested c.course d (course d a) (front d a) (flow d a).given → ((course d a).head ≡ None → length (flow d a).given ≤ length (front d a)) → (course d a).released ≡ false
    → (is_some m ≡ true → list_any is_headers (out (course d a)) ≡ true)
    → known (course d (Ends c (Joined c d p m a))) ≡ told c.course d (own_calls d m p.common) (known (course d a))
own_in Request c p None a s r few u e =
    ap known (course_is c Request (Joined c Request p None a)) ∙ plain_told c.course Request a.request.course p.common (front Request a) a.request.given r few u
own_in Request c p (Some m) a s r few u e =
    ap known (course_is c Request (Joined c Request p (Some m) a)) ∙ modes_told c.course Request a.request.course m.0 p.common (front Request a) a.request.given r few s u (e refl)
own_in Response c p None a s r few u e =
    ap known (course_is c Response (Joined c Response p None a)) ∙ plain_told c.course Response a.response.course p.common (front Response a) a.response.given r few u
own_in Response c p (Some m) a s r few u e =
    ap known (course_is c Response (Joined c Response p (Some m) a)) ∙ modes_told c.course Response a.response.course m.1 p.common (front Response a) a.response.given r few s u (e refl)

-- the other direction

settle_told : (c : CourseConfig) (d : Direction) (w : Course) (modes : PartModes) (front given : List ℕ) → Rested c d w front given → (w.head ≡ None → length given ≤ length front) → w.original.head ≡ None
    → known (asked c d (counted_course d front given (committed c d (record w { modes = modes })))) ≡ told c d (half.Settle modes ∷ []) (known w)
settle_told c d w modes front given r few n =
    known_after c d w w.answers modes front given r few
    ∙ ap (λ o. asked c d (committed c d (known (record w { modes = settled_modes o w.modes modes })))) (sym n)

pub other_in : (d : Direction) (c : FilterConfig) (p : PartAnswer) (m : Option (PartModes × PartModes)) (a : ExchangeAccount)
    → Rested c.course (across d) (course (across d) a) (front (across d) a) (flow (across d) a).given
    → ((course (across d) a).head ≡ None → length (flow (across d) a).given ≤ length (front (across d) a))
    → (d ≡ Request → is_some m ≡ true → (course Response a).original.head ≡ None)
    → known (course (across d) (Ends c (Joined c d p m a))) ≡ told c.course (across d) (other_calls d m) (known (course (across d) a))
other_in Request c p None a r few e = ap known (course_is c Response (Joined c Request p None a)) ∙ untouched c Response a r
other_in Request c p (Some m) a r few e =
    ap known (course_is c Response (Joined c Request p (Some m) a)) ∙ settle_told c.course Response a.response.course m.1 (front Response a) a.response.given r few (e refl refl)
other_in Response c p None a r few e = ap known (course_is c Request (Joined c Response p None a)) ∙ untouched c Request a r
other_in Response c p (Some m) a r few e = ap known (course_is c Request (Joined c Response p (Some m) a)) ∙ untouched c Request a r

-- Along a history

pub unreleased_in : (d : Direction) (c : FilterConfig) (a : ExchangeAccount) → Held c a → is_released a ≡ false → (course d a).released ≡ false
unreleased_in Request c a h r = r
unreleased_in Response c a h r = h.both ∙ r

pub own_told : (c : FilterConfig) (h : List Call) (x : Answering) (p : PartAnswer) → IsHistory c (Stepped (Answered (Some x)) ∷ h) → IsNoCut c (Answered (Some x)) (account c h) → IsAnswerTo c x p (account c h)
    → known (course p.direction (account c (Stepped (Answered (Some x)) ∷ h)))
    ≡ told c.course p.direction (own_calls p.direction (override_of c p.kind x.modes) p.common) (known (course p.direction (account c h)))
unfolding after
own_told c h x p y n k =
    let a : ExchangeAccount = account c h in
    let s : Steady c a = steady c h y.0 in
    let d : Direction = p.direction in
    ap (λ z. known (course d z)) (step_is c x p a n k)
    ∙ own_in d c p (override_of c p.kind x.modes) a (sound_in d c a s.along.held) (rested d c a s n.live) (few_given c h y.0 n.live d) (unreleased_in d c a s.along.held k.unreleased)
    (headers_asked c x p a n k)

-- the response's head isn't there before the request's has gone
pub early_in : (d : Direction) (c : FilterConfig) (a : ExchangeAccount) → Held c a → is_released a ≡ false → d ≡ Request → list_any is_headers (out (course d a)) ≡ true → (course Response a).original.head ≡ None
early_in Request c a h r e o = h.later (no_head_yet c.course a.request.course h.request r o)
early_in Response c a h r e o = absurd cc

pub no_response_yet : (c : FilterConfig) (h : List Call) (p : PartAnswer) (n : Option ModeNumbers) → IsHistory c h → is_released (account c h) ≡ false → part_cut c (account c h) p ≡ None
    → p.direction ≡ Request → is_some (override_of c p.kind n) ≡ true → (course Response (account c h)).original.head ≡ None
no_response_yet c h p n y r k e s =
    let a : ExchangeAccount = account c h in
    early_in p.direction c a (steady c h y).along.held r e (headers_answered c p n a k s)

pub other_told : (c : FilterConfig) (h : List Call) (x : Answering) (p : PartAnswer) → IsHistory c (Stepped (Answered (Some x)) ∷ h) → IsNoCut c (Answered (Some x)) (account c h) → IsAnswerTo c x p (account c h)
    → known (course (across p.direction) (account c (Stepped (Answered (Some x)) ∷ h)))
    ≡ told c.course (across p.direction) (other_calls p.direction (override_of c p.kind x.modes)) (known (course (across p.direction) (account c h)))
unfolding after
other_told c h x p y n k =
    let a : ExchangeAccount = account c h in
    let s : Steady c a = steady c h y.0 in
    let d : Direction = across p.direction in
    ap (λ z. known (course d z)) (step_is c x p a n k)
    ∙ other_in p.direction c p (override_of c p.kind x.modes) a (rested d c a s n.live) (few_given c h y.0 n.live d) (no_response_yet c h p x.modes y.0 k.unreleased (is_part c x p a n k))

-- The asks that follow

made_in : (d : Direction) (c : FilterConfig) (p : PartAnswer) (m : Option (PartModes × PartModes)) (a z : ExchangeAccount) → z ≡ Ends c (Joined c d p m a)
    → z.made ≡ (a.made ++ asks_behind Request (course Request a) (course Request z)) ++ asks_behind Response (course Response a) (course Response z)
made_in Request c p m a z e =
    ap (λ x. x.made) e ∙ made_is c (Joined c Request p m a)
    ∙ ap (λ x. (a.made ++ asks_behind Request (course Request a) (course Request x)) ++ asks_behind Response (course Response a) (course Response x)) (sym e)
made_in Response c p m a z e =
    ap (λ x. x.made) e ∙ made_is c (Joined c Response p m a)
    ∙ ap (λ x. (a.made ++ asks_behind Request (course Request a) (course Request x)) ++ asks_behind Response (course Response a) (course Response x)) (sym e)

pub answer_made : (c : FilterConfig) (x : Answering) (p : PartAnswer) (a : ExchangeAccount) → IsNoCut c (Answered (Some x)) a → IsAnswerTo c x p a
    → (step c (Answered (Some x)) a).made ≡ (a.made ++ asks_behind Request (course Request a) (course Request (step c (Answered (Some x)) a)))
    ++ asks_behind Response (course Response a) (course Response (step c (Answered (Some x)) a))
answer_made c x p a n k = made_in p.direction c p (override_of c p.kind x.modes) a (step c (Answered (Some x)) a) (step_is c x p a n k)

-- The timers

same_if : (b : Bool) (n : ℕ) → (if b then n else n) ≡ n
same_if true n = refl
same_if false n = refl

own_timer_in : (d : Direction) (c : FilterConfig) (p : PartAnswer) (m : Option (PartModes × PartModes)) (a : ExchangeAccount)
    → ((flow d (Ends c (Joined c d p m a))).deadline ≡ a.now + c.timeout_ms) × ((flow d (Ends c (Joined c d p m a))).extended ≡ false)
unfolding with_ending asked_in settled
own_timer_in Request c p m a = (same_if _ (a.now + c.timeout_ms), refl)
own_timer_in Response c p m a = (same_if _ (a.now + c.timeout_ms), refl)

other_timer_in : (d : Direction) (c : FilterConfig) (p : PartAnswer) (m : Option (PartModes × PartModes)) (a : ExchangeAccount)
    → ((flow (across d) (Ends c (Joined c d p m a))).deadline ≡ (if is_out_in a (across d) then (flow (across d) a).deadline else a.now + c.timeout_ms))
    × ((flow (across d) (Ends c (Joined c d p m a))).extended ≡ (flow (across d) a).extended)
unfolding with_ending asked_in settled committed
other_timer_in Request c p m a = (refl, refl)
other_timer_in Response c p m a = (refl, refl)

pub own_timer : (c : FilterConfig) (x : Answering) (p : PartAnswer) (a : ExchangeAccount) → IsNoCut c (Answered (Some x)) a → IsAnswerTo c x p a
    → ((flow p.direction (step c (Answered (Some x)) a)).deadline ≡ a.now + c.timeout_ms) × ((flow p.direction (step c (Answered (Some x)) a)).extended ≡ false)
own_timer c x p a n k =
    let e = step_is c x p a n k in
    let t = own_timer_in p.direction c p (override_of c p.kind x.modes) a in
    (ap (λ z. (flow p.direction z).deadline) e ∙ t.0, ap (λ z. (flow p.direction z).extended) e ∙ t.1)

pub other_timer : (c : FilterConfig) (x : Answering) (p : PartAnswer) (a : ExchangeAccount) → IsNoCut c (Answered (Some x)) a → IsAnswerTo c x p a
    → ((flow (across p.direction) (step c (Answered (Some x)) a)).deadline ≡ (if is_out_in a (across p.direction) then (flow (across p.direction) a).deadline else a.now + c.timeout_ms))
    × ((flow (across p.direction) (step c (Answered (Some x)) a)).extended ≡ (flow (across p.direction) a).extended)
other_timer c x p a n k =
    let e = step_is c x p a n k in
    let t = other_timer_in p.direction c p (override_of c p.kind x.modes) a in
    (ap (λ z. (flow (across p.direction) z).deadline) e ∙ t.0, ap (λ z. (flow (across p.direction) z).extended) e ∙ t.1)
