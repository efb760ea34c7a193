-- Entries of the processor, of time and of want of memory that are no cut and tell the halves nothing: once the rest passes or all
-- was given, and answers with a timeout override.
use Rattle.std.proofs.Common.{inl, inr, sym, ◌∙◌, ap, append-nil, refl, arith}
use Rattle.std.proofs.lemmas.List.{drop_all}
use Rattle.std.specs.Prelude.{◌≡◌, ◌⊎◌, ◌+◌, Bool, true, false, not, ◌||◌, List, [], ◌∷◌, ◌++◌, length, map, Option, Some, None, if◌then◌else◌}
use Rattle.ext_msgs.specs.declared.answer.Answer.{Answer as Answering}
use Rattle.ext_msgs.specs.declared.answer.Member.{Member}
use Rattle.ext_msgs.specs.declared.answer.Member.TheVariants as member
use Rattle.ext_msgs.specs.declared.answer.Span.{Span}
use Rattle.http_model.specs.Bytes.{is_empty}
use Rattle.http_model.specs.declared.types.Direction.{Direction}
use Rattle.http_model.specs.declared.types.Direction.TheVariants.{Request, Response}
use Rattle.filter_model.specs.Config.{FilterConfig}
use Rattle.filter_model.specs.Course.{Course, asked, committed, out}
use Rattle.filter_model.specs.Account.{ExchangeAccount, counted_course, course, flow, front, gathered, is_finished, is_given, is_out_in, is_released, settled}
use Rattle.filter_model.specs.Answers.{answered, answered_by, ask_of, asked_in, extended_by}
use Rattle.filter_model.specs.Cut.{Clean, Cut, Failed, Gone, LongAnswer, Malformed, PartAnswer, Unopened, answer_cut, answer_cut_at, over_cut, part_answer, peer_cut, processor_cut}
use Rattle.filter_model.specs.Right.{Call, Stepped, IsHistory, account}
use Rattle.filter_model.specs.Step.{accepted, after, cut, cut_at, no_cut, on, step, step_if, under_cut, under_departure, with_ending}
use Rattle.filter_model.specs.Told.{IsNoCut, asks_behind}
use Rattle.filter_model.specs.ToldMore.{EndsStream, IsOfNoSide, IsTaken}
use Rattle.filter_model.specs.View.{ViewEntry, Answered, TooLong, Closed, NoStream, Tick, Starved}
use Rattle.filter_model.proofs.AnswerTold.{Ends, either_false}
use Rattle.filter_model.proofs.AtRest.{Rested, steady}
use Rattle.filter_model.proofs.StepGrows.{first_none}
use Rattle.filter_model.proofs.ToldEntry.{course_is, made_is, rested, same_count}
use Rattle.filter_model.proofs.ToldSame.{asked_none, committed_none}

-- A course at rest

stays : (c : FilterConfig) (d : Direction) (a : ExchangeAccount) → Rested c.course d (course d a) (front d a) (flow d a).given
    → asked c.course d (counted_course d (front d a) (flow d a).given (committed c.course d (course d a))) ≡ course d a
stays c d a r =
    let w : Course = course d a in
    ap (λ x. asked c.course d (counted_course d (front d a) (flow d a).given x)) (committed_none c.course d w r.chosen)
    ∙ ap (asked c.course d) (same_count d (front d a) (flow d a).given w (sym r.counted))
    ∙ asked_none c.course d w r.asked

none_made : (d : Direction) (w w' : Course) → w' ≡ w → asks_behind d w w' ≡ []
none_made d w w' e = ap (asks_behind d w) e ∙ ap (map (ask_of d)) (drop_all (length w.asks) w.asks (omega arith))

-- no ask follows, where both courses stay
same_made : (c : FilterConfig) (x : ExchangeAccount) → course Request (Ends c x) ≡ course Request x → course Response (Ends c x) ≡ course Response x → (Ends c x).made ≡ x.made
same_made c x e f =
    made_is c x
    ∙ ap (λ l. (x.made ++ l) ++ asks_behind Response (course Response x) (course Response (Ends c x))) (none_made Request (course Request x) (course Request (Ends c x)) e)
    ∙ ap (λ l. (x.made ++ []) ++ l) (none_made Response (course Response x) (course Response (Ends c x)) f)
    ∙ append-nil (x.made ++ []) ∙ append-nil x.made

pub timer_in : (d : Direction) (c : FilterConfig) (y : ExchangeAccount)
    → ((flow d (Ends c y)).deadline ≡ (if is_out_in y d then (flow d y).deadline else y.now + c.timeout_ms)) × ((flow d (Ends c y)).extended ≡ (flow d y).extended)
unfolding with_ending asked_in settled committed
timer_in Request c y = (refl, refl)
timer_in Response c y = (refl, refl)

-- Once the rest passes, or all was given

same_flow : (d : Direction) (e : ViewEntry) (a : ExchangeAccount) → IsOfNoSide e → (flow d (gathered e a) ≡ flow d a) × (front d (gathered e a) ≡ front d a)
unfolding gathered
same_flow d (Answered x) a s = (refl, refl)
same_flow d TooLong a s = (refl, refl)
same_flow Request (Closed b) a s = (refl, refl)
same_flow Response (Closed b) a s = (refl, refl)
same_flow Request NoStream a s = (refl, refl)
same_flow Response NoStream a s = (refl, refl)
same_flow Request (Tick n) a s = (refl, refl)
same_flow Response (Tick n) a s = (refl, refl)
same_flow d Starved a s = (refl, refl)
same_flow d _ a s = absurd s

same_finished : (c : FilterConfig) (e : ViewEntry) (a : ExchangeAccount) → IsOfNoSide e → (is_finished c (gathered e a) ≡ is_finished c a) × ((gathered e a).made ≡ a.made)
unfolding gathered is_finished is_given
same_finished c (Answered x) a s = (refl, refl)
same_finished c TooLong a s = (refl, refl)
same_finished c (Closed b) a s = (refl, refl)
same_finished c NoStream a s = (refl, refl)
same_finished c (Tick n) a s = (refl, refl)
same_finished c Starved a s = (refl, refl)
same_finished c _ a s = absurd s

either_true : (x y : Bool) → (x ≡ true) ⊎ (y ≡ true) → (x || y) ≡ true
either_true true y e = refl
either_true false y (inl e) = absurd cc
either_true false y (inr e) = e

idle_step : (c : FilterConfig) (e : ViewEntry) (a : ExchangeAccount) → IsOfNoSide e → IsNoCut c e a → (is_released a ≡ true) ⊎ (is_finished c a ≡ true) → step c e a ≡ Ends c (gathered e a)
unfolding step on no_cut under_cut
idle_step c e a s n p =
    let g : ExchangeAccount = gathered e a in
    ap (step_if c e a) n.live ∙ ap (λ b. with_ending c (under_departure c e g b)) n.stays ∙ ap (λ k. with_ending c (under_cut c e g k)) n.none
    ∙ ap (λ f. Ends c (accepted c e g (f.course.released || is_finished c g))) (same_flow Request e a s).0
    ∙ ap (λ f. Ends c (accepted c e g (is_released a || f))) (same_finished c e a s).0
    ∙ ap (λ b. Ends c (accepted c e g b)) (either_true (is_released a) (is_finished c a) p)

idle_course : (c : FilterConfig) (d : Direction) (e : ViewEntry) (a : ExchangeAccount) → IsOfNoSide e → Rested c.course d (course d a) (front d a) (flow d a).given → course d (Ends c (gathered e a)) ≡ course d a
idle_course c d e a s r =
    let g : ExchangeAccount = gathered e a in
    let f = same_flow d e a s in
    course_is c d g
    ∙ ap (λ x. asked c.course d (counted_course d (front d g) x.given (committed c.course d x.course))) f.0
    ∙ ap (λ l. asked c.course d (counted_course d l (flow d a).given (committed c.course d (course d a)))) f.1
    ∙ stays c d a r

pub idle_told : (c : FilterConfig) (h : List Call) (e : ViewEntry) → IsHistory c (Stepped e ∷ h) → IsOfNoSide e → IsNoCut c e (account c h)
    → (is_released (account c h) ≡ true) ⊎ (is_finished c (account c h) ≡ true) → (d : Direction) → course d (account c (Stepped e ∷ h)) ≡ course d (account c h)
unfolding after
idle_told c h e y s n p d =
    let a : ExchangeAccount = account c h in
    ap (course d) (idle_step c e a s n p) ∙ idle_course c d e a s (rested d c a (steady c h y.0) n.live)

pub idle_made : (c : FilterConfig) (h : List Call) (e : ViewEntry) → IsHistory c (Stepped e ∷ h) → IsOfNoSide e → IsNoCut c e (account c h)
    → (is_released (account c h) ≡ true) ⊎ (is_finished c (account c h) ≡ true) → (account c (Stepped e ∷ h)).made ≡ (account c h).made
unfolding after
idle_made c h e y s n p =
    let a : ExchangeAccount = account c h in
    let g : ExchangeAccount = gathered e a in
    ap (λ x. x.made) (idle_step c e a s n p)
    ∙ same_made c g
    (idle_course c Request e a s (rested Request c a (steady c h y.0) n.live) ∙ ap (λ f. f.course) (sym (same_flow Request e a s).0))
    (idle_course c Response e a s (rested Response c a (steady c h y.0) n.live) ∙ ap (λ f. f.course) (sym (same_flow Response e a s).0))
    ∙ (same_finished c e a s).1

pub idle_timer : (c : FilterConfig) (e : ViewEntry) (a : ExchangeAccount) → IsOfNoSide e → IsNoCut c e a → (is_released a ≡ true) ⊎ (is_finished c a ≡ true) → (d : Direction)
    → ((flow d (step c e a)).deadline ≡ (if is_out_in a d then (flow d a).deadline else (gathered e a).now + c.timeout_ms)) × ((flow d (step c e a)).extended ≡ (flow d a).extended)
idle_timer c e a s n p d =
    let g : ExchangeAccount = gathered e a in
    let i = idle_step c e a s n p in
    let t = timer_in d c g in
    let f = (same_flow d e a s).0 in (
      ap (λ x. (flow d x).deadline) i ∙ t.0 ∙ ap (λ x. if not (is_empty (out x.course)) then x.deadline else g.now + c.timeout_ms) f,
      ap (λ x. (flow d x).extended) i ∙ t.1 ∙ ap (λ x. x.extended) f,
    )

-- An answer with a timeout override

timed_step : (c : FilterConfig) (x : Answering) (t : Span) (a : ExchangeAccount) → IsNoCut c (Answered (Some x)) a → x.timeout ≡ Some t → is_released a ≡ false → is_finished c a ≡ false
    → step c (Answered (Some x)) a ≡ Ends c (extended_by c t a)
unfolding step on no_cut under_cut answered gathered
timed_step c x t a n e r f =
    ap (step_if c (Answered (Some x)) a) n.live
    ∙ ap (λ q. with_ending c (under_cut c (Answered (Some x)) a q)) n.none
    ∙ ap (λ b. Ends c (accepted c (Answered (Some x)) a b)) (either_false (is_released a) (is_finished c a) r f)
    ∙ ap (λ o. Ends c (answered_by c x a o)) e

timed_course : (d : Direction) (c : FilterConfig) (t : Span) (a : ExchangeAccount) → Rested c.course d (course d a) (front d a) (flow d a).given → course d (Ends c (extended_by c t a)) ≡ course d a
timed_course Request c t a r = course_is c Request (extended_by c t a) ∙ stays c Request a r
timed_course Response c t a r = course_is c Response (extended_by c t a) ∙ stays c Response a r

pub timed_told : (c : FilterConfig) (h : List Call) (x : Answering) (t : Span) → IsHistory c (Stepped (Answered (Some x)) ∷ h) → IsNoCut c (Answered (Some x)) (account c h) → x.timeout ≡ Some t
    → is_released (account c h) ≡ false → is_finished c (account c h) ≡ false → (d : Direction) → course d (account c (Stepped (Answered (Some x)) ∷ h)) ≡ course d (account c h)
unfolding after
timed_told c h x t y n e r f d =
    let a : ExchangeAccount = account c h in
    ap (course d) (timed_step c x t a n e r f) ∙ timed_course d c t a (rested d c a (steady c h y.0) n.live)

pub timed_made : (c : FilterConfig) (h : List Call) (x : Answering) (t : Span) → IsHistory c (Stepped (Answered (Some x)) ∷ h) → IsNoCut c (Answered (Some x)) (account c h) → x.timeout ≡ Some t
    → is_released (account c h) ≡ false → is_finished c (account c h) ≡ false → (account c (Stepped (Answered (Some x)) ∷ h)).made ≡ (account c h).made
unfolding after
timed_made c h x t y n e r f =
    let a : ExchangeAccount = account c h in
    ap (λ z. z.made) (timed_step c x t a n e r f)
    ∙ same_made c (extended_by c t a) (timed_course Request c t a (rested Request c a (steady c h y.0) n.live)) (timed_course Response c t a (rested Response c a (steady c h y.0) n.live))

timed_in : (d : Direction) (c : FilterConfig) (t : Span) (a : ExchangeAccount) → is_out_in (extended_by c t a) d ≡ is_out_in a d
timed_in Request c t a = refl
timed_in Response c t a = refl

pub timed_timer : (c : FilterConfig) (x : Answering) (t : Span) (a : ExchangeAccount) → IsNoCut c (Answered (Some x)) a → x.timeout ≡ Some t → is_released a ≡ false → is_finished c a ≡ false → (d : Direction)
    → ((flow d (step c (Answered (Some x)) a)).deadline ≡ (if is_out_in a d then (flow d (extended_by c t a)).deadline else a.now + c.timeout_ms))
    × ((flow d (step c (Answered (Some x)) a)).extended ≡ (flow d (extended_by c t a)).extended)
timed_timer c x t a n e r f d =
    let i = timed_step c x t a n e r f in
    let k = timer_in d c (extended_by c t a) in (
      ap (λ z. (flow d z).deadline) i ∙ k.0 ∙ ap (λ b. if b then (flow d (extended_by c t a)).deadline else a.now + c.timeout_ms) (timed_in d c t a),
      ap (λ z. (flow d z).extended) i ∙ k.1,
    )

-- Want of memory

gone_unless : (f r : Bool) (over : Option Cut) → cut_at f r None over (Some Gone) ≡ None → f ≡ true
gone_unless true r over e = refl
gone_unless false true over e = absurd cc
gone_unless false false (Some k) e = absurd cc
gone_unless false false None e = absurd cc

pub starved_last : (c : FilterConfig) (a : ExchangeAccount) → IsNoCut c Starved a → is_finished c a ≡ true
unfolding cut processor_cut peer_cut gathered
starved_last c a n = gone_unless (is_finished c a) (is_released a) (over_cut c (answered c Starved a)) n.none

-- What else is no cut

processor_none : (f r : Bool) (k : Cut) (over peer : Option Cut) → cut_at f r (Some k) over peer ≡ None → (r ≡ true) ⊎ (f ≡ true)
processor_none true r k over peer e = inr refl
processor_none false true k over peer e = inl refl
processor_none false false k over peer e = absurd cc

late_by : (c : FilterConfig) (e : ViewEntry) (g : ExchangeAccount) (k : Cut) → processor_cut c g e ≡ Some k → cut c e g ≡ None → (is_released g ≡ true) ⊎ (is_finished c g ≡ true)
unfolding cut
late_by c e g k i n =
    processor_none (is_finished c g) (is_released g) k (over_cut c (answered c e g)) (peer_cut c g e)
    (ap (λ q. cut_at (is_finished c g) (is_released g) q (over_cut c (answered c e g)) (peer_cut c g e)) (sym i) ∙ n)

pub ends_late : (c : FilterConfig) (e : ViewEntry) (a : ExchangeAccount) → EndsStream e → IsNoCut c e a → (is_released a ≡ true) ⊎ (is_finished c a ≡ true)
unfolding processor_cut gathered is_finished is_given
ends_late c TooLong a s n = late_by c TooLong (gathered TooLong a) LongAnswer refl n.none
ends_late c (Closed true) a s n = late_by c (Closed true) (gathered (Closed true) a) Clean refl n.none
ends_late c (Closed false) a s n = late_by c (Closed false) (gathered (Closed false) a) Failed refl n.none
ends_late c NoStream a s n = late_by c NoStream (gathered NoStream a) Unopened refl n.none
ends_late c _ a s n = absurd s

pub is_taken : (c : FilterConfig) (x : Option Answering) (a : ExchangeAccount) → IsNoCut c (Answered x) a → is_released a ≡ false → is_finished c a ≡ false → IsTaken c a x
unfolding processor_cut answer_cut gathered
is_taken c None a n r f = never (late_by c (Answered None) (gathered (Answered None) a) Malformed refl n.none)
  where
    clash : {A : Type 0} → true ≡ false → A
    clash e = cc

    never : (is_released a ≡ true) ⊎ (is_finished c a ≡ true) → ⊥
    never (inl e) = clash (sym e ∙ r)
    never (inr e) = clash (sym e ∙ f)
is_taken c (Some x) a n r f = by x.timeout x.member refl refl (first_none c x a (either_false (is_released a) (is_finished c a) r f) n.none)
  where
    of_part : (m : Member) (p : PartAnswer) → x.timeout ≡ None → x.member ≡ m → part_answer m ≡ Some p → IsTaken c a (Some x)
    of_part m p t i e = inr (p, record { untimed = t; part = ap part_answer i ∙ e; unreleased = r; unfinished = f })

    by : (t : Option Span) (m : Member) → x.timeout ≡ t → x.member ≡ m → answer_cut_at c a t m ≡ None → IsTaken c a (Some x)
    by (Some t) m i j e = inl (t, i)
    by None member.Unset i j e = absurd cc
    by None (member.Immediate k) i j e = absurd cc
    by None (member.RequestHeaders k) i j e = of_part (member.RequestHeaders k) _ i j refl
    by None (member.ResponseHeaders k) i j e = of_part (member.ResponseHeaders k) _ i j refl
    by None (member.RequestBody k) i j e = of_part (member.RequestBody k) _ i j refl
    by None (member.ResponseBody k) i j e = of_part (member.ResponseBody k) _ i j refl
    by None (member.RequestTrailers k) i j e = of_part (member.RequestTrailers k) _ i j refl
    by None (member.ResponseTrailers k) i j e = of_part (member.ResponseTrailers k) _ i j refl
