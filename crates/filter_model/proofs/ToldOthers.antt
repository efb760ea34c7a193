-- What the halves are told of an ask that was sent, of bytes that were given, and of a cut that lets the rest pass.
use Rattle.std.proofs.Common.{sym, ◌∙◌, ap, refl, arith, length-append}
use Rattle.std.specs.Prelude.{ℕ, suc, ◌≡◌, ◌+◌, ◌-◌, ◌≤◌, Bool, true, false, ◌||◌, List, [], ◌∷◌, ◌++◌, length, drop, Option, Some, None, if◌then◌else◌}
use Rattle.http_model.specs.Wire.{head_bytes}
use Rattle.http_model.specs.declared.types.Direction.{Direction}
use Rattle.http_model.specs.declared.types.Direction.TheVariants.{Request, Response}
use Rattle.http_model.specs.declared.types.Framing.{Framing}
use Rattle.http_model.specs.declared.types.Framing.TheVariants.{NoField, Length, Chunked}
use Rattle.filter_model.specs.Config.{CourseConfig, FilterConfig}
use Rattle.filter_model.specs.Course.{Course, Outgoing, committed, asked, head_may_go}
use Rattle.filter_model.specs.Outgoing.{Framed, framed_on, data_count, InSize, carried}
use Rattle.filter_model.specs.Account.{ExchangeAccount, course, flow, front, gathered, settled, counted_course, given_count, is_in, unsent, is_finished, is_released, from, to}
use Rattle.filter_model.specs.Answers.{answered, asked_in}
use Rattle.filter_model.specs.Half as half
use Rattle.filter_model.specs.Half.{HalfCall}
use Rattle.filter_model.specs.Right.{Call, Stepped, Took, IsHistory, account}
use Rattle.filter_model.specs.Step.{accepted, no_cut, under_cut, under_departure, step, step_if, with_ending, on, after}
use Rattle.filter_model.specs.View.{ViewEntry, Sent, Given}
use Rattle.filter_model.specs.declared.calls.Side.{Side}
use Rattle.filter_model.specs.declared.calls.Side.TheVariants.{Client, Upstream}
use Rattle.filter_model.specs.declared.calls.Taken.TheVariants.{Piece}
use Rattle.filter_model.specs.Told.{IsNoCut, known, more_given, told}
use Rattle.filter_model.proofs.AtRest.{Rested, steady}
use Rattle.filter_model.proofs.Known.{asked_known, due_known}
use Rattle.filter_model.proofs.ToldEntry.{rested, course_is, same_count}
use Rattle.filter_model.proofs.ToldSame.{asked_none, committed_none, rests}

-- An entry that brings no answer

abbrev BringsNone : ViewEntry → Type 0
BringsNone Sent = Unit {0}
BringsNone (Given s bytes) = Unit {0}
BringsNone _ = ⊥

taken_as : (c : FilterConfig) (e : ViewEntry) (a : ExchangeAccount) → BringsNone e → (b : Bool) → accepted c e a b ≡ a
unfolding answered
taken_as c e a s true = refl
taken_as c Sent a s false = refl
taken_as c (Given side bytes) a s false = refl
taken_as c _ a s false = absurd s

step_is : (c : FilterConfig) (e : ViewEntry) (a : ExchangeAccount) → BringsNone e → IsNoCut c e a
    → step c e a ≡ with_ending c (asked_in c Response (asked_in c Request (settled c (gathered e a))))
unfolding step on no_cut under_cut
step_is c e a s n =
    let g : ExchangeAccount = gathered e a in
    ap (step_if c e a) n.live ∙ ap (λ b. with_ending c (under_departure c e g b)) n.stays ∙ ap (λ k. with_ending c (under_cut c e g k)) n.none
    ∙ ap (λ x. with_ending c (asked_in c Response (asked_in c Request (settled c x)))) (taken_as c e g s (is_released g || is_finished c g))

-- An ask was sent

-- what is sent changes no head
sent_committed : (c : CourseConfig) (d : Direction) (w : Course) (n : ℕ) → (w.head ≡ None → head_may_go w ≡ true → w.original.head ≡ None) → committed c d (record w { sent = n }) ≡ record w { sent = n }
sent_committed c d w n e = committed_none c d (record w { sent = n }) e

sent_counted : (c : FilterConfig) (d : Direction) (a : ExchangeAccount) (b : Bool) → Rested c.course d (course d a) (front d a) (flow d a).given
    → known (asked c.course d (counted_course d (front d a) (flow d a).given (committed c.course d (record (course d a) { sent = if b then suc (course d a).sent else (course d a).sent }))))
    ≡ told c.course d (if b then half.Sent ∷ [] else []) (known (course d a))
sent_counted c d a b r =
    let w : Course = course d a in
    let n : ℕ = if b then suc w.sent else w.sent in
    ap (λ x. known (asked c.course d (counted_course d (front d a) (flow d a).given x))) (sent_committed c.course d w n r.chosen)
    ∙ ap (λ x. known (asked c.course d x)) (same_count d (front d a) (flow d a).given (record w { sent = n }) (sym r.counted))
    ∙ sym (asked_known c.course d (record w { sent = n }))
    ∙ by b
  where
    by : (b : Bool) → asked c.course d (known (record (course d a) { sent = if b then suc (course d a).sent else (course d a).sent })) ≡ told c.course d (if b then half.Sent ∷ [] else []) (known (course d a))
    by true = ap (asked c.course d) (sym (sent_committed c.course d (known (course d a)) (suc (course d a).sent) r.chosen))
    by false = ap (asked c.course d) (sym (committed_none c.course d (known (course d a)) r.chosen)) ∙ rests c.course d (known (course d a)) r.chosen (due_known c.course d (course d a) ∙ r.asked)

sent_in : (d : Direction) (c : FilterConfig) (a : ExchangeAccount) → Rested c.course d (course d a) (front d a) (flow d a).given
    → known (asked c.course d (counted_course d (front d (gathered Sent a)) (flow d (gathered Sent a)).given (committed c.course d (course d (gathered Sent a)))))
    ≡ told c.course d (if is_in d (unsent a) then half.Sent ∷ [] else []) (known (course d a))
unfolding gathered
sent_in Request c a r = sent_counted c Request a (is_in Request (unsent a)) r
sent_in Response c a r = sent_counted c Response a (is_in Response (unsent a)) r

pub sent_told : (c : FilterConfig) (h : List Call) → IsHistory c (Stepped Sent ∷ h) → IsNoCut c Sent (account c h) → (d : Direction)
    → known (course d (account c (Stepped Sent ∷ h))) ≡ told c.course d (if is_in d (unsent (account c h)) then half.Sent ∷ [] else []) (known (course d (account c h)))
unfolding after
sent_told c h y n d =
    let a : ExchangeAccount = account c h in
    ap known (ap (course d) (step_is c Sent a tt n) ∙ course_is c d (gathered Sent a)) ∙ sent_in d c a (rested d c a (steady c h y.0) n.live)

-- Bytes were given

more_data : (s : Framed) (xs ys : List ℕ) → data_count s xs ≤ data_count s (xs ++ ys)
more_data s [] ys = omega arith
more_data s (x ∷ xs) ys = let h = more_data (framed_on s x) xs ys in omega (arith, h)

more_carried : (f : Framing) (xs ys : List ℕ) → carried f xs ≤ carried f (xs ++ ys)
more_carried NoField xs ys = let e = length-append xs ys in omega (arith, e)
more_carried (Length m) xs ys = let e = length-append xs ys in omega (arith, e)
more_carried Chunked xs ys = more_data (InSize 0) xs ys

drop_more : (n : ℕ) (xs ys : List ℕ) → (zs : List ℕ) × (drop n (xs ++ ys) ≡ drop n xs ++ zs)
drop_more ℕ.zero xs ys = (ys, refl)
drop_more (ℕ.suc n) [] ys = (drop (ℕ.suc n) ys, refl)
drop_more (ℕ.suc n) (x ∷ xs) ys = drop_more n xs ys

more_counted : (d : Direction) (o : Option Outgoing) (front given bytes : List ℕ) → given_count d o front given ≤ given_count d o front (given ++ bytes)
more_counted d None front given bytes = omega arith
more_counted d (Some o) front given bytes =
    let n : ℕ = length (front ++ head_bytes d o.fields o.framing) in
    let z = drop_more n given bytes in
    let e : carried o.framing (drop n (given ++ bytes)) ≡ carried o.framing (drop n given ++ z.0) = ap (carried o.framing) z.1 in
    let m : carried o.framing (drop n given) ≤ carried o.framing (drop n given ++ z.0) = more_carried o.framing (drop n given) z.0 in
    omega (arith, e, m)

given_counted : (c : FilterConfig) (d : Direction) (a : ExchangeAccount) (bytes : List ℕ) → Rested c.course d (course d a) (front d a) (flow d a).given
    → known (asked c.course d (counted_course d (front d a) ((flow d a).given ++ bytes) (committed c.course d (course d a))))
    ≡ told c.course d (half.Given (given_count d (course d a).head (front d a) ((flow d a).given ++ bytes) - (course d a).given) ∷ []) (known (course d a))
given_counted c d a bytes r =
    let w : Course = course d a in
    let m : ℕ = given_count d w.head (front d a) ((flow d a).given ++ bytes) in
    let l : given_count d w.head (front d a) (flow d a).given ≤ m = more_counted d w.head (front d a) (flow d a).given bytes in
    let k : w.given ≡ given_count d w.head (front d a) (flow d a).given = r.counted in
    let e : m ≡ w.given + (m - w.given) = omega (arith, l, k) in
    ap (λ x. known (asked c.course d (counted_course d (front d a) ((flow d a).given ++ bytes) x))) (committed_none c.course d w r.chosen)
    ∙ sym (asked_known c.course d (record w { given = m }))
    ∙ ap (λ n. asked c.course d (known (record w { given = n }))) e
    ∙ ap (asked c.course d) (sym (committed_none c.course d (known (record w { given = w.given + (m - w.given) })) r.chosen))

pub untouched : (c : FilterConfig) (d : Direction) (a : ExchangeAccount) → Rested c.course d (course d a) (front d a) (flow d a).given
    → known (asked c.course d (counted_course d (front d a) (flow d a).given (committed c.course d (course d a)))) ≡ known (course d a)
untouched c d a r =
    let w : Course = course d a in
    ap (λ x. known (asked c.course d (counted_course d (front d a) (flow d a).given x))) (committed_none c.course d w r.chosen)
    ∙ ap (λ x. known (asked c.course d x)) (same_count d (front d a) (flow d a).given w (sym r.counted))
    ∙ ap known (asked_none c.course d w r.asked)

given_in : (c : FilterConfig) (s : Side) (bytes : List ℕ) (a : ExchangeAccount) → Rested c.course (to s) (course (to s) a) (front (to s) a) (flow (to s) a).given
    → known (asked c.course (to s) (counted_course (to s) (front (to s) (gathered (Given s bytes) a)) (flow (to s) (gathered (Given s bytes) a)).given (committed c.course (to s) (course (to s) (gathered (Given s bytes) a)))))
    ≡ told c.course (to s) (half.Given (more_given s bytes a) ∷ []) (known (course (to s) a))
unfolding gathered
given_in c Client bytes a r = given_counted c Response a bytes r
given_in c Upstream bytes a r = given_counted c Request a bytes r

other_in : (c : FilterConfig) (s : Side) (bytes : List ℕ) (a : ExchangeAccount) → Rested c.course (from s) (course (from s) a) (front (from s) a) (flow (from s) a).given
    → known (asked c.course (from s) (counted_course (from s) (front (from s) (gathered (Given s bytes) a)) (flow (from s) (gathered (Given s bytes) a)).given (committed c.course (from s) (course (from s) (gathered (Given s bytes) a)))))
    ≡ known (course (from s) a)
unfolding gathered
other_in c Client bytes a r = untouched c Request a r
other_in c Upstream bytes a r = untouched c Response a r

pub given_told : (c : FilterConfig) (h : List Call) (s : Side) (bytes : List ℕ) → IsHistory c (Took s (Piece bytes) ∷ h) → IsNoCut c (Given s bytes) (account c h)
    → known (course (to s) (account c (Took s (Piece bytes) ∷ h))) ≡ told c.course (to s) (half.Given (more_given s bytes (account c h)) ∷ []) (known (course (to s) (account c h)))
unfolding after
given_told c h s bytes y n =
    let a : ExchangeAccount = account c h in
    ap known (ap (course (to s)) (step_is c (Given s bytes) a tt n) ∙ course_is c (to s) (gathered (Given s bytes) a))
    ∙ given_in c s bytes a (rested (to s) c a (steady c h y.0) n.live)

pub given_other : (c : FilterConfig) (h : List Call) (s : Side) (bytes : List ℕ) → IsHistory c (Took s (Piece bytes) ∷ h) → IsNoCut c (Given s bytes) (account c h)
    → known (course (from s) (account c (Took s (Piece bytes) ∷ h))) ≡ known (course (from s) (account c h))
unfolding after
given_other c h s bytes y n =
    let a : ExchangeAccount = account c h in
    ap known (ap (course (from s)) (step_is c (Given s bytes) a tt n) ∙ course_is c (from s) (gathered (Given s bytes) a))
    ∙ other_in c s bytes a (rested (from s) c a (steady c h y.0) n.live)
