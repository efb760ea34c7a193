-- A cut that lets the rest pass is a release for both halves.
use Rattle.std.proofs.Common.{sym, ◌∙◌, ap, refl}
use Rattle.std.specs.Prelude.{ℕ, ◌≡◌, ◌≤◌, Bool, true, false, ◌&&◌, ◌||◌, List, [], ◌∷◌, length, Option, Some, None, if◌then◌else◌, is_none, option_map}
use Rattle.http_model.specs.declared.types.Direction.{Direction}
use Rattle.http_model.specs.declared.types.Direction.TheVariants.{Request, Response}
use Rattle.filter_model.specs.Config.{FilterConfig}
use Rattle.filter_model.specs.Course.{Course, Outgoing, committed, head_may_go, outgoing}
use Rattle.filter_model.specs.Account.{ExchangeAccount, course, counted_course, flow, front, gathered, given_count, settled}
use Rattle.filter_model.specs.Cut.{Cut}
use Rattle.filter_model.specs.Half as half
use Rattle.filter_model.specs.Right.{Call, Stepped, IsHistory, account}
use Rattle.filter_model.specs.Step.{after, effect, lets_pass, on, step, step_if, under_cut, under_departure, with_ending}
use Rattle.filter_model.specs.View.{ViewEntry, Answered, TooLong, Closed, NoStream, Tick}
use Rattle.filter_model.specs.Told.{IsLetPass, IsOfProcessor, known, told}
use Rattle.filter_model.proofs.AtRest.{Rested, none_due, released_next, steady}
use Rattle.filter_model.proofs.Known.{committed_known}
use Rattle.filter_model.proofs.ToldEntry.{few_given, head_stays, none_given, rested, same_count}
use Rattle.filter_model.proofs.ToldSame.{asked_none, committed_none}

stays : (c : FilterConfig) (e : ViewEntry) (g : ExchangeAccount) → IsOfProcessor e → on c e g ≡ under_departure c e g false
unfolding on
stays c (Answered x) g s = refl
stays c TooLong g s = refl
stays c (Closed b) g s = refl
stays c NoStream g s = refl
stays c (Tick n) g s = refl
stays c _ g s = absurd s

step_is : (c : FilterConfig) (e : ViewEntry) (a : ExchangeAccount) (k : Cut) → IsOfProcessor e → IsLetPass c e a k
    → step c e a ≡ with_ending c (settled c (effect c k (settled c (gathered e a))))
unfolding step under_cut
step_is c e a k s n =
    let g : ExchangeAccount = gathered e a in
    ap (step_if c e a) n.live ∙ ap (with_ending c) (stays c e g s) ∙ ap (λ x. with_ending c (under_cut c e g x)) n.is

same_flow : (d : Direction) (e : ViewEntry) (a : ExchangeAccount) → IsOfProcessor e → (flow d (gathered e a) ≡ flow d a) × (front d (gathered e a) ≡ front d a)
unfolding gathered
same_flow Request (Answered x) a s = (refl, refl)
same_flow Request TooLong a s = (refl, refl)
same_flow Request (Closed b) a s = (refl, refl)
same_flow Request NoStream a s = (refl, refl)
same_flow Request (Tick n) a s = (refl, refl)
same_flow Response (Answered x) a s = (refl, refl)
same_flow Response TooLong a s = (refl, refl)
same_flow Response (Closed b) a s = (refl, refl)
same_flow Response NoStream a s = (refl, refl)
same_flow Response (Tick n) a s = (refl, refl)
same_flow d _ a s = absurd s

-- what the effect makes of a course
abbrev pub passed : FilterConfig → Direction → Bool → List ℕ → List ℕ → Course → Course
passed c d b front given w =
    let x : Course = counted_course d front given (committed c.course d w) in
    counted_course d front given (committed c.course d (record x { released = x.released || b }))

pub course_is : (c : FilterConfig) (k : Cut) (d : Direction) (x : ExchangeAccount)
    → course d (with_ending c (settled c (effect c k (settled c x)))) ≡ passed c d (lets_pass c k) (front d x) (flow d x).given (flow d x).course
unfolding with_ending settled effect committed
course_is c k Request x = refl
course_is c k Response x = refl

or_true : (x b : Bool) → b ≡ true → (x || b) ≡ true
or_true true b e = refl
or_true false b e = e

passed_is : (c : FilterConfig) (d : Direction) (b : Bool) (front given : List ℕ) (w : Course) → Rested c.course d w front given → b ≡ true → (w.head ≡ None → length given ≤ length front)
    → known (passed c d b front given w) ≡ told c.course d (half.Release ∷ []) (known w)
unfolding committed
passed_is c d b front given w r e few =
    ap (λ x. known (counted_course d front given (committed c.course d (record x { released = x.released || b }))))
    (ap (counted_course d front given) (committed_none c.course d w r.chosen) ∙ same_count d front given w (sym r.counted))
    ∙ ap (λ p. known (counted_course d front given (committed c.course d (record w { released = p })))) (or_true w.released b e)
    ∙ ap known (same_count d front given (committed c.course d v) (kept w.head refl))
    ∙ sym (committed_known c.course d v)
    ∙ sym (asked_none c.course d (committed c.course d (known v)) (none_due c.course d (committed c.course d (known v)) (released_next c.course (committed c.course d (known v)) refl)))
  where
    v : Course
    v = record w { released = true }

    chosen : Option Outgoing
    chosen = if is_none w.head && head_may_go v then option_map (outgoing c.course d v) w.original.head else w.head

    kept : (o : Option Outgoing) → w.head ≡ o → given_count d chosen front given ≡ w.given
    kept None n = none_given d chosen front given (few n) ∙ sym (r.counted ∙ ap (λ z. given_count d z front given) n)
    kept (Some o) n = ap (λ z. given_count d z front given) (head_stays o w.head _ (head_may_go v) n ∙ sym n) ∙ sym r.counted

pub release_told : (c : FilterConfig) (h : List Call) (e : ViewEntry) (k : Cut) → IsHistory c (Stepped e ∷ h) → IsOfProcessor e → IsLetPass c e (account c h) k → (d : Direction)
    → known (course d (account c (Stepped e ∷ h))) ≡ told c.course d (half.Release ∷ []) (known (course d (account c h)))
unfolding after
release_told c h e k y s n d =
    let a : ExchangeAccount = account c h in
    let f = same_flow d e a s in
    ap known (ap (course d) (step_is c e a k s n) ∙ course_is c k d (gathered e a)
    ∙ ap (λ l. passed c d (lets_pass c k) l (flow d (gathered e a)).given (flow d (gathered e a)).course) f.1
    ∙ ap (λ x. passed c d (lets_pass c k) (front d a) x.given x.course) f.0)
    ∙ passed_is c d (lets_pass c k) (front d a) (flow d a).given (course d a) (rested d c a (steady c h y.0) n.live) n.passes (few_given c h y.0 n.live d)
