-- At most four asks of a direction aren't sent, and so at most eight of both.
use Rattle.std.proofs.Common.{refl, arith, ltb-true, length-append}
use Rattle.std.proofs.lemmas.List.{length-take-le}
use Rattle.std.specs.Prelude.{ℕ, suc, ◌≡◌, ◌+◌, ◌-◌, ◌<◌, ◌≤◌, min, Bool, true, false, ◌&&◌, ◌||◌, List, [], ◌∷◌, ◌++◌, length, take, map, Option, Some, None, if◌then◌else◌, option_to_list, nat_lt, nat_le}
use Rattle.ext_msgs.specs.declared.answer.Answer.{Answer}
use Rattle.ext_msgs.specs.declared.answer.ModeNumbers.{ModeNumbers}
use Rattle.ext_msgs.specs.declared.answer.Span.{Span}
use Rattle.ext_msgs.specs.declared.ask.Ask.{Ask}
use Rattle.http_model.specs.declared.types.Direction.{Direction}
use Rattle.http_model.specs.declared.types.Direction.TheVariants.{Request, Response}
use Rattle.filter_model.specs.Config.{CourseConfig, FilterConfig}
use Rattle.filter_model.specs.Course.{Course, AskedPart, next, is_permitted, queue, one_asked, asked, ask_limit}
use Rattle.filter_model.specs.Account.{ExchangeAccount, course, gathered, settled, brought, is_in, direction_of, unsent, is_released, is_finished}
use Rattle.filter_model.specs.Cut.{Cut, PartAnswer, part_answer}
use Rattle.filter_model.specs.Answers.{answered, answered_by, part_answered, ask_of, asked_in}
use Rattle.filter_model.specs.InTurn.{asks_in}
use Rattle.filter_model.specs.Right.{Call, Stepped, Took, Nexted, Failed, account}
use Rattle.filter_model.specs.Step.{rules, step, step_if, after, after_end, still_counts, under_cut, under_departure, no_cut, cut, is_departure, is_live, accepted, with_ending, on, effect}
use Rattle.filter_model.specs.View.{ViewEntry, Bytes, End, Lost, Answered, TooLong, Closed, NoStream, Tick, Starved, Sent, Given}
use Rattle.filter_model.specs.declared.calls.Side.TheVariants.{Client, Upstream}
use Rattle.filter_model.specs.declared.calls.Taken.TheVariants.{Piece}
use Rattle.filter_model.proofs.Counts.{Counts, asks_are, counts_first, sent_are, step_counts, tally}

abbrev IsFew : Course → Type 0
IsFew w = length w.asks ≤ w.sent + 4

record Few (a : ExchangeAccount) : Type 0 where
  request : IsFew a.request.course
  response : IsFew a.response.course

-- One ask more

first_true : (x y : Bool) → (x && y) ≡ true → x ≡ true
first_true true y e = refl
first_true false y e = absurd cc

one_more : (asks : List AskedPart) (n : Option AskedPart) → length (asks ++ option_to_list n) ≤ length asks + 1
one_more asks None = let e : length (asks ++ []) ≡ length asks + 0 = length-append asks [] in omega (arith, e)
one_more asks (Some p) = let e : length (asks ++ p ∷ []) ≡ length asks + 1 = length-append asks (p ∷ []) in omega (arith, e)

permitted_few : (c : CourseConfig) (d : Direction) (w : Course) → is_permitted c d w ≡ true → length w.asks - min (length w.answers) w.sent < 4
unfolding is_permitted
permitted_few c d w e = ltb-true (length w.asks - min (length w.answers) w.sent) 4 (first_true (nat_lt (length w.asks - min (length w.answers) w.sent) ask_limit) (nat_le (queue c d w) c.mark) e)

one_few : (c : CourseConfig) (d : Direction) (w : Course) → IsFew w → IsFew (one_asked c d w)
unfolding one_asked
one_few c d w k = by (is_permitted c d w) refl
  where
    by : (b : Bool) → is_permitted c d w ≡ b → length (w.asks ++ (if b then option_to_list (next c w) else [])) ≤ w.sent + 4
    by true e =
        let l = permitted_few c d w e in
        let m = one_more w.asks (next c w) in
        omega (arith, l, m)
    by false e = let m : length (w.asks ++ []) ≡ length w.asks + 0 = length-append w.asks [] in omega (arith, k, m)

asked_few : (c : CourseConfig) (d : Direction) (w : Course) → IsFew w → IsFew (asked c d w)
unfolding asked
asked_few c d w k =
    let w1 : Course = one_asked c d w in
    let w2 : Course = one_asked c d w1 in
    one_few c d (one_asked c d w2) (one_few c d w2 (one_few c d w1 (one_few c d w k)))

in_few : (c : FilterConfig) (d : Direction) (a : ExchangeAccount) → Few a → Few (asked_in c d a)
unfolding asked_in
in_few c Request a k = record { request = asked_few c.course Request a.request.course k.request; response = k.response }
in_few c Response a k = record { request = k.request; response = asked_few c.course Response a.response.course k.response }

-- One is sent

sent_few : (asks : List AskedPart) (n : ℕ) (b : Bool) → length asks ≤ n + 4 → length asks ≤ (if b then suc n else n) + 4
sent_few asks n true k = omega (arith, k)
sent_few asks n false k = k

-- All else leaves them

joined_few : (c : FilterConfig) (x : PartAnswer) (modes : Option ModeNumbers) (a : ExchangeAccount) (d : Direction) → d ≡ x.direction → Few a → Few (part_answered c modes a (Some (record x { direction = d })))
joined_few c x modes a Request e k = record { request = k.request; response = k.response }
joined_few c x modes a Response e k = record { request = k.request; response = k.response }

part_few : (c : FilterConfig) (modes : Option ModeNumbers) (a : ExchangeAccount) (p : Option PartAnswer) → Few a → Few (part_answered c modes a p)
part_few c modes a None k = k
part_few c modes a (Some p) k = joined_few c p modes a p.direction refl k

by_few : (c : FilterConfig) (x : Answer) (a : ExchangeAccount) (t : Option Span) → Few a → Few (answered_by c x a t)
by_few c x a (Some t) k = record { request = k.request; response = k.response }
by_few c x a None k = part_few c x.modes a (part_answer x.member) k

answered_few : (c : FilterConfig) (e : ViewEntry) (a : ExchangeAccount) → Few a → Few (answered c e a)
unfolding answered
answered_few c (Answered (Some x)) a k = by_few c x a x.timeout k
answered_few c _ a k = k

accepted_few : (c : FilterConfig) (e : ViewEntry) (a : ExchangeAccount) (b : Bool) → Few a → Few (accepted c e a b)
accepted_few c e a true k = k
accepted_few c e a false k = answered_few c e a k

settled_few : (c : FilterConfig) (a : ExchangeAccount) → Few a → Few (settled c a)
unfolding rules
settled_few c a k = record { request = k.request; response = k.response }

effect_few : (c : FilterConfig) (x : Cut) (a : ExchangeAccount) → Few a → Few (effect c x a)
unfolding rules
effect_few c x a k = record { request = k.request; response = k.response }

under_cut_few : (c : FilterConfig) (e : ViewEntry) (a : ExchangeAccount) (x : Option Cut) → Few a → Few (under_cut c e a x)
unfolding under_cut no_cut
under_cut_few c e a (Some x) k = settled_few c (effect c x (settled c a)) (effect_few c x (settled c a) (settled_few c a k))
under_cut_few c e a None k =
    let b : ExchangeAccount = accepted c e a (is_released a || is_finished c a) in
    in_few c Response (asked_in c Request (settled c b)) (in_few c Request (settled c b) (settled_few c b (accepted_few c e a (is_released a || is_finished c a) k)))

departure_few : (c : FilterConfig) (e : ViewEntry) (a : ExchangeAccount) (b : Bool) → Few a → Few (under_departure c e a b)
departure_few c e a true k = record { request = k.request; response = k.response }
departure_few c e a false k = under_cut_few c e a (cut c e a) k

gathered_few : (e : ViewEntry) (a : ExchangeAccount) → Few a → Few (gathered e a)
unfolding gathered brought
gathered_few (Bytes Client bytes) a k = record { request = k.request; response = k.response }
gathered_few (Bytes Upstream bytes) a k = record { request = k.request; response = k.response }
gathered_few (End Client) a k = record { request = k.request; response = k.response }
gathered_few (End Upstream) a k = record { request = k.request; response = k.response }
gathered_few (Lost Client how) a k = record { request = k.request; response = k.response }
gathered_few (Lost Upstream how) a k = record { request = k.request; response = k.response }
gathered_few (Given Client bytes) a k = record { request = k.request; response = k.response }
gathered_few (Given Upstream bytes) a k = record { request = k.request; response = k.response }
gathered_few (Answered x) a k = k
gathered_few TooLong a k = k
gathered_few (Closed b) a k = record { request = k.request; response = k.response }
gathered_few NoStream a k = record { request = k.request; response = k.response }
gathered_few (Tick n) a k = record { request = k.request; response = k.response }
gathered_few Starved a k = k
gathered_few Sent a k = record {
  request = sent_few a.request.course.asks a.request.course.sent (is_in Request (unsent a)) k.request;
  response = sent_few a.response.course.asks a.response.course.sent (is_in Response (unsent a)) k.response;
}

if_few : (c : FilterConfig) (e : ViewEntry) (a : ExchangeAccount) (live : Bool) → Few a → Few (step_if c e a live)
unfolding on with_ending
if_few c e a true k =
    let g : ExchangeAccount = gathered e a in
    let x : Few (under_departure c e g (is_departure e g)) = departure_few c e g (is_departure e g) (gathered_few e a k) in
    record { request = x.request; response = x.response }
if_few c e a false k = by (still_counts e)
  where
    by : (b : Bool) → Few (after_end e a b)
    by true = gathered_few e a k
    by false = k

-- Along a history

record Marked (c : FilterConfig) (a : ExchangeAccount) : Type 0 where
  few : Few a
  counts : Counts a

step_marked : (c : FilterConfig) (e : ViewEntry) (a : ExchangeAccount) → Marked c a → Marked c (step c e a)
unfolding step
step_marked c e a m = record { few = if_few c e a (is_live a.fate) m.few; counts = step_counts c e a m.counts }

marked : (c : FilterConfig) (h : List Call) → Marked c (account c h)
unfolding after
marked c [] = record { few = record { request = omega arith; response = omega arith }; counts = counts_first c }
marked c (Stepped e ∷ h) = step_marked c e (account c h) (marked c h)
marked c (Took side (Piece bytes) ∷ h) = step_marked c (Given side bytes) (account c h) (marked c h)
marked c (Took side _ ∷ h) = marked c h
marked c (Nexted n ∷ h) = marked c h
marked c (Failed ∷ h) = marked c h

-- Both directions together

tally_all : (made : List Ask) → tally Request made + tally Response made ≡ length made
tally_all [] = refl
tally_all (x ∷ made) = by (direction_of x) (tally_all made)
  where
    one : Bool → ℕ
    one true = 1
    one false = 0

    by : (d : Direction) → tally Request made + tally Response made ≡ length made
        → (one (is_in Request (Some d)) + tally Request made) + (one (is_in Response (Some d)) + tally Response made) ≡ length (x ∷ made)
    by Request e = omega (arith, e)
    by Response e = omega (arith, e)

pub few_unsent : (c : FilterConfig) (h : List Call) → length (account c h).made ≤ (account c h).sent + 8
few_unsent c h =
    let a : ExchangeAccount = account c h in
    let m : Marked c a = marked c h in
    let all : tally Request a.made + tally Response a.made ≡ length a.made = tally_all a.made in
    let some : tally Request (take a.sent a.made) + tally Response (take a.sent a.made) ≡ length (take a.sent a.made) = tally_all (take a.sent a.made) in
    let size : length (take a.sent a.made) ≡ a.sent = length-take-le a.sent a.made m.counts.bound in
    omega (arith, all, some, size, m.few.request, m.few.response, m.counts.request_made, m.counts.response_made, m.counts.request_sent, m.counts.response_sent)

pub few_in : (c : FilterConfig) (h : List Call) (d : Direction) → length (course d (account c h)).asks ≤ (course d (account c h)).sent + 4
few_in c h Request = (marked c h).few.request
few_in c h Response = (marked c h).few.response

pub asks_turn : (c : FilterConfig) (h : List Call) (d : Direction) → asks_in d (account c h).made ≡ map (ask_of d) (course d (account c h)).asks
asks_turn c h d = asks_are d (account c h) (marked c h).counts

pub sent_turn : (c : FilterConfig) (h : List Call) (d : Direction) → length (asks_in d (take (account c h).sent (account c h).made)) ≡ (course d (account c h)).sent
sent_turn c h d = sent_are d (account c h) (marked c h).counts

pub sent_bound : (c : FilterConfig) (h : List Call) → (account c h).sent ≤ length (account c h).made
sent_bound c h = (marked c h).counts.bound
