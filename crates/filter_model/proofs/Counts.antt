-- Along a history the asks made and sent in each direction are those among the asks made and sent in all.
use Rattle.std.proofs.Common.{sym, ◌∙◌, ap, refl, arith, append_assoc, length-append, take_all}
use Rattle.std.proofs.lemmas.List.{append-nil, drop_at, map-append, take-append-le}
use Rattle.std.specs.Prelude.{ℕ, zero, suc, ◌≡◌, ◌+◌, ◌≤◌, ◌||◌, Bool, true, false, List, [], ◌∷◌, ◌++◌, length, take, drop, map, Option, Some, None, if◌then◌else◌, is_some, option_map, slice_get}
use Rattle.ext_msgs.specs.declared.answer.Answer.{Answer}
use Rattle.ext_msgs.specs.declared.answer.ModeNumbers.{ModeNumbers}
use Rattle.ext_msgs.specs.declared.answer.Span.{Span}
use Rattle.ext_msgs.specs.declared.ask.Ask.{Ask}
use Rattle.ext_msgs.specs.declared.modes.PartModes.{PartModes}
use Rattle.http_model.specs.declared.types.Direction.{Direction}
use Rattle.http_model.specs.declared.types.Direction.TheVariants.{Request, Response}
use Rattle.filter_model.specs.Config.{CourseConfig, FilterConfig}
use Rattle.filter_model.specs.Course.{Course, AskedPart, Headers, Body, Trailers, due, one_asked, asked}
use Rattle.filter_model.specs.Account.{ExchangeAccount, course, gathered, settled, brought, one_sent, direction_of, is_in, sent_if, start, is_released, is_finished}
use Rattle.filter_model.specs.Cut.{Cut, PartAnswer, part_answer}
use Rattle.filter_model.specs.Answers.{answered, answered_by, part_answered, joined, override_of, overridden, asked_in, ask_of}
use Rattle.filter_model.specs.InTurn.{asks_if, asks_in}
use Rattle.filter_model.specs.Step.{rules, step, step_if, after_end, still_counts, under_cut, under_departure, no_cut, cut, is_departure, is_live, accepted, with_ending, on, effect}
use Rattle.filter_model.specs.View.{ViewEntry, Bytes, End, Lost, Answered, TooLong, Closed, NoStream, Tick, Starved, Sent, Given}
use Rattle.filter_model.specs.declared.calls.Side.TheVariants.{Client, Upstream}

abbrev one_if : Bool → ℕ
one_if true = 1
one_if false = 0

-- how many of these asks are of a direction
abbrev pub tally : Direction → List Ask → ℕ
tally d [] = 0
tally d (x ∷ made) = one_if (is_in d (Some (direction_of x))) + tally d made

tally-append : (d : Direction) (xs ys : List Ask) → tally d (xs ++ ys) ≡ tally d xs + tally d ys
tally-append d [] ys = none (tally d ys)
  where
    none : (n : ℕ) → n ≡ 0 + n
    none n = omega arith
tally-append d (x ∷ xs) ys = ap (λ n. one_if (is_in d (Some (direction_of x))) + n) (tally-append d xs ys) ∙ plus (one_if (is_in d (Some (direction_of x)))) (tally d xs) (tally d ys)
  where
    plus : (a b c : ℕ) → a + (b + c) ≡ (a + b) + c
    plus a b c = omega arith

direction_of_ask : (d : Direction) (p : AskedPart) → direction_of (ask_of d p) ≡ d
direction_of_ask Request (Headers x b) = refl
direction_of_ask Request (Body x b) = refl
direction_of_ask Request (Trailers x) = refl
direction_of_ask Response (Headers x b) = refl
direction_of_ask Response (Body x b) = refl
direction_of_ask Response (Trailers x) = refl

tally_own : (d : Direction) (l : List AskedPart) → tally d (map (ask_of d) l) ≡ length l
tally_own d [] = refl
tally_own d (p ∷ l) = ap (λ x. one_if (is_in d (Some x)) + tally d (map (ask_of d) l)) (direction_of_ask d p) ∙ own d ∙ plus (tally_own d l)
  where
    own : (d : Direction) → one_if (is_in d (Some d)) + tally d (map (ask_of d) l) ≡ 1 + tally d (map (ask_of d) l)
    own Request = refl
    own Response = refl

    plus : tally d (map (ask_of d) l) ≡ length l → 1 + tally d (map (ask_of d) l) ≡ suc (length l)
    plus e = omega (arith, e)

tally_request : (l : List AskedPart) → tally Request (map (ask_of Response) l) ≡ 0
tally_request [] = refl
tally_request (p ∷ l) = ap (λ x. one_if (is_in Request (Some x)) + tally Request (map (ask_of Response) l)) (direction_of_ask Response p) ∙ none (tally_request l)
  where
    none : tally Request (map (ask_of Response) l) ≡ 0 → 0 + tally Request (map (ask_of Response) l) ≡ 0
    none e = omega (arith, e)

tally_response : (l : List AskedPart) → tally Response (map (ask_of Request) l) ≡ 0
tally_response [] = refl
tally_response (p ∷ l) = ap (λ x. one_if (is_in Response (Some x)) + tally Response (map (ask_of Request) l)) (direction_of_ask Request p) ∙ none (tally_response l)
  where
    none : tally Response (map (ask_of Request) l) ≡ 0 → 0 + tally Response (map (ask_of Request) l) ≡ 0
    none e = omega (arith, e)

-- the asks of a direction

in_append : (d : Direction) (xs ys : List Ask) → asks_in d (xs ++ ys) ≡ asks_in d xs ++ asks_in d ys
in_append d [] ys = refl
in_append d (x ∷ xs) ys = by (is_in d (Some (direction_of x))) (in_append d xs ys)
  where
    by : (b : Bool) → asks_in d (xs ++ ys) ≡ asks_in d xs ++ asks_in d ys
        → asks_if b x (asks_in d (xs ++ ys)) ≡ asks_if b x (asks_in d xs) ++ asks_in d ys
    by true e = ap (λ zs. x ∷ zs) e
    by false e = e

own_asks : (d : Direction) (l : List AskedPart) → asks_in d (map (ask_of d) l) ≡ map (ask_of d) l
own_asks d [] = refl
own_asks d (p ∷ l) = ap (λ x. asks_if (is_in d (Some x)) (ask_of d p) (asks_in d (map (ask_of d) l))) (direction_of_ask d p) ∙ own d ∙ ap (λ zs. ask_of d p ∷ zs) (own_asks d l)
  where
    own : (d : Direction) → asks_if (is_in d (Some d)) (ask_of d p) (asks_in d (map (ask_of d) l)) ≡ ask_of d p ∷ asks_in d (map (ask_of d) l)
    own Request = refl
    own Response = refl

no_request : (l : List AskedPart) → asks_in Request (map (ask_of Response) l) ≡ []
no_request [] = refl
no_request (p ∷ l) = ap (λ x. asks_if (is_in Request (Some x)) (ask_of Response p) (asks_in Request (map (ask_of Response) l))) (direction_of_ask Response p) ∙ no_request l

no_response : (l : List AskedPart) → asks_in Response (map (ask_of Request) l) ≡ []
no_response [] = refl
no_response (p ∷ l) = ap (λ x. asks_if (is_in Response (Some x)) (ask_of Request p) (asks_in Response (map (ask_of Request) l))) (direction_of_ask Request p) ∙ no_response l

tally_is : (d : Direction) (xs : List Ask) → length (asks_in d xs) ≡ tally d xs
tally_is d [] = refl
tally_is d (x ∷ xs) = by (is_in d (Some (direction_of x))) (tally_is d xs)
  where
    by : (b : Bool) → length (asks_in d xs) ≡ tally d xs → length (asks_if b x (asks_in d xs)) ≡ one_if b + tally d xs
    by true e = omega (arith, e)
    by false e = omega (arith, e)

-- asks of this direction, and then of that
more_own : (d : Direction) (made : List Ask) (asks more : List AskedPart) (asks' : List AskedPart) (new : List AskedPart) → asks' ≡ asks ++ more → new ≡ more
    → asks_in d made ≡ map (ask_of d) asks → asks_in d (made ++ map (ask_of d) new) ≡ map (ask_of d) asks'
more_own d made asks more asks' new e n k =
    in_append d made (map (ask_of d) new)
    ∙ ap (λ xs. xs ++ asks_in d (map (ask_of d) new)) k ∙ ap (λ xs. map (ask_of d) asks ++ xs) (own_asks d new)
    ∙ ap (λ xs. map (ask_of d) asks ++ map (ask_of d) xs) n ∙ sym (map-append (ask_of d) asks more) ∙ ap (map (ask_of d)) (sym e)

none_own : (d : Direction) (made more : List Ask) (asks : List AskedPart) → asks_in d more ≡ [] → asks_in d made ≡ map (ask_of d) asks → asks_in d (made ++ more) ≡ map (ask_of d) asks
none_own d made more asks e k = in_append d made more ∙ ap (λ xs. asks_in d made ++ xs) e ∙ append-nil (asks_in d made) ∙ k

pub record Counts (a : ExchangeAccount) : Type 0 where
  pub request_asks : asks_in Request a.made ≡ map (ask_of Request) a.request.course.asks
  pub response_asks : asks_in Response a.made ≡ map (ask_of Response) a.response.course.asks
  pub bound : a.sent ≤ length a.made
  pub request_made : length a.request.course.asks ≡ tally Request a.made
  pub response_made : length a.response.course.asks ≡ tally Response a.made
  pub request_sent : a.request.course.sent ≡ tally Request (take a.sent a.made)
  pub response_sent : a.response.course.sent ≡ tally Response (take a.sent a.made)

pub counts_first : (c : FilterConfig) → Counts (start c)
counts_first c = record { request_asks = refl; response_asks = refl; bound = omega arith; request_made = refl; response_made = refl; request_sent = refl; response_sent = refl }

-- One ask more is sent

next_taken : (d : Direction) (made : List Ask) (n : ℕ) (x : Ask) → slice_get made n ≡ Some x
    → tally d (take (suc n) made) ≡ (if is_in d (Some (direction_of x)) then suc (tally d (take n made)) else tally d (take n made))
next_taken d [] n x e = absurd cc
next_taken d (y ∷ made) zero x e = ap (λ (o : Option Ask). one_in d o + 0) e ∙ by (is_in d (Some (direction_of x)))
  where
    one_in : Direction → Option Ask → ℕ
    one_in d None = 0
    one_in d (Some y) = one_if (is_in d (Some (direction_of y)))

    by : (b : Bool) → one_if b + 0 ≡ (if b then 1 else 0)
    by true = refl
    by false = refl
next_taken d (y ∷ made) (suc n) x e =
    ap (λ k. one_if (is_in d (Some (direction_of y))) + k) (next_taken d made n x e) ∙ by (is_in d (Some (direction_of x))) (one_if (is_in d (Some (direction_of y)))) (tally d (take n made))
  where
    by : (b : Bool) (k t : ℕ) → k + (if b then suc t else t) ≡ (if b then suc (k + t) else k + t)
    by true k t = omega arith
    by false k t = refl

within : (made : List Ask) (n : ℕ) (x : Ask) → slice_get made n ≡ Some x → suc n ≤ length made
within [] n x e = absurd cc
within (y ∷ made) zero x e = omega arith
within (y ∷ made) (suc n) x e = let k = within made n x e in omega (arith, k)

sent_counts : (a : ExchangeAccount) → Counts a → Counts (one_sent a)
sent_counts a k = by (slice_get a.made a.sent) refl
  where
    by : (o : Option Ask) → slice_get a.made a.sent ≡ o → Counts (record a {
      request = sent_if (is_in Request (option_map direction_of o)) a.request;
      response = sent_if (is_in Response (option_map direction_of o)) a.response;
      sent = if is_some (option_map direction_of o) then suc a.sent else a.sent;
    })
    by None e = record { request_asks = k.request_asks; response_asks = k.response_asks; bound = k.bound; request_made = k.request_made; response_made = k.response_made; request_sent = k.request_sent; response_sent = k.response_sent }
    by (Some x) e = record {
      request_asks = k.request_asks;
      response_asks = k.response_asks;
      bound = within a.made a.sent x e;
      request_made = k.request_made;
      response_made = k.response_made;
      request_sent = ap (λ n. if is_in Request (Some (direction_of x)) then suc n else n) k.request_sent ∙ sym (next_taken Request a.made a.sent x e);
      response_sent = ap (λ n. if is_in Response (Some (direction_of x)) then suc n else n) k.response_sent ∙ sym (next_taken Response a.made a.sent x e);
    }

-- Asks are made

asked_more : (c : CourseConfig) (d : Direction) (w : Course) → (more : List AskedPart) × ((asked c d w).asks ≡ w.asks ++ more)
unfolding asked one_asked
asked_more c d w =
    let w1 : Course = one_asked c d w in
    let w2 : Course = one_asked c d w1 in
    let w3 : Course = one_asked c d w2 in (
      due c d w ++ (due c d w1 ++ (due c d w2 ++ due c d w3)),
      together w.asks (due c d w) (due c d w1) (due c d w2) (due c d w3),
    )
  where
    together : (a b d e f : List AskedPart) → (((a ++ b) ++ d) ++ e) ++ f ≡ a ++ (b ++ (d ++ (e ++ f)))
    together a b d e f = append_assoc ((a ++ b) ++ d) e f ∙ append_assoc (a ++ b) d (e ++ f) ∙ append_assoc a b (d ++ (e ++ f))

new_asks : (asks asks' more : List AskedPart) → asks' ≡ asks ++ more → drop (length asks) asks' ≡ more
new_asks asks asks' more e = ap (drop (length asks)) e ∙ drop_at asks more (length asks) refl

asked_counts : (c : FilterConfig) (d : Direction) (a : ExchangeAccount) → Counts a → Counts (asked_in c d a)
unfolding asked_in asked one_asked
asked_counts c Request a k =
    let m = asked_more c.course Request a.request.course in
    let new : drop (length a.request.course.asks) (asked c.course Request a.request.course).asks ≡ m.0 = new_asks a.request.course.asks (asked c.course Request a.request.course).asks m.0 m.1 in
    let made : List Ask = map (ask_of Request) (drop (length a.request.course.asks) (asked c.course Request a.request.course).asks) in
    record {
      request_asks = more_own Request a.made a.request.course.asks m.0 (asked c.course Request a.request.course).asks (drop (length a.request.course.asks) (asked c.course Request a.request.course).asks) m.1 new k.request_asks;
      response_asks = none_own Response a.made made a.response.course.asks (no_response (drop (length a.request.course.asks) (asked c.course Request a.request.course).asks)) k.response_asks;
      bound = omega (arith, k.bound, length-append a.made made);
      request_made = ap length m.1 ∙ length-append a.request.course.asks m.0
          ∙ sum k.request_made (sym (ap (λ l. tally Request (map (ask_of Request) l)) new ∙ tally_own Request m.0)) ∙ sym (tally-append Request a.made made);
      response_made = k.response_made ∙ none (tally_response (drop (length a.request.course.asks) (asked c.course Request a.request.course).asks)) ∙ sym (tally-append Response a.made made);
      request_sent = k.request_sent ∙ ap (tally Request) (sym (take-append-le a.sent a.made made k.bound));
      response_sent = k.response_sent ∙ ap (tally Response) (sym (take-append-le a.sent a.made made k.bound));
    }
  where
    sum : {x y z t : ℕ} → x ≡ z → y ≡ t → x + y ≡ z + t
    sum {x = x} {y = y} {z = z} {t = t} e f = ap (λ n. n + y) e ∙ ap (λ n. z + n) f

    none : {x y : ℕ} → y ≡ 0 → x ≡ x + y
    none {x = x} {y = y} e = omega (arith, e)
asked_counts c Response a k =
    let m = asked_more c.course Response a.response.course in
    let new : drop (length a.response.course.asks) (asked c.course Response a.response.course).asks ≡ m.0 = new_asks a.response.course.asks (asked c.course Response a.response.course).asks m.0 m.1 in
    let made : List Ask = map (ask_of Response) (drop (length a.response.course.asks) (asked c.course Response a.response.course).asks) in
    record {
      response_asks = more_own Response a.made a.response.course.asks m.0 (asked c.course Response a.response.course).asks (drop (length a.response.course.asks) (asked c.course Response a.response.course).asks) m.1 new k.response_asks;
      request_asks = none_own Request a.made made a.request.course.asks (no_request (drop (length a.response.course.asks) (asked c.course Response a.response.course).asks)) k.request_asks;
      bound = omega (arith, k.bound, length-append a.made made);
      request_made = k.request_made ∙ none (tally_request (drop (length a.response.course.asks) (asked c.course Response a.response.course).asks)) ∙ sym (tally-append Request a.made made);
      response_made = ap length m.1 ∙ length-append a.response.course.asks m.0
          ∙ sum k.response_made (sym (ap (λ l. tally Response (map (ask_of Response) l)) new ∙ tally_own Response m.0)) ∙ sym (tally-append Response a.made made);
      request_sent = k.request_sent ∙ ap (tally Request) (sym (take-append-le a.sent a.made made k.bound));
      response_sent = k.response_sent ∙ ap (tally Response) (sym (take-append-le a.sent a.made made k.bound));
    }
  where
    sum : {x y z t : ℕ} → x ≡ z → y ≡ t → x + y ≡ z + t
    sum {x = x} {y = y} {z = z} {t = t} e f = ap (λ n. n + y) e ∙ ap (λ n. z + n) f

    none : {x y : ℕ} → y ≡ 0 → x ≡ x + y
    none {x = x} {y = y} e = omega (arith, e)

-- Nothing else counts

abbrev again : {a b : ExchangeAccount} → Counts a → b.sent ≡ a.sent → b.made ≡ a.made → b.request.course.asks ≡ a.request.course.asks → b.response.course.asks ≡ a.response.course.asks
    → b.request.course.sent ≡ a.request.course.sent → b.response.course.sent ≡ a.response.course.sent → Counts b
again {a = a} {b = b} k s m p q u v = record {
  request_asks = ap (asks_in Request) m ∙ k.request_asks ∙ ap (map (ask_of Request)) (sym p);
  response_asks = ap (asks_in Response) m ∙ k.response_asks ∙ ap (map (ask_of Response)) (sym q);
  bound = omega (arith, k.bound, s, ap length m);
  request_made = ap length p ∙ k.request_made ∙ ap (tally Request) (sym m);
  response_made = ap length q ∙ k.response_made ∙ ap (tally Response) (sym m);
  request_sent = u ∙ k.request_sent ∙ ap (λ n. tally Request (take n a.made)) (sym s) ∙ ap (λ l. tally Request (take b.sent l)) (sym m);
  response_sent = v ∙ k.response_sent ∙ ap (λ n. tally Response (take n a.made)) (sym s) ∙ ap (λ l. tally Response (take b.sent l)) (sym m);
}

override_counts : (c : FilterConfig) (p : PartAnswer) (d : Direction) (m : Option (PartModes × PartModes)) (a : ExchangeAccount) → Counts a
    → Counts (overridden d m (joined c (record p { direction = d }) a))
override_counts c p Request m a k = again {a = a} {b = overridden Request m (joined c (record p { direction = Request }) a)} k refl refl refl refl refl refl
override_counts c p Response m a k = again {a = a} {b = overridden Response m (joined c (record p { direction = Response }) a)} k refl refl refl refl refl refl

part_counts : (c : FilterConfig) (modes : Option ModeNumbers) (a : ExchangeAccount) (p : Option PartAnswer) → Counts a → Counts (part_answered c modes a p)
part_counts c modes a None k = k
part_counts c modes a (Some p) k = override_counts c p p.direction (override_of c p.kind modes) a k

by_counts : (c : FilterConfig) (x : Answer) (a : ExchangeAccount) (t : Option Span) → Counts a → Counts (answered_by c x a t)
by_counts c x a (Some t) k = again {a = a} {b = answered_by c x a (Some t)} k refl refl refl refl refl refl
by_counts c x a None k = part_counts c x.modes a (part_answer x.member) k

answered_counts : (c : FilterConfig) (e : ViewEntry) (a : ExchangeAccount) → Counts a → Counts (answered c e a)
unfolding answered
answered_counts c (Answered (Some x)) a k = by_counts c x a x.timeout k
answered_counts c _ a k = k

accepted_counts : (c : FilterConfig) (e : ViewEntry) (a : ExchangeAccount) (b : Bool) → Counts a → Counts (accepted c e a b)
accepted_counts c e a true k = k
accepted_counts c e a false k = answered_counts c e a k

settled_counts : (c : FilterConfig) (a : ExchangeAccount) → Counts a → Counts (settled c a)
unfolding rules
settled_counts c a k = again {a = a} {b = settled c a} k refl refl refl refl refl refl

effect_counts : (c : FilterConfig) (x : Cut) (a : ExchangeAccount) → Counts a → Counts (effect c x a)
unfolding rules
effect_counts c x a k = again {a = a} {b = effect c x a} k refl refl refl refl refl refl

under_cut_counts : (c : FilterConfig) (e : ViewEntry) (a : ExchangeAccount) (x : Option Cut) → Counts a → Counts (under_cut c e a x)
unfolding under_cut no_cut
under_cut_counts c e a (Some x) k = settled_counts c (effect c x (settled c a)) (effect_counts c x (settled c a) (settled_counts c a k))
under_cut_counts c e a None k =
    let b : ExchangeAccount = accepted c e a (is_released a || is_finished c a) in
    asked_counts c Response (asked_in c Request (settled c b)) (asked_counts c Request (settled c b) (settled_counts c b (accepted_counts c e a (is_released a || is_finished c a) k)))

departure_counts : (c : FilterConfig) (e : ViewEntry) (a : ExchangeAccount) (b : Bool) → Counts a → Counts (under_departure c e a b)
departure_counts c e a true k = again {a = a} {b = under_departure c e a true} k refl refl refl refl refl refl
departure_counts c e a false k = under_cut_counts c e a (cut c e a) k

gathered_counts : (e : ViewEntry) (a : ExchangeAccount) → Counts a → Counts (gathered e a)
unfolding gathered brought
gathered_counts (Bytes Client bytes) a k = again {a = a} {b = gathered (Bytes Client bytes) a} k refl refl refl refl refl refl
gathered_counts (Bytes Upstream bytes) a k = again {a = a} {b = gathered (Bytes Upstream bytes) a} k refl refl refl refl refl refl
gathered_counts (End Client) a k = again {a = a} {b = gathered (End Client) a} k refl refl refl refl refl refl
gathered_counts (End Upstream) a k = again {a = a} {b = gathered (End Upstream) a} k refl refl refl refl refl refl
gathered_counts (Lost Client how) a k = again {a = a} {b = gathered (Lost Client how) a} k refl refl refl refl refl refl
gathered_counts (Lost Upstream how) a k = again {a = a} {b = gathered (Lost Upstream how) a} k refl refl refl refl refl refl
gathered_counts (Given Client bytes) a k = again {a = a} {b = gathered (Given Client bytes) a} k refl refl refl refl refl refl
gathered_counts (Given Upstream bytes) a k = again {a = a} {b = gathered (Given Upstream bytes) a} k refl refl refl refl refl refl
gathered_counts (Answered x) a k = k
gathered_counts TooLong a k = k
gathered_counts (Closed b) a k = again {a = a} {b = gathered (Closed b) a} k refl refl refl refl refl refl
gathered_counts NoStream a k = again {a = a} {b = gathered NoStream a} k refl refl refl refl refl refl
gathered_counts (Tick n) a k = again {a = a} {b = gathered (Tick n) a} k refl refl refl refl refl refl
gathered_counts Starved a k = k
gathered_counts Sent a k = sent_counts a k

if_counts : (c : FilterConfig) (e : ViewEntry) (a : ExchangeAccount) (live : Bool) → Counts a → Counts (step_if c e a live)
unfolding on with_ending
if_counts c e a true k =
    let g : ExchangeAccount = gathered e a in
    again {a = under_departure c e g (is_departure e g)} {b = step_if c e a true} (departure_counts c e g (is_departure e g) (gathered_counts e a k)) refl refl refl refl refl refl
if_counts c e a false k = by (still_counts e)
  where
    by : (b : Bool) → Counts (after_end e a b)
    by true = gathered_counts e a k
    by false = k

pub step_counts : (c : FilterConfig) (e : ViewEntry) (a : ExchangeAccount) → Counts a → Counts (step c e a)
unfolding step
step_counts c e a k = if_counts c e a (is_live a.fate) k

-- once all asks were sent, each direction's were
pub all_sent : (a : ExchangeAccount) → Counts a → length a.made ≡ a.sent
    → (a.request.course.sent ≡ length a.request.course.asks) × (a.response.course.sent ≡ length a.response.course.asks)
all_sent a k e =
    let all : take a.sent a.made ≡ a.made = take_all a.sent a.made (omega (arith, e)) in
    (k.request_sent ∙ ap (tally Request) all ∙ sym k.request_made, k.response_sent ∙ ap (tally Response) all ∙ sym k.response_made)

-- Along a history

pub asks_are : (d : Direction) (a : ExchangeAccount) → Counts a → asks_in d a.made ≡ map (ask_of d) (course d a).asks
asks_are Request a k = k.request_asks
asks_are Response a k = k.response_asks

pub sent_are : (d : Direction) (a : ExchangeAccount) → Counts a → length (asks_in d (take a.sent a.made)) ≡ (course d a).sent
sent_are Request a k = tally_is Request (take a.sent a.made) ∙ sym k.request_sent
sent_are Response a k = tally_is Response (take a.sent a.made) ∙ sym k.response_sent
