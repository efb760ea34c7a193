-- The asks that the processor's stream is given.
use Rattle.std.proofs.Common.{refl, sym, ◌∙◌, ap, arith, subst}
use Rattle.std.proofs.lemmas.Bool.{true≢false}
use Rattle.std.specs.Prelude.{ℕ, ◌≡◌, ◌+◌, ◌<◌, Bool, false, List, [], ◌∷◌, length, take, drop, map, filter_map, Option, Some, None, is_some, option_map, slice_get}
use Rattle.ext_msgs.specs.Spelling.{ask as spelled}
use Rattle.ext_msgs.specs.declared.ask.Ask.{Ask}
use Rattle.http_model.specs.Bytes.{IsPrefix}
use Rattle.http_model.specs.declared.types.Direction.{Direction}
use Rattle.http_model.specs.declared.types.Direction.TheVariants.{Request, Response}
use Rattle.filter_model.specs.Account.{ExchangeAccount, direction_of, is_in}
use Rattle.filter_model.specs.Answers.{ask_of}
use Rattle.filter_model.specs.Config.{FilterConfig}
use Rattle.filter_model.specs.Course.{AskedPart}
use Rattle.filter_model.specs.Half.{Asked, after_step, next_handed, progress, half_rules}
use Rattle.filter_model.specs.Half as half
use Rattle.filter_model.specs.Right.{Call, account, ask_due, ask_given, due}
use Rattle.filter_model.specs.declared.calls.Next.TheVariants as next
use Rattle.half_machine.specs.Handing.{after_ask}
use Rattle.half_machine.specs.Stands as machine
use Rattle.half_machine.specs.declared.half.Half.{Half}
use Rattle.exchange.specs.Flows.{with_step}
use Rattle.filter_model.specs.InTurn.{asks_in}
use Rattle.exchange.specs.Stands.{AtRest, FlowTies, handed_out}
use Rattle.exchange.specs.declared.exchange.Exchange.{Exchange}
use Rattle.exchange.specs.declared.flow.Flow.{Flow}
use Rattle.exchange.proofs.Turns.{get_first, other_place, own_place}

-- the place of an ask among those that wait to be sent
mapped : {A B : Type 0} (f : A → B) (xs : List A) (n : ℕ) → slice_get (map f xs) n ≡ option_map f (slice_get xs n)
mapped f [] n = refl
mapped f (x ∷ xs) ℕ.zero = refl
mapped f (x ∷ xs) (ℕ.suc n) = mapped f xs n

dropped : {A : Type 0} (k n : ℕ) (xs : List A) → slice_get (drop k xs) n ≡ slice_get xs (k + n)
dropped ℕ.zero n xs = ap (slice_get xs) (plus n)
  where
    plus : (n : ℕ) → n ≡ 0 + n
    plus n = omega arith
dropped (ℕ.suc k) n [] = refl
dropped (ℕ.suc k) n (x ∷ xs) = dropped k n xs ∙ ap (slice_get (x ∷ xs)) (plus k n)
  where
    plus : (k n : ℕ) → ℕ.suc (k + n) ≡ ℕ.suc k + n
    plus k n = omega arith

pub way_at : (c : FilterConfig) (a : ExchangeAccount) (n : ℕ) (ends : List Bool) (x : Exchange) → AtRest c a n ends x → slice_get x.order x.unsent ≡ option_map direction_of (slice_get a.made n)
way_at c a n ends x t =
    ap (λ l. slice_get l x.unsent) t.order ∙ mapped direction_of (drop a.sent a.made) x.unsent
    ∙ ap (option_map direction_of) (dropped a.sent x.unsent a.made ∙ ap (slice_get a.made) t.unsent)

pub none_at : (o : Option Ask) → option_map direction_of o ≡ None → o ≡ None
none_at None e = refl
none_at (Some ask) e = absurd cc

pub some_at : (d : Direction) (o : Option Ask) → option_map direction_of o ≡ Some d → (ask : Ask) × (o ≡ Some ask) × (direction_of ask ≡ d)
some_at d None e = absurd cc
some_at d (Some ask) e = (ask, refl, ap (λ o. by o) e)
  where
    by : Option Direction → Direction
    by None = d
    by (Some q) = q

-- its half hands it out next
pub handed_next : (c : FilterConfig) (d : Direction) (a : ExchangeAccount) (n : ℕ) (w : Option ℕ) (x : Flow) (ask : Ask) → (t : FlowTies c d a a n w x) → slice_get a.made n ≡ Some ask
    → direction_of ask ≡ d → next_handed t.story.past ≡ Some ask
handed_next c d a n w x ask t e k =
    let p : half.Past = t.story.past in
    ap (λ q. option_map (ask_of q) (slice_get (half.course p).asks (progress p).handed)) t.way
    ∙ sym (mapped (ask_of d) (half.course p).asks (progress p).handed)
    ∙ ap (slice_get (map (ask_of d) (half.course p).asks)) t.handed_on
    ∙ ap (λ l. slice_get l (length (asks_in d (take n a.made)))) (sym t.asks.whole)
    ∙ get_first (length (asks_in d (take n a.made))) (asks_in d a.made) t.asks.rest ask (own_place d n a.made ask e k).0

handed_more : (p : half.Past) → (progress (after_step Asked p)).handed ≡ ℕ.suc (progress p).handed
unfolding half_rules
handed_more p = refl

course_kept : (p : half.Past) → half.course (after_step Asked p) ≡ half.course p
unfolding half_rules
course_kept p = refl

asked_within : (c : FilterConfig) (d : Direction) (a : ExchangeAccount) (n : ℕ) (w : Option ℕ) (x : Flow) (ask : Ask) → (t : FlowTies c d a a n w x) → slice_get a.made n ≡ Some ask
    → direction_of ask ≡ d → (progress t.story.past).handed < length (half.course t.story.past).asks
asked_within c d a n w x ask t e k = by (slice_get (half.course t.story.past).asks (progress t.story.past).handed) refl (handed_next c d a n w x ask t e k)
  where
    within : (xs : List AskedPart) (i : ℕ) (p : AskedPart) → slice_get xs i ≡ Some p → i < length xs
    within [] i p e = absurd cc
    within (x ∷ xs) ℕ.zero p e = omega arith
    within (x ∷ xs) (ℕ.suc i) p e = let l = within xs i p e in omega (arith, l)

    by : (o : Option AskedPart) → slice_get (half.course t.story.past).asks (progress t.story.past).handed ≡ o → option_map (ask_of t.story.past.direction) o ≡ Some ask
        → (progress t.story.past).handed < length (half.course t.story.past).asks
    by None i j = absurd cc
    by (Some p) i j = within (half.course t.story.past).asks (progress t.story.past).handed p i

-- The ties behind it

pub own_handed : (c : FilterConfig) (d : Direction) (a : ExchangeAccount) (n : ℕ) (w : Option ℕ) (x : Flow) (h : Half) (ask : Ask) → (t : FlowTies c d a a n w x) → slice_get a.made n ≡ Some ask
    → direction_of ask ≡ d → machine.StandsFor (after_step Asked t.story.past) h → FlowTies c d a a (n + 1) w (record x { half = h })
own_handed c d a n w x h ask t e k z = record {
  story = with_step Asked t.story;
  stands = record {
    reader = t.stands.reader;
    half = z;
    outlet = t.stands.outlet;
    is_past = (t.stands.is_past, asked_within c d a n w x ask t e k);
    parts = t.stands.parts;
    way = t.stands.way;
  };
  config = t.config;
  way = t.way;
  source = t.source;
  front = t.front;
  given = t.given;
  reply = t.reply;
  handed_on = handed_more t.story.past ∙ one_more ∙ sym (own_place d n a.made ask e k).1;
  told = λ l. course_kept t.story.past ∙ t.told l;
  asks = subst (λ v. IsPrefix (asks_in d a.made) (map (ask_of d) v.asks)) (sym (course_kept t.story.past)) t.asks;
  lost = t.lost;
  timer = t.timer;
  extended = t.extended;
}
  where
    one_more : ℕ.suc (progress t.story.past).handed ≡ length (asks_in d (take n a.made)) + 1
    one_more = let q = t.handed_on in omega (arith, q)

pub other_handed : (c : FilterConfig) (d d' : Direction) (a : ExchangeAccount) (n : ℕ) (w : Option ℕ) (x : Flow) (ask : Ask) → FlowTies c d a a n w x → slice_get a.made n ≡ Some ask
    → direction_of ask ≡ d' → is_in d (Some d') ≡ false → FlowTies c d a a (n + 1) w x
other_handed c d d' a n w x ask t e k f = record {
  story = t.story;
  stands = t.stands;
  config = t.config;
  way = t.way;
  source = t.source;
  front = t.front;
  given = t.given;
  reply = t.reply;
  handed_on = t.handed_on ∙ sym (other_place d d' n a.made ask e k f);
  told = t.told;
  asks = t.asks;
  lost = t.lost;
  timer = t.timer;
  extended = t.extended;
}

-- the exchange where an ask was handed out

pub at_none : (c : FilterConfig) (d : Direction) (a : ExchangeAccount) (n : ℕ) (o : Option Ask) (w : Option ℕ) (x : Flow) → o ≡ None → FlowTies c d a a (handed_out n o) w x → FlowTies c d a a n w x
at_none c d a n o w x e t = subst (λ r. FlowTies c d a a (handed_out n r) w x) e t

pub request_handed : (c : FilterConfig) (a : ExchangeAccount) (n : ℕ) (ends : List Bool) (x : Exchange) (h : Half) (o : Option Ask) (ask : Ask) → AtRest c a n ends x
    → (own : FlowTies c Request a a n x.waiting x.request) → FlowTies c Response a a n x.waiting x.response → slice_get a.made n ≡ Some ask → direction_of ask ≡ Request → o ≡ Some ask
    → machine.StandsFor (after_ask o own.story.past) h → AtRest c a n ends (record x { request = record x.request { half = h }; ready = o })
request_handed c a n ends x h o ask t own other e k i z = subst (λ q. AtRest c a n ends (record x { request = record x.request { half = h }; ready = q })) (sym i) (record {
  request = own_handed c Request a n x.waiting x.request h ask own e k (subst (λ q. machine.StandsFor (after_ask q own.story.past) h) i z);
  response = other_handed c Response Request a n x.waiting x.response ask other e k refl;
  order = t.order;
  unsent = t.unsent;
  within = t.within;
  ready = λ y j. e ∙ j;
  now = t.now;
  to_head = t.to_head;
  fate = t.fate;
  waiting = t.waiting;
  stream = t.stream;
  alone = t.alone;
})

pub response_handed : (c : FilterConfig) (a : ExchangeAccount) (n : ℕ) (ends : List Bool) (x : Exchange) (h : Half) (o : Option Ask) (ask : Ask) → AtRest c a n ends x
    → FlowTies c Request a a n x.waiting x.request → (own : FlowTies c Response a a n x.waiting x.response) → slice_get a.made n ≡ Some ask → direction_of ask ≡ Response → o ≡ Some ask
    → machine.StandsFor (after_ask o own.story.past) h → AtRest c a n ends (record x { response = record x.response { half = h }; ready = o })
response_handed c a n ends x h o ask t other own e k i z = subst (λ q. AtRest c a n ends (record x { response = record x.response { half = h }; ready = q })) (sym i) (record {
  request = other_handed c Request Response a n x.waiting x.request ask other e k refl;
  response = own_handed c Response a n x.waiting x.response h ask own e k (subst (λ q. machine.StandsFor (after_ask q own.story.past) h) i z);
  order = t.order;
  unsent = t.unsent;
  within = t.within;
  ready = λ y j. e ∙ j;
  now = t.now;
  to_head = t.to_head;
  fate = t.fate;
  waiting = t.waiting;
  stream = t.stream;
  alone = t.alone;
})

-- the ask that was handed out is given

pub ask_taken : (c : FilterConfig) (a : ExchangeAccount) (n : ℕ) (ends : List Bool) (x : Exchange) (ask : Ask) → AtRest c a n ends x → x.ready ≡ Some ask → n < length a.made
    → AtRest c a (ℕ.suc n) ends (record x { ready = None; unsent = x.unsent + 1 })
ask_taken c a n ends x ask t e l =
    let m : n + 1 ≡ ℕ.suc n = omega arith in
    record {
      request = subst (λ k. FlowTies c Request a a k x.waiting x.request) m (subst (λ r. FlowTies c Request a a (handed_out n r) x.waiting x.request) e t.request);
      response = subst (λ k. FlowTies c Response a a k x.waiting x.response) m (subst (λ r. FlowTies c Response a a (handed_out n r) x.waiting x.response) e t.response);
      order = t.order;
      unsent = (let u = t.unsent in omega (arith, u));
      within = omega (arith, l);
      ready = λ y j. absurd cc;
      now = t.now;
      to_head = t.to_head;
      fate = t.fate;
      waiting = t.waiting;
      stream = t.stream;
      alone = t.alone;
    }

pub due_is : (c : FilterConfig) (h : List Call) (o : Option Ask) → o ≡ slice_get (account c h).made (length (filter_map ask_given h)) → option_map spelled o ≡ ask_due c h
due_is c h o e = ap (option_map spelled) e ∙ sym (mapped spelled (account c h).made (length (filter_map ask_given h)))

pub next_due : (x : Option (List ℕ)) (y : Option Bool) (bytes : List ℕ) → x ≡ Some bytes → next.Ask bytes ≡ due x y
next_due x y bytes e = ap (λ o. due o y) (sym e)

pub none_ready : (o : Option Ask) (b : Bool) → b ≡ is_some o → b ≡ false → o ≡ None
none_ready None b e k = refl
none_ready (Some ask) b e k = absurd (true≢false (sym e ∙ k))
