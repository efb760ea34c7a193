-- An override of the timeout of the oldest ask out.
use Rattle.std.proofs.Common.{refl, sym, ◌∙◌, ap, arith, subst}
use Rattle.std.proofs.lemmas.Bool.{true≢false}
use Rattle.std.specs.Prelude.{ℕ, ◌≡◌, ◌<◌, ◌≤◌, ◌+◌, take, ◌&&◌, ◌||◌, Bool, true, false, not, List, [], ◌∷◌, length, drop, map, Option, is_some, unwrap_or, if◌then◌else◌, slice_get}
use Rattle.http_model.specs.Bytes.{is_empty}
use Rattle.http_model.specs.Wire.{local_reply}
use Rattle.http_model.specs.declared.types.Direction.{Direction}
use Rattle.http_model.specs.declared.types.Direction.TheVariants.{Request, Response}
use Rattle.ext_msgs.specs.declared.answer.Span.{Span}
use Rattle.filter_model.specs.Account.{ExchangeAccount, course, flow, direction_of, is_out_in}
use Rattle.filter_model.specs.Answers.{override_ms}
use Rattle.filter_model.specs.Config.{FilterConfig}
use Rattle.filter_model.specs.Course.{AskedPart, Course, out}
use Rattle.filter_model.specs.Half as half
use Rattle.filter_model.specs.Step.{is_live}
use Rattle.exchange.specs.Answering.{ExtendsTo, extended_in}
use Rattle.exchange.specs.Stands.{AtRest, FlowTies, IsFate, handed_out, in_64}
use Rattle.exchange.specs.declared.exchange.Exchange.{Exchange}
use Rattle.exchange.specs.declared.flow.Flow.{Flow}
use Rattle.exchange.proofs.Next.{front_next, given_next, lost_next, source_next}
use Rattle.exchange.proofs.Releasing.{living_fate}
use Rattle.exchange.proofs.TimingTies.{none_waits, stream_next, to_head_next}
use Rattle.exchange.proofs.Wholly.{no_reply}
use Rattle.filter_model.specs.InTurn.{asks_in}
use Rattle.filter_model.specs.Answers.{ask_of}
use Rattle.http_model.specs.Bytes.{IsPrefix}
use Rattle.exchange.proofs.GivingReplied.{unreplied}

-- how many asks are out

pub some_out : (c : FilterConfig) (d : Direction) (a : ExchangeAccount) (n : ℕ) (w : Option ℕ) (f : Flow) (k : ℕ) (t : FlowTies c d a a n w f) → is_live a.fate ≡ true
    → k ≡ length (out (half.course t.story.past)) → 0 < k → is_out_in a d ≡ true
some_out c d a n w f k t l e p = by (out (course d a)) (e ∙ ap (λ (v : Course). length (out v)) (t.told l))
  where
    by : (ps : List AskedPart) → k ≡ length ps → not (is_empty ps) ≡ true
    by [] i = absurd (omega (arith, i, p))
    by (q ∷ ps) i = refl

pub none_out : (c : FilterConfig) (d : Direction) (a : ExchangeAccount) (n : ℕ) (w : Option ℕ) (f : Flow) (k : ℕ) (t : FlowTies c d a a n w f) → is_live a.fate ≡ true
    → k ≡ length (out (half.course t.story.past)) → (0 < k → ⊥) → is_out_in a d ≡ false
none_out c d a n w f k t l e p = by (out (course d a)) (e ∙ ap (λ (v : Course). length (out v)) (t.told l))
  where
    by : (ps : List AskedPart) → k ≡ length ps → not (is_empty ps) ≡ false
    by [] i = refl
    by (q ∷ ps) i = absurd (p (omega (arith, i)))

-- A flow whose timer is another

timed_flow : (c : FilterConfig) (t : Span) (d : Direction) (a b : ExchangeAccount) (n : ℕ) (w : Option ℕ) (f g : Flow) → FlowTies c d a a n w f → ExtendsTo c t a b
    → g ≡ record f { deadline = g.deadline; extended = g.extended } → (is_out_in a d ≡ true → g.deadline ≡ in_64 (flow d b).deadline) → g.extended ≡ (flow d b).extended → FlowTies c d b b n w g
timed_flow c t d a b n w f g k s same timer extended = subst (λ y. FlowTies c d b b n w y) (sym same) (record {
  story = k.story;
  stands = record { reader = k.stands.reader; half = k.stands.half; outlet = k.stands.outlet; is_past = k.stands.is_past; parts = k.stands.parts; way = k.stands.way };
  config = k.config;
  way = k.way;
  source = k.source ∙ sym (source_next d a b s.rest);
  front = k.front ∙ sym (front_next d a b s.rest);
  given = given_next d a b s.rest ∙ k.given;
  reply = k.reply ∙ no_reply d w a.fate s.live ∙ sym (no_reply d w b.fate (ap is_live s.fate ∙ s.live));
  handed_on = k.handed_on ∙ sym (ap (λ made. length (asks_in d (take n made))) s.made);
  told = λ e. k.told s.live ∙ sym (s.told d);
  asks = subst (λ made. IsPrefix (asks_in d made) (map (ask_of d) (half.course k.story.past).asks)) (sym s.made) k.asks;
  lost = k.lost ∙ sym (lost_next d a b s.rest);
  timer = λ e o. timer (ap (λ (v : Course). not (is_empty (out v))) (sym (s.told d)) ∙ o);
  extended = λ e. extended;
})

-- that of the oldest ask
sooner : (o : Bool) (now clock : ℕ) (ms : Option ℕ) (x y : Bool) (p : Option ℕ) (q : ℕ) → clock ≡ now → x ≡ y → (o ≡ true → p ≡ in_64 q) → o ≡ true
    → (if not x && is_some ms then in_64 (clock + unwrap_or ms 0) else p) ≡ in_64 (if o && not y && is_some ms then now + unwrap_or ms 0 else q)
sooner true now clock ms x y p q e k j i =
    ap (λ z. if not z && is_some ms then in_64 (clock + unwrap_or ms 0) else p) k
    ∙ ap (λ z. if not y && is_some ms then in_64 (z + unwrap_or ms 0) else p) e
    ∙ by (not y && is_some ms)
  where
    by : (b : Bool) → (if b then in_64 (now + unwrap_or ms 0) else p) ≡ in_64 (if b then now + unwrap_or ms 0 else q)
    by true = refl
    by false = j refl
sooner false now clock ms x y p q e k j i = absurd (true≢false (sym i))

-- that of another
unchanged : (o : Bool) (now : ℕ) (ms : Option ℕ) (y : Bool) (p : Option ℕ) (q : ℕ) → o ≡ false → p ≡ in_64 q → p ≡ in_64 (if o && not y && is_some ms then now + unwrap_or ms 0 else q)
unchanged true now ms y p q i e = absurd (true≢false i)
unchanged false now ms y p q i e = e

-- an exchange with these flows
timed_so : (c : FilterConfig) (t : Span) (a b : ExchangeAccount) (n : ℕ) (ends : List Bool) (x : Exchange) (f g : Flow) → AtRest c a n ends x → ExtendsTo c t a b
    → FlowTies c Request b b (handed_out n x.ready) x.waiting f → FlowTies c Response b b (handed_out n x.ready) x.waiting g → AtRest c b n ends (record x { request = f; response = g })
timed_so c t a b n ends x f g k s u v = record {
  request = u;
  response = v;
  order = k.order ∙ sym (ap (λ made. map direction_of (drop a.sent made)) s.made) ∙ sym (ap (λ i. map direction_of (drop i b.made)) s.rest.sent);
  unsent = ap (λ i. i + x.unsent) s.rest.sent ∙ k.unsent;
  within = subst (λ made. n ≤ length made) (sym s.made) k.within;
  ready = λ ask e. ap (λ made. slice_get made n) s.made ∙ k.ready ask e;
  now = k.now ∙ sym s.rest.now;
  to_head = k.to_head ∙ sym (to_head_next a b s.rest);
  fate = subst (λ f. IsFate c b f x.fate) (sym s.fate) (living_fate c a b a.fate x.fate s.live k.fate);
  waiting = λ i e. absurd (none_waits a.fate (local_reply i) s.live (k.waiting i e));
  stream = stream_next a b ends x s.rest s.made s.ending k.stream;
  alone = λ r. absurd (unreplied b.fate (ap is_live s.fate ∙ s.live) r);
}

-- an ask of the request is out
pub request_extended : (c : FilterConfig) (t : Span) (a b : ExchangeAccount) (n : ℕ) (ends : List Bool) (x : Exchange) → AtRest c a n ends x → ExtendsTo c t a b → is_out_in a Request ≡ true
    → AtRest c b n ends (record x { request = extended_in x.clock (override_ms c t) x.request })
request_extended c t a b n ends x k s o =
    timed_so c t a b n ends x (extended_in x.clock (override_ms c t) x.request) x.response k s
    (timed_flow c t Request a b (handed_out n x.ready) x.waiting x.request (extended_in x.clock (override_ms c t) x.request) k.request s refl
    (λ i. sooner (is_out_in a Request) a.now x.clock (override_ms c t) x.request.extended a.request.extended x.request.deadline a.request.deadline k.now (k.request.extended s.live) (k.request.timer s.live) o ∙ ap in_64 (sym (s.timer Request i)))
    (ap (λ z. not z && is_some (override_ms c t) || z) (k.request.extended s.live)
    ∙ sym (s.extended Request ∙ ap (λ u. u && not a.request.extended && is_some (override_ms c t) || a.request.extended) o)))
    (timed_flow c t Response a b (handed_out n x.ready) x.waiting x.response x.response k.response s refl
    (λ i. unchanged (not (is_out_in a Request) && is_out_in a Response) a.now (override_ms c t) a.response.extended x.response.deadline a.response.deadline (other o) (k.response.timer s.live i) ∙ ap in_64 (sym (s.timer Response i)))
    (k.response.extended s.live ∙ sym (s.extended Response ∙ ap (λ u. u && not a.response.extended && is_some (override_ms c t) || a.response.extended) (other o))))
  where
    other : is_out_in a Request ≡ true → (not (is_out_in a Request) && is_out_in a Response) ≡ false
    other o = ap (λ u. not u && is_out_in a Response) o

-- one of the response alone
pub response_extended : (c : FilterConfig) (t : Span) (a b : ExchangeAccount) (n : ℕ) (ends : List Bool) (x : Exchange) → AtRest c a n ends x → ExtendsTo c t a b
    → is_out_in a Request ≡ false → is_out_in a Response ≡ true → AtRest c b n ends (record x { response = extended_in x.clock (override_ms c t) x.response })
response_extended c t a b n ends x k s o r =
    timed_so c t a b n ends x x.request (extended_in x.clock (override_ms c t) x.response) k s
    (timed_flow c t Request a b (handed_out n x.ready) x.waiting x.request x.request k.request s refl
    (λ i. unchanged (is_out_in a Request) a.now (override_ms c t) a.request.extended x.request.deadline a.request.deadline o (k.request.timer s.live i) ∙ ap in_64 (sym (s.timer Request i)))
    (k.request.extended s.live ∙ sym (s.extended Request ∙ ap (λ u. u && not a.request.extended && is_some (override_ms c t) || a.request.extended) o)))
    (timed_flow c t Response a b (handed_out n x.ready) x.waiting x.response (extended_in x.clock (override_ms c t) x.response) k.response s refl
    (λ i. sooner (not (is_out_in a Request) && is_out_in a Response) a.now x.clock (override_ms c t) x.response.extended a.response.extended x.response.deadline a.response.deadline k.now (k.response.extended s.live) (λ j. k.response.timer s.live r) here
    ∙ ap in_64 (sym (s.timer Response i)))
    (ap (λ z. not z && is_some (override_ms c t) || z) (k.response.extended s.live)
    ∙ sym (s.extended Response ∙ ap (λ u. u && not a.response.extended && is_some (override_ms c t) || a.response.extended) here)))
  where
    here : (not (is_out_in a Request) && is_out_in a Response) ≡ true
    here = ap (λ u. not u && is_out_in a Response) o ∙ r

-- none is out
pub none_extended : (c : FilterConfig) (t : Span) (a b : ExchangeAccount) (n : ℕ) (ends : List Bool) (x : Exchange) → AtRest c a n ends x → ExtendsTo c t a b
    → is_out_in a Request ≡ false → is_out_in a Response ≡ false → AtRest c b n ends x
none_extended c t a b n ends x k s o r =
    timed_so c t a b n ends x x.request x.response k s
    (timed_flow c t Request a b (handed_out n x.ready) x.waiting x.request x.request k.request s refl
    (λ i. absurd (true≢false (sym i ∙ o)))
    (k.request.extended s.live ∙ sym (s.extended Request ∙ ap (λ u. u && not a.request.extended && is_some (override_ms c t) || a.request.extended) o)))
    (timed_flow c t Response a b (handed_out n x.ready) x.waiting x.response x.response k.response s refl
    (λ i. absurd (true≢false (sym i ∙ r)))
    (k.response.extended s.live ∙ sym (s.extended Response ∙ ap (λ u. u && not a.response.extended && is_some (override_ms c t) || a.response.extended) none)))
  where
    none : (not (is_out_in a Request) && is_out_in a Response) ≡ false
    none = ap (λ u. not (is_out_in a Request) && u) r ∙ by (not (is_out_in a Request))
      where
        by : (b : Bool) → (b && false) ≡ false
        by true = refl
        by false = refl
