-- An exchange in which one direction was told something, by its ties.
use Rattle.std.proofs.Common.{refl, sym, ◌∙◌, ap, arith, subst, append-nil, length-append}
use Rattle.std.proofs.lemmas.Bool.{lt-ltb}
use Rattle.std.proofs.lemmas.List.{drop-append-le, length-drop, map-append}
use Rattle.std.specs.Prelude.{ℕ, ◌≡◌, ◌+◌, ◌-◌, ◌≤◌, Bool, true, false, not, ◌||◌, List, [], ◌∷◌, ◌++◌, length, take, drop, map, Option, Some, None, slice_get, if◌then◌else◌, nat_lt}
use Rattle.ext_msgs.specs.declared.ask.Ask.{Ask}
use Rattle.http_model.specs.Bytes.{is_empty}
use Rattle.http_model.specs.Wire.{local_reply}
use Rattle.http_model.specs.declared.types.Direction.{Direction}
use Rattle.http_model.specs.declared.types.Direction.TheVariants.{Request, Response}
use Rattle.filter_model.specs.Account.{ExchangeAccount, Fate, Live, Left, Replied, Aborted, course, direction_of, flow, is_out_in, is_to_head}
use Rattle.filter_model.specs.Answers.{ask_of}
use Rattle.filter_model.specs.Config.{FilterConfig}
use Rattle.filter_model.specs.Course.{AskedPart, Course, out}
use Rattle.filter_model.specs.Half.{progress}
use Rattle.filter_model.specs.Half as half
use Rattle.filter_model.specs.Step.{is_live}
use Rattle.filter_model.specs.Told.{asks_behind, known}
use Rattle.filter_model.specs.ToldMore.{across}
use Rattle.h1_outlet.specs.Outlets.{all}
use Rattle.exchange.specs.Flows.{Story, FlowStands, SameMarks}
use Rattle.exchange.specs.Moves.{request_noted, response_noted}
use Rattle.filter_model.specs.InTurn.{asks_in}
use Rattle.exchange.specs.Order.{so_many}
use Rattle.exchange.specs.Stands.{AtRest, FlowTies, IsFate, OfStream, handed_out, in_64}
use Rattle.exchange.specs.declared.exchange.Exchange.{Exchange}
use Rattle.exchange.specs.declared.fate.Fate.{Fate as FateNow}
use Rattle.exchange.specs.declared.fate.Fate.TheVariants as fate
use Rattle.exchange.specs.declared.flow.Flow.{Flow}
use Rattle.exchange.proofs.Next.{front_next, given_next, handed_next, lost_next, source_next}
use Rattle.exchange.proofs.Onward.{Onward}
use Rattle.exchange.proofs.TimingTies.{to_head_next}
use Rattle.exchange.proofs.Turns.{get_first, get_within, ways_of}
use Rattle.exchange.proofs.Wholly.{no_reply}
use Rattle.exchange.proofs.GivingReplied.{unreplied}

-- what a direction's story has become
pub record Moved (s s' : Story) : Type 0 where
  pub source : s'.source ≡ s.source
  pub config : (s'.past.config ≡ s.past.config) × (s'.past.direction ≡ s.past.direction)
  pub handed : (progress s'.past).handed ≡ (progress s.past).handed
  pub front : s'.flowed.front ≡ s.flowed.front
  pub reply : s'.flowed.reply ≡ []

pub not_moved : (s : Story) → s.flowed.reply ≡ [] → Moved s s
not_moved s e = record { source = refl; config = (refl, refl); handed = refl; front = refl; reply = e }

-- The ties of a direction

pub flow_next : (c : FilterConfig) (d d' : Direction) (g a b : ExchangeAccount) (n : ℕ) (w : Option ℕ) (x y : Flow) (t : FlowTies c d' a a n w x) (s : Story) → Onward c d g a b
    → n ≤ length a.made → FlowStands s y → Moved t.story s → half.course s.past ≡ known (course d' b) → (flow d' b).given ≡ take s.flowed.given (all s.flowed)
    → (is_out_in b d' ≡ true → y.deadline ≡ in_64 (flow d' b).deadline) → y.extended ≡ x.extended → y.lost ≡ x.lost → FlowTies c d' b b n w y
flow_next c d d' g a b n w x y t s o l z m told given timer extended lost = record {
  story = s;
  stands = z;
  config = m.config.0 ∙ t.config;
  way = m.config.1 ∙ t.way;
  source = m.source ∙ t.source ∙ sym (source_next d' g b o.rest ∙ o.unread.source d');
  front = m.front ∙ t.front ∙ sym (front_next d' g b o.rest ∙ o.unread.front d');
  given = given;
  reply = m.reply ∙ sym (no_reply d' w b.fate (ap is_live o.fate ∙ o.live));
  handed_on = m.handed ∙ t.handed_on ∙ sym (ap (λ l. length (asks_in d' (take n l))) o.made ∙ handed_next d' n a.made (asks_behind d (course d a) (course d b)) l);
  told = λ live. told;
  asks = record { rest = []; whole = append-nil (asks_in d' b.made) ∙ o.asks d' ∙ ap (λ (v : Course). map (ask_of d') v.asks) (sym told) };
  lost = lost ∙ t.lost ∙ sym (lost_next d' g b o.rest ∙ o.unread.lost d');
  timer = λ live. timer;
  extended = λ live. extended ∙ t.extended o.live ∙ sym (o.timer d').1;
}

-- the direction that was told something
pub own_next : (c : FilterConfig) (d : Direction) (g a b : ExchangeAccount) (n : ℕ) (w : Option ℕ) (x y : Flow) (t : FlowTies c d a a n w x) (s : Story) → Onward c d g a b
    → n ≤ length a.made → FlowStands s y → Moved t.story s → half.course s.past ≡ known (course d b) → (flow d b).given ≡ take s.flowed.given (all s.flowed)
    → SameMarks x y → (idle : Bool) (deadline : Option ℕ) → idle ≡ not (is_out_in a d) → deadline ≡ (if idle then in_64 (a.now + c.timeout_ms) else y.deadline)
    → FlowTies c d b b n w (record y { deadline = deadline })
own_next c d g a b n w x y t s o l z m told given k idle deadline i e =
    flow_next c d d g a b n w x (record y { deadline = deadline }) t s o l (record { reader = z.reader; half = z.half; outlet = z.outlet; is_past = z.is_past; parts = z.parts; way = z.way })
    m told given (λ live. e ∙ by (is_out_in a d) idle i refl) k.extended k.lost
  where
    by : (u idle : Bool) → idle ≡ not u → is_out_in a d ≡ u → (if idle then in_64 (a.now + c.timeout_ms) else y.deadline) ≡ in_64 (flow d b).deadline
    by true false j v = k.deadline ∙ t.timer o.live v ∙ ap in_64 (sym ((o.timer d).0 ∙ ap (λ q. if q then (flow d a).deadline else g.now + c.timeout_ms) v))
    by false true j v =
        ap (λ q. in_64 (q + c.timeout_ms)) (sym o.unread.now) ∙ ap in_64 (sym ((o.timer d).0 ∙ ap (λ q. if q then (flow d a).deadline else g.now + c.timeout_ms) v))
    by true true j v = absurd cc
    by false false j v = absurd cc

-- the other one
pub other_next : (c : FilterConfig) (d d' : Direction) (g a b : ExchangeAccount) (n : ℕ) (w : Option ℕ) (x : Flow) → FlowTies c d' a a n w x → Onward c d g a b → d' ≡ across d
    → n ≤ length a.made → (flow d' g).given ≡ (flow d' a).given → FlowTies c d' b b n w x
other_next c d d' g a b n w x t o e l v =
    let k : known (course d' b) ≡ known (course d' a) = subst (λ q. known (course q b) ≡ known (course q a)) (sym e) o.other in
    flow_next c d d' g a b n w x x t t.story o l t.stands (not_moved t.story (t.reply ∙ no_reply d' w a.fate o.live)) (t.told o.live ∙ sym k) (given_next d' g b o.rest ∙ v ∙ t.given)
    (λ u. later (ap (λ (q : Course). not (is_empty (out q))) (sym k) ∙ u)) refl refl
  where
    later : is_out_in a d' ≡ true → x.deadline ≡ in_64 (flow d' b).deadline
    later u = t.timer o.live u ∙ ap in_64 (sym ((o.timer d').0 ∙ ap (λ q. if q then (flow d' a).deadline else g.now + c.timeout_ms) u))

-- The exchange

fate_next : (c : FilterConfig) (a b : ExchangeAccount) (f f' : Fate) (x : FateNow) → f' ≡ f → is_live f ≡ true → IsFate c a f x → IsFate c b f' x
fate_next c a b Live f' x e l k = subst (λ q. IsFate c b q x) (sym e) (by x k)
  where
    by : (x : FateNow) → IsFate c a Live x → IsFate c b Live x
    by fate.Live k = k
    by fate.Left k = absurd k
    by (fate.Replied g) k = absurd k
    by (fate.Aborted g) k = absurd k
fate_next c a b Left f' x e l k = absurd cc
fate_next c a b (Replied r) f' x e l k = absurd cc
fate_next c a b Aborted f' x e l k = absurd cc

any_more : (xs ys : List Ask) (made : ℕ) → made ≡ length ys → (not (is_empty xs) || nat_lt 0 made) ≡ not (is_empty (xs ++ ys))
any_more (x ∷ xs) ys made e = refl
any_more [] [] made e = ap (nat_lt 0) e
any_more [] (y ∷ ys) made e = lt-ltb 0 made (omega (arith, e))

-- with the asks that the direction made behind those that wait to be sent
order_next : (sent : ℕ) (xs : List Ask) (d : Direction) (ps : List AskedPart) (made : ℕ) → sent ≤ length xs → made ≡ length ps
    → map direction_of (drop sent xs) ++ so_many made d ≡ map direction_of (drop sent (xs ++ map (ask_of d) ps))
order_next sent xs d ps made l e =
    ap (λ n. map direction_of (drop sent xs) ++ so_many n d) e ∙ ap (λ zs. map direction_of (drop sent xs) ++ zs) (sym (ways_of d ps))
    ∙ sym (map-append direction_of (drop sent xs) (map (ask_of d) ps)) ∙ ap (map direction_of) (sym (drop-append-le sent xs (map (ask_of d) ps) l))

pub handed_within : (n : ℕ) (made : List Ask) (ready : Option Ask) → n ≤ length made → ((ask : Ask) → ready ≡ Some ask → slice_get made n ≡ Some ask) → handed_out n ready ≤ length made
handed_within n made None l k = l
handed_within n made (Some ask) l k = let m = get_within n made ask (k ask refl) in omega (arith, m)

-- the asks that wait to be sent, of which the oldest may have been sent since
pub record Waits (a b : ExchangeAccount) (n : ℕ) (order : List Direction) (unsent : ℕ) : Type 0 where
  pub ways : order ≡ map direction_of (drop b.sent a.made)
  pub counts : b.sent + unsent ≡ n
  pub bound : b.sent ≤ length a.made

record Rest (c : FilterConfig) (d : Direction) (b : ExchangeAccount) (n : ℕ) (ends : List Bool) (x : Exchange) (order : List Direction) (made : ℕ) : Type 0 where
  ways : order ++ so_many made d ≡ map direction_of (drop b.sent b.made)
  within : n ≤ length b.made
  ready : (ask : Ask) → x.ready ≡ Some ask → slice_get b.made n ≡ Some ask
  now : x.clock ≡ b.now
  to_head : x.to_head ≡ is_to_head b
  fate : IsFate c b b.fate x.fate
  waiting : (status : ℕ) → x.waiting ≡ Some status → b.fate ≡ Replied (local_reply status)
  stream : OfStream b ends (record x.stream { asked = x.stream.asked || nat_lt 0 made })

rest_next : (c : FilterConfig) (d : Direction) (g a b : ExchangeAccount) (n : ℕ) (ends : List Bool) (x : Exchange) (order : List Direction) (unsent made : ℕ) → AtRest c a n ends x
    → Onward c d g a b → Waits a b n order unsent → made ≡ length (drop (length (course d a).asks) (course d b).asks) → Rest c d b n ends x order made
rest_next c d g a b n ends x order unsent made t o m e =
    let more : List AskedPart = drop (length (course d a).asks) (course d b).asks in
    let l = t.within in
    let k : length b.made ≡ length a.made + length (map (ask_of d) more) = ap length o.made ∙ length-append a.made (map (ask_of d) more) in
    record {
      ways = ap (λ xs. xs ++ so_many made d) m.ways ∙ order_next b.sent a.made d more made m.bound e ∙ ap (λ xs. map direction_of (drop b.sent xs)) (sym o.made);
      within = omega (arith, l, k);
      ready = λ ask i. ap (λ xs. slice_get xs n) o.made ∙ get_first n a.made (map (ask_of d) more) ask (t.ready ask i);
      now = t.now ∙ sym (o.rest.now ∙ o.unread.now);
      to_head = t.to_head ∙ sym (to_head_next g b o.rest ∙ o.unread.to_head);
      fate = fate_next c a b a.fate b.fate x.fate o.fate o.live t.fate;
      waiting = λ status i. o.fate ∙ t.waiting status i;
      stream = record {
        asked = ap (λ q. q || nat_lt 0 made) t.stream.asked ∙ any_more a.made (map (ask_of d) more) made (e ∙ sym (long more)) ∙ ap (λ xs. not (is_empty xs)) (sym o.made);
        unopened = t.stream.unopened ∙ sym (o.rest.unopened ∙ o.unread.unopened);
        closed = t.stream.closed ∙ sym (o.rest.closed ∙ o.unread.closed);
        ending = t.stream.ending ∙ sym o.ending;
        ended = t.stream.ended;
      };
    }
  where
    long : (ps : List AskedPart) → length (map (ask_of d) ps) ≡ length ps
    long [] = refl
    long (p ∷ ps) = ap ℕ.suc (long ps)

-- the direction's flow, and how many asks it made, by which its timer starts where none was out
pub record Own (c : FilterConfig) (d : Direction) (a b : ExchangeAccount) (s : Story) (x y : Flow) (made : ℕ) (idle : Bool) : Type 0 where
  pub story : Story
  pub stands : FlowStands story y
  pub moved : Moved s story
  pub told : half.course story.past ≡ known (course d b)
  pub given : (flow d b).given ≡ take story.flowed.given (all story.flowed)
  pub marks : SameMarks x y
  pub rested : idle ≡ not (is_out_in a d)
  pub grown : made ≡ length (drop (length (course d a).asks) (course d b).asks)

deadline_is : (idle : Bool) (clock now timeout timeout' : ℕ) (old : Option ℕ) → clock ≡ now → timeout ≡ timeout' → (if idle then in_64 (clock + timeout) else old) ≡ (if idle then in_64 (now + timeout') else old)
deadline_is idle clock now timeout timeout' old e k = ap (λ n. if idle then in_64 (n + timeout) else old) e ∙ ap (λ n. if idle then in_64 (now + n) else old) k

pub request_moved : (c : FilterConfig) (g a b : ExchangeAccount) (n : ℕ) (ends : List Bool) (x : Exchange) (y : Flow) (order : List Direction) (unsent made : ℕ) (idle : Bool)
    → (t : AtRest c a n ends x) → Onward c Request g a b → x.settings.timeout_ms ≡ c.timeout_ms → Waits a b n order unsent → Own c Request a b t.request.story x.request y made idle
    → g.response.given ≡ a.response.given → AtRest c b n ends (request_noted made idle (record x { request = y; order = order; unsent = unsent }))
request_moved c g a b n ends x y order unsent made idle t o i m k v =
    let r = rest_next c Request g a b n ends x order unsent made t o m k.grown in
    let l = handed_within n a.made x.ready t.within t.ready in
    record {
      request = own_next c Request g a b (handed_out n x.ready) x.waiting x.request y t.request k.story o l k.stands k.moved k.told k.given k.marks idle _ k.rested
          (deadline_is idle x.clock a.now x.settings.timeout_ms c.timeout_ms y.deadline t.now i);
      response = other_next c Request Response g a b (handed_out n x.ready) x.waiting x.response t.response o refl l v;
      order = r.ways;
      unsent = m.counts;
      within = r.within;
      ready = r.ready;
      now = r.now;
      to_head = r.to_head;
      fate = r.fate;
      waiting = r.waiting;
      stream = r.stream;
      alone = λ e. absurd (unreplied b.fate (ap is_live o.fate ∙ o.live) e);
    }

pub response_moved : (c : FilterConfig) (g a b : ExchangeAccount) (n : ℕ) (ends : List Bool) (x : Exchange) (y : Flow) (order : List Direction) (unsent made : ℕ) (idle : Bool)
    → (t : AtRest c a n ends x) → Onward c Response g a b → x.settings.timeout_ms ≡ c.timeout_ms → Waits a b n order unsent → Own c Response a b t.response.story x.response y made idle
    → g.request.given ≡ a.request.given → AtRest c b n ends (response_noted made idle (record x { response = y; order = order; unsent = unsent }))
response_moved c g a b n ends x y order unsent made idle t o i m k v =
    let r = rest_next c Response g a b n ends x order unsent made t o m k.grown in
    let l = handed_within n a.made x.ready t.within t.ready in
    record {
      request = other_next c Response Request g a b (handed_out n x.ready) x.waiting x.request t.request o refl l v;
      response = own_next c Response g a b (handed_out n x.ready) x.waiting x.response y t.response k.story o l k.stands k.moved k.told k.given k.marks idle _ k.rested
          (deadline_is idle x.clock a.now x.settings.timeout_ms c.timeout_ms y.deadline t.now i);
      order = r.ways;
      unsent = m.counts;
      within = r.within;
      ready = r.ready;
      now = r.now;
      to_head = r.to_head;
      fate = r.fate;
      waiting = r.waiting;
      stream = r.stream;
      alone = λ e. absurd (unreplied b.fate (ap is_live o.fate ∙ o.live) e);
    }

-- at most eight wait to be sent
pub few_wait : (c : FilterConfig) (d : Direction) (g a b : ExchangeAccount) (n : ℕ) (order : List Direction) (unsent made : ℕ) → Onward c d g a b → Waits a b n order unsent
    → made ≡ length (drop (length (course d a).asks) (course d b).asks) → length order + made ≤ 8
few_wait c d g a b n order unsent made o m e =
    let more : List AskedPart = drop (length (course d a).asks) (course d b).asks in
    let f = o.few in
    let l = m.bound in
    let i : length order ≡ length a.made - b.sent = ap length m.ways ∙ mapped (drop b.sent a.made) ∙ length-drop b.sent a.made in
    let k : length b.made ≡ length a.made + length (map (ask_of d) more) = ap length o.made ∙ length-append a.made (map (ask_of d) more) in
    let j : length (map (ask_of d) more) ≡ length more = long more in
    omega (arith, f, l, i, k, j, e)
  where
    long : (ps : List AskedPart) → length (map (ask_of d) ps) ≡ length ps
    long [] = refl
    long (p ∷ ps) = ap ℕ.suc (long ps)

    mapped : (xs : List Ask) → length (map direction_of xs) ≡ length xs
    mapped [] = refl
    mapped (x ∷ xs) = ap ℕ.suc (mapped xs)
