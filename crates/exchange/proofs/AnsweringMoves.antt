-- An answer to a part that is no cut: its direction goes on, with its timer started anew.
use Rattle.std.proofs.Common.{refl, sym, ◌∙◌, ap, arith, subst, inl, append-nil, length-append}
use Rattle.std.proofs.lemmas.List.{drop_all}
use Rattle.std.specs.Prelude.{ℕ, ◌≡◌, ◌≤◌, ◌+◌, ◌-◌, Bool, true, false, not, List, [], ◌∷◌, ◌++◌, length, drop, take, map, filter_map, Option, Some, None, is_some, if◌then◌else◌}
use Rattle.ext_msgs.specs.declared.answer.Answer.{Answer}
use Rattle.ext_msgs.specs.declared.answer.ModeNumbers.{ModeNumbers}
use Rattle.ext_msgs.specs.declared.answer.PartAnswer.{PartAnswer as Told}
use Rattle.ext_msgs.specs.declared.modes.PartModes.{PartModes}
use Rattle.http_model.specs.Bytes.{IsPrefix, is_empty}
use Rattle.http_model.specs.declared.types.Direction.{Direction}
use Rattle.http_model.specs.declared.types.Direction.TheVariants.{Request, Response}
use Rattle.filter_model.specs.Account.{ExchangeAccount, course, direction_of, flow, gathered, is_out_in}
use Rattle.filter_model.specs.Answers.{ask_of}
use Rattle.filter_model.specs.Config.{FilterConfig}
use Rattle.filter_model.specs.Course.{Course, is_over, out}
use Rattle.filter_model.specs.Half.{HalfCall, Settle, progress}
use Rattle.filter_model.specs.Half as half
use Rattle.filter_model.specs.Right.{Call, Stepped, IsHistory, account, ask_given, end_given}
use Rattle.filter_model.specs.Step.{after, is_live, step}
use Rattle.filter_model.specs.Told.{IsNoCut, asks_behind, known, told}
use Rattle.filter_model.specs.ToldMore.{SameRest, other_calls}
use Rattle.filter_model.specs.View.{Answered}
use Rattle.filter_model.proofs.AnswerTold.{answer_made, other_told, other_timer, own_told, own_timer}
use Rattle.filter_model.proofs.FewAsks.{few_unsent, sent_bound}
use Rattle.filter_model.proofs.RestStays.{same_fate}
use Rattle.h1_outlet.specs.Outlets.{Flowed, all}
use Rattle.half_machine.specs.Calls.{MaySettle}
use Rattle.exchange.specs.Answering.{IsToPart, modes_in, settled_with, to_part, unsettled}
use Rattle.exchange.specs.Flows.{FlowStands, SameMarks, Story}
use Rattle.exchange.specs.Moves.{request_noted, response_noted}
use Rattle.filter_model.specs.InTurn.{asks_in}
use Rattle.exchange.specs.Reading.{HasHeard}
use Rattle.exchange.specs.Stands.{AtRest, FlowTies, IsAfter, handed_out, in_64}
use Rattle.exchange.specs.declared.exchange.Exchange.{Exchange}
use Rattle.exchange.specs.declared.flow.Flow.{Flow}
use Rattle.exchange.proofs.GivingReplied.{unreplied}
use Rattle.exchange.proofs.AnsweringParts.{IsAccepted, brought_by, calls_to, course_as, early, is_asked, settled_course, settled_early}
use Rattle.exchange.proofs.GivingTo.{SaysUnhanded, made_is}
use Rattle.exchange.proofs.Moving.{Own, Waits, few_wait, request_moved, response_moved}
use Rattle.exchange.proofs.Onward.{Onward}
use Rattle.exchange.proofs.Telling.{course_told, none_heard, all_heard}
use Rattle.exchange.proofs.TimingSteps.{rest_of}
use Rattle.exchange.proofs.Releasing.{living_fate}
use Rattle.filter_model.proofs.FewAsks.{asks_turn}
use Rattle.exchange.proofs.Wholly.{no_reply}

-- The account before its asks: the timer of the answer's direction starts anew, and the response has its modes

abbrev pub request_anew : FilterConfig → Course → ExchangeAccount → ExchangeAccount
request_anew c w a = record a {
  request = record a.request { deadline = a.now + c.timeout_ms; extended = false };
  response = record a.response { course = w };
}

abbrev pub response_anew : FilterConfig → ExchangeAccount → ExchangeAccount
response_anew c a = record a { response = record a.response { deadline = a.now + c.timeout_ms; extended = false } }

same_if : (b : Bool) (n : ℕ) → (if b then n else n) ≡ n
same_if true n = refl
same_if false n = refl

abbrev is_waiting : Course → Bool
is_waiting w = not (is_empty (out w))

-- modes make no ask, and none is answered by them
settled_asks : (o : Option (PartModes × PartModes)) (w : Course) → (settled_course o w).asks ≡ w.asks
settled_asks None w = refl
settled_asks (Some m) w = refl

settled_out : (o : Option (PartModes × PartModes)) (w : Course) → is_waiting (settled_course o w) ≡ is_waiting w
settled_out None w = refl
settled_out (Some m) w = refl

none_behind : (d : Direction) (w v : Course) → v.asks ≡ w.asks → asks_behind d w v ≡ []
none_behind d w v e = let l : length v.asks ≡ length w.asks = ap length e in ap (map (ask_of d)) (drop_all (length w.asks) v.asks (omega (arith, l)))

-- What is left

abbrev left_by : FilterConfig → List Call → Answer → ExchangeAccount
left_by c h x = unsettled c (Answered (Some x)) (account c h)

rest_left : (c : FilterConfig) (h : List Call) (x : Answer) → is_live (account c h).fate ≡ true → SameRest (account c h) (left_by c h x)
unfolding gathered
rest_left c h x l = rest_of c (Answered (Some x)) (account c h) l

asks_left : (c : FilterConfig) (h : List Call) (x : Answer) (d : Direction) → asks_in d (left_by c h x).made ≡ map (ask_of d) (course d (left_by c h x)).asks
unfolding after
asks_left c h x Request = asks_turn c (Stepped (Answered (Some x)) ∷ h) Request
asks_left c h x Response = asks_turn c (Stepped (Answered (Some x)) ∷ h) Response

few_left : (c : FilterConfig) (h : List Call) (x : Answer) → length (left_by c h x).made ≤ (left_by c h x).sent + 8
unfolding after
few_left c h x = few_unsent c (Stepped (Answered (Some x)) ∷ h)

-- The response has its modes

response_told : (c : FilterConfig) (h : List Call) (x : Answer) (part : Told) (numbers : Option ModeNumbers) → IsHistory c h → IsToPart c h x Request part numbers → IsNoCut c (Answered (Some x)) (account c h)
    → IsAccepted c (account c h) Request part → known (left_by c h x).response.course ≡ settled_course (brought_by c x part) (known (account c h).response.course)
unfolding after
response_told c h x part numbers r k n e =
    other_told c h x (to_part Request part) (r, tt) n k.to
    ∙ settled_early c (brought_by c x part) (known (account c h).response.course) (λ i. early c h x part numbers r k e i)

request_untold : (c : FilterConfig) (h : List Call) (x : Answer) (part : Told) (numbers : Option ModeNumbers) → IsHistory c h → IsToPart c h x Response part numbers → IsNoCut c (Answered (Some x)) (account c h)
    → known (left_by c h x).request.course ≡ known (account c h).request.course
unfolding after
request_untold c h x part numbers r k n = other_told c h x (to_part Response part) (r, tt) n k.to

-- Its direction goes on

request_onward : (c : FilterConfig) (h : List Call) (x : Answer) (part : Told) (numbers : Option ModeNumbers) → IsHistory c h → IsToPart c h x Request part numbers → IsNoCut c (Answered (Some x)) (account c h)
    → IsAccepted c (account c h) Request part
    → Onward c Request (request_anew c (left_by c h x).response.course (account c h)) (request_anew c (left_by c h x).response.course (account c h)) (left_by c h x)
request_onward c h x part numbers r k n e =
    let a : ExchangeAccount = account c h in
    let b : ExchangeAccount = left_by c h x in
    let left : SameRest a b = rest_left c h x n.live in
    record {
      live = n.live;
      unread = record { source = λ d. refl; front = λ d. refl; lost = λ d. refl; now = refl; unopened = refl; closed = refl; to_head = refl };
      rest = record {
        request = record { brought = left.request.brought; ended = left.request.ended; lost = left.request.lost; given = left.request.given; original = left.request.original };
        response = record { brought = left.response.brought; ended = left.response.ended; lost = left.response.lost; given = left.response.given; original = refl };
        sent = left.sent;
        now = left.now;
        unopened = left.unopened;
        closed = left.closed;
      };
      fate = same_fate c (Answered (Some x)) a n;
      timer = timer;
      made = answer_made c x (to_part Request part) a n k.to
          ∙ ap (λ l. (a.made ++ asks_behind Request a.request.course b.request.course) ++ l) (none_behind Response a.response.course b.response.course asked)
          ∙ append-nil (a.made ++ asks_behind Request a.request.course b.request.course);
      other = refl;
      asks = asks_left c h x;
      few = few_left c h x;
      ending = refl;
    }
  where
    is : known (left_by c h x).response.course ≡ settled_course (brought_by c x part) (known (account c h).response.course)
    is = response_told c h x part numbers r k n e

    asked : (left_by c h x).response.course.asks ≡ (account c h).response.course.asks
    asked = ap (λ (v : Course). v.asks) is ∙ settled_asks (brought_by c x part) (known (account c h).response.course)

    waiting : is_waiting (left_by c h x).response.course ≡ is_out_in (account c h) Response
    waiting = ap is_waiting is ∙ settled_out (brought_by c x part) (known (account c h).response.course)

    timer : (d : Direction)
        → ((flow d (left_by c h x)).deadline
        ≡ (if is_out_in (request_anew c (left_by c h x).response.course (account c h)) d then (flow d (request_anew c (left_by c h x).response.course (account c h))).deadline else (account c h).now + c.timeout_ms))
        × ((flow d (left_by c h x)).extended ≡ (flow d (request_anew c (left_by c h x).response.course (account c h))).extended)
    timer Request =
        let t = own_timer c x (to_part Request part) (account c h) n k.to in
        (t.0 ∙ sym (same_if (is_out_in (account c h) Request) ((account c h).now + c.timeout_ms)), t.1)
    timer Response =
        let t = other_timer c x (to_part Request part) (account c h) n k.to in
        (t.0 ∙ ap (λ i. if i then (account c h).response.deadline else (account c h).now + c.timeout_ms) (sym waiting), t.1)

response_onward : (c : FilterConfig) (h : List Call) (x : Answer) (part : Told) (numbers : Option ModeNumbers) → IsHistory c h → IsToPart c h x Response part numbers → IsNoCut c (Answered (Some x)) (account c h)
    → Onward c Response (response_anew c (account c h)) (response_anew c (account c h)) (left_by c h x)
response_onward c h x part numbers r k n =
    let a : ExchangeAccount = account c h in
    let b : ExchangeAccount = left_by c h x in
    let left : SameRest a b = rest_left c h x n.live in
    let is : known b.request.course ≡ known a.request.course = request_untold c h x part numbers r k n in
    record {
      live = n.live;
      unread = record { source = λ d. refl; front = λ d. refl; lost = λ d. refl; now = refl; unopened = refl; closed = refl; to_head = refl };
      rest = record {
        request = left.request;
        response = record { brought = left.response.brought; ended = left.response.ended; lost = left.response.lost; given = left.response.given; original = left.response.original };
        sent = left.sent;
        now = left.now;
        unopened = left.unopened;
        closed = left.closed;
      };
      fate = same_fate c (Answered (Some x)) a n;
      timer = timer;
      made = answer_made c x (to_part Response part) a n k.to
          ∙ ap (λ l. (a.made ++ l) ++ asks_behind Response a.response.course b.response.course) (none_behind Request a.request.course b.request.course (ap (λ (v : Course). v.asks) is))
          ∙ ap (λ l. l ++ asks_behind Response a.response.course b.response.course) (append-nil a.made);
      other = is;
      asks = asks_left c h x;
      few = few_left c h x;
      ending = refl;
    }
  where
    timer : (d : Direction)
        → ((flow d (left_by c h x)).deadline ≡ (if is_out_in (response_anew c (account c h)) d then (flow d (response_anew c (account c h))).deadline else (account c h).now + c.timeout_ms))
        × ((flow d (left_by c h x)).extended ≡ (flow d (response_anew c (account c h))).extended)
    timer Request = other_timer c x (to_part Response part) (account c h) n k.to
    timer Response =
        let t = own_timer c x (to_part Response part) (account c h) n k.to in
        (t.0 ∙ sym (same_if (is_out_in (account c h) Response) ((account c h).now + c.timeout_ms)), t.1)

-- An exchange whose flows are so

abbrev settle_calls : Option PartModes → List HalfCall
settle_calls None = []
settle_calls (Some m) = Settle m ∷ []

settled_heard : (m : Option PartModes) (s : Story) → HasHeard (settle_calls m) s (settled_with (is_some m) m s)
settled_heard None s = none_heard s
settled_heard (Some m) s = all_heard (Settle m ∷ []) s

settled_told : (m : Option PartModes) (s : Story)
    → half.course (settled_with (is_some m) m s).past ≡ told s.past.config s.past.direction (settle_calls m) (half.course s.past)
settled_told None s = refl
settled_told (Some m) s = course_told s (Settle m)

settle_calls_are : (o : Option (PartModes × PartModes)) → settle_calls (modes_in Response o) ≡ other_calls Request o
settle_calls_are None = refl
settle_calls_are (Some m) = refl

response_settled : (c : FilterConfig) (h : List Call) (x : Answer) (part : Told) (numbers : Option ModeNumbers) (n : ℕ) (w : Option ℕ) (f z : Flow) (m : Option PartModes) → IsHistory c h
    → IsToPart c h x Request part numbers → IsNoCut c (Answered (Some x)) (account c h) → IsAccepted c (account c h) Request part → (t : FlowTies c Response (account c h) (account c h) n w f)
    → m ≡ modes_in Response (brought_by c x part) → FlowStands (settled_with (is_some m) m t.story) z → SameMarks f z
    → FlowTies c Response (request_anew c (left_by c h x).response.course (account c h)) (request_anew c (left_by c h x).response.course (account c h)) n w z
response_settled c h x part numbers n w f z m r k y e t i v marks = record {
  story = settled_with (is_some m) m t.story;
  stands = v;
  config = heard.config.0 ∙ t.config;
  way = heard.config.1 ∙ t.way;
  source = heard.source ∙ t.source;
  front = ap (λ (q : Flowed). q.front) heard.flowed ∙ t.front;
  given = t.given ∙ sym (ap (λ q. take q.given (all q)) heard.flowed);
  reply = ap (λ (q : Flowed). q.reply) heard.flowed ∙ t.reply;
  handed_on = heard.handed ∙ t.handed_on;
  told = λ l. is ∙ sym told_is;
  asks = subst (λ l. IsPrefix (asks_in Response (account c h).made) (map (ask_of Response) l)) (sym same) t.asks;
  lost = marks.lost ∙ t.lost;
  timer = λ l o. marks.deadline ∙ t.timer y.live (sym (ap is_waiting told_is ∙ settled_out (brought_by c x part) (known (account c h).response.course)) ∙ o);
  extended = λ l. marks.extended ∙ t.extended y.live;
}
  where
    heard : HasHeard (settle_calls m) t.story (settled_with (is_some m) m t.story)
    heard = settled_heard m t.story

    told_is : known (left_by c h x).response.course ≡ settled_course (brought_by c x part) (known (account c h).response.course)
    told_is = response_told c h x part numbers r k y e

    is : half.course (settled_with (is_some m) m t.story).past ≡ settled_course (brought_by c x part) (known (account c h).response.course)
    is =
        settled_told m t.story
        ∙ ap (λ q. told q t.story.past.direction (settle_calls m) (half.course t.story.past)) t.config
        ∙ ap (λ q. told c.course q (settle_calls m) (half.course t.story.past)) t.way
        ∙ ap (told c.course Response (settle_calls m)) (t.told y.live)
        ∙ ap (λ q. told c.course Response q (known (account c h).response.course)) (ap settle_calls i ∙ settle_calls_are (brought_by c x part))
        ∙ settled_early c (brought_by c x part) (known (account c h).response.course) (λ j. early c h x part numbers r k e j)

    same : (half.course (settled_with (is_some m) m t.story).past).asks ≡ (half.course t.story.past).asks
    same = ap (λ (q : Course). q.asks) is ∙ settled_asks (brought_by c x part) (known (account c h).response.course) ∙ sym (ap (λ (q : Course). q.asks) (t.told y.live))

-- the response may be told them

some_in : (d : Direction) (o : Option (PartModes × PartModes)) → is_some o ≡ is_some (modes_in d o)
some_in d None = refl
some_in d (Some m) = refl

pub may_settle_early : (c : FilterConfig) (h : List Call) (x : Answer) (part : Told) (numbers : Option ModeNumbers) (n : ℕ) (w : Option ℕ) (f : Flow) (m : Option PartModes) (counts : Bool) → IsHistory c h
    → IsToPart c h x Request part numbers → IsAccepted c (account c h) Request part → (t : FlowTies c Response (account c h) (account c h) n w f) → m ≡ modes_in Response (brought_by c x part) → counts ≡ is_some m
    → counts ≡ true → MaySettle t.story.past
may_settle_early c h x part numbers n w f m counts r k e t i j o = record {
  early = inl (ap (λ (v : Course). v.original.head) (t.told k.heard.live) ∙ early c h x part numbers r k e (some_in Response (brought_by c x part) ∙ sym (ap is_some i) ∙ sym j ∙ o));
}

marked : (s : Story) (f : Flow) (deadline : Option ℕ) (extended : Bool) → FlowStands s f → FlowStands s (record f { deadline = deadline; extended = extended })
marked s f deadline extended t = record { reader = t.reader; half = t.half; outlet = t.outlet; is_past = t.is_past; parts = t.parts; way = t.way }

-- What the exchange goes on as

pub record GoesOn (c : FilterConfig) (b : ExchangeAccount) (n : ℕ) (ends : List Bool) (x y : Exchange) (before now : ℕ) : Type 0 where
  pub less : before ≤ now
  pub few : length x.order + (now - before) ≤ 8
  pub ties : AtRest c b n ends y

waits_so : (c : FilterConfig) (h : List Call) (x : Answer) (n : ℕ) (ends : List Bool) (y : Exchange) (a : ExchangeAccount) → AtRest c (account c h) n ends y → is_live (account c h).fate ≡ true
    → a.made ≡ (account c h).made → Waits a (left_by c h x) n y.order y.unsent
waits_so c h x n ends y a t l e =
    let k : (left_by c h x).sent ≡ (account c h).sent = (rest_left c h x l).sent in
    let b = sent_bound c h in
    let m : length a.made ≡ length (account c h).made = ap length e in
    record {
      ways = t.order ∙ ap (λ i. map direction_of (drop i (account c h).made)) (sym k) ∙ ap (λ l. map direction_of (drop (left_by c h x).sent l)) (sym e);
      counts = ap (λ i. i + y.unsent) k ∙ t.unsent;
      bound = omega (arith, b, k, m);
    }

-- no ask is taken back
no_fewer : (calls : List HalfCall) (s s' : Story) → HasHeard calls s s' → length (half.course s.past).asks ≤ length (half.course s'.past).asks
no_fewer calls s s' y =
    let e : length (half.course s.past).asks + length y.asks.rest ≡ length (half.course s'.past).asks = sym (length-append (half.course s.past).asks y.asks.rest) ∙ ap length y.asks.whole in
    omega (arith, e)

own_told_so : (c : FilterConfig) (h : List Call) (x : Answer) (d : Direction) (part : Told) (numbers : Option ModeNumbers) (n : ℕ) (w : Option ℕ) (f : Flow) → IsHistory c h
    → IsToPart c h x d part numbers → IsNoCut c (Answered (Some x)) (account c h) → IsAccepted c (account c h) d part → (t : FlowTies c d (account c h) (account c h) n w f) → (s : Story)
    → HasHeard (calls_to c d x part t.story) t.story s → is_over s.past.config (half.course s.past) ≡ false → half.course s.past ≡ known (course d (left_by c h x))
unfolding after
own_told_so c h x d part numbers n w f r k y e t s u o = course_as c h x d part numbers n w f k t e s u o ∙ sym (own_told c h x (to_part d part) (r, tt) y k.to) ∙ same d
  where
    same : (d : Direction) → known (course d (step c (Answered (Some x)) (account c h))) ≡ known (course d (left_by c h x))
    same Request = refl
    same Response = refl

own_given : (c : FilterConfig) (h : List Call) (x : Answer) (d : Direction) → is_live (account c h).fate ≡ true → (flow d (left_by c h x)).given ≡ (flow d (account c h)).given
own_given c h x Request l = (rest_left c h x l).request.given
own_given c h x Response l = (rest_left c h x l).response.given

-- the flow of its direction
own_so : (c : FilterConfig) (h : List Call) (x : Answer) (d : Direction) (part : Told) (numbers : Option ModeNumbers) (n : ℕ) (w : Option ℕ) (f g : Flow) (deadline : Option ℕ) (a : ExchangeAccount) (before now : ℕ)
    → IsHistory c h → IsToPart c h x d part numbers → IsNoCut c (Answered (Some x)) (account c h) → IsAccepted c (account c h) d part → (t : FlowTies c d (account c h) (account c h) n w f) → (s : Story)
    → HasHeard (calls_to c d x part t.story) t.story s → FlowStands s g → SameMarks f g → is_over s.past.config (half.course s.past) ≡ false → (course d a).asks ≡ (course d (account c h)).asks → is_out_in a d ≡ true
    → SaysUnhanded before f.half → SaysUnhanded now g.half
    → (before ≤ now) × Own c d a (left_by c h x) t.story (record f { deadline = deadline; extended = false }) (record g { deadline = deadline; extended = false }) (now - before) false
own_so c h x d part numbers n w f g deadline a before now r k y e t s u z marks o same out v v' =
    let told = own_told_so c h x d part numbers n w f r k y e t s u o in
    let i : before + (progress t.story.past).handed ≡ length (course d a).asks = v t.story.past t.stands.half ∙ ap (λ (q : Course). length q.asks) (t.told y.live) ∙ ap length (sym same) in
    let j : now + (progress s.past).handed ≡ length (course d (left_by c h x)).asks = v' s.past z.half ∙ ap (λ (q : Course). length q.asks) told in
    let p = no_fewer (calls_to c d x part t.story) t.story s u in
    let p1 : length (half.course t.story.past).asks ≡ length (course d a).asks = ap (λ (q : Course). length q.asks) (t.told y.live) ∙ ap length (sym same) in
    let p2 : length (half.course s.past).asks ≡ length (course d (left_by c h x)).asks = ap (λ (q : Course). length q.asks) told in
    let q = u.handed in (
      omega (arith, i, j, p, p1, p2, q),
      record {
        story = s;
        stands = marked s g deadline false z;
        moved = record {
          source = u.source;
          config = u.config;
          handed = u.handed;
          front = ap (λ (b : Flowed). b.front) u.flowed;
          reply = ap (λ (b : Flowed). b.reply) u.flowed ∙ t.reply ∙ no_reply d w (account c h).fate y.live;
        };
        told = told;
        given = own_given c h x d y.live ∙ t.given ∙ sym (ap (λ b. take b.given (all b)) u.flowed);
        marks = record { deadline = refl; extended = refl; lost = marks.lost };
        rested = sym (ap not out);
        grown = made_is before now (progress t.story.past).handed (progress s.past).handed (course d a).asks (course d (left_by c h x)).asks i j q (omega (arith, p, p1, p2));
      },
    )

-- an answer to the request, and the modes that it brings for the response
pub request_goes : (c : FilterConfig) (h : List Call) (x : Answer) (part : Told) (numbers : Option ModeNumbers) (y : Exchange) (f z : Flow) (m : Option PartModes) (before now : ℕ) → (s0 : IsAfter c h y)
    → IsToPart c h x Request part numbers → IsNoCut c (Answered (Some x)) (account c h) → IsAccepted c (account c h) Request part → (s : Story) → HasHeard (calls_to c Request x part s0.ties.request.story) s0.ties.request.story s
    → FlowStands s f → SameMarks y.request f → is_over s.past.config (half.course s.past) ≡ false → m ≡ modes_in Response (brought_by c x part)
    → FlowStands (settled_with (is_some m) m s0.ties.response.story) z → SameMarks y.response z → SaysUnhanded before y.request.half → SaysUnhanded now f.half
    → GoesOn c (left_by c h x) (length (filter_map ask_given h)) (filter_map end_given h) y (request_noted (now - before) true (record y { request = record f { extended = false }; response = z })) before now
request_goes c h x part numbers y f z m before now s0 k none e s u v marks o i v' marks' says says' =
    let a : ExchangeAccount = account c h in
    let a' : ExchangeAccount = request_anew c (left_by c h x).response.course a in
    let n : ℕ = length (filter_map ask_given h) in
    let ends : List Bool = filter_map end_given h in
    let t = s0.ties in
    let l = k.heard.live in
    let onward = request_onward c h x part numbers s0.right k none e in
    let deadline : Option ℕ = in_64 (y.clock + y.settings.timeout_ms) in
    let on_time : deadline ≡ in_64 (a.now + c.timeout_ms) = ap (λ q. in_64 (q + y.settings.timeout_ms)) t.now ∙ ap (λ q. in_64 (a.now + q)) s0.made.settings.timeout_ms in
    let own = own_so c h x Request part numbers (handed_out n y.ready) y.waiting y.request f deadline a' before now s0.right k none e t.request s u v marks o refl (is_asked c Request a part e) says says' in
    let w = waits_so c h x n ends y a' t l refl in
    let t' : AtRest c a' n ends (record y { request = record y.request { deadline = deadline; extended = false }; response = z }) = record {
      request = record {
        story = t.request.story;
        stands = marked t.request.story y.request deadline false t.request.stands;
        config = t.request.config;
        way = t.request.way;
        source = t.request.source;
        front = t.request.front;
        given = t.request.given;
        reply = t.request.reply;
        handed_on = t.request.handed_on;
        told = t.request.told;
        asks = t.request.asks;
        lost = t.request.lost;
        timer = λ j q. on_time;
        extended = λ j. refl;
      };
      response = response_settled c h x part numbers (handed_out n y.ready) y.waiting y.response z m s0.right k none e t.response i v' marks';
      order = t.order;
      unsent = t.unsent;
      within = t.within;
      ready = t.ready;
      now = t.now;
      to_head = t.to_head;
      fate = living_fate c a a' a.fate y.fate l t.fate;
      waiting = t.waiting;
      stream = record { asked = t.stream.asked; unopened = t.stream.unopened; closed = t.stream.closed; ending = t.stream.ending; ended = t.stream.ended };
      alone = λ q. absurd (unreplied a.fate l q);
    } in
    record {
      less = own.0;
      few = few_wait c Request a' a' (left_by c h x) n y.order y.unsent (now - before) onward w own.1.grown;
      ties = request_moved c a' a' (left_by c h x) n ends (record y { request = record y.request { deadline = deadline; extended = false }; response = z })
          (record f { deadline = deadline; extended = false }) y.order y.unsent (now - before) false t' onward s0.made.settings.timeout_ms w own.1 refl;
    }

-- an answer to the response
pub response_goes : (c : FilterConfig) (h : List Call) (x : Answer) (part : Told) (numbers : Option ModeNumbers) (y : Exchange) (f : Flow) (before now : ℕ) → (s0 : IsAfter c h y)
    → IsToPart c h x Response part numbers → IsNoCut c (Answered (Some x)) (account c h) → IsAccepted c (account c h) Response part → (s : Story) → HasHeard (calls_to c Response x part s0.ties.response.story) s0.ties.response.story s
    → FlowStands s f → SameMarks y.response f → is_over s.past.config (half.course s.past) ≡ false → SaysUnhanded before y.response.half → SaysUnhanded now f.half
    → GoesOn c (left_by c h x) (length (filter_map ask_given h)) (filter_map end_given h) y (response_noted (now - before) true (record y { response = record f { extended = false } })) before now
response_goes c h x part numbers y f before now s0 k none e s u v marks o says says' =
    let a : ExchangeAccount = account c h in
    let a' : ExchangeAccount = response_anew c a in
    let n : ℕ = length (filter_map ask_given h) in
    let ends : List Bool = filter_map end_given h in
    let t = s0.ties in
    let l = k.heard.live in
    let onward = response_onward c h x part numbers s0.right k none in
    let deadline : Option ℕ = in_64 (y.clock + y.settings.timeout_ms) in
    let on_time : deadline ≡ in_64 (a.now + c.timeout_ms) = ap (λ q. in_64 (q + y.settings.timeout_ms)) t.now ∙ ap (λ q. in_64 (a.now + q)) s0.made.settings.timeout_ms in
    let own = own_so c h x Response part numbers (handed_out n y.ready) y.waiting y.response f deadline a' before now s0.right k none e t.response s u v marks o refl (is_asked c Response a part e) says says' in
    let w = waits_so c h x n ends y a' t l refl in
    let t' : AtRest c a' n ends (record y { response = record y.response { deadline = deadline; extended = false } }) = record {
      request = record {
        story = t.request.story;
        stands = t.request.stands;
        config = t.request.config;
        way = t.request.way;
        source = t.request.source;
        front = t.request.front;
        given = t.request.given;
        reply = t.request.reply;
        handed_on = t.request.handed_on;
        told = t.request.told;
        asks = t.request.asks;
        lost = t.request.lost;
        timer = t.request.timer;
        extended = t.request.extended;
      };
      response = record {
        story = t.response.story;
        stands = marked t.response.story y.response deadline false t.response.stands;
        config = t.response.config;
        way = t.response.way;
        source = t.response.source;
        front = t.response.front;
        given = t.response.given;
        reply = t.response.reply;
        handed_on = t.response.handed_on;
        told = t.response.told;
        asks = t.response.asks;
        lost = t.response.lost;
        timer = λ j q. on_time;
        extended = λ j. refl;
      };
      order = t.order;
      unsent = t.unsent;
      within = t.within;
      ready = t.ready;
      now = t.now;
      to_head = t.to_head;
      fate = living_fate c a a' a.fate y.fate l t.fate;
      waiting = t.waiting;
      stream = record { asked = t.stream.asked; unopened = t.stream.unopened; closed = t.stream.closed; ending = t.stream.ending; ended = t.stream.ended };
      alone = λ q. absurd (unreplied a.fate l q);
    } in
    record {
      less = own.0;
      few = few_wait c Response a' a' (left_by c h x) n y.order y.unsent (now - before) onward w own.1.grown;
      ties = response_moved c a' a' (left_by c h x) n ends (record y { response = record y.response { deadline = deadline; extended = false } })
          (record f { deadline = deadline; extended = false }) y.order y.unsent (now - before) false t' onward s0.made.settings.timeout_ms w own.1 refl;
    }
