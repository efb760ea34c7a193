-- What the bytes or the end of a side come to that are no cut.
use Rattle.std.proofs.Common.{refl, sym, ◌∙◌, ap, subst, arith, ltb-false}
use Rattle.std.proofs.Math.Seq.{drop-length}
use Rattle.std.proofs.lemmas.List.{append_assoc, append-nil, drop-append-le, length-append, length-drop, length-map, map-append}
use Rattle.std.specs.Prelude.{ℕ, ◌+◌, ◌-◌, ◌≡◌, ◌≤◌, Bool, true, false, not, ◌||◌, List, [], ◌∷◌, ◌++◌, Option, length, map, drop, if◌then◌else◌, nat_lt, slice_get, filter_map}
use Rattle.ext_msgs.specs.declared.ask.Ask.{Ask}
use Rattle.http_model.specs.Bytes.{is_empty}
use Rattle.http_model.specs.declared.types.Direction.{Direction}
use Rattle.http_model.specs.declared.types.Direction.TheVariants.{Request, Response}
use Rattle.filter_model.specs.Account.{ExchangeAccount, course, direction_of, flow, from, gathered, is_head_request, is_out_in, to}
use Rattle.filter_model.specs.Answers.{ask_of}
use Rattle.filter_model.specs.Config.{FilterConfig}
use Rattle.filter_model.specs.Course.{AskedPart, is_over, out}
use Rattle.filter_model.specs.Half.{HalfCall}
use Rattle.filter_model.specs.Half as half
use Rattle.filter_model.specs.Right.{Call, Stepped, account, ask_given, end_given}
use Rattle.filter_model.specs.Sides.{IsReadOf}
use Rattle.filter_model.specs.Step.{after, is_live, step}
use Rattle.filter_model.specs.Told.{IsNoCut, asks_behind, known, news, told}
use Rattle.filter_model.specs.ToldMore.{BringsNoAnswer, SameRest}
use Rattle.filter_model.specs.View.{ViewEntry, Bytes, End}
use Rattle.filter_model.specs.declared.calls.Side.{Side}
use Rattle.filter_model.specs.declared.calls.Side.TheVariants.{Client, Upstream}
use Rattle.filter_model.proofs.EntryFits.{is_short}
use Rattle.filter_model.proofs.FewAsks.{asks_turn, few_unsent}
use Rattle.filter_model.proofs.Known.{over_known}
use Rattle.filter_model.proofs.NeverOver.{never_over}
use Rattle.filter_model.proofs.RestStays.{rest_stays, same_fate, timer_is}
use Rattle.filter_model.proofs.ToldEntry.{entry_made, entry_told}
use Rattle.filter_model.proofs.ToldReading.{no_news}
use Rattle.h1_message.specs.Source.{original}
use Rattle.h1_message.specs.declared.news.News.{News}
use Rattle.exchange.specs.Answering.{unsettled}
use Rattle.exchange.specs.Flows.{FlowStands, Story, SameMarks}
use Rattle.exchange.specs.Moves.{timed}
use Rattle.exchange.specs.Order.{so_many}
use Rattle.exchange.specs.Reading.{HasHeard, HasLearnt, IsTaking}
use Rattle.exchange.specs.Stands.{AtRest, FlowTies, IsFate, OfStream, handed_out, in_64}
use Rattle.exchange.specs.declared.exchange.Exchange.{Exchange}
use Rattle.exchange.specs.declared.flow.Flow.{Flow}
use Rattle.exchange.proofs.Moving.{handed_within}
use Rattle.exchange.proofs.ReadingRests.{FlowGoes, ties_of_goes}
use Rattle.exchange.proofs.ReadingSides.{BroughtBoth, both_brought, of_sides, other_same, request_unsettled, response_unsettled, side_original}
use Rattle.exchange.proofs.Releasing.{living_fate}
use Rattle.exchange.proofs.Telling.{none_heard}
use Rattle.exchange.proofs.Turns.{get_first, ways_of}
use Rattle.exchange.proofs.GivingReplied.{unreplied}

-- What each direction is told

no_answer : (s : Side) (e : ViewEntry) → IsReadOf s e → BringsNoAnswer e
no_answer Client (Bytes Client bytes) r = tt
no_answer Client (End Client) r = tt
no_answer Upstream (Bytes Upstream bytes) r = tt
no_answer Upstream (End Upstream) r = tt
no_answer _ _ r = absurd r

abbrev pub calls_in : FilterConfig → Direction → ExchangeAccount → ExchangeAccount → List HalfCall
calls_in c d g a = news c.course d (known (course d a)) (course d g).original

pub goes_in : (c : FilterConfig) (h : List Call) (s : Side) (e : ViewEntry) (n : News) (r : ExchangeAccount) (x : Exchange) (d : Direction) → IsTaking c h s e n r x → IsNoCut c e (account c h)
    → FlowGoes c d (gathered e (account c h)) (account c h) (step c e (account c h)) (calls_in c d (gathered e (account c h)) (account c h))
unfolding after
goes_in c h s e n r x d y k =
    let a : ExchangeAccount = account c h in
    let g : ExchangeAccount = gathered e a in
    let sizes : c.course.piece ≤ c.course.mark = omega (arith, y.made.sizes.piece, y.made.sizes.mark) in
    let is = entry_told c h e y.right (of_sides s e y.reads) k sizes d (is_short c h e y.right (of_sides s e y.reads) d) in
    let live : is_live (step c e a).fate ≡ true = ap is_live (same_fate c e a k) ∙ y.live in
    record {
      rest = rest_stays c e a y.live;
      given = given_in d (both_brought s e a y.reads);
      becomes = is;
      within = ap (is_over c.course) (sym is) ∙ over_known c.course (course d (step c e a)) ∙ never_over c (Stepped e ∷ h) y.right live d;
      more = asks_behind Request a.request.course (step c e a).request.course ++ asks_behind Response a.response.course (step c e a).response.course;
      made = entry_made c e a (of_sides s e y.reads) k ∙ append_assoc a.made _ _;
      in_turn = asks_turn c (Stepped e ∷ h) d;
      fate = same_fate c e a k;
      extended = (timer_is c e a (no_answer s e y.reads) k d).1;
    }
  where
    given_in : (d : Direction) → BroughtBoth (account c h) (gathered e (account c h)) → (flow d (gathered e (account c h))).given ≡ (flow d (account c h)).given
    given_in Request b = sym b.request
    given_in Response b = sym b.response

-- the other side's half is told nothing
other_calls : (s : Side) (e : ViewEntry) (c : FilterConfig) (a : ExchangeAccount) → IsReadOf s e → calls_in c (to s) (gathered e a) a ≡ []
other_calls s e c a r = ap (λ w. news c.course (to s) (known (course (to s) a)) w.original) (other_same s e a r) ∙ no_news c.course (to s) (course (to s) a)

-- a timer that runs on
still_out : (c : FilterConfig) (d : Direction) (e : ViewEntry) (a : ExchangeAccount) (x : Flow) → BringsNoAnswer e → IsNoCut c e a → is_out_in a d ≡ true → x.deadline ≡ in_64 (flow d a).deadline → x.deadline ≡ in_64 (flow d (step c e a)).deadline
still_out c d e a x b k o t =
    t ∙ sym (ap in_64 ((timer_is c e a b k d).0 ∙ ap (λ z. if z then (flow d a).deadline else (gathered e a).now + c.timeout_ms) o))

-- the timer of the direction that is told
told_timer : (c : FilterConfig) (d : Direction) (e : ViewEntry) (a : ExchangeAccount) (x : Exchange) (f : Flow) (idle : Bool) → BringsNoAnswer e → IsNoCut c e a → idle ≡ not (is_out_in a d)
    → (is_out_in a d ≡ true → f.deadline ≡ in_64 (flow d a).deadline) → x.clock ≡ (gathered e a).now → x.settings.timeout_ms ≡ c.timeout_ms → (timed idle x f).deadline ≡ in_64 (flow d (step c e a)).deadline
told_timer c d e a x f idle b k i t u v = by (is_out_in a d) refl
  where
    law : (flow d (step c e a)).deadline ≡ (if is_out_in a d then (flow d a).deadline else (gathered e a).now + c.timeout_ms)
    law = (timer_is c e a b k d).0

    by : (o : Bool) → is_out_in a d ≡ o → (if idle then in_64 (x.clock + x.settings.timeout_ms) else f.deadline) ≡ in_64 (flow d (step c e a)).deadline
    by true o =
        ap (λ z. if z then in_64 (x.clock + x.settings.timeout_ms) else f.deadline) (i ∙ ap not o) ∙ t o
        ∙ sym (ap in_64 (law ∙ ap (λ z. if z then (flow d a).deadline else (gathered e a).now + c.timeout_ms) o))
    by false o =
        ap (λ z. if z then in_64 (x.clock + x.settings.timeout_ms) else f.deadline) (i ∙ ap not o)
        ∙ ap (λ z. in_64 (z + x.settings.timeout_ms)) u ∙ ap (λ z. in_64 ((gathered e a).now + z)) v
        ∙ sym (ap in_64 (law ∙ ap (λ z. if z then (flow d a).deadline else (gathered e a).now + c.timeout_ms) o))

-- The rest, where so many asks were made

pub record IsMore (a z : ExchangeAccount) (d : Direction) (made : ℕ) : Type 0 where
  pub more : List Ask
  pub is : z.made ≡ a.made ++ more
  pub size : length more ≡ made
  pub all : map direction_of more ≡ so_many made d

-- those of the direction that is told alone
pub more_of : (c : FilterConfig) (s : Side) (e : ViewEntry) (a : ExchangeAccount) (made : ℕ) → IsReadOf s e → IsNoCut c e a → (course (to s) (step c e a)).asks ≡ (course (to s) a).asks
    → made ≡ length (course (from s) (step c e a)).asks - length (course (from s) a).asks → IsMore a (step c e a) (from s) made
more_of c Client e a made r k o m =
    let z : ExchangeAccount = step c e a in
    let p : List AskedPart = drop (length a.request.course.asks) z.request.course.asks in
    let n : length p ≡ made = length-drop (length a.request.course.asks) z.request.course.asks ∙ sym m in
    record {
      more = map (ask_of Request) p;
      is =
          entry_made c e a (of_sides Client e r) k
          ∙ ap (λ l. (a.made ++ map (ask_of Request) p) ++ map (ask_of Response) (drop (length a.response.course.asks) l)) o
          ∙ ap (λ l. (a.made ++ map (ask_of Request) p) ++ map (ask_of Response) l) (drop-length a.response.course.asks)
          ∙ append-nil (a.made ++ map (ask_of Request) p);
      size = length-map p (ask_of Request) ∙ n;
      all = ways_of Request p ∙ ap (λ i. so_many i Request) n;
    }
more_of c Upstream e a made r k o m =
    let z : ExchangeAccount = step c e a in
    let p : List AskedPart = drop (length a.response.course.asks) z.response.course.asks in
    let n : length p ≡ made = length-drop (length a.response.course.asks) z.response.course.asks ∙ sym m in
    record {
      more = map (ask_of Response) p;
      is =
          entry_made c e a (of_sides Upstream e r) k
          ∙ ap (λ l. (a.made ++ map (ask_of Request) (drop (length a.request.course.asks) l)) ++ map (ask_of Response) p) o
          ∙ ap (λ l. (a.made ++ map (ask_of Request) l) ++ map (ask_of Response) p) (drop-length a.request.course.asks)
          ∙ ap (λ l. l ++ map (ask_of Response) p) (append-nil a.made);
      size = length-map p (ask_of Response) ∙ n;
      all = ways_of Response p ∙ ap (λ i. so_many i Response) n;
    }

sent_within : (c : FilterConfig) (h : List Call) (s : Side) (e : ViewEntry) (n : News) (r : ExchangeAccount) (x : Exchange) → IsTaking c h s e n r x → (account c h).sent ≤ length (account c h).made
sent_within c h s e n r x y = omega (arith, y.ties.unsent, y.ties.within)

sent_same : (c : FilterConfig) (h : List Call) (s : Side) (e : ViewEntry) (n : News) (r : ExchangeAccount) (x : Exchange) → IsTaking c h s e n r x → (step c e (account c h)).sent ≡ (account c h).sent
sent_same c h s e n r x y = (rest_stays c e (account c h) y.live).sent ∙ (both_brought s e (account c h) y.reads).sent

-- there is room for them in the order
pub few_more : (c : FilterConfig) (h : List Call) (s : Side) (e : ViewEntry) (n : News) (r : ExchangeAccount) (x : Exchange) (made : ℕ) → IsTaking c h s e n r x
    → IsMore (account c h) (step c e (account c h)) (from s) made → length x.order + made ≤ 8
unfolding after
few_more c h s e n r x made y k =
    let a : ExchangeAccount = account c h in
    let few : length (step c e a).made ≤ (step c e a).sent + 8 = few_unsent c (Stepped e ∷ h) in
    let size : length (step c e a).made ≡ length a.made + length k.more = ap length k.is ∙ length-append a.made k.more in
    let order : length x.order ≡ length a.made - a.sent = ap length y.ties.order ∙ length-map (drop a.sent a.made) direction_of ∙ length-drop a.sent a.made in
    omega (arith, few, size, order, k.size, sent_same c h s e n r x y, sent_within c h s e n r x y)

pub order_more : (c : FilterConfig) (h : List Call) (s : Side) (e : ViewEntry) (n : News) (r : ExchangeAccount) (x : Exchange) (made : ℕ) → IsTaking c h s e n r x
    → (k : IsMore (account c h) (step c e (account c h)) (from s) made) → x.order ++ so_many made (from s) ≡ map direction_of (drop (step c e (account c h)).sent (step c e (account c h)).made)
order_more c h s e n r x made y k =
    let a : ExchangeAccount = account c h in
    let z : ExchangeAccount = step c e a in
    ap (λ l. l ++ so_many made (from s)) y.ties.order
    ∙ ap (λ l. map direction_of (drop a.sent a.made) ++ l) (sym k.all)
    ∙ sym (map-append direction_of (drop a.sent a.made) k.more)
    ∙ ap (map direction_of) (sym (drop-append-le a.sent a.made k.more (sent_within c h s e n r x y)))
    ∙ ap (λ l. map direction_of (drop a.sent l)) (sym k.is)
    ∙ ap (λ i. map direction_of (drop i z.made)) (sym (sent_same c h s e n r x y))

asked_more : (xs more : List Ask) (b : Bool) (made : ℕ) → b ≡ not (is_empty xs) → length more ≡ made → (b || nat_lt 0 made) ≡ not (is_empty (xs ++ more))
asked_more [] [] b made e l = ap (λ z. z || nat_lt 0 made) e ∙ ap (λ n. nat_lt 0 n) (sym l)
asked_more [] (x ∷ more) b made e l = ap (λ z. z || nat_lt 0 made) e ∙ ap (λ n. nat_lt 0 n) (sym l) ∙ some (nat_lt 0 (length (x ∷ more))) refl
  where
    some : (z : Bool) → nat_lt 0 (length (x ∷ more)) ≡ z → nat_lt 0 (length (x ∷ more)) ≡ true
    some true i = i
    some false i = let k = ltb-false 0 (length (x ∷ more)) i in absurd (omega (arith, k))
asked_more (x ∷ xs) more b made e l = ap (λ z. z || nat_lt 0 made) e

pub stream_more : (c : FilterConfig) (h : List Call) (s : Side) (e : ViewEntry) (n : News) (r : ExchangeAccount) (x : Exchange) (made : ℕ) → IsTaking c h s e n r x
    → IsMore (account c h) (step c e (account c h)) (from s) made → OfStream (unsettled c e (account c h)) (filter_map end_given h) (record x.stream { asked = x.stream.asked || nat_lt 0 made })
stream_more c h s e n r x made y k =
    let a : ExchangeAccount = account c h in
    let left : SameRest (gathered e a) (step c e a) = rest_stays c e a y.live in
    let kept : BroughtBoth a (gathered e a) = both_brought s e a y.reads in
    record {
      asked = asked_more a.made k.more x.stream.asked made y.ties.stream.asked k.size ∙ sym (ap (λ l. not (is_empty l)) k.is);
      unopened = y.ties.stream.unopened ∙ sym (left.unopened ∙ kept.unopened);
      closed = y.ties.stream.closed ∙ sym (left.closed ∙ kept.closed);
      ending = y.ties.stream.ending;
      ended = y.ties.stream.ended;
    }

pub goes_rest : (c : FilterConfig) (h : List Call) (s : Side) (e : ViewEntry) (n : News) (x : Exchange) (p q : Flow) (made : ℕ) (y : IsTaking c h s e n (gathered e (account c h)) x) → IsNoCut c e (account c h)
    → IsMore (account c h) (step c e (account c h)) (from s) made
    → FlowTies c Request (step c e (account c h)) (step c e (account c h)) (handed_out (length (filter_map ask_given h)) x.ready) x.waiting p
    → FlowTies c Response (step c e (account c h)) (step c e (account c h)) (handed_out (length (filter_map ask_given h)) x.ready) x.waiting q
    → AtRest c (unsettled c e (account c h)) (length (filter_map ask_given h)) (filter_map end_given h)
    (record x { request = p; response = q; order = x.order ++ so_many made (from s); stream = record x.stream { asked = x.stream.asked || nat_lt 0 made } })
goes_rest c h s e n x p q made y k m v w =
    let a : ExchangeAccount = account c h in
    let z : ExchangeAccount = step c e a in
    let left : SameRest (gathered e a) z = rest_stays c e a y.live in
    let kept : BroughtBoth a (gathered e a) = both_brought s e a y.reads in
    let size : length z.made ≡ length a.made + length m.more = ap length m.is ∙ length-append a.made m.more in
    record {
      request = request_unsettled c e a _ x.waiting p v;
      response = response_unsettled c e a _ x.waiting q w;
      order = order_more c h s e n (gathered e a) x made y m;
      unsent = ap (λ i. i + x.unsent) (sent_same c h s e n (gathered e a) x y) ∙ y.ties.unsent;
      within = omega (arith, size, y.ties.within);
      ready = λ ask i. ap (λ l. slice_get l (length (filter_map ask_given h))) m.is ∙ get_first (length (filter_map ask_given h)) a.made m.more ask (y.ties.ready ask i);
      now = y.ties.now ∙ sym (left.now ∙ kept.now);
      to_head = y.ties.to_head ∙ sym (ap (λ o. is_head_request o.head) left.request.original);
      fate = subst (λ f. IsFate c (unsettled c e a) f x.fate) (sym (same_fate c e a k)) (living_fate c a (unsettled c e a) a.fate x.fate y.live y.ties.fate);
      waiting = λ status i. same_fate c e a k ∙ y.ties.waiting status i;
      stream = stream_more c h s e n (gathered e a) x made y m;
      alone = λ r. absurd (unreplied z.fate (ap is_live (same_fate c e a k) ∙ y.live) r);
    }

-- what the half was told, of what its reader has read
pub heard_as : (c : FilterConfig) (d : Direction) (g a : ExchangeAccount) (n : ℕ) (w : Option ℕ) (f : Flow) (t : FlowTies c d g a n w f) (s : Story) → is_live a.fate ≡ true → original t.story.source ≡ (course d g).original
    → HasLearnt t.story (original t.story.source) s → HasHeard (calls_in c d g a) t.story s
heard_as c d g a n w f t s l i h =
    subst (λ q. HasHeard q t.story s)
    (ap (λ q. news q t.story.past.direction (half.course t.story.past) (original t.story.source)) t.config
    ∙ ap (λ q. news c.course q (half.course t.story.past) (original t.story.source)) t.way
    ∙ ap (λ q. news c.course d q (original t.story.source)) (t.told l)
    ∙ ap (news c.course d (known (course d a))) i) h

-- the direction that is told
pub told_ties : (c : FilterConfig) (h : List Call) (s : Side) (e : ViewEntry) (n : News) (x : Exchange) (f z : Flow) (idle : Bool) (y : IsTaking c h s e n (gathered e (account c h)) x) → IsNoCut c e (account c h)
    → (t : FlowTies c (from s) (gathered e (account c h)) (account c h) (handed_out (length (filter_map ask_given h)) x.ready) x.waiting f) (r : Story)
    → HasLearnt t.story (original t.story.source) r → FlowStands r z → SameMarks f z → idle ≡ not (is_out_in (account c h) (from s))
    → FlowTies c (from s) (step c e (account c h)) (step c e (account c h)) (handed_out (length (filter_map ask_given h)) x.ready) x.waiting (timed idle x z)
told_ties c h s e n x f z idle y k t r l v m i =
    let a : ExchangeAccount = account c h in
    let g : ExchangeAccount = gathered e a in
    let d : Direction = from s in
    ties_of_goes c d g a (step c e a) (handed_out (length (filter_map ask_given h)) x.ready) x.waiting f (timed idle x z) (calls_in c d g a) t r (goes_in c h s e n g x d y k) y.live
    (handed_within (length (filter_map ask_given h)) a.made x.ready y.ties.within y.ties.ready) (heard_as c d g a _ x.waiting f t r y.live (ap original t.source ∙ side_original s e a y.reads) l)
    (record { reader = v.reader; half = v.half; outlet = v.outlet; is_past = v.is_past; parts = v.parts; way = v.way }) m.lost m.extended
    (λ o. told_timer c d e a x z idle (no_answer s e y.reads) k i (λ j. m.deadline ∙ t.timer y.live j) (y.ties.now ∙ sym (both_brought s e a y.reads).now) y.made.settings.timeout_ms)

-- the other one
pub other_ties : (c : FilterConfig) (h : List Call) (s : Side) (e : ViewEntry) (n : News) (x : Exchange) (f : Flow) (y : IsTaking c h s e n (gathered e (account c h)) x) → IsNoCut c e (account c h)
    → (t : FlowTies c (to s) (gathered e (account c h)) (account c h) (handed_out (length (filter_map ask_given h)) x.ready) x.waiting f)
    → FlowTies c (to s) (step c e (account c h)) (step c e (account c h)) (handed_out (length (filter_map ask_given h)) x.ready) x.waiting f
other_ties c h s e n x f y k t =
    let a : ExchangeAccount = account c h in
    let g : ExchangeAccount = gathered e a in
    let d : Direction = to s in
    let goes = goes_in c h s e n g x d y k in
    ties_of_goes c d g a (step c e a) (handed_out (length (filter_map ask_given h)) x.ready) x.waiting f f (calls_in c d g a) t t.story goes y.live
    (handed_within (length (filter_map ask_given h)) a.made x.ready y.ties.within y.ties.ready) (subst (λ l. HasHeard l t.story t.story) (sym (other_calls s e c a y.reads)) (none_heard t.story))
    t.stands refl refl (λ o. still_out c d e a f (no_answer s e y.reads) k (out_before o) (t.timer y.live (out_before o)))
  where
    same : known (course (to s) (step c e (account c h))) ≡ known (course (to s) (account c h))
    same = (goes_in c h s e n (gathered e (account c h)) x (to s) y k).becomes ∙ ap (λ l. told c.course (to s) l (known (course (to s) (account c h)))) (other_calls s e c (account c h) y.reads)

    out_before : is_out_in (step c e (account c h)) (to s) ≡ true → is_out_in (account c h) (to s) ≡ true
    out_before o = sym (ap (λ w. not (is_empty (out w))) same) ∙ o

pub other_asks : (c : FilterConfig) (h : List Call) (s : Side) (e : ViewEntry) (n : News) (x : Exchange) (y : IsTaking c h s e n (gathered e (account c h)) x) → IsNoCut c e (account c h)
    → (course (to s) (step c e (account c h))).asks ≡ (course (to s) (account c h)).asks
other_asks c h s e n x y k =
    ap (λ w. w.asks) ((goes_in c h s e n (gathered e (account c h)) x (to s) y k).becomes ∙ ap (λ l. told c.course (to s) l (known (course (to s) (account c h)))) (other_calls s e c (account c h) y.reads))
