-- An ask that was sent, of an exchange that lives.
use Rattle.std.proofs.Common.{refl, sym, ◌∙◌, ap, arith, subst, length-append}
use Rattle.std.proofs.Math.Seq.{take-add}
use Rattle.std.specs.Prelude.{ℕ, suc, ◌≡◌, ◌==◌, ◌+◌, ◌-◌, ◌<◌, ◌≤◌, Bool, true, false, List, [], ◌∷◌, length, take, drop, map, filter_map, Option, Some, None, is_some, slice_get, if◌then◌else◌}
use Rattle.ext_msgs.specs.declared.ask.Ask.{Ask}
use Rattle.http_model.specs.declared.types.Direction.{Direction}
use Rattle.http_model.specs.declared.types.Direction.TheVariants.{Request, Response}
use Rattle.filter_model.specs.Account.{ExchangeAccount, course, direction_of, flow, gathered, is_in, unsent}
use Rattle.filter_model.specs.Config.{FilterConfig}
use Rattle.filter_model.specs.Course.{Course, out}
use Rattle.filter_model.specs.Half.{after_step, progress, half_rules}
use Rattle.filter_model.specs.Half as half
use Rattle.filter_model.specs.Right.{Call, Stepped, IsHistory, account, ask_given, end_given}
use Rattle.filter_model.specs.Step.{after, is_live, with_ending}
use Rattle.filter_model.specs.Told.{known, told}
use Rattle.filter_model.specs.ToldMore.{across}
use Rattle.filter_model.specs.View as view
use Rattle.filter_model.proofs.NeverOver.{sent_no_cut}
use Rattle.filter_model.proofs.ToldOthers.{sent_told}
use Rattle.half_machine.specs.Calls.{MaySent}
use Rattle.half_machine.specs.Stands as machine
use Rattle.half_machine.specs.declared.half.Half.{Half}
use Rattle.exchange.specs.Answering.{unsettled}
use Rattle.exchange.specs.Flows.{Story, with_call}
use Rattle.filter_model.specs.InTurn.{asks_in}
use Rattle.exchange.specs.Settings.{OfSettings}
use Rattle.exchange.specs.Stands.{AtRest, FlowTies, IsAfter, handed_out}
use Rattle.exchange.specs.declared.exchange.Exchange.{Exchange}
use Rattle.exchange.specs.declared.flow.Flow.{Flow}
use Rattle.filter_model.proofs.FewAsks.{sent_turn}
use Rattle.exchange.proofs.AskingNext.{some_at}
use Rattle.exchange.proofs.GivingTo.{SaysOut, SaysUnhanded, asks_grow, made_is, none_out}
use Rattle.exchange.proofs.Moving.{Own, Waits}
use Rattle.exchange.proofs.Next.{given_next}
use Rattle.exchange.proofs.Onward.{Onward, account_sent, onward_sent, settled_is}
use Rattle.exchange.proofs.Turns.{in_append, is_own, own_place, place_of}
use Rattle.exchange.proofs.Wholly.{no_reply}

more_in : (d : Direction) (n m : ℕ) (xs : List Ask) → length (asks_in d (take n xs)) ≤ length (asks_in d (take (n + m) xs))
more_in d n m xs =
    let e : length (asks_in d (take (n + m) xs)) ≡ length (asks_in d (take n xs)) + length (asks_in d (take m (drop n xs))) =
    ap (λ ys. length (asks_in d ys)) (take-add n m xs) ∙ ap length (in_append d (take n xs) (take m (drop n xs))) ∙ length-append (asks_in d (take n xs)) (asks_in d (take m (drop n xs))) in
    omega (arith, e)

given_first : (n : ℕ) (ready : Option Ask) → n ≤ handed_out n ready
given_first n None = omega arith
given_first n (Some ask) = omega arith

-- an ask that was given was handed out
pub may_sent : (c : FilterConfig) (h : List Call) (d : Direction) (n : ℕ) (ready : Option Ask) (w : Option ℕ) (x : Flow) → (t : FlowTies c d (account c h) (account c h) (handed_out n ready) w x)
    → is_live (account c h).fate ≡ true → (account c h).sent < n → unsent (account c h) ≡ Some d → MaySent t.story.past
may_sent c h d n ready w x t l g o =
    let a : ExchangeAccount = account c h in
    let (ask, e, k) = some_at d (slice_get a.made a.sent) o in
    let p = (own_place d a.sent a.made ask e k).1 in
    let s = sent_turn c h d in
    let m : handed_out n ready ≡ (a.sent + 1) + (handed_out n ready - (a.sent + 1)) = by (handed_out n ready) (given_first n ready) in
    let q : length (asks_in d (take (a.sent + 1) a.made)) ≤ length (asks_in d (take (handed_out n ready) a.made)) =
    subst (λ i. length (asks_in d (take (a.sent + 1) a.made)) ≤ length (asks_in d (take i a.made))) (sym m) (more_in d (a.sent + 1) (handed_out n ready - (a.sent + 1)) a.made) in
    let u : (half.course t.story.past).sent ≡ (course d a).sent = ap (λ (v : Course). v.sent) (t.told l) in
    let v = t.handed_on in
    record { fewer = omega (arith, p, s, q, u, v) }
  where
    by : (i : ℕ) → n ≤ i → i ≡ ((account c h).sent + 1) + (i - ((account c h).sent + 1))
    by i m = omega (arith, g, m)

-- What is told

is_other : (d : Direction) → is_in (across d) (Some d) ≡ false
is_other Request = refl
is_other Response = refl

told_sent : (p : half.Past) → half.course (after_step (half.Told half.Sent) p) ≡ told p.config p.direction (half.Sent ∷ []) (half.course p)
unfolding half_rules
told_sent p = refl

handed_sent : (p : half.Past) → (progress (after_step (half.Told half.Sent) p)).handed ≡ (progress p).handed
unfolding half_rules
handed_sent p = refl

course_after : (c : FilterConfig) (h : List Call) (d : Direction) → course d (unsettled c view.Sent (account c h)) ≡ course d (account c (Stepped view.Sent ∷ h))
unfolding after
course_after c h Request = refl
course_after c h Response = refl

given_same : (d : Direction) (a : ExchangeAccount) → (flow d (gathered view.Sent a)).given ≡ (flow d a).given
unfolding gathered
given_same Request a = refl
given_same Response a = refl

pub same_request : (a : ExchangeAccount) → (gathered view.Sent a).request.given ≡ a.request.given
same_request a = given_same Request a

pub same_response : (a : ExchangeAccount) → (gathered view.Sent a).response.given ≡ a.response.given
same_response a = given_same Response a

pub sent_more : (a : ExchangeAccount) (d : Direction) → unsent a ≡ Some d → (gathered view.Sent a).sent ≡ suc a.sent
unfolding gathered
sent_more a d e = ap (λ o. if is_some o then suc a.sent else a.sent) e

-- the ways of the asks behind the first that waits
pub one_dropped : (n : ℕ) (xs : List Ask) → drop 1 (map direction_of (drop n xs)) ≡ map direction_of (drop (suc n) xs)
one_dropped ℕ.zero [] = refl
one_dropped ℕ.zero (x ∷ xs) = refl
one_dropped (ℕ.suc n) [] = refl
one_dropped (ℕ.suc n) (x ∷ xs) = one_dropped n xs

pub waits_sent : (c : FilterConfig) (h : List Call) (d : Direction) (n : ℕ) (ends : List Bool) (x : Exchange) → AtRest c (account c h) n ends x → (account c h).sent < n → unsent (account c h) ≡ Some d
    → Onward c d (gathered view.Sent (account c h)) (account c h) (unsettled c view.Sent (account c h)) → Waits (account c h) (unsettled c view.Sent (account c h)) n (drop 1 x.order) (x.unsent - 1)
waits_sent c h d n ends x t g k o =
    let a : ExchangeAccount = account c h in
    let e : (unsettled c view.Sent a).sent ≡ suc a.sent = o.rest.sent ∙ sent_more a d k in
    let (ask, i, j) = some_at d (slice_get a.made a.sent) k in
    let (more, p, q, l, r) = place_of a.sent a.made ask i in
    let u = t.unsent in
    record {
      ways = ap (drop 1) t.order ∙ one_dropped a.sent a.made ∙ ap (λ m. map direction_of (drop m a.made)) (sym e);
      counts = omega (arith, e, u, g);
      bound = omega (arith, e, l);
    }

pub one_waits : (c : FilterConfig) (a : ExchangeAccount) (n : ℕ) (ends : List Bool) (x : Exchange) → AtRest c a n ends x → a.sent < n → 1 ≤ x.unsent
one_waits c a n ends x t g = let u = t.unsent in omega (arith, u, g)

pub record SendsOne (c : FilterConfig) (h : List Call) (d : Direction) (s : Story) (x x' : Flow) (before now : ℕ) (idle : Bool) : Type 0 where
  pub onward : Onward c d (gathered view.Sent (account c h)) (account c h) (unsettled c view.Sent (account c h))
  pub less : before ≤ now
  pub own : Own c d (account c h) (unsettled c view.Sent (account c h)) s x x' (now - before) idle

pub sends : (c : FilterConfig) (h : List Call) (d : Direction) (n : ℕ) (ready : Option Ask) (w : Option ℕ) (x : Flow) (y : Half) (before now outs : ℕ) → IsHistory c (Stepped view.Sent ∷ h)
    → (t : FlowTies c d (account c h) (account c h) (handed_out n ready) w x) → is_live (account c h).fate ≡ true → (account c h).sent < n → unsent (account c h) ≡ Some d
    → machine.StandsFor (after_step (half.Told half.Sent) t.story.past) y → SaysUnhanded before x.half → SaysUnhanded now y → SaysOut outs x.half
    → SendsOne c h d t.story x (record x { half = y }) before now (outs == 0)
sends c h d n ready w x y before now outs r t l g k z u u' v =
    let a : ExchangeAccount = account c h in
    let b : ExchangeAccount = unsettled c view.Sent a in
    let o = onward_sent c h d r l (ap (is_in (across d)) k ∙ is_other d) in
    let s' : Story = with_call half.Sent t.story in
    let told : half.course s'.past ≡ known (course d b) =
    told_sent t.story.past ∙ ap (λ q. told q t.story.past.direction (half.Sent ∷ []) (half.course t.story.past)) t.config ∙ ap (λ q. told c.course q (half.Sent ∷ []) (half.course t.story.past)) t.way
    ∙ ap (told c.course d (half.Sent ∷ [])) (t.told l)
    ∙ ap (λ q. told c.course d (if q then half.Sent ∷ [] else []) (known (course d a))) (sym (ap (is_in d) k ∙ is_own d))
    ∙ sym (sent_told c h r (sent_no_cut c h r.0 l) d) ∙ ap known (sym (course_after c h d)) in
    let i : before + (progress t.story.past).handed ≡ length (course d a).asks = u t.story.past t.stands.half ∙ ap (λ (q : Course). length q.asks) (t.told l) in
    let j : now + (progress s'.past).handed ≡ length (course d b).asks = u' s'.past z ∙ ap (λ (q : Course). length q.asks) told in
    let q = asks_grow c h d _ b o in
    let f = handed_sent t.story.past in
    record {
      onward = o;
      less = omega (arith, i, j, q, f);
      own = record {
        story = s';
        stands = record {
          reader = t.stands.reader;
          half = z;
          outlet = t.stands.outlet;
          is_past = (t.stands.is_past, (may_sent c h d n ready w x t l g k).fewer);
          parts = t.stands.parts;
          way = t.stands.way;
        };
        moved = record { source = refl; config = (refl, refl); handed = f; front = refl; reply = t.reply ∙ no_reply d w a.fate l };
        told = told;
        given = given_next d (gathered view.Sent a) b o.rest ∙ given_same d a ∙ t.given;
        marks = record { deadline = refl; extended = refl; lost = refl };
        rested = none_out outs d a (v t.story.past t.stands.half ∙ ap (λ (p : Course). length (out p)) (t.told l));
        grown = made_is before now (progress t.story.past).handed (progress s'.past).handed (course d a).asks (course d b).asks i j f q;
      };
    }

pub stands_sent : (c : FilterConfig) (h : List Call) (x z : Exchange) → IsAfter c h x → is_live (account c h).fate ≡ true → (account c h).sent < length (filter_map ask_given h)
    → AtRest c (with_ending c (unsettled c view.Sent (account c h))) (length (filter_map ask_given h)) (filter_map end_given h) z → z.settings ≡ x.settings → IsAfter c (Stepped view.Sent ∷ h) z
stands_sent c h x z k l g t i = record {
  right = (k.right, g);
  made = record { sizes = k.made.sizes; settings = subst (OfSettings c) (sym i) k.made.settings };
  ties = subst (λ b. AtRest c b (length (filter_map ask_given h)) (filter_map end_given h) z) (settled_is c view.Sent (account c h) l ∙ sym (account_sent c h)) t;
}
