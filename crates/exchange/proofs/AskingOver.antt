-- An entry of what went out, once the exchange has ended.
use Rattle.std.proofs.Common.{refl, sym, ◌∙◌, ap, arith, subst}
use Rattle.std.specs.Prelude.{ℕ, suc, ◌≡◌, ◌+◌, ◌-◌, ◌<◌, ◌≤◌, Bool, true, false, not, List, [], ◌∷◌, length, take, drop, map, filter_map, Option, Some, None, option_map, slice_get}
use Rattle.ext_msgs.specs.declared.ask.Ask.{Ask}
use Rattle.http_model.specs.Bytes.{IsPrefix, is_empty}
use Rattle.http_model.specs.declared.types.Direction.{Direction}
use Rattle.http_model.specs.declared.types.Direction.TheVariants.{Request, Response}
use Rattle.filter_model.specs.Account.{ExchangeAccount, Fate, Live, Left, Replied, Aborted, direction_of, flow, gathered, is_given, unsent}
use Rattle.filter_model.specs.Answers.{ask_of}
use Rattle.filter_model.specs.Config.{FilterConfig}
use Rattle.filter_model.specs.Half as half
use Rattle.filter_model.specs.Right.{Call, Stepped, IsHistory, account, ask_given, end_given}
use Rattle.filter_model.specs.Step.{after_end, is_live, step, step_if, still_counts}
use Rattle.filter_model.specs.View as view
use Rattle.filter_model.specs.View.{ViewEntry}
use Rattle.filter_model.proofs.EndsUntold.{ended_given}
use Rattle.exchange.specs.Asking.{Sends, marked_sent}
use Rattle.filter_model.specs.InTurn.{asks_in}
use Rattle.exchange.specs.Stands.{AtRest, FlowTies, IsAfter, IsFate, IsReplied, handed_out, written_reply}
use Rattle.exchange.specs.declared.exchange.Exchange.{Exchange}
use Rattle.exchange.specs.declared.fate.Fate.{Fate as FateNow}
use Rattle.exchange.specs.declared.fate.Fate.TheVariants as fate
use Rattle.exchange.specs.declared.flow.Flow.{Flow}
use Rattle.exchange.proofs.AskingNext.{none_at}
use Rattle.exchange.proofs.AskingSent.{one_dropped, same_request, same_response, sent_more}
use Rattle.exchange.proofs.Onward.{Unread, account_sent, unread_sent}
use Rattle.exchange.proofs.TimingTies.{given_by}

clash : true ≡ false → ⊥
clash e = cc

-- The oldest ask that wasn't sent

there : (n : ℕ) (xs : List Ask) → n < length xs → slice_get xs n ≡ None → ⊥
there n [] l e = absurd (omega (arith, l))
there ℕ.zero (x ∷ xs) l e = cc
there (ℕ.suc n) (x ∷ xs) l e = there n xs (omega (arith, l)) e

first_way : (c : FilterConfig) (a : ExchangeAccount) (n : ℕ) (ends : List Bool) (x : Exchange) → AtRest c a n ends x → slice_get x.order 0 ≡ unsent a
first_way c a n ends x t = ap (λ l. slice_get l 0) t.order ∙ by a.sent a.made
  where
    by : (k : ℕ) (xs : List Ask) → slice_get (map direction_of (drop k xs)) 0 ≡ option_map direction_of (slice_get xs k)
    by ℕ.zero [] = refl
    by ℕ.zero (x ∷ xs) = refl
    by (ℕ.suc k) [] = refl
    by (ℕ.suc k) (x ∷ xs) = by k xs

pub sends_first : (c : FilterConfig) (h : List Call) (d : Direction) (x : Exchange) → IsAfter c h x → is_live (account c h).fate ≡ true → (account c h).sent < length (filter_map ask_given h)
    → slice_get x.order 0 ≡ Some d → Sends d c h
sends_first c h d x s l g e = record { live = l; given = g; oldest = sym (first_way c (account c h) (length (filter_map ask_given h)) (filter_map end_given h) x s.ties) ∙ e }

-- an ask that was given waits
pub one_first : (c : FilterConfig) (h : List Call) (x : Exchange) → IsAfter c h x → (account c h).sent < length (filter_map ask_given h) → slice_get x.order 0 ≡ None → ⊥
one_first c h x s g e =
    let a : ExchangeAccount = account c h in
    let w = s.ties.within in
    there a.sent a.made (omega (arith, g, w)) (none_at (slice_get a.made a.sent) (sym (first_way c a (length (filter_map ask_given h)) (filter_map end_given h) x s.ties) ∙ e))

-- What an entry behind the end leaves of the ties

fate_over : (c : FilterConfig) (a b : ExchangeAccount) (f : Fate) (x : FateNow) → ((d : Direction) → is_given c b d ≡ is_given c a d) → IsFate c a f x → IsFate c b f x
fate_over c a b Live fate.Live e t = tt
fate_over c a b Left fate.Left e t = tt
fate_over c a b (Replied r) (fate.Replied g) e t = given_by c a b g e t
fate_over c a b Aborted (fate.Aborted g) e t = given_by c a b g e t
fate_over c a b Live fate.Left e t = absurd t
fate_over c a b Live (fate.Replied g) e t = absurd t
fate_over c a b Live (fate.Aborted g) e t = absurd t
fate_over c a b Left fate.Live e t = absurd t
fate_over c a b Left (fate.Replied g) e t = absurd t
fate_over c a b Left (fate.Aborted g) e t = absurd t
fate_over c a b (Replied r) fate.Live e t = absurd t
fate_over c a b (Replied r) fate.Left e t = absurd t
fate_over c a b (Replied r) (fate.Aborted g) e t = absurd t
fate_over c a b Aborted fate.Live e t = absurd t
fate_over c a b Aborted fate.Left e t = absurd t
fate_over c a b Aborted (fate.Replied g) e t = absurd t

pub record IsOver (c : FilterConfig) (a g : ExchangeAccount) : Type 0 where
  pub ended : is_live a.fate ≡ false
  pub unread : Unread a g
  pub fate : g.fate ≡ a.fate
  pub made : g.made ≡ a.made
  pub ending : g.ending ≡ a.ending
  pub given : (d : Direction) → is_given c g d ≡ is_given c a d

pub over_live : {A : Type 0} (c : FilterConfig) (a g : ExchangeAccount) → IsOver c a g → is_live g.fate ≡ true → A
over_live c a g o l = absurd (clash (sym l ∙ ap is_live o.fate ∙ o.ended))

pub flow_over : (c : FilterConfig) (d : Direction) (a g : ExchangeAccount) (n : ℕ) (w : Option ℕ) (x : Flow) → IsOver c a g → (flow d g).given ≡ (flow d a).given → FlowTies c d a a n w x
    → FlowTies c d g g n w x
flow_over c d a g n w x o i t = record {
  story = t.story;
  stands = t.stands;
  config = t.config;
  way = t.way;
  source = t.source ∙ sym (o.unread.source d);
  front = t.front ∙ sym (o.unread.front d);
  given = i ∙ t.given;
  reply = t.reply ∙ ap (written_reply d w) (sym o.fate);
  handed_on = t.handed_on ∙ ap (λ m. length (asks_in d (take n m))) (sym o.made);
  told = λ l. over_live c a g o l;
  asks = subst (λ m. IsPrefix (asks_in d m) (map (ask_of d) (half.course t.story.past).asks)) (sym o.made) t.asks;
  lost = t.lost ∙ sym (o.unread.lost d);
  timer = λ l k. over_live c a g o l;
  extended = λ l. over_live c a g o l;
}

pub ties_over : (c : FilterConfig) (a g : ExchangeAccount) (n : ℕ) (ends : List Bool) (x : Exchange) (y : Flow) (order : List Direction) (waits : ℕ) → IsOver c a g → AtRest c a n ends x
    → a.request.given ≡ g.request.given → FlowTies c Response g g (handed_out n x.ready) x.waiting y → order ≡ map direction_of (drop g.sent g.made) → g.sent + waits ≡ n
    → (IsReplied g.fate → y.outlet.framing ≡ None) → AtRest c g n ends (record x { response = y; order = order; unsent = waits })
ties_over c a g n ends x y order waits o t i r k u v = record {
  request = flow_over c Request a g _ x.waiting x.request o (sym i) t.request;
  response = r;
  order = k;
  unsent = u;
  within = subst (λ m. n ≤ length m) (sym o.made) t.within;
  ready = λ ask e. ap (λ m. slice_get m n) o.made ∙ t.ready ask e;
  now = t.now ∙ sym o.unread.now;
  to_head = t.to_head ∙ sym o.unread.to_head;
  fate = subst (λ f. IsFate c g f x.fate) (sym o.fate) (fate_over c a g a.fate x.fate o.given t.fate);
  waiting = λ status e. o.fate ∙ t.waiting status e;
  stream = record {
    asked = t.stream.asked ∙ ap (λ m. not (is_empty m)) (sym o.made);
    unopened = t.stream.unopened ∙ sym o.unread.unopened;
    closed = t.stream.closed ∙ sym o.unread.closed;
    ending = t.stream.ending ∙ sym o.ending;
    ended = t.stream.ended;
  };
  alone = v;
}

pub account_over : (c : FilterConfig) (e : ViewEntry) (a : ExchangeAccount) → is_live a.fate ≡ false → step c e a ≡ after_end e a (still_counts e)
unfolding step
account_over c e a n = ap (step_if c e a) n

-- An ask that was sent

counted_over : (a : ExchangeAccount) → a.sent < length a.made → (gathered view.Sent a).sent ≡ suc a.sent
counted_over a l = by (unsent a) refl
  where
    by : (o : Option Direction) → unsent a ≡ o → (gathered view.Sent a).sent ≡ suc a.sent
    by None e = absurd (there a.sent a.made l (none_at (slice_get a.made a.sent) e))
    by (Some d) e = sent_more a d e

is_over : (c : FilterConfig) (h : List Call) → IsHistory c (Stepped view.Sent ∷ h) → is_live (account c h).fate ≡ false → IsOver c (account c h) (gathered view.Sent (account c h))
unfolding gathered
is_over c h r o =
    let a : ExchangeAccount = account c h in
    let i : account c (Stepped view.Sent ∷ h) ≡ gathered view.Sent a = account_sent c h ∙ account_over c view.Sent a o in
    record {
      ended = o;
      unread = unread_sent a;
      fate = refl;
      made = refl;
      ending = refl;
      given = λ d. ap (λ b. is_given c b d) (sym i) ∙ ended_given c h view.Sent r o d;
    }

pub sent_over : (c : FilterConfig) (h : List Call) (x : Exchange) → IsAfter c h x → is_live (account c h).fate ≡ false → (account c h).sent < length (filter_map ask_given h)
    → IsAfter c (Stepped view.Sent ∷ h) (marked_sent x)
sent_over c h x s o g =
    let a : ExchangeAccount = account c h in
    let t = s.ties in
    let n : ℕ = length (filter_map ask_given h) in
    let i = account_sent c h ∙ account_over c view.Sent a o in
    let v = is_over c h (s.right, g) o in
    let w = t.within in
    let u = t.unsent in
    let k : (gathered view.Sent a).sent ≡ suc a.sent = counted_over a (omega (arith, g, w)) in
    record {
      right = (s.right, g);
      made = record { sizes = s.made.sizes; settings = s.made.settings };
      ties = subst (λ b. AtRest c b n (filter_map end_given h) (marked_sent x)) (sym i)
          (ties_over c a (gathered view.Sent a) n (filter_map end_given h) x x.response (drop 1 x.order) (x.unsent - 1) v t (sym (same_request a))
          (flow_over c Response a (gathered view.Sent a) _ x.waiting x.response v (same_response a) t.response)
          (ap (drop 1) t.order ∙ one_dropped a.sent a.made ∙ ap (λ m. map direction_of (drop m a.made)) (sym k) ∙ ap (λ m. map direction_of (drop (gathered view.Sent a).sent m)) (sym v.made))
          (omega (arith, k, u, g)) (λ r. t.alone (subst IsReplied v.fate r)));
    }
