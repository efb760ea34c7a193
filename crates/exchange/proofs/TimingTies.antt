-- What an entry that tells the halves nothing, or ends the exchange, leaves of what an exchange stands for.
use Rattle.std.proofs.Common.{refl, sym, ◌∙◌, ap, subst}
use Rattle.std.proofs.lemmas.Bool.{true≢false}
use Rattle.std.specs.Prelude.{ℕ, ◌≡◌, Bool, true, false, not, List, [], length, take, drop, map, ◌+◌, ◌≤◌, slice_get, unwrap_or, Option, Some, None, is_some}
use Rattle.http_model.specs.Bytes.{is_empty, IsPrefix}
use Rattle.http_model.specs.Reads.{Original}
use Rattle.http_model.specs.Wire.{local_reply}
use Rattle.http_model.specs.declared.types.Direction.{Direction}
use Rattle.http_model.specs.declared.types.Direction.TheVariants.{Request, Response}
use Rattle.filter_model.specs.Account.{ExchangeAccount, Live, Left, Replied, Aborted, course, flow, direction_of, is_given, is_head_request, is_out_in, is_to_head, account_rules}
use Rattle.filter_model.specs.Account as account
use Rattle.filter_model.specs.Answers.{ask_of}
use Rattle.filter_model.specs.Config.{FilterConfig}
use Rattle.filter_model.specs.Course.{Course, out}
use Rattle.filter_model.specs.Half as half
use Rattle.filter_model.specs.Step.{is_live}
use Rattle.filter_model.specs.Told.{known}
use Rattle.filter_model.specs.ToldMore.{SameRest}
use Rattle.exchange.specs.Answering.{EndsTo, StaysTo, fate_by}
use Rattle.exchange.specs.Moves.{is_live_in, replied_in}
use Rattle.filter_model.specs.InTurn.{asks_in}
use Rattle.exchange.specs.Stands.{AtRest, FlowTies, IsFate, IsGivenBy, OfStream, handed_out, in_64, written_reply, IsReplied}
use Rattle.exchange.specs.declared.exchange.Exchange.{Exchange}
use Rattle.exchange.specs.declared.fate.Fate.{Fate}
use Rattle.exchange.specs.declared.fate.Fate.TheVariants as fate
use Rattle.exchange.specs.declared.fate.GivenWhole.{GivenWhole}
use Rattle.exchange.specs.declared.flow.Flow.{Flow}
use Rattle.exchange.proofs.GivingHeadless.{headless}
use Rattle.exchange.proofs.Next.{front_next, given_next, lost_next, source_next}
use Rattle.exchange.proofs.Releasing.{living_fate}
use Rattle.exchange.proofs.Wholly.{no_reply}

-- An exchange that lives

pub live_as : (c : FilterConfig) (a : ExchangeAccount) (f : account.Fate) (x : Fate) → IsFate c a f x → is_live_in x ≡ is_live f
live_as c a Live fate.Live t = refl
live_as c a Live fate.Left t = absurd t
live_as c a Live (fate.Replied g) t = absurd t
live_as c a Live (fate.Aborted g) t = absurd t
live_as c a Left fate.Live t = absurd t
live_as c a Left fate.Left t = refl
live_as c a Left (fate.Replied g) t = absurd t
live_as c a Left (fate.Aborted g) t = absurd t
live_as c a (Replied r) fate.Live t = absurd t
live_as c a (Replied r) fate.Left t = absurd t
live_as c a (Replied r) (fate.Replied g) t = refl
live_as c a (Replied r) (fate.Aborted g) t = absurd t
live_as c a Aborted fate.Live t = absurd t
live_as c a Aborted fate.Left t = absurd t
live_as c a Aborted (fate.Replied g) t = absurd t
live_as c a Aborted (fate.Aborted g) t = refl

-- no reply waits
pub none_waits : (f : account.Fate) (reply : List ℕ) → is_live f ≡ true → f ≡ Replied reply → ⊥
none_waits f reply l e = true≢false (sym l ∙ ap is_live e)

-- One direction

pub record Still (d : Direction) (a b : ExchangeAccount) : Type 0 where
  pub told : known (course d b) ≡ known (course d a)
  pub timer : is_out_in a d ≡ true → (flow d b).deadline ≡ (flow d a).deadline
  pub extended : (flow d b).extended ≡ (flow d a).extended

out_same : (d : Direction) (a b : ExchangeAccount) → known (course d b) ≡ known (course d a) → is_out_in b d ≡ is_out_in a d
out_same d a b e = ap (λ w. not (is_empty (out w))) e

pub moved_flow : (c : FilterConfig) (d : Direction) (a b : ExchangeAccount) (n : ℕ) (w w' : Option ℕ) (f : Flow) → FlowTies c d a a n w f → is_live a.fate ≡ true
    → SameRest a b → b.made ≡ a.made → written_reply d w' b.fate ≡ [] → (is_live b.fate ≡ true → Still d a b) → FlowTies c d b b n w' f
moved_flow c d a b n w w' f t l r m o s = record {
  story = t.story;
  stands = t.stands;
  config = t.config;
  way = t.way;
  source = t.source ∙ sym (source_next d a b r);
  front = t.front ∙ sym (front_next d a b r);
  given = given_next d a b r ∙ t.given;
  reply = t.reply ∙ no_reply d w a.fate l ∙ sym o;
  handed_on = t.handed_on ∙ sym (ap (λ made. length (asks_in d (take n made))) m);
  told = λ e. t.told l ∙ sym (s e).told;
  asks = subst (λ made. IsPrefix (asks_in d made) (map (ask_of d) (half.course t.story.past).asks)) (sym m) t.asks;
  lost = t.lost ∙ sym (lost_next d a b r);
  timer = λ e k. let i = sym (out_same d a b (s e).told) ∙ k in t.timer l i ∙ sym (ap in_64 ((s e).timer i));
  extended = λ e. t.extended l ∙ sym (s e).extended;
}

pub to_head_next : (a b : ExchangeAccount) → SameRest a b → is_to_head b ≡ is_to_head a
to_head_next a b r = ap (λ (o : Original). is_head_request o.head) r.request.original

pub stream_next : (a b : ExchangeAccount) (ends : List Bool) (x : Exchange) → SameRest a b → b.made ≡ a.made → b.ending ≡ a.ending → OfStream a ends x.stream → OfStream b ends x.stream
stream_next a b ends x r m e s = record {
  asked = s.asked ∙ sym (ap (λ made. not (is_empty made)) m);
  unopened = s.unopened ∙ sym r.unopened;
  closed = s.closed ∙ sym r.closed;
  ending = s.ending ∙ sym e;
  ended = s.ended;
}

-- The halves are told nothing

pub stays : (c : FilterConfig) (a b : ExchangeAccount) (n : ℕ) (ends : List Bool) (x : Exchange) → AtRest c a n ends x → StaysTo c a b → AtRest c b n ends x
stays c a b n ends x t s = record {
  request = moved_flow c Request a b (handed_out n x.ready) x.waiting x.waiting x.request t.request s.live s.rest s.made refl (λ e. still Request);
  response = moved_flow c Response a b (handed_out n x.ready) x.waiting x.waiting x.response t.response s.live s.rest s.made (no_reply Response x.waiting b.fate lives) (λ e. still Response);
  order = t.order ∙ sym (ap (λ made. map direction_of (drop a.sent made)) s.made ∙ refl) ∙ sym (ap (λ k. map direction_of (drop k b.made)) s.rest.sent);
  unsent = ap (λ k. k + x.unsent) s.rest.sent ∙ t.unsent;
  within = subst (λ made. n ≤ length made) (sym s.made) t.within;
  ready = λ ask e. ap (λ made. slice_get made n) s.made ∙ t.ready ask e;
  now = t.now ∙ sym s.rest.now;
  to_head = t.to_head ∙ sym (to_head_next a b s.rest);
  fate = subst (λ f. IsFate c b f x.fate) (sym s.fate) (living_fate c a b a.fate x.fate s.live t.fate);
  waiting = λ k e. absurd (none_waits a.fate (local_reply k) s.live (t.waiting k e));
  stream = stream_next a b ends x s.rest s.made s.ending t.stream;
  alone = λ r. t.alone (subst IsReplied s.fate r);
}
  where
    still : (d : Direction) → Still d a b
    still d = record { told = s.told d; timer = s.timer d; extended = s.extended d }

    lives : is_live b.fate ≡ true
    lives = ap is_live s.fate ∙ s.live

-- The exchange ends

pub given_by : (c : FilterConfig) (a b : ExchangeAccount) (g : GivenWhole) → ((d : Direction) → is_given c b d ≡ is_given c a d) → IsGivenBy c a g → IsGivenBy c b g
given_by c a b g e t = record { request = t.request ∙ sym (e Request); response = t.response ∙ sym (e Response) }

abbrev WithFate : Fate → Option ℕ → Flow → Exchange → Exchange
WithFate f w y x = record x { fate = f; waiting = w; response = y }

-- with what is written of a reply
pub ends_so : (c : FilterConfig) (to : account.Fate) (a b : ExchangeAccount) (n : ℕ) (ends : List Bool) (x : Exchange) (f : Fate) (w : Option ℕ) (y : Flow) → AtRest c a n ends x → EndsTo c to a b
    → IsFate c b to f → FlowTies c Response b b (handed_out n x.ready) w y → ((status : ℕ) → w ≡ Some status → to ≡ Replied (local_reply status))
    → (IsReplied to → y.outlet.framing ≡ None) → AtRest c b n ends (WithFate f w y x)
ends_so c to a b n ends x f w y t s i u v m = record {
  request = moved_flow c Request a b (handed_out n x.ready) x.waiting w x.request t.request s.live s.rest s.made refl (λ e. absurd (true≢false (sym e ∙ over)));
  response = u;
  order = t.order ∙ sym (ap (λ made. map direction_of (drop a.sent made)) s.made) ∙ sym (ap (λ k. map direction_of (drop k b.made)) s.rest.sent);
  unsent = ap (λ k. k + x.unsent) s.rest.sent ∙ t.unsent;
  within = subst (λ made. n ≤ length made) (sym s.made) t.within;
  ready = λ ask e. ap (λ made. slice_get made n) s.made ∙ t.ready ask e;
  now = t.now ∙ sym s.rest.now;
  to_head = t.to_head ∙ sym (to_head_next a b s.rest);
  fate = subst (λ k. IsFate c b k f) (sym s.fate) i;
  waiting = λ k e. s.fate ∙ v k e;
  stream = stream_next a b ends x s.rest s.made s.ending t.stream;
  alone = λ r. m (subst IsReplied s.fate r);
}
  where
    over : is_live b.fate ≡ false
    over = ap is_live s.fate ∙ s.ends

-- the response's flow as it was: nothing of a reply is written
ended_flow : (c : FilterConfig) (to : account.Fate) (a b : ExchangeAccount) (n : ℕ) (w w' : Option ℕ) (f : Flow) → FlowTies c Response a a n w f → EndsTo c to a b
    → written_reply Response w' to ≡ [] → FlowTies c Response b b n w' f
ended_flow c to a b n w w' f t s o =
    moved_flow c Response a b n w w' f t s.live s.rest s.made (ap (written_reply Response w') s.fate ∙ o) (λ e. absurd (true≢false (sym e ∙ ap is_live s.fate ∙ s.ends)))

-- by a reply of a status, or an abort
pub ends_by : (c : FilterConfig) (status : ℕ) (committed : Bool) (g : GivenWhole) (a b : ExchangeAccount) (n : ℕ) (ends : List Bool) (x : Exchange) → AtRest c a n ends x
    → EndsTo c (fate_by committed (local_reply status)) a b → IsGivenBy c a g → AtRest c b n ends (replied_in status committed g x)
ends_by c status true g a b n ends x t s k =
    ends_so c Aborted a b n ends x (fate.Aborted g) x.waiting x.response t s (given_by c a b g s.given k)
    (ended_flow c Aborted a b (handed_out n x.ready) x.waiting x.waiting x.response t.response s (aborted x.waiting))
    (λ i e. absurd (none_waits a.fate (local_reply i) s.live (t.waiting i e))) (λ r. absurd r)
  where
    aborted : (w : Option ℕ) → written_reply Response w Aborted ≡ []
    aborted None = refl
    aborted (Some i) = refl
ends_by c status false g a b n ends x t s k =
    ends_so c (Replied (local_reply status)) a b n ends x (fate.Replied g) (Some status) x.response t s (given_by c a b g s.given k)
    (ended_flow c (Replied (local_reply status)) a b (handed_out n x.ready) x.waiting (Some status) x.response t.response s refl)
    (λ i e. ap (λ o. Replied (local_reply (unwrap_or o 0))) e) (λ r. headless c a a _ x.waiting x.response t.response s.live (s.early r))

-- whether the response's head was chosen
pub committed_in : (c : FilterConfig) (a : ExchangeAccount) (n : ℕ) (w : Option ℕ) (f : Flow) (t : FlowTies c Response a a n w f) → is_live a.fate ≡ true
    → is_some (half.course t.story.past).head ≡ is_some (course Response a).head
committed_in c a n w f t l = ap (λ (x : Course). is_some x.head) (t.told l)

pub aborted_so : (c : FilterConfig) (g : GivenWhole) (a b : ExchangeAccount) (n : ℕ) (ends : List Bool) (x : Exchange) → AtRest c a n ends x
    → EndsTo c Aborted a b → IsGivenBy c a g → AtRest c b n ends (record x { fate = fate.Aborted g })
aborted_so c g a b n ends x t s k = ends_by c 0 true g a b n ends x t s k
