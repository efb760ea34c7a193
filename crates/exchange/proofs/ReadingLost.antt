-- The link of a side is lost.
use Rattle.std.proofs.Common.{refl, sym, ◌∙◌, ap, subst}
use Rattle.std.proofs.lemmas.Bool.{true≢false}
use Rattle.std.specs.Prelude.{ℕ, ◌≡◌, ◌||◌, ◌&&◌, Bool, true, false, List, ◌∷◌, Option, Some, None, if◌then◌else◌, is_some, length, filter_map}
use Rattle.http_model.specs.Wire.{local_reply}
use Rattle.http_model.specs.declared.types.Direction.{Direction}
use Rattle.http_model.specs.declared.types.Direction.TheVariants.{Request, Response}
use Rattle.filter_model.specs.Account.{Aborted, ExchangeAccount, course, flow, from, gathered, is_finished, is_given, is_released, settled, to}
use Rattle.filter_model.specs.Answers.{answered}
use Rattle.filter_model.specs.Config.{FilterConfig}
use Rattle.filter_model.specs.Course.{Course}
use Rattle.filter_model.specs.Cut.{Cut, Gone, Peer, is_whole_and_done, loss_cut, over_cut, peer_cut, processor_cut}
use Rattle.filter_model.specs.Half.{Past}
use Rattle.filter_model.specs.Half as half
use Rattle.filter_model.specs.Right.{Call, IsHistory, Stepped, account, ask_given, end_given}
use Rattle.filter_model.specs.Step.{cut, cut_at, is_live}
use Rattle.filter_model.specs.View.{Lost}
use Rattle.filter_model.specs.declared.calls.Loss.{Loss}
use Rattle.filter_model.specs.declared.calls.Side.{Side}
use Rattle.filter_model.specs.declared.calls.Side.TheVariants.{Client, Upstream}
use Rattle.filter_model.proofs.RestStays.{cut_fate}
use Rattle.half_machine.specs.Stands as machine
use Rattle.exchange.specs.Answering.{EndsBy, EndsTo, StaysTo, fate_by, unsettled}
use Rattle.exchange.specs.Moves.{replied_in}
use Rattle.exchange.specs.Settings.{HasSizes}
use Rattle.exchange.specs.Stands.{AtRest, FlowTies, IsAfter, IsGivenBy, handed_out}
use Rattle.exchange.specs.declared.exchange.Exchange.{Exchange}
use Rattle.exchange.specs.declared.fate.Fate.TheVariants as fate
use Rattle.exchange.specs.declared.fate.GivenWhole.{GivenWhole}
use Rattle.exchange.specs.declared.flow.Flow.{Flow}
use Rattle.exchange.proofs.Releasing.{living_fate}
use Rattle.exchange.proofs.TimingEvents.{none_over}
use Rattle.exchange.proofs.TimingSteps.{Untold, aborts, untold_ends, untold_replied}
use Rattle.exchange.proofs.TimingTicks.{untold_stays}
use Rattle.exchange.proofs.TimingTies.{aborted_so, ends_by, given_by, stays}

-- What it brings

lost_courses : (s : Side) (how : Loss) (a : ExchangeAccount) (d : Direction) → course d (gathered (Lost s how) a) ≡ course d a
unfolding gathered
lost_courses Client how a Request = refl
lost_courses Client how a Response = refl
lost_courses Upstream how a Request = refl
lost_courses Upstream how a Response = refl

lost_timers : (s : Side) (how : Loss) (a : ExchangeAccount) (d : Direction)
    → ((flow d (gathered (Lost s how) a)).deadline ≡ (flow d a).deadline) × ((flow d (gathered (Lost s how) a)).extended ≡ (flow d a).extended)
unfolding gathered
lost_timers Client how a Request = (refl, refl)
lost_timers Client how a Response = (refl, refl)
lost_timers Upstream how a Request = (refl, refl)
lost_timers Upstream how a Response = (refl, refl)

lost_whole : (c : FilterConfig) (s : Side) (how : Loss) (a : ExchangeAccount) (d : Direction) → is_given c (gathered (Lost s how) a) d ≡ is_given c a d
unfolding gathered is_given
lost_whole c Client how a Request = refl
lost_whole c Client how a Response = refl
lost_whole c Upstream how a Request = refl
lost_whole c Upstream how a Response = refl

lost_untold : (c : FilterConfig) (s : Side) (how : Loss) (a : ExchangeAccount) → Untold c (Lost s how) a
unfolding gathered
lost_untold c s how a = record { courses = lost_courses s how a; timers = lost_timers s how a; life = (refl, refl, refl); whole = lost_whole c s how a }

-- which sides are lost

abbrev lost_in : Bool → Bool → ExchangeAccount → ExchangeAccount
lost_in b k a = record a { request = record a.request { lost = b }; response = record a.response { lost = k } }

lost_request : (c : FilterConfig) (b k : Bool) (a : ExchangeAccount) (n : ℕ) (w : Option ℕ) (f : Flow) → FlowTies c Request a a n w f → FlowTies c Request (lost_in b k a) (lost_in b k a) n w (record f { lost = b })
lost_request c b k a n w f t = record {
  story = t.story;
  stands = record { reader = t.stands.reader; half = t.stands.half; outlet = t.stands.outlet; is_past = t.stands.is_past; parts = t.stands.parts; way = t.stands.way };
  config = t.config;
  way = t.way;
  source = t.source;
  front = t.front;
  given = t.given;
  reply = t.reply;
  handed_on = t.handed_on;
  told = t.told;
  asks = t.asks;
  lost = refl;
  timer = t.timer;
  extended = t.extended;
}

lost_response : (c : FilterConfig) (b k : Bool) (a : ExchangeAccount) (n : ℕ) (w : Option ℕ) (f : Flow) → FlowTies c Response a a n w f → FlowTies c Response (lost_in b k a) (lost_in b k a) n w (record f { lost = k })
lost_response c b k a n w f t = record {
  story = t.story;
  stands = record { reader = t.stands.reader; half = t.stands.half; outlet = t.stands.outlet; is_past = t.stands.is_past; parts = t.stands.parts; way = t.stands.way };
  config = t.config;
  way = t.way;
  source = t.source;
  front = t.front;
  given = t.given;
  reply = t.reply;
  handed_on = t.handed_on;
  told = t.told;
  asks = t.asks;
  lost = refl;
  timer = t.timer;
  extended = t.extended;
}

lost_noted : (c : FilterConfig) (b k : Bool) (a : ExchangeAccount) (n : ℕ) (ends : List Bool) (x : Exchange) → AtRest c a n ends x → is_live a.fate ≡ true
    → AtRest c (lost_in b k a) n ends (record x { request = record x.request { lost = b }; response = record x.response { lost = k } })
lost_noted c b k a n ends x t l = record {
  request = lost_request c b k a (handed_out n x.ready) x.waiting x.request t.request;
  response = lost_response c b k a (handed_out n x.ready) x.waiting x.response t.response;
  order = t.order;
  unsent = t.unsent;
  within = t.within;
  ready = t.ready;
  now = t.now;
  to_head = t.to_head;
  fate = living_fate c a (lost_in b k a) a.fate x.fate l t.fate;
  waiting = t.waiting;
  stream = record { asked = t.stream.asked; unopened = t.stream.unopened; closed = t.stream.closed; ending = t.stream.ending; ended = t.stream.ended };
  alone = t.alone;
}

client_noted : (c : FilterConfig) (how : Loss) (a : ExchangeAccount) (n : ℕ) (ends : List Bool) (x : Exchange) → AtRest c a n ends x → is_live a.fate ≡ true
    → AtRest c (gathered (Lost Client how) a) n ends (record x { request = record x.request { lost = true } })
unfolding gathered
client_noted c how a n ends x t l =
    subst (λ k. AtRest c (lost_in true a.response.lost a) n ends (record x { request = record x.request { lost = true }; response = record x.response { lost = k } })) (sym t.response.lost)
    (lost_noted c true a.response.lost a n ends x t l)

upstream_noted : (c : FilterConfig) (how : Loss) (a : ExchangeAccount) (n : ℕ) (ends : List Bool) (x : Exchange) → AtRest c a n ends x → is_live a.fate ≡ true
    → AtRest c (gathered (Lost Upstream how) a) n ends (record x { response = record x.response { lost = true } })
unfolding gathered
upstream_noted c how a n ends x t l =
    subst (λ k. AtRest c (lost_in a.request.lost true a) n ends (record x { request = record x.request { lost = k }; response = record x.response { lost = true } })) (sym t.request.lost)
    (lost_noted c a.request.lost true a n ends x t l)

-- Whether it is a cut

lost_cut : (c : FilterConfig) (h : List Call) (s : Side) (how : Loss) → IsHistory c h → is_live (account c h).fate ≡ true → let a : ExchangeAccount = account c h in
    cut c (Lost s how) (gathered (Lost s how) a) ≡ cut_at (is_finished c a) (is_released a) None None (if is_whole_and_done c a s then None else Some (loss_cut s how))
unfolding cut gathered processor_cut peer_cut over_cut answered is_finished is_given
lost_cut c h Client how y l =
    let a : ExchangeAccount = account c h in
    ap (λ o. cut_at (is_finished c a) (is_released a) None o (if is_whole_and_done c a Client then None else Some (loss_cut Client how))) (none_over c h y l)
lost_cut c h Upstream how y l =
    let a : ExchangeAccount = account c h in
    ap (λ o. cut_at (is_finished c a) (is_released a) None o (if is_whole_and_done c a Upstream then None else Some (loss_cut Upstream how))) (none_over c h y l)

no_fault : (f r w : Bool) (k : Cut) → (f || w) ≡ true → cut_at f r None None (if w then None else Some k) ≡ None
no_fault true r w k e = refl
no_fault false true true k e = refl
no_fault false false true k e = refl
no_fault false r false k e = absurd (true≢false (sym e))

a_fault : (f r w : Bool) (k : Cut) → (f || w) ≡ false → cut_at f r None None (if w then None else Some k) ≡ Some k
a_fault true r w k e = absurd (true≢false e)
a_fault false r true k e = absurd (true≢false e)
a_fault false true false k e = refl
a_fault false false false k e = refl

lost_stays : (c : FilterConfig) (h : List Call) (s : Side) (how : Loss) → IsHistory c (Stepped (Lost s how) ∷ h) → is_live (account c h).fate ≡ true → HasSizes c
    → (is_finished c (account c h) || is_whole_and_done c (account c h) s) ≡ true → StaysTo c (gathered (Lost s how) (account c h)) (unsettled c (Lost s how) (account c h))
lost_stays c h s how y l z i =
    let a : ExchangeAccount = account c h in
    untold_stays c h (Lost s how) y tt tt (lost_untold c s how a)
    (record { live = l; stays = refl; none = lost_cut c h s how y.0 l ∙ no_fault (is_finished c a) (is_released a) (is_whole_and_done c a s) (loss_cut s how) i }) z

-- one that is ends the exchange

faulty : (c : FilterConfig) (h : List Call) (s : Side) (how : Loss) → IsHistory c h → is_live (account c h).fate ≡ true → (is_finished c (account c h) || is_whole_and_done c (account c h) s) ≡ false
    → cut c (Lost s how) (gathered (Lost s how) (account c h)) ≡ Some (loss_cut s how)
faulty c h s how y l i =
    let a : ExchangeAccount = account c h in
    lost_cut c h s how y l ∙ a_fault (is_finished c a) (is_released a) (is_whole_and_done c a s) (loss_cut s how) i

client_ends : (c : FilterConfig) (h : List Call) (how : Loss) → IsHistory c (Stepped (Lost Client how) ∷ h) → is_live (account c h).fate ≡ true
    → (is_finished c (account c h) || is_whole_and_done c (account c h) Client) ≡ false → EndsTo c Aborted (gathered (Lost Client how) (account c h)) (unsettled c (Lost Client how) (account c h))
client_ends c h how y l i =
    let a : ExchangeAccount = account c h in
    let k = faulty c h Client how y.0 l i in
    untold_ends c h (Lost Client how) Gone Aborted y (lost_untold c Client how a) l refl k refl
    (cut_fate c (Lost Client how) a Gone l refl k ∙ aborts (is_some (settled c (gathered (Lost Client how) a)).response.course.head))

upstream_ends : (c : FilterConfig) (h : List Call) (how : Loss) (status : ℕ) → IsHistory c (Stepped (Lost Upstream how) ∷ h) → is_live (account c h).fate ≡ true
    → (is_finished c (account c h) || is_whole_and_done c (account c h) Upstream) ≡ false → loss_cut Upstream how ≡ Peer status
    → EndsBy c (local_reply status) (gathered (Lost Upstream how) (account c h)) (unsettled c (Lost Upstream how) (account c h))
upstream_ends c h how status y l i e =
    untold_replied c h (Lost Upstream how) (Peer status) (local_reply status) y (lost_untold c Upstream how (account c h)) l refl (faulty c h Upstream how y.0 l i ∙ ap (λ k. Some k) e) refl refl

-- What the exchange stands for then

-- as its code says it
pub says_harmless : (c : FilterConfig) (s : Side) (a : ExchangeAccount) (n : ℕ) (w : Option ℕ) (f : Flow) → FlowTies c (from s) a a n w f → is_live a.fate ≡ true
    → (b finished whole given : Bool) → b ≡ (finished || (whole && given)) → finished ≡ is_finished c a → ((p : Past) → machine.StandsFor p f.half → whole ≡ (half.course p).original.whole)
    → given ≡ is_given c a (to s) → (is_finished c a || is_whole_and_done c a s) ≡ b
says_harmless c s a n w f t l b finished whole given e i k g =
    let m : whole ≡ (course (from s) a).original.whole = k t.story.past t.stands.half ∙ ap (λ (v : Course). v.original.whole) (t.told l) in
    sym (e ∙ ap (λ z. z || (whole && given)) i ∙ ap (λ z. is_finished c a || (z && given)) m ∙ ap (λ z. is_finished c a || ((course (from s) a).original.whole && z)) g)

pub client_stays : (c : FilterConfig) (h : List Call) (how : Loss) (x : Exchange) → IsAfter c h x → is_live (account c h).fate ≡ true
    → (is_finished c (account c h) || is_whole_and_done c (account c h) Client) ≡ true
    → AtRest c (unsettled c (Lost Client how) (account c h)) (length (filter_map ask_given h)) (filter_map end_given h) (record x { request = record x.request { lost = true } })
client_stays c h how x s l i =
    let a : ExchangeAccount = account c h in
    let e = Lost Client how in
    stays c (gathered e a) (unsettled c e a) (length (filter_map ask_given h)) (filter_map end_given h) (record x { request = record x.request { lost = true } })
    (client_noted c how a (length (filter_map ask_given h)) (filter_map end_given h) x s.ties l) (lost_stays c h Client how (s.right, tt) l s.made.sizes i)

pub client_aborts : (c : FilterConfig) (h : List Call) (how : Loss) (given : GivenWhole) (x : Exchange) → IsAfter c h x → is_live (account c h).fate ≡ true
    → (is_finished c (account c h) || is_whole_and_done c (account c h) Client) ≡ false → IsGivenBy c (account c h) given
    → AtRest c (unsettled c (Lost Client how) (account c h)) (length (filter_map ask_given h)) (filter_map end_given h)
    (record x { request = record x.request { lost = true }; fate = fate.Aborted given })
client_aborts c h how given x s l i g =
    let a : ExchangeAccount = account c h in
    let e = Lost Client how in
    aborted_so c given (gathered e a) (unsettled c e a) (length (filter_map ask_given h)) (filter_map end_given h) (record x { request = record x.request { lost = true } })
    (client_noted c how a (length (filter_map ask_given h)) (filter_map end_given h) x s.ties l) (client_ends c h how (s.right, tt) l i)
    (given_by c a (gathered e a) given (lost_whole c Client how a) g)

pub upstream_stays : (c : FilterConfig) (h : List Call) (how : Loss) (x : Exchange) → IsAfter c h x → is_live (account c h).fate ≡ true
    → (is_finished c (account c h) || is_whole_and_done c (account c h) Upstream) ≡ true
    → AtRest c (unsettled c (Lost Upstream how) (account c h)) (length (filter_map ask_given h)) (filter_map end_given h) (record x { response = record x.response { lost = true } })
upstream_stays c h how x s l i =
    let a : ExchangeAccount = account c h in
    let e = Lost Upstream how in
    stays c (gathered e a) (unsettled c e a) (length (filter_map ask_given h)) (filter_map end_given h) (record x { response = record x.response { lost = true } })
    (upstream_noted c how a (length (filter_map ask_given h)) (filter_map end_given h) x s.ties l) (lost_stays c h Upstream how (s.right, tt) l s.made.sizes i)

pub upstream_replied : (c : FilterConfig) (h : List Call) (how : Loss) (status : ℕ) (committed : Bool) (given : GivenWhole) (x : Exchange) → IsAfter c h x → is_live (account c h).fate ≡ true
    → (is_finished c (account c h) || is_whole_and_done c (account c h) Upstream) ≡ false → loss_cut Upstream how ≡ Peer status → committed ≡ is_some (course Response (account c h)).head
    → IsGivenBy c (account c h) given
    → AtRest c (unsettled c (Lost Upstream how) (account c h)) (length (filter_map ask_given h)) (filter_map end_given h)
    (replied_in status committed given (record x { response = record x.response { lost = true } }))
upstream_replied c h how status committed given x s l i k q g =
    let a : ExchangeAccount = account c h in
    let e = Lost Upstream how in
    ends_by c status committed given (gathered e a) (unsettled c e a) (length (filter_map ask_given h)) (filter_map end_given h) (record x { response = record x.response { lost = true } })
    (upstream_noted c how a (length (filter_map ask_given h)) (filter_map end_given h) x s.ties l)
    (subst (λ z. EndsTo c (fate_by z (local_reply status)) (gathered e a) (unsettled c e a)) (ap (λ (w : Course). is_some w.head) (lost_courses Upstream how a Response) ∙ sym q)
    (upstream_ends c h how status (s.right, tt) l i k))
    (given_by c a (gathered e a) given (lost_whole c Upstream how a) g)
