-- The events of the processor's stream: what is noted of them, and which of them are failures.
use Rattle.std.proofs.Common.{refl, sym, ◌∙◌, ap, subst, inl, inr}
use Rattle.std.proofs.lemmas.Bool.{true≢false}
use Rattle.std.specs.Prelude.{ℕ, ◌≡◌, ◌⊎◌, ◌&&◌, Bool, true, false, not, List, ◌∷◌, Option, Some, None, is_some, if◌then◌else◌, unwrap_or}
use Rattle.http_model.specs.declared.types.Direction.TheVariants.{Request, Response}
use Rattle.filter_model.specs.Account.{Aborted, ExchangeAccount, settled, gathered, is_finished, is_released}
use Rattle.filter_model.specs.Answers.{answered}
use Rattle.filter_model.specs.Course.{is_over}
use Rattle.filter_model.proofs.NeverOver.{never_over}
use Rattle.filter_model.proofs.RestStays.{cut_fate}
use Rattle.filter_model.specs.Config.{FilterConfig}
use Rattle.filter_model.specs.Cut.{Gone, Over, over_cut, Clean, LongAnswer, Failed, Unopened, peer_cut, processor_cut}
use Rattle.filter_model.specs.Right.{Call, IsHistory, Stepped, account}
use Rattle.filter_model.specs.Step.{cut, cut_at, first_of, is_live}
use Rattle.filter_model.specs.View.{Starved, Closed, NoStream, TooLong}
use Rattle.exchange.specs.Moves.{is_live_in}
use Rattle.exchange.specs.Stands.{AtRest, FlowTies, IsAfter, handed_out}
use Rattle.exchange.specs.declared.exchange.Exchange.{Exchange}
use Rattle.exchange.specs.declared.flow.Flow.{Flow}
use Rattle.exchange.proofs.TimingSteps.{IsFailure, aborts, cut_finished, ends_at, cut_heard, cut_unheard, passes_so, unheard_stays}
use Rattle.exchange.specs.Answering.{EndsTo, StaysTo, unsettled}
use Rattle.exchange.specs.Passing.{PassesTo}
use Rattle.exchange.proofs.Releasing.{living_fate}
use Rattle.exchange.proofs.TimingTies.{live_as}

-- Whether the processor is heard

pub both_open : (f r : Bool) → (not f && not r) ≡ true → (f ≡ false) × (r ≡ false)
both_open false false e = (refl, refl)
both_open false true e = absurd (true≢false (sym e))
both_open true r e = absurd (true≢false (sym e))

pub one_closed : (f r : Bool) → (not f && not r) ≡ false → (r ≡ true) ⊎ (f ≡ true)
one_closed false false e = absurd (true≢false e)
one_closed false true e = inl refl
one_closed true r e = inr refl

-- Whether the exchange lives

pub lives : (c : FilterConfig) (h : List Call) (x : Exchange) (b : Bool) → IsAfter c h x → b ≡ is_live_in x.fate → is_live (account c h).fate ≡ b
lives c h x b s e = sym (e ∙ live_as c (account c h) (account c h).fate x.fate s.ties.fate)

-- What is noted of the stream and of the clock

abbrev noted_in : ℕ → Bool → Option Bool → ExchangeAccount → ExchangeAccount
noted_in m u k a = record a { now = m; unopened = u; closed = k }

noted_request : (c : FilterConfig) (m : ℕ) (u : Bool) (k : Option Bool) (a : ExchangeAccount) (n : ℕ) (w : Option ℕ) (f : Flow)
    → FlowTies c Request a a n w f → FlowTies c Request (noted_in m u k a) (noted_in m u k a) n w f
noted_request c m u k a n w f t = record {
  story = t.story;
  stands = t.stands;
  config = t.config;
  way = t.way;
  source = t.source;
  front = t.front;
  given = t.given;
  reply = t.reply;
  handed_on = t.handed_on;
  told = t.told;
  asks = t.asks;
  lost = t.lost;
  timer = t.timer;
  extended = t.extended;
}

noted_response : (c : FilterConfig) (m : ℕ) (u : Bool) (k : Option Bool) (a : ExchangeAccount) (n : ℕ) (w : Option ℕ) (f : Flow)
    → FlowTies c Response a a n w f → FlowTies c Response (noted_in m u k a) (noted_in m u k a) n w f
noted_response c m u k a n w f t = record {
  story = t.story;
  stands = t.stands;
  config = t.config;
  way = t.way;
  source = t.source;
  front = t.front;
  given = t.given;
  reply = t.reply;
  handed_on = t.handed_on;
  told = t.told;
  asks = t.asks;
  lost = t.lost;
  timer = t.timer;
  extended = t.extended;
}

pub noted_so : (c : FilterConfig) (m m' : ℕ) (u : Bool) (k : Option Bool) (a : ExchangeAccount) (n : ℕ) (ends : List Bool) (x : Exchange) → AtRest c a n ends x → is_live a.fate ≡ true
    → m' ≡ m → AtRest c (noted_in m u k a) n ends (record x { clock = m'; stream = record x.stream { unopened = u; closed = k } })
noted_so c m m' u k a n ends x t l q = record {
  request = noted_request c m u k a (handed_out n x.ready) x.waiting x.request t.request;
  response = noted_response c m u k a (handed_out n x.ready) x.waiting x.response t.response;
  order = t.order;
  unsent = t.unsent;
  within = t.within;
  ready = t.ready;
  now = q;
  to_head = t.to_head;
  fate = living_fate c a (noted_in m u k a) a.fate x.fate l t.fate;
  waiting = t.waiting;
  stream = record { asked = t.stream.asked; unopened = refl; closed = refl; ending = t.stream.ending; ended = t.stream.ended };
  alone = t.alone;
}

pub no_stream_noted : (c : FilterConfig) (a : ExchangeAccount) (n : ℕ) (ends : List Bool) (x : Exchange) → AtRest c a n ends x → is_live a.fate ≡ true
    → AtRest c (gathered NoStream a) n ends (record x { stream = record x.stream { unopened = true } })
unfolding gathered
no_stream_noted c a n ends x t l =
    subst (λ k. AtRest c (record a { unopened = true }) n ends (record x { stream = record x.stream { unopened = true; closed = k } })) (sym t.stream.closed)
    (noted_so c a.now x.clock true a.closed a n ends x t l t.now)

pub too_long_noted : (c : FilterConfig) (a : ExchangeAccount) (n : ℕ) (ends : List Bool) (x : Exchange) → AtRest c a n ends x → AtRest c (gathered TooLong a) n ends x
unfolding gathered
too_long_noted c a n ends x t = t

-- Failures

pub no_stream_fails : (c : FilterConfig) (a : ExchangeAccount) → IsFailure c NoStream (gathered NoStream a) Unopened 500
unfolding processor_cut peer_cut
no_stream_fails c a = record { side = tt; processor = tt; stays = refl; is = refl; peer = refl; passes = refl; reply = λ b. refl }

pub too_long_fails : (c : FilterConfig) (a : ExchangeAccount) → IsFailure c TooLong (gathered TooLong a) LongAnswer 500
unfolding processor_cut peer_cut
too_long_fails c a = record { side = tt; processor = tt; stays = refl; is = refl; peer = refl; passes = refl; reply = λ b. refl }

-- A closing

pub closed_noted : (c : FilterConfig) (clean b : Bool) (a : ExchangeAccount) (n : ℕ) (ends : List Bool) (x : Exchange) → AtRest c a n ends x → is_live a.fate ≡ true
    → b ≡ unwrap_or x.stream.closed clean → AtRest c (gathered (Closed clean) a) n ends (record x { stream = record x.stream { closed = Some b } })
unfolding gathered
closed_noted c clean b a n ends x t l q =
    subst (λ k. AtRest c (record a { closed = Some (unwrap_or a.closed clean) }) n ends (record x { stream = record x.stream { closed = k } }))
    (sym (ap (λ k. Some k) (q ∙ ap (λ k. unwrap_or k clean) t.stream.closed)))
    (subst (λ u. AtRest c (record a { closed = Some (unwrap_or a.closed clean) }) n ends (record x { stream = record x.stream { unopened = u; closed = Some (unwrap_or a.closed clean) } })) (sym t.stream.unopened)
    (noted_so c a.now x.clock a.unopened (Some (unwrap_or a.closed clean)) a n ends x t l t.now))

pub closed_fails : (c : FilterConfig) (clean : Bool) (a : ExchangeAccount) → clean ≡ false → IsFailure c (Closed clean) (gathered (Closed clean) a) Failed 500
unfolding processor_cut peer_cut
closed_fails c true a e = absurd (true≢false e)
closed_fails c false a e = record { side = tt; processor = tt; stays = refl; is = refl; peer = refl; passes = refl; reply = λ b. refl }

pub closed_passes : (c : FilterConfig) (h : List Call) (clean : Bool) → IsHistory c (Stepped (Closed clean) ∷ h) → is_live (account c h).fate ≡ true → clean ≡ true
    → is_finished c (gathered (Closed clean) (account c h)) ≡ false → is_released (gathered (Closed clean) (account c h)) ≡ false
    → PassesTo c (gathered (Closed clean) (account c h)) (unsettled c (Closed clean) (account c h))
unfolding processor_cut
closed_passes c h true s l e f r =
    passes_so c h (Closed true) Clean s tt tt l refl (cut_heard c (Closed true) (gathered (Closed true) (account c h)) Clean refl f r) refl
closed_passes c h false s l e f r = absurd (true≢false (sym e))

pub closed_stays : (c : FilterConfig) (h : List Call) (clean : Bool) → IsHistory c (Stepped (Closed clean) ∷ h) → is_live (account c h).fate ≡ true
    → (is_released (gathered (Closed clean) (account c h)) ≡ true) ⊎ (is_finished c (gathered (Closed clean) (account c h)) ≡ true)
    → StaysTo c (gathered (Closed clean) (account c h)) (unsettled c (Closed clean) (account c h))
unfolding peer_cut
closed_stays c h clean s l q =
    unheard_stays c h (Closed clean) s l tt refl (cut_unheard c (Closed clean) (gathered (Closed clean) (account c h)) refl q) q

-- Want of memory

pub none_over : (c : FilterConfig) (h : List Call) → IsHistory c h → is_live (account c h).fate ≡ true → over_cut c (account c h) ≡ None
unfolding over_cut
none_over c h s l =
    let a : ExchangeAccount = account c h in
    ap (λ b. if b then Some (Over Request) else (if is_over c.course a.response.course then Some (Over Response) else None)) (never_over c h s l Request)
    ∙ ap (λ b. if b then Some (Over Response) else None) (never_over c h s l Response)

starved_cut : (c : FilterConfig) (h : List Call) → IsHistory c h → is_live (account c h).fate ≡ true → is_finished c (account c h) ≡ false
    → cut c Starved (gathered Starved (account c h)) ≡ Some Gone
unfolding cut gathered processor_cut peer_cut answered
starved_cut c h s l f =
    ap (λ b. cut_at b (is_released a) None (over_cut c a) (Some Gone)) f ∙ by (is_released a)
  where
    a : ExchangeAccount
    a = account c h

    by : (b : Bool) → cut_at false b None (over_cut c a) (Some Gone) ≡ Some Gone
    by true = refl
    by false = ap (λ o. first_of o (Some Gone)) (none_over c h s l)

pub starved_ends : (c : FilterConfig) (h : List Call) → IsHistory c (Stepped Starved ∷ h) → is_live (account c h).fate ≡ true → is_finished c (account c h) ≡ false
    → EndsTo c Aborted (gathered Starved (account c h)) (unsettled c Starved (account c h))
starved_ends c h s l f =
    let i = starved_cut c h s.0 l f in
    ends_at c h Starved Gone Aborted s tt l refl i refl
    (cut_fate c Starved (account c h) Gone l refl i ∙ aborts (is_some (settled c (gathered Starved (account c h))).response.course.head))

pub starved_stays : (c : FilterConfig) (h : List Call) → IsHistory c (Stepped Starved ∷ h) → is_live (account c h).fate ≡ true → is_finished c (gathered Starved (account c h)) ≡ true
    → StaysTo c (gathered Starved (account c h)) (unsettled c Starved (account c h))
starved_stays c h s l f = unheard_stays c h Starved s l tt refl (cut_finished c Starved (gathered Starved (account c h)) f) (inr f)

pub starved_noted : (c : FilterConfig) (a : ExchangeAccount) (n : ℕ) (ends : List Bool) (x : Exchange) → AtRest c a n ends x → AtRest c (gathered Starved a) n ends x
unfolding gathered
starved_noted c a n ends x t = t

pub starved_same : (c : FilterConfig) (a : ExchangeAccount) → is_finished c (gathered Starved a) ≡ is_finished c a
unfolding gathered
starved_same c a = refl
