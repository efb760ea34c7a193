-- What an entry of the processor, of time, or want of memory makes of an account, before how the stream ends is settled.
use Rattle.std.proofs.Common.{refl, sym, ◌∙◌, ap, subst, inl, inr}
use Rattle.std.specs.Prelude.{ℕ, ◌≡◌, ◌⊎◌, ◌+◌, Bool, true, false, not, ◌&&◌, List, [], ◌∷◌, length, filter_map, Some, None, is_some, if◌then◌else◌}
use Rattle.http_model.specs.declared.types.Direction.{Direction}
use Rattle.http_model.specs.declared.types.Direction.TheVariants.{Request, Response}
use Rattle.filter_model.specs.Account.{ExchangeAccount, Fate, Flow, Replied, Aborted, course, flow, gathered, is_finished, is_given, is_released, is_to_head, settled}
use Rattle.filter_model.specs.Config.{FilterConfig}
use Rattle.filter_model.specs.Course.{Course, committed, out}
use Rattle.http_model.specs.Bytes.{is_empty}
use Rattle.filter_model.specs.Cut.{Cut, over_cut, peer_cut, processor_cut}
use Rattle.filter_model.specs.Answers.{answered}
use Rattle.filter_model.specs.Half.{Release}
use Rattle.filter_model.specs.Right.{Call, Stepped, IsHistory, May, account, ask_given, end_given}
use Rattle.filter_model.specs.Step.{after, by_reply, cut, cut_at, effect, is_departure, is_live, lets_pass, on, reply_to, step, step_if, still_counts, under_cut, under_departure, with_ending}
use Rattle.filter_model.specs.Told.{IsNoCut, IsOfProcessor, known, told}
use Rattle.filter_model.specs.ToldMore.{IsOfNoSide, SameRest}
use Rattle.filter_model.specs.View.{ViewEntry, Answered, TooLong, Closed, NoStream, Tick, Starved, Bytes, End, Lost, Sent, Given}
use Rattle.filter_model.proofs.EndsUntold.{ended_same, ends_given}
use Rattle.filter_model.proofs.NothingTold.{idle_made, idle_timer, idle_told}
use Rattle.filter_model.proofs.RestStays.{cut_fate, cut_timer_is, rest_stays, same_fate}
use Rattle.filter_model.proofs.StillAtRest.{head_rests}
use Rattle.filter_model.proofs.ToldRelease.{release_told}
use Rattle.exchange.specs.Answering.{EndsBy, EndsTo, FailsIfHeard, FailsTo, StaysTo, fate_by, unsettled}
use Rattle.exchange.specs.Passing.{PassesTo}
use Rattle.exchange.specs.Settings.{OfSettings}
use Rattle.exchange.specs.Stands.{AtRest, IsAfter, IsConfigured, IsReplied}
use Rattle.exchange.specs.declared.exchange.Exchange.{Exchange}
use Rattle.exchange.proofs.Onward.{settled_is}
use Rattle.http_model.specs.Wire.{local_reply}
use Rattle.exchange.proofs.GivingReplied.{early_head}
use Rattle.filter_model.proofs.NeverOver.{gathered_is}

-- One call more

pub stands_for : (c : FilterConfig) (h : List Call) (e : ViewEntry) (x y : Exchange) → IsHistory c (Stepped e ∷ h) → IsConfigured c x → y.settings ≡ x.settings → is_live (account c h).fate ≡ true
    → AtRest c (with_ending c (unsettled c e (account c h))) (length (filter_map ask_given h)) (filter_map end_given h) y → IsAfter c (Stepped e ∷ h) y
unfolding after
stands_for c h e x y r m s l t = record {
  right = r;
  made = record { sizes = m.sizes; settings = subst (λ z. OfSettings c z) (sym s) m.settings };
  ties = subst (λ a. AtRest c a (length (filter_map ask_given h)) (filter_map end_given h) y) (settled_is c e (account c h) l) t;
}

pub stands_next : (c : FilterConfig) (e : ViewEntry) (h : List Call) (x y : Exchange) → IsAfter c h x → May c (Stepped e) h → y.settings ≡ x.settings
    → is_live (account c h).fate ≡ true
    → AtRest c (with_ending c (unsettled c e (account c h))) (length (filter_map ask_given h)) (filter_map end_given h) y → IsAfter c (Stepped e ∷ h) y
stands_next c e h x y s m q l t = stands_for c h e x y (s.right, m) s.made q l t

-- behind an end it changes nothing
pub stands_ended : (c : FilterConfig) (e : ViewEntry) (h : List Call) (x : Exchange) → IsAfter c h x → May c (Stepped e) h → is_live (account c h).fate ≡ false
    → still_counts e ≡ false → IsAfter c (Stepped e ∷ h) x
unfolding after
stands_ended c e h x s m l k = record {
  right = (s.right, m);
  made = s.made;
  ties = subst (λ a. AtRest c a (length (filter_map ask_given h)) (filter_map end_given h) x) (sym (ended_same c e (account c h) l k)) s.ties;
}

-- What was gathered

pub flow_same : (e : ViewEntry) (a : ExchangeAccount) → IsOfNoSide e → (d : Direction) → flow d (gathered e a) ≡ flow d a
unfolding gathered
flow_same (Answered x) a o d = refl
flow_same TooLong a o d = refl
flow_same (Closed b) a o Request = refl
flow_same (Closed b) a o Response = refl
flow_same NoStream a o Request = refl
flow_same NoStream a o Response = refl
flow_same (Tick n) a o Request = refl
flow_same (Tick n) a o Response = refl
flow_same Starved a o d = refl
flow_same (Bytes s b) a o d = absurd o
flow_same (End s) a o d = absurd o
flow_same (Lost s h) a o d = absurd o
flow_same Sent a o d = absurd o
flow_same (Given s b) a o d = absurd o

abbrev pub SameLife : ExchangeAccount → ExchangeAccount → Type 0
SameLife g a = (g.made ≡ a.made) × (g.fate ≡ a.fate) × (g.ending ≡ a.ending)

pub life_same : (e : ViewEntry) (a : ExchangeAccount) → IsOfNoSide e → SameLife (gathered e a) a
unfolding gathered
life_same (Answered x) a o = (refl, refl, refl)
life_same TooLong a o = (refl, refl, refl)
life_same (Closed b) a o = (refl, refl, refl)
life_same NoStream a o = (refl, refl, refl)
life_same (Tick n) a o = (refl, refl, refl)
life_same Starved a o = (refl, refl, refl)
life_same (Bytes s b) a o = absurd o
life_same (End s) a o = absurd o
life_same (Lost s h) a o = absurd o
life_same Sent a o = absurd o
life_same (Given s b) a o = absurd o

pub given_same : (c : FilterConfig) (e : ViewEntry) (a : ExchangeAccount) → IsOfNoSide e → (d : Direction) → is_given c (gathered e a) d ≡ is_given c a d
unfolding gathered is_given
given_same c (Answered x) a o d = refl
given_same c TooLong a o d = refl
given_same c (Closed b) a o Request = refl
given_same c (Closed b) a o Response = refl
given_same c NoStream a o Request = refl
given_same c NoStream a o Response = refl
given_same c (Tick n) a o Request = refl
given_same c (Tick n) a o Response = refl
given_same c Starved a o d = refl
given_same c (Bytes s b) a o d = absurd o
given_same c (End s) a o d = absurd o
given_same c (Lost s h) a o d = absurd o
given_same c Sent a o d = absurd o
given_same c (Given s b) a o d = absurd o

finished_same : (c : FilterConfig) (e : ViewEntry) (a : ExchangeAccount) → IsOfNoSide e → is_finished c (gathered e a) ≡ is_finished c a
unfolding is_finished
finished_same c e a o = ap (λ b. b && is_given c (gathered e a) Response) (given_same c e a o Request) ∙ ap (λ b. is_given c a Request && b) (given_same c e a o Response)

released_same : (e : ViewEntry) (a : ExchangeAccount) → IsOfNoSide e → is_released (gathered e a) ≡ is_released a
released_same e a o = ap (λ (f : Flow). f.course.released) (flow_same e a o Request)

-- all of that, where nothing is brought to a half and nothing is given
pub record Untold (c : FilterConfig) (e : ViewEntry) (a : ExchangeAccount) : Type 0 where
  pub courses : (d : Direction) → course d (gathered e a) ≡ course d a
  pub timers : (d : Direction) → ((flow d (gathered e a)).deadline ≡ (flow d a).deadline) × ((flow d (gathered e a)).extended ≡ (flow d a).extended)
  pub life : SameLife (gathered e a) a
  pub whole : (d : Direction) → is_given c (gathered e a) d ≡ is_given c a d

pub untold_of : (c : FilterConfig) (e : ViewEntry) (a : ExchangeAccount) → IsOfNoSide e → Untold c e a
untold_of c e a o = record {
  courses = λ d. ap (λ (f : Flow). f.course) (flow_same e a o d);
  timers = λ d. (ap (λ (f : Flow). f.deadline) (flow_same e a o d), ap (λ (f : Flow). f.extended) (flow_same e a o d));
  life = life_same e a o;
  whole = given_same c e a o;
}

-- What is left of an entry

pub flow_of : (c : FilterConfig) (e : ViewEntry) (a : ExchangeAccount) (d : Direction) → flow d (unsettled c e a) ≡ flow d (step c e a)
flow_of c e a Request = refl
flow_of c e a Response = refl

given_of : (c : FilterConfig) (e : ViewEntry) (a : ExchangeAccount) (d : Direction) → is_given c (unsettled c e a) d ≡ is_given c (step c e a) d
unfolding is_given
given_of c e a Request = refl
given_of c e a Response = refl

pub rest_of : (c : FilterConfig) (e : ViewEntry) (a : ExchangeAccount) → is_live a.fate ≡ true → SameRest (gathered e a) (unsettled c e a)
rest_of c e a l =
    let r : SameRest (gathered e a) (step c e a) = rest_stays c e a l in
    record { request = r.request; response = r.response; sent = r.sent; now = r.now; unopened = r.unopened; closed = r.closed }

-- once the processor isn't heard
pub idle_stays : (c : FilterConfig) (h : List Call) (e : ViewEntry) → IsHistory c (Stepped e ∷ h) → IsOfNoSide e → IsNoCut c e (account c h)
    → (is_released (account c h) ≡ true) ⊎ (is_finished c (account c h) ≡ true) → StaysTo c (gathered e (account c h)) (unsettled c e (account c h))
unfolding after
idle_stays c h e s o n r =
    let a : ExchangeAccount = account c h in
    let g : ExchangeAccount = gathered e a in
    let k : SameLife g a = life_same e a o in
    record {
      live = ap is_live k.1 ∙ n.live;
      told = λ d. ap (λ (f : Flow). known f.course) (flow_of c e a d) ∙ ap known (idle_told c h e s o n r d) ∙ sym (ap (λ (f : Flow). known f.course) (flow_same e a o d));
      timer = λ d i.
          ap (λ (f : Flow). f.deadline) (flow_of c e a d) ∙ (idle_timer c e a o n r d).0
          ∙ ap (λ b. if b then (flow d a).deadline else g.now + c.timeout_ms) (sym (ap (λ (f : Flow). not (is_empty (out f.course))) (flow_same e a o d)) ∙ i)
          ∙ sym (ap (λ (f : Flow). f.deadline) (flow_same e a o d));
      extended = λ d. ap (λ (f : Flow). f.extended) (flow_of c e a d) ∙ (idle_timer c e a o n r d).1 ∙ sym (ap (λ (f : Flow). f.extended) (flow_same e a o d));
      rest = rest_of c e a n.live;
      made = idle_made c h e s o n r ∙ sym k.0;
      fate = same_fate c e a n ∙ sym k.1;
      ending = sym k.2;
    }

-- A cut

cut_is : (c : FilterConfig) (e : ViewEntry) (a : ExchangeAccount) (k : Cut) → is_live a.fate ≡ true → is_departure e (gathered e a) ≡ false
    → cut c e (gathered e a) ≡ Some k → step c e a ≡ with_ending c (settled c (effect c k (settled c (gathered e a))))
unfolding step on under_cut
cut_is c e a k l j i =
    ap (step_if c e a) l ∙ ap (λ b. with_ending c (under_departure c e (gathered e a) b)) j
    ∙ ap (λ q. with_ending c (under_cut c e (gathered e a) q)) i

cut_made : (c : FilterConfig) (e : ViewEntry) (a : ExchangeAccount) (k : Cut) → is_live a.fate ≡ true → is_departure e (gathered e a) ≡ false
    → cut c e (gathered e a) ≡ Some k → (step c e a).made ≡ (gathered e a).made
unfolding with_ending settled effect
cut_made c e a k l j i = ap (λ (b : ExchangeAccount). b.made) (cut_is c e a k l j i)

settled_fate : (c : FilterConfig) (g : ExchangeAccount) → (settled c g).fate ≡ g.fate
unfolding settled
settled_fate c g = refl

settled_head : (c : FilterConfig) (g : ExchangeAccount) → (settled c g).response.course.head ≡ (committed c.course Response g.response.course).head
unfolding settled
settled_head c g = refl

-- that lets the rest pass
pub passes_so : (c : FilterConfig) (h : List Call) (e : ViewEntry) (k : Cut) → IsHistory c (Stepped e ∷ h) → IsOfNoSide e → IsOfProcessor e → is_live (account c h).fate ≡ true
    → is_departure e (gathered e (account c h)) ≡ false → cut c e (gathered e (account c h)) ≡ Some k → lets_pass c k ≡ true
    → PassesTo c (gathered e (account c h)) (unsettled c e (account c h))
unfolding after
passes_so c h e k s o p l j i y =
    let a : ExchangeAccount = account c h in
    let g : ExchangeAccount = gathered e a in
    let m : SameLife g a = life_same e a o in
    record {
      live = ap is_live m.1 ∙ l;
      told = λ d.
          ap (λ (f : Flow). known f.course) (flow_of c e a d)
          ∙ release_told c h e k s p (record { live = l; is = i; passes = y }) d
          ∙ sym (ap (λ (f : Flow). told c.course d (Release ∷ []) (known f.course)) (flow_same e a o d));
      timer = λ d. (
        ap (λ (f : Flow). f.deadline) (flow_of c e a d) ∙ (cut_timer_is c e a k l j i d).0 ∙ sym (ap (λ (f : Flow). f.deadline) (flow_same e a o d)),
        ap (λ (f : Flow). f.extended) (flow_of c e a d) ∙ (cut_timer_is c e a k l j i d).1 ∙ sym (ap (λ (f : Flow). f.extended) (flow_same e a o d)),
      );
      rest = rest_of c e a l;
      made = cut_made c e a k l j i;
      fate = cut_fate c e a k l j i
          ∙ ap (λ b. if b then (settled c g).fate else (if is_some (settled c g).response.course.head then Aborted else by_reply (reply_to k (is_to_head (settled c g))))) y
          ∙ settled_fate c g;
      ending = sym m.2;
    }

fate_ends : (b : Bool) (reply : List ℕ) → is_live (fate_by b reply) ≡ false
fate_ends true reply = refl
fate_ends false reply = refl

pub aborts : (b : Bool) → (if b then Aborted else Aborted) ≡ Aborted
aborts true = refl
aborts false = refl

-- that ends the exchange with this fate
pub untold_ends : (c : FilterConfig) (h : List Call) (e : ViewEntry) (k : Cut) (to : Fate) → IsHistory c (Stepped e ∷ h) → Untold c e (account c h) → is_live (account c h).fate ≡ true
    → is_departure e (gathered e (account c h)) ≡ false → cut c e (gathered e (account c h)) ≡ Some k → is_live to ≡ false
    → (step c e (account c h)).fate ≡ to → EndsTo c to (gathered e (account c h)) (unsettled c e (account c h))
unfolding after
untold_ends c h e k to s u l j i f y =
    let a : ExchangeAccount = account c h in
    record {
      live = ap is_live u.life.1 ∙ l;
      ends = f;
      fate = y;
      rest = rest_of c e a l;
      made = cut_made c e a k l j i;
      given = λ d. given_of c e a d ∙ ends_given c h e s l (ap is_live y ∙ f) d ∙ sym (u.whole d);
      ending = sym u.life.2;
      early = λ r. ap (λ (w : Course). w.head) (gathered_is Response e a) ∙ early_head c e a l (subst IsReplied (sym y) r);
    }

pub ends_at : (c : FilterConfig) (h : List Call) (e : ViewEntry) (k : Cut) (to : Fate) → IsHistory c (Stepped e ∷ h) → IsOfNoSide e → is_live (account c h).fate ≡ true
    → is_departure e (gathered e (account c h)) ≡ false → cut c e (gathered e (account c h)) ≡ Some k → is_live to ≡ false
    → (step c e (account c h)).fate ≡ to → EndsTo c to (gathered e (account c h)) (unsettled c e (account c h))
ends_at c h e k to s o l j i f y = untold_ends c h e k to s (untold_of c e (account c h) o) l j i f y

-- by a reply, or an abort
pub untold_replied : (c : FilterConfig) (h : List Call) (e : ViewEntry) (k : Cut) (reply : List ℕ) → IsHistory c (Stepped e ∷ h) → Untold c e (account c h) → is_live (account c h).fate ≡ true
    → is_departure e (gathered e (account c h)) ≡ false → cut c e (gathered e (account c h)) ≡ Some k → lets_pass c k ≡ false
    → reply_to k (is_to_head (settled c (gathered e (account c h)))) ≡ Some reply → EndsBy c reply (gathered e (account c h)) (unsettled c e (account c h))
untold_replied c h e k reply s u l j i y z =
    let a : ExchangeAccount = account c h in
    let g : ExchangeAccount = gathered e a in
    let committed_same : (committed c.course Response g.response.course) ≡ g.response.course =
    subst (λ w. committed c.course Response w ≡ w) (sym (u.courses Response)) (head_rests c h s.0 l Response) in
    untold_ends c h e k (fate_by (is_some (course Response g).head) reply) s u l j i (fate_ends (is_some (course Response g).head) reply)
    (cut_fate c e a k l j i
    ∙ ap (λ b. if b then (settled c g).fate else (if is_some (settled c g).response.course.head then Aborted else by_reply (reply_to k (is_to_head (settled c g))))) y
    ∙ ap (λ q. if is_some (settled c g).response.course.head then Aborted else by_reply q) z
    ∙ ap (λ q. if is_some q then Aborted else Replied reply) (settled_head c g ∙ ap (λ (w : Course). w.head) committed_same))

pub ends_replied : (c : FilterConfig) (h : List Call) (e : ViewEntry) (k : Cut) (reply : List ℕ) → IsHistory c (Stepped e ∷ h) → IsOfNoSide e → is_live (account c h).fate ≡ true
    → is_departure e (gathered e (account c h)) ≡ false → cut c e (gathered e (account c h)) ≡ Some k → lets_pass c k ≡ false
    → reply_to k (is_to_head (settled c (gathered e (account c h)))) ≡ Some reply → EndsBy c reply (gathered e (account c h)) (unsettled c e (account c h))
ends_replied c h e k reply s o l j i y z = untold_replied c h e k reply s (untold_of c e (account c h) o) l j i y z

-- The processor fails

pub record IsFailure (c : FilterConfig) (e : ViewEntry) (g : ExchangeAccount) (k : Cut) (status : ℕ) : Type 0 where
  pub side : IsOfNoSide e
  pub processor : IsOfProcessor e
  pub stays : is_departure e g ≡ false
  pub is : processor_cut c g e ≡ Some k
  pub peer : peer_cut c g e ≡ None
  pub passes : lets_pass c k ≡ c.failure_allow
  pub reply : (b : Bool) → reply_to k b ≡ Some (local_reply status)

pub cut_heard : (c : FilterConfig) (e : ViewEntry) (g : ExchangeAccount) (k : Cut) → processor_cut c g e ≡ Some k → is_finished c g ≡ false → is_released g ≡ false → cut c e g ≡ Some k
unfolding cut
cut_heard c e g k i f r =
    ap (λ b. cut_at b (is_released g) (processor_cut c g e) (over_cut c (answered c e g)) (peer_cut c g e)) f
    ∙ ap (λ b. cut_at false b (processor_cut c g e) (over_cut c (answered c e g)) (peer_cut c g e)) r
    ∙ ap (λ p. cut_at false false p (over_cut c (answered c e g)) (peer_cut c g e)) i

pub cut_finished : (c : FilterConfig) (e : ViewEntry) (g : ExchangeAccount) → is_finished c g ≡ true → cut c e g ≡ None
unfolding cut
cut_finished c e g f = ap (λ b. cut_at b (is_released g) (processor_cut c g e) (over_cut c (answered c e g)) (peer_cut c g e)) f

pub cut_unheard : (c : FilterConfig) (e : ViewEntry) (g : ExchangeAccount) → peer_cut c g e ≡ None → (is_released g ≡ true) ⊎ (is_finished c g ≡ true) → cut c e g ≡ None
unfolding cut
cut_unheard c e g p (inr f) = cut_finished c e g f
cut_unheard c e g p (inl r) = by (is_finished c g)
  where
    by : (b : Bool) → cut_at b (is_released g) (processor_cut c g e) (over_cut c (answered c e g)) (peer_cut c g e) ≡ None
    by true = refl
    by false = ap (λ x. cut_at false x (processor_cut c g e) (over_cut c (answered c e g)) (peer_cut c g e)) r ∙ p

pub fails_to : (c : FilterConfig) (h : List Call) (e : ViewEntry) (k : Cut) (status : ℕ) → IsHistory c (Stepped e ∷ h) → is_live (account c h).fate ≡ true
    → IsFailure c e (gathered e (account c h)) k status → is_finished c (gathered e (account c h)) ≡ false → is_released (gathered e (account c h)) ≡ false
    → FailsTo c status (gathered e (account c h)) (unsettled c e (account c h))
fails_to c h e k status s l x f r =
    let i = cut_heard c e (gathered e (account c h)) k x.is f r in
    record {
      passes = λ y. passes_so c h e k s x.side x.processor l x.stays i (x.passes ∙ y);
      ends = λ y. ends_replied c h e k (local_reply status) s x.side l x.stays i (x.passes ∙ y) (x.reply (is_to_head (settled c (gathered e (account c h)))));
    }

pub unheard_stays : (c : FilterConfig) (h : List Call) (e : ViewEntry) → IsHistory c (Stepped e ∷ h) → is_live (account c h).fate ≡ true → IsOfNoSide e
    → is_departure e (gathered e (account c h)) ≡ false → cut c e (gathered e (account c h)) ≡ None
    → (is_released (gathered e (account c h)) ≡ true) ⊎ (is_finished c (gathered e (account c h)) ≡ true)
    → StaysTo c (gathered e (account c h)) (unsettled c e (account c h))
unheard_stays c h e s l o j n q = idle_stays c h e s o (record { live = l; stays = j; none = n }) (before q)
  where
    before : (is_released (gathered e (account c h)) ≡ true) ⊎ (is_finished c (gathered e (account c h)) ≡ true) → (is_released (account c h) ≡ true) ⊎ (is_finished c (account c h) ≡ true)
    before (inl r) = inl (sym (released_same e (account c h) o) ∙ r)
    before (inr f) = inr (sym (finished_same c e (account c h) o) ∙ f)

pub fails_if_heard : (c : FilterConfig) (h : List Call) (e : ViewEntry) (k : Cut) (status : ℕ) → IsHistory c (Stepped e ∷ h) → is_live (account c h).fate ≡ true
    → IsFailure c e (gathered e (account c h)) k status → FailsIfHeard c status (gathered e (account c h)) (unsettled c e (account c h))
fails_if_heard c h e k status s l x = record {
  live = ap is_live (life_same e (account c h) x.side).1 ∙ l;
  heard = λ f r. fails_to c h e k status s l x f r;
  idle = λ q. unheard_stays c h e s l x.side x.stays (cut_unheard c e (gathered e (account c h)) x.peer q) q;
}
