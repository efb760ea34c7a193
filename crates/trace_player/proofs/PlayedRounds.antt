-- What the steps of a round leave, and rounds one behind another.
use Rattle.std.proofs.Common.{refl, sym, ◌∙◌, ap, subst, append_assoc}
use Rattle.std.proofs.lemmas.List.Elements.{All-nil}
use Rattle.std.specs.Prelude.{ℕ, ◌≡◌, Bool, true, false, not, ◌||◌, List, [], ◌∷◌, ◌++◌, Option, Some, None, is_some}
use Rattle.http_model.specs.Bytes.{is_empty}
use Rattle.filter_model.specs.Config.{FilterConfig}
use Rattle.filter_model.specs.Right.{Call, Stepped, Nexted, IsReady}
use Rattle.filter_model.specs.View.{ViewEntry, Bytes, End, Lost, Answered, TooLong, Closed, NoStream, Tick, Starved, Sent, Given}
use Rattle.filter_model.specs.declared.calls.Next.TheVariants as next
use Rattle.filter_model.specs.declared.calls.Side.{Side}
use Rattle.filter_model.specs.declared.calls.Side.TheVariants.{Client, Upstream}
use Rattle.filter_model.specs.declared.calls.Taken.TheVariants as taken
use Rattle.exchange.specs.Stands.{IsAfter}
use Rattle.trace_model.proofs.Histories.{history_of}
use Rattle.trace_model.specs.Lines.{end_of, or_then}
use Rattle.trace_model.specs.Links.{ExchangeState, LinkState}
use Rattle.trace_model.specs.Rounds.{IsRound, Plays, Round, Taking, calls_fed, calls_taken, drained, fed, feed_of, gives, is_busy, is_short, link_fed, stream_gave}
use Rattle.trace_player.specs.Ties.{Adds, HasDrained, HasPlayed, HasPlayedOnce, HasStreamed, HasTaken, IsStreamed, IsTied, Tells, held_in, link_of, with_calls}
use Rattle.trace_player.specs.declared.brought.Brought.{Brought}
use Rattle.trace_player.specs.declared.draining.Drained.{Drained}
use Rattle.trace_player.specs.declared.opened.Opened.{Opened}
use Rattle.trace_player.proofs.PlayedTells.{client_tells, event_tells, stream_front, stream_tells, taken_front, up_tells}

-- Calls behind calls

adds_none : (h : List Call) (b : Brought) → Adds h h b b
adds_none h b = record { calls = []; since = refl; tells = λ before k. k }

adds_then : (h i j : List Call) (a b d : Brought) → Adds h i a b → Adds i j b d → Adds h j a d
adds_then h i j a b d p q = record {
  calls = q.calls ++ p.calls;
  since = q.since ∙ ap (λ l. q.calls ++ l) p.since ∙ sym (append_assoc q.calls p.calls h);
  tells = λ before k. subst (λ l. Tells l d) (sym (append_assoc q.calls p.calls before)) (q.tells (p.calls ++ before) (p.tells before k));
}

adds_fed : (o : Option ViewEntry) (h : List Call) (b : Brought) → Adds h (calls_fed o h) b b
adds_fed None h b = adds_none h b
adds_fed (Some e) h b = record { calls = Stepped e ∷ []; since = refl; tells = λ before k. event_tells e before b k }

-- Nothing is taken from a port that is held

pub held_taken : (c : FilterConfig) (s : Side) (m : ExchangeState) (x : Opened) (b : Brought) → IsTied c m x → held_in s m ≡ true → HasTaken c s m x b b false
held_taken c s m x b t e = record {
  taking = record { pieces = []; last = taken.Nothing };
  is_taking = record { short = All-nil is_short; ends = refl };
  tied = subst (λ k. IsTied c (with_calls (calls_taken k s (record { pieces = []; last = taken.Nothing }) m.calls) m) x) (sym e) t;
  adds = subst (λ k. Adds m.calls (calls_taken k s (record { pieces = []; last = taken.Nothing }) m.calls) b b) (sym e) (adds_none m.calls b);
  gives = sym (ap (λ k. gives k (record { pieces = []; last = taken.Nothing })) e);
}

-- and what a port gave that isn't

pub client_taken : (c : FilterConfig) (m : ExchangeState) (x y : Opened) (b d : Brought) (r : Drained) → IsTied c m x → x.client.held ≡ false
    → HasDrained c Client m.calls b.to_client.items r d.to_client.items y.exchange → y.client ≡ x.client → y.up ≡ x.up → y.reached ≡ x.reached
    → d.to_up.items ≡ b.to_up.items → d.asks.items ≡ b.asks.items → d.ending ≡ b.ending → d.client_end ≡ or_then b.client_end (end_of r.last) → d.up_end ≡ b.up_end
    → HasTaken c Client m y b d r.some
client_taken c m x y b d r t e k client up reached to_up asks ending client_end up_end =
    let free : m.client.held ≡ false = ap (λ l. l.held) t.client ∙ e in
    record {
      taking = k.taking;
      is_taking = k.is_taking;
      tied = subst (λ o. IsTied c (with_calls (calls_taken o Client k.taking m.calls) m) y) (sym free) (record {
        after = k.after;
        ready = tt;
        client = t.client ∙ ap link_of (sym client);
        up = t.up ∙ ap link_of (sym up);
        reached = t.reached ∙ sym reached;
      });
      adds = subst (λ o. Adds m.calls (calls_taken o Client k.taking m.calls) b d) (sym free) (record {
        calls = calls_taken false Client k.taking [];
        since = taken_front false Client k.taking m.calls;
        tells = λ before told. subst (λ l. Tells l d) (taken_front false Client k.taking before)
            (client_tells k.taking before b d k.is_taking.ends told k.got to_up asks ending (client_end ∙ ap (λ o. or_then b.client_end (end_of o)) k.last) up_end);
      });
      gives = k.some ∙ ap (λ o. gives o k.taking) (sym free);
    }

pub up_taken : (c : FilterConfig) (m : ExchangeState) (x y : Opened) (b d : Brought) (r : Drained) → IsTied c m x → x.up.held ≡ false
    → HasDrained c Upstream m.calls b.to_up.items r d.to_up.items y.exchange → y.client ≡ x.client → y.up ≡ x.up → y.reached ≡ x.reached
    → d.to_client.items ≡ b.to_client.items → d.asks.items ≡ b.asks.items → d.ending ≡ b.ending → d.up_end ≡ or_then b.up_end (end_of r.last) → d.client_end ≡ b.client_end
    → HasTaken c Upstream m y b d r.some
up_taken c m x y b d r t e k client up reached to_client asks ending up_end client_end =
    let free : m.up.held ≡ false = ap (λ l. l.held) t.up ∙ e in
    record {
      taking = k.taking;
      is_taking = k.is_taking;
      tied = subst (λ o. IsTied c (with_calls (calls_taken o Upstream k.taking m.calls) m) y) (sym free) (record {
        after = k.after;
        ready = tt;
        client = t.client ∙ ap link_of (sym client);
        up = t.up ∙ ap link_of (sym up);
        reached = t.reached ∙ sym reached;
      });
      adds = subst (λ o. Adds m.calls (calls_taken o Upstream k.taking m.calls) b d) (sym free) (record {
        calls = calls_taken false Upstream k.taking [];
        since = taken_front false Upstream k.taking m.calls;
        tells = λ before told. subst (λ l. Tells l d) (taken_front false Upstream k.taking before)
            (up_tells k.taking before b d k.is_taking.ends told k.got to_client asks ending (up_end ∙ ap (λ o. or_then b.up_end (end_of o)) k.last) client_end);
      });
      gives = k.some ∙ ap (λ o. gives o k.taking) (sym free);
    }

-- The stream

pub streamed : (c : FilterConfig) (m : ExchangeState) (x y : Opened) (b d : Brought) (asks : List (List ℕ)) (ending : Option Bool) (some : Bool) → IsTied c m x
    → (k : HasStreamed c m.calls asks ending y.exchange) → y.client ≡ x.client → y.up ≡ x.up → y.reached ≡ x.reached
    → d.to_client.items ≡ b.to_client.items → d.to_up.items ≡ b.to_up.items → d.asks.items ≡ b.asks.items ++ asks
    → d.ending ≡ or_then b.ending ending → d.client_end ≡ b.client_end → d.up_end ≡ b.up_end → some ≡ not (is_empty k.nexts)
    → IsStreamed c m y b d some
streamed c m x y b d asks ending some t k client up reached to_client to_up asked ended client_end up_end gives = record {
  nexts = k.nexts;
  due = k.due;
  tied = record {
    after = k.after;
    ready = tt;
    client = t.client ∙ ap link_of (sym client);
    up = t.up ∙ ap link_of (sym up);
    reached = t.reached ∙ sym reached;
  };
  adds = record {
    calls = Nexted next.Nothing ∷ stream_gave k.nexts [];
    since = ap (λ l. Nexted next.Nothing ∷ l) (stream_front k.nexts [] m.calls);
    tells = λ before told. subst (λ l. Tells (Nexted next.Nothing ∷ l) d) (stream_front k.nexts [] before)
        (stream_tells c k.nexts m.calls before b d (history_of c (Nexted next.Nothing ∷ stream_gave k.nexts m.calls) y.exchange k.after).0 told to_client to_up
        (asked ∙ ap (λ l. b.asks.items ++ l) k.asked) (ended ∙ ap (λ o. or_then b.ending o) k.ended) client_end up_end);
  };
  gives = gives;
}

-- A round

still_held : (o : Option ViewEntry) (k : LinkState) → (link_fed o k).held ≡ k.held
still_held None k = refl
still_held (Some (Bytes s bytes)) k = refl
still_held (Some (End s)) k = refl
still_held (Some (Lost s how)) k = refl
still_held (Some (Answered a)) k = refl
still_held (Some TooLong) k = refl
still_held (Some (Closed clean)) k = refl
still_held (Some NoStream) k = refl
still_held (Some (Tick now)) k = refl
still_held (Some Starved) k = refl
still_held (Some Sent) k = refl
still_held (Some (Given s bytes)) k = refl

pub ready_fed : (o : Option ViewEntry) (h : List Call) → IsReady h → IsReady (calls_fed o h)
ready_fed None h r = r
ready_fed (Some e) h r = tt

-- the state that an exchange stands for, by its calls

abbrev pub state_with : List Call → LinkState → LinkState → Bool → ExchangeState
state_with h client up reached = record { calls = h; client = client; up = up; reached = reached }

abbrev pub state_of : List Call → Opened → ExchangeState
state_of h x = state_with h (link_of x.client) (link_of x.up) x.reached

pub state_is : (c : FilterConfig) (m : ExchangeState) (x : Opened) → IsTied c m x → state_of m.calls x ≡ m
state_is c m x t =
    ap (λ l. state_with m.calls l (link_of x.up) x.reached) (sym t.client)
    ∙ ap (λ l. state_with m.calls m.client l x.reached) (sym t.up) ∙ ap (λ o. state_with m.calls m.client m.up o) (sym t.reached)

-- the calls once both links were fed
abbrev pub both_fed : FilterConfig → List Call → Opened → List Call
both_fed c h x =
    let first : List Call = calls_fed (feed_of c Client h (link_of x.client)) h in
    calls_fed (feed_of c Upstream first (link_of x.up)) first

pub fed_tied : (c : FilterConfig) (h : List Call) (x y : Opened) → IsReady h → IsAfter c (both_fed c h x) y.exchange
    → link_of y.client ≡ link_fed (feed_of c Client h (link_of x.client)) (link_of x.client)
    → link_of y.up ≡ link_fed (feed_of c Upstream (calls_fed (feed_of c Client h (link_of x.client)) h) (link_of x.up)) (link_of x.up)
    → y.reached ≡ x.reached → IsTied c (fed c (state_of h x)) y
unfolding fed
fed_tied c h x y r a client up reached = record {
  after = a;
  ready = ready_fed (feed_of c Upstream (calls_fed (feed_of c Client h (link_of x.client)) h) (link_of x.up)) (calls_fed (feed_of c Client h (link_of x.client)) h)
      (ready_fed (feed_of c Client h (link_of x.client)) h r);
  client = sym client;
  up = sym up;
  reached = sym reached;
}

-- the calls of the steps that follow
abbrev pub client_state : (s : ExchangeState) → Taking → ExchangeState
client_state m t = with_calls (calls_taken (held_in Client m) Client t m.calls) m

abbrev pub up_state : (s : ExchangeState) → Taking → ExchangeState
up_state m t = with_calls (calls_taken (held_in Upstream m) Upstream t m.calls) m

pub played_once : (c : FilterConfig) (h : List Call) (x x1 x2 x3 : Opened) (b b1 b2 b3 : Brought) (fed_client fed_up some_client some_up some_next some : Bool)
    → fed_client ≡ is_some (feed_of c Client h (link_of x.client))
    → fed_up ≡ is_some (feed_of c Upstream (calls_fed (feed_of c Client h (link_of x.client)) h) (link_of x.up))
    → (k1 : HasTaken c Client (fed c (state_of h x)) x1 b b1 some_client)
    → (k2 : HasTaken c Upstream (client_state (fed c (state_of h x)) k1.taking) x2 b1 b2 some_up)
    → IsStreamed c (up_state (client_state (fed c (state_of h x)) k1.taking) k2.taking) x3 b2 b3 some_next
    → some ≡ fed_client || fed_up || some_client || some_up || some_next → HasPlayedOnce c (state_of h x) x3 b b3 some
unfolding fed drained
played_once c h x x1 x2 x3 b b1 b2 b3 fed_client fed_up some_client some_up some_next some e f k1 k2 k3 g =
    let o1 : Option ViewEntry = feed_of c Client h (link_of x.client) in
    let h1 : List Call = calls_fed o1 h in
    let o2 : Option ViewEntry = feed_of c Upstream h1 (link_of x.up) in
    let h2 : List Call = calls_fed o2 h1 in
    let m : ExchangeState = fed c (state_of h x) in
    let h3 : List Call = calls_taken (held_in Client m) Client k1.taking h2 in
    let h4 : List Call = calls_taken (held_in Upstream m) Upstream k2.taking h3 in
    let h5 : List Call = Nexted next.Nothing ∷ stream_gave k3.nexts h4 in
    let gives1 : some_client ≡ gives x.client.held k1.taking = k1.gives ∙ ap (λ o. gives o k1.taking) (still_held o1 (link_of x.client)) in
    let gives2 : some_up ≡ gives x.up.held k2.taking = k2.gives ∙ ap (λ o. gives o k2.taking) (still_held o2 (link_of x.up)) in
    let gives3 : some_next ≡ not (is_empty k3.nexts) = k3.gives in
    record {
      round = record { client = k1.taking; up = k2.taking; nexts = k3.nexts };
      is_round = record { client = k1.is_taking; up = k2.is_taking; nexts = k3.due };
      tied = k3.tied;
      adds = adds_then h h2 h5 b b b3 (adds_then h h1 h2 b b b (adds_fed o1 h b) (adds_fed o2 h1 b))
          (adds_then h2 h3 h5 b b1 b3 k1.adds (adds_then h3 h4 h5 b1 b2 b3 k2.adds k3.adds));
      busy = g ∙ rw (e, f, gives1, gives2, gives3) refl;
    }

-- Rounds

abbrev pub PlaysSome : FilterConfig → ExchangeState → ExchangeState → Type 0
PlaysSome c x y = (rounds : List Round) × (is_empty rounds ≡ false) × Plays c rounds x y

-- rounds were played that did something, and more follow
pub record HasBegun (c : FilterConfig) (m : ExchangeState) (x : Opened) (b : Brought) : Type 0 where
  pub now : ExchangeState
  pub onward : (y : ExchangeState) → PlaysSome c now y → PlaysSome c m y
  pub tied : IsTied c now x
  pub calls : List Call
  pub since : now.calls ≡ calls ++ m.calls
  pub tells : Tells calls b

round_before : (c : FilterConfig) (m y : ExchangeState) (r : Round) (rounds : List Round) → IsRound r → is_busy c r m ≡ true → is_empty rounds ≡ false → Plays c rounds (drained r (fed c m)) y → PlaysSome c m y
round_before c m y r rounds i e f p = (r ∷ rounds, refl, (i, rw e f, p))

last_round : (c : FilterConfig) (m : ExchangeState) (r : Round) → IsRound r → is_busy c r m ≡ false → PlaysSome c m (drained r (fed c m))
last_round c m r i e = (r ∷ [], refl, (i, rw e refl, refl))

pub plays_on : (c : FilterConfig) (m : ExchangeState) (x y : Opened) (b d : Brought) → (k : HasBegun c m x b) → HasPlayedOnce c k.now y b d true → HasBegun c m y d
plays_on c m x y b d k p = record {
  now = drained p.round (fed c k.now);
  onward = λ z q. k.onward z (round_before c k.now z p.round q.0 p.is_round (sym p.busy) q.1 q.2);
  tied = p.tied;
  calls = p.adds.calls ++ k.calls;
  since = p.adds.since ∙ ap (λ l. p.adds.calls ++ l) k.since ∙ sym (append_assoc p.adds.calls k.calls m.calls);
  tells = p.adds.tells k.calls k.tells;
}

pub plays_out : (c : FilterConfig) (m : ExchangeState) (x y : Opened) (b d : Brought) → (k : HasBegun c m x b) → HasPlayedOnce c k.now y b d false → HasPlayed c m y d
plays_out c m x y b d k p =
    let q : PlaysSome c m (drained p.round (fed c k.now)) = k.onward (drained p.round (fed c k.now)) (last_round c k.now p.round p.is_round (sym p.busy)) in
    record {
      rounds = q.0;
      some = q.1;
      after = drained p.round (fed c k.now);
      plays = q.2;
      tied = p.tied;
      calls = p.adds.calls ++ k.calls;
      since = p.adds.since ∙ ap (λ l. p.adds.calls ++ l) k.since ∙ sym (append_assoc p.adds.calls k.calls m.calls);
      tells = p.adds.tells k.calls k.tells;
    }
