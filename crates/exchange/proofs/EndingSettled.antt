-- How the stream is to be ended is settled behind an entry, and changes nothing else.
use Rattle.std.proofs.Common.{refl, sym, ◌∙◌, ap}
use Rattle.std.specs.Prelude.{ℕ, ◌≡◌, Bool, true, false, not, ◌||◌, List, Option, Some, None, is_some, if◌then◌else◌}
use Rattle.http_model.specs.Bytes.{is_empty}
use Rattle.http_model.specs.declared.types.Direction.{Direction}
use Rattle.http_model.specs.declared.types.Direction.TheVariants.{Request, Response}
use Rattle.filter_model.specs.Config.{FilterConfig}
use Rattle.filter_model.specs.Account.{ExchangeAccount, Fate, Live, Left, Replied, Aborted, is_finished, is_released}
use Rattle.filter_model.specs.Account as account
use Rattle.filter_model.specs.Step.{ending_by, ending_of, is_cut_off, is_live, with_ending}
use Rattle.exchange.specs.Stands.{AtRest, FlowTies, IsFate}
use Rattle.exchange.specs.declared.fate.Fate.{Fate as FateNow}
use Rattle.exchange.specs.declared.fate.Fate.TheVariants as fate
use Rattle.exchange.specs.declared.flow.Flow.{Flow}
use Rattle.exchange.specs.declared.exchange.Exchange.{Exchange}

pub cut_is : (closed : Option Bool) (b f : Bool) → closed ≡ None → b ≡ true → Some false ≡ ending_by closed b f
cut_is None true f e i = refl
cut_is None false f e i = absurd cc
cut_is (Some x) b f e i = absurd cc

pub finished_is : (closed : Option Bool) (b f : Bool) → closed ≡ None → b ≡ false → f ≡ true → Some true ≡ ending_by closed b f
finished_is None false true e i j = refl
finished_is None false false e i j = absurd cc
finished_is None true f e i j = absurd cc
finished_is (Some x) b f e i j = absurd cc

pub none_is : (closed : Option Bool) (b f : Bool) → closed ≡ None → b ≡ false → f ≡ false → None ≡ ending_by closed b f
none_is None false false e i j = refl
none_is None false true e i j = absurd cc
none_is None true f e i j = absurd cc
none_is (Some x) b f e i j = absurd cc

-- an exchange that isn't cut off lives
pub still_live : (a : ExchangeAccount) → is_cut_off a ≡ false → is_live a.fate ≡ true
still_live a e = by (is_released a) (is_live a.fate) e
  where
    by : (r l : Bool) → (r || not l) ≡ false → l ≡ true
    by false true e = refl
    by false false e = absurd cc
    by true l e = absurd cc

-- where none was settled, an ask was made and the stream could be opened, it is as it is due
pub ending_is : (c : FilterConfig) (a : ExchangeAccount) (n : ℕ) (ends : List Bool) (x : Exchange) (e : Option Bool) → AtRest c a n ends x
    → is_some x.stream.ending ≡ false → x.stream.asked ≡ true → x.stream.unopened ≡ false → e ≡ ending_by a.closed (is_cut_off a) (is_finished c a) → e ≡ ending_of c a
ending_is c a n ends x e t i j k l =
    l ∙ by (is_some a.ending) (is_empty a.made) a.unopened (ap is_some (sym t.stream.ending) ∙ i) (twice (is_empty a.made) (sym t.stream.asked ∙ j)) (sym t.stream.unopened ∙ k)
  where
    twice : (b : Bool) → not b ≡ true → b ≡ false
    twice false e = refl
    twice true e = absurd cc

    by : (p q r : Bool) → p ≡ false → q ≡ false → r ≡ false → ending_by a.closed (is_cut_off a) (is_finished c a)
        ≡ (if p || q || r then a.ending else ending_by a.closed (is_cut_off a) (is_finished c a))
    by false false false u v w = refl
    by false false true u v w = absurd cc
    by false true r u v w = absurd cc
    by true q r u v w = absurd cc

-- nothing of a direction changes

flow_same : (c : FilterConfig) (d : Direction) (a : ExchangeAccount) (k : ℕ) (w : Option ℕ) (x : Flow) → FlowTies c d a a k w x → FlowTies c d (with_ending c a) (with_ending c a) k w x
unfolding with_ending
flow_same c Request a k w x t = record {
  story = t.story;
  stands = t.stands;
  config = t.config;
  way = t.way;
  source = t.source;
  front = t.front;
  given = t.given;
  reply = t.reply;
  handed_on = t.handed_on;
  told = t.told;
  asks = t.asks;
  lost = t.lost;
  timer = t.timer;
  extended = t.extended;
}
flow_same c Response a k w x t = record {
  story = t.story;
  stands = t.stands;
  config = t.config;
  way = t.way;
  source = t.source;
  front = t.front;
  given = t.given;
  reply = t.reply;
  handed_on = t.handed_on;
  told = t.told;
  asks = t.asks;
  lost = t.lost;
  timer = t.timer;
  extended = t.extended;
}

fate_same : (c : FilterConfig) (a : ExchangeAccount) (f : Fate) (x : FateNow) → IsFate c a f x → IsFate c (with_ending c a) f x
unfolding with_ending Rattle.filter_model.specs.Account.account_rules
fate_same c a Live fate.Live t = t
fate_same c a Left fate.Left t = t
fate_same c a (Replied r) (fate.Replied g) t = record { request = t.request; response = t.response }
fate_same c a Aborted (fate.Aborted g) t = record { request = t.request; response = t.response }
fate_same c a Live fate.Left t = absurd t
fate_same c a Live (fate.Replied g) t = absurd t
fate_same c a Live (fate.Aborted g) t = absurd t
fate_same c a Left fate.Live t = absurd t
fate_same c a Left (fate.Replied g) t = absurd t
fate_same c a Left (fate.Aborted g) t = absurd t
fate_same c a (Replied r) fate.Live t = absurd t
fate_same c a (Replied r) fate.Left t = absurd t
fate_same c a (Replied r) (fate.Aborted g) t = absurd t
fate_same c a Aborted fate.Live t = absurd t
fate_same c a Aborted fate.Left t = absurd t
fate_same c a Aborted (fate.Replied g) t = absurd t

abbrev with_end : Option Bool → Exchange → Exchange
with_end e x = record x { stream = record x.stream { ending = e } }

pub settled_ending : (c : FilterConfig) (a : ExchangeAccount) (n : ℕ) (ends : List Bool) (x : Exchange) (e : Option Bool) → AtRest c a n ends x → e ≡ ending_of c a
    → AtRest c (with_ending c a) n ends (with_end e x)
unfolding with_ending
settled_ending c a n ends x e t i = record {
  request = flow_same c Request a _ x.waiting x.request t.request;
  response = flow_same c Response a _ x.waiting x.response t.response;
  order = t.order;
  unsent = t.unsent;
  within = t.within;
  ready = t.ready;
  now = t.now;
  to_head = t.to_head;
  fate = fate_same c a a.fate x.fate t.fate;
  waiting = t.waiting;
  stream = record { asked = t.stream.asked; unopened = t.stream.unopened; closed = t.stream.closed; ending = i; ended = t.stream.ended };
  alone = t.alone;
}
