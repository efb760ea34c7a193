-- An exchange that met a line, or was opened, was told events at most, and they tell nothing.
use Rattle.std.proofs.Common.{refl, sym, ◌∙◌, ap, subst, append-nil}
use Rattle.std.proofs.lemmas.List.Elements.{filter_map-append}
use Rattle.std.specs.Prelude.{ℕ, ◌≡◌, List, [], ◌∷◌, ◌++◌, Option, Some, None, false, is_some, filter_map, reverse}
use Rattle.filter_model.specs.Config.{FilterConfig}
use Rattle.filter_model.specs.Right.{Call, IsReady, Stepped, ask_given, end_given}
use Rattle.filter_model.specs.View.{ViewEntry, Lost, Closed, Tick}
use Rattle.filter_model.specs.declared.calls.Loss.TheVariants.{NoDial, Broken}
use Rattle.filter_model.specs.declared.calls.Side.{Side}
use Rattle.filter_model.specs.declared.calls.Side.TheVariants.{Client, Upstream}
use Rattle.exchange.specs.Stands.{IsAfter}
use Rattle.trace_format.specs.declared.line.TraceLine.{TraceLine}
use Rattle.trace_format.specs.declared.line.TraceLine.TheVariants as line
use Rattle.trace_model.specs.Lines.{asks_given, bytes_for, end_for, first_end, or_then, piece_for, stream_end}
use Rattle.trace_model.specs.Links.{ExchangeState, answered_by, arrived, idle_link, opened_at, told_time}
use Rattle.trace_player.specs.Ties.{IsTied, YetToTell, RestTied, SameOvers, Tells, link_of}
use Rattle.trace_player.specs.declared.brought.Brought.{Brought}
use Rattle.trace_player.specs.declared.opened.Opened.{Opened}

bytes_behind : (s : Side) (e : ViewEntry) → piece_for s (Stepped e) ≡ [] → (h : List Call) → bytes_for s (h ++ Stepped e ∷ []) ≡ bytes_for s h
bytes_behind s e p [] = p
bytes_behind s e p (x ∷ h) = ap (λ l. l ++ piece_for s x) (bytes_behind s e p h)

ends_behind : (s : Side) (e : ViewEntry) → end_for s (Stepped e) ≡ None → (h : List Call) → first_end s (h ++ Stepped e ∷ []) ≡ first_end s h
ends_behind s e p [] = p
ends_behind s e p (x ∷ h) = ap (λ o. or_then o (end_for s x)) (ends_behind s e p h)

stream_behind : (e : ViewEntry) (h : List Call) → stream_end (h ++ Stepped e ∷ []) ≡ stream_end h
stream_behind e [] = refl
stream_behind e (x ∷ h) = ap (λ o. or_then o (end_given x)) (stream_behind e h)

asks_behind : (e : ViewEntry) (h : List Call) → asks_given (h ++ Stepped e ∷ []) ≡ asks_given h
asks_behind e h = ap (λ l. reverse l) (filter_map-append ask_given h (Stepped e ∷ []) ∙ append-nil (filter_map ask_given h))

event_behind : (e : ViewEntry) (b : Brought) (later : List Call) → Tells later b → Tells (later ++ Stepped e ∷ []) b
event_behind e b h k = record {
  to_client = k.to_client ∙ sym (bytes_behind Client e refl h);
  to_up = k.to_up ∙ sym (bytes_behind Upstream e refl h);
  asks = k.asks ∙ sym (asks_behind e h);
  ending = k.ending ∙ sym (stream_behind e h);
  client_end = k.client_end ∙ sym (ends_behind Client e refl h);
  up_end = k.up_end ∙ sym (ends_behind Upstream e refl h);
}

none_behind : (b : Brought) (later : List Call) → Tells later b → Tells (later ++ []) b
none_behind b h k = subst (λ l. Tells l b) (sym (append-nil h)) k

-- A new exchange

time_behind : (clock : Option ℕ) (b : Brought) (later : List Call) → Tells later b → Tells (later ++ told_time clock) b
time_behind None b h k = none_behind b h k
time_behind (Some now) b h k = event_behind (Tick now) b h k

client_over : (clock : Option ℕ) → first_end Client (told_time clock) ≡ None
client_over None = refl
client_over (Some now) = refl

up_over : (clock : Option ℕ) → first_end Upstream (told_time clock) ≡ None
up_over None = refl
up_over (Some now) = refl

time_ready : (clock : Option ℕ) → IsReady (told_time clock)
time_ready None = tt
time_ready (Some now) = tt

pub new_rest : (c : FilterConfig) (clock : Option ℕ) (x : Opened) → IsAfter c (told_time clock) x.exchange → link_of x.client ≡ idle_link → link_of x.up ≡ idle_link
    → x.client.over ≡ false → x.up.over ≡ false → x.reached ≡ false → RestTied c (opened_at clock) x
new_rest c clock x a client up no_client no_up unreached = record {
  tied = record { after = a; ready = time_ready clock; client = sym client; up = sym up; reached = sym unreached };
  ends = record { client = no_client ∙ sym (ap is_some (client_over clock)); up = no_up ∙ sym (ap is_some (up_over clock)) };
}

pub may_open : (c : FilterConfig) (clock : Option ℕ) (x : Opened) → RestTied c (opened_at clock) x → YetToTell c [] (opened_at clock) x
may_open c clock x r = record {
  tied = r.tied;
  ends = record { client = r.ends.client ∙ ap is_some (client_over clock); up = r.ends.up ∙ ap is_some (up_over clock) };
  calls = told_time clock;
  since = sym (append-nil (told_time clock));
  silent = time_behind clock;
}

-- A line

record IsMet (before after : List Call) : Type 0 where
  pub calls : List Call
  pub since : after ≡ calls ++ before
  pub silent : (b : Brought) (later : List Call) → Tells later b → Tells (later ++ calls) b

nothing_met : (h : List Call) → IsMet h h
nothing_met h = record { calls = []; since = refl; silent = none_behind }

event_met : (e : ViewEntry) (h : List Call) → IsMet h (Stepped e ∷ h)
event_met e h = record { calls = Stepped e ∷ []; since = refl; silent = event_behind e }

line_met : (c : FilterConfig) (l : TraceLine) (m : ExchangeState) → IsMet m.calls (arrived c l m).calls
unfolding arrived
line_met c (line.Client n bytes) m = nothing_met m.calls
line_met c (line.Up n bytes) m = nothing_met m.calls
line_met c (line.ClientEnd n) m = nothing_met m.calls
line_met c (line.UpEnd n) m = nothing_met m.calls
line_met c (line.HoldClient n) m = nothing_met m.calls
line_met c (line.HoldUp n) m = nothing_met m.calls
line_met c (line.FreeClient n) m = nothing_met m.calls
line_met c (line.FreeUp n) m = nothing_met m.calls
line_met c (line.First v) m = nothing_met m.calls
line_met c (line.Config text) m = nothing_met m.calls
line_met c line.Open m = nothing_met m.calls
line_met c (line.Ext bytes) m = nothing_met m.calls
line_met c line.ExtEnd m = nothing_met m.calls
line_met c line.ExtLost m = nothing_met m.calls
line_met c line.HoldExt m = nothing_met m.calls
line_met c line.FreeExt m = nothing_met m.calls
line_met c line.Stop m = nothing_met m.calls
line_met c (line.ClientLost n) m = event_met (Lost Client Broken) m.calls
line_met c (line.UpLost n) m = event_met (Lost Upstream Broken) m.calls
line_met c (line.UpNoDial n) m = event_met (Lost Upstream NoDial) m.calls
line_met c (line.Answer n bytes) m = event_met (answered_by c bytes) m.calls
line_met c (line.Close n clean) m = event_met (Closed clean) m.calls
line_met c (line.Tick now) m = event_met (Tick now) m.calls

pub may_meet : (c : FilterConfig) (m : ExchangeState) (l : TraceLine) (x y : Opened) → RestTied c m x → IsTied c (arrived c l m) y → SameOvers x y → YetToTell c m.calls (arrived c l m) y
may_meet c m l x y r t o = record {
  tied = t;
  ends = record { client = o.client ∙ r.ends.client; up = o.up ∙ r.ends.up };
  calls = (line_met c l m).calls;
  since = (line_met c l m).since;
  silent = (line_met c l m).silent;
}
