-- What lines alone say of where a trace is.
use Rattle.std.proofs.Common.{refl, ap, sym, ◌∙◌}
use Rattle.std.proofs.lemmas.List.{map-append}
use Rattle.std.specs.Prelude.{ℕ, ◌≡◌, ◌+◌, Bool, true, false, ◌||◌, ◌==◌, List, [], ◌∷◌, ◌++◌, length, map, Option, None, Some, if◌then◌else◌, nat_le}
use Rattle.filter_model.specs.Config.{FilterConfig}
use Rattle.trace_format.specs.declared.line.TraceLine.{TraceLine}
use Rattle.trace_format.specs.declared.line.TraceLine.TheVariants as line
use Rattle.trace_format.specs.declared.out.OutLine.{OutLine}
use Rattle.trace_model.specs.Links.{ExchangeState, arrived, filter_of, opened_at}
use Rattle.trace_model.specs.Places.{AllGo, ConfigLeads, Ended, Events, First, GoesIf, Leads, LeadsOn, Opens, Place, Second, TraceState, is_about, is_full, ticked}
use Rattle.trace_model.specs.Rounds.{Plays, Round, drained, fed}
use Rattle.trace_model.specs.Verdicts.{AtEvents, AtSecond, LeadsAs, TextLeads, is_reaching, next_shape, reached_by, reaches, shape_after, shape_by, shape_by_config, shape_of}
use Rattle.trace_format.specs.Lines.{line_of}

abbrev was_reached : ExchangeState → Bool
was_reached x = x.reached

or_false : (b : Bool) → (b || false) ≡ b
or_false true = refl
or_false false = refl

or_true : (b t : Bool) → t ≡ true → true ≡ (b || t)
or_true true t e = refl
or_true false t e = sym e

-- One exchange

played_reached : (c : FilterConfig) (rounds : List Round) (x y : ExchangeState) → Plays c rounds x y → y.reached ≡ x.reached
unfolding drained fed
played_reached c [] x y p = ap was_reached p
played_reached c (r ∷ rounds) x y p = played_reached c rounds (drained r (fed c x)) y p.2

arrived_reached : (c : FilterConfig) (l : TraceLine) (x : ℕ) (e : ExchangeState) → is_about l x ≡ true → (arrived c l e).reached ≡ (e.reached || is_reaching l x)
unfolding arrived
arrived_reached c (line.Up n bytes) x e i = or_true e.reached (n == x) i
arrived_reached c (line.First bytes) x e i = sym (or_false e.reached)
arrived_reached c (line.Config text) x e i = sym (or_false e.reached)
arrived_reached c line.Open x e i = sym (or_false e.reached)
arrived_reached c (line.Client n bytes) x e i = sym (or_false e.reached)
arrived_reached c (line.ClientEnd n) x e i = sym (or_false e.reached)
arrived_reached c (line.UpEnd n) x e i = sym (or_false e.reached)
arrived_reached c (line.ClientLost n) x e i = sym (or_false e.reached)
arrived_reached c (line.UpLost n) x e i = sym (or_false e.reached)
arrived_reached c (line.UpNoDial n) x e i = sym (or_false e.reached)
arrived_reached c (line.Answer n bytes) x e i = sym (or_false e.reached)
arrived_reached c (line.Close n clean) x e i = sym (or_false e.reached)
arrived_reached c (line.Ext bytes) x e i = sym (or_false e.reached)
arrived_reached c line.ExtEnd x e i = sym (or_false e.reached)
arrived_reached c line.ExtLost x e i = sym (or_false e.reached)
arrived_reached c (line.Tick n) x e i = sym (or_false e.reached)
arrived_reached c (line.HoldClient n) x e i = sym (or_false e.reached)
arrived_reached c (line.HoldUp n) x e i = sym (or_false e.reached)
arrived_reached c line.HoldExt x e i = sym (or_false e.reached)
arrived_reached c (line.FreeClient n) x e i = sym (or_false e.reached)
arrived_reached c (line.FreeUp n) x e i = sym (or_false e.reached)
arrived_reached c line.FreeExt x e i = sym (or_false e.reached)
arrived_reached c line.Stop x e i = sym (or_false e.reached)

not_reaching : (l : TraceLine) (x : ℕ) → is_about l x ≡ false → is_reaching l x ≡ false
not_reaching (line.Up n bytes) x i = i
not_reaching (line.First bytes) x i = refl
not_reaching (line.Config text) x i = refl
not_reaching line.Open x i = refl
not_reaching (line.Client n bytes) x i = refl
not_reaching (line.ClientEnd n) x i = refl
not_reaching (line.UpEnd n) x i = refl
not_reaching (line.ClientLost n) x i = refl
not_reaching (line.UpLost n) x i = refl
not_reaching (line.UpNoDial n) x i = refl
not_reaching (line.Answer n bytes) x i = refl
not_reaching (line.Close n clean) x i = refl
not_reaching (line.Ext bytes) x i = refl
not_reaching line.ExtEnd x i = refl
not_reaching line.ExtLost x i = refl
not_reaching (line.Tick n) x i = refl
not_reaching (line.HoldClient n) x i = refl
not_reaching (line.HoldUp n) x i = refl
not_reaching line.HoldExt x i = refl
not_reaching (line.FreeClient n) x i = refl
not_reaching (line.FreeUp n) x i = refl
not_reaching line.FreeExt x i = refl
not_reaching line.Stop x i = refl

-- All of them

one_reached : (c : FilterConfig) (l : TraceLine) (x : ℕ) (e e' : ExchangeState) (own : List OutLine) (b : Bool) → is_about l x ≡ b → GoesIf b c l x e e' own
    → e'.reached ≡ (e.reached || is_reaching l x)
one_reached c l x e e' own true i g = played_reached c g.rounds (arrived c l e) e' g.plays ∙ arrived_reached c l x e i
one_reached c l x e e' own false i g = ap was_reached g.0 ∙ sym (or_false e.reached) ∙ ap (λ b. e.reached || b) (sym (not_reaching l x i))

all_reached : (c : FilterConfig) (l : TraceLine) (x : ℕ) (es es' : List ExchangeState) (lines : List OutLine) → AllGo c l x es es' lines
    → map was_reached es' ≡ reached_by l x (map was_reached es)
all_reached c l x [] es' lines a = ap (map was_reached) a.0
all_reached c l x (e ∷ es) es' lines (e', rest, own, more, g, a, i, j) =
    ap (map was_reached) i ∙ ap (λ b. b ∷ map was_reached rest) (one_reached c l x e e' own (is_about l x) refl g)
    ∙ ap (λ bs. (e.reached || is_reaching l x) ∷ bs) (all_reached c l (x + 1) es rest more a)

length_map : (es : List ExchangeState) → length (map was_reached es) ≡ length es
length_map [] = refl
length_map (e ∷ es) = ap ℕ.suc (length_map es)

open_follows : (s s' : TraceState) (lines : List OutLine) (b : Bool) → is_full s ≡ b → Opens b s s' lines
    → AtEvents s'.config.max_exchanges (reaches s') ≡ AtEvents s.config.max_exchanges (if nat_le s.config.max_exchanges (length (reaches s)) then reaches s else reaches s ++ false ∷ [])
open_follows s s' lines true i o =
    ap (λ (z : TraceState). AtEvents z.config.max_exchanges (reaches z)) o.0
    ∙ ap (λ q. AtEvents s.config.max_exchanges (if q then reaches s else reaches s ++ false ∷ [])) (sym i ∙ ap (nat_le s.config.max_exchanges) (sym (length_map s.exchanges)))
open_follows s s' lines false i (e, g, k) =
    ap (λ (z : TraceState). AtEvents z.config.max_exchanges (reaches z)) k
    ∙ ap (AtEvents s.config.max_exchanges) (map-append was_reached s.exchanges (e ∷ []))
    ∙ ap (λ b. AtEvents s.config.max_exchanges (reaches s ++ b ∷ [])) (played_reached (filter_of s.config) g.rounds (opened_at s.clock) e g.plays)
    ∙ ap (λ q. AtEvents s.config.max_exchanges (if q then reaches s else reaches s ++ false ∷ [])) (sym i ∙ ap (nat_le s.config.max_exchanges) (sym (length_map s.exchanges)))

-- a line about one exchange, about all, or about none
event_follows : (s : TraceState) (l : TraceLine) (lines : List OutLine) (q : Place) (clock : Option ℕ) (es : List ExchangeState) → AllGo (filter_of s.config) l 1 s.exchanges es lines
    → q ≡ Events (record s { clock = clock; exchanges = es }) → shape_of q ≡ AtEvents s.config.max_exchanges (reached_by l 1 (reaches s))
event_follows s l lines q clock es a e = ap shape_of e ∙ ap (AtEvents s.config.max_exchanges) (all_reached (filter_of s.config) l 1 s.exchanges es lines a)

second_follows : (l : TraceLine) (q : Place) → ConfigLeads l q → shape_of q ≡ next_shape AtSecond l
unfolding next_shape
second_follows (line.Config text) q (config, e, i) = ap shape_of i ∙ ap shape_by_config (sym e)
second_follows line.Open q d = absurd d
second_follows line.Stop q d = absurd d
second_follows (line.First bytes) q d = absurd d
second_follows (line.Client n bytes) q d = absurd d
second_follows (line.Up n bytes) q d = absurd d
second_follows (line.ClientEnd n) q d = absurd d
second_follows (line.UpEnd n) q d = absurd d
second_follows (line.ClientLost n) q d = absurd d
second_follows (line.UpLost n) q d = absurd d
second_follows (line.UpNoDial n) q d = absurd d
second_follows (line.Answer n bytes) q d = absurd d
second_follows (line.Close n clean) q d = absurd d
second_follows (line.Ext bytes) q d = absurd d
second_follows line.ExtEnd q d = absurd d
second_follows line.ExtLost q d = absurd d
second_follows (line.Tick n) q d = absurd d
second_follows (line.HoldClient n) q d = absurd d
second_follows (line.HoldUp n) q d = absurd d
second_follows line.HoldExt q d = absurd d
second_follows (line.FreeClient n) q d = absurd d
second_follows (line.FreeUp n) q d = absurd d
second_follows line.FreeExt q d = absurd d

events_follow : (s : TraceState) (l : TraceLine) (lines : List OutLine) (q : Place) → LeadsOn s l lines q → shape_of q ≡ next_shape (shape_of (Events s)) l
unfolding next_shape
events_follow s line.Stop lines q d = ap shape_of d.1
events_follow s line.Open lines q (s', o, e) = ap shape_of e ∙ open_follows s s' lines (is_full s) refl o
events_follow s (line.First bytes) lines q (s', (es, a, i), e) = event_follows s (line.First bytes) lines q (ticked (line.First bytes) s.clock) es a (e ∙ ap Events i)
events_follow s (line.Config text) lines q (s', (es, a, i), e) = event_follows s (line.Config text) lines q (ticked (line.Config text) s.clock) es a (e ∙ ap Events i)
events_follow s (line.Client n bytes) lines q (s', (es, a, i), e) = event_follows s (line.Client n bytes) lines q (ticked (line.Client n bytes) s.clock) es a (e ∙ ap Events i)
events_follow s (line.Up n bytes) lines q (s', (es, a, i), e) = event_follows s (line.Up n bytes) lines q (ticked (line.Up n bytes) s.clock) es a (e ∙ ap Events i)
events_follow s (line.ClientEnd n) lines q (s', (es, a, i), e) = event_follows s (line.ClientEnd n) lines q (ticked (line.ClientEnd n) s.clock) es a (e ∙ ap Events i)
events_follow s (line.UpEnd n) lines q (s', (es, a, i), e) = event_follows s (line.UpEnd n) lines q (ticked (line.UpEnd n) s.clock) es a (e ∙ ap Events i)
events_follow s (line.ClientLost n) lines q (s', (es, a, i), e) = event_follows s (line.ClientLost n) lines q (ticked (line.ClientLost n) s.clock) es a (e ∙ ap Events i)
events_follow s (line.UpLost n) lines q (s', (es, a, i), e) = event_follows s (line.UpLost n) lines q (ticked (line.UpLost n) s.clock) es a (e ∙ ap Events i)
events_follow s (line.UpNoDial n) lines q (s', (es, a, i), e) = event_follows s (line.UpNoDial n) lines q (ticked (line.UpNoDial n) s.clock) es a (e ∙ ap Events i)
events_follow s (line.Answer n bytes) lines q (s', (es, a, i), e) = event_follows s (line.Answer n bytes) lines q (ticked (line.Answer n bytes) s.clock) es a (e ∙ ap Events i)
events_follow s (line.Close n clean) lines q (s', (es, a, i), e) = event_follows s (line.Close n clean) lines q (ticked (line.Close n clean) s.clock) es a (e ∙ ap Events i)
events_follow s (line.Ext bytes) lines q (s', (es, a, i), e) = event_follows s (line.Ext bytes) lines q (ticked (line.Ext bytes) s.clock) es a (e ∙ ap Events i)
events_follow s line.ExtEnd lines q (s', (es, a, i), e) = event_follows s line.ExtEnd lines q (ticked line.ExtEnd s.clock) es a (e ∙ ap Events i)
events_follow s line.ExtLost lines q (s', (es, a, i), e) = event_follows s line.ExtLost lines q (ticked line.ExtLost s.clock) es a (e ∙ ap Events i)
events_follow s (line.Tick n) lines q (s', (es, a, i), e) = event_follows s (line.Tick n) lines q (ticked (line.Tick n) s.clock) es a (e ∙ ap Events i)
events_follow s (line.HoldClient n) lines q (s', (es, a, i), e) = event_follows s (line.HoldClient n) lines q (ticked (line.HoldClient n) s.clock) es a (e ∙ ap Events i)
events_follow s (line.HoldUp n) lines q (s', (es, a, i), e) = event_follows s (line.HoldUp n) lines q (ticked (line.HoldUp n) s.clock) es a (e ∙ ap Events i)
events_follow s line.HoldExt lines q (s', (es, a, i), e) = event_follows s line.HoldExt lines q (ticked line.HoldExt s.clock) es a (e ∙ ap Events i)
events_follow s (line.FreeClient n) lines q (s', (es, a, i), e) = event_follows s (line.FreeClient n) lines q (ticked (line.FreeClient n) s.clock) es a (e ∙ ap Events i)
events_follow s (line.FreeUp n) lines q (s', (es, a, i), e) = event_follows s (line.FreeUp n) lines q (ticked (line.FreeUp n) s.clock) es a (e ∙ ap Events i)
events_follow s line.FreeExt lines q (s', (es, a, i), e) = event_follows s line.FreeExt lines q (ticked line.FreeExt s.clock) es a (e ∙ ap Events i)

pub follows : (p q : Place) (l : TraceLine) (lines : List OutLine) → Leads p l lines q → shape_of q ≡ next_shape (shape_of p) l
unfolding next_shape
follows First q l lines d = ap shape_of d.1
follows Second q l lines d = second_follows l q d.1
follows (Events s) q l lines d = events_follow s l lines q d
follows Ended q l lines d = absurd d

pub text_follows : (p q : Place) (text : List ℕ) (lines : List OutLine) → TextLeads p text lines q → shape_of q ≡ shape_after (shape_of p) text
unfolding shape_after
text_follows p q text lines t = by (line_of text) t.leads
  where
    by : (o : Option TraceLine) → LeadsAs o p lines q → shape_of q ≡ shape_by o (shape_of p)
    by None d = absurd d
    by (Some l) d = follows p q l lines d
