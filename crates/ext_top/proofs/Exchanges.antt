-- Every exchange of a trace that is played is right and at rest behind each line.
use Rattle.std.proofs.Common.{◌≡◌, ℕ, ◌+◌, Bool, true, false, List, [], ◌∷◌, ◌++◌, Option, None, Some, length, sym, subst}
use Rattle.std.specs.List.{All, AllByRecursion}
use Rattle.std.proofs.lemmas.List.Elements.{All-append, All-from_recursion, All-nil, recursion_from_All}
use Rattle.filter_model.specs.Config.{FilterConfig}
use Rattle.filter_model.specs.Right.{Call}
use Rattle.filter_model.proofs.RightAlong as right
use Rattle.filter_model.proofs.WholeAlong as whole
use Rattle.trace_format.specs.Lines.{line_of}
use Rattle.trace_format.specs.declared.line.TraceLine.{TraceLine}
use Rattle.trace_format.specs.declared.line.TraceLine.TheVariants as line
use Rattle.trace_format.specs.declared.out.OutLine.{OutLine}
use Rattle.trace_model.specs.Links.{ExchangeState, arrived, filter_of, opened_at}
use Rattle.trace_model.specs.Places.{AllGo, ConfigLeads, Ended, Events, First, Goes, GoesIf, Leads, LeadsOn, Opens, Place, Second, TraceState, is_about, is_full, ticked}
use Rattle.trace_model.specs.Verdicts.{LeadsAs}
use Rattle.trace_model.proofs.AtRest.{quiet_there, rests}
use Rattle.ext_top.specs.Exchanges.{AllRightAtRest, IsRightAtRest, RightAlong}
use Rattle.ext_top.specs.Plays.{LinesLead}

-- One exchange

goes_right : (c : FilterConfig) (x : ℕ) (before : List Call) (met after : ExchangeState) (lines : List OutLine) → Goes c x before met after lines → IsRightAtRest c after
goes_right c x before met after lines g =
    let rest = rests c g.rounds met after g.plays g.some in
    record {
      right = right.right_along c after.calls g.right;
      whole = whole.whole_along c after.calls g.right;
      rest = rest;
      quiet = λ client up. quiet_there after rest client up;
    }

stays_right : (b : Bool) (c : FilterConfig) (l : TraceLine) (x : ℕ) (e e' : ExchangeState) (own : List OutLine) → IsRightAtRest c e → GoesIf b c l x e e' own → IsRightAtRest c e'
stays_right true c l x e e' own r g = goes_right c x e.calls (arrived c l e) e' own g
stays_right false c l x e e' own r g = subst (λ (z : ExchangeState). IsRightAtRest c z) (sym g.0) r

-- All of them

all_right : (c : FilterConfig) (l : TraceLine) (x : ℕ) (es es' : List ExchangeState) (lines : List OutLine) → AllByRecursion (IsRightAtRest c) es → AllGo c l x es es' lines
    → AllByRecursion (IsRightAtRest c) es'
all_right c l x [] es' lines r a = subst (λ (z : List ExchangeState). AllByRecursion (IsRightAtRest c) z) (sym a.0) tt
all_right c l x (e ∷ es) es' lines r (e', rest, own, more, g, a, i, j) =
    subst (λ (z : List ExchangeState). AllByRecursion (IsRightAtRest c) z) (sym i) (stays_right (is_about l x) c l x e e' own r.0 g, all_right c l (x + 1) es rest more r.1 a)

opened_right : (s s' : TraceState) (lines : List OutLine) (b : Bool) → AllRightAtRest (Events s) → Opens b s s' lines → AllRightAtRest (Events s')
opened_right s s' lines true r o = subst (λ (z : TraceState). AllRightAtRest (Events z)) (sym o.0) r
opened_right s s' lines false r (e, g, k) =
    let own : IsRightAtRest (filter_of s.config) e = goes_right (filter_of s.config) (length s.exchanges + 1) [] (opened_at s.clock) e lines g in
    let all : All (IsRightAtRest (filter_of s.config)) (s.exchanges ++ e ∷ []) =
    All-append (IsRightAtRest (filter_of s.config)) s.exchanges (e ∷ []) r (All-from_recursion (IsRightAtRest (filter_of s.config)) (e ∷ []) (own, tt)) in
    subst (λ (z : TraceState). AllRightAtRest (Events z)) (sym k) all

-- a line about one exchange, about all, or about none
event_right : (s : TraceState) (l : TraceLine) (lines : List OutLine) (q : Place) (clock : Option ℕ) (es : List ExchangeState) → AllRightAtRest (Events s)
    → AllGo (filter_of s.config) l 1 s.exchanges es lines → (s' : TraceState) → s' ≡ record s { clock = clock; exchanges = es } → q ≡ Events s' → AllRightAtRest q
event_right s l lines q clock es r a s' i e =
    let before = recursion_from_All (IsRightAtRest (filter_of s.config)) s.exchanges r in
    let all : All (IsRightAtRest (filter_of s.config)) es = All-from_recursion (IsRightAtRest (filter_of s.config)) es (all_right (filter_of s.config) l 1 s.exchanges es lines before a) in
    subst (λ (z : Place). AllRightAtRest z) (sym e) (subst (λ (z : TraceState). AllRightAtRest (Events z)) (sym i) all)

events_right : (s : TraceState) (l : TraceLine) (lines : List OutLine) (q : Place) → AllRightAtRest (Events s) → LeadsOn s l lines q → AllRightAtRest q
events_right s (line.First bytes) lines q r (s', (es, a, i), e) = event_right s (line.First bytes) lines q (ticked (line.First bytes) s.clock) es r a s' i e
events_right s (line.Config text) lines q r (s', (es, a, i), e) = event_right s (line.Config text) lines q (ticked (line.Config text) s.clock) es r a s' i e
events_right s line.Open lines q r (s', o, e) = subst (λ (z : Place). AllRightAtRest z) (sym e) (opened_right s s' lines (is_full s) r o)
events_right s (line.Client n bytes) lines q r (s', (es, a, i), e) = event_right s (line.Client n bytes) lines q (ticked (line.Client n bytes) s.clock) es r a s' i e
events_right s (line.Up n bytes) lines q r (s', (es, a, i), e) = event_right s (line.Up n bytes) lines q (ticked (line.Up n bytes) s.clock) es r a s' i e
events_right s (line.ClientEnd n) lines q r (s', (es, a, i), e) = event_right s (line.ClientEnd n) lines q (ticked (line.ClientEnd n) s.clock) es r a s' i e
events_right s (line.UpEnd n) lines q r (s', (es, a, i), e) = event_right s (line.UpEnd n) lines q (ticked (line.UpEnd n) s.clock) es r a s' i e
events_right s (line.ClientLost n) lines q r (s', (es, a, i), e) = event_right s (line.ClientLost n) lines q (ticked (line.ClientLost n) s.clock) es r a s' i e
events_right s (line.UpLost n) lines q r (s', (es, a, i), e) = event_right s (line.UpLost n) lines q (ticked (line.UpLost n) s.clock) es r a s' i e
events_right s (line.UpNoDial n) lines q r (s', (es, a, i), e) = event_right s (line.UpNoDial n) lines q (ticked (line.UpNoDial n) s.clock) es r a s' i e
events_right s (line.Answer n bytes) lines q r (s', (es, a, i), e) = event_right s (line.Answer n bytes) lines q (ticked (line.Answer n bytes) s.clock) es r a s' i e
events_right s (line.Close n clean) lines q r (s', (es, a, i), e) = event_right s (line.Close n clean) lines q (ticked (line.Close n clean) s.clock) es r a s' i e
events_right s (line.Ext bytes) lines q r (s', (es, a, i), e) = event_right s (line.Ext bytes) lines q (ticked (line.Ext bytes) s.clock) es r a s' i e
events_right s line.ExtEnd lines q r (s', (es, a, i), e) = event_right s line.ExtEnd lines q (ticked line.ExtEnd s.clock) es r a s' i e
events_right s line.ExtLost lines q r (s', (es, a, i), e) = event_right s line.ExtLost lines q (ticked line.ExtLost s.clock) es r a s' i e
events_right s (line.Tick n) lines q r (s', (es, a, i), e) = event_right s (line.Tick n) lines q (ticked (line.Tick n) s.clock) es r a s' i e
events_right s (line.HoldClient n) lines q r (s', (es, a, i), e) = event_right s (line.HoldClient n) lines q (ticked (line.HoldClient n) s.clock) es r a s' i e
events_right s (line.HoldUp n) lines q r (s', (es, a, i), e) = event_right s (line.HoldUp n) lines q (ticked (line.HoldUp n) s.clock) es r a s' i e
events_right s line.HoldExt lines q r (s', (es, a, i), e) = event_right s line.HoldExt lines q (ticked line.HoldExt s.clock) es r a s' i e
events_right s (line.FreeClient n) lines q r (s', (es, a, i), e) = event_right s (line.FreeClient n) lines q (ticked (line.FreeClient n) s.clock) es r a s' i e
events_right s (line.FreeUp n) lines q r (s', (es, a, i), e) = event_right s (line.FreeUp n) lines q (ticked (line.FreeUp n) s.clock) es r a s' i e
events_right s line.FreeExt lines q r (s', (es, a, i), e) = event_right s line.FreeExt lines q (ticked line.FreeExt s.clock) es r a s' i e
events_right s line.Stop lines q r d = subst (λ (z : Place). AllRightAtRest z) (sym d.1) tt

-- the configuration opens none
second_right : (l : TraceLine) (q : Place) → ConfigLeads l q → AllRightAtRest q
second_right (line.First bytes) q d = absurd d
second_right (line.Config text) q (config, e, i) = subst (λ (z : Place). AllRightAtRest z) (sym i) (All-nil (IsRightAtRest (filter_of config)))
second_right line.Open q d = absurd d
second_right (line.Client n bytes) q d = absurd d
second_right (line.Up n bytes) q d = absurd d
second_right (line.ClientEnd n) q d = absurd d
second_right (line.UpEnd n) q d = absurd d
second_right (line.ClientLost n) q d = absurd d
second_right (line.UpLost n) q d = absurd d
second_right (line.UpNoDial n) q d = absurd d
second_right (line.Answer n bytes) q d = absurd d
second_right (line.Close n clean) q d = absurd d
second_right (line.Ext bytes) q d = absurd d
second_right line.ExtEnd q d = absurd d
second_right line.ExtLost q d = absurd d
second_right (line.Tick n) q d = absurd d
second_right (line.HoldClient n) q d = absurd d
second_right (line.HoldUp n) q d = absurd d
second_right line.HoldExt q d = absurd d
second_right (line.FreeClient n) q d = absurd d
second_right (line.FreeUp n) q d = absurd d
second_right line.FreeExt q d = absurd d
second_right line.Stop q d = absurd d

leads_right : (p : Place) (l : TraceLine) (lines : List OutLine) (q : Place) → AllRightAtRest p → Leads p l lines q → AllRightAtRest q
leads_right First l lines q r d = subst (λ (z : Place). AllRightAtRest z) (sym d.1) tt
leads_right Second l lines q r d = second_right l q d.1
leads_right (Events s) l lines q r d = events_right s l lines q r d
leads_right Ended l lines q r d = absurd d

text_right : (o : Option TraceLine) (p : Place) (lines : List OutLine) (q : Place) → AllRightAtRest p → LeadsAs o p lines q → AllRightAtRest q
text_right None p lines q r d = absurd d
text_right (Some l) p lines q r d = leads_right p l lines q r d

pub right_along : (n : ℕ) (p : Place) (lines : List (List ℕ)) (text : List ℕ) (q : Place) → AllRightAtRest p → (a : LinesLead n p lines text q) → RightAlong n p lines text q a
right_along n p [] text q r a = r
right_along n p (l ∷ lines) text q r a =
    (r, right_along (n + (length l + 1)) a.1 lines a.2 q (text_right (line_of l) p a.0 a.1 r a.4.leads) a.5)
