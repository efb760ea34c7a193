-- All exchanges meet a line, one after the other.
use Rattle.std.proofs.Common.{refl, sym, ◌∙◌, ap, subst, arith, append-nil, append_assoc}
use Rattle.std.specs.Prelude.{ℕ, ◌≡◌, ◌+◌, true, false, List, [], ◌∷◌, ◌++◌, length, Some, slice_get, slice_set}
use Rattle.filter_model.specs.Config.{FilterConfig}
use Rattle.trace_format.specs.declared.line.TraceLine.{TraceLine}
use Rattle.trace_format.specs.declared.out.OutLine.{OutLine}
use Rattle.trace_model.specs.Lines.{text_of_lines}
use Rattle.trace_model.specs.Links.{ExchangeState, arrived, filter_of}
use Rattle.trace_model.specs.Places.{AllGo, Goes, GoesIf, TraceState, is_about, ticked}
use Rattle.trace_player.specs.Ties.{EachTied, HasGone, HasMetAll, PlayerIs, RestTied}
use Rattle.trace_player.specs.declared.opened.Opened.{Opened}
use Rattle.trace_player.specs.declared.player.Player.{Player}
use Rattle.trace_player.proofs.Reached.{same_length}
use Rattle.trace_player.proofs.WrittenLines.{written_on}

-- the first `i` of them, numbered from x, met the line, and the others stand as before
abbrev pub SoFar : FilterConfig → TraceLine → ℕ → ℕ → List ExchangeState → List Opened → List OutLine → Type 0
SoFar c l x ℕ.zero ms os lines = EachTied c ms os × (lines ≡ [])
SoFar c l x (ℕ.suc i) (m ∷ ms) (o ∷ os) lines =
    (e : ExchangeState) × (own more : List OutLine) × GoesIf (is_about l x) c l x m e own × RestTied c e o × SoFar c l (x + 1) i ms os more × (lines ≡ own ++ more)
SoFar c l x (ℕ.suc i) ms os lines = ⊥

-- the next one, which stands as before
pub record HasNext (c : FilterConfig) (l : TraceLine) (x i : ℕ) (ms : List ExchangeState) (os : List Opened) (lines : List OutLine) (o : Opened) : Type 0 where
  pub before : ExchangeState
  pub rest : RestTied c before o
  pub goes_on : (e : ExchangeState) (own : List OutLine) (met : Opened) → GoesIf (is_about l (x + i)) c l (x + i) before e own → RestTied c e met
      → SoFar c l x (ℕ.suc i) ms (slice_set os i met) (lines ++ own)
  -- the line isn't about it
  pub passes : is_about l (x + i) ≡ false → SoFar c l x (ℕ.suc i) ms os lines

pub next_of : (c : FilterConfig) (l : TraceLine) (i x : ℕ) (ms : List ExchangeState) (os : List Opened) (lines : List OutLine) (o : Opened)
    → SoFar c l x i ms os lines → slice_get os i ≡ Some o → HasNext c l x i ms os lines o
next_of c l ℕ.zero x ms [] lines o s k = absurd cc
next_of c l ℕ.zero x [] (p ∷ os) lines o s k = absurd s.0
next_of c l ℕ.zero x (m ∷ ms) (p ∷ os) lines o s k =
    let same : p ≡ o = cc in
    record {
      before = m;
      rest = subst (λ y. RestTied c m y) same s.0.0;
      goes_on = λ e own met g r. (e, own, [], subst (λ n. GoesIf (is_about l n) c l n m e own) (omega arith) g, r, (s.0.1, refl), ap (λ k. k ++ own) s.1 ∙ sym (append-nil own));
      passes = λ f. (m, [], [], subst (λ b. GoesIf b c l x m m []) (sym (ap (is_about l) (omega arith) ∙ f)) (refl, refl), s.0.0, (s.0.1, refl), s.1);
    }
next_of c l (ℕ.suc i) x [] os lines o s k = absurd s
next_of c l (ℕ.suc i) x (m ∷ ms) [] lines o s k = absurd s
next_of c l (ℕ.suc i) x (m ∷ ms) (p ∷ os) lines o s k =
    let (e, own, more, g, r, later, same) = s in
    let n : HasNext c l (x + 1) i ms os more o = next_of c l i (x + 1) ms os more o later k in
    record {
      before = n.before;
      rest = n.rest;
      goes_on = λ e2 own2 met g2 r2. (
        e,
        own,
        more ++ own2,
        g,
        r,
        n.goes_on e2 own2 met (subst (λ n. GoesIf (is_about l n) c l n (next_of c l i (x + 1) ms os more o later k).before e2 own2) (omega arith) g2) r2,
        ap (λ k. k ++ own2) same ∙ append_assoc own more own2,
      );
      passes = λ f. (e, own, more, g, r, n.passes (ap (is_about l) (omega arith) ∙ f), same);
    }

-- the text has the lines of those that met it
pub record IsTold (c : FilterConfig) (l : TraceLine) (i : ℕ) (ms : List ExchangeState) (os : List Opened) (start text : List ℕ) : Type 0 where
  pub lines : List OutLine
  pub so_far : SoFar c l 1 i ms os lines
  pub tells : text ≡ start ++ text_of_lines lines

pub one_met : (c : FilterConfig) (l : TraceLine) (x i : ℕ) (ms : List ExchangeState) (os more : List Opened) (lines : List OutLine) (o met : Opened) (start old new : List ℕ)
    → (n : HasNext c l 1 i ms os lines o) → x ≡ i → true ≡ is_about l (x + 1) → HasGone c (x + 1) n.before.calls (arrived c l n.before) met old new
    → more ≡ slice_set os i met → old ≡ start ++ text_of_lines lines → IsTold c l (i + 1) ms more start new
one_met c l x i ms os more lines o met start old new n e about g items text =
    let number : x + 1 ≡ 1 + i = omega (arith, e) in
    let goes : Goes c (1 + i) n.before.calls (arrived c l n.before) g.after g.lines =
    subst (λ k. Goes c k n.before.calls (arrived c l n.before) g.after g.lines) number g.goes in
    let goes_if : GoesIf (is_about l (1 + i)) c l (1 + i) n.before g.after g.lines =
    subst (λ b. GoesIf b c l (1 + i) n.before g.after g.lines) (about ∙ ap (is_about l) number) goes in
    let so : SoFar c l 1 (ℕ.suc i) ms more (lines ++ g.lines) =
    subst (λ k. SoFar c l 1 (ℕ.suc i) ms k (lines ++ g.lines)) (sym items) (n.goes_on g.after g.lines met goes_if g.rest) in
    let next : ℕ.suc i ≡ i + 1 = omega arith in
    record {
      lines = lines ++ g.lines;
      so_far = subst (λ k. SoFar c l 1 k ms more (lines ++ g.lines)) next so;
      tells = written_on start old new lines g.lines text g.text;
    }

pub one_passed : (c : FilterConfig) (l : TraceLine) (x i : ℕ) (ms : List ExchangeState) (os : List Opened) (lines : List OutLine) (o : Opened) (start text : List ℕ)
    → HasNext c l 1 i ms os lines o → x ≡ i → false ≡ is_about l (x + 1) → text ≡ start ++ text_of_lines lines → IsTold c l (i + 1) ms os start text
one_passed c l x i ms os lines o start text n e about t =
    let number : 1 + i ≡ x + 1 = omega (arith, e) in
    let next : ℕ.suc i ≡ i + 1 = omega arith in
    record {
      lines = lines;
      so_far = subst (λ k. SoFar c l 1 k ms os lines) next (n.passes (ap (is_about l) number ∙ sym about));
      tells = t;
    }

-- all of them
pub record AllMet (c : FilterConfig) (l : TraceLine) (x : ℕ) (ms : List ExchangeState) (os : List Opened) (lines : List OutLine) : Type 0 where
  pub after : List ExchangeState
  pub all : AllGo c l x ms after lines
  pub tied : EachTied c after os

pub all_met : (c : FilterConfig) (l : TraceLine) (i x : ℕ) (ms : List ExchangeState) (os : List Opened) (lines : List OutLine)
    → i ≡ length os → SoFar c l x i ms os lines → AllMet c l x ms os lines
all_met c l ℕ.zero x [] [] lines e s = record { after = []; all = (refl, s.1); tied = tt }
all_met c l ℕ.zero x (m ∷ ms) [] lines e s = absurd s.0
all_met c l ℕ.zero x ms (o ∷ os) lines e s = absurd (omega (arith, e))
all_met c l (ℕ.suc i) x [] os lines e s = absurd s
all_met c l (ℕ.suc i) x (m ∷ ms) [] lines e s = absurd s
all_met c l (ℕ.suc i) x (m ∷ ms) (o ∷ os) lines e s =
    let (k, own, more, g, r, later, same) = s in
    let rest : AllMet c l (x + 1) ms os more = all_met c l i (x + 1) ms os more (omega (arith, e)) later in
    record {
      after = k ∷ rest.after;
      all = (k, rest.after, own, more, g, rest.all, refl, same);
      tied = (r, rest.tied);
    }

pub played_all : (s : TraceState) (l : TraceLine) (i : ℕ) (p q : Player) (os : List Opened) (lines : List OutLine) (start text : List ℕ) → PlayerIs s p
    → i ≡ length os → length os ≡ length p.exchanges.items → SoFar (filter_of s.config) l 1 i s.exchanges os lines → text ≡ start ++ text_of_lines lines
    → q.config ≡ s.config → q.clock ≡ ticked l s.clock → q.exchanges.items ≡ os → HasMetAll s l q start text
played_all s l i p q os lines start text t e len so tells config clock items =
    let all : AllMet (filter_of s.config) l 1 s.exchanges os lines = all_met (filter_of s.config) l i 1 s.exchanges os lines e so in
    let before = same_length (filter_of s.config) s.exchanges p.exchanges.items t.exchanges in
    let after = same_length (filter_of s.config) all.after os all.tied in
    let few = t.few in
    record {
      exchanges = all.after;
      lines = lines;
      all = all.all;
      player = record {
        config = config;
        valid = t.valid;
        clock = clock;
        exchanges = subst (λ k. EachTied (filter_of s.config) all.after k) (sym items) all.tied;
        few = omega (arith, before, after, few, len);
      };
      text = tells;
    }
