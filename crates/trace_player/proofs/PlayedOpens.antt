-- The next exchange is opened, or there are as many as there may be.
use Rattle.std.proofs.Common.{refl, sym, subst, arith, le-leb}
use Rattle.std.proofs.lemmas.Bool.{lt-leb}
use Rattle.std.proofs.lemmas.List.{length-append}
use Rattle.std.specs.Prelude.{ℕ, ◌≡◌, ◌+◌, ◌≤◌, ◌<◌, List, [], ◌∷◌, ◌++◌, length}
use Rattle.filter_model.specs.Config.{FilterConfig}
use Rattle.trace_format.specs.declared.out.OutLine.TheVariants as out
use Rattle.trace_model.specs.Lines.{text_of_lines}
use Rattle.trace_model.specs.Links.{ExchangeState, filter_of, opened_at}
use Rattle.trace_model.specs.Places.{Goes, Opens, TraceState}
use Rattle.trace_player.specs.Ties.{EachTied, HasGone, HasOpened, PlayerIs, RestTied}
use Rattle.trace_player.specs.declared.opened.Opened.{Opened}
use Rattle.trace_player.specs.declared.player.Player.{Player}
use Rattle.trace_player.proofs.Reached.{same_length}

pub full : (s : TraceState) (p : Player) (old new : List ℕ) → PlayerIs s p → s.config.max_exchanges ≤ length p.exchanges.items
    → new ≡ old ++ text_of_lines (out.Full ∷ []) → HasOpened s p old new
full s p old new t most e =
    let same : length s.exchanges ≡ length p.exchanges.items = same_length (filter_of s.config) s.exchanges p.exchanges.items t.exchanges in
    record {
      next = s;
      lines = out.Full ∷ [];
      opens = subst (λ b. Opens b s s (out.Full ∷ [])) (sym (le-leb s.config.max_exchanges (length s.exchanges) (omega (arith, most, same)))) (refl, refl);
      player = t;
      text = e;
    }

tied_more : (c : FilterConfig) (ms : List ExchangeState) (os : List Opened) (m : ExchangeState) (o : Opened) → EachTied c ms os → RestTied c m o
    → EachTied c (ms ++ m ∷ []) (os ++ o ∷ [])
tied_more c [] [] m o t r = (r, tt)
tied_more c [] (p ∷ os) m o t r = absurd t
tied_more c (k ∷ ms) [] m o t r = absurd t
tied_more c (k ∷ ms) (p ∷ os) m o t r = (t.0, tied_more c ms os m o t.1 r)

pub opened : (s : TraceState) (p q : Player) (o : Opened) (n : ℕ) (old new : List ℕ) → PlayerIs s p → length p.exchanges.items < s.config.max_exchanges
    → n ≡ length p.exchanges.items + 1 → HasGone (filter_of s.config) n [] (opened_at s.clock) o old new
    → q.config ≡ s.config → q.clock ≡ s.clock → q.exchanges.items ≡ p.exchanges.items ++ o ∷ [] → HasOpened s q old new
opened s p q o n old new t less number g config clock items =
    let same : length s.exchanges ≡ length p.exchanges.items = same_length (filter_of s.config) s.exchanges p.exchanges.items t.exchanges in
    let goes : Goes (filter_of s.config) (length s.exchanges + 1) [] (opened_at s.clock) g.after g.lines =
    subst (λ k. Goes (filter_of s.config) k [] (opened_at s.clock) g.after g.lines) (omega (arith, same, number)) g.goes in
    let longer : length (s.exchanges ++ g.after ∷ []) ≡ length s.exchanges + 1 = length-append s.exchanges (g.after ∷ []) in
    let tied : EachTied (filter_of s.config) (s.exchanges ++ g.after ∷ []) (p.exchanges.items ++ o ∷ []) =
    tied_more (filter_of s.config) s.exchanges p.exchanges.items g.after o t.exchanges g.rest in
    record {
      next = record s { exchanges = s.exchanges ++ g.after ∷ [] };
      lines = g.lines;
      opens = subst (λ b. Opens b s (record s { exchanges = s.exchanges ++ g.after ∷ [] }) g.lines)
          (sym (lt-leb s.config.max_exchanges (length s.exchanges) (omega (arith, less, same)))) (g.after, goes, refl);
      player = record {
        config = config;
        valid = t.valid;
        clock = clock;
        exchanges = subst (λ l. EachTied (filter_of s.config) (s.exchanges ++ g.after ∷ []) l) (sym items) tied;
        few = omega (arith, less, same, longer);
      };
      text = g.text;
    }
