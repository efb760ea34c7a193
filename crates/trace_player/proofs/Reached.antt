-- Whether the upstream of an exchange was reached, told by the player's value.
use Rattle.std.proofs.Common.{refl, ap, sym, ◌∙◌, arith, ◌+◌}
use Rattle.std.specs.Prelude.{ℕ, ◌≡◌, List, [], ◌∷◌, length, map, Option, Some, option_map, slice_get}
use Rattle.filter_model.specs.Config.{FilterConfig}
use Rattle.trace_model.specs.Links.{ExchangeState, filter_of}
use Rattle.trace_model.specs.Places.{TraceState}
use Rattle.trace_model.specs.Verdicts.{reached_at, reaches}
use Rattle.trace_player.specs.Ties.{EachTied, PlayerIs}
use Rattle.trace_player.specs.declared.opened.Opened.{Opened}
use Rattle.trace_player.specs.declared.player.Player.{Player}

pub reached_there : (c : FilterConfig) (ms : List ExchangeState) (xs : List Opened) (i : ℕ) → EachTied c ms xs
    → slice_get (map (λ (m : ExchangeState). m.reached) ms) i ≡ option_map (λ (x : Opened). x.reached) (slice_get xs i)
reached_there c [] [] i t = refl
reached_there c [] (x ∷ xs) i t = absurd t
reached_there c (m ∷ ms) [] i t = absurd t
reached_there c (m ∷ ms) (x ∷ xs) ℕ.zero t = ap (λ b. Some b) t.0.tied.reached
reached_there c (m ∷ ms) (x ∷ xs) (ℕ.suc i) t = reached_there c ms xs i t.1

pub same_length : (c : FilterConfig) (ms : List ExchangeState) (xs : List Opened) → EachTied c ms xs → length ms ≡ length xs
same_length c [] [] t = refl
same_length c [] (x ∷ xs) t = absurd t
same_length c (m ∷ ms) [] t = absurd t
same_length c (m ∷ ms) (x ∷ xs) t = ap ℕ.suc (same_length c ms xs t.1)

pub reached_below : (x i : ℕ) (s : TraceState) (p : Player) (o : Option Opened) → PlayerIs s p → x ≡ i + 1 → slice_get p.exchanges.items i ≡ o → option_map (λ (x : Opened). x.reached) o ≡ reached_at x (reaches s)
reached_below x i s p o t e k =
    ap (option_map (λ (x : Opened). x.reached)) (sym k) ∙ sym (reached_there (filter_of s.config) s.exchanges p.exchanges.items i t.exchanges) ∙ by i ∙ ap (λ n. reached_at n (reaches s)) (sym e)
  where
    by : (i : ℕ) → slice_get (reaches s) i ≡ reached_at (i + 1) (reaches s)
    by i = same (i + 1) (omega arith)
      where
        same : (n : ℕ) → n ≡ ℕ.suc i → slice_get (reaches s) i ≡ reached_at n (reaches s)
        same n e = ap (λ m. reached_at m (reaches s)) (sym e)
