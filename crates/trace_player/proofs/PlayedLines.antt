-- What an exchange that was played to rest leaves.
use Rattle.std.proofs.Common.{refl, sym, ◌∙◌, ap, append_assoc}
use Rattle.std.specs.Prelude.{ℕ, ◌≡◌, Bool, ◌||◌, List, [], ◌∷◌, ◌++◌, Option, Some, None, is_some}
use Rattle.filter_model.specs.Config.{FilterConfig}
use Rattle.filter_model.specs.Right.{Call}
use Rattle.filter_model.specs.declared.calls.Side.{Side}
use Rattle.filter_model.specs.declared.calls.Side.TheVariants.{Client, Upstream}
use Rattle.trace_model.proofs.Histories.{history_of}
use Rattle.trace_model.specs.Lines.{end_for, first_end, lines_for, or_then, text_of_lines}
use Rattle.trace_model.specs.Links.{ExchangeState}
use Rattle.trace_player.specs.Ties.{HasGone, HasPlayed, YetToTell, Tells, link_of}
use Rattle.trace_player.specs.declared.brought.Brought.{Brought}
use Rattle.trace_player.specs.declared.opened.Opened.{Opened}
use Rattle.trace_player.proofs.PlayedTells.{or_assoc, or_none}

first_end_more : (s : Side) (xs ys : List Call) → first_end s (xs ++ ys) ≡ or_then (first_end s ys) (first_end s xs)
first_end_more s [] ys = sym (or_none (first_end s ys))
first_end_more s (x ∷ xs) ys = ap (λ o. or_then o (end_for s x)) (first_end_more s xs ys) ∙ or_assoc (first_end s ys) (first_end s xs) (end_for s x)

some_or : (x y : Option Bool) → is_some (or_then x y) ≡ is_some x || is_some y
some_or (Some b) y = refl
some_or None y = refl

over_by : (s : Side) (calls before h : List Call) (over now : Bool) (end : Option Bool) → h ≡ calls ++ before → over ≡ is_some (first_end s before) → end ≡ first_end s calls
    → now ≡ over || is_some end → now ≡ is_some (first_end s h)
over_by s calls before h over now end e f g n =
    n ∙ ap (λ o. o || is_some end) f ∙ ap (λ o. is_some (first_end s before) || is_some o) g ∙ sym (some_or (first_end s before) (first_end s calls))
    ∙ sym (ap is_some (first_end_more s calls before)) ∙ sym (ap (λ l. is_some (first_end s l)) e)

pub since_before : (c : FilterConfig) (before : List Call) (m : ExchangeState) (x y : Opened) (b : Brought) (k : YetToTell c before m x) (p : HasPlayed c m y b)
    → p.after.calls ≡ (p.calls ++ k.calls) ++ before
since_before c before m x y b k p = p.since ∙ ap (λ l. p.calls ++ l) k.since ∙ sym (append_assoc p.calls k.calls before)

-- z is what was played, of which the ends that the transcript has are written down
pub gone : (c : FilterConfig) (n : ℕ) (before : List Call) (m : ExchangeState) (x y z : Opened) (b : Brought) (old new : List ℕ) (k : YetToTell c before m x) (p : HasPlayed c m y b)
    → z.exchange ≡ y.exchange → link_of z.client ≡ link_of y.client → link_of z.up ≡ link_of y.up → z.reached ≡ y.reached
    → z.client.over ≡ x.client.over || is_some b.client_end → z.up.over ≡ x.up.over || is_some b.up_end
    → new ≡ old ++ text_of_lines (lines_for n before (p.calls ++ k.calls)) → HasGone c n before m z old new
gone c n before m x y z b old new k p same client up reached client_over up_over text =
    let tells : Tells (p.calls ++ k.calls) b = k.silent b p.calls p.tells in
    let since = since_before c before m x y b k p in
    record {
      after = p.after;
      lines = lines_for n before (p.calls ++ k.calls);
      goes = record {
        rounds = p.rounds;
        plays = p.plays;
        some = p.some;
        right = history_of c p.after.calls y.exchange p.tied.after;
        calls = p.calls ++ k.calls;
        since = since;
        tells = refl;
      };
      rest = record {
        tied = record {
          after = rw same p.tied.after;
          ready = p.tied.ready;
          client = p.tied.client ∙ sym client;
          up = p.tied.up ∙ sym up;
          reached = p.tied.reached ∙ sym reached;
        };
        ends = record {
          client = over_by Client (p.calls ++ k.calls) before p.after.calls x.client.over z.client.over b.client_end since k.ends.client tells.client_end client_over;
          up = over_by Upstream (p.calls ++ k.calls) before p.after.calls x.up.over z.up.over b.up_end since k.ends.up tells.up_end up_over;
        };
      };
      text = text;
    }
