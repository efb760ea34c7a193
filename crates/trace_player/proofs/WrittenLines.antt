-- The text of the lines of one exchange.
use Rattle.std.proofs.Common.{refl, sym, ◌∙◌, ap, append_assoc}
use Rattle.std.specs.Prelude.{ℕ, ◌≡◌, Bool, true, false, List, [], ◌∷◌, ◌++◌, Option, Some, None, is_some, map}
use Rattle.trace_format.specs.declared.out.OutLine.{OutLine}
use Rattle.trace_format.specs.Transcripts.{text_of}
use Rattle.filter_model.specs.Right.{Call}
use Rattle.filter_model.specs.declared.calls.Side.TheVariants.{Client, Upstream}
use Rattle.trace_format.specs.declared.out.OutLine.TheVariants as out
use Rattle.trace_model.specs.Lines.{bytes_line, client_line, ending_line, first_end, if_new, lines_for, text_of_lines, up_line}
use Rattle.trace_player.specs.Ties.{Tells}
use Rattle.trace_player.specs.declared.brought.Brought.{Brought}

lines_more : (xs ys : List OutLine) → text_of_lines (xs ++ ys) ≡ text_of_lines xs ++ text_of_lines ys
lines_more [] ys = refl
lines_more (x ∷ xs) ys = ap (λ l. text_of x ++ 10 ∷ l) (lines_more xs ys) ∙ sym (append_assoc (text_of x) (10 ∷ text_of_lines xs) (text_of_lines ys))

pub written_on : (a b d : List ℕ) (xs ys : List OutLine) → b ≡ a ++ text_of_lines xs → d ≡ b ++ text_of_lines ys → d ≡ a ++ text_of_lines (xs ++ ys)
written_on a b d xs ys e f =
    f ∙ ap (λ l. l ++ text_of_lines ys) e ∙ append_assoc a (text_of_lines xs) (text_of_lines ys) ∙ ap (λ l. a ++ l) (sym (lines_more xs ys))

pub new_then : (before now : Option Bool) → is_some before ≡ true → None ≡ if_new before now
new_then (Some b) now e = refl
new_then None now e = absurd cc

pub new_else : (before now : Option Bool) → is_some before ≡ false → now ≡ if_new before now
new_else (Some b) now e = absurd cc
new_else None now e = refl

pub all_written : (x : ℕ) (before calls : List Call) (b : Brought) (client up : Option Bool) (t t1 t2 t3 t4 t5 t6 : List ℕ) → Tells calls b
    → client ≡ if_new (first_end Client before) b.client_end → up ≡ if_new (first_end Upstream before) b.up_end
    → t1 ≡ t ++ text_of_lines (bytes_line (out.ToClient x) b.to_client.items) → t2 ≡ t1 ++ text_of_lines (bytes_line (out.ToUp x) b.to_up.items)
    → t3 ≡ t2 ++ text_of_lines (map (out.Ask x) b.asks.items) → t4 ≡ t3 ++ text_of_lines (ending_line x b.ending)
    → t5 ≡ t4 ++ text_of_lines (client_line x client) → t6 ≡ t5 ++ text_of_lines (up_line x up)
    → t6 ≡ t ++ text_of_lines (lines_for x before calls)
unfolding lines_for
all_written x before calls b client up t t1 t2 t3 t4 t5 t6 k f g e1 e2 e3 e4 e5 e6 =
    let w1 = e1 ∙ ap (λ l. t ++ text_of_lines (bytes_line (out.ToClient x) l)) k.to_client in
    let w2 = e2 ∙ ap (λ l. t1 ++ text_of_lines (bytes_line (out.ToUp x) l)) k.to_up in
    let w3 = e3 ∙ ap (λ l. t2 ++ text_of_lines (map (out.Ask x) l)) k.asks in
    let w4 = e4 ∙ ap (λ o. t3 ++ text_of_lines (ending_line x o)) k.ending in
    let w5 = e5 ∙ ap (λ o. t4 ++ text_of_lines (client_line x o)) (f ∙ ap (λ o. if_new (first_end Client before) o) k.client_end) in
    let w6 = e6 ∙ ap (λ o. t5 ++ text_of_lines (up_line x o)) (g ∙ ap (λ o. if_new (first_end Upstream before) o) k.up_end) in
    written_on t t1 t6 _ _ w1 (written_on t1 t2 t6 _ _ w2 (written_on t2 t3 t6 _ _ w3 (written_on t3 t4 t6 _ _ w4 (written_on t4 t5 t6 _ _ w5 w6))))
