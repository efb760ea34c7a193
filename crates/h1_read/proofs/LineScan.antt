-- A scan moves along the lines.
use Rattle.std.proofs.Common.{◌≡◌, ◌≢◌, ℕ, zero, suc, ◌+◌, ◌-◌, ◌<◌, ◌≤◌, ◌==◌, Bool, true, false, if◌then◌else◌, List, [], ◌∷◌, ◌++◌, length, get_or, take, drop, refl, sym, ap, ◌∙◌, arith, subst}
use Rattle.std.proofs.lemmas.List.{drop_more, drop_all, take-append-drop, take_more, take_all}
use Rattle.std.proofs.lemmas.Bool.Decides.{nat_tests}
use Rattle.http_model.specs.Reading.{Reading, Partial}
use Rattle.http_model.specs.Lines.{line, first_line}
use Rattle.h1_read.specs.Limits.{lines_len, is_empty_end, IsLineEnd}
use Rattle.h1_read.proofs.LineParts.{Lacks, Lacks-append, line_at, line_open}
use Rattle.h1_read.proofs.HeadLaw.{not_empty}

-- Counting line feeds

lines_next : (s : List ℕ) (at n : ℕ) → at < length s → lines_len (suc n) (drop at s) ≡ suc (lines_len (if get_or s at 0 == 10 then n else suc n) (drop (at + 1) s))
unfolding lines_len
lines_next s at n inside = rw (drop_more s at 0 inside) refl

pub lines_end : (s : List ℕ) (at n : ℕ) → length s ≤ at → lines_len n (drop at s) ≡ 0
unfolding lines_len
lines_end s at n past = rw (drop_all at s past) refl

lines_step : (s : List ℕ) (at left : ℕ) → at < length s → 0 < left → (next : ℕ) → next ≡ (if get_or s at 0 == 10 then left - 1 else left)
    → lines_len left (drop at s) ≡ suc (lines_len next (drop (at + 1) s))
lines_step s at zero inside some next e = absurd (omega arith)
lines_step s at (suc n) inside some next e =
    let less : suc n - 1 ≡ n = omega arith in
    let same : next ≡ (if get_or s at 0 == 10 then n else suc n) = rw less at e in
    rw same (lines_next s at n inside)

pub lines_lf : (s : List ℕ) (at left : ℕ) → at < length s → 0 < left → get_or s at 0 ≡ 10
    → lines_len left (drop at s) ≡ suc (lines_len (left - 1) (drop (at + 1) s))
lines_lf s at left inside some is = lines_step s at left inside some (left - 1) (rw is refl)

pub lines_other : (s : List ℕ) (at left : ℕ) → at < length s → 0 < left → get_or s at 0 ≢ 10
    → lines_len left (drop at s) ≡ suc (lines_len left (drop (at + 1) s))
lines_other s at left inside some isnt = lines_step s at left inside some left (grind (arith, nat_tests, isnt))

-- The first line feed

pub lacks_more : (s : List ℕ) (at : ℕ) → at < length s → Lacks 10 (take at s) → get_or s at 0 ≢ 10 → Lacks 10 (take (at + 1) s)
lacks_more s at inside x isnt =
    subst (Lacks 10) (sym (take_more s at 0 inside)) (Lacks-append 10 (take at s) (get_or s at 0 ∷ []) x (grind (arith, nat_tests, isnt), tt))

pub line_found : (s : List ℕ) (at : ℕ) → at < length s → Lacks 10 (take at s) → get_or s at 0 ≡ 10 → IsLineEnd s (at + 1)
line_found s at inside x is = record {
  in_range = omega arith;
  first = take at s;
  reads =
      ap line (sym (take-append-drop at s) ∙ ap (λ t. take at s ++ t) (drop_more s at 0 inside ∙ ap (λ b. b ∷ drop (at + 1) s) is))
      ∙ line_at (take at s) (drop (at + 1) s) x;
}

-- Empty lines

pub first_more : (s : List ℕ) (at : ℕ) → at < length s → is_empty_end (get_or s at 0) (drop (at + 1) s) ≡ true → first_line (drop at s) ≡ first_line (drop (at + 1) s)
first_more s at inside e = ap first_line (drop_more s at 0 inside) ∙ by (is_empty_end (get_or s at 0) (drop (at + 1) s)) e
  where
    by : (t : Bool) → t ≡ true → ◌≡◌ {A = Reading (List ℕ)} (elim t [ true ↦ first_line (drop (at + 1) s) | false ↦ line (get_or s at 0 ∷ drop (at + 1) s) ]) (first_line (drop (at + 1) s))
    by true f = refl
    by false f = absurd cc

pub first_here : (s : List ℕ) (at : ℕ) → at < length s → is_empty_end (get_or s at 0) (drop (at + 1) s) ≡ false → first_line (drop at s) ≡ line (drop at s)
first_here s at inside e = rw (drop_more s at 0 inside) (not_empty (get_or s at 0) (drop (at + 1) s) e)

pub first_none : (s : List ℕ) (at : ℕ) → length s ≤ at → first_line (drop at s) ≡ line (drop at s)
first_none s at past = rw (drop_all at s past) refl

pub lacks_all : (s : List ℕ) (at : ℕ) → length s ≤ at → Lacks 10 (take at s) → line s ≡ Partial
lacks_all s at past x = line_open s (subst (Lacks 10) (take_all at s past) x)
