-- Where nothing ends a trailer section or makes it bad, it goes on.
use Rattle.std.proofs.Common.{sym, ◌∙◌, ap, subst, arith, append-nil, length-append}
use Rattle.std.specs.Prelude.{ℕ, ◌≡◌, ◌+◌, ◌<◌, ◌≤◌, true, List, [], ◌∷◌, ◌++◌, length, take, drop}
use Rattle.http_model.specs.Reading.{Whole, Partial, Bad, Fault, BadChunk, LongHead, Stays}
use Rattle.http_model.specs.Lines.{section}
use Rattle.http_model.specs.Heads.{head_limit, field_limit}
use Rattle.h1_read.specs.declared.place.Shape.TheVariants.{Start}
use Rattle.h1_read.specs.declared.place.Place.{Place}
use Rattle.h1_read.specs.Places.{places, section_start, is_stop, is_quiet, IsQuiet}
use Rattle.h1_read.specs.Sections.{trailer_section}
use Rattle.h1_read.proofs.PlaceLines.{section_goes_on, quiet_end, is_in}
use Rattle.h1_read.proofs.PlaceHeads.{places-append}
use Rattle.h1_read.proofs.SectionLocal.{trailers_stay}
use Rattle.std.proofs.lemmas.List.{take-append-drop, drop-append-le}
use Rattle.ext_msgs.specs.declared.lists.Field.{Field}
use Rattle.h1_read.proofs.ByLimit.{limited_short}

goes_on : (kept more : List ℕ) → trailer_section kept ≡ Partial → length (kept ++ more) < head_limit → is_quiet (places section_start kept) more ≡ true
    → trailer_section (kept ++ more) ≡ Partial
goes_on kept [] e h q = ap trailer_section (append-nil kept) ∙ e
goes_on kept (b ∷ more) e h q =
    limited_short head_limit LongHead (section BadChunk field_limit) (kept ++ b ∷ more) h
    ∙ section_goes_on BadChunk field_limit (kept ++ b ∷ more)
    (is_in field_limit Start (kept ++ b ∷ more) (ap is_stop (places-append section_start kept (b ∷ more)) ∙ quiet_end (places section_start kept) b more q))

-- what is kept then, and where it ends
pub record IsOn (old bytes all : List ℕ) (now : Place) : Type 0 where
  pub open_still : trailer_section (old ++ bytes) ≡ Partial
  pub begun : trailer_section all ≡ Partial
  pub here : now ≡ places section_start all

pub quiet_on : (old bytes all : List ℕ) (place now : Place) → trailer_section old ≡ Partial → place ≡ places section_start old → IsQuiet place bytes now
    → length old + length bytes < 32768 → all ≡ old ++ bytes → IsOn old bytes all now
quiet_on old bytes all place now o e q h f =
    let more : trailer_section (old ++ bytes) ≡ Partial = goes_on old bytes o (omega (arith, h, length-append old bytes)) (ap (λ p. is_quiet p bytes) (sym e) ∙ q.quiet) in
    record {
      open_still = more;
      begun = ap trailer_section f ∙ more;
      here = q.ends ∙ ap (λ p. places p bytes) e ∙ sym (places-append section_start old bytes) ∙ ap (places section_start) (sym f);
    }

-- A part tells the section

pub whole_from : (bytes part : List ℕ) (n used : ℕ) (fields : List Field) → part ≡ take n bytes → used ≤ length part → trailer_section part ≡ Whole fields (drop used part)
    → trailer_section bytes ≡ Whole fields (drop used bytes)
whole_from bytes part n used fields f h e =
    let all : bytes ≡ part ++ drop n bytes = sym (take-append-drop n bytes) ∙ ap (λ l. l ++ drop n bytes) (sym f) in
    ap trailer_section all
    ∙ subst (λ r. Stays r (drop n bytes) (trailer_section (part ++ drop n bytes))) e (trailers_stay part (drop n bytes))
    ∙ ap (Whole fields) (sym (drop-append-le used part (drop n bytes) h) ∙ ap (drop used) (sym all))

pub bad_from : (bytes part : List ℕ) (n : ℕ) (bad : Fault) → part ≡ take n bytes → trailer_section part ≡ Bad bad → trailer_section bytes ≡ Bad bad
bad_from bytes part n bad f e =
    let all : bytes ≡ part ++ drop n bytes = sym (take-append-drop n bytes) ∙ ap (λ l. l ++ drop n bytes) (sym f) in
    ap trailer_section all ∙ subst (λ r. Stays r (drop n bytes) (trailer_section (part ++ drop n bytes))) e (trailers_stay part (drop n bytes))
