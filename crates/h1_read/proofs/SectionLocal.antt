-- A section depends on its bytes alone.
use Rattle.std.proofs.Common.{sym, ◌∙◌, ap, inl, inr}
use Rattle.std.proofs.lemmas.List.{append_cancel_right}
use Rattle.std.specs.Prelude.{ℕ, ◌≡◌, ◌⊎◌, ◌<◌, ◌≤◌, List, ◌++◌, length}
use Rattle.ext_msgs.specs.declared.lists.Field.{Field}
use Rattle.httparse.specs.Grammar.{print_section}
use Rattle.http_model.specs.Reading.{Reading, Whole, Partial, Bad, BadChunk, LongHead}
use Rattle.http_model.specs.Lines.{section}
use Rattle.http_model.specs.Heads.{head_limit, field_limit}
use Rattle.http_model.proofs.LinesStable.{section-stays}
use Rattle.http_model.proofs.Stable.{IsStable, limited-stays}
use Rattle.h1_read.specs.Agreement.{IsSection}
use Rattle.h1_read.specs.Sections.{trailer_section}
use Rattle.h1_read.proofs.SectionLaw.{section_found, section_exceeds, sections_agree, few_or_many}
use Rattle.h1_read.proofs.Kept.{IsLocal, limited_local, partial_short}

distinct : BadChunk ≡ LongHead → ⊥
distinct e = cc

section_local : IsLocal (section BadChunk field_limit)
section_local xs ys zs shown e =
    let i : IsSection (xs ++ ys) shown ys = (sections_agree BadChunk field_limit distinct).whole (xs ++ ys) shown ys e in
    let same : xs ≡ print_section i.fields i.last = append_cancel_right xs (print_section i.fields i.last) ys i.reads.1 in
    by i same (few_or_many field_limit (length i.fields))
  where
    apart : ◌≡◌ {A = Reading (List Field)} (Whole shown ys) (Bad LongHead) → ⊥
    apart e = cc

    by : (i : IsSection (xs ++ ys) shown ys) → xs ≡ print_section i.fields i.last → (length i.fields ≤ field_limit) ⊎ (field_limit < length i.fields)
        → section BadChunk field_limit (xs ++ zs) ≡ Whole shown zs
    by i same (inl h) =
        section_found BadChunk field_limit (xs ++ zs) i.fields i.last zs (i.reads.0, ap (λ l. l ++ zs) same) h ∙ ap (λ s. Whole s zs) i.same
    by i same (inr h) = absurd (apart (sym e ∙ section_exceeds BadChunk field_limit (xs ++ ys) i.fields i.last ys i.reads h))

pub trailers_local : IsLocal trailer_section
trailers_local = limited_local head_limit LongHead (section BadChunk field_limit) section_local

pub trailers_stay : IsStable trailer_section
trailers_stay = limited-stays head_limit LongHead (section BadChunk field_limit) (section-stays BadChunk field_limit)

pub trailers_short : (bytes : List ℕ) → trailer_section bytes ≡ Partial → length bytes < 32768
trailers_short bytes e = partial_short head_limit LongHead (section BadChunk field_limit) bytes e
