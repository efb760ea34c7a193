-- A trailer section, as its reader answers.
use Rattle.std.specs.Prelude.{ℕ, ◌≡◌, ◌≤◌, ◌++◌, List, length, drop}
use Rattle.ext_msgs.specs.declared.lists.Field.{Field}
use Rattle.http_model.specs.Bytes.{without, owned_names}
use Rattle.http_model.specs.Reading.{Reading, BadChunk, LongHead, limited}
use Rattle.http_model.specs.Reading as reading
use Rattle.http_model.specs.Lines.{section}
use Rattle.http_model.specs.Heads.{head_limit, field_limit}
use Rattle.h1_read.specs.declared.section.SectionRead.{SectionRead}
use Rattle.h1_read.specs.declared.section.SectionRead.TheVariants.{Whole, Partial, Bad, Long}

-- what the bytes so far give of a trailer section
abbrev pub trailer_section : List ℕ → Reading (List Field)
trailer_section bytes = limited head_limit LongHead (section BadChunk field_limit) bytes

-- a section with these fields, without owned names, in the first so many bytes
pub record IsWholeSection (bytes : List ℕ) (trailers : List Field) (used : ℕ) : Type 0 where
  pub in_range : used ≤ length bytes
  pub fields : List Field
  pub shown : trailers ≡ without owned_names fields
  pub reads : trailer_section bytes ≡ reading.Whole fields (drop used bytes)
  -- it ends behind all bytes that only began it
  pub past : (kept more : List ℕ) → bytes ≡ kept ++ more → trailer_section kept ≡ reading.Partial → length kept ≤ used

abbrev pub IsSectionRead : List ℕ → SectionRead → Type 0
IsSectionRead bytes (Whole trailers used) = IsWholeSection bytes trailers used
IsSectionRead bytes Partial = trailer_section bytes ≡ reading.Partial
IsSectionRead bytes Bad = trailer_section bytes ≡ reading.Bad BadChunk
IsSectionRead bytes Long = trailer_section bytes ≡ reading.Bad LongHead
