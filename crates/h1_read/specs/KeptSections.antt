-- A trailer section of which some bytes were kept, as its reader answers.
use Rattle.std.specs.Prelude.{ℕ, ◌≡◌, ◌≤◌, List, ◌++◌, length, drop}
use Rattle.ext_msgs.specs.declared.lists.Field.{Field}
use Rattle.http_model.specs.Bytes.{without, owned_names}
use Rattle.http_model.specs.Reading as reading
use Rattle.http_model.specs.Reading.{BadChunk, LongHead}
use Rattle.h1_read.specs.Sections.{trailer_section}
use Rattle.h1_read.specs.declared.section.SectionRead.{SectionRead}
use Rattle.h1_read.specs.declared.section.SectionRead.TheVariants.{Whole, Partial, Bad, Long}

-- it ends behind so many bytes of those that came
pub record IsSectionEnd (kept bytes : List ℕ) (trailers : List Field) (used : ℕ) : Type 0 where
  pub inside : used ≤ length bytes
  pub fields : List Field
  pub shown : trailers ≡ without owned_names fields
  pub reads : trailer_section (kept ++ bytes) ≡ reading.Whole fields (drop used bytes)

-- with what is kept then
abbrev pub IsSectionKept : List ℕ → List ℕ → List ℕ → SectionRead → Type 0
IsSectionKept kept bytes new (Whole trailers used) = IsSectionEnd kept bytes trailers used × (new ≡ kept)
IsSectionKept kept bytes new Partial = (trailer_section (kept ++ bytes) ≡ reading.Partial) × (new ≡ kept ++ bytes)
IsSectionKept kept bytes new Bad = (trailer_section (kept ++ bytes) ≡ reading.Bad BadChunk) × (new ≡ kept)
IsSectionKept kept bytes new Long = (trailer_section (kept ++ bytes) ≡ reading.Bad LongHead) × (new ≡ kept)
