use Rattle.http_model.specs.Reading.{BadChunk}
use Rattle.http_model.specs.Heads.{field_limit}
use Rattle.h1_read.proofs.SectionLaw.{sections_agree}
use Rattle.h1_read.proofs.laws.section_grammar.Goals as goal

pub returns : goal.returns
returns c = sections_agree BadChunk field_limit (λ e. absurd cc)
