use Rattle.hpack_core.proofs.WritingLemmas.{SoFar}
use Rattle.hpack_core.proofs.writing.push_fields.Given as goal

abbrev pub invariant-loop-field : goal.invariant-loop-field
invariant-loop-field l = SoFar l.field-items l.field-index l.fn.out.items l.out.items
