use Rattle.http_model.specs.Heads.{is_authority_byte}
use Rattle.h1_read.proofs.TargetForms.{Splits}
use Rattle.h1_read.proofs.target.authority_len.Given as goal

abbrev pub invariant-loop-i : goal.invariant-loop-i
invariant-loop-i l = Splits is_authority_byte l.bytes l.i
