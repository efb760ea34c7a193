use Rattle.std.proofs.Common.{ℕ, List, subst}
use Rattle.hpack_core.specs.Writing.{StringWritten, NameWritten, name_number}
use Rattle.hpack_core.proofs.WritingLemmas.{literal_written}
use Rattle.hpack_core.proofs.writing.push_field.Goals as goal

pub returns : goal.returns
returns c =
    let n = c.in_ok-push_name.ensures in let v = c.in_ok-push_string.ensures in
    literal_written c.args.field.now n.0 v.0 c.args.out.now.items c.push_name.new.out.items c.push_string.new.out.items c.in_default.ensures
    (subst (λ (t : List ℕ). NameWritten (name_number t) t n.0) c.bytes.ensures.list n.1) (subst (λ (t : List ℕ). StringWritten t v.0) c.bytes-2.ensures.list v.1) n.2 v.2
