-- How many bytes are written for a field block.
use Rattle.std.proofs.Common.{arith, ◌≡◌, ◌+◌, ◌-◌, ◌*◌, ◌/◌, length, sym, ap, ◌∙◌}
use Rattle.h2_model.specs.Queue.{bytes_of}
use Rattle.h2_sender.specs.Outgoing.{block_bytes}
use Rattle.h2_sender.proofs.Blocks.{block_is, block_length}
use Rattle.h2_sender.proofs.frames.len_of.Goals as goal

pub returns-in-Headers-clause-len : goal.returns-in-Headers-clause-len
returns-in-Headers-clause-len c =
    let whole : length (bytes_of c.args.frame.now) ≡ length (block_bytes c.in-Headers.field-0 c.in-Headers.block c.in-Headers.field-2) =
    ap length (ap bytes_of c.in-Headers.is ∙ sym (block_is c.in-Headers.field-0 c.in-Headers.block c.in-Headers.field-2 c.in-Headers.field-3)) in
    let size = block_length c.in-Headers.field-0 c.in-Headers.block c.in-Headers.field-2 in
    let same = ap length c.bytes.ensures.list in
    let counted : c.block_len.result ≡ 9 + length c.bytes.result.now + 9 * ((length c.bytes.result.now - 1) / 16384) = c.block_len.ensures.len in
    omega arith
