-- The bytes of a field block.
use Rattle.std.proofs.Common.{◌≡◌, ◌<◌, List, length, drop, ℕ, ap, sym, subst, ◌∙◌}
use Rattle.h2_frames.specs.declared.frame.Frame.{Frame}
use Rattle.h2_model.specs.Queue.{bytes_of}
use Rattle.h2_sender.specs.Outgoing.{block_bytes}
use Rattle.h2_frames.proofs.Copies.{copied_of}
use Rattle.h2_sender.proofs.Blocks.{block_is}
use Rattle.h2_sender.proofs.frames.copy_bytes.Goals as goal

pub copy_block-requires-clause-there : goal.copy_block-requires-clause-there
copy_block-requires-clause-there c =
    let whole : bytes_of c.args.frame.now ≡ block_bytes c.in-Headers.stream c.bytes.result.now c.in-Headers.last =
    ap bytes_of c.in-Headers.is
    ∙ sym (block_is c.in-Headers.stream c.in-Headers.block c.in-Headers.last c.in-Headers.field-3)
    ∙ ap (λ (b : List ℕ). block_bytes c.in-Headers.stream b c.in-Headers.last) (sym c.bytes.ensures.list) in
    subst (λ (b : List ℕ). c.args.at < length b) whole c.requires.there

pub returns-in-Headers : goal.returns-in-Headers
returns-in-Headers c =
    copied_of _ _ _ _ _ _ (ap (λ (b : List ℕ). drop c.args.at (block_bytes c.in-Headers.stream b c.in-Headers.last)) c.bytes.ensures.list
    ∙ ap (drop c.args.at) (block_is c.in-Headers.stream c.in-Headers.block c.in-Headers.last c.in-Headers.field-3)
    ∙ ap (λ (f : Frame). drop c.args.at (bytes_of f)) (sym c.in-Headers.is)) c.copy_block.ensures
