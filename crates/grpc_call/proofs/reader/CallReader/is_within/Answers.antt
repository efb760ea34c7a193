use Rattle.std.proofs.Common.{arith, ◌≡◌, ◌∙◌, ◌==◌, sym, ap, not, vec_len, length}
use Rattle.grpc_call.specs.Blocks.{is_some_byte}
use Rattle.grpc_call.specs.Reading.{Response}
use Rattle.grpc_call.proofs.Messages.{is_within, tells_some}
use Rattle.grpc_call.proofs.reader.CallReader.is_within.Goals as goal

pub returns : goal.returns
returns c =
    let len : vec_len c.self.inside.prefix ≡ length c.self.inside.prefix.items = omega arith in
    ap not c.is_empty.ensures ∙ ap (λ n. not (n == 0)) len ∙ tells_some c.self.inside.prefix.items
    ∙ sym (is_within c.self.inside.prefix.items c.self.inside.message.items c.self.invariant.parted) ∙ ap (λ (r : Response). is_some_byte r.rest) c.self.view_is
