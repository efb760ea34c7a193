use Rattle.std.proofs.Common.{◌∙◌, ap, is_some}
use Rattle.http_model.specs.Wire.{reply}
use Rattle.header_mutation.specs.Mutated.{first_bad, items}
use Rattle.filter_model.specs.Outgoing.{immediate_reply}
use Rattle.header_mutation.specs.declared.rules.PartKind.TheVariants.{ResponseHead}
use Rattle.exchange.proofs.Replies.{as_written, none_of, some_of, valid}
use Rattle.exchange.proofs.reply.immediate_bytes.Goals as goal

pub returns-in-Err : goal.returns-in-Err
returns-in-Err c =
    c.in_ok-none-in-Err.ensures.none
    ∙ none_of (is_some (first_bad (items ResponseHead c.args.reply.now.headers))) (immediate_reply c.args.to_head c.args.reply.now)
    (c.in_ok-none-in-Err.ensures.invalid c.as_bytes.result.now c.args.reply.now.headers c.in-Err.ensures.err)

pub returns : goal.returns
returns c =
    some_of (is_some (first_bad (items ResponseHead c.args.reply.now.headers))) (immediate_reply c.args.to_head c.args.reply.now) c.in_ok-bytes.bytes
    (valid c.as_bytes.result.now c.args.reply.now.headers c.in-Ok.head c.in-Ok.ensures.ok)
    (c.in_ok-bytes.ensures
    ∙ ap (λ b. reply c.args.to_head c.args.reply.now.code c.in-Ok.head b) c.bytes.ensures.list
    ∙ as_written c.args.to_head c.args.reply.now c.as_bytes.result.now c.in-Ok.head (c.as_bytes.ensures.value ∙ c.in_ok-digits.ensures.ok) c.in-Ok.ensures.ok)
