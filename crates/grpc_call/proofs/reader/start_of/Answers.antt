use Rattle.std.proofs.Common.{arith, ◌∙◌, ◌+◌, ◌≤◌, ◌++◌, refl, length, length-append, Some, None}
use Rattle.grpc_call.proofs.First.{parted_short, parted_long, unless_short, unless_whole}
use Rattle.grpc_call.proofs.reader.start_of.Goals as goal

pub returns-then-prefix-bytes-lt-PREFIX : goal.returns-then-prefix-bytes-lt-PREFIX
returns-then-prefix-bytes-lt-PREFIX c = parted_short c.args.limit c.args.prefix.now c.args.message.now c.args.bytes.now c.requires.parted c.if-prefix-bytes-lt-PREFIX.true

pub returns-in-Some : goal.returns-in-Some
returns-in-Some c =
    parted_long c.args.limit c.args.prefix.now c.args.message.now c.args.bytes.now (Some c.in-Some.fault) _ c.requires.parted c.if-prefix-bytes-lt-PREFIX.false c.in-Some.ensures refl

pub returns-then-prefix-message : goal.returns-then-prefix-message
returns-then-prefix-message c =
    let n = length-append (c.args.prefix.now ++ c.args.message.now) c.args.bytes.now in
    let m = length-append c.args.prefix.now c.args.message.now in
    parted_long c.args.limit c.args.prefix.now c.args.message.now c.args.bytes.now None c.size_of-size.result c.requires.parted c.if-prefix-bytes-lt-PREFIX.false c.in_default.ensures c.size_of-size.ensures
    ∙ unless_short c.size_of-size.result (c.args.prefix.now ++ c.args.message.now ++ c.args.bytes.now) (omega (arith, c.if-prefix-message.true))

pub returns : goal.returns
returns c =
    let n = length-append (c.args.prefix.now ++ c.args.message.now) c.args.bytes.now in
    let m = length-append c.args.prefix.now c.args.message.now in
    let there : 5 + c.size_of-size.result ≤ length (c.args.prefix.now ++ c.args.message.now ++ c.args.bytes.now) = omega (arith, c.if-prefix-message.false) in (
      parted_long c.args.limit c.args.prefix.now c.args.message.now c.args.bytes.now None c.size_of-size.result c.requires.parted c.if-prefix-bytes-lt-PREFIX.false c.in_default.ensures c.size_of-size.ensures
          ∙ unless_whole c.size_of-size.result (c.args.prefix.now ++ c.args.message.now ++ c.args.bytes.now) there,
      there,
    )
