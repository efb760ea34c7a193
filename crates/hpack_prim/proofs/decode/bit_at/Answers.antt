use Rattle.std.proofs.Common.{sym, length, ◌/◌}
use borrow.Author.Tests.{ltb-true, ltb-false}
use Rattle.std.proofs.lemmas.List.{get_or_read}
use Rattle.hpack_prim.proofs.BitLemmas.{bit_is, no_bit}
use Rattle.hpack_prim.proofs.decode.bit_at.Goals as goal

pub returns-in_default-clause-bit : goal.returns-in_default-clause-bit
returns-in_default-clause-bit c = no_bit c.args.bytes.now c.args.place (ltb-false (c.args.place / 8) (length c.args.bytes.now) (sym c.in_default.ensures.lookup.0))

pub returns-clause-bit : goal.returns-clause-bit
returns-clause-bit c =
    let inside = ltb-true (c.args.place / 8) (length c.args.bytes.now) (sym c.in-Some.ensures.lookup.0) in
    bit_is c.args.bytes.now c.args.place c.in-Some.byte.now inside (get_or_read c.args.bytes.now (c.args.place / 8) c.in-Some.byte.now inside c.in-Some.ensures.lookup.1 0)
