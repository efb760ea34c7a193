use Rattle.std.proofs.Common.{arith, sym, subst}
use Rattle.h1_message.specs.Feeding.{Fails}
use Rattle.h1_message.proofs.BodyLaw.{along_ends, along_whole, along_fails}
use Rattle.h1_message.proofs.body.feed_body.Goals as goal

pub returns-in-Ok-More-default : goal.returns-in-Ok-More-default
returns-in-Ok-More-default c =
    let got = rw c.in-Ok-More-default.field-0-0-is at c.in-Ok-More-default.ensures in
    rw c.fed.ensures
    (record {
      short = omega (arith, c.pieces.invariant.short, c.pieces.invariant.in_range);
      next = along_ends c.args.body c.pieces.body c.feed.new.self c.args.bytes.now c.pieces.content.items c.behind-rest.result.now c.pieces.at c.in-Ok-More-default.field-0-1
          c.pieces.invariant c.behind-rest.ensures got.0 got.1 got.2;
    })

pub returns-in-Ok-End-default : goal.returns-in-Ok-End-default
returns-in-Ok-End-default c =
    let got = rw c.in-Ok-End-default.field-0-0-is at c.in-Ok-End-default.ensures in
    rw c.fed-in-Ok-End-default.ensures
    (record {
      short = omega (arith, c.pieces.invariant.short, c.pieces.invariant.in_range);
      next = along_whole c.args.body c.pieces.body c.args.bytes.now c.pieces.content.items c.behind-rest.result.now c.pieces.at c.in-Ok-End-default.field-0-1 c.in-Ok-End-default.trailers
          c.pieces.invariant c.behind-rest.ensures got.0;
    })

pub returns-in-Err : goal.returns-in-Err
returns-in-Err c =
    let e = c.in_ok-named-in-Err.ensures in
    rw c.fed-in-Err.ensures
    (record {
      short = omega (arith, c.pieces.invariant.short, c.pieces.invariant.in_range);
      next = subst (λ f. Fails c.args.body c.args.bytes.now c.pieces.content.items f) (sym e.0)
          (along_fails c.args.body c.pieces.body c.feed.new.self c.args.bytes.now c.pieces.content.items c.behind-rest.result.now c.pieces.at c.in-Err.fault
          c.pieces.invariant c.behind-rest.ensures e.1 c.in-Err.ensures);
    })
