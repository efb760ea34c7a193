use Rattle.std.proofs.Common.{sym, subst}
use Rattle.h1_outlet.proofs.Giving.{on_err}
use Rattle.exchange.specs.Flows.{FlowStands}
use Rattle.exchange.proofs.GivingBytes.{bytes_gone, filled_by, may_given, next_of, none_waits, stands_of}
use Rattle.exchange.proofs.GivingPart.{same_story}
use Rattle.exchange.proofs.flow.Flow.take.Goals as goal

pub returns-in_err-waits-clause-kept : goal.returns-in_err-waits-clause-kept
returns-in_err-waits-clause-kept c s t o = on_err c.from_residual.result (s, subst (FlowStands s) (sym c.in_err-waits.ensures.unchanged) t, same_story s)

pub returns-in_err-gave-clause-kept : goal.returns-in_err-gave-clause-kept
returns-in_err-gave-clause-kept c s t o =
    let (s', t', k, l) = filled_by s c.in_ok-waits.waits c.fill.new.self c.if-not-waits.false (c.in_ok-waits.ensures.filled s t o) in
    on_err c.from_residual-in_err-gave.result
    (s', record { reader = t'.reader; half = t'.half; outlet = c.in_err-gave.ensures.kept s'.flowed t'.outlet; is_past = t'.is_past; parts = t'.parts; way = t'.way }, k)

pub returns-in_default-clause-took : goal.returns-in_default-clause-took
returns-in_default-clause-took c s t o =
    let (s', t', k, l) = filled_by s c.in_ok-waits.waits c.fill.new.self c.if-not-waits.false (c.in_ok-waits.ensures.filled s t o) in
    absurd (none_waits s'.flowed c.args.max c.in_ok-gave.field-0 l (c.in_ok-gave.ensures.gives s'.flowed t'.outlet) c.in_default.not-Some)

pub given-requires : goal.given-requires
given-requires c =
    let (s, t, o) = c.requires.stands in
    let (s', t', k, l) = filled_by s c.in_ok-waits.waits c.fill.new.self c.if-not-waits.false (c.in_ok-waits.ensures.filled s t o) in (
      s'.past,
      t'.half,
      may_given s s' c.fill.new.self c.args.max c.in-Some.gave o t' k
          (next_of c.args.max s'.flowed c.in_ok-gave.field-0 c.in-Some.gave c.in-Some.is (c.in_ok-gave.ensures.gives s'.flowed t'.outlet)),
    )

pub returns-clause-took : goal.returns-clause-took
returns-clause-took c s t o =
    let (s', t', k, l) = filled_by s c.in_ok-waits.waits c.fill.new.self c.if-not-waits.false (c.in_ok-waits.ensures.filled s t o) in
    let n = next_of c.args.max s'.flowed c.in_ok-gave.field-0 c.in-Some.gave c.in-Some.is (c.in_ok-gave.ensures.gives s'.flowed t'.outlet) in
    bytes_gone s s' c.fill.new.self c.args.max c.in-Some.gave c.given.new.self c.take.new.self o t' k n
    (c.given.ensures s'.past t'.half (may_given s s' c.fill.new.self c.args.max c.in-Some.gave o t' k n))
    (stands_of s'.flowed c.in_ok-gave.field-0 c.in-Some.gave c.take.new.self c.in-Some.is (c.in_ok-gave.ensures.stands s'.flowed t'.outlet))
