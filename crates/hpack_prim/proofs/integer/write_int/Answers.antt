use Rattle.std.proofs.Common.{ℕ, List, ◌+◌, ◌∙◌, ap, sym, length, arith, ◌<◌, ◌++◌, refl, length-append, length-take, ◌-◌}
use Rattle.hpack_prim.specs.Integers.{int}
use Rattle.hpack_prim.proofs.IntegerLemmas.{fits_first, int_last, int_more, five, length_last, length_more, written_more, written_last, drop_next, set_first}
use Rattle.std.proofs.lemmas.Grind.{common_steps}
use Rattle.hpack_prim.proofs.integer.write_int.Goals as goal

pub overflow_add-out : goal.overflow_add-out
overflow_add-out c = omega (arith, fits_first c.args.prefix c.args.first c.args.value)

pub overflow_add-out-2 : goal.overflow_add-out-2
overflow_add-out-2 c = omega (arith, fits_first c.args.prefix c.args.first c.ones-full.result)

pub bounds-out-at : goal.bounds-out-at
bounds-out-at c = omega (arith, length_more c.loop-rest.rest c.loop-rest-test.true)

pub bounds-out-at-2 : goal.bounds-out-at-2
bounds-out-at-2 c = omega (arith, length_last c.loop-rest.rest c.loop-rest-test.false)

pub returns-then-value-from-clause-counted : goal.returns-then-value-from-clause-counted
returns-then-value-from-clause-counted c = sym (ap length (int_last c.args.prefix c.args.first c.args.value c.ones-full.result c.ones-full.ensures (omega arith)))

pub returns-then-value-from-clause-written : goal.returns-then-value-from-clause-written
returns-then-value-from-clause-written c = rw (int_last c.args.prefix c.args.first c.args.value c.ones-full.result c.ones-full.ensures (omega arith)) (set_first c.args.out.now (c.args.first + c.args.value) c.requires.room)

pub loop-rest-init : goal.loop-rest-init
loop-rest-init c =
    let more = int_more c.args.prefix c.args.first c.args.value c.ones-full.result c.ones-full.ensures (omega arith) in
    let first = set_first c.args.out.now (c.args.first + c.ones-full.result) c.requires.room in
    record {
      whole = rw (first, c.from-2.ensures) (sym more);
      behind = rw first refl;
      room = grind (arith, common_steps);
      count = omega (arith, five (c.args.value - c.from-2.result) (omega arith));
    }

pub loop-rest-preserved : goal.loop-rest-preserved
loop-rest-preserved c = record {
  whole = written_more c.loop-rest.out _ c.loop-rest.at c.loop-rest.rest c.loop-rest-test.true (omega (arith, length_more c.loop-rest.rest c.loop-rest-test.true)) c.loop-rest.invariant.whole;
  behind = grind (arith, common_steps, drop_next c.loop-rest.out c.args.out.now c.loop-rest.at c.loop-rest.invariant.behind);
  room = grind (arith, common_steps);
  count = omega (arith, length_more c.loop-rest.rest c.loop-rest-test.true);
}

pub returns-clause-written : goal.returns-clause-written
returns-clause-written c =
    written_last c.loop-rest.out _ c.loop-rest.at c.loop-rest.rest c.loop-rest-test.false (omega (arith, length_last c.loop-rest.rest c.loop-rest-test.false)) c.loop-rest.invariant.whole
    ∙ ap (λ (v : List ℕ). int c.args.prefix c.args.first c.args.value ++ v) (drop_next c.loop-rest.out c.args.out.now c.loop-rest.at c.loop-rest.invariant.behind)

pub returns-clause-counted : goal.returns-clause-counted
returns-clause-counted c =
    let e = ap length c.loop-rest.invariant.whole in
    let l = length_last c.loop-rest.rest c.loop-rest-test.false in
    let inside : c.loop-rest.at < length c.loop-rest.out = omega arith in
    omega (arith, simp (length-append, length-take) at e)
