use Rattle.std.proofs.Common.{◌≡◌, ℕ, ◌+◌, ◌-◌, ◌%◌, ◌*◌, ◌^◌, ◌≤◌, ◌∙◌, ap, sym, length, suc, drop, List, ◌∷◌, arith, ◌<◌, get_or}
use Rattle.hpack_prim.specs.Integers.{groups_at}
use Rattle.hpack_prim.proofs.IntegerLemmas.{product, weight_small, weight_more, groups_more}
use Rattle.std.proofs.lemmas.List.{drop_more, get_or_read}
use borrow.Author.Tests.{ltb-true}
use Rattle.hpack_prim.proofs.integer.read_groups.Goals as goal

pub overflow_mul-value : goal.overflow_mul-value
overflow_mul-value c = omega (arith, product c.loop.weight c.from.result c.loop.counter c.loop.invariant.weight (omega arith) (omega arith))

pub overflow_add-value : goal.overflow_add-value
overflow_add-value c = omega (arith, product c.loop.weight c.from.result c.loop.counter c.loop.invariant.weight (omega arith) (omega arith))

pub overflow_mul-weight : goal.overflow_mul-weight
overflow_mul-weight c = omega (arith, weight_small c.loop.counter (omega arith))

-- one group on
step : (k value weight at b : ℕ) (bytes : List ℕ) (x : ℕ) → k < 5 → at < length bytes → x ≡ b % 128 → b ≡ get_or bytes at 0 → value + weight * x < 2 ^ 32 → 128 ≤ b
    → groups_at (5 - (k + 1)) (value + weight * x) (weight * 128) (at + 1) (drop (at + 1) bytes) ≡ groups_at (5 - k) value weight at (drop at bytes)
step k value weight at b bytes x less inside e f fits large =
    let five : 5 - k ≡ suc (5 - (k + 1)) = omega arith in
    let here : drop at bytes ≡ b ∷ drop (at + 1) bytes = rw (f) (drop_more bytes at 0 inside) in
    rw (five, here, e) (sym (groups_more (5 - (k + 1)) value weight at b (drop (at + 1) bytes) (rw (← e) fits) large))

pub loop-preserved : goal.loop-preserved
loop-preserved c = record {
  whole = step c.loop.counter c.loop.value c.loop.weight c.loop.place c.in-Some.byte.now c.args.bytes.now c.from.result (omega arith) (ltb-true c.loop.place (length c.args.bytes.now) (sym c.in-Some.ensures.lookup.0)) c.from.ensures (get_or_read c.args.bytes.now c.loop.place c.in-Some.byte.now (ltb-true c.loop.place (length c.args.bytes.now) (sym c.in-Some.ensures.lookup.0)) c.in-Some.ensures.lookup.1 0) c.if-value-ge4294967296.false c.if-byte-lt128.false ∙ c.loop.invariant.whole;
  weight = ap (λ (w : ℕ). w * 128) c.loop.invariant.weight ∙ sym (weight_more c.loop.counter);
  count = omega arith;
  value = c.if-value-ge4294967296.false;
  inside = omega (arith, ltb-true c.loop.place (length c.args.bytes.now) (sym c.in-Some.ensures.lookup.0));
  past = omega (arith, c.loop.invariant.past);
}
