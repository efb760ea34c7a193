use Rattle.std.proofs.Common.{◌≡◌, ◌++◌, ℕ, ◌≤◌, List, [], ◌∷◌, arith, append_assoc, ◌/◌, ◌%◌, ◌+◌, ◌∙◌}
use Rattle.std.proofs.lemmas.List.{take-append-le}
use Rattle.std.proofs.lemmas.Grind.{common_steps}
use Rattle.pb_wire.specs.Canonical.{shortest}
use Rattle.pb_wire.proofs.Shortest.{shortest_more}
use Rattle.pb_wire.proofs.writer.push_varint.Goals as goal

-- a group more, and the rest below it
step : (front : List ℕ) (n : ℕ) → 128 ≤ n → (front ++ (n % 128 + 128) ∷ []) ++ shortest (n / 128) ≡ front ++ shortest n
step front n large = rw (shortest_more n large, append_assoc)

pub loop-rest-preserved : goal.loop-rest-preserved
loop-rest-preserved c = rw c.in_ok-push.ensures.items (record {
  whole = step c.loop-rest.out.items c.loop-rest.rest c.loop-rest-test.true ∙ c.loop-rest.invariant.whole;
  longer = grind (arith, common_steps, c.in_ok-push.ensures.len);
  kept = grind (arith, common_steps, take-append-le);
})
