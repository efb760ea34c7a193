-- A place is in the queue, and not in its front.
use Rattle.std.proofs.Common.{arith, rules, ◌≡◌, ℕ, sym, ap, ◌∙◌}
use Rattle.std.specs.List.{insert}
use Rattle.h2_sender.proofs.Placed.{placed_is, place_within}
use Rattle.h2_sender.proofs.Front.{front_within, place_behind, front_entered, front_joined}
use Rattle.h2_sender.proofs.places.place.Goals as goal

pub put-requires-clause-place : goal.put-requires-clause-place
put-requires-clause-place c =
    let within = place_within c.args.new c.args.frames.now.items in
    let at = c.place_of-at.ensures in
    omega arith

pub returns-then-free-clause-items : goal.returns-then-free-clause-items
returns-then-free-clause-items c =
    c.put.ensures.items
    ∙ ap (λ (n : ℕ). insert c.args.frames.now.items n c.args.new) c.place_of-at.ensures
    ∙ sym (placed_is c.args.new c.args.frames.now.items)

pub returns-then-free-clause-front : goal.returns-then-free-clause-front
returns-then-free-clause-front c =
    let behind = place_behind c.args.new c.args.front c.args.frames.now.items c.requires.front in
    let at = c.place_of-at.ensures in
    rw c.put.ensures.items (front_entered c.args.front c.place_of-at.result c.args.new c.args.frames.now.items c.requires.front (omega arith))

pub returns-then-at-front-clause-items : goal.returns-then-at-front-clause-items
returns-then-at-front-clause-items c =
    c.put.ensures.items
    ∙ ap (λ (n : ℕ). insert c.args.frames.now.items n c.args.new) c.place_of-at.ensures
    ∙ sym (placed_is c.args.new c.args.frames.now.items)

pub returns-then-at-front-clause-front : goal.returns-then-at-front-clause-front
returns-then-at-front-clause-front c =
    rw c.put.ensures.items (front_entered c.args.front c.place_of-at.result c.args.new c.args.frames.now.items c.requires.front (omega arith))

pub overflow_add-result : goal.overflow_add-result
overflow_add-result c =
    let within = front_within c.args.front c.args.frames.now.items c.requires.front in
    search rules

pub returns-clause-items : goal.returns-clause-items
returns-clause-items c =
    c.put.ensures.items
    ∙ ap (λ (n : ℕ). insert c.args.frames.now.items n c.args.new) c.place_of-at.ensures
    ∙ sym (placed_is c.args.new c.args.frames.now.items)

pub returns-clause-front : goal.returns-clause-front
returns-clause-front c =
    let behind = place_behind c.args.new c.args.front c.args.frames.now.items c.requires.front in
    let at = c.place_of-at.ensures in
    let there : c.place_of-at.result ≡ c.args.front = omega arith in
    rw c.put.ensures.items (front_joined c.args.front c.place_of-at.result c.args.new c.args.frames.now.items c.requires.front there (search rules))
