-- What goes last goes to the end; the search ends at a frame that blocks the way.
use Rattle.std.proofs.Common.{arith, rules, ◌≡◌, ◌<◌, ◌+◌, ◌-◌, true, List, [], refl, length, get_or, drop, ℕ, ap, sym, ◌∙◌}
use Rattle.h2_model.specs.Queue.{Waiting, stays_behind}
use Rattle.h2_sender.specs.Places.{place_of}
use Rattle.h2_sender.proofs.Placed.{place_of_last, place_blocked}
use Rattle.h2_sender.proofs.Front.{front_within, none_behind, place_behind}
use Rattle.h2_sender.proofs.places.place_of.Goals as goal

pub returns-then-goes_last : goal.returns-then-goes_last
returns-then-goes_last c =
    let end = place_of_last c.args.new.now c.args.frames.now.items (sym c.goes_last.ensures ∙ c.if-goes_last.true) in
    search rules

pub returns-then-stays_behind : goal.returns-then-stays_behind
returns-then-stays_behind c =
    let queue : List Waiting = c.args.frames.now.items in
    let earlier : Waiting = c.index-earlier.result.now in
    let next : c.places.i - 1 + 1 ≡ c.places.i = omega arith in
    let there : c.places.i - 1 < length queue = search rules in
    let blocks : stays_behind c.args.new.now.frame (get_or queue (c.places.i - 1) earlier) ≡ true =
    ap (stays_behind c.args.new.now.frame) (sym c.index-earlier.ensures) ∙ sym c.stays_behind.ensures ∙ c.if-stays_behind.true in
    c.places.invariant.1
    ∙ ap (λ (n : ℕ). n + place_of c.args.new.now (drop n queue)) (sym next)
    ∙ sym (place_blocked c.args.new.now queue (c.places.i - 1) earlier there blocks)

pub returns : goal.returns
returns c =
    let there : c.places.i ≡ c.args.front = omega arith in
    c.places.invariant.1
    ∙ ap (λ (n : ℕ). n + place_of c.args.new.now (drop n c.args.frames.now.items)) there
    ∙ sym (place_behind c.args.new.now c.args.front c.args.frames.now.items c.requires)

pub places-init : goal.places-init
places-init c =
    let within = front_within c.args.front c.args.frames.now.items c.requires in
    let none : drop c.len-len.result c.args.frames.now.items ≡ [] = none_behind c.len-len.result c.args.frames.now.items (search rules) in
    (omega arith, rw none (omega arith), rw none refl)
