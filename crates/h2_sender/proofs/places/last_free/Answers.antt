-- The front has none.
use Rattle.std.proofs.Common.{arith, rules, ◌≡◌, [], drop, refl, subst}
use Rattle.std.specs.List.{filter}
use Rattle.h2_model.specs.Queue.{is_free_of}
use Rattle.h2_sender.proofs.Front.{front_within, none_behind, no_free_in}
use Rattle.h2_sender.proofs.places.last_free.Goals as goal

pub loop-i-init : goal.loop-i-init
loop-i-init c =
    let within = front_within c.args.front c.args.frames.now.items c.requires in
    let none : drop c.len-i.result c.args.frames.now.items ≡ [] = none_behind c.len-i.result c.args.frames.now.items (search rules) in
    (omega arith, rw none refl)

pub returns : goal.returns
returns c =
    let there : c.loop-i.i ≡ c.args.front = omega arith in
    no_free_in c.args.stream c.args.front c.args.frames.now.items c.requires
    (subst (λ k. filter (is_free_of c.args.stream) (drop k c.args.frames.now.items) ≡ []) there c.loop-i.invariant.1)
