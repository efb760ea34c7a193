-- The last end is placed behind the others.
use Rattle.std.proofs.Common.{rules, ◌≡◌, true, List, get_or, None, ap, sym, subst, ◌∙◌}
use Rattle.std.specs.List.{remove}
use Rattle.h2_model.specs.Queue.{Waiting, placed, is_free_of, with_place, with_end_placed}
use Rattle.h2_sender.specs.Places.{IsFront, IsLastFree}
use Rattle.h2_sender.proofs.Ends.{last_end, no_ends}
use Rattle.h2_sender.proofs.Front.{front_left, free_is}
use Rattle.h2_sender.proofs.places.+place_ends.Goals as goal

pub returns-in_default-clause-items : goal.returns-in_default-clause-items
returns-in_default-clause-items t c =
    let none : IsLastFree c.args.stream c.args.frames.now.items None = subst (IsLastFree c.args.stream c.args.frames.now.items) c.in_default.is c.last_free.ensures in
    sym (no_ends c.args.stream c.args.frames.now.items none)

pub returns-clause-items : goal.returns-clause-items
returns-clause-items t c =
    let queue : List Waiting = c.args.frames.now.items in
    let last : Waiting = c.in-Some-remove.end in
    let free : is_free_of c.args.stream last ≡ true = ap (is_free_of c.args.stream) c.in-Some-remove.ensures.value ∙ c.in-Some.ensures.1 last in
    c.place.ensures.items
    ∙ ap (λ (w : Waiting). placed w c.place_ends-rest.new.frames.items) c.with_place.ensures
    ∙ ap (placed (with_place last)) (c.place_ends-rest.ensures.items ∙ ap (with_end_placed c.args.stream) c.in-Some-remove.ensures.items)
    ∙ sym (last_end c.args.stream queue c.in-Some.i last c.in-Some.ensures.0 c.in-Some-remove.ensures.value free c.in-Some.ensures.2)

pub place_ends-rest-requires : goal.place_ends-rest-requires
place_ends-rest-requires t c =
    let queue : List Waiting = c.args.frames.now.items in
    let last : Waiting = c.in-Some-remove.end in
    let front : IsFront c.args.front (remove queue c.in-Some.i) =
    front_left c.args.front c.in-Some.i queue last c.requires.front c.in-Some.ensures.0 (free_is c.args.stream (get_or queue c.in-Some.i last) (c.in-Some.ensures.1 last)) in
    (search rules, (search rules, rw c.in-Some-remove.ensures.items front))
