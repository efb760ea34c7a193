use Rattle.std.proofs.Common.{arith, ◌≡◌, ℕ, List, take, drop, Some, slice_index_or, length-drop, ap, sym, ◌∙◌}
use Rattle.std.proofs.lemmas.List.{drop-drop}
use Rattle.body_hold.specs.Held.{total}
use Rattle.body_hold.proofs.Pieces.{total_step, total_within, piece_is}
use Rattle.body_hold.proofs.moves.piece_at.Goals as goal

pub split_at-requires : goal.split_at-requires
split_at-requires c =
    let before = total_within c.args.lengths.now c.pieces.i (omega arith) in
    rw c.pieces.invariant (rw length-drop (omega arith))

pub pieces-preserved : goal.pieces-preserved
pieces-preserved c =
    c.split_at.ensures.back
    ∙ ap (drop (slice_index_or c.args.lengths.now c.pieces.i 0)) c.pieces.invariant
    ∙ drop-drop (slice_index_or c.args.lengths.now c.pieces.i 0) (total (take c.pieces.i c.args.lengths.now)) c.args.bytes.now
    ∙ ap (λ (n : ℕ). drop n c.args.bytes.now) (sym (total_step c.args.lengths.now c.pieces.i (omega arith)))

pub split_at-requires-2 : goal.split_at-requires-2
split_at-requires-2 c =
    let i_is : c.pieces.i ≡ c.args.k = omega arith in
    let before = total_within c.args.lengths.now c.args.k (omega arith) in
    rw c.pieces.invariant (rw i_is (rw length-drop (omega arith)))

pub returns-clause-piece : goal.returns-clause-piece
returns-clause-piece c =
    let i_is : c.pieces.i ≡ c.args.k = omega arith in
    let rest_is : c.pieces.rest.now ≡ drop (total (take c.args.k c.args.lengths.now)) c.args.bytes.now = c.pieces.invariant ∙ ap (λ (i : ℕ). drop (total (take i c.args.lengths.now)) c.args.bytes.now) i_is in
    piece_is c.args.lengths.now c.args.bytes.now c.args.k (omega arith)
    ∙ ap (λ (rest : List ℕ). Some (take (slice_index_or c.args.lengths.now c.args.k 0) rest)) (sym rest_is)
    ∙ ap Some (sym c.split_at-2.ensures.front)
