-- One of the pieces that follow one another.
use Rattle.std.proofs.Common.{rules, arith, ◌≡◌, ◌≤◌, ◌<◌, ◌+◌, List, [], ◌∷◌, length, take, drop, ℕ, zero, suc, refl, ap, ◌∙◌, add-one, Some, slice_get, slice_index_or}
use Rattle.std.proofs.lemmas.List.{drop-drop}
use Rattle.body_hold.specs.Held.{cut_by, total}

-- the bytes before the piece behind this one
pub total_step : (ns : List ℕ) (i : ℕ) → i < length ns → total (take (i + 1) ns) ≡ total (take i ns) + slice_index_or ns i 0
total_step [] i h = absurd (omega arith)
total_step (n ∷ ns) zero h = search rules
total_step (n ∷ ns) (suc i) h = let e = rw add-one at (total_step ns i (omega arith)) in rw add-one (omega arith)

pub total_within : (ns : List ℕ) (i : ℕ) → i < length ns → total (take i ns) + slice_index_or ns i 0 ≤ total ns
total_within [] i h = absurd (omega arith)
total_within (n ∷ ns) zero h = search rules
total_within (n ∷ ns) (suc i) h = let e = total_within ns i (omega arith) in omega arith

pub piece_is : (ns bytes : List ℕ) (i : ℕ) → i < length ns → slice_get (cut_by ns bytes) i ≡ Some (take (slice_index_or ns i 0) (drop (total (take i ns)) bytes))
piece_is [] bytes i h = absurd (omega arith)
piece_is (n ∷ ns) bytes zero h = refl
piece_is (n ∷ ns) bytes (suc i) h =
    piece_is ns (drop n bytes) i (omega arith) ∙ ap (λ rest. Some (take (slice_index_or ns i 0) rest)) (drop-drop (total (take i ns)) n bytes)
