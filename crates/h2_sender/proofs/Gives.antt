-- Bytes given of the first frame.
use Rattle.std.proofs.Common.{arith, rules, ◌≡◌, ◌<◌, ◌-◌, true, false, List, [], ◌∷◌, length, ltb, eqb, ℕ, refl, ap}
use Rattle.std.specs.List.{All}
use Rattle.std.proofs.lemmas.List.Elements.{All-head}
use Rattle.h2_frames.specs.declared.frame.Frame.{Frame}
use Rattle.h2_model.specs.Queue.{Waiting, behind, whole_within}
use Rattle.h2_sender.specs.Queue.{HasLeft}

pub behind_none : (queue : List Waiting) → behind 0 queue ≡ queue
behind_none [] = refl
behind_none (w ∷ queue) = refl

pub none_whole : (queue : List Waiting) → All HasLeft queue → whole_within 0 queue ≡ []
none_whole [] all = refl
none_whole (w ∷ queue) all =
    let h : 0 < length w.left = All-head HasLeft w queue all in
    let t : ltb 0 (length w.left) ≡ true = search rules in
    rw t refl

-- all of its bytes
pub behind_all : (w : Waiting) (queue : List Waiting) (n : ℕ) → 0 < n → n ≡ length w.left → behind n (w ∷ queue) ≡ queue
behind_all w queue n some e =
    let s : eqb n 0 ≡ false = search rules in
    let t : ltb n (length w.left) ≡ false = search rules in
    let d : n - length w.left ≡ 0 = omega arith in
    rw s (rw t (rw d (behind_none queue)))

pub whole_all : (w : Waiting) (queue : List Waiting) (n : ℕ) → n ≡ length w.left → All HasLeft queue → whole_within n (w ∷ queue) ≡ w.frame ∷ []
whole_all w queue n e all =
    let t : ltb n (length w.left) ≡ false = search rules in
    let d : n - length w.left ≡ 0 = omega arith in
    rw t (rw d (ap (λ (more : List Frame). w.frame ∷ more) (none_whole queue all)))
