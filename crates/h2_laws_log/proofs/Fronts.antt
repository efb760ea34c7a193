-- What a front of some bytes begins with.
use Rattle.std.proofs.Common.{◌≡◌, ◌≢◌, ℕ, ◌+◌, ◌<◌, ◌≤◌, List, ◌++◌, length, refl, sym, ◌∙◌, Option, Some, None, arith}
use Rattle.h2_frames.specs.declared.frame.Frame.{Frame}
use Rattle.h2_frames.specs.Headers.{header_of}
use Rattle.h2_frames.specs.Frames.{First, first, Unfinished, Whole, Faulty, whole_or_faulty}
use Rattle.h2_frames.proofs.First.{Reach, within_header, refused, within_payload, to_the_end, reach, first_short, first_refused, first_waits, first_whole, first_stays}

-- where nothing is told of bytes, nothing is told of their front
pub unfinished-front : (xs ys : List ℕ) → first (xs ++ ys) ≡ Unfinished → first xs ≡ Unfinished
unfinished-front xs ys u = by (first xs) refl
  where
    stays : first xs ≢ Unfinished → first xs ≡ Unfinished
    stays n = sym (first_stays xs ys n) ∙ u

    by : (x : First) → first xs ≡ x → first xs ≡ Unfinished
    by Unfinished e = e
    by (Whole f n) e = stays (λ n. absurd cc)
    by (Faulty code) e = stays (λ n. absurd cc)

whole-fits : (xs : List ℕ) (f : Frame) (n : ℕ) → first xs ≡ Whole f n → n ≤ length xs
whole-fits xs f n e = by (reach xs)
  where
    counted : (o : Option Frame) (k : ℕ) → whole_or_faulty o k ≡ Whole f n → n ≡ k
    counted None k w = absurd cc
    counted (Some g) k w = cc

    by : Reach xs → n ≤ length xs
    by (within_header l) = let u : first xs ≡ Unfinished = first_short xs l in absurd cc
    by (refused l code r) = let u : first xs ≡ Faulty code = first_refused xs code l r in absurd cc
    by (within_payload l r s) = let u : first xs ≡ Unfinished = first_waits xs l r s in absurd cc
    by (to_the_end l r s) =
        let same : n ≡ 9 + (header_of xs).size = counted _ _ (sym (first_whole xs l r s) ∙ e) in omega arith

-- nothing is told of less than a whole frame
pub front-of-frame : (xs ys : List ℕ) (f : Frame) (n : ℕ) → first (xs ++ ys) ≡ Whole f n → length xs < n → first xs ≡ Unfinished
front-of-frame xs ys f n e l = by (first xs) refl
  where
    by : (x : First) → first xs ≡ x → first xs ≡ Unfinished
    by Unfinished u = u
    by (Whole g m) u =
        let same : first (xs ++ ys) ≡ first xs = first_stays xs ys (λ v. absurd cc) in
        let fits : n ≤ length xs = whole-fits xs f n (sym same ∙ e) in
        absurd (omega arith)
    by (Faulty code) u = let same : first (xs ++ ys) ≡ first xs = first_stays xs ys (λ v. absurd cc) in absurd cc
