-- Frames in any cut.
use Rattle.std.proofs.Common.{arith, ◌≡◌, ℕ, ◌+◌, ◌<◌, ◌≤◌, List, [], ◌∷◌, ◌++◌, length, take, drop, refl, sym, ◌∙◌, ap, Option, Some, None, subst, ◌⊎◌, inl, inr, length-append, append_assoc, append-nil}
use Rattle.std.proofs.lemmas.List.{drop-append-le, take-append-drop, length-take-le, drop_all}
use Rattle.h2_frames.specs.declared.frame.Frame.{Frame}
use Rattle.h2_frames.specs.declared.reader.Step.{Step}
use Rattle.h2_frames.specs.declared.reader.Step.TheVariants.{More, Got}
use Rattle.h2_frames.specs.Headers.{header_of, header_fault}
use Rattle.h2_frames.specs.Frames.{Unfinished, Whole, Faulty, first, whole_or_faulty, Frames, StandsAtItsPlace}
use Rattle.h2_frames.specs.Runs.{FeedCall, FeedsAll, used, used_by, given, given_by}
use Rattle.h2_frames.proofs.First.{order, Reach, within_header, refused, within_payload, to_the_end, reach, header_front, first_short, first_refused, first_waits, first_whole, refused_by, waits_for, whole_by, told_something, first_stays, cut_at}

-- a frame's length, as its header says
record IsWhole (bytes : List ℕ) (n : ℕ) : Type 0 where
  nine : 9 ≤ length bytes
  right : header_fault (header_of bytes) ≡ None
  len : n ≡ 9 + (header_of bytes).size

len_is : (o : Option Frame) (k n : ℕ) (f : Frame) → whole_or_faulty o k ≡ Whole f n → n ≡ k
len_is None k n f e = absurd cc
len_is (Some g) k n f e = cc

whole_len : (bytes : List ℕ) (f : Frame) (n : ℕ) → first bytes ≡ Whole f n → IsWhole bytes n
whole_len bytes f n e = by (reach bytes)
  where
    by : Reach bytes → IsWhole bytes n
    by (within_header l) = let u : first bytes ≡ Unfinished = first_short bytes l in absurd cc
    by (refused l code r) = let u : first bytes ≡ Faulty code = first_refused bytes code l r in absurd cc
    by (within_payload l r s) = let u : first bytes ≡ Unfinished = first_waits bytes l r s in absurd cc
    by (to_the_end l r s) = record { nine = l; right = r; len = len_is _ _ n f (sym (first_whole bytes l r s) ∙ e) }

-- a frame is told by its own bytes
pub first_own : (xs ys : List ℕ) (f : Frame) (n : ℕ) → first (xs ++ ys) ≡ Whole f n → n ≤ length xs → first xs ≡ Whole f n
first_own xs ys f n e l =
    let w = whole_len (xs ++ ys) f n e in
    let long : 9 ≤ length xs = let q : n ≡ 9 + (header_of (xs ++ ys)).size = w.len in omega arith in
    let enough : 9 + (header_of (xs ++ ys)).size ≤ length xs = let q : n ≡ 9 + (header_of (xs ++ ys)).size = w.len in omega arith in
    sym (first_stays xs ys (λ u. told_something _ _ (sym (whole_by xs (header_of (xs ++ ys)) (header_front xs ys long) long w.right enough) ∙ u))) ∙ e

pub nothing : first [] ≡ Unfinished
nothing = first_short [] (omega arith)

from_here : (old : List ℕ) (calls : List FeedCall) (rest : List ℕ) → first old ≡ Unfinished → FeedsAll old calls rest → Frames (old ++ used calls) (given calls) rest
from_here old [] rest u r = subst (λ (b : List ℕ). (first b ≡ Unfinished) × (rest ≡ b)) (sym (append-nil old)) (u, r)
from_here old (c ∷ calls) rest u r = by c.answer r (λ next v q. from_here next calls rest v q)
  where
    by : (step : Step) → FeedsAll old (record { bytes = c.bytes; answer = step } ∷ calls) rest
        → ((next : List ℕ) → first next ≡ Unfinished → FeedsAll next calls rest → Frames (next ++ used calls) (given calls) rest)
        → Frames (old ++ (used_by c.bytes step ++ used calls)) (given_by step (given calls)) rest
    by More (next, fed, runs) ih =
        subst (λ (b : List ℕ). Frames b (given calls) rest) (append_assoc old c.bytes (used calls))
        (ih (old ++ c.bytes) fed.0 (subst (λ (k : List ℕ). FeedsAll k calls rest) fed.1 runs))
    by (Got f n) (next, fed, runs) ih =
        let xs : List ℕ = old ++ take n c.bytes in
        let xs_len : length xs ≡ length old + n = length-append old (take n c.bytes) ∙ ap (λ (k : ℕ). length old + k) (length-take-le n c.bytes fed.2) in
        let parts : old ++ c.bytes ≡ xs ++ drop n c.bytes = cut_at old c.bytes n in
        let own : first xs ≡ Whole f (length old + n) = first_own xs (drop n c.bytes) f (length old + n) (ap first (sym parts) ∙ fed.0) (omega arith) in
        let here : first (xs ++ used calls) ≡ Whole f (length old + n) = first_stays xs (used calls) (λ e. told_something (Some f) (length old + n) (sym own ∙ e)) ∙ own in
        let behind : drop (length old + n) (xs ++ used calls) ≡ used calls =
        drop-append-le (length old + n) xs (used calls) (omega arith) ∙ ap (λ (b : List ℕ). b ++ used calls) (drop_all (length old + n) xs (omega arith)) in
        let left : Frames (used calls) (given calls) rest = ih [] nothing (subst (λ (k : List ℕ). FeedsAll k calls rest) fed.3 runs) in
        subst (λ (b : List ℕ). Frames b (f ∷ given calls) rest) (append_assoc old (take n c.bytes) (used calls))
        (length old + n, here, subst (λ (b : List ℕ). Frames b (given calls) rest) (sym behind) left)

pub in_any_cut : (calls : List FeedCall) (rest : List ℕ) → FeedsAll [] calls rest → Frames (used calls) (given calls) rest
in_any_cut calls rest r = from_here [] calls rest nothing r

pub one_list : (bytes : List ℕ) (fs gs : List Frame) (rest other : List ℕ) → Frames bytes fs rest → Frames bytes gs other → (fs ≡ gs) × (rest ≡ other)
one_list bytes [] [] rest other a b = (refl, a.1 ∙ sym b.1)
one_list bytes [] (g ∷ gs) rest other a b = let u = a.0 in let w = b.1 in absurd cc
one_list bytes (f ∷ fs) [] rest other a b = let u = b.0 in let w = a.1 in absurd cc
one_list bytes (f ∷ fs) (g ∷ gs) rest other (n, w, a) (m, v, b) =
    let same : Whole f n ≡ Whole g m = sym w ∙ v in
    let f_is : f ≡ g = cc in
    let n_is : m ≡ n = cc in
    let e = one_list (drop n bytes) fs gs rest other a (subst (λ (k : ℕ). Frames (drop k bytes) gs other) n_is b) in
    (ap (λ (h : Frame). h ∷ fs) f_is ∙ ap (λ (hs : List Frame). g ∷ hs) e.0, e.1)

-- the header of a part that has it
part_header : (k : ℕ) (bytes : List ℕ) → 9 ≤ k → k ≤ length bytes → header_of bytes ≡ header_of (take k bytes)
part_header k bytes l s =
    ap header_of (sym (take-append-drop k bytes)) ∙ header_front (take k bytes) (drop k bytes) (rw (length-take-le k bytes s) l)

pub stands : (bytes : List ℕ) (code : ℕ) → first bytes ≡ Faulty code → StandsAtItsPlace bytes code
stands bytes code e = by (reach bytes)
  where
    before : 9 ≤ length bytes → header_fault (header_of bytes) ≡ None → 9 + (header_of bytes).size ≤ length bytes → (k : ℕ) → k < 9 + (header_of bytes).size → (k < 9) ⊎ (9 ≤ k) → first (take k bytes) ≡ Unfinished
    before l r s k h (inl q) = first_short (take k bytes) (rw (length-take-le k bytes (omega arith)) q)
    before l r s k h (inr q) = waits_for (take k bytes) (header_of bytes) (part_header k bytes q (omega arith)) (rw (length-take-le k bytes (omega arith)) q) r (rw (length-take-le k bytes (omega arith)) h)

    whole : 9 ≤ length bytes → header_fault (header_of bytes) ≡ None → 9 + (header_of bytes).size ≤ length bytes → first (take (9 + (header_of bytes).size) bytes) ≡ Faulty code
    whole l r s =
        let n : ℕ = 9 + (header_of bytes).size in
        let n_is : length (take n bytes) ≡ n = length-take-le n bytes s in
        let told = whole_by (take n bytes) (header_of bytes) (part_header n bytes (omega arith) s) (rw n_is (omega arith)) r (rw n_is (omega arith)) in
        sym (first_stays (take n bytes) (drop n bytes) (λ u. told_something _ _ (sym told ∙ u))) ∙ ap first (take-append-drop n bytes) ∙ e

    by : Reach bytes → StandsAtItsPlace bytes code
    by (within_header l) = let u : first bytes ≡ Unfinished = first_short bytes l in absurd cc
    by (refused l other r) =
        let told : first (take 9 bytes) ≡ Faulty other = refused_by (take 9 bytes) (header_of bytes) other (part_header 9 bytes (omega arith) l) (rw (length-take-le 9 bytes l) (omega arith)) r in
        inl (told ∙ sym (first_refused bytes other l r) ∙ e)
    by (within_payload l r s) = let u : first bytes ≡ Unfinished = first_waits bytes l r s in absurd cc
    by (to_the_end l r s) = inr (whole l r s, λ k h. before l r s k h (order k 9))
