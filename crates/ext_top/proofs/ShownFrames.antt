-- Frames are shown one after another.
use Rattle.std.proofs.Common.{◌≡◌, ℕ, zero, suc, ◌<◌, ◌≤◌, List, [], ◌∷◌, ◌++◌, length, drop, length-drop, append_assoc, codes, refl, sym, ap, ◌∙◌, arith, ◌⊎◌, inl, inr}
use Rattle.h2_frames.specs.declared.frame.Frame.{Frame}
use Rattle.h2_frames.specs.Frames.{Unfinished, Whole, Faulty, first}
use Rattle.h2_frames.proofs.First.{first_short, order}
use Rattle.ext_top.specs.ShownFrames.{spaced, frame_line, shown_frames}

-- what ends the text
pub shown_rest : (most : ℕ) (bytes : List ℕ) → length bytes < most → first bytes ≡ Unfinished → shown_frames most bytes ≡ codes "rest" ++ spaced (length bytes)
shown_rest zero bytes l e = absurd (omega (arith, l))
shown_rest (suc k) bytes l e = rw e refl

pub shown_refused : (most : ℕ) (bytes : List ℕ) (code : ℕ) → length bytes < most → first bytes ≡ Faulty code → shown_frames most bytes ≡ codes "refused" ++ spaced code
shown_refused zero bytes code l e = absurd (omega (arith, l))
shown_refused (suc k) bytes code l e = rw e refl

pub shown_none : (most : ℕ) (bytes : List ℕ) → length bytes < most → length bytes ≡ 0 → shown_frames most bytes ≡ codes "rest" ++ spaced 0
shown_none most bytes l z = rw (sym z) (shown_rest most bytes l (first_short bytes (omega (arith, z))))

-- behind a frame there are fewer bytes
pub record Behind (most n : ℕ) (bytes : List ℕ) : Type 0 where
  pub less : ℕ
  pub fewer : length (drop n bytes) < less
  pub shown : shown_frames most bytes ≡ frame_line bytes ++ (10 ∷ shown_frames less (drop n bytes))

pub shown_next : (most n : ℕ) (bytes : List ℕ) (f : Frame) → length bytes < most → first bytes ≡ Whole f n → 0 < n → n ≤ length bytes → Behind most n bytes
shown_next zero n bytes f l e p q = absurd (omega (arith, l))
shown_next (suc k) n bytes f l e p q = record { less = k; fewer = rw (length-drop n bytes) (omega (arith, l, p, q)); shown = rw e refl }

pub has_nine : (bytes : List ℕ) (f : Frame) (n : ℕ) → first bytes ≡ Whole f n → 9 ≤ length bytes
has_nine bytes f n e = by (order (length bytes) 9)
  where
    by : (length bytes < 9) ⊎ (9 ≤ length bytes) → 9 ≤ length bytes
    by (inl l) = let u : first bytes ≡ Unfinished = first_short bytes l in absurd cc
    by (inr l) = l

pub frame_told : (text bytes : List ℕ) (n most : ℕ) (b : Behind most n bytes) → text ++ shown_frames most bytes ≡ (text ++ (frame_line bytes ++ 10 ∷ [])) ++ shown_frames b.less (drop n bytes)
frame_told text bytes n most b =
    ap (λ (t : List ℕ). text ++ t) (b.shown ∙ sym (append_assoc (frame_line bytes) (10 ∷ []) (shown_frames b.less (drop n bytes))))
    ∙ sym (append_assoc text (frame_line bytes ++ 10 ∷ []) (shown_frames b.less (drop n bytes)))
