-- Copies of a list's first bytes.
use Rattle.std.proofs.Common.{arith, ◌≡◌, ◌≤◌, ◌+◌, ◌++◌, List, length, take, drop, ℕ, ap, sym, subst, ◌∙◌, length-append}
use Rattle.std.proofs.lemmas.List.{take-append-le}
use Rattle.h2_frames.specs.Copied.{IsCopied}

-- what is copied of a list's first part is copied of the list
pub copied_more : (bytes rest : List ℕ) (from : ℕ) (old new : List ℕ) (n : ℕ) → IsCopied bytes from old new n → IsCopied (bytes ++ rest) from old new n
copied_more bytes rest from old new n h =
    let there : n ≤ length bytes = h.there in
    let longer = length-append bytes rest in
    record {
      some = h.some;
      there = omega arith;
      fits = h.fits;
      copied = h.copied ∙ ap (λ (t : List ℕ). take from old ++ (t ++ drop (from + n) old)) (sym (take-append-le n bytes rest there));
    }

pub copied_of : (bytes whole : List ℕ) (from : ℕ) (old new : List ℕ) (n : ℕ) → bytes ≡ whole → IsCopied bytes from old new n → IsCopied whole from old new n
copied_of bytes whole from old new n e h = subst (λ (b : List ℕ). IsCopied b from old new n) e h
