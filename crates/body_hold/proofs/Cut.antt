-- Pieces cut by their lengths.
use Rattle.std.proofs.Common.{rules, ◌≡◌, ◌+◌, ◌++◌, List, [], ◌∷◌, length, drop, ℕ, refl}
use Rattle.std.proofs.lemmas.List.{take-append-le, take-append-drop, length-drop, drop-append-le}
use Rattle.std.proofs.Math.Seq.{take-length}
use Rattle.body_hold.specs.Held.{cut_by, total, joined}

pub cut_count : (ns bytes : List ℕ) → length (cut_by ns bytes) ≡ length ns
cut_count [] bytes = refl
cut_count (n ∷ ns) bytes = let e = cut_count ns (drop n bytes) in cc

pub total_more : (ns : List ℕ) (n : ℕ) → total (ns ++ n ∷ []) ≡ total ns + n
total_more [] n = search rules
total_more (m ∷ ns) n = let e = total_more ns n in search rules

pub joined_cut : (ns bytes : List ℕ) → total ns ≡ length bytes → joined (cut_by ns bytes) ≡ bytes
joined_cut [] [] e = refl
joined_cut [] (b ∷ bytes) e = search rules
joined_cut (n ∷ ns) bytes e =
    let l = length-drop n bytes in
    let r = joined_cut ns (drop n bytes) (search rules) in
    let a = take-append-drop n bytes in cc

pub cut_more : (ns bytes piece : List ℕ) → total ns ≡ length bytes → cut_by (ns ++ length piece ∷ []) (bytes ++ piece) ≡ cut_by ns bytes ++ piece ∷ []
cut_more [] [] piece e = let t = take-length piece in cc
cut_more [] (b ∷ bytes) piece e = search rules
cut_more (n ∷ ns) bytes piece e =
    let l = length-drop n bytes in
    let r = cut_more ns (drop n bytes) piece (search rules) in
    let a = take-append-le n bytes piece (search rules) in
    let d = drop-append-le n bytes piece (search rules) in cc
