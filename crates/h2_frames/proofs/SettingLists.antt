-- Settings one by one.
use Rattle.std.proofs.Common.{arith, ◌≡◌, ◌≤◌, ℕ, zero, suc, ◌+◌, ◌<◌, ◌/◌, ◌*◌, ◌-◌, List, [], ◌∷◌, ◌++◌, length, drop, refl, ap, ◌∙◌, slice_index_or, length-drop, length-append}
use Rattle.std.proofs.lemmas.List.{drop-append-le}
use Rattle.std.proofs.Math.Seq.{drop-append-add}
use Rattle.std.specs.List.{flat_map}
use Rattle.h2_frames.specs.declared.frame.Setting.{Setting}
use Rattle.h2_frames.specs.Payloads.{setting_of, settings_of}
use Rattle.h2_frames.specs.Spelling.{setting_bytes}

sixth : (n : ℕ) → 6 ≤ n → n / 6 ≡ suc ((n - 6) / 6)
sixth n h = omega arith

pub one_more : (bytes : List ℕ) → 6 ≤ length bytes → settings_of (length bytes / 6) bytes ≡ setting_of bytes ∷ settings_of (length (drop 6 bytes) / 6) (drop 6 bytes)
one_more bytes h = rw (sixth (length bytes) h, length-drop 6 bytes) refl

pub none_left : (bytes : List ℕ) → length bytes < 6 → settings_of (length bytes / 6) bytes ≡ []
none_left bytes h = let e : length bytes / 6 ≡ 0 = omega arith in rw e refl

pub six_each : (list : List Setting) → length (flat_map setting_bytes list) ≡ 6 * length list
six_each [] = refl
six_each (s ∷ list) = length-append (setting_bytes s) (flat_map setting_bytes list) ∙ (let e = six_each list in omega arith)

-- the bytes from one of a setting on are the rest of that setting and others
pub settings_from : (list : List Setting) (index within : ℕ) (d : Setting) → index < length list → within ≤ 6
    → (rest : List ℕ) × (drop (index * 6 + within) (flat_map setting_bytes list) ≡ drop within (setting_bytes (slice_index_or list index d)) ++ rest)
settings_from [] index within d h w = absurd (omega arith)
settings_from (s ∷ list) zero within d h w =
    let place : zero * 6 + within ≡ within = omega arith in (
      flat_map setting_bytes list,
      ap (λ (n : ℕ). drop n (flat_map setting_bytes (s ∷ list))) place
          ∙ drop-append-le within (setting_bytes s) (flat_map setting_bytes list) w,
    )
settings_from (s ∷ list) (suc index) within d h w =
    let r = settings_from list index within d (omega arith) w in
    let place : suc index * 6 + within ≡ length (setting_bytes s) + (index * 6 + within) = omega arith in (
      r.0,
      ap (λ (n : ℕ). drop n (setting_bytes s ++ flat_map setting_bytes list)) place
          ∙ drop-append-add (setting_bytes s) (flat_map setting_bytes list) (index * 6 + within)
          ∙ r.1,
    )
