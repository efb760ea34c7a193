-- Bytes of frames with equal parts, and of SETTINGS and GOAWAY.
use Rattle.std.proofs.Common.{arith, ◌≡◌, ◌≤◌, ◌<◌, ◌++◌, ◌+◌, ◌-◌, ◌*◌, ◌/◌, ◌%◌, List, ◌∷◌, length, drop, slice_index_or, ℕ, refl, ap, sym, ◌∙◌, length-append}
use Rattle.std.specs.List.{flat_map}
use Rattle.std.proofs.lemmas.List.{drop-append-le}
use Rattle.std.proofs.Math.Seq.{drop-append-add}
use Rattle.std.specs.Int.{w32, to_be_bytes}
use Rattle.h2_frames.specs.declared.frame.Setting.{Setting}
use Rattle.h2_frames.specs.declared.frame.Frame.TheVariants as frame
use Rattle.h2_frames.specs.Spelling.{three, framed, setting_bytes, spelling}
use Rattle.h2_frames.specs.Copied.{IsCopied, settings_bytes, goaway_bytes}
use Rattle.h2_frames.proofs.Copies.{copied_more, copied_of}
use Rattle.h2_frames.proofs.SettingLists.{six_each, settings_from}

pub same_frame : (kind flags flags' id at at' : ℕ) (payload payload' : List ℕ) → flags ≡ flags' → at ≡ at' → payload ≡ payload' → drop at (framed kind flags id payload) ≡ drop at' (framed kind flags' id payload')
same_frame kind flags flags' id at at' payload payload' e f g =
    ap (λ (n : ℕ). drop at (framed kind n id payload)) e
    ∙ ap (λ (n : ℕ). drop n (framed kind flags' id payload)) f
    ∙ ap (λ (p : List ℕ). drop at' (framed kind flags' id p)) g

-- SETTINGS is its head and the settings
abbrev pub settings_head : ℕ → List ℕ
settings_head size = three size ++ 4 ∷ 0 ∷ to_be_bytes w32 0

settings_split : (list : List Setting) → settings_bytes list ≡ settings_head (6 * length list) ++ flat_map setting_bytes list
unfolding settings_bytes
settings_split list = ap (λ (n : ℕ). settings_head n ++ flat_map setting_bytes list) (six_each list)

pub settings_length : (list : List Setting) → length (settings_bytes list) ≡ 9 + 6 * length list
settings_length list =
    let whole = ap length (settings_split list) in
    let both = length-append (settings_head (6 * length list)) (flat_map setting_bytes list) in
    let six = six_each list in
    omega arith

-- what is copied of the head
pub settings_begin : (list : List Setting) (size at from : ℕ) (old new : List ℕ) (n : ℕ) → size ≡ 6 * length list → at < 9
    → IsCopied (drop at (settings_head size)) from old new n → IsCopied (drop at (settings_bytes list)) from old new n
settings_begin list size at from old new n e h copied =
    let whole : drop at (settings_bytes list) ≡ drop at (settings_head (6 * length list)) ++ flat_map setting_bytes list =
    ap (drop at) (settings_split list) ∙ drop-append-le at (settings_head (6 * length list)) (flat_map setting_bytes list) (omega arith) in
    copied_of _ _ from old new n (ap (λ (k : ℕ). drop at (settings_head k) ++ flat_map setting_bytes list) e ∙ sym whole)
    (copied_more (drop at (settings_head size)) (flat_map setting_bytes list) from old new n copied)

-- and of one setting
pub settings_on : (list : List Setting) (at : ℕ) (d : Setting) (from : ℕ) (old new : List ℕ) (n : ℕ) → 9 ≤ at → at < 9 + 6 * length list
    → IsCopied (drop ((at - 9) % 6) (setting_bytes (slice_index_or list ((at - 9) / 6) d))) from old new n → IsCopied (drop at (settings_bytes list)) from old new n
settings_on list at d from old new n low there copied =
    let r = settings_from list ((at - 9) / 6) ((at - 9) % 6) d (omega arith) (omega arith) in
    let place : at ≡ length (settings_head (6 * length list)) + ((at - 9) / 6 * 6 + (at - 9) % 6) = omega arith in
    let whole : drop at (settings_bytes list) ≡ drop ((at - 9) % 6) (setting_bytes (slice_index_or list ((at - 9) / 6) d)) ++ r.0 =
    ap (drop at) (settings_split list)
    ∙ ap (λ (k : ℕ). drop k (settings_head (6 * length list) ++ flat_map setting_bytes list)) place
    ∙ drop-append-add (settings_head (6 * length list)) (flat_map setting_bytes list) ((at - 9) / 6 * 6 + (at - 9) % 6)
    ∙ r.1 in
    copied_of _ _ from old new n (sym whole) (copied_more _ r.0 from old new n copied)

pub settings_are : (list : List Setting) → settings_bytes list ≡ spelling (frame.Settings list)
unfolding settings_bytes
settings_are list = refl

pub goaway_is : (last code : ℕ) → framed 7 0 0 (to_be_bytes w32 last ++ to_be_bytes w32 code) ≡ goaway_bytes last code
unfolding goaway_bytes
goaway_is last code = refl
