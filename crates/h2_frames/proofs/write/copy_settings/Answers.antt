-- Of the head, or of one setting.
use Rattle.std.proofs.Common.{◌*◌, ◌-◌, ◌/◌, ◌%◌, ℕ, List, length, take, drop, slice_index_or, refl, ap, ◌∙◌}
use Rattle.std.proofs.lemmas.List.{take_rest}
use Rattle.h2_frames.specs.declared.frame.Setting.{Setting}
use Rattle.h2_frames.specs.Spelling.{setting_bytes}
use Rattle.h2_frames.proofs.Copies.{copied_of}
use Rattle.h2_frames.proofs.Spelled.{settings_head, settings_begin, settings_on}
use Rattle.h2_frames.proofs.write.copy_settings.Goals as goal

pub returns-then-at-lt-HEAD_LEN : goal.returns-then-at-lt-HEAD_LEN
returns-then-at-lt-HEAD_LEN c =
    let size : ℕ = 6 * length c.args.list.now in
    settings_begin c.args.list.now size c.args.at _ _ _ _ refl c.if-at-lt-HEAD_LEN.true
    (copied_of _ _ _ _ _ _ (ap (λ (h : List ℕ). take (9 - c.args.at) (drop c.args.at h)) c.head-head.ensures ∙ take_rest (settings_head size) c.args.at) c.copy_into.ensures)

pub returns : goal.returns
returns c =
    let d : Setting = record { identifier = 0; value = 0 } in
    let place : ℕ = (c.args.at - 9) % 6 in
    let setting : Setting = slice_index_or c.args.list.now ((c.args.at - 9) / 6) d in
    settings_on c.args.list.now c.args.at d _ _ _ _ c.if-at-lt-HEAD_LEN.false c.requires.there
    (copied_of _ _ _ _ _ _ (ap (λ (b : List ℕ). take (6 - place) (drop place b)) c.setting_bytes-setting.ensures ∙ take_rest (setting_bytes setting) place) c.copy_into-2.ensures)
