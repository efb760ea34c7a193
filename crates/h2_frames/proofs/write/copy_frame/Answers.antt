-- The bytes of SETTINGS and of GOAWAY.
use Rattle.std.proofs.Common.{arith, ◌≡◌, List, length, drop, ap, sym, ◌∙◌}
use Rattle.h2_frames.specs.declared.frame.Frame.{Frame}
use Rattle.h2_frames.specs.declared.frame.Setting.{Setting}
use Rattle.h2_frames.specs.Copied.{settings_bytes}
use Rattle.h2_frames.specs.Spelling.{spelling}
use Rattle.h2_frames.proofs.Copies.{copied_of}
use Rattle.h2_frames.proofs.Spelled.{settings_are, settings_length, goaway_is}
use Rattle.h2_frames.proofs.write.copy_frame.Goals as goal

pub copy_settings-requires-clause-there : goal.copy_settings-requires-clause-there
copy_settings-requires-clause-there c =
    let whole : length (spelling c.args.frame.now) ≡ length (settings_bytes c.in-Settings.list) = ap length (ap spelling c.in-Settings.is ∙ sym (settings_are c.in-Settings.list)) in
    let size = settings_length c.in-Settings.list in
    let same = ap length c.as_slice.ensures in
    omega arith

pub returns-in-Settings : goal.returns-in-Settings
returns-in-Settings c =
    copied_of _ _ _ _ _ _ (ap (λ (l : List Setting). drop c.args.at (settings_bytes l)) c.as_slice.ensures
    ∙ ap (drop c.args.at) (settings_are c.in-Settings.list)
    ∙ ap (λ (f : Frame). drop c.args.at (spelling f)) (sym c.in-Settings.is)) c.copy_settings.ensures

pub returns-in-GoAway : goal.returns-in-GoAway
returns-in-GoAway c =
    copied_of _ _ _ _ _ _ (ap (drop c.args.at) (sym (goaway_is c.in-GoAway.last c.in-GoAway.code))
    ∙ ap (λ (f : Frame). drop c.args.at (spelling f)) (sym c.in-GoAway.is)) c.copy_goaway.ensures
