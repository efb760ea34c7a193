-- How many bytes are written for SETTINGS.
use Rattle.std.proofs.Common.{arith, ◌≡◌, length, ap, sym, ◌∙◌}
use Rattle.h2_frames.specs.Copied.{settings_bytes}
use Rattle.h2_frames.specs.Spelling.{spelling}
use Rattle.h2_frames.proofs.Spelled.{settings_are, settings_length}
use Rattle.h2_frames.proofs.write.frame_len.Goals as goal

pub returns-in-Settings-clause-len : goal.returns-in-Settings-clause-len
returns-in-Settings-clause-len c =
    let whole : length (spelling c.args.frame.now) ≡ length (settings_bytes c.in-Settings.list) = ap length (ap spelling c.in-Settings.is ∙ sym (settings_are c.in-Settings.list)) in
    let size = settings_length c.in-Settings.list in
    omega arith
