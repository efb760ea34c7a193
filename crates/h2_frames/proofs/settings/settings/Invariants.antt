use Rattle.std.proofs.Common.{◌≡◌, ◌++◌, ◌/◌, length}
use Rattle.h2_frames.specs.Payloads.{settings_of}
use Rattle.h2_frames.proofs.settings.settings.Given as goal

-- what was read and what is left make up the whole
abbrev pub invariant-settings : goal.invariant-settings
invariant-settings l = settings_of (length l.payload / 6) l.payload ≡ l.list ++ settings_of (length l.rest / 6) l.rest

abbrev pub decreases-settings : goal.decreases-settings
decreases-settings l = length l.rest
