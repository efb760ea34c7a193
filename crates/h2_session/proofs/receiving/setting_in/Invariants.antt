-- The last value among the settings so far.
use Rattle.std.proofs.Common.{◌≡◌, drop}
use Rattle.h2_model.specs.Settings.{setting_in}
use Rattle.h2_session.proofs.receiving.setting_in.Given as goal

abbrev pub invariant-loop-setting : goal.invariant-loop-setting
invariant-loop-setting l = setting_in l.identifier l.list l.before ≡ setting_in l.identifier (drop l.setting-index l.list) l.value
