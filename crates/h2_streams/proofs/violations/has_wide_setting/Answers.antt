-- What is kept of the live streams stands for them.
use Rattle.std.proofs.Common.{sym, ◌∙◌, ap}
use Rattle.std.specs.List.{list_any}
use Rattle.h2_model.specs.Violations.{has_wide_setting}
use Rattle.h2_streams.specs.Settings.{is_wide_among}
use Rattle.h2_streams.proofs.Accounted.{wide-list}
use Rattle.h2_streams.proofs.violations.has_wide_setting.Goals as goal

pub returns-in-Settings : goal.returns-in-Settings
returns-in-Settings c = λ a e.
    c.any_wide.ensures
    ∙ ap (list_any (is_wide_among c.args.streams.now.streams)) c.as_slice.ensures
    ∙ wide-list c.args.streams.now.streams a c.in-Settings.list e
    ∙ ap (has_wide_setting a) (sym c.in-Settings.is)
