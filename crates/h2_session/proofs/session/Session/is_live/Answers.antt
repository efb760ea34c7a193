-- A stream that is kept is live.
use Rattle.std.proofs.Common.{◌∙◌, ap}
use Rattle.h2_model.specs.Calls.{now}
use Rattle.h2_laws_kept.specs.Kept.{Kept}
use Rattle.h2_session.proofs.Judged.{seen-streams}
use Rattle.h2_session.proofs.session.Session.is_live.Goals as goal

pub returns : goal.returns
returns c r h s =
    c.is_live.ensures (now r h) (ap (λ (k : Kept). k.state.streams) c.self.view_is ∙ seen-streams c.args.self.now.state (now r h) s.holds.state)
