use Rattle.filter_model.proofs.EndsUntold.{ends_made, ends_given, ended_given, ended_asks, ended_same}
use Rattle.filter_model.proofs.laws.untold.Goals as goal

pub returns : goal.returns
returns c = record { made = ends_made; given = ends_given; after_given = ended_given; after_asks = ended_asks; after_same = ended_same }
