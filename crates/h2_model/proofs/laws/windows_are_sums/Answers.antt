use Rattle.std.proofs.Common.{refl}
use Rattle.h2_model.specs.Windows.{window_from, connection_window, stream_window}
use Rattle.h2_model.proofs.laws.windows_are_sums.Goals as goal

pub returns : goal.returns
unfolding window_from connection_window stream_window
returns c = record { connection = λ a. refl; stream = λ id a. refl }
