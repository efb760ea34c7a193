use Rattle.filter_model.proofs.ToldEntry.{entry_told, entry_made}
use Rattle.filter_model.proofs.ToldReading.{no_news}
use Rattle.filter_model.proofs.laws.entry_told.Goals as goal

pub returns : goal.returns
returns c = record { told = entry_told; made = entry_made; none = no_news }
