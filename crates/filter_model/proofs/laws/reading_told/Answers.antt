use Rattle.filter_model.proofs.ToldReading.{told_reading, reads_well}
use Rattle.filter_model.proofs.laws.reading_told.Goals as goal

pub returns : goal.returns
returns c = record { told = told_reading; well = reads_well }
