use Rattle.filter_model.proofs.BodyWithin.{read_gains}
use Rattle.filter_model.proofs.EntryFits.{entry_fits, is_short}
use Rattle.filter_model.proofs.FitUntil.{entry_until, fit_until}
use Rattle.filter_model.proofs.NewsFit.{news_fit}
use Rattle.filter_model.proofs.laws.news_fit.Goals as goal

pub returns : goal.returns
returns c = record { fit = news_fit; along = entry_fits; until_over = fit_until; along_until = entry_until; short = is_short; grows = read_gains }
