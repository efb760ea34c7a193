use Rattle.filter_model.proofs.NeverOver.{over_told}
use Rattle.filter_model.proofs.OverTold.{entry_over, news_over, other_over, own_over}
use Rattle.filter_model.proofs.laws.over_told.Goals as goal

pub returns : goal.returns
returns c = record { call = over_told; news = news_over; entry = entry_over; own = own_over; other = other_over }
