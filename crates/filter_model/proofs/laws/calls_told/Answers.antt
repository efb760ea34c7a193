use Rattle.filter_model.proofs.ToldOthers.{sent_told, given_told, given_other}
use Rattle.filter_model.proofs.ToldRelease.{release_told}
use Rattle.filter_model.proofs.laws.calls_told.Goals as goal

pub returns : goal.returns
returns c = record { sent = sent_told; given = given_told; other = given_other; release = release_told }
