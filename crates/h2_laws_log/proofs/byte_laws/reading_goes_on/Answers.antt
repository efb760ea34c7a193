-- By the kind of call.
use Rattle.h2_laws_log.proofs.Runs.{frames-run}
use Rattle.h2_laws_log.proofs.Keeps.{keeps-arrived, keeps-called}
use Rattle.h2_laws_log.proofs.Parts.{preface-goes-on-at}
use Rattle.h2_laws_log.proofs.byte_laws.reading_goes_on.Goals as goal

pub returns : goal.returns
returns c = record { frame = keeps-arrived; call = keeps-called; frames = frames-run; preface = preface-goes-on-at }
