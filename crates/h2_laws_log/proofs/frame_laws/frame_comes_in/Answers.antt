-- A frame comes in, by the law of its steps.
use Rattle.h2_laws_log.proofs.Arrives.{arrives}
use Rattle.h2_laws_log.proofs.frame_laws.frame_comes_in.Goals as goal

pub returns : goal.returns
returns c = record { state = λ f a s v. (arrives f a s v).state; sound = λ f a s v. (arrives f a s v).sound }
