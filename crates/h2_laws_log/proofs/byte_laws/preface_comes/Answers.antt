-- By the two tests of a greeting.
use Rattle.h2_laws_log.proofs.Uses.{uses-one}
use Rattle.h2_laws_log.proofs.Preface.{preface-goes-on, part-comes, preface-ends, other-comes}
use Rattle.h2_laws_log.proofs.byte_laws.preface_comes.Goals as goal

pub returns : goal.returns
returns c = record {
  part = part-comes;
  whole = preface-ends;
  other = other-comes;
  uses = λ k b bytes a r. uses-one b bytes a (preface-goes-on k a r);
}
