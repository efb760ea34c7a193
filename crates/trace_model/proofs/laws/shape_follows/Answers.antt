use Rattle.trace_model.proofs.Shapes.{follows, text_follows}
use Rattle.trace_model.proofs.laws.shape_follows.Goals as goal

pub returns-clause-line : goal.returns-clause-line
returns-clause-line c = λ p q l lines d. follows p q l lines d

pub returns-clause-text : goal.returns-clause-text
returns-clause-text c = λ p q text lines t. text_follows p q text lines t
