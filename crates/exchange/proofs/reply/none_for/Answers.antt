use Rattle.std.proofs.Common.{refl}
use Rattle.exchange.proofs.Replies.{refused, not_memory}
use Rattle.exchange.proofs.reply.none_for.Goals as goal

pub returns-in-Memory-clause-none : goal.returns-in-Memory-clause-none
returns-in-Memory-clause-none c = tt

pub returns-in-Memory-clause-invalid : goal.returns-in-Memory-clause-invalid
returns-in-Memory-clause-invalid c = λ s m e. tt

pub returns-in-Bad : goal.returns-in-Bad
returns-in-Bad c = record { none = refl; invalid = λ s m e. refused s m c.args.fault (not_memory c.args.fault c.in-Bad.is) e }
