use Rattle.exchange.proofs.GivingReply.{reply_written}
use Rattle.exchange.proofs.exchange.Exchange.write_reply.Goals as goal

pub returns-in_ok-bytes-clause-stands : goal.returns-in_ok-bytes-clause-stands
returns-in_ok-bytes-clause-stands g c h s = reply_written c h g.args.self.now g.in-Some.status g.in_ok-bytes.bytes g.reply.new.self s g.in-Some.is g.in_ok-bytes.ensures g.reply.ensures
