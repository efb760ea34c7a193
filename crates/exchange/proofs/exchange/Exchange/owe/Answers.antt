use Rattle.exchange.proofs.ReadingOwed.{may_owe, none_brought, none_owed, owed}
use Rattle.exchange.proofs.exchange.Exchange.owe.Goals as goal

pub returns-in-Some : goal.returns-in-Some
returns-in-Some c k h e y =
    let m = c.in-Some.message in
    let n = c.args.news.now in
    let x = c.args.self.now in
    let t = y.ties.response in
    owed k h e n x m c.is_head-self.result c.to_head.new.self c.owe_interim.new.outlet y c.in-Some.is c.is_head-self.ensures
    (c.to_head.ensures.stands t.story.source t.stands.reader (none_brought k h e n x m y c.in-Some.is))
    (c.owe_interim.ensures t.story.flowed t.stands.outlet (may_owe k h e n x m y c.in-Some.is))

pub returns-in_default : goal.returns-in_default
returns-in_default c k h e y = none_owed k h e c.args.news.now c.args.self.now y c.in_default.is
