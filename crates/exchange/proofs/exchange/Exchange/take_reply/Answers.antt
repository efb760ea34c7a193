use Rattle.std.proofs.Common.{subst}
use Rattle.filter_model.specs.Right.{account}
use Rattle.h1_outlet.specs.Outlets.{after_give}
use Rattle.h1_outlet.specs.Stands as outlet
use Rattle.h1_outlet.proofs.Giving.{on_err}
use Rattle.exchange.proofs.GivingBytes.{next_of}
use Rattle.exchange.proofs.GivingReply.{reply_done, reply_ends, reply_failed, reply_gives, reply_piece}
use Rattle.exchange.proofs.exchange.Exchange.take_reply.Goals as goal

pub returns-in_err-gave-clause-failed : goal.returns-in_err-gave-clause-failed
returns-in_err-gave-clause-failed g c h s r =
    let k = g.in_ok-write_reply.ensures.stands c h s in
    let t = k.ties.response in
    on_err g.from_residual-in_err-gave.result (reply_failed c h g.write_reply.new.self g.take.new.self k (g.in_err-gave.ensures.kept t.story.flowed t.stands.outlet))

pub returns-in-Some-clause-may : goal.returns-in-Some-clause-may
returns-in-Some-clause-may g c h s r =
    let k = g.in_ok-write_reply.ensures.stands c h s in
    let x = g.write_reply.new.self in
    let t = k.ties.response in
    reply_piece c (account c h) _ g.args.max x.waiting x.response g.in-Some.gave t r g.in_ok-write_reply.ensures.written (k.ties.alone r)
    (next_of g.args.max t.story.flowed g.in_ok-gave.field-0 g.in-Some.gave g.in-Some.is (g.in_ok-gave.ensures.gives t.story.flowed t.stands.outlet))

pub returns-in-Some-clause-within : goal.returns-in-Some-clause-within
returns-in-Some-clause-within g =
    let (c, h, s, r) = g.requires.stands in
    let t = (g.in_ok-write_reply.ensures.stands c h s).ties.response in
    (next_of g.args.max t.story.flowed g.in_ok-gave.field-0 g.in-Some.gave g.in-Some.is (g.in_ok-gave.ensures.gives t.story.flowed t.stands.outlet)).most

pub returns-in-Some-clause-stands : goal.returns-in-Some-clause-stands
returns-in-Some-clause-stands g c h s r =
    let k = g.in_ok-write_reply.ensures.stands c h s in
    let x = g.write_reply.new.self in
    let t = k.ties.response in
    let n = next_of g.args.max t.story.flowed g.in_ok-gave.field-0 g.in-Some.gave g.in-Some.is (g.in_ok-gave.ensures.gives t.story.flowed t.stands.outlet) in
    reply_gives c h g.args.max x g.in-Some.gave g.take.new.self k r
    (reply_piece c (account c h) _ g.args.max x.waiting x.response g.in-Some.gave t r g.in_ok-write_reply.ensures.written (k.ties.alone r) n) n
    (subst (λ o. outlet.StandsFor (after_give o t.story.flowed) g.take.new.self) g.in-Some.is (g.in_ok-gave.ensures.stands t.story.flowed t.stands.outlet))

pub returns-in-None-clause-may : goal.returns-in-None-clause-may
returns-in-None-clause-may g c h s r =
    let k = g.in_ok-write_reply.ensures.stands c h s in
    let x = g.write_reply.new.self in
    let t = k.ties.response in
    reply_done c (account c h) _ g.args.max x.waiting x.response g.in_ok-gave.field-0 t r g.in_ok-write_reply.ensures.written (k.ties.alone r) (g.in_ok-gave.ensures.gives t.story.flowed t.stands.outlet) g.in-None.is

pub returns-in-None-clause-stands : goal.returns-in-None-clause-stands
returns-in-None-clause-stands g c h s r =
    let k = g.in_ok-write_reply.ensures.stands c h s in
    let x = g.write_reply.new.self in
    let t = k.ties.response in
    reply_ends c h x g.take.new.self k
    (reply_done c (account c h) _ g.args.max x.waiting x.response g.in_ok-gave.field-0 t r g.in_ok-write_reply.ensures.written (k.ties.alone r) (g.in_ok-gave.ensures.gives t.story.flowed t.stands.outlet) g.in-None.is)
    (subst (λ o. outlet.StandsFor (after_give o t.story.flowed) g.take.new.self) g.in-None.is (g.in_ok-gave.ensures.stands t.story.flowed t.stands.outlet))
