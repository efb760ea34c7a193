use Rattle.std.proofs.Common.{sym, ◌∙◌, ap, arith}
use Rattle.std.specs.Prelude.{length, filter_map, Some, None}
use Rattle.filter_model.specs.Right.{account, ask_due, ask_given, end_due, end_given}
use Rattle.filter_model.proofs.FewAsks.{few_unsent}
use Rattle.exchange.proofs.AskingNext.{ask_taken, due_is, next_due}
use Rattle.exchange.proofs.Turns.{get_within}
use Rattle.h1_outlet.proofs.Giving.{on_err}
use Rattle.exchange.proofs.exchange.Exchange.next_ask.Goals as goal

pub returns-in-None-clause-due : goal.returns-in-None-clause-due
returns-in-None-clause-due g c h s = due_is c h None (sym g.in-None.is ∙ g.in_ok-hand_out.ensures.ready c h s)

pub overflow_add-self : goal.overflow_add-self
overflow_add-self g =
    let (c, h, s, u) = g.requires in
    let t = (g.in_ok-hand_out.ensures.stands c h s).ties in
    let e = t.unsent in
    let l = t.within in
    let f = few_unsent c h in
    omega (arith, e, l, f)

pub returns-in_err-bytes-in-Some-clause-kept : goal.returns-in_err-bytes-in-Some-clause-kept
returns-in_err-bytes-in-Some-clause-kept g c h s = on_err g.from_residual-in_err-bytes-in-Some.result (g.in_ok-hand_out.ensures.stands c h s)

pub returns-clause-due : goal.returns-clause-due
returns-clause-due g c h s =
    ap Some g.in_ok-bytes-in-Some.ensures ∙ due_is c h (Some g.in-Some.ask) (sym g.in-Some.is ∙ g.in_ok-hand_out.ensures.ready c h s)

pub returns-clause-stands : goal.returns-clause-stands
returns-clause-stands g c h s =
    let n = length (filter_map ask_given h) in
    let k = g.in_ok-hand_out.ensures.stands c h s in
    let e = sym g.in-Some.is ∙ g.in_ok-hand_out.ensures.ready c h s in
    let i = ap Some g.in_ok-bytes-in-Some.ensures ∙ due_is c h (Some g.in-Some.ask) e in
    record {
      right = (k.right, next_due (ask_due c h) (end_due c h) g.in_ok-bytes-in-Some.bytes (sym i));
      made = record { sizes = k.made.sizes; settings = k.made.settings };
      ties = ask_taken c (account c h) n (filter_map end_given h) g.hand_out.new.self g.in-Some.ask k.ties g.in-Some.is (get_within n (account c h).made g.in-Some.ask (sym e));
    }
