use Rattle.std.proofs.Common.{sym, ◌∙◌, ap, subst}
use Rattle.std.specs.Prelude.{length, filter_map}
use Rattle.filter_model.specs.Account.{gathered}
use Rattle.filter_model.specs.Right.{account, ask_given, end_given}
use Rattle.filter_model.specs.View.{Given}
use Rattle.filter_model.specs.declared.calls.Side.TheVariants as side
use Rattle.http_model.specs.declared.types.Direction.TheVariants.{Request}
use Rattle.h1_outlet.proofs.Giving.{on_err}
use Rattle.exchange.specs.Answering.{unsettled}
use Rattle.exchange.specs.Stands.{AtRest, handed_out}
use Rattle.exchange.proofs.GivingPart.{same_story}
use Rattle.exchange.proofs.GivingTo.{done_is, flow_kept, flow_says, gives, nothing_may, open_is, other_response, request_kept, stands_given, took_none, took_some, waits_given}
use Rattle.exchange.proofs.Moving.{few_wait, request_moved}
use Rattle.exchange.proofs.exchange.Exchange.take_request.Goals as goal

pub returns-then-is_given-clause-may : goal.returns-then-is_given-clause-may
returns-then-is_given-clause-may g c h s e =
    let x = g.args.self.now in
    done_is c (account c h) side.Upstream e (sym (flow_says c Request (account c h) (handed_out (length (filter_map ask_given h)) x.ready) x.waiting x.request s.ties.request e g.is_given.result g.is_given.ensures) ∙ g.if-is_given.true)

pub returns-then-is_given-clause-stands : goal.returns-then-is_given-clause-stands
returns-then-is_given-clause-stands g c h s e =
    let x = g.args.self.now in
    record {
      right = (s.right, done_is c (account c h) side.Upstream e (sym (flow_says c Request (account c h) (handed_out (length (filter_map ask_given h)) x.ready) x.waiting x.request s.ties.request e g.is_given.result g.is_given.ensures) ∙ g.if-is_given.true));
      made = s.made;
      ties = s.ties;
    }

pub take-requires-clause-stands : goal.take-requires-clause-stands
take-requires-clause-stands g =
    let (c, h, s, e) = g.requires.stands in
    let x = g.args.self.now in
    let n = handed_out (length (filter_map ask_given h)) x.ready in
    let i = sym (flow_says c Request (account c h) n x.waiting x.request s.ties.request e g.is_given.result g.is_given.ensures) ∙ g.if-is_given.false in
    (s.ties.request.story, s.ties.request.stands, open_is c h Request n x.waiting x.request s.right s.ties.request e i)

pub returns-in_err-bytes-clause-failed : goal.returns-in_err-bytes-clause-failed
returns-in_err-bytes-clause-failed g c h s e =
    let x = g.args.self.now in
    let t = s.ties.request in
    let n = handed_out (length (filter_map ask_given h)) x.ready in
    let i = sym (flow_says c Request (account c h) n x.waiting x.request t e g.is_given.result g.is_given.ensures) ∙ g.if-is_given.false in
    let (s', z, k) = g.in_err-bytes.ensures.kept t.story t.stands (open_is c h Request n x.waiting x.request s.right t e i) in
    on_err g.from_residual.result
    (record { right = (s.right, tt); made = record { sizes = s.made.sizes; settings = s.made.settings }; ties = request_kept c (account c h) (length (filter_map ask_given h)) (filter_map end_given h) x g.take.new.self s.ties (flow_kept c Request (account c h) n x.waiting x.request g.take.new.self t s' z k g.take.ensures.marks) })

pub returns-in_default-clause-may : goal.returns-in_default-clause-may
returns-in_default-clause-may g c h s e =
    let x = g.args.self.now in
    let t = s.ties.request in
    let n = handed_out (length (filter_map ask_given h)) x.ready in
    let i = sym (flow_says c Request (account c h) n x.waiting x.request t e g.is_given.result g.is_given.ensures) ∙ g.if-is_given.false in
    let k = took_none g.args.max t.story g.in_ok-bytes.field-0 g.take.new.self g.in_default.not-Some (g.in_ok-bytes.ensures.took t.story t.stands (open_is c h Request n x.waiting x.request s.right t e i)) in
    nothing_may c h side.Upstream n x.waiting x.request s.right t e i k.0

pub returns-in_default-clause-stands : goal.returns-in_default-clause-stands
returns-in_default-clause-stands g c h s e =
    let x = g.args.self.now in
    let t = s.ties.request in
    let n = handed_out (length (filter_map ask_given h)) x.ready in
    let i = sym (flow_says c Request (account c h) n x.waiting x.request t e g.is_given.result g.is_given.ensures) ∙ g.if-is_given.false in
    let k = took_none g.args.max t.story g.in_ok-bytes.field-0 g.take.new.self g.in_default.not-Some (g.in_ok-bytes.ensures.took t.story t.stands (open_is c h Request n x.waiting x.request s.right t e i)) in
    record {
      right = (s.right, nothing_may c h side.Upstream n x.waiting x.request s.right t e i k.0);
      made = record { sizes = s.made.sizes; settings = s.made.settings };
      ties = request_kept c (account c h) (length (filter_map ask_given h)) (filter_map end_given h) x g.take.new.self s.ties (flow_kept c Request (account c h) n x.waiting x.request g.take.new.self t t.story k.1 (same_story t.story) g.take.ensures.marks);
    }

pub overflow_sub-made : goal.overflow_sub-made
overflow_sub-made g =
    let (c, h, s, e) = g.requires.stands in
    let x = g.args.self.now in
    let t = s.ties.request in
    let n = handed_out (length (filter_map ask_given h)) x.ready in
    let i = sym (flow_says c Request (account c h) n x.waiting x.request t e g.is_given.result g.is_given.ensures) ∙ g.if-is_given.false in
    let k = took_some g.args.max t.story g.in_ok-bytes.field-0 g.in-Some.bytes g.take.new.self g.in-Some.is (g.in_ok-bytes.ensures.took t.story t.stands (open_is c h Request n x.waiting x.request s.right t e i)) in
    (gives c h side.Upstream n g.args.max x.waiting x.request g.take.new.self g.in-Some.bytes g.unhanded-before.result g.unhanded.result g.asks_out-idle.result s.right t e i k g.take.ensures.marks g.unhanded-before.ensures g.unhanded.ensures g.asks_out-idle.ensures).less

pub request_asked-requires : goal.request_asked-requires
request_asked-requires g =
    let (c, h, s, e) = g.requires.stands in
    let x = g.args.self.now in
    let t = s.ties.request in
    let n = handed_out (length (filter_map ask_given h)) x.ready in
    let i = sym (flow_says c Request (account c h) n x.waiting x.request t e g.is_given.result g.is_given.ensures) ∙ g.if-is_given.false in
    let k = took_some g.args.max t.story g.in_ok-bytes.field-0 g.in-Some.bytes g.take.new.self g.in-Some.is (g.in_ok-bytes.ensures.took t.story t.stands (open_is c h Request n x.waiting x.request s.right t e i)) in
    let m = gives c h side.Upstream n g.args.max x.waiting x.request g.take.new.self g.in-Some.bytes g.unhanded-before.result g.unhanded.result g.asks_out-idle.result s.right t e i k g.take.ensures.marks g.unhanded-before.ensures g.unhanded.ensures g.asks_out-idle.ensures in
    few_wait c Request _ (account c h) _ (length (filter_map ask_given h)) x.order x.unsent _ m.onward
    (waits_given c h side.Upstream g.in-Some.bytes (length (filter_map ask_given h)) (filter_map end_given h) x s.ties m.onward) m.own.grown

pub returns-clause-may : goal.returns-clause-may
returns-clause-may g c h s e =
    let x = g.args.self.now in
    let t = s.ties.request in
    let n = handed_out (length (filter_map ask_given h)) x.ready in
    let i = sym (flow_says c Request (account c h) n x.waiting x.request t e g.is_given.result g.is_given.ensures) ∙ g.if-is_given.false in
    let k = took_some g.args.max t.story g.in_ok-bytes.field-0 g.in-Some.bytes g.take.new.self g.in-Some.is (g.in_ok-bytes.ensures.took t.story t.stands (open_is c h Request n x.waiting x.request s.right t e i)) in
    (gives c h side.Upstream n g.args.max x.waiting x.request g.take.new.self g.in-Some.bytes g.unhanded-before.result g.unhanded.result g.asks_out-idle.result s.right t e i k g.take.ensures.marks g.unhanded-before.ensures g.unhanded.ensures g.asks_out-idle.ensures).may

pub returns-clause-within : goal.returns-clause-within
returns-clause-within g =
    let (c, h, s, e) = g.requires.stands in
    let x = g.args.self.now in
    let t = s.ties.request in
    let n = handed_out (length (filter_map ask_given h)) x.ready in
    let i = sym (flow_says c Request (account c h) n x.waiting x.request t e g.is_given.result g.is_given.ensures) ∙ g.if-is_given.false in
    let k = took_some g.args.max t.story g.in_ok-bytes.field-0 g.in-Some.bytes g.take.new.self g.in-Some.is (g.in_ok-bytes.ensures.took t.story t.stands (open_is c h Request n x.waiting x.request s.right t e i)) in
    (gives c h side.Upstream n g.args.max x.waiting x.request g.take.new.self g.in-Some.bytes g.unhanded-before.result g.unhanded.result g.asks_out-idle.result s.right t e i k g.take.ensures.marks g.unhanded-before.ensures g.unhanded.ensures g.asks_out-idle.ensures).most

pub returns-clause-stands : goal.returns-clause-stands
returns-clause-stands g c h s e =
    let x = g.args.self.now in
    let t = s.ties.request in
    let n = handed_out (length (filter_map ask_given h)) x.ready in
    let i = sym (flow_says c Request (account c h) n x.waiting x.request t e g.is_given.result g.is_given.ensures) ∙ g.if-is_given.false in
    let k = took_some g.args.max t.story g.in_ok-bytes.field-0 g.in-Some.bytes g.take.new.self g.in-Some.is (g.in_ok-bytes.ensures.took t.story t.stands (open_is c h Request n x.waiting x.request s.right t e i)) in
    let m = gives c h side.Upstream n g.args.max x.waiting x.request g.take.new.self g.in-Some.bytes g.unhanded-before.result g.unhanded.result g.asks_out-idle.result s.right t e i k g.take.ensures.marks g.unhanded-before.ensures g.unhanded.ensures g.asks_out-idle.ensures in
    let b = unsettled c (Given side.Upstream g.in-Some.bytes) (account c h) in
    stands_given c h side.Upstream g.in-Some.bytes x g.settle_ending.new.self s e m.may
    (g.settle_ending.ensures.ends c b (length (filter_map ask_given h)) (filter_map end_given h)
    (subst (AtRest c b (length (filter_map ask_given h)) (filter_map end_given h)) (sym g.request_asked.ensures)
    (request_moved c (gathered (Given side.Upstream g.in-Some.bytes) (account c h)) (account c h) b (length (filter_map ask_given h)) (filter_map end_given h) x g.take.new.self x.order x.unsent
    _ _ s.ties m.onward s.made.settings.timeout_ms
    (waits_given c h side.Upstream g.in-Some.bytes (length (filter_map ask_given h)) (filter_map end_given h) x s.ties m.onward) m.own (other_response g.in-Some.bytes (account c h)))))
    (g.settle_ending.ensures.settings ∙ ap (λ y. y.settings) g.request_asked.ensures)
