use Rattle.std.proofs.Common.{ap, subst, ◌∙◌}
use Rattle.std.specs.Prelude.{Ok}
use Rattle.grpc_call.specs.Reading.{ReadsData}
use Rattle.processor_core.specs.Calls.{Becomes, ServedCall, finished_by, reader_of, status_for}
use Rattle.processor_core.proofs.Reading.{as_before, fails, keeps, short_message, stays}
use Rattle.processor_core.proofs.call.Call.turn.Goals as goal

pub meet-requires : goal.meet-requires
meet-requires g c =
    let h = subst (λ o. ReadsData c.self.inside.reader c.args.bytes.now c.args.ends (Ok o) c.data.new.self) c.in-Ok-Some.field-0-is c.in-Ok-Some.ensures.told in
    short_message c.self.inside.reader c.args.bytes.now c.args.ends c.in-Ok-Some.message c.in-Ok-Some.used c.self.invariant.0 c.self.invariant.1 h.0

pub returns-in-Ok-None : goal.returns-in-Ok-None
returns-in-Ok-None g c = record {
  turned =
      keeps g.S.Stage.stands c.args.stages.now.seats.items c.args.self.now _ c.self.inside.reader c.data.new.self c.args.bytes.now c.args.ends
      (ap (λ b. record c.self.inside.reader { headed = b }) c.self.invariant.0 ∙ ap reader_of c.self.view_is)
      (subst (λ o. ReadsData c.self.inside.reader c.args.bytes.now c.args.ends (Ok o) c.data.new.self) c.in-Ok-None.field-0-is c.in-Ok-None.ensures.told)
      (ap (λ (k : ServedCall). record k { limit = c.data.new.self.limit; rest = c.data.new.self.rest }) c.self.view_is);
  used = tt;
}

pub returns : goal.returns
returns g c =
    let i = ap (λ b. record c.self.inside.reader { headed = b }) c.self.invariant.0 ∙ ap reader_of c.self.view_is in
    record {
      turned =
          fails g.S.Stage.stands c.args.stages.now.seats.items c.finish.new.stages.seats.items c.args.self.now c.finish.new.self c.self.inside.reader c.data.new.self c.args.bytes.now c.args.ends c.in-Err.fault
          i c.in-Err.ensures.told
          (subst (λ k. Becomes g.S.Stage.stands c.args.stages.now.seats.items k c.finish.new.stages.seats.items c.finish.new.self (λ f. finished_by (status_for c.in-Err.fault)))
          (ap (λ (k : ServedCall). record k { limit = c.data.new.self.limit; rest = c.data.new.self.rest }) c.self.view_is
          ∙ as_before c.args.self.now c.self.inside.reader c.data.new.self i (stays c.self.inside.reader c.data.new.self c.args.bytes.now c.args.ends c.in-Err.fault c.in-Err.ensures.told))
          c.finish.ensures);
      used = tt;
    }
