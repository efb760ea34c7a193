use Rattle.std.proofs.Common.{refl, sym, ◌∙◌, subst}
use Rattle.std.specs.Prelude.{◌≡◌, false}
use Rattle.http_model.specs.declared.types.Out.{Out}
use Rattle.http_model.specs.declared.types.Out.TheVariants as part
use Rattle.filter_model.specs.AllGiven.{is_nothing}
use Rattle.filter_model.specs.Half.{MayGive, becomes, progress}
use Rattle.exchange.proofs.GivingPart.{may_put, nothing_waits, part_waits}
use Rattle.exchange.proofs.flow.Flow.fill.Goals as goal

some_part : (out : Out) → (out ≡ part.Nothing → ⊥) → is_nothing out ≡ false
some_part (part.Head fields framing) f = refl
some_part (part.Data bytes) f = refl
some_part (part.Trailers fields) f = refl
some_part part.End f = refl
some_part part.Nothing f = absurd (f refl)

pub returns-in-Nothing-clause-filled : goal.returns-in-Nothing-clause-filled
returns-in-Nothing-clause-filled c s t o =
    nothing_waits s c.args.self.now c.next_out.new.self t (c.in_ok-out.ensures.still c.in-Nothing.is) (sym (c.is_empty.ensures s.flowed t.outlet) ∙ c.if-not-is_empty.false)
    (subst (MayGive 16_384 (becomes s.past) (progress s.past).taken) c.in-Nothing.is (c.in_ok-out.ensures.gives s.past t.half))

pub returns-in_default : goal.returns-in_default
returns-in_default c = record {
  marks = record { deadline = refl; extended = refl; lost = refl };
  filled = λ s t o.
      let k = sym (c.is_empty.ensures s.flowed t.outlet) ∙ c.if-not-is_empty.false in
      let m = c.in_ok-out.ensures.gives s.past t.half in
      part_waits s c.args.self.now c.in_ok-out.out c.next_out.new.self c.put.new.self t o k m (some_part c.in_ok-out.out c.in_default.not-Nothing) (c.in_ok-out.ensures.stands s.past t.half)
      (c.put.ensures s.flowed t.outlet (may_put s c.args.self.now c.in_ok-out.out t o k m));
  unchanged = tt;
}
