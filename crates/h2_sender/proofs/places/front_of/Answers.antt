-- A frame that isn't free joins the front.
use Rattle.std.proofs.Common.{arith, rules, ◌≡◌, ◌<◌, length, sym, ap, subst, ◌∙◌}
use Rattle.h2_model.specs.Queue.{is_free}
use Rattle.h2_sender.specs.Places.{IsFront}
use Rattle.h2_sender.proofs.Front.{front_within, front_more}
use Rattle.h2_sender.proofs.places.front_of.Goals as goal

pub loop-i-init : goal.loop-i-init
loop-i-init c = (front_within c.args.front c.args.frames.now.items c.requires, c.requires)

pub loop-i-preserved : goal.loop-i-preserved
loop-i-preserved c =
    let there : c.loop-i.i < length c.args.frames.now.items = search rules in
    let here = ap is_free (sym c.index.ensures) ∙ sym c.is_free.ensures ∙ c.if-is_free.false in
    (omega arith, front_more c.loop-i.i c.args.frames.now.items c.index.result.now c.loop-i.invariant.1 there here)

pub returns : goal.returns
returns c =
    let all : c.loop-i.i ≡ c.len.result = search rules in
    subst (λ k. IsFront k c.args.frames.now.items) all c.loop-i.invariant.1
