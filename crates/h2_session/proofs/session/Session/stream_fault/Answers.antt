use Rattle.std.proofs.Common.{◌≡◌, sym, subst, None, Some, refl, Option}
use Rattle.h2_frames.specs.declared.frame.Frame.{Frame}
use Rattle.h2_model.specs.StreamFaults.{stream_fault}
use Rattle.h2_laws_kept.specs.Kept.{Kept}
use Rattle.h2_session.specs.Steps.{IsOn, IsWhole, IsPart}
use Rattle.h2_session.specs.declared.judging.Whole.{Whole}
use Rattle.h2_session.proofs.Judged.{fault-of-block, no-fault, plain}
use Rattle.h2_session.proofs.session.Session.stream_fault.Goals as goal

none : (w : Option Whole) → ((x : Whole) → w ≡ Some x → ⊥) → w ≡ None
none None n = refl
none (Some x) n = absurd (n x refl)

pub returns-in-Data-default : goal.returns-in-Data-default
unfolding stream_fault
returns-in-Data-default c = λ b o w.
    let on : IsOn _ b = subst (λ (l : Kept). IsOn l b) (sym c.self.view_is) o in
    subst (λ (f : Frame). c.fault_of_data.result ≡ stream_fault b f) (sym c.in-Data-default.is-0) (c.fault_of_data.ensures b on.streams)

pub returns-in-Window-default : goal.returns-in-Window-default
unfolding stream_fault
returns-in-Window-default c = λ b o w.
    let on : IsOn _ b = subst (λ (l : Kept). IsOn l b) (sym c.self.view_is) o in
    subst (λ (f : Frame). c.fault_of_update.result ≡ stream_fault b f) (sym c.in-Window-default.is-0) (c.fault_of_update.ensures b on.streams on.initial)

pub returns-in_default-Some : goal.returns-in_default-Some
returns-in_default-Some c = λ b o w.
    let on : IsOn _ b = subst (λ (l : Kept). IsOn l b) (sym c.self.view_is) o in
    let p : IsPart b c.args.frame.now c.in_default-Some.whole = subst (IsWhole b c.args.frame.now) c.in_default-Some.is-1 w in
    fault-of-block b c.args.frame.now _ _ _ (plain c.args.frame.now c.in_default-Some.not-Data-0 c.in_default-Some.not-Window-0) p.whole p.fields
    (c.fault_of_block.ensures b (record { stream = c.in_default-Some.whole.stream; bytes = p.bytes; last = c.in_default-Some.whole.last }) on.streams refl refl)

pub returns-in_default : goal.returns-in_default
returns-in_default c = λ b o w.
    no-fault b c.args.frame.now (plain c.args.frame.now c.in_default.not-Data-0 c.in_default.not-Window-0) (subst (IsWhole b c.args.frame.now) (none c.args.whole.now c.in_default.not-Some-1) w)
