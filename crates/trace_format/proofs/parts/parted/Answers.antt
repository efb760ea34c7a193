use Rattle.std.proofs.Common.{◌≡◌, ℕ, List, Option, Some, take, drop, length, suc, add-one, sym, ap, ◌∙◌, arith, drop-drop}
use Rattle.std.proofs.lemmas.Grind.{common_steps}
use Rattle.trace_format.specs.Lines.{parted}
use Rattle.trace_format.proofs.Parted.{no_space_to, parted_by, parted_none, all_taken, behind_one}
use Rattle.trace_format.proofs.parts.parted.Goals as goal

pub returns-then-text-i-eq32-clause-before : goal.returns-then-text-i-eq32-clause-before
returns-then-text-i-eq32-clause-before c =
    let e = parted_by c.args.text.now c.loop-i.i c.loop-i-test.true c.loop-i.invariant c.if-text-i-eq32.true in
    c.split_at.ensures.front ∙ sym (ap (λ (p : List ℕ × Option (List ℕ)). p.0) e)

pub returns-then-text-i-eq32-clause-behind : goal.returns-then-text-i-eq32-clause-behind
returns-then-text-i-eq32-clause-behind c =
    let e = parted_by c.args.text.now c.loop-i.i c.loop-i-test.true c.loop-i.invariant c.if-text-i-eq32.true in
    let behind : c.split_at-then-text-i-eq32.result.1.now ≡ drop (suc c.loop-i.i) c.args.text.now =
    c.split_at-then-text-i-eq32.ensures.back ∙ ap (λ (l : List ℕ). drop 1 l) c.split_at.ensures.back ∙ behind_one c.args.text.now c.loop-i.i in
    ap (λ (l : List ℕ). Some l) behind ∙ sym (ap (λ (p : List ℕ × Option (List ℕ)). p.1) e)

pub loop-i-preserved : goal.loop-i-preserved
loop-i-preserved c = rw add-one (no_space_to c.args.text.now c.loop-i.i c.loop-i-test.true c.loop-i.invariant c.if-text-i-eq32.false)

pub returns-clause-before : goal.returns-clause-before
returns-clause-before c =
    let none = parted_none c.args.text.now (all_taken c.args.text.now c.loop-i.i (omega arith) c.loop-i.invariant) in
    sym (ap (λ (p : List ℕ × Option (List ℕ)). p.0) none)

pub returns-clause-behind : goal.returns-clause-behind
returns-clause-behind c =
    let none = parted_none c.args.text.now (all_taken c.args.text.now c.loop-i.i (omega arith) c.loop-i.invariant) in
    sym (ap (λ (p : List ℕ × Option (List ℕ)). p.1) none)
