use Rattle.std.proofs.Common.{◌≡◌, ℤ, pos, ◌++◌, ◌+◌, drop, length, ap, ◌∙◌, get_or, arith, rules, w32, w64, to_z, of_z}
use Rattle.std.specs.Int.RustNames.{FitsSigned}
use Rattle.std.proofs.lemmas.Int.{to_z-of_z}
use Rattle.pb_wire.specs.Canonical.{spelling}
use Rattle.ext_msgs.specs.Spelling.{numbered, some_signed}
use Rattle.ext_msgs.proofs.AgainNumbers.{wide, numbers_step, numbers_all}
use Rattle.ext_msgs.proofs.answer_writing.mode_numbers.Goals as goal

pub loop-mode-preserved : goal.loop-mode-preserved
loop-mode-preserved c =
    let zs = c.args.modes.now.numbers in
    let i = c.loop-mode.mode-index in
    let z : ℤ = get_or zs i (pos 0) in
    let six : length zs ≡ 6 = search rules in
    let fits : FitsSigned w32 z = search rules in
    let value : to_z w64 (of_z w64 c.from.result) ≡ z = ap (λ (x : ℤ). to_z w64 (of_z w64 x)) (c.from.ensures ∙ to_z-of_z w32 z fits) ∙ to_z-of_z w64 z (wide z fits) in
    record {
      told = ap (λ o. o ++ spelling (numbered (c.loop-mode.number + 1) (drop (i + 1) zs))) (c.in_ok-put_signed.ensures ∙ ap (λ (x : ℤ). c.loop-mode.message ++ spelling (some_signed c.loop-mode.number x)) value)
          ∙ numbers_step c.loop-mode.message _ c.loop-mode.number zs i (pos 0) (omega (arith, six, c.loop-mode-test.true)) c.loop-mode.invariant.told;
      count = omega (arith, c.loop-mode.invariant.count);
    }

pub returns : goal.returns
returns c =
    let zs = c.args.modes.now.numbers in
    let six : length zs ≡ 6 = search rules in
    c.done.ensures ∙ numbers_all c.loop-mode.message _ c.loop-mode.number zs c.loop-mode.mode-index (omega (arith, six, c.loop-mode-test.false)) c.loop-mode.invariant.told
