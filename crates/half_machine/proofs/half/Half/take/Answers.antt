use Rattle.std.proofs.Common.{ap, sym, ◌∙◌}
use Rattle.std.specs.Prelude.{ℕ, ◌+◌, Bool, List, length, if◌then◌else◌}
use Rattle.body_hold.specs.Held.{Held}
use Rattle.body_hold.specs.Steps.{put}
use Rattle.half_machine.specs.Calls.{bytes_more}
use Rattle.half_machine.specs.declared.half.Half.{Half}
use Rattle.half_machine.proofs.half.Half.take.Goals as goal

abbrev result_by : Half → List ℕ → ℕ → ℕ → Held → Half
result_by x b n u h = record x { arrived = record x.arrived { bytes = n }; counts = record x.counts { unasked = u }; hold = h }

abbrev taken_by : Half → List ℕ → Bool → Half
taken_by x b q = result_by x b (bytes_more b x) (if q then x.counts.unasked else x.counts.unasked + length b) (if q then x.hold else put b x.hold)

pub returns-then-not-self : goal.returns-then-not-self
returns-then-not-self c =
    let x = c.args.self.now in
    let b = c.args.bytes.now in
    ap (λ n. result_by x b n (x.counts.unasked + length b) c.put.new.self) c.saturating_add-self.ensures
    ∙ ap (λ h. result_by x b (bytes_more b x) (x.counts.unasked + length b) h) c.put.ensures
    ∙ sym (ap (λ q. taken_by x b q) c.if-not-self.true)

pub returns-else-not-self : goal.returns-else-not-self
returns-else-not-self c =
    let x = c.args.self.now in
    let b = c.args.bytes.now in
    ap (λ n. result_by x b n x.counts.unasked x.hold) c.saturating_add-self.ensures
    ∙ sym (ap (λ q. taken_by x b q) c.if-not-self.false)
