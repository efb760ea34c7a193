use Rattle.std.proofs.Common.{sym, ◌∙◌, ap, subst, ◌≡◌}
use Rattle.std.specs.Prelude.{ℕ, ◌-◌}
use Rattle.filter_model.specs.Half.{Past, Given, called, progress, course}
use Rattle.half_machine.specs.Calls.{MayGiven}
use Rattle.half_machine.specs.Choosing.{Holds}
use Rattle.half_machine.specs.Stands.{StandsFor}
use Rattle.half_machine.specs.declared.half.Half.{Half}
use Rattle.half_machine.proofs.Chosen.{tied}
use Rattle.half_machine.proofs.Told.{told, given_holds}
use Rattle.half_machine.proofs.half.Half.given.Goals as goal

-- the counts as the code computes them
counted : (p : Past) (x : Half) (n u k w : ℕ) → u ≡ x.counts.unasked - (n - x.counts.pieces) → k ≡ x.counts.pieces - n → w ≡ n → StandsFor p x → MayGiven p n
    → Holds p.config p.direction (record (progress p) { course = called (Given n) (course p) }) (record x { counts = record { unasked = u; pieces = k; waiting = x.counts.waiting - w } })
counted p x n u k w e f g s m =
    subst (λ z. Holds p.config p.direction (record (progress p) { course = called (Given n) (course p) }) (record x { counts = record { unasked = z; pieces = k; waiting = x.counts.waiting - w } })) (sym e)
    (subst (λ z. Holds p.config p.direction (record (progress p) { course = called (Given n) (course p) }) (record x {
      counts = record { unasked = x.counts.unasked - (n - x.counts.pieces); pieces = z; waiting = x.counts.waiting - w };
    })) (sym f)
    (subst (λ z. Holds p.config p.direction (record (progress p) { course = called (Given n) (course p) }) (record x {
      counts = record { unasked = x.counts.unasked - (n - x.counts.pieces); pieces = x.counts.pieces - n; waiting = x.counts.waiting - z };
    })) (sym g) (given_holds p x n s m)))

pub go_on-requires : goal.go_on-requires
go_on-requires c =
    let p = c.requires.0 in
    let x = c.args.self.now in
    tied p.config p.direction (record (progress p) { course = called (Given c.args.n) (course p) }) _
    (counted p x c.args.n c.saturating_sub-self.result c.saturating_sub-self-2.result c.from.result
    (c.saturating_sub-self.ensures ∙ ap (λ z. x.counts.unasked - z) c.saturating_sub-passed.ensures) c.saturating_sub-self-2.ensures c.from.ensures c.requires.1 c.requires.2)

pub returns : goal.returns
returns c p s m =
    let x = c.args.self.now in
    told p (Given c.args.n) c.go_on.new.self (c.go_on.ensures p.config p.direction (record (progress p) { course = called (Given c.args.n) (course p) })
    (counted p x c.args.n c.saturating_sub-self.result c.saturating_sub-self-2.result c.from.result
    (c.saturating_sub-self.ensures ∙ ap (λ z. x.counts.unasked - z) c.saturating_sub-passed.ensures) c.saturating_sub-self-2.ensures c.from.ensures s m))
