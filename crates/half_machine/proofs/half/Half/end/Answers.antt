use Rattle.std.proofs.Common.{refl, ap, sym, ◌≡◌}
use Rattle.std.specs.Prelude.{Bool, true, false, not, List, [], ◌∷◌, IsTrue}
use Rattle.ext_msgs.specs.declared.lists.Field.{Field}
use Rattle.http_model.specs.Bytes.{is_empty}
use Rattle.filter_model.specs.Half.{End, called, progress, course}
use Rattle.half_machine.proofs.Chosen.{tied}
use Rattle.half_machine.proofs.Coming.{can_take, end_holds}
use Rattle.half_machine.proofs.Told.{told}
use Rattle.half_machine.proofs.half.Half.end.Goals as goal

empty_is : (q : Bool) (ts : List Field) → (IsTrue q → ts ≡ []) × (ts ≡ [] → IsTrue q) → not q ≡ not (is_empty ts)
empty_is true ts f = sym (ap (λ l. not (is_empty l)) (f.0 refl))
empty_is false [] f = absurd (clash (f.1 refl))
  where
    clash : false ≡ true → ⊥
    clash e = cc
empty_is false (t ∷ ts) f = refl

pub take-requires : goal.take-requires
take-requires c = can_take c.requires.0 c.args.self.now c.args.bytes.now c.requires.1 c.requires.2

pub go_on-requires : goal.go_on-requires
go_on-requires c =
    let p = c.requires.0 in
    let b = c.args.bytes.now in
    let ts = c.args.trailers in
    tied p.config p.direction (record (progress p) { course = called (End b ts) (course p) }) _
    (end_holds p c.args.self.now c.take.new.self b ts (not c.is_empty.result) c.requires.1 c.requires.2 c.take.ensures (empty_is c.is_empty.result ts c.is_empty.ensures))

pub returns : goal.returns
returns c p s m =
    let b = c.args.bytes.now in
    let ts = c.args.trailers in
    told p (End b ts) c.go_on.new.self (c.go_on.ensures p.config p.direction (record (progress p) { course = called (End b ts) (course p) })
    (end_holds p c.args.self.now c.take.new.self b ts (not c.is_empty.result) s m c.take.ensures (empty_is c.is_empty.result ts c.is_empty.ensures)))
