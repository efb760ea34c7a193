use Rattle.std.proofs.Common.{sym, ap, ◌∙◌, List, ℕ}
use Rattle.ext_top.specs.Scan.{stripped}
use Rattle.ext_top.proofs.Fronts.{stripped_some, stripped_none}
use Rattle.ext_top.proofs.scan.strip.Goals as goal

pub returns-in-Some : goal.returns-in-Some
returns-in-Some c = sym (ap (λ (l : List ℕ). stripped c.args.text.now l) c.in-Some.ensures ∙ stripped_some c.args.text.now c.in-Some.rest.now)

pub returns-in-None : goal.returns-in-None
returns-in-None c = sym (stripped_none c.args.text.now c.args.bytes.now c.in-None.ensures)
