use Rattle.std.proofs.Common.{rules, sym, ◌∙◌}
use Rattle.half_machine.proofs.AllHanded.{all_handed, none_handed}
use Rattle.half_machine.proofs.half.Half.is_all_handed.Goals as goal

pub returns-in_default : goal.returns-in_default
returns-in_default c p s = sym (none_handed p c.args.self.now s (search rules))

pub returns : goal.returns
returns c p s = c.is_handed-handed.ensures ∙ all_handed p c.args.self.now c.in-Some.framing s (search rules)
