use Rattle.std.proofs.Common.{◌≡◌, ◌∙◌, true, sym, subst, ℕ, Result, List}
use Rattle.std.specs.Str.Parse.{ParsesUnsigned}
use Rattle.trace_format.specs.Lines.{number_of, is_decimal}
use Rattle.trace_format.proofs.Decimals.{digits_are_text, unparsed}
use Rattle.trace_format.proofs.numbers.number.Goals as goal

pub returns-in_default : goal.returns-in_default
returns-in_default c =
    let spelled : is_decimal c.args.text.now ≡ true = cc in
    absurd (c.in_default.ensures.cases.0 (digits_are_text c.args.text.now spelled))

pub returns-in_default-parse-2-clause-value : goal.returns-in_default-parse-2-clause-value
returns-in_default-parse-2-clause-value c =
    let spelled : is_decimal c.args.text.now ≡ true = cc in
    sym (unparsed c.args.most c.args.text.now c.parse.result c.in_default-parse.field-0 c.ranges.most.fits spelled (rw c.in-Ok.ensures.cases.0 at c.parse.ensures.value.0) c.in_default-parse.is)
