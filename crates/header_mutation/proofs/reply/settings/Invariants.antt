use Rattle.std.proofs.Common.{◌≡◌, drop, fold, filter}
use Rattle.header_mutation.specs.declared.rules.PartKind.TheVariants.{ResponseHead}
use Rattle.header_mutation.specs.Mutated.{items, is_of_reply, changed}
use Rattle.header_mutation.proofs.reply.settings.Given as goal

abbrev pub invariant-loop-place : goal.invariant-loop-place
invariant-loop-place l =
    fold changed l.after (filter is_of_reply (drop l.place (items ResponseHead l.mutation)))
    ≡ fold changed l.fn.fields (filter is_of_reply (items ResponseHead l.mutation))
