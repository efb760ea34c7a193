-- The first gap that doesn't end below the number decides.
use Rattle.std.proofs.Common.{rules, arith, nat_lt, sym, ◌<◌, ℕ, length, slice_index_or}
use Rattle.std.proofs.lemmas.List.Sorted.{IsPartitionPoint-from_clause}
use Rattle.h2_model.specs.declared.gap.Gap.{Gap}
use Rattle.h2_streams.proofs.Places.{is_below, isnt_below}
use Rattle.h2_streams.proofs.Gaps.{parted, all_below, first_not_below}
use Rattle.h2_streams.proofs.numbers.is_within.Goals as goal

pub returns-then-at-gaps : goal.returns-then-at-gaps
returns-then-at-gaps c =
    let point = IsPartitionPoint-from_clause (λ g. nat_lt g.last c.args.id) _ _ c.partition_point-at.ensures.partitioned (parted c.args.gaps.now c.args.id c.requires) (λ a r q k. search rules) in
    let lower : (k : ℕ) (d : Gap) → k < c.partition_point-at.result → (slice_index_or c.args.gaps.now k d).last < c.args.id = λ k d l. is_below _ _ (point.0 k d (omega arith) l) in
    sym (all_below c.args.gaps.now c.args.id c.partition_point-at.result lower (search rules))

pub returns : goal.returns
returns c =
    let point = IsPartitionPoint-from_clause (λ g. nat_lt g.last c.args.id) _ _ c.partition_point-at.ensures.partitioned (parted c.args.gaps.now c.args.id c.requires) (λ a r q k. search rules) in
    let lower : (k : ℕ) (d : Gap) → k < c.partition_point-at.result → (slice_index_or c.args.gaps.now k d).last < c.args.id = λ k d l. is_below _ _ (point.0 k d (omega arith) l) in
    let there : c.partition_point-at.result < length c.args.gaps.now = search rules in
    sym (first_not_below c.args.gaps.now c.args.id c.partition_point-at.result _ c.requires there lower (isnt_below _ _ (point.1 c.partition_point-at.result _ (omega arith) there)))
