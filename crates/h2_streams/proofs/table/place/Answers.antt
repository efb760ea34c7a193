use Rattle.std.proofs.Common.{rules, nat_lt, arith}
use Rattle.std.proofs.lemmas.List.Sorted.{IsPartitionPoint-from_clause}
use Rattle.h2_streams.proofs.Places.{parted, is_below, isnt_below}
use Rattle.h2_streams.proofs.table.place.Goals as goal

pub returns-clause-below : goal.returns-clause-below
returns-clause-below c k d l =
    let point = IsPartitionPoint-from_clause (λ s. nat_lt s.id c.args.id) _ _ c.partition_point.ensures.partitioned (parted c.args.streams.now c.args.id c.requires) (λ a r q k. search rules) in
    is_below _ _ (point.0 k d (omega arith) l)

pub returns-clause-above : goal.returns-clause-above
returns-clause-above c k d l m =
    let point = IsPartitionPoint-from_clause (λ s. nat_lt s.id c.args.id) _ _ c.partition_point.ensures.partitioned (parted c.args.streams.now c.args.id c.requires) (λ a r q k. search rules) in
    isnt_below _ _ (point.1 k d l m)
