-- A stream stands where the search ends, or nowhere.
use Rattle.std.proofs.Common.{rules, arith, ◌≡◌, ◌<◌, ℕ, List, length, nat_lt, ap, sym, ◌∙◌}
use Rattle.std.proofs.lemmas.List.{get_or_default}
use Rattle.std.proofs.lemmas.List.Sorted.{IsPartitionPoint-from_clause}
use Rattle.h2_sender.specs.declared.shares.Share.{Share}
use Rattle.h2_sender.proofs.Streams.{parted, is_below, isnt_below, strictly, at_place, gap_place}
use Rattle.h2_sender.proofs.shares.find.Goals as goal

pub returns-then-at-len-clause-gap : goal.returns-then-at-len-clause-gap
returns-then-at-len-clause-gap c =
    let at : ℕ = c.partition_point-at.result in
    let shares : List Share = c.args.shares.now.items in
    let point = IsPartitionPoint-from_clause (λ s. nat_lt s.stream c.args.id) _ _ c.partition_point-at.ensures.partitioned (parted c.args.id shares c.requires) (λ a r q k. search rules) in
    gap_place c.args.id at shares (omega arith) (λ k d l. is_below _ _ (point.0 k d (omega arith) l)) (λ d l. absurd (omega (arith, l, c.if-at-len.true)))

pub returns-then-index-id-clause-gap : goal.returns-then-index-id-clause-gap
returns-then-index-id-clause-gap c =
    let at : ℕ = c.partition_point-at.result in
    let shares : List Share = c.args.shares.now.items in
    let point = IsPartitionPoint-from_clause (λ s. nat_lt s.stream c.args.id) _ _ c.partition_point-at.ensures.partitioned (parted c.args.id shares c.requires) (λ a r q k. search rules) in
    gap_place c.args.id at shares (omega arith) (λ k d l. is_below _ _ (point.0 k d (omega arith) l))
    (λ d l. strictly _ _ (isnt_below _ _ (point.1 at d (omega arith) l)) (λ e. c.if-index-id.true (ap (λ s. s.stream) (sym (get_or_default shares at d c.index.result.now l ∙ sym c.index.ensures)) ∙ e)))

pub returns-clause-at : goal.returns-clause-at
returns-clause-at c =
    let at : ℕ = c.partition_point-at.result in
    let shares : List Share = c.args.shares.now.items in
    let point = IsPartitionPoint-from_clause (λ s. nat_lt s.stream c.args.id) _ _ c.partition_point-at.ensures.partitioned (parted c.args.id shares c.requires) (λ a r q k. search rules) in
    let within : at < length shares = search rules in
    let here : c.index.result.now.stream ≡ c.args.id = search rules in
    at_place c.args.id at shares within (λ k d l. is_below _ _ (point.0 k d (omega arith) l)) (λ d. ap (λ s. s.stream) (get_or_default shares at d _ within ∙ sym c.index.ensures) ∙ here)
