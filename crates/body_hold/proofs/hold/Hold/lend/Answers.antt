use Rattle.std.proofs.Common.{rules, ◌≡◌, ◌+◌, length, take, ℕ, ap, sym, ◌∙◌, length-append}
use Rattle.std.proofs.lemmas.List.{length-take-le}
use Rattle.px_bytes.specs.Queue.{Queue}
use Rattle.body_hold.specs.Held.{total}
use Rattle.body_hold.proofs.Cut.{joined_cut, cut_count, cut_more, total_more}
use Rattle.body_hold.proofs.hold.Hold.lend.Goals as goal

pub shift-requires-clause-fits : goal.shift-requires-clause-fits
shift-requires-clause-fits c =
    let e = joined_cut c.self.inside.lengths.items c.self.inside.lent.bytes (search rules) in search rules

pub push_reserved-requires : goal.push_reserved-requires
push_reserved-requires c =
    let e = cut_count c.self.inside.lengths.items c.self.inside.lent.bytes in search rules

pub invariant_of-self : goal.invariant_of-self
invariant_of-self c =
    let counted = cut_count c.self.inside.lengths.items c.self.inside.lent.bytes in
    let added : total c.push_reserved.new.self.items ≡ length c.self.inside.lent.bytes + c.args.n =
    ap total c.push_reserved.ensures.items ∙ total_more c.self.inside.lengths.items c.args.n ∙ ap (λ (n : ℕ). n + c.args.n) c.self.invariant.whole in
    let joined_length : length c.shift.new.to.bytes ≡ length c.self.inside.lent.bytes + c.args.n =
    ap (λ (q : Queue). length q.bytes) c.shift.ensures.to
    ∙ length-append c.self.inside.lent.bytes (take c.args.n c.self.inside.hand.bytes)
    ∙ ap (λ (n : ℕ). length c.self.inside.lent.bytes + n) (length-take-le c.args.n c.self.inside.hand.bytes (search rules)) in
    record {
      hand_reserved = ap (λ (q : Queue). q.limit) c.shift.ensures.from ∙ c.self.invariant.hand_reserved;
      lent_reserved = ap (λ (q : Queue). q.limit) c.shift.ensures.to ∙ c.self.invariant.lent_reserved;
      lengths_reserved = search rules;
      out_reserved = c.self.invariant.out_reserved;
      few = search rules;
      whole = added ∙ sym joined_length;
    }

pub returns : goal.returns
returns c =
    let h = c.self.inside.hand.bytes in
    let l = length-take-le c.args.n h (search rules) in
    let e = cut_more c.self.inside.lengths.items c.self.inside.lent.bytes (take c.args.n h) (search rules) in search rules
