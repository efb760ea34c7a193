use Rattle.std.proofs.Common.{◌∙◌, sym, arith}
use Rattle.hpack_core.proofs.TableLemmas.{total_popped, cut_popped, cut_all}
use Rattle.hpack_core.proofs.table.evict.Goals as goal

pub size_of-size-requires : goal.size_of-size-requires
size_of-size-requires c =
    let t = total_popped c.loop-size.entries.items c.pop_back.new.self.items c.in-Some.oldest c.in-Some.ensures.items in
    omega (arith, t, c.loop-size.invariant.sum)

pub overflow_sub-size : goal.overflow_sub-size
overflow_sub-size c =
    let t = total_popped c.loop-size.entries.items c.pop_back.new.self.items c.in-Some.oldest c.in-Some.ensures.items in
    omega (arith, t, c.loop-size.invariant.sum, c.size_of-size.ensures)

pub loop-size-preserved : goal.loop-size-preserved
loop-size-preserved c =
    let t = total_popped c.loop-size.entries.items c.pop_back.new.self.items c.in-Some.oldest c.in-Some.ensures.items in
    record {
      sum = omega (arith, t, c.loop-size.invariant.sum, c.size_of-size.ensures);
      whole = cut_popped c.args.limit c.loop-size.entries.items c.pop_back.new.self.items c.in-Some.oldest c.in-Some.ensures.items (omega (arith, c.loop-size.invariant.sum)) ∙ c.loop-size.invariant.whole;
    }

pub returns-clause-kept : goal.returns-clause-kept
returns-clause-kept c = sym (cut_all c.args.limit c.loop-size.entries.items (omega (arith, c.loop-size.invariant.sum))) ∙ c.loop-size.invariant.whole
