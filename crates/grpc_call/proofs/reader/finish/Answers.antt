use Rattle.std.proofs.Common.{arith, ◌≡◌, ◌∙◌, ◌-◌, ◌==◌, sym, ap, List, ℕ, [], ◌++◌, drop, length, vec_len}
use Rattle.grpc_call.proofs.Prefixes.{content_is}
use Rattle.grpc_call.proofs.Messages.{none_there}
use Rattle.grpc_call.proofs.reader.finish.Goals as goal

pub returns-then-is_empty : goal.returns-then-is_empty
returns-then-is_empty c =
    let all = content_is c.args.prefix.now.items c.args.message.now.items c.args.last.now c.requires.parted in
    let len : vec_len c.args.message.now ≡ length c.args.message.now.items = omega arith in
    let none : c.args.message.now.items ≡ [] = none_there c.args.message.now.items (c.if-is_empty.ensures ∙ ap (λ n. n == 0) len) in
    let at : c.len.result ≡ length c.args.prefix.now.items = omega (arith, c.len.ensures) in
    (c.in_ok-whole.ensures ∙ c.split_at.ensures.back ∙ ap (λ n. drop (5 - n) c.args.last.now) at ∙ ap (λ (m : List ℕ). m ++ drop (5 - length c.args.prefix.now.items) c.args.last.now) (sym none) ∙ sym all, c.clear.ensures.items, none)

pub returns : goal.returns
returns c =
    let all = content_is c.args.prefix.now.items c.args.message.now.items c.args.last.now c.requires.parted in
    let at : c.len.result ≡ length c.args.prefix.now.items = omega (arith, c.len.ensures) in (
      c.from_vec.ensures ∙ ap (λ v. v.items) c.replace.ensures.value ∙ c.in_ok-extend_from_slice.ensures.items
          ∙ ap (λ (m : List ℕ). c.args.message.now.items ++ m) (c.split_at.ensures.back ∙ ap (λ n. drop (5 - n) c.args.last.now) at) ∙ sym all,
      c.clear-2.ensures.items,
      ap (λ v. v.items) c.replace.ensures.after ∙ c.new.ensures.items,
    )
