use Rattle.std.proofs.Common.{arith, ◌≡◌, ◌-◌, ◌++◌, ℕ, List, length, take, sym, ap, ◌∙◌, subst}
use Rattle.h1_read.specs.HeadReading.{HeadState, IsFedHead}
use Rattle.h1_read.proofs.TurnLaw.{fed_got, kept_again}
use Rattle.h1_read.proofs.reader.feed_bytes.Goals as goal

pub returns-in-Ok-Got-clause-fed : goal.returns-in-Ok-Got-clause-fed
returns-in-Ok-Got-clause-fed c =
    let old = c.args.kept.now.items in
    let got = rw c.in-Ok-Got.field-0-is at c.in-Ok-Got.ensures in
    let all : c.as_slice.result.now ≡ old ++ c.args.bytes.now = c.as_slice.ensures.value ∙ c.in_ok-extend_from_slice.ensures.items in
    let fed = fed_got c.args.direction c.args.to_head c.as_slice.result.now old c.args.bytes.now c.in-Ok-Got.message c.in-Ok-Got.used all c.requires.begun got in
    let state : HeadState = record { direction = c.args.direction; to_head = c.args.to_head; so_far = old } in
    let before : c.len-before.result ≡ length old = omega (arith, c.len-before.ensures, c.args.kept.now.ok) in
    let kept : c.truncate.new.self.items ≡ old =
    c.truncate.ensures.items ∙ ap (λ n. take n c.extend_from_slice.new.self.items) before ∙ kept_again c.extend_from_slice.new.self.items old c.args.bytes.now c.in_ok-extend_from_slice.ensures.items in (
      subst (λ (n : ℕ). IsFedHead state c.args.bytes.now c.in-Ok-Got.message (c.in-Ok-Got.used - n)) (sym before) (record { in_range = fed.in_range; head = fed.message }),
      ap (λ (s : List ℕ). record { direction = c.args.direction; to_head = c.args.to_head; so_far = s }) kept,
    )
