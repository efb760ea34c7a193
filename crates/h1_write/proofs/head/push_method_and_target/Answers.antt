use Rattle.std.proofs.Common.{append_assoc}
use Rattle.h1_write.proofs.head.push_method_and_target.Goals as goal

pub returns : goal.returns
returns c =
    rw (
      c.in_ok-extend_from_slice-4.ensures.items,
      c.in_ok-extend_from_slice-3.ensures.items,
      c.in_ok-extend_from_slice-2.ensures.items,
      c.in_ok-extend_from_slice.ensures.items,
      c.value_in.ensures,
      c.value_in-2.ensures,
    ) (simp append_assoc)
