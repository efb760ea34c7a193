-- Settings, against the streams that are kept.
use Rattle.std.specs.Prelude.{Bool, ◌&&◌, ◌||◌, ◌==◌, List, nat_lt, pos, ◌+ℤ◌}
use Rattle.std.specs.List.{list_any}
use Rattle.h2_frames.specs.declared.frame.Setting.{Setting}
use Rattle.h2_model.specs.declared.stream.Stream.{Stream}
use Rattle.h2_model.specs.Windows.{is_too_wide}

-- an initial window above 2^31 - 1, or one that pushes the window of one of these streams past it
abbrev pub is_wide_among : List Stream → Setting → Bool
is_wide_among streams s = (s.identifier == 4) && (nat_lt 2147483647 s.value
    || list_any (λ t. is_too_wide (pos s.value +ℤ t.credit)) streams)
