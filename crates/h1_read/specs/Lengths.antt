-- A length that is read.
use Rattle.std.specs.Prelude.{ℕ, Bool, ◌&&◌, List, Option, Some, None, if◌then◌else◌, ◌==◌}
use Rattle.http_model.specs.Bytes.{decimal_value}
use Rattle.http_model.specs.Heads.{is_length}

-- the number of the digits, where it is a length
unfoldable pub length_value : List ℕ → Option ℕ
length_value value = if is_length value then Some (decimal_value value) else None

-- a length of this number
unfoldable pub is_that_length : ℕ → List ℕ → Bool
is_that_length n value = is_length value && decimal_value value == n
