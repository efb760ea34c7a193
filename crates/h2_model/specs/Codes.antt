-- Error codes: RFC 9113 section 7.
use Rattle.std.specs.Prelude.{ℕ, Bool, List, [], ◌∷◌, Option, Some, None, if◌then◌else◌}

abbrev pub protocol_error : ℕ
protocol_error = 1

abbrev pub flow_control_error : ℕ
flow_control_error = 3

abbrev pub stream_closed : ℕ
stream_closed = 5

abbrev pub refused_stream : ℕ
refused_stream = 7

abbrev pub compression_error : ℕ
compression_error = 9

abbrev pub enhance_your_calm : ℕ
enhance_your_calm = 11

-- the code of the first row of a table that holds
abbrev pub first_row : List (Bool × ℕ) → Option ℕ
first_row [] = None
first_row (row ∷ rows) = if row.0 then Some row.1 else first_row rows
