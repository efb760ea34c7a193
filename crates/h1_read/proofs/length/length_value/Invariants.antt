use Rattle.std.proofs.Common.{◌≡◌, ◌^◌, take, min, true}
use Rattle.std.specs.List.{list_all}
use Rattle.std.specs.Char.{is_ascii_digit}
use Rattle.http_model.specs.Bytes.{decimal_value}
use Rattle.h1_read.proofs.length.length_value.Given as goal

abbrev pub invariant-loop-digit : goal.invariant-loop-digit
invariant-loop-digit l = record {
  digits : list_all is_ascii_digit (take l.digit-index l.value) ≡ true;
  number : l.number ≡ min (decimal_value (take l.digit-index l.value)) (2 ^ 63);
}
