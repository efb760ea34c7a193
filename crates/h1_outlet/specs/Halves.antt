-- What goes out of a direction, on its way to a side.
use Rattle.std.specs.Prelude.{ℕ, List, []}
use Rattle.filter_model.specs.Half.{Past, parts}
use Rattle.h1_outlet.specs.Outlets.{Flowed}

-- the parts that were handed out behind this front, of which so many bytes were given
abbrev pub flow_of : Past → List ℕ → ℕ → Flowed
flow_of p front given = record {
  direction = p.direction;
  front = front;
  parts = parts p.steps;
  reply = [];
  given = given;
}
