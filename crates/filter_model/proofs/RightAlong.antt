-- In every history an exchange does right.
use Rattle.std.specs.Prelude.{List}
use Rattle.filter_model.specs.Config.{FilterConfig}
use Rattle.filter_model.specs.Right.{Call, IsHistory, Right}
use Rattle.filter_model.specs.declared.calls.Side.TheVariants.{Client, Upstream}
use Rattle.filter_model.proofs.AsksRight.{asks_right}
use Rattle.filter_model.proofs.EndsRight.{ends_right}
use Rattle.filter_model.proofs.GivenRight.{given_right}

pub right_along : (c : FilterConfig) (h : List Call) → IsHistory c h → Right c h
right_along c h s = record {
  upstream = given_right c h s Upstream;
  client = given_right c h s Client;
  asks = asks_right c h s;
  ends = ends_right c h s;
}
