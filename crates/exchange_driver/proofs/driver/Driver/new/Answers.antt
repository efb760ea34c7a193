use Rattle.std.proofs.Common.{refl, []}
use Rattle.trace_model.specs.Links.{filter_of}
use Rattle.trace_model.proofs.Configured.{fits}
use Rattle.exchange_driver.proofs.driver.Driver.new.Goals as goal

pub invariant_of-result : goal.invariant_of-result
invariant_of-result c = record {
  config = filter_of c.args.config.now;
  history = [];
  stands = c.in_ok-exchange.ensures (filter_of c.args.config.now) (fits c.args.config.now);
  limits = refl;
  ready = λ e. tt;
}
