use Rattle.std.proofs.Common.{refl, arith}
use Rattle.filter_model.specs.Step.{after}
use Rattle.exchange.proofs.Fresh.{fresh_request, fresh_response, sizes_of, kept_of}
use Rattle.exchange.proofs.exchange.Exchange.new.Goals as goal

pub returns : goal.returns
unfolding after
returns g c f = record {
  right = tt;
  made = record { sizes = sizes_of c g.args.config.now f g.requires; settings = kept_of c g.args.config.now g.settings.result f g.requires g.settings.ensures };
  ties = record {
    request = fresh_request c g.args.config.now g.request.result g.new.result g.in_ok-request_setup.field-0 g.in_ok-request.request f g.in_ok-request_setup.ensures g.in_ok-request.ensures
        g.request.ensures g.new.ensures;
    response = fresh_response c g.args.config.now g.response.result g.new-3.result g.in_ok-response_setup.field-0 g.in_ok-response.response f g.in_ok-response_setup.ensures g.in_ok-response.ensures
        g.response.ensures g.new-3.ensures;
    order = g.in_ok-order.ensures;
    unsent = refl;
    within = omega arith;
    ready = λ ask e. absurd cc;
    now = refl;
    to_head = refl;
    fate = tt;
    waiting = λ status e. absurd cc;
    stream = record { asked = refl; unopened = refl; closed = refl; ending = refl; ended = refl };
    alone = λ r. absurd r;
  };
}
