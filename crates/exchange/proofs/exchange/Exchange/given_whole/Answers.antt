use Rattle.std.proofs.Common.{refl}
use Rattle.http_model.specs.declared.types.Direction.TheVariants.{Request, Response}
use Rattle.exchange.specs.Stands.{handed_out}
use Rattle.exchange.proofs.Wholly.{says_given}
use Rattle.exchange.proofs.exchange.Exchange.given_whole.Goals as goal

pub returns : goal.returns
returns g c q r a n ends t l e =
    record {
      request = says_given c Request q a (handed_out n g.args.self.now.ready) g.args.self.now.waiting g.args.self.now.request t.request l refl g.is_given.result g.is_given.ensures;
      response = says_given c Response r a (handed_out n g.args.self.now.ready) g.args.self.now.waiting g.args.self.now.response t.response l e g.is_given-2.result g.is_given-2.ensures;
    }
