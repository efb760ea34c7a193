use Rattle.h1_message.specs.Source.{more}
use Rattle.h1_message.proofs.EndLaw.{is_news}
use Rattle.h1_message.proofs.reader.MessageReader.feed.Goals as goal

pub returns-clause-news : goal.returns-clause-news
returns-clause-news c s w =
    let g = c.in_ok-given.ensures.gives s w.stage in
    rw (c.news.ensures, w.ended) (is_news s (more c.args.bytes.now s) c.step.new.stage c.in_ok-given.given g.1 g.0)
