use Rattle.h1_message.specs.Source.{ended}
use Rattle.h1_message.proofs.StageLaw.{end_gives, end_stands}
use Rattle.h1_message.proofs.EndLaw.{is_news}
use Rattle.h1_message.proofs.reader.MessageReader.end.Goals as goal

pub returns-clause-news : goal.returns-clause-news
returns-clause-news c s w =
    rw (c.news.ensures, c.nothing.ensures)
    (is_news s (ended s) c.args.self.now.stage _ (end_gives s c.args.self.now.stage w.stage) (end_stands s c.args.self.now.stage w.stage))
