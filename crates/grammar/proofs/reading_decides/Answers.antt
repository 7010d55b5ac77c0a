use Rattle.grammar.proofs.Answers.{decides}
use Rattle.grammar.proofs.reading_decides.Goals as goal

pub returns : goal.returns
returns c = decides
