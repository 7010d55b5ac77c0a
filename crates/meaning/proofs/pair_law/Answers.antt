use Rattle.meaning.proofs.Whole.{pair_law_lem}
use Rattle.meaning.proofs.pair_law.Goals as goal

pub returns : goal.returns
returns c = pair_law_lem
