use Rattle.meaning.proofs.Whole.{runs_end_lem}
use Rattle.meaning.proofs.runs_end.Goals as goal

pub returns : goal.returns
returns c = runs_end_lem
