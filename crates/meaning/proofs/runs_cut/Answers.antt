use Rattle.meaning.proofs.Whole.{runs_cut_lem}
use Rattle.meaning.proofs.runs_cut.Goals as goal

pub returns : goal.returns
returns c = runs_cut_lem
