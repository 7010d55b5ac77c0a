use Rattle.meaning.proofs.Whole.{never_stuck_lem}
use Rattle.meaning.proofs.never_stuck.Goals as goal

pub returns : goal.returns
returns c = never_stuck_lem
