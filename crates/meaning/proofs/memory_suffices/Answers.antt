use Rattle.meaning.proofs.Whole.{memory_suffices_lem}
use Rattle.meaning.proofs.memory_suffices.Goals as goal

pub returns : goal.returns
returns c = memory_suffices_lem
