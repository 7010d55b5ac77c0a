use Rattle.grammar.proofs.Respell as respell
use Rattle.grammar.proofs.kinds_suffice.Goals as goal

pub returns : goal.returns
returns c = respell.kinds_suffice_lem
