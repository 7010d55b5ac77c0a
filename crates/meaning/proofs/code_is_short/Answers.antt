use Rattle.meaning.proofs.Short.{code_is_short_lem}
use Rattle.meaning.proofs.code_is_short.Goals as goal

pub returns : goal.returns
returns c = code_is_short_lem
