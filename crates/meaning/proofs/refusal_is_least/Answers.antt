use Rattle.meaning.proofs.Least.{refusal_is_least_lem}
use Rattle.meaning.proofs.refusal_is_least.Goals as goal

pub returns : goal.returns
returns c = refusal_is_least_lem
