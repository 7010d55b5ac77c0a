use Rattle.meaning.proofs.Pairing.{pairs_lead_lem}
use Rattle.meaning.proofs.pairs_lead.Goals as goal

pub returns : goal.returns
returns c = pairs_lead_lem
