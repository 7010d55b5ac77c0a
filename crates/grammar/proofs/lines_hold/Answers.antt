use Rattle.grammar.proofs.Picks as picks
use Rattle.grammar.proofs.lines_hold.Goals as goal

pub returns : goal.returns
returns c = picks.lines_hold_lem
