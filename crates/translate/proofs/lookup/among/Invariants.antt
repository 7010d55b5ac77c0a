use Rattle.translate.proofs.lookup.among.Given as goal

abbrev pub decreases-loop-n : goal.decreases-loop-n
decreases-loop-n l = l.rest.end
