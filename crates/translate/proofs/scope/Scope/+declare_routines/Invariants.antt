use Rattle.translate.proofs.scope.Scope.+declare_routines.Given as goal

abbrev pub decreases-declare_routines : goal.decreases-declare_routines
decreases-declare_routines l = l.routines.end
