use Rattle.translate.specs.Rooms.{KeepsNames}
use Rattle.translate.proofs.scope.Scope.declare_params.Given as goal

abbrev pub invariant-loop-i : goal.invariant-loop-i
invariant-loop-i l = KeepsNames l.initial.self l.self
