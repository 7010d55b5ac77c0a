use Rattle.translate.specs.Rooms.{KeepsNames}
use Rattle.translate.proofs.scope.Scope.start.Given as goal

abbrev pub invariant-loop-i : goal.invariant-loop-i
invariant-loop-i l = KeepsNames l.initial.self l.self
