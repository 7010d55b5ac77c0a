use Rattle.std.proofs.Common.{◌≡◌, ◌+◌}
use Rattle.meaning.specs.Translation.{Code}
use Rattle.meaning.specs.Machine.{go, goes}
use Rattle.machine.specs.Shows.{seen, Ready}
use Rattle.machine.specs.Runs.{Holds}
use Rattle.machine.proofs.machine.Machine.run.Given as goal

-- so many steps on paper lead here
abbrev pub invariant-loop-done : goal.invariant-loop-done
invariant-loop-done g l =
    (l.self.steps ≡ l.initial.self.steps + l.done)
    × ((ps : Code) → Holds l.code ps → Ready g.F.ReadFrames.sound l.initial.self → Ready g.F.ReadFrames.sound l.self
    × (goes ps l.done (seen g.F.ReadFrames.frames l.initial.self) ≡ go (seen g.F.ReadFrames.frames l.self)))
