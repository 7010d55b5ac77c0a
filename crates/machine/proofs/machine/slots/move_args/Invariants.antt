use Rattle.std.proofs.Common.{◌≡◌}
use Rattle.lang.specs.Stacks.{items, room}
use Rattle.meaning.specs.Machine.{moved}
use Rattle.machine.proofs.machine.slots.move_args.Given as goal

abbrev pub invariant-loop-offset : goal.invariant-loop-offset
invariant-loop-offset g l =
    (room l.values ≡ room l.initial.values)
    × (g.F.ReadFrames.sound l.initial.frames → g.F.ReadFrames.sound l.frames
    × (moved l.offset (items l.values) (g.F.ReadFrames.frames l.frames) ≡ moved l.count (items l.initial.values) (g.F.ReadFrames.frames l.initial.frames)))
