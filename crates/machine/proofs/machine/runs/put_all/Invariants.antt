use Rattle.std.proofs.Common.{◌≡◌, List, map, length, take, None}
use Rattle.lang.specs.declared.value.Slot.{Slot}
use Rattle.lang.specs.Values.{slot_of}
use Rattle.frames.specs.Frames.{none, ◌▷◌, fresh}
use Rattle.machine.proofs.Starts.{frame}
use Rattle.machine.proofs.machine.runs.put_all.Given as goal

-- the first slots hold the first values
abbrev pub invariant-loop-offset : goal.invariant-loop-offset
invariant-loop-offset g l =
    g.F.ReadFrames.sound l.initial.frames → g.F.ReadFrames.frames l.initial.frames ≡ none ▷ fresh (length l.values) None
    → g.F.ReadFrames.sound l.frames × (ss : List Slot) × (g.F.ReadFrames.frames l.frames ≡ frame ss) × (length ss ≡ length l.values) × (take l.offset ss ≡ take l.offset (map slot_of l.values))
